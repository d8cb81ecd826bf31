-- What a change of fonts or images does to `Fonts` and `Images`.
use Rattle.std.specs.Prelude.{◌≡◌, ℕ, ◌+◌, nat_lt, if◌then◌else◌, Some, None, OnOk, OnErr}
use Rattle.std.specs.declared.option.Option.{Option}
use Rattle.gui_base.specs.declared.limits.Pool.{Pool}
use Rattle.gui_base.specs.declared.limits.Pool.TheVariants as pool
use Rattle.gui_base.specs.declared.refusal.Refusal.{Refusal}
use Rattle.gui_base.specs.declared.refusal.Refusal.TheVariants.{Full}
use Rattle.gui_base.specs.Refusing.{first_of, result_of}
use Rattle.gui_font.specs.ImageSets.{ImageSet}
use Rattle.gui_font.specs.Sets.{FontSet, Answer}
use Rattle.scene_defs.specs.Assets.{AssetChange}

-- the first pool that has fewer spare slots than are needed
abbrev pub full_for : FontSet → ImageSet → (Pool → ℕ) → Option Refusal
full_for fonts images need =
    if nat_lt fonts.spare_fonts (need pool.Fonts) then Some (Full pool.Fonts)
    else if nat_lt fonts.spare_glyphs (need pool.Glyphs) then Some (Full pool.Glyphs)
    else if nat_lt fonts.spare_ink (need pool.Ink) then Some (Full pool.Ink)
    else if nat_lt images.spare_images (need pool.Images) then Some (Full pool.Images)
    else if nat_lt images.spare_pixels (need pool.Pixels) then Some (Full pool.Pixels) else None

module _ (fonts new_fonts : FontSet) (images new_images : ImageSet) where
  -- so many slots of each pool are taken, and so many come back
  pub record AreSlots (need freed : Pool → ℕ) : Type 0 where
    pub fonts_left : new_fonts.spare_fonts + need pool.Fonts ≡ fonts.spare_fonts + freed pool.Fonts
    pub glyphs_left : new_fonts.spare_glyphs + need pool.Glyphs ≡ fonts.spare_glyphs + freed pool.Glyphs
    pub ink_left : new_fonts.spare_ink + need pool.Ink ≡ fonts.spare_ink + freed pool.Ink
    pub images_left : new_images.spare_images + need pool.Images ≡ images.spare_images + freed pool.Images
    pub pixels_left : new_images.spare_pixels + need pool.Pixels ≡ images.spare_pixels + freed pool.Pixels

  pub record IsBuilt (change : AssetChange) : Type 0 where
    pub fonts_are : new_fonts.fonts ≡ change.fonts
    pub images_are : new_images.images ≡ change.images
    pub slots : AreSlots change.need (λ q. 0)

  -- a change is done as a whole, or refused with all as it was
  pub record IsAnswered (change : AssetChange) (answer : Answer) : Type 0 where
    pub answer_is : answer ≡ result_of (first_of change.tests (full_for fonts images change.need))
    pub done : OnOk answer (IsBuilt change)
    pub same_fonts : OnErr answer (new_fonts ≡ fonts)
    pub same_images : OnErr answer (new_images ≡ images)

  abbrev pub AreBuilt : Option AssetChange → Answer → Type 0
  AreBuilt None answer = Unit {0}
  AreBuilt (Some change) answer = IsAnswered change answer
