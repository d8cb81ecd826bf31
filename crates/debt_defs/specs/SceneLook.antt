-- What is seen of a scene, as far as frames are concerned, whatever its objects are.
use Rattle.std.specs.Prelude.{◌≡◌, ℕ, Bool, false, ◌==◌, if◌then◌else◌, List, [], None, fold, ℤ}
use Rattle.std.specs.declared.option.Option.{Option}
use Rattle.std.specs.List.{list_any, flat_map}
use Rattle.gui_base.specs.declared.color.Rgb565.{Rgb565}
use Rattle.gui_base.specs.Area.{Rect}
use Rattle.gui_base.specs.Coats.{Dab, laid}
use Rattle.gui_base.specs.Color.{black}
use Rattle.scene_defs.specs.Shown.{Entry}
use Rattle.scene_defs.specs.Visible.{holds}

-- the look of a scene whose objects show items of this type
pub record SceneLook (I : Type 0) : Type 0 where
  -- the handles of what is shown, each before those below it, and what is painted of them, the lowest first
  pub order : List ℕ
  pub entries : List Entry
  -- where each object is seen, if something is seen of it
  pub visible : ℕ → Option Rect
  -- what each shows by itself, and its bars
  pub items : ℕ → List I
  pub bars : ℕ → List I
  -- what an entry lays on a pixel, the lowest first
  pub lays : Entry → ℤ → ℤ → List (Option Dab)

-- whether a handle is one of these
abbrev pub is_among : List ℕ → ℕ → Bool
is_among handles h = list_any (λ k. k == h) handles

-- nothing is seen of what is not shown
abbrev pub IsSceneLook : {I : Type 0} → SceneLook I → Type 0
IsSceneLook look = (h : ℕ) → is_among look.order h ≡ false → look.visible h ≡ None

-- what an entry lays on a pixel, where its object is seen
abbrev pub laid_by : {I : Type 0} → SceneLook I → ℤ → ℤ → Entry → List (Option Dab)
laid_by look x y e = if holds (look.visible e.handle) x y then look.lays e x y else []

-- all that is laid on a pixel, back to front
abbrev pub layers : {I : Type 0} → SceneLook I → ℤ → ℤ → List (Option Dab)
layers look x y = flat_map (laid_by look x y) look.entries

abbrev pub over : Rgb565 → Option Dab → Rgb565
over under dab = laid dab under

-- the colour of a pixel, over black
abbrev pub color_at : {I : Type 0} → SceneLook I → ℤ → ℤ → Rgb565
color_at look x y = fold over black (layers look x y)
