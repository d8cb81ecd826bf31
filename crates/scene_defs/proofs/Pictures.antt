-- A picture by its pixels.
use Rattle.std.proofs.Common.{◌≡◌, ◌∙◌, sym, ℕ, zero, suc, ◌+◌, ◌*◌, ◌/◌, ◌%◌, ◌<◌, List, [], ◌∷◌, length, length-append, arith, refl, get_or}
use Rattle.std.specs.Prelude.{pos}
use Rattle.std.proofs.lemmas.List.{same_lists, get_or_default}
use Rattle.std.proofs.lemmas.Grind.{common_steps, rows}
use Rattle.std.proofs.Math.Nat.{div-add-mod, mul_comm}
use Rattle.gui_base.specs.declared.color.Rgb565.{Rgb565}
use Rattle.gui_base.specs.Color.{black}
use Rattle.scene_defs.specs.Scene.{Scene}
use Rattle.scene_defs.specs.Picture.{each_below, paint, picture}

pub length-each_below : {A : Type 0} (n : ℕ) (f : ℕ → A) → length (each_below n f) ≡ n
length-each_below zero f = refl
length-each_below (suc n) f = omega (arith, length-append (each_below n f) (f n ∷ []), length-each_below n f)

pub get_or-each_below : {A : Type 0} (n : ℕ) (f : ℕ → A) (i : ℕ) (d : A) → i < n → get_or (each_below n f) i d ≡ f i
get_or-each_below zero f i d h = absurd (omega arith)
get_or-each_below (suc n) f i d h = grind (arith, common_steps, get_or-each_below n f i d, length-each_below n f)

-- the colours of a whole panel are the picture where each pixel is right
pub picture_from_pixels : (scene : Scene) (s : List Rgb565) → length s ≡ scene.limits.width * scene.limits.height →
    ((x y : ℕ) → x < scene.limits.width → y < scene.limits.height → get_or s (y * scene.limits.width + x) black ≡ paint scene (pos x) (pos y)) →
    s ≡ picture scene
picture_from_pixels scene s len each =
    let w = scene.limits.width in
    let h = scene.limits.height in
    same_lists s (picture scene) (len ∙ sym (length-each_below (w * h) _)) (λ k d lt.
    let in_panel : k < w * h = omega (arith, lt, len) in
    let in_row : k % w < w = grind (arith, rows) in
    let in_column : k / w < h = grind (arith, rows) in
    get_or_default s k d black lt
    ∙ (rw (mul_comm (k / w) w, div-add-mod k w) at (each (k % w) (k / w) in_row in_column)
    ∙ sym (get_or-each_below (w * h) (λ i. paint scene (pos (i % w)) (pos (i / w))) k d in_panel)))
