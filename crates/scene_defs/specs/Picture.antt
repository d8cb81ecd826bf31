-- The picture of a scene: what is shown is painted back to front, each pixel by itself.
use Rattle.std.specs.Prelude.{ℕ, zero, suc, ◌*◌, ◌/◌, ◌%◌, if◌then◌else◌, List, [], ◌∷◌, ◌++◌, fold, ℤ, pos}
use Rattle.gui_base.specs.declared.color.Rgb565.{Rgb565}
use Rattle.gui_base.specs.Color.{black}
use Rattle.scene_defs.specs.Scene.{Scene}
use Rattle.scene_defs.specs.Visible.{holds}
use Rattle.scene_defs.specs.Items.{lay}
use Rattle.scene_defs.specs.Shown.{Seen, painted}

-- the colour of a pixel after one entry is painted over it, where the entry is seen there
abbrev pub paint_seen : ℤ → ℤ → Rgb565 → Seen → Rgb565
paint_seen x y under s = if holds s.visible x y then fold (lay x y) under s.coats else under

-- the colour of a pixel, over black
abbrev pub paint : Scene → ℤ → ℤ → Rgb565
paint scene x y = fold (paint_seen x y) black (painted scene)

-- f at the numbers below n
abbrev pub each_below : {A : Type 0} → ℕ → (ℕ → A) → List A
each_below zero f = []
each_below (suc n) f = each_below n f ++ f n ∷ []

-- the colours of the panel, line by line
abbrev pub picture : Scene → List Rgb565
picture scene =
    each_below (scene.limits.width * scene.limits.height)
    (λ i. paint scene (pos (i % scene.limits.width)) (pos (i / scene.limits.width)))
