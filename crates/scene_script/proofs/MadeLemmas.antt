-- The lines of the made script by their places.
use Rattle.std.proofs.Common.{◌≡◌, ◌∙◌, refl, ap, zero, suc, ◌+◌, ◌<◌, ℕ, List, [], ◌∷◌, drop, map, arith}
use Rattle.std.specs.Prelude.{codes, Ok}
use Rattle.std.specs.List.{range_with_len}
use Rattle.run_defs.specs.Made.{made_lines}
use Rattle.gui_base.specs.Names.{named}
use Rattle.run_defs.specs.Commands.{command_says}
use Rattle.run_defs.specs.Script.{line_says, parse}
use Rattle.run_defs.specs.declared.Line.TheVariants.{Frame}
use Rattle.scene_script.specs.MadeLines.{made_line_at}

drop_places : {X : Type 0} (f : ℕ → X) (a n i : ℕ) → i < n →
    drop i (map f (range_with_len a n)) ≡ f (a + i) ∷ drop (i + 1) (map f (range_with_len a n))
drop_places f a zero i lt = absurd (omega arith)
drop_places f a (suc n) zero lt = ap (λ k. f k ∷ map f (range_with_len (a + 1) n)) (omega arith)
drop_places f a (suc n) (suc i) lt =
    let place : a + 1 + i ≡ a + suc i = omega arith in
    let later : suc i + 1 ≡ suc (i + 1) = omega arith in
    rw later (drop_places f (a + 1) n i (omega arith) ∙ ap (λ k. f k ∷ drop (i + 1) (map f (range_with_len (a + 1) n))) place)

by_places : made_lines ≡ map made_line_at (range_with_len 0 1261)
unfolding made_lines made_line_at
by_places = refl

pub line_left : (place : ℕ) → place < 1261 → drop place made_lines ≡ made_line_at place ∷ drop (place + 1) made_lines
line_left place lt =
    let first : 0 + place ≡ place = omega arith in
    rw by_places (drop_places made_line_at 0 1261 place lt
    ∙ ap (λ k. made_line_at k ∷ drop (place + 1) (map made_line_at (range_with_len 0 1261))) first)

pub none_left : drop 1261 made_lines ≡ []
unfolding made_lines
none_left = refl

-- the line of a frame
pub frame_says : parse (codes "frame") ≡ Ok Frame
unfolding line_says command_says named
frame_says = refl
