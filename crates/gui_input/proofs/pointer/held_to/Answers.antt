use Rattle.std.proofs.Common.{◌≡◌, refl, arith, ℤ, ◌-ℤ◌, w32, to_z, of_z}
use Rattle.std.proofs.lemmas.Int.{ints}
use Rattle.gui_input.specs.Points.{IsCoordinate}
use Rattle.gui_input.proofs.pointer.held_to.Goals as goal

-- how far one coordinate lies from another, as it is kept in 32 bits
kept : (a b : ℤ) → IsCoordinate a → IsCoordinate b → to_z w32 (of_z w32 (to_z w32 (of_z w32 a) -ℤ to_z w32 (of_z w32 b))) ≡ a -ℤ b
kept a b p q = let l = p.0 in let h = p.1 in let m = q.0 in let n = q.1 in omega (arith, ints)

pub returns : goal.returns
returns c =
    let r = c.args.reading.now in
    let t = c.args.touch.now in
    let at = c.requires.reading in
    let was = c.requires.touch in
    rw (kept r.x t.from_x at.x was.from_x, kept r.y t.from_y at.y was.from_y, kept r.x t.last_x at.x was.last_x, kept r.y t.last_y at.y was.last_y) refl
