use Rattle.std.proofs.Common.{◌∙◌, sym, ap, arith, FitsSigned, w32}
use Rattle.std.proofs.lemmas.Int.{to_z-of_z}
use Rattle.std.proofs.lemmas.List.{drop_all}
use Rattle.gui_change.specs.Canvas.{scene_in}
use Rattle.scene_defs.specs.Shown.{entries}
use Rattle.gui_board.proofs.LastHit.{hit_before, last_entry, none_before, none_hit}
use Rattle.gui_board.proofs.board.Board.hit.Goals as goal

pub loop-n-init : goal.loop-n-init
loop-n-init c =
    let x_fits : FitsSigned w32 c.args.x = c.ranges.x in
    let y_fits : FitsSigned w32 c.args.y = c.ranges.y in
    let scene = scene_in c.args.self.now.canvas in
    let count = c.entry_count-n.ensures in
    record {
      within = omega arith;
      none = λ known. simp to_z-of_z (ap (last_entry scene c.args.x c.args.y known) (drop_all c.entry_count-n.result (entries scene) (omega arith)));
    }

pub loop-n-preserved : goal.loop-n-preserved
loop-n-preserved c =
    let x_fits : FitsSigned w32 c.args.x = c.ranges.x in
    let y_fits : FitsSigned w32 c.args.y = c.ranges.y in
    let scene = scene_in c.args.self.now.canvas in
    let inv = c.loop-n.invariant in
    let none = inv.none in
    let some = c.loop-n-test.true in
    record {
      within = let within = inv.within in omega arith;
      none = λ known. simp to_z-of_z (none_before scene c.args.x c.args.y c.loop-n.n c.hit_at-hit.result some inv.within (λ k. simp to_z-of_z at none k) (simp to_z-of_z at c.hit_at-hit.ensures) (sym c.is_some.ensures ∙ c.if-is_some.false) known);
    }

pub returns-then-is_some : goal.returns-then-is_some
returns-then-is_some c =
    let x_fits : FitsSigned w32 c.args.x = c.ranges.x in
    let y_fits : FitsSigned w32 c.args.y = c.ranges.y in
    let inv = c.loop-n.invariant in
    let none = inv.none in
    hit_before (scene_in c.args.self.now.canvas) c.args.x c.args.y c.loop-n.n c.hit_at-hit.result c.loop-n-test.true inv.within (λ k. simp to_z-of_z at none k) (simp to_z-of_z at c.hit_at-hit.ensures) (sym c.is_some.ensures ∙ c.if-is_some.true)

pub returns : goal.returns
returns c =
    let x_fits : FitsSigned w32 c.args.x = c.ranges.x in
    let y_fits : FitsSigned w32 c.args.y = c.ranges.y in
    let none = c.loop-n.invariant.none in
    none_hit (scene_in c.args.self.now.canvas) c.args.x c.args.y c.loop-n.n c.loop-n-test.false (λ k. simp to_z-of_z at none k)
