use Rattle.std.proofs.Common.{rules, w32, ◌≡◌, refl, ℤ}
use Rattle.std.proofs.lemmas.Int.{to_z-of_z}
use mir.Val.{SFits}
use Rattle.gui_base.specs.Area.{Rect}
use Rattle.gui_base.specs.Corners.{rect_of}
use Rattle.gui_base.proofs.Blocks.{blocks_fit, not_negative}
use Rattle.gui_base.proofs.rounding.GridRound.round.Goals as goal

pub block_start-requires-clause-positive : goal.block_start-requires-clause-positive
block_start-requires-clause-positive c =
    let g = c.args.self.now in
    let x1 : SFits w32 c.args.area.x1 = search rules in
    simp to_z-of_z (not_negative (rect_of g.panel) (rect_of c.args.area) g.whole.left g.whole.top c.requires).0.0

pub block_start-requires-2-clause-positive : goal.block_start-requires-2-clause-positive
block_start-requires-2-clause-positive c =
    let g = c.args.self.now in
    let y1 : SFits w32 c.args.area.y1 = search rules in
    simp to_z-of_z (not_negative (rect_of g.panel) (rect_of c.args.area) g.whole.left g.whole.top c.requires).0.1

pub block_end-requires-clause-positive : goal.block_end-requires-clause-positive
block_end-requires-clause-positive c =
    let g = c.args.self.now in
    let x2 : SFits w32 c.args.area.x2 = search rules in
    simp to_z-of_z (not_negative (rect_of g.panel) (rect_of c.args.area) g.whole.left g.whole.top c.requires).1.0

pub block_end-requires-clause-fits : goal.block_end-requires-clause-fits
block_end-requires-clause-fits c =
    let g = c.args.self.now in
    let x2 : SFits w32 c.args.area.x2 = search rules in
    simp to_z-of_z (blocks_fit g.block.w g.block.h (rect_of g.panel) (rect_of c.args.area) g.sound g.panel.x2_fits g.panel.y2_fits c.requires).0

pub block_end-requires-2-clause-positive : goal.block_end-requires-2-clause-positive
block_end-requires-2-clause-positive c =
    let g = c.args.self.now in
    let y2 : SFits w32 c.args.area.y2 = search rules in
    simp to_z-of_z (not_negative (rect_of g.panel) (rect_of c.args.area) g.whole.left g.whole.top c.requires).1.1

pub block_end-requires-2-clause-fits : goal.block_end-requires-2-clause-fits
block_end-requires-2-clause-fits c =
    let g = c.args.self.now in
    let y2 : SFits w32 c.args.area.y2 = search rules in
    simp to_z-of_z (blocks_fit g.block.w g.block.h (rect_of g.panel) (rect_of c.args.area) g.sound g.panel.x2_fits g.panel.y2_fits c.requires).1

same : (x1 y1 x2 y2 a b c d : ℤ) → x1 ≡ a → y1 ≡ b → x2 ≡ c → y2 ≡ d → ◌≡◌ {A = Rect} (record { x1 = x1; y1 = y1; x2 = x2; y2 = y2 }) (record { x1 = a; y1 = b; x2 = c; y2 = d })
same x1 y1 x2 y2 a b c d p q r s = rw (p, q, r, s) refl

pub returns : goal.returns
returns c =
    let x1 : SFits w32 c.args.area.x1 = search rules in
    let y1 : SFits w32 c.args.area.y1 = search rules in
    let x2 : SFits w32 c.args.area.x2 = search rules in
    let y2 : SFits w32 c.args.area.y2 = search rules in
    let left : SFits w32 c.block_start.result = search rules in
    let top : SFits w32 c.block_start-2.result = search rules in
    let right : SFits w32 c.block_end.result = search rules in
    let bottom : SFits w32 c.block_end-2.result = search rules in
    simp to_z-of_z (same _ _ _ _ _ _ _ _ (simp to_z-of_z at c.block_start.ensures.value) (simp to_z-of_z at c.block_start-2.ensures.value) (simp to_z-of_z at c.block_end.ensures.value) (simp to_z-of_z at c.block_end-2.ensures.value))
