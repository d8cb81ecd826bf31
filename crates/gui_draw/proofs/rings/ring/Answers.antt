use Rattle.gui_draw.proofs.Common.{rect_of}
use Rattle.gui_draw.proofs.Bands.{ring_none, ring_thick, ring_bands}
use Rattle.gui_draw.proofs.rings.ring.Goals as goal

pub returns-then-width-eq0 : goal.returns-then-width-eq0
returns-then-width-eq0 g c = ring_none (rect_of c.args.clip) (rect_of c.args.area) c.args.width c.args.fg c.args.opa _ _ c.if-width-eq0.true

pub returns-then-is_thick : goal.returns-then-is_thick
returns-then-is_thick g c = ring_thick (rect_of c.args.clip) (rect_of c.args.area) c.args.width c.args.fg c.args.opa _ _ _ _ c.if-is_thick.ensures c.fill.ensures

pub returns : goal.returns
returns g c =
    ring_bands (rect_of c.args.clip) (rect_of c.args.area) c.args.width c.args.fg c.args.opa _ _ _ _ _ _ _ _ _ _ c.if-is_thick.ensures
    (rw c.top.ensures at c.fill-2.ensures) (rw c.bottom.ensures at c.fill-3.ensures) (rw c.left.ensures at c.fill-4.ensures) (rw c.right.ensures at c.fill-5.ensures)
