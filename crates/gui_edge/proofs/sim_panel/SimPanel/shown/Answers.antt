use Rattle.std.proofs.Common.{◌≡◌, ◌+◌, ◌*◌, ◌<◌, ap, subst, refl, length, slice_get, Some, arith}
use Rattle.std.proofs.lemmas.Nat.{mul-add-lt}
use Rattle.std.proofs.lemmas.Option.{slice_get_read}
use Rattle.gui_edge.specs.SimPanel.{SimState}
use Rattle.gui_edge.proofs.sim_panel.SimPanel.shown.Goals as goal

pub returns : goal.returns
returns g c =
    let s = c.self.inside in
    let wide = ap (λ (p : SimState g.row.F.Denot). p.width) c.self.view_is in
    let high = ap (λ (p : SimState g.row.F.Denot). p.height) c.self.view_is in
    let all = s.each in
    let here = mul-add-lt c.args.y s.width c.args.x s.height (omega arith) (omega arith) in
    let within : c.args.y * s.width + c.args.x < length s.pixels.items = omega arith in
    let read = rw (c.from.ensures, c.from-2.ensures, c.from-3.ensures) at c.index.ensures in
    subst (λ (p : SimState g.row.F.Denot). slice_get p.pixels (c.args.y * p.width + c.args.x) ≡ Some c.index.result.now) c.self.view_is
    (slice_get_read s.pixels.items (length s.pixels.items) (c.args.y * s.width + c.args.x) c.index.result.now refl within read)
