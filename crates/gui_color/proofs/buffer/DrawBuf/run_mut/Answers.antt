use Rattle.std.proofs.Common.{refl, ap, ◌∙◌, ◌+◌, arith}
use Rattle.std.proofs.lemmas.List.{length-take-le}
use Rattle.gui_base.specs.Area.{size_of}
use Rattle.gui_base.specs.Corners.{rect_of}
use Rattle.gui_color.proofs.Runs.{with_run_is, part_of_front}
use Rattle.gui_color.proofs.buffer.DrawBuf.run_mut.Goals as goal

pub slice_mut-requires-clause-in_bounds : goal.slice_mut-requires-clause-in_bounds
slice_mut-requires-clause-in_bounds c =
    let fits = rw (← c.self.view_is) at c.requires in
    omega (arith, fits, c.self.invariant)

pub returns : goal.returns
returns c =
    let area = rect_of c.self.inside.area in
    let p = c.self.inside.pixels in
    let size = size_of area in
    let fits = rw (← c.self.view_is) at c.requires in (
      (refl, λ w. rw (← c.self.view_is) (ap (λ ps. record { area = area; pixels = ps; limit = p.len }) (with_run_is p.items p.len size c.args.from w p.ok.0 (omega (arith, fits)) c.self.invariant))),
      record {
        writes_back = tt;
        run = c.slice_mut.ensures.value ∙ rw (← c.self.view_is) (part_of_front p.items size c.args.from (c.args.from + c.args.len) fits);
        len = omega (arith, c.slice_mut.ensures.len);
        whole = rw (← c.self.view_is) (length-take-le size p.items (omega arith));
      },
    )
