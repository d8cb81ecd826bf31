use Rattle.std.proofs.Common.{◌≡◌, ◌≤◌, ◌+◌, length, refl, ap, rules, ◌∙◌, arith, FitsSigned, w32}
use Rattle.std.proofs.lemmas.Int.{to_z-of_z}
use Rattle.std.proofs.lemmas.List.{length-take-le}
use Rattle.gui_base.specs.Area.{size_of}
use Rattle.gui_base.specs.Corners.{rect_of}
use Rattle.gui_color.specs.Buffer.{distance, place, row_of}
use Rattle.gui_color.proofs.Pixels.{holds_row}
use Rattle.gui_color.proofs.Places.{place_fits, place_end, count_is}
use Rattle.gui_color.proofs.Runs.{with_run_is, part_of_front}
use Rattle.gui_color.proofs.buffer.DrawBuf.row_mut.Goals as goal

pub slice_mut-requires-clause-in_bounds : goal.slice_mut-requires-clause-in_bounds
slice_mut-requires-clause-in_bounds c =
    let x1 : FitsSigned w32 c.args.x1 = search rules in
    let x2 : FitsSigned w32 c.args.x2 = search rules in
    let y : FitsSigned w32 c.args.y = search rules in
    let area = rect_of c.self.inside.area in
    let first = rw (← c.self.view_is) at c.requires.first in
    let last = rw (← c.self.view_is) at c.requires.last in
    let end = place_end area c.args.x1 c.args.x2 c.args.y c.requires.order first in
    let fits = place_fits area c.args.x2 c.args.y last in
    let start = simp to_z-of_z at c.place_of-start.ensures.place in
    let len = simp to_z-of_z at c.distance_between-len.ensures.distance in
    omega (arith, end, fits, start, len, c.self.invariant)

pub returns : goal.returns
unfolding row_of
returns c =
    let x1 : FitsSigned w32 c.args.x1 = search rules in
    let x2 : FitsSigned w32 c.args.x2 = search rules in
    let y : FitsSigned w32 c.args.y = search rules in
    let area = rect_of c.self.inside.area in
    let p = c.self.inside.pixels in
    let size = size_of area in
    let first = rw (← c.self.view_is) at c.requires.first in
    let last = rw (← c.self.view_is) at c.requires.last in
    let end = place_end area c.args.x1 c.args.x2 c.args.y c.requires.order first in
    let fits = place_fits area c.args.x2 c.args.y last in
    let start = simp to_z-of_z at c.place_of-start.ensures.place in
    let len = simp to_z-of_z at c.distance_between-len.ensures.distance in
    let from : place area c.args.x1 c.args.y ≤ size = omega (arith, end, fits) in
    let to : c.place_of-start.result + (c.distance_between-len.result + 1) ≡ place area c.args.x2 c.args.y + 1 = omega (arith, end, start, len) in
    let long : length c.slice_mut.result.now ≡ distance c.args.x1 c.args.x2 + 1 = omega (arith, c.slice_mut.ensures.len, len) in (
      (refl, λ w. rw (← c.self.view_is, start) (ap (λ ps. record { area = area; pixels = ps; limit = p.len }) (with_run_is p.items p.len size (place area c.args.x1 c.args.y) w p.ok.0 from c.self.invariant))),
      record {
        writes_back = tt;
        row = c.slice_mut.ensures.value ∙ rw (← c.self.view_is, to, start) (part_of_front p.items size (place area c.args.x1 c.args.y) (place area c.args.x2 c.args.y + 1) (omega (arith, fits)));
        len = rw (count_is c.args.x1 c.args.x2 c.requires.order) long;
        whole = rw (← c.self.view_is) (length-take-le size p.items (omega arith));
        pixels = holds_row _ c.args.y c.args.x1 c.args.x2 (record { whole = rw (← c.self.view_is) (length-take-le size p.items (omega arith)); order = c.requires.order; first = c.requires.first; last = c.requires.last });
      },
    )
