use Rattle.std.proofs.Common.{rules, FitsSigned, w32}
use Rattle.std.proofs.lemmas.Int.{to_z-of_z}
use Rattle.gui_base.specs.Corners.{rect_of}
use Rattle.gui_color.specs.Buffer.{place}
use Rattle.gui_color.proofs.Places.{place_fits, starts}
use Rattle.gui_color.proofs.buffer.place_of.Goals as goal

is_place : goal.returns-clause-place
unfolding place
is_place c =
    let x : FitsSigned w32 c.args.x = search rules in
    let y : FitsSigned w32 c.args.y = search rules in
    let left : FitsSigned w32 c.args.area.x1 = search rules in
    let top : FitsSigned w32 c.args.area.y1 = search rules in
    let across = simp to_z-of_z at c.distance_between-2.ensures.distance in
    let down = simp to_z-of_z at c.distance_between.ensures.distance in
    rw (down, c.width.ensures, across)

pub returns-clause-place : goal.returns-clause-place
returns-clause-place c = is_place c

pub returns-clause-below : goal.returns-clause-below
returns-clause-below c = rw (is_place c) (place_fits (rect_of c.args.area) c.args.x c.args.y c.requires)

pub distance_between-requires : goal.distance_between-requires
distance_between-requires c =
    let from : FitsSigned w32 c.args.area.y1 = search rules in
    let to : FitsSigned w32 c.args.y = search rules in
    simp to_z-of_z (starts (rect_of c.args.area) c.args.x c.args.y c.requires).1

pub distance_between-requires-2 : goal.distance_between-requires-2
distance_between-requires-2 c =
    let from : FitsSigned w32 c.args.area.x1 = search rules in
    let to : FitsSigned w32 c.args.x = search rules in
    simp to_z-of_z (starts (rect_of c.args.area) c.args.x c.args.y c.requires).0
