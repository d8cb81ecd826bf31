use Rattle.std.proofs.Common.{◌≡◌, ◌*◌, refl, subst, rules, FitsSigned, w32}
use Rattle.std.proofs.lemmas.Int.{to_z-of_z}
use Rattle.gui_base.specs.Area.{Rect, width_of, height_of}
use Rattle.gui_base.specs.Corners.{rect_of}
use Rattle.gui_color.specs.Buffer.{place}
use Rattle.gui_color.proofs.Filling.{HasPart, whole_mixed, whole_within}
use Rattle.gui_color.proofs.buffer.DrawBuf.lay_whole_lines.Goals as goal

pub run_mut-requires : goal.run_mut-requires
run_mut-requires g c =
    let x : FitsSigned w32 c.args.part.x1 = search rules in
    let y : FitsSigned w32 c.args.part.y1 = search rules in
    let part = rect_of c.args.part in
    let here : HasPart c.args.self.now.area part = record { some = c.requires.some; first = c.requires.first; last = c.requires.last } in
    let start : c.place_of-from.result ≡ place (rect_of c.area.result) c.args.part.x1 c.args.part.y1 = simp to_z-of_z at c.place_of-from.ensures.place in
    let from = subst (λ (area : Rect). c.place_of-from.result ≡ place area c.args.part.x1 c.args.part.y1) c.area.ensures start in
    let size : c.width.result * c.height.result ≡ width_of part * height_of part = rw (c.width.ensures, c.height.ensures) refl in
    whole_within c.args.self.now.area part c.place_of-from.result (c.width.result * c.height.result) here c.requires.wide from size

pub returns-clause-pixels : goal.returns-clause-pixels
returns-clause-pixels g c =
    let x : FitsSigned w32 c.args.part.x1 = search rules in
    let y : FitsSigned w32 c.args.part.y1 = search rules in
    let part = rect_of c.args.part in
    let here : HasPart c.args.self.now.area part = record { some = c.requires.some; first = c.requires.first; last = c.requires.last } in
    let start : c.place_of-from.result ≡ place (rect_of c.area.result) c.args.part.x1 c.args.part.y1 = simp to_z-of_z at c.place_of-from.ensures.place in
    let from = subst (λ (area : Rect). c.place_of-from.result ≡ place area c.args.part.x1 c.args.part.y1) c.area.ensures start in
    let size : c.width.result * c.height.result ≡ width_of part * height_of part = rw (c.width.ensures, c.height.ensures) refl in
    whole_mixed c.args.self.now part c.place_of-from.result (c.width.result * c.height.result) c.args.fg c.args.opa c.run_mut.ensures.whole here c.requires.wide from size c.run_mut.result.now c.lay_row.new.row c.run_mut.ensures.run c.lay_row.ensures
