use Rattle.std.proofs.Common.{◌≡◌, ◌^◌, ◌<◌, refl, subst, rules, arith, FitsSigned, w32}
use Rattle.std.proofs.lemmas.Int.{to_z-of_z}
use Rattle.gui_base.specs.Area.{Rect, width_of}
use Rattle.gui_base.specs.Corners.{rect_of}
use Rattle.gui_color.specs.Buffer.{place}
use Rattle.gui_color.proofs.Filling.{HasPart, height_fits, line_within, mixed_start, mixed_more, mixed_all, place_small}
use Rattle.gui_color.proofs.buffer.DrawBuf.lay_lines.Goals as goal

pub loop-line-init : goal.loop-line-init
loop-line-init g c = record { area = refl; limit = refl; mixed = mixed_start c.args.self.now (rect_of c.args.part) c.args.fg c.args.opa }

pub overflow_add-from : goal.overflow_add-from
overflow_add-from g c =
    let x : FitsSigned w32 c.args.part.x1 = search rules in
    let y : FitsSigned w32 c.args.part.y1 = search rules in
    let area = rect_of c.area-area.result in
    let here : HasPart area (rect_of c.args.part) = rw c.area-area.ensures (record { some = c.requires.some; first = c.requires.first; last = c.requires.last }) in
    let start : c.place_of-from.result ≡ place area c.args.part.x1 c.args.part.y1 = simp to_z-of_z at c.place_of-from.ensures.place in
    let low = height_fits area c.area-area.result.y1_fits.0 c.area-area.result.y2_fits.1 in
    let narrow : c.width-whole.result < 2 ^ 32 = search rules in
    let small = place_small area (rect_of c.args.part) c.loop-line.line c.place_of-from.result c.width-whole.result c.width-len.result here (omega (arith, c.height-line-end.ensures)) start c.width-whole.ensures c.width-len.ensures narrow low in
    omega (arith, small)

pub run_mut-requires : goal.run_mut-requires
run_mut-requires g c =
    let x : FitsSigned w32 c.args.part.x1 = search rules in
    let y : FitsSigned w32 c.args.part.y1 = search rules in
    let now = c.args.self.now.area in
    let here : HasPart now (rect_of c.args.part) = record { some = c.requires.some; first = c.requires.first; last = c.requires.last } in
    let start : c.place_of-from.result ≡ place (rect_of c.area-area.result) c.args.part.x1 c.args.part.y1 = simp to_z-of_z at c.place_of-from.ensures.place in
    let from = subst (λ (area : Rect). c.place_of-from.result ≡ place area c.args.part.x1 c.args.part.y1) c.area-area.ensures start in
    let whole = subst (λ (area : Rect). c.width-whole.result ≡ width_of area) c.area-area.ensures c.width-whole.ensures in
    rw c.loop-line.invariant.area
    (line_within now (rect_of c.args.part) c.loop-line.line here (omega (arith, c.height-line-end.ensures)) c.place_of-from.result c.width-whole.result c.width-len.result from whole c.width-len.ensures)

pub loop-line-preserved : goal.loop-line-preserved
loop-line-preserved g c =
    let x : FitsSigned w32 c.args.part.x1 = search rules in
    let y : FitsSigned w32 c.args.part.y1 = search rules in
    let now = c.args.self.now.area in
    let here : HasPart now (rect_of c.args.part) = record { some = c.requires.some; first = c.requires.first; last = c.requires.last } in
    let start : c.place_of-from.result ≡ place (rect_of c.area-area.result) c.args.part.x1 c.args.part.y1 = simp to_z-of_z at c.place_of-from.ensures.place in
    let from = subst (λ (area : Rect). c.place_of-from.result ≡ place area c.args.part.x1 c.args.part.y1) c.area-area.ensures start in
    let whole = subst (λ (area : Rect). c.width-whole.result ≡ width_of area) c.area-area.ensures c.width-whole.ensures in
    record {
      area = c.loop-line.invariant.area;
      limit = c.loop-line.invariant.limit;
      mixed = mixed_more c.args.self.now c.loop-line.self (rect_of c.args.part) c.loop-line.line c.place_of-from.result c.width-whole.result c.width-len.result c.args.fg c.args.opa c.loop-line.invariant.area c.run_mut.ensures.whole here
          (omega (arith, c.height-line-end.ensures)) from whole c.width-len.ensures c.run_mut.result.now c.lay_row.new.row c.run_mut.ensures.run c.lay_row.ensures c.loop-line.invariant.mixed;
    }

pub returns-clause-pixels : goal.returns-clause-pixels
returns-clause-pixels g c =
    mixed_all c.args.self.now c.loop-line.self (rect_of c.args.part) c.loop-line.line c.args.fg c.args.opa (omega (arith, c.height-line-end.ensures)) c.loop-line.invariant.mixed
