use Rattle.std.proofs.Common.{◌∙◌, sym, ap, ℤ, ◌&&◌, arith}
use Rattle.gui_base.specs.Area.{Rect, has}
use Rattle.gui_base.specs.Corners.{rect_of}
use Rattle.gui_store.specs.Views.{scene_of}
use Rattle.gui_paint.specs.Walking.{number_of}
use Rattle.gui_paint.proofs.Waiting.{still_waits, has_met, apart, paints_elsewhere}
use Rattle.gui_paint.proofs.paint.paint_next.Goals as goal

pub returns-then-not-has_begun : goal.returns-then-not-has_begun
returns-then-not-has_begun g c =
    still_waits (scene_of c.args.shown.now.store.now) (rect_of c.args.seen.visible) c.args.h.0 (number_of c.args.progress.now.start) c.args.buf.now c.args.steps.now (number_of c.has_begun.new.start) (sym c.has_begun.ensures.begun ∙ c.if-not-has_begun.true) c.has_begun.ensures.waits

pub returns-then-not-is_empty : goal.returns-then-not-is_empty
returns-then-not-is_empty g c =
    has_met (scene_of c.args.shown.now.store.now) (rect_of c.args.seen.visible) c.args.h.0 (number_of c.args.progress.now.start) c.args.buf.now c.paint_object.new.buf c.args.steps.now c.paint_object.new.steps (number_of c.has_begun.new.start)
    (sym c.has_begun.ensures.begun ∙ c.if-not-has_begun.false) c.has_begun.ensures.waits c.paint_object.ensures.painted c.paint_object.ensures.steps

pub returns-else-not-is_empty : goal.returns-else-not-is_empty
returns-else-not-is_empty g c =
    let buf = c.args.buf.now in
    let visible = rect_of c.args.seen.visible in
    let pixels = λ (x y : ℤ). c.meet.ensures.pixels x y ∙ ap (λ (area : Rect). has visible x y && has area x y) c.area.ensures in
    has_met (scene_of c.args.shown.now.store.now) visible c.args.h.0 (number_of c.args.progress.now.start) buf buf c.args.steps.now c.args.steps.now (number_of c.has_begun.new.start)
    (sym c.has_begun.ensures.begun ∙ c.if-not-has_begun.false) c.has_begun.ensures.waits
    (paints_elsewhere (scene_of c.args.shown.now.store.now) visible c.args.h.0 buf (apart buf visible (rect_of c.meet.result) (sym c.is_empty.ensures ∙ c.if-not-is_empty.false) pixels)) (omega arith)
