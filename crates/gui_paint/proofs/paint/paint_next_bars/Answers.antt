use Rattle.std.proofs.Common.{◌∙◌, sym, ap, ℤ, ◌&&◌, arith}
use Rattle.gui_base.specs.Area.{Rect, has}
use Rattle.gui_base.specs.Corners.{rect_of}
use Rattle.gui_store.specs.Views.{scene_of}
use Rattle.gui_paint.proofs.Waiting.{bars_wait, bars_met, bars_elsewhere, apart}
use Rattle.gui_paint.proofs.paint.paint_next_bars.Goals as goal

pub returns-then-is_some : goal.returns-then-is_some
returns-then-is_some g c =
    bars_wait (scene_of c.args.shown.now.store.now) (rect_of c.args.visible) c.args.h.0 c.args.start c.args.buf.now c.args.steps.now c.tick.new.self (sym c.is_some.ensures ∙ c.if-is_some.true) (omega (arith, c.tick.ensures))

pub returns-then-not-is_empty : goal.returns-then-not-is_empty
returns-then-not-is_empty g c =
    bars_met (scene_of c.args.shown.now.store.now) (rect_of c.args.visible) c.args.h.0 c.args.start c.args.buf.now c.paint_bars.new.buf c.args.steps.now c.tick.new.self c.paint_bars.new.steps
    (sym c.is_some.ensures ∙ c.if-is_some.false) c.paint_bars.ensures.painted (omega (arith, c.tick.ensures)) c.paint_bars.ensures.steps

pub returns-else-not-is_empty : goal.returns-else-not-is_empty
returns-else-not-is_empty g c =
    let buf = c.args.buf.now in
    let visible = rect_of c.args.visible in
    let pixels = λ (x y : ℤ). c.meet.ensures.pixels x y ∙ ap (λ (area : Rect). has visible x y && has area x y) c.area.ensures in
    bars_met (scene_of c.args.shown.now.store.now) visible c.args.h.0 c.args.start buf buf c.args.steps.now c.tick.new.self c.tick.new.self (sym c.is_some.ensures ∙ c.if-is_some.false)
    (bars_elsewhere (scene_of c.args.shown.now.store.now) visible c.args.h.0 buf (apart buf visible (rect_of c.meet.result) (sym c.is_empty.ensures ∙ c.if-not-is_empty.false) pixels)) (omega (arith, c.tick.ensures)) (omega arith)
