use Rattle.std.proofs.Common.{◌≡◌, ◌∙◌, sym, ap, option_map, is_some, ℤ, true, Some, ◌&&◌, arith}
use Rattle.gui_base.specs.Area.{Rect, has, size_of}
use Rattle.gui_base.specs.Corners.{rect_of}
use Rattle.gui_debts.specs.Seen.{entry_of}
use Rattle.gui_store.specs.Views.{scene_of}
use Rattle.gui_widgets.specs.Looks.{items_of}
use Rattle.scene_defs.specs.Visible.{visible}
use Rattle.gui_paint.proofs.Waiting.{apart}
use Rattle.gui_view.proofs.Known.{paints_its_bars, paints_no_bars, steps_are}
use Rattle.gui_view.proofs.Views.{unseen, elsewhere}
use Rattle.gui_view.proofs.view.paint_entry.Given.{Over}
use Rattle.gui_view.proofs.view.paint_entry.Goals as goal
use Rattle.gui_view.proofs.view.paint_entry.Goals.{In-Some}

seen : (g : Over) (c : In-Some g) → visible (scene_of c.args.shown.now.store.now) c.args.entry.now.h.0 ≡ Some (rect_of c.in-Some.visible)
seen g c = sym c.requires.visible ∙ (sym c.visible.ensures ∙ ap (option_map rect_of) c.in-Some.is)

pub returns-then-is_no_bars-clause-painted : goal.returns-then-is_no_bars-clause-painted
returns-then-is_no_bars-clause-painted g c = paints_no_bars (scene_of c.args.shown.now.store.now) c.args.entry.now c.args.buf.now c.requires (sym c.is_no_bars.ensures ∙ c.if-is_no_bars.true)

pub returns-in_default-clause-painted : goal.returns-in_default-clause-painted
returns-in_default-clause-painted g c =
    unseen c.args.buf.now (scene_of c.args.shown.now.store.now) (entry_of c.args.entry.now) (sym c.requires.visible ∙ (sym c.visible.ensures ∙ ap (option_map rect_of) c.in_default.is))

pub returns-then-is_empty-clause-painted : goal.returns-then-is_empty-clause-painted
returns-then-is_empty-clause-painted g c =
    let d = (goal.at.returns-then-is_empty-clause-painted g c).In-Some in
    let buf = c.args.buf.now in
    let visible = rect_of c.in-Some.visible in
    let pixels = λ (x y : ℤ). c.meet.ensures.pixels x y ∙ ap (λ (area : Rect). has visible x y && has area x y) c.area.ensures in
    elsewhere buf (scene_of c.args.shown.now.store.now) (entry_of c.args.entry.now) visible (seen g d) (apart buf visible (rect_of c.meet.result) (sym c.is_empty.ensures ∙ c.if-is_empty.true) pixels)

pub paint_known_bars-requires : goal.paint_known_bars-requires
paint_known_bars-requires g c =
    let d = (goal.at.paint_known_bars-requires g c).In-Some in
    ap items_of c.as_slice.ensures.value ∙ (c.items-bars.ensures ∙ (c.bars.ensures ∙ c.requires.bars (ap is_some (seen g d))))

pub returns-then-entry-clause-painted : goal.returns-then-entry-clause-painted
returns-then-entry-clause-painted g c =
    let d = (goal.at.returns-then-entry-clause-painted g c).In-Some in
    paints_its_bars (scene_of c.args.shown.now.store.now) c.args.entry.now (rect_of c.in-Some.visible) (seen g d) c.args.buf.now c.paint_known_bars.new.buf c.if-entry.true c.paint_known_bars.ensures.painted

pub returns-then-entry-clause-steps : goal.returns-then-entry-clause-steps
returns-then-entry-clause-steps g c =
    let d = (goal.at.returns-then-entry-clause-steps g c).In-Some in
    let few = c.paint_known_bars.ensures.steps in
    let same = steps_are (scene_of c.args.shown.now.store.now) c.args.entry.now (rect_of c.in-Some.visible) (seen g d) (size_of c.args.buf.now.area) true c.if-entry.true in
    omega (arith, few, same)
