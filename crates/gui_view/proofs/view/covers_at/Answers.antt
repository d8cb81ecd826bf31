use Rattle.std.proofs.Common.{◌∙◌, subst, sym, ◌≤◌, ◌+◌, arith, get_or}
use Rattle.gui_base.specs.Corners.{rect_of}
use Rattle.gui_change.specs.Canvas.{scene_in}
use Rattle.scene_defs.specs.Shown.{Entry, entries, own}
use Rattle.gui_view.specs.Painted.{asked_steps}
use Rattle.gui_view.proofs.Known.{bars_cover_nothing, covers_is}
use Rattle.gui_view.proofs.view.covers_at.Goals as goal

pub returns-then-is_bars_at-clause-covers : goal.returns-then-is_bars_at-clause-covers
returns-then-is_bars_at-clause-covers g c =
    let scene = scene_in c.args.canvas.now in
    bars_cover_nothing scene (rect_of c.args.part) (get_or (entries scene) c.args.n (own 0)) (sym c.is_bars_at.ensures ∙ c.if-is_bars_at.true)

pub returns-in-Some-clause-covers : goal.returns-in-Some-clause-covers
returns-in-Some-clause-covers g c =
    c.covers_by.ensures.covers ∙ covers_is (scene_in c.args.canvas.now) (rect_of c.args.part) c.args.n c.in-Some.entry c.in-Some.ensures

pub returns-in-Some-clause-steps : goal.returns-in-Some-clause-steps
returns-in-Some-clause-steps g c =
    subst (λ (e : Entry). c.covers_by.new.steps ≤ c.args.steps.now + asked_steps e) (sym (c.in-Some.ensures.entry (own 0))) c.covers_by.ensures.steps

pub returns-in-None-clause-covers : goal.returns-in-None-clause-covers
returns-in-None-clause-covers g c = absurd (omega (arith, c.requires, c.in-None.ensures))
