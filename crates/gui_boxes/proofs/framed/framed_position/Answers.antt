use Rattle.std.proofs.Common.{◌∙◌, sym, ap}
use Rattle.gui_boxes.specs.declared.frame.Frame.{Frame}
use Rattle.gui_boxes.specs.Frames.{framed_slot}
use Rattle.gui_boxes.specs.Settled.{tall_of}
use Rattle.gui_boxes.specs.Sizings.{kid_by}
use Rattle.gui_boxes.proofs.framed.framed_position.Goals as goal

pub returns-in-Content-clause-value : goal.returns-in-Content-clause-value
returns-in-Content-clause-value c = λ k.
    let own = c.args.own.now in
    c.own_position.ensures.value k ∙ sym (ap (λ (f : Frame). framed_slot f (tall_of (kid_by k own))) c.in-Content.is)
