use Rattle.std.proofs.Common.{length}
use Rattle.std.specs.Str.{chars}
use Rattle.gui_paint.proofs.Counting.{item_steps, text_steps}
use Rattle.gui_paint.proofs.items.paint_item.Goals as goal

pub returns-in-Fill-clause-steps : goal.returns-in-Fill-clause-steps
returns-in-Fill-clause-steps g c = item_steps c.args.buf.now c.fill.new.buf c.args.steps.now c.fill.new.steps (length (chars c.args.text.now)) _ c.fill.ensures

pub returns-in-Ring-clause-steps : goal.returns-in-Ring-clause-steps
returns-in-Ring-clause-steps g c = item_steps c.args.buf.now c.ring.new.buf c.args.steps.now c.ring.new.steps (length (chars c.args.text.now)) _ c.ring.ensures

pub returns-in-Ink-clause-steps : goal.returns-in-Ink-clause-steps
returns-in-Ink-clause-steps g c = text_steps (length (chars c.args.text.now)) c.args.buf.now c.ink.new.buf c.args.steps.now c.ink.new.steps _ c.ink.ensures

pub returns-in-Picture-clause-steps : goal.returns-in-Picture-clause-steps
returns-in-Picture-clause-steps g c = item_steps c.args.buf.now c.picture.new.buf c.args.steps.now c.picture.new.steps (length (chars c.args.text.now)) _ c.picture.ensures
