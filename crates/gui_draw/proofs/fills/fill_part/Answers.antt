use Rattle.gui_draw.proofs.Common.{rect_of}
use Rattle.gui_draw.proofs.Lines.{filled}
use Rattle.gui_draw.proofs.fills.fill_part.Goals as goal

pub returns : goal.returns
returns g c =
    filled c.args.buf.now c.fill.new.self (rect_of c.args.part) c.args.fg c.args.opa c.args.steps.now c.tick_lines.new.steps c.requires
    c.fill.ensures.area c.fill.ensures.limit c.fill.ensures.pixels c.tick_lines.ensures
