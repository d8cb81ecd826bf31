use Rattle.std.proofs.Common.{◌≡◌, rules}
use Rattle.gui_base.specs.Area.{has}
use Rattle.gui_base.specs.Color.{parts}
use Rattle.gui_base.specs.Corners.{rect_of}
use Rattle.gui_color.proofs.Filling.{mixed_none}
use Rattle.gui_color.proofs.buffer.DrawBuf.fill.Goals as goal

pub returns-in-0-clause-pixels : goal.returns-in-0-clause-pixels
returns-in-0-clause-pixels c =
    let none : parts c.args.opa ≡ 0 = search rules in
    mixed_none c.args.self.now (has (rect_of c.args.part)) c.args.fg c.args.opa none
