use Rattle.std.proofs.Common.{rules}
use Rattle.rfb_view.proofs.Sending.{many_is}
use Rattle.rfb_view.proofs.update.update_head.Goals as goal

pub returns : goal.returns
returns c = rw (many_is c.args.block.left c.args.block.columns, many_is c.args.block.top c.args.block.lines) (search rules)
