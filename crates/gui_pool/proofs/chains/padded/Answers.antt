use Rattle.std.proofs.Common.{◌++◌, length, ap}
use Rattle.std.proofs.lemmas.List.{drop-replicate}
use Rattle.gui_pool.proofs.chains.padded.Goals as goal

pub returns : goal.returns
returns c = rw c.copy_from_slice.ensures.after (ap (λ zs. c.args.piece.now ++ zs) (drop-replicate (length c.args.piece.now) 28 0))
