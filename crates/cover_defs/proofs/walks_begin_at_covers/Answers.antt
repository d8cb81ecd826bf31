use Rattle.cover_defs.proofs.Walks.{remembered_is_last, waited_is_uncovered}
use Rattle.cover_defs.proofs.walks_begin_at_covers.Goals as goal

pub returns : goal.returns
returns c = record { remembered = remembered_is_last; waited = waited_is_uncovered }
