use Rattle.pack_defs.proofs.Kept.{object-kept}
use Rattle.pack_defs.proofs.objects_fit_their_records.Goals as goal

pub returns : goal.returns
returns c = object-kept
