use Rattle.scene_run.proofs.Complete.{runs_complete}
use Rattle.scene_run.proofs.laws.runs_are_complete.Goals as goal

pub returns : goal.returns
returns c = runs_complete
