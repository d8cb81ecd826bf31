use Rattle.run_laws.proofs.Scenes.{steps_keep_valid}
use Rattle.run_laws.proofs.steps_keep_scenes_valid.Goals as goal

pub returns : goal.returns
returns c = steps_keep_valid
