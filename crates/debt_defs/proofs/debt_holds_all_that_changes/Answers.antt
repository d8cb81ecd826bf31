use Rattle.debt_defs.proofs.Looks.{frame_of_looks}
use Rattle.debt_defs.proofs.Scenes.{frame_of_scenes, painted_by_look}
use Rattle.debt_defs.proofs.debt_holds_all_that_changes.Goals as goal

pub returns : goal.returns
returns c = record { scenes = frame_of_scenes; looks = frame_of_looks; painted = painted_by_look }
