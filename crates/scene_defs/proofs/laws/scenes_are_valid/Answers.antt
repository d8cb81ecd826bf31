use Rattle.scene_defs.proofs.Validity.{first_is_valid, change_keeps_valid, valid_is_showable}
use Rattle.scene_defs.proofs.laws.scenes_are_valid.Goals as goal

pub returns : goal.returns
returns c = record { first = first_is_valid; changed = change_keeps_valid; showable = valid_is_showable }
