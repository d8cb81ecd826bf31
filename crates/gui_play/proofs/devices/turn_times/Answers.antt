use Rattle.gui_play.proofs.Turning.{played_times_none, played_times_more}
use Rattle.gui_play.proofs.devices.turn_times.Goals as goal

pub steps-init : goal.steps-init
steps-init g c = played_times_none _ _

pub steps-preserved : goal.steps-preserved
steps-preserved g c = played_times_more _ _ _ _ _ c.steps.invariant c.turn_once.ensures
