use Rattle.run_defs.specs.Devices.{pointer_tells}
use Rattle.gui_board.proofs.Plays.{played_each_none, played_step, played_whole}
use Rattle.gui_play.proofs.devices.pointer_tells_all.Goals as goal

pub tells-init : goal.tells-init
tells-init g c = played_each_none _ _

pub tells-preserved : goal.tells-preserved
tells-preserved g c = played_step _ _ _ (pointer_tells c.args.at) c.args.tells.now c.tells.tell-index _ c.tells-test.true c.tells.invariant c.pointer_tells.ensures

pub returns : goal.returns
returns g c = played_whole _ _ (pointer_tells c.args.at) c.args.tells.now c.tells.tell-index c.tells-test.false c.tells.invariant
