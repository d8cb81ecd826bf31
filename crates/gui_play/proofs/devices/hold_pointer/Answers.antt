use Rattle.std.proofs.Common.{subst, Option}
use Rattle.gui_base.specs.declared.Handle.{Handle}
use Rattle.run_defs.specs.Devices.{hold_pointer}
use Rattle.run_defs.specs.Play.{aimed}
use Rattle.run_defs.specs.Reactions.{hold}
use Rattle.gui_board.specs.Boards.{Plays}
use Rattle.gui_play.proofs.devices.hold_pointer.Goals as goal

pub returns : goal.returns
unfolding hold_pointer
returns g c =
    subst (λ (target : Option Handle). Plays c.args.board.now c.hold_aimed.new.board (g.S.Sink.state c.args.log.now) (g.S.Sink.state c.hold_aimed.new.log) (aimed target (hold c.args.at)))
    c.pointer_target-target.ensures c.hold_aimed.ensures
