use Rattle.std.proofs.Common.{refl}
use Rattle.gui_board.specs.Boards.{machine_of}
use Rattle.run_defs.specs.Making.{made}
use Rattle.run_defs.specs.Step.{step}
use Rattle.scene_defs.specs.Change.{answer_of}
use Rattle.gui_play.proofs.Stepped.{steps_unless, steps_refused, none_of_ok, some_of_err}
use Rattle.gui_play.proofs.commands.apply_change.Goals as goal

pub returns-in-Ok : goal.returns-in-Ok
unfolding step
returns-in-Ok g c =
    let machine = machine_of c.args.board.now in
    let done = none_of_ok (answer_of machine.scene c.args.change.now) c.in-Ok.ensures.answer in
    steps_unless _ _ _ (made c.args.change.now) _ done c.requires.fresh.uncut c.requires.fresh.unnoted (c.in-Ok.ensures.done (g.S.Sink.state c.args.log.now)) c.finish.ensures

pub returns-in-Err : goal.returns-in-Err
unfolding step
returns-in-Err g c =
    let machine = machine_of c.args.board.now in
    let refused = some_of_err (answer_of machine.scene c.args.change.now) c.in-Err.refusal c.in-Err.ensures.answer in
    steps_refused _ _ _ c.in-Err.refusal (made c.args.change.now) refused (c.in-Err.ensures.refused (g.S.Sink.state c.args.log.now)) c.in-Err.ensures.unmarked refl
