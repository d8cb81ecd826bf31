use Rattle.std.proofs.Common.{sym, refl}
use Rattle.gui_board.specs.Boards.{machine_of, stage}
use Rattle.run_defs.specs.Step.{step, answer, rule_of}
use Rattle.gui_board.proofs.Plays.{idle}
use Rattle.gui_play.proofs.Stepped.{steps_unless, steps_refused}
use Rattle.gui_play.proofs.commands.apply_play.Goals as goal

pub returns-in-Some : goal.returns-in-Some
unfolding step
returns-in-Some g c =
    steps_refused _ _ (answer (machine_of c.args.board.now) c.args.command.now) c.in-Some.refusal (rule_of c.args.command.now) (sym c.in-Some.ensures) (idle (stage c.args.board.now (g.S.Sink.state c.args.log.now))) refl refl

pub returns-in-None : goal.returns-in-None
unfolding step
returns-in-None g c =
    steps_unless _ _ (answer (machine_of c.args.board.now) c.args.command.now) (rule_of c.args.command.now) _ (sym c.in-None.ensures) c.requires.fresh.uncut c.requires.fresh.unnoted c.carry_out.ensures c.finish.ensures
