-- What carrying out a command does, beside the step of the machine.
use Rattle.std.specs.Prelude.{◌≡◌, Ok, IfOk, OnOk, OnErr}
use Rattle.std.specs.declared.result.Result.{Result}
use Rattle.std.specs.Io.KnownBytes.{Appends}
use Rattle.gui_base.specs.declared.refusal.Refusal.{Refusal}
use Rattle.gui_damage.specs.Adding.{AddsAll}
use Rattle.gui_damage.specs.Pending.{Pending, IsPending}
use Rattle.gui_edge.specs.Causes.{HasCause}
use Rattle.gui_edge.specs.Sink.{SinkState, AppendsPrefix}
use Rattle.gui_edge.specs.declared.Failed.{Failed}
use Rattle.run_defs.specs.Owing.{owed_along}
use Rattle.run_defs.specs.Step.{Step}
use Rattle.run_defs.specs.declared.Reply.{Reply}
use Rattle.run_defs.specs.declared.Reply.TheVariants.{Refused}
use Rattle.gui_board.specs.Stages.{Stage}

-- a refusal is the answer: nothing becomes pending, and nothing is written
pub record Refuses (refusal : Refusal) (result : Result Reply Failed) (before after : Pending)
    (old new : SinkState) : Type 0 where
  pub answer : result ≡ Ok (Refused refusal)
  pub pending : after ≡ before
  pub log : new ≡ old

-- A step was made: the machine is that of the step, and what its changes owe has become pending. The reply
-- and the lines are those of the step, or the log has failed and holds a prefix of the lines.
pub record Steps (old new : Stage) (result : Result Reply Failed) (step : Step) : Type 0 where
  pub machine : new.machine ≡ step.machine
  pub owed : IsPending old.pending →
      AddsAll old.pending new.pending (owed_along old.machine.scene step.changes)
  pub reply : IfOk result (λ reply. reply ≡ step.reply)
  pub lines : OnOk result (Appends old.log.held new.log.held step.lines)
  pub cut : OnErr result (AppendsPrefix old.log.held new.log.held step.lines)
  pub cause : HasCause old.log.faults new.log.faults result
  pub refused : (refusal : Refusal) → step.reply ≡ Refused refusal →
      Refuses refusal result old.pending new.pending old.log new.log
