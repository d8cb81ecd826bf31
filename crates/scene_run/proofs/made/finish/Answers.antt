use Rattle.std.proofs.Common.{ap, refl, inr, ◌||◌}
use Rattle.std.specs.Prelude.{nat_lt}
use Rattle.run_defs.specs.Run.{Moment}
use Rattle.scene_run.proofs.MadeRuns.{made_noting}
use Rattle.scene_run.proofs.made.finish.Goals as goal

pub returns-in-Ok-clause-runs : goal.returns-in-Ok-clause-runs
returns-in-Ok-clause-runs g c = λ first start panel h.
    let scene = ap (λ (m : Moment). m.machine.scene) h.answered.moment in
    let run = c.args.run.now in
    rw (c.status.ensures, c.in-Ok.ensures.same) (made_noting c.args.k first _ _ (nat_lt 0 run.refused || nat_lt 0 run.faults) (record {
      answers = h.answered.answers;
      log = rw (← scene) (c.in-Ok.ensures.ok _ _ h.counts);
      log_faults = c.in-Ok.ensures.cause.later;
      notes_is = rw (h.counts.refused, h.counts.faults) refl;
    }))

pub returns-in-Err-clause-runs : goal.returns-in-Err-clause-runs
returns-in-Err-clause-runs g c = λ first start panel h.
    let scene = ap (λ (m : Moment). m.machine.scene) h.answered.moment in
    inr (record { answers = h.answered.answers; log = rw (← scene) (c.in-Err.ensures.err _ _ h.counts); cause = c.in-Err.ensures.cause.failed })
