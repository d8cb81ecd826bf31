use Rattle.std.proofs.Common.{refl, rules, arith}
use Rattle.std.proofs.KnownBytes.{Appends-nil}
use Rattle.gui_edge.proofs.Prefixes.{on_err}
use Rattle.scene_run.proofs.answer.show.Goals as goal

-- a refresh that is done leaves nothing in flight
pub present-requires : goal.present-requires
present-requires g c = record { opened = c.in-Done.ensures.refreshes.sends.can.sizes.opened; still = (c.in-Done.ensures.refreshes.clear refl).coming }

pub returns-in-Fault-clause-ok : goal.returns-in-Fault-clause-ok
returns-in-Fault-clause-ok g c =
    let refreshes = c.in-Fault.ensures.refreshes in
    let keeps = refreshes.sends.keeps in λ number frame seen. record {
      frames = λ t. rw keeps.frames (Appends-nil _);
      shown = tt;
      faults = omega (arith, refreshes.fault refl);
      keeps = record {
        told = keeps.told;
        flush_faults = keeps.flush_faults;
        present_faults = omega (arith, keeps.present_faults);
        turn = keeps.turn;
      };
    }

-- a frame of which a prefix was presented: by its parts, so that no search comes near its limits
pub returns-in_err-present-in-Done-clause-err : goal.returns-in_err-present-in-Done-clause-err
returns-in_err-present-in-Done-clause-err g c =
    on_err c.from_residual.result (record {
      frames = search rules;
      faults = search rules;
      grew = search rules;
      turn = search rules;
      cause = search rules;
    })
