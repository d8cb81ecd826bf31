use Rattle.std.proofs.Common.{◌∙◌, sym, ap, subst, refl}
use Rattle.gui_edge.specs.FaultPlan.{next_fails}
use Rattle.panel_dcs.specs.Bus.{FeedsPrefix}
use Rattle.panel_dcs.specs.Controller.{data_bytes}
use Rattle.panel_dcs.specs.SimBus.{LogBusState, log_state}
use Rattle.panel_dcs.proofs.Buses.{logs_half, log_fails}
use Rattle.panel_dcs.proofs.sim_bus.LogBusBus.data.Goals as goal

pub returns-in-Err-clause-is : goal.returns-in-Err-clause-is
returns-in-Err-clause-is c =
    logs_half (record { bus = c.self.inside.bus; kept = c.self.inside.kept.items; room = c.self.inside.room; passed = c.self.inside.passed }) c.args.self.now c.self.view_is c.data.new.self c.args.bytes.now (c.in-Err.ensures.fails.0 refl) c.in-Err.ensures.is _ c.keep_all-in-Err.ensures

pub returns-in-Err-clause-answer : goal.returns-in-Err-clause-answer
returns-in-Err-clause-answer c =
    subst (λ (l : LogBusState). FeedsPrefix (log_state c.args.self.now) (log_state l) (data_bytes c.args.bytes.now)) (sym (returns-in-Err-clause-is c))
    (log_fails c.args.self.now (data_bytes c.args.bytes.now) (ap (λ (l : LogBusState). next_fails l.bus.plan) (sym c.self.view_is) ∙ c.in-Err.ensures.fails.0 refl))
