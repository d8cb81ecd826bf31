use Rattle.std.proofs.Common.{◌∙◌, sym, ap, true, false}
use Rattle.gui_edge.specs.FaultPlan.{next_fails}
use Rattle.panel_dcs.specs.Controller.{fed, data_bytes}
use Rattle.panel_dcs.specs.SimBus.{SimBusState, after_bytes}
use Rattle.panel_dcs.proofs.Buses.{sim_answers, sim_fails, sim_is, half_data}
use Rattle.panel_dcs.proofs.sim_bus.SimBusBus.data.Goals as goal

pub returns-then-call_fails-clause-is : goal.returns-then-call_fails-clause-is
returns-then-call_fails-clause-is c =
    sim_is (record { chip = c.self.inside.chip; plan = c.self.inside.plan }) c.take_all.new.self c.call_fails.new.self (data_bytes c.args.bytes.now) true (sym c.call_fails.ensures.answer ∙ c.if-call_fails.true) (c.take_all.ensures ∙ ap (λ l. fed c.self.inside.chip l) (half_data c.args.bytes.now)) c.call_fails.ensures.plan
    ∙ ap (λ (s : SimBusState). after_bytes s (data_bytes c.args.bytes.now)) c.self.view_is

pub returns-then-call_fails-clause-answer : goal.returns-then-call_fails-clause-answer
returns-then-call_fails-clause-answer c =
    sim_fails c.args.self.now _ (data_bytes c.args.bytes.now) (ap (λ (s : SimBusState). next_fails s.plan) (sym c.self.view_is) ∙ sym c.call_fails.ensures.answer ∙ c.if-call_fails.true) (returns-then-call_fails-clause-is c)

pub returns-clause-is : goal.returns-clause-is
returns-clause-is c =
    sim_is (record { chip = c.self.inside.chip; plan = c.self.inside.plan }) c.take_all-2.new.self c.call_fails.new.self (data_bytes c.args.bytes.now) false (sym c.call_fails.ensures.answer ∙ c.if-call_fails.false) c.take_all-2.ensures c.call_fails.ensures.plan
    ∙ ap (λ (s : SimBusState). after_bytes s (data_bytes c.args.bytes.now)) c.self.view_is

pub returns-clause-answer : goal.returns-clause-answer
returns-clause-answer c =
    sim_answers c.args.self.now _ (data_bytes c.args.bytes.now) (ap (λ (s : SimBusState). next_fails s.plan) (sym c.self.view_is) ∙ sym c.call_fails.ensures.answer ∙ c.if-call_fails.false) (returns-clause-is c)
