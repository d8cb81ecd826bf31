use Rattle.std.proofs.Common.{◌∙◌, sym, ap, true, false, ◌∷◌, []}
use Rattle.gui_edge.specs.FaultPlan.{next_fails}
use Rattle.panel_dcs.specs.Controller.{command_byte}
use Rattle.panel_dcs.specs.SimBus.{SimBusState, after_bytes}
use Rattle.panel_dcs.proofs.Buses.{sim_answers, sim_fails, sim_is, no_command, one_command}
use Rattle.panel_dcs.proofs.sim_bus.SimBusBus.command.Goals as goal

pub returns-then-call_fails-clause-is : goal.returns-then-call_fails-clause-is
returns-then-call_fails-clause-is c =
    sim_is (record { chip = c.self.inside.chip; plan = c.self.inside.plan }) c.self.inside.chip c.call_fails.new.self (command_byte c.args.byte ∷ []) true (sym c.call_fails.ensures.answer ∙ c.if-call_fails.true) (no_command c.self.inside.chip c.args.byte) c.call_fails.ensures.plan
    ∙ ap (λ (s : SimBusState). after_bytes s (command_byte c.args.byte ∷ [])) c.self.view_is

pub returns-then-call_fails-clause-answer : goal.returns-then-call_fails-clause-answer
returns-then-call_fails-clause-answer c =
    sim_fails c.args.self.now _ (command_byte c.args.byte ∷ []) (ap (λ (s : SimBusState). next_fails s.plan) (sym c.self.view_is) ∙ sym c.call_fails.ensures.answer ∙ c.if-call_fails.true) (returns-then-call_fails-clause-is c)

pub returns-clause-is : goal.returns-clause-is
returns-clause-is c =
    sim_is (record { chip = c.self.inside.chip; plan = c.self.inside.plan }) c.take_command.new.self c.call_fails.new.self (command_byte c.args.byte ∷ []) false (sym c.call_fails.ensures.answer ∙ c.if-call_fails.false) (c.take_command.ensures ∙ one_command c.self.inside.chip c.args.byte) c.call_fails.ensures.plan
    ∙ ap (λ (s : SimBusState). after_bytes s (command_byte c.args.byte ∷ [])) c.self.view_is

pub returns-clause-answer : goal.returns-clause-answer
returns-clause-answer c =
    sim_answers c.args.self.now _ (command_byte c.args.byte ∷ []) (ap (λ (s : SimBusState). next_fails s.plan) (sym c.self.view_is) ∙ sym c.call_fails.ensures.answer ∙ c.if-call_fails.false) (returns-clause-is c)
