use Rattle.std.proofs.Common.{arith}
use Rattle.std.proofs.lemmas.Grind.{common_steps}
use Rattle.panel_dcs.proofs.Buses.{keeps_first}
use Rattle.panel_dcs.proofs.sim_bus.LogBus.keep_all.Goals as goal

pub returns-then-free-bytes : goal.returns-then-free-bytes
returns-then-free-bytes c =
    keeps_first (record { bus = c.self.inside.bus; kept = c.self.inside.kept.items; room = c.self.inside.room; passed = c.self.inside.passed }) c.args.self.now c.self.view_is c.args.is_command c.args.bytes.now _ (grind (arith, common_steps)) c.if-free-bytes.true _ c.keep_some.ensures
