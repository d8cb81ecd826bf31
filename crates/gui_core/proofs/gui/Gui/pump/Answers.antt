use Rattle.gui_core.specs.Machines.{machine_of, stage_of}
use Rattle.gui_core.proofs.Resting.{idle_at_rest}
use Rattle.gui_core.proofs.gui.Gui.pump.Goals as goal

pub returns-clause-idle : goal.returns-clause-idle
returns-clause-idle g c = idle_at_rest (machine_of c.args.self.now).scene (stage_of c.args.self.now (g.P.Panel.state c.args.panel.now)) _ c.pump.result c.pump.ensures.pumps
