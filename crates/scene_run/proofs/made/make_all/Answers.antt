use Rattle.std.proofs.Common.{[], inl, inr}
use Rattle.gui_core.specs.Machines.{machine_of}
use Rattle.scene_run.specs.Effects.{output}
use Rattle.scene_run.proofs.MadeRuns.{made_halted, made_in_range, made_no_pump, halted_rose}
use Rattle.scene_run.proofs.made.make_all.Goals as goal

pub take_lines-requires-clause-in_range : goal.take_lines-requires-clause-in_range
take_lines-requires-clause-in_range g c = rw c.requires.script (made_in_range c.args.k (machine_of c.args.run.now.gui).scene.limits)

pub take_lines-requires-clause-no_pump : goal.take_lines-requires-clause-no_pump
take_lines-requires-clause-no_pump g c =
    let first = machine_of c.args.run.now.gui in
    rw c.requires.script (made_no_pump first c.args.k first.scene.limits)

pub finish-requires : goal.finish-requires
finish-requires g c = record { free = (c.in-Ok.ensures.ok (machine_of c.args.run.now.gui) (g.P.Panel.state c.args.panel.now) [] c.requires.begun).free }

pub returns-in-Ok-clause-runs : goal.returns-in-Ok-clause-runs
returns-in-Ok-clause-runs g c = λ start h.
    let first = machine_of c.args.run.now.gui in
    c.finish.ensures.runs first start (g.P.Panel.state c.take_lines.new.panel) (rw c.requires.script at (c.in-Ok.ensures.ok first start [] h))

pub returns-in-Ok-clause-write_fault : goal.returns-in-Ok-clause-write_fault
returns-in-Ok-clause-write_fault g c = λ e. inl (c.finish.ensures.write_fault e)

pub returns-in-Err-clause-runs : goal.returns-in-Err-clause-runs
returns-in-Err-clause-runs g c = λ start h.
    let first = machine_of c.args.run.now.gui in
    inl (made_halted c.args.k first (output (g.L.Sink.state c.args.log.now) start) _ (rw c.requires.script at (c.in-Err.ensures.err first start [] h)))

pub returns-in-Err-clause-write_fault : goal.returns-in-Err-clause-write_fault
returns-in-Err-clause-write_fault g c = λ e.
    let before = g.P.Panel.state c.args.panel.now in
    inr (halted_rose _ before (g.P.Panel.state c.take_lines.new.panel) _ (c.in-Err.ensures.err (machine_of c.args.run.now.gui) before [] c.requires.begun))
