use Rattle.std.proofs.Common.{ap, arith}
use Rattle.gui_core.specs.Machines.{machine_of}
use Rattle.scene_run.proofs.Going.{halted_cause}
use Rattle.scene_run.proofs.Gone.{can_begin, since_none}
use Rattle.scene_host.proofs.Hosting.{gone_first}
use Rattle.scene_host.proofs.reading.read_asked.Goals as goal

pub read_pieces-status-requires : goal.read_pieces-status-requires
read_pieces-status-requires g c =
    let can = can_begin c.args.gui (g.P.Panel.state c.args.panel.now) c.requires.sizes c.requires.unstarted c.requires.still in
    rw c.new-runner.ensures.gui (record { can = can; agrees = c.requires.agrees; number = omega (arith, c.new-runner.ensures.number); frame = omega (arith, c.new-runner.ensures.frame) })

pub returns-clause-runs : goal.returns-clause-runs
returns-clause-runs g c =
    let e = c.new-runner.ensures in
    λ before since. rw c.has_answered.ensures (c.read_pieces-status.ensures.runs (machine_of c.args.gui) _ _
    (gone_first (machine_of c.args.gui) _ _ before _ c.new-runner.result (ap machine_of e.gui) e.line e.number e.frame e.noted (rw e.gui c.requires.whole) (rw e.gui c.requires.still) (rw e.gui (can_begin c.args.gui (g.P.Panel.state c.args.panel.now) c.requires.sizes c.requires.unstarted c.requires.still)) since
    _ _ c.new-asker.ensures.line c.new-asker.ensures.answered))

pub returns-clause-write_fault : goal.returns-clause-write_fault
returns-clause-write_fault g c = λ e. halted_cause _ _ _ _ (rw e at (returns-clause-runs g c _ (since_none _)).runs).ended
