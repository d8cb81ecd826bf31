use Rattle.std.proofs.Common.{◌∙◌, ap, arith}
use Rattle.gui_base.specs.Bounded.{bounds_of}
use Rattle.gui_base.specs.Limits.{Bounds}
use Rattle.run_defs.specs.Made.{made_says}
use Rattle.scene_run.proofs.Gone.{can_begin, since_none}
use Rattle.scene_run.proofs.MadeRuns.{made_count, made_new, made_ready}
use Rattle.scene_run.proofs.made.run_made.Goals as goal

pub make_all-requires-clause-script : goal.make_all-requires-clause-script
make_all-requires-clause-script g c = rw c.new-run.ensures (c.new-maker.ensures ∙ ap (λ (limits : Bounds). made_says c.args.k limits) c.requires.limits)

pub make_all-requires-clause-begun : goal.make_all-requires-clause-begun
make_all-requires-clause-begun g c =
    let panel = g.P.Panel.state c.args.panel.now in
    rw c.new-run.ensures (made_new c.args.gui panel panel c.requires.whole c.requires.still (can_begin c.args.gui (g.P.Panel.state c.args.panel.now) c.requires.sizes c.requires.unstarted c.requires.still) (since_none panel))

pub make_all-requires-clause-ready : goal.make_all-requires-clause-ready
make_all-requires-clause-ready g c =
    rw (c.new-run.ensures, c.new-maker.ensures) (made_ready c.args.gui (g.P.Panel.state c.args.panel.now) c.args.k (bounds_of c.args.limits.now) (can_begin c.args.gui (g.P.Panel.state c.args.panel.now) c.requires.sizes c.requires.unstarted c.requires.still) c.requires.agrees)

pub make_all-requires-clause-refused : goal.make_all-requires-clause-refused
make_all-requires-clause-refused g c = rw (c.new-run.ensures, c.new-maker.ensures) (omega (arith, made_count c.args.k (bounds_of c.args.limits.now)))

pub returns-clause-runs : goal.returns-clause-runs
returns-clause-runs g c = λ before since.
    let begun = made_new c.args.gui before (g.P.Panel.state c.args.panel.now) c.requires.whole c.requires.still (can_begin c.args.gui (g.P.Panel.state c.args.panel.now) c.requires.sizes c.requires.unstarted c.requires.still) since in
    rw c.new-run.ensures at (c.make_all.ensures.runs before (rw c.new-run.ensures begun))
