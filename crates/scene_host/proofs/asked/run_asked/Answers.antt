use Rattle.std.proofs.Common.{◌∙◌, ap, refl, sym, true, option_map}
use Rattle.gui_base.specs.Bounded.{bounds_of}
use Rattle.gui_core.specs.Machines.{machine_of}
use Rattle.run_defs.specs.Machine.{Machine}
use Rattle.scene_run.specs.Effects.{output}
use Rattle.scene_run.specs.Headline.{outside, MadeEnded}
use Rattle.scene_run.specs.declared.status.Status.TheVariants.{Usage}
use Rattle.scene_run.proofs.Headlines.{unstarted, sizes_opened, unless_started, still_of, since_opening, fault_since, not_asked, runs_usage, runs_no_memory, runs_panel_fault, runs_started}
use Rattle.scene_host.proofs.Ending.{answers_asked, answers_made, answers_none}
use Rattle.scene_host.proofs.asked.run_asked.Given.{Over}
use Rattle.scene_host.proofs.asked.run_asked.Goals as goal
use Rattle.scene_host.proofs.asked.run_asked.Goals.{After-run_made}

pub read_asked-requires-clause-unstarted : goal.read_asked-requires-clause-unstarted
read_asked-requires-clause-unstarted g c = unstarted (g.P.Panel.state c.args.panel.now) (g.P.Panel.state c.open-2.new.self) _ _ _ _ c.requires (g.met.P.Panel.flying c.args.panel.now) c.in-Ok-open.ensures

pub read_asked-requires-clause-still : goal.read_asked-requires-clause-still
read_asked-requires-clause-still g c = still_of _ c.in-Ok.ensures.still

pub run_made-requires-clause-unstarted : goal.run_made-requires-clause-unstarted
run_made-requires-clause-unstarted g c = unstarted (g.P.Panel.state c.args.panel.now) (g.P.Panel.state c.open-2.new.self) _ _ _ _ c.requires (g.met.P.Panel.flying c.args.panel.now) c.in-Ok-open.ensures

pub run_made-requires-clause-still : goal.run_made-requires-clause-still
run_made-requires-clause-still g c = still_of _ c.in-Ok.ensures.still

pub returns-in-None-clause-runs : goal.returns-in-None-clause-runs
returns-in-None-clause-runs g c =
    let closed = g.P.Panel.state c.args.panel.now in
    let after = g.P.Panel.state c.read_asked.new.panel in
    runs_started _ (bounds_of c.in-Ok-Some.limits) (machine_of c.in-Ok.gui) (outside (g.S.Source.state c.args.source.now) (g.L.Sink.state c.args.log.now) closed)
    (outside (g.S.Source.state c.read_asked.new.source) (g.L.Sink.state c.read_asked.new.log) after)
    c.read_asked.result.0 (ap (option_map bounds_of) (sym c.in-Ok-Some.field-0-is) ∙ c.in-Ok-Some.ensures) c.in-Ok.ensures.machine
    (rw c.in-None.is (c.read_asked.ensures.runs closed (since_opening closed (g.P.Panel.state c.open-2.new.self) _ _ _ _ c.in-Ok-open.ensures)).runs) c.read_asked.ensures.started c.read_asked.ensures.read_fault
    (λ e. fault_since closed (g.P.Panel.state c.open-2.new.self) _ _ _ _ c.in-Ok-open.ensures _ _ (c.read_asked.ensures.write_fault e))

module _ (g : Over) (c : After-run_made g) where
  made_ended : MadeEnded c.in-Some.k (machine_of c.in-Ok.gui) (output (g.L.Sink.state c.args.log.now) (g.P.Panel.state c.args.panel.now)) (output (g.L.Sink.state c.run_made.new.log) (g.P.Panel.state c.run_made.new.panel)) c.run_made.result
  made_ended =
      let closed = g.P.Panel.state c.args.panel.now in
      c.run_made.ensures.runs closed (since_opening closed (g.P.Panel.state c.open-2.new.self) _ _ _ _ c.in-Ok-open.ensures)

pub returns-in-Ok-open-clause-runs : goal.returns-in-Ok-open-clause-runs
returns-in-Ok-open-clause-runs g c =
    let closed = g.P.Panel.state c.args.panel.now in
    runs_started _ (bounds_of c.in-Ok-Some.limits) (machine_of c.in-Ok.gui) (outside (g.S.Source.state c.args.source.now) (g.L.Sink.state c.args.log.now) closed)
    (outside (g.S.Source.state c.args.source.now) (g.L.Sink.state c.run_made.new.log) (g.P.Panel.state c.run_made.new.panel))
    c.run_made.result (ap (option_map bounds_of) (sym c.in-Ok-Some.field-0-is) ∙ c.in-Ok-Some.ensures) c.in-Ok.ensures.machine (rw c.in-Some.is (record { unread = refl; ended = made_ended g c })) c.run_made.ensures.started
    (λ e. absurd (rw e at (made_ended g c)))
    (λ e. fault_since closed (g.P.Panel.state c.open-2.new.self) _ _ _ _ c.in-Ok-open.ensures _ _ (c.run_made.ensures.write_fault e))

pub returns-in-Ok-None-clause-runs : goal.returns-in-Ok-None-clause-runs
returns-in-Ok-None-clause-runs g c = runs_usage _ (outside (g.S.Source.state c.args.source.now) (g.L.Sink.state c.args.log.now) (g.P.Panel.state c.args.panel.now))
    (sym (ap (option_map bounds_of) (sym c.in-Ok-None.field-0-is) ∙ c.in-Ok-None.ensures)) c.requires

pub returns-in-Err-clause-runs : goal.returns-in-Err-clause-runs
returns-in-Err-clause-runs g c = runs_no_memory _ (g.S.Source.state c.args.source.now) (g.L.Sink.state c.args.log.now) _ _ (not_asked (g.P.Panel.state c.args.panel.now) c.requires)

pub returns-in-Err-open-clause-runs : goal.returns-in-Err-open-clause-runs
returns-in-Err-open-clause-runs g c = runs_no_memory _ (g.S.Source.state c.args.source.now) (g.L.Sink.state c.args.log.now) _ _ (not_asked (g.P.Panel.state c.args.panel.now) c.requires)

pub returns-in-Err-Failed-clause-runs : goal.returns-in-Err-Failed-clause-runs
returns-in-Err-Failed-clause-runs g c =
    let opens = rw c.in-Err-Failed.field-0-is at c.in-Err-Failed.ensures in
    runs_panel_fault _ (bounds_of c.in-Ok-Some.limits) (g.S.Source.state c.args.source.now) (g.L.Sink.state c.args.log.now) (g.P.Panel.state c.args.panel.now) (g.P.Panel.state c.open-2.new.self)
    (ap (option_map bounds_of) (sym c.in-Ok-Some.field-0-is) ∙ c.in-Ok-Some.ensures) opens.0 opens.1

pub returns-clause-runs : goal.returns-clause-runs
returns-clause-runs g c =
    let opens = rw c.in-Err-NoMemory.field-0-is at c.in-Err-NoMemory.ensures in
    runs_no_memory _ (g.S.Source.state c.args.source.now) (g.L.Sink.state c.args.log.now) (g.P.Panel.state c.args.panel.now) (g.P.Panel.state c.open-2.new.self) opens.0

pub run_made-requires-clause-least : goal.run_made-requires-clause-least
run_made-requires-clause-least g c = (c.in-Ok-Some.limits.made c.in-Some.k c.in-Some.is).0

pub run_made-requires-clause-most : goal.run_made-requires-clause-most
run_made-requires-clause-most g c = (c.in-Ok-Some.limits.made c.in-Some.k c.in-Some.is).1

pub read_asked-requires-clause-sizes : goal.read_asked-requires-clause-sizes
read_asked-requires-clause-sizes g c = sizes_opened (g.P.Panel.state c.args.panel.now) (g.P.Panel.state c.open-2.new.self) (bounds_of c.in-Ok-Some.limits) (machine_of c.in-Ok.gui) c.in-Ok-Some.limits.panel c.in-Ok.ensures.machine c.in-Ok-open.ensures

pub read_asked-requires-clause-whole : goal.read_asked-requires-clause-whole
read_asked-requires-clause-whole g c = c.in-Ok.ensures.whole

pub read_asked-requires-clause-agrees : goal.read_asked-requires-clause-agrees
read_asked-requires-clause-agrees g c = c.in-Ok.ensures.agrees _ (sizes_opened (g.P.Panel.state c.args.panel.now) (g.P.Panel.state c.open-2.new.self) (bounds_of c.in-Ok-Some.limits) (machine_of c.in-Ok.gui) c.in-Ok-Some.limits.panel c.in-Ok.ensures.machine c.in-Ok-open.ensures)

pub run_made-requires-clause-sizes : goal.run_made-requires-clause-sizes
run_made-requires-clause-sizes g c = sizes_opened (g.P.Panel.state c.args.panel.now) (g.P.Panel.state c.open-2.new.self) (bounds_of c.in-Ok-Some.limits) (machine_of c.in-Ok.gui) c.in-Ok-Some.limits.panel c.in-Ok.ensures.machine c.in-Ok-open.ensures

pub run_made-requires-clause-whole : goal.run_made-requires-clause-whole
run_made-requires-clause-whole g c = c.in-Ok.ensures.whole

pub run_made-requires-clause-agrees : goal.run_made-requires-clause-agrees
run_made-requires-clause-agrees g c = c.in-Ok.ensures.agrees _ (sizes_opened (g.P.Panel.state c.args.panel.now) (g.P.Panel.state c.open-2.new.self) (bounds_of c.in-Ok-Some.limits) (machine_of c.in-Ok.gui) c.in-Ok-Some.limits.panel c.in-Ok.ensures.machine c.in-Ok-open.ensures)

pub run_made-requires-clause-limits : goal.run_made-requires-clause-limits
run_made-requires-clause-limits g c = sym (ap (λ (m : Machine). m.scene.limits) c.in-Ok.ensures.machine)

pub returns-in-None-clause-unread : goal.returns-in-None-clause-unread
returns-in-None-clause-unread g c = unless_started _ _ c.read_asked.ensures.started

pub returns-in-None-clause-unwritten : goal.returns-in-None-clause-unwritten
returns-in-None-clause-unwritten g c = unless_started _ _ c.read_asked.ensures.started

pub returns-in-None-clause-unopened : goal.returns-in-None-clause-unopened
returns-in-None-clause-unopened g c = λ e. absurd (rw e at c.read_asked.ensures.started)

pub returns-in-Ok-open-clause-unread : goal.returns-in-Ok-open-clause-unread
returns-in-Ok-open-clause-unread g c = unless_started _ _ c.run_made.ensures.started

pub returns-in-Ok-open-clause-unwritten : goal.returns-in-Ok-open-clause-unwritten
returns-in-Ok-open-clause-unwritten g c = unless_started _ _ c.run_made.ensures.started

pub returns-in-Ok-open-clause-unopened : goal.returns-in-Ok-open-clause-unopened
returns-in-Ok-open-clause-unopened g c = λ e. absurd (rw e at c.run_made.ensures.started)

pub returns-in-None-clause-unanswered : goal.returns-in-None-clause-unanswered
returns-in-None-clause-unanswered g c = unless_started _ _ c.read_asked.ensures.started

pub returns-in-Ok-open-clause-unanswered : goal.returns-in-Ok-open-clause-unanswered
returns-in-Ok-open-clause-unanswered g c = unless_started _ _ c.run_made.ensures.started

pub returns-in-None-clause-answers : goal.returns-in-None-clause-answers
returns-in-None-clause-answers g c =
    let closed = g.P.Panel.state c.args.panel.now in
    answers_asked _ (bounds_of c.in-Ok-Some.limits) (machine_of c.in-Ok.gui) _ _ _ _ _ _ (ap (option_map bounds_of) (sym c.in-Ok-Some.field-0-is) ∙ c.in-Ok-Some.ensures) c.in-None.is c.in-Ok.ensures.machine
    (c.read_asked.ensures.runs closed (since_opening closed (g.P.Panel.state c.open-2.new.self) _ _ _ _ c.in-Ok-open.ensures))

pub returns-in-Ok-open-clause-answers : goal.returns-in-Ok-open-clause-answers
returns-in-Ok-open-clause-answers g c = answers_made _ (bounds_of c.in-Ok-Some.limits) c.in-Some.k _ _ _ _ (ap (option_map bounds_of) (sym c.in-Ok-Some.field-0-is) ∙ c.in-Ok-Some.ensures) c.in-Some.is

pub returns-in-Ok-None-clause-answers : goal.returns-in-Ok-None-clause-answers
returns-in-Ok-None-clause-answers g c =
    let start = outside (g.S.Source.state c.args.source.now) (g.L.Sink.state c.args.log.now) (g.P.Panel.state c.args.panel.now) in
    let answers = g.A.Sink.state c.args.answers.now in
    answers_none _ start start answers answers true Usage (sym (ap (option_map bounds_of) (sym c.in-Ok-None.field-0-is) ∙ c.in-Ok-None.ensures))
