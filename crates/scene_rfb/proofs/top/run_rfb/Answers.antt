use Rattle.std.proofs.Common.{◌∙◌, sym, ap, option_map}
use Rattle.gui_core.specs.Machines.{machine_of}
use Rattle.rfb_view.specs.Endings.{outside}
use Rattle.rfb_view.specs.Talking.{outs}
use Rattle.rfb_view.specs.Words.{numbers_of}
use Rattle.scene_rfb.proofs.Tops.{runs_served, shows_served, started}
use Rattle.scene_rfb.proofs.top.run_rfb.Goals as goal

pub returns-in-Ok-clause-runs : goal.returns-in-Ok-clause-runs
returns-in-Ok-clause-runs g c =
    let served = c.run_session.ensures in
    runs_served _ (numbers_of c.in-Ok-Some.settings) c.in-Ok.talk.ms (machine_of c.in-Ok.screen.gui)
    (outside (g.S.Source.state c.args.source.now) (outs (g.O.Sink.state c.args.out.now) (g.L.Sink.state c.args.log.now)))
    (outside (g.S.Source.state c.run_session.new.source) (outs (g.O.Sink.state c.run_session.new.out) (g.L.Sink.state c.run_session.new.log)))
    c.run_session.result (sym (ap (option_map numbers_of) (sym c.in-Ok-Some.field-0-is) ∙ c.in-Ok-Some.ensures)) c.in-Ok.ensures.ms c.in-Ok.ensures.machine served.serves served.read_fault served.write_fault

pub returns-in-Ok-clause-seen : goal.returns-in-Ok-clause-seen
returns-in-Ok-clause-seen g c =
    let served = c.run_session.ensures in
    shows_served _ (numbers_of c.in-Ok-Some.settings) c.in-Ok.talk.ms (machine_of c.in-Ok.screen.gui)
    (outside (g.S.Source.state c.args.source.now) (outs (g.O.Sink.state c.args.out.now) (g.L.Sink.state c.args.log.now)))
    (outside (g.S.Source.state c.run_session.new.source) (outs (g.O.Sink.state c.run_session.new.out) (g.L.Sink.state c.run_session.new.log)))
    c.run_session.result (sym (ap (option_map numbers_of) (sym c.in-Ok-Some.field-0-is) ∙ c.in-Ok-Some.ensures)) c.in-Ok.ensures.ms c.in-Ok.ensures.machine served.serves

pub returns-in-Ok-clause-unread : goal.returns-in-Ok-clause-unread
returns-in-Ok-clause-unread g c = started _ _ _ _ _ _ c.run_session.ensures.serves

pub returns-in-Ok-clause-unwritten : goal.returns-in-Ok-clause-unwritten
returns-in-Ok-clause-unwritten g c = started _ _ _ _ _ _ c.run_session.ensures.serves

pub returns-in-Ok-clause-unlogged : goal.returns-in-Ok-clause-unlogged
returns-in-Ok-clause-unlogged g c = started _ _ _ _ _ _ c.run_session.ensures.serves
