use Rattle.std.proofs.Common.{arith, sym, subst, length-take, drop, ◌+◌}
use Rattle.std.proofs.lemmas.List.{take_all, take_more, drop_more, take-append-drop}
use Rattle.gui_edge.proofs.Prefixes.{on_err}
use Rattle.scene_run.proofs.Bytes.{reads_none, reads_more}
use Rattle.scene_run.proofs.Going.{ready_less}
use Rattle.scene_run.specs.Running.{reading, Reads}
use Rattle.scene_host.specs.Answering.{answering}
use Rattle.scene_host.specs.Asked.{Hears}
use Rattle.scene_host.proofs.Hearing.{hears_none, hears_more, stops_hearing}
use Rattle.scene_host.proofs.host.Host.take_piece.Goals as goal

pub take_byte-requires : goal.take_byte-requires
take_byte-requires g c = record { ready = c.loop-byte.invariant.reads.ready 1 (ready_less _ _ _ (omega (arith, length-take c.loop-byte.byte-index c.args.piece.now)) c.requires.ready) }

pub loop-byte-init : goal.loop-byte-init
loop-byte-init g c = record { reads = reads_none _; hears = hears_none _ _ }

pub loop-byte-preserved : goal.loop-byte-preserved
loop-byte-preserved g c =
    let more = take_more c.args.piece.now c.loop-byte.byte-index 0 (omega arith) in
    let so_far = c.loop-byte.invariant in record {
      reads = reads_more _ _ _ _ _ _ more so_far.reads c.in_ok-take_byte.ensures.ok;
      hears = hears_more _ _ _ _ _ _ _ _ more so_far.reads so_far.hears c.in_ok-take_byte.ensures.hears;
    }

pub returns-in_err-take_byte-clause-err : goal.returns-in_err-take_byte-clause-err
returns-in_err-take_byte-clause-err g c =
    let piece = c.args.piece.now in
    let i = c.loop-byte.byte-index in
    let so_far = c.loop-byte.invariant in
    on_err c.from_residual.result (stops_hearing _ _ _ _ _ _ _ _ (drop (i + 1) piece) _ (rw (← drop_more piece i 0 (omega arith)) (sym (take-append-drop i piece)))
    so_far.reads so_far.hears c.in_err-take_byte.ensures.err c.in_err-take_byte.ensures.hears)

pub returns-clause-ok : goal.returns-clause-ok
returns-clause-ok g c =
    let old = reading c.args.self.now.runner (g.L.Sink.state c.args.log.now) (g.P.Panel.state c.args.panel.now) in
    let new = reading c.loop-byte.self.runner (g.L.Sink.state c.loop-byte.log) (g.P.Panel.state c.loop-byte.panel) in
    subst (Reads old new) (take_all c.loop-byte.byte-index c.args.piece.now (omega arith)) c.loop-byte.invariant.reads

pub returns-clause-heard : goal.returns-clause-heard
returns-clause-heard g c =
    let old = reading c.args.self.now.runner (g.L.Sink.state c.args.log.now) (g.P.Panel.state c.args.panel.now) in
    let asking = answering c.args.self.now.asker (g.A.Sink.state c.args.answers.now) in
    let asked = answering c.loop-byte.self.asker (g.A.Sink.state c.loop-byte.answers) in
    subst (Hears old asking asked) (take_all c.loop-byte.byte-index c.args.piece.now (omega arith)) c.loop-byte.invariant.hears
