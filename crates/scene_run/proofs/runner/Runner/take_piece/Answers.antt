use Rattle.std.proofs.Common.{arith, sym, subst, length-take, drop, ◌+◌}
use Rattle.std.proofs.lemmas.List.{take_all, take_more, drop_more, take-append-drop}
use Rattle.gui_edge.proofs.Prefixes.{on_err}
use Rattle.scene_run.proofs.Going.{ready_less}
use Rattle.scene_run.specs.Running.{reading, Reads}
use Rattle.scene_run.proofs.Bytes.{reads_none, reads_more, stops_more}
use Rattle.scene_run.proofs.runner.Runner.take_piece.Goals as goal

pub take_byte-requires : goal.take_byte-requires
take_byte-requires g c = record { ready = c.loop-byte.invariant.ready 1 (ready_less _ _ _ (omega (arith, length-take c.loop-byte.byte-index c.args.piece.now)) c.requires.ready) }

pub loop-byte-preserved : goal.loop-byte-preserved
loop-byte-preserved g c = reads_more _ _ _ _ _ _ (take_more c.args.piece.now c.loop-byte.byte-index 0 (omega arith)) c.loop-byte.invariant c.in_ok-take_byte.ensures.ok

pub returns-in_err-take_byte-clause-err : goal.returns-in_err-take_byte-clause-err
returns-in_err-take_byte-clause-err g c =
    let piece = c.args.piece.now in
    let i = c.loop-byte.byte-index in
    on_err c.from_residual.result (stops_more _ _ _ _ _ (drop (i + 1) piece) _ (rw (← drop_more piece i 0 (omega arith)) (sym (take-append-drop i piece)))
    c.loop-byte.invariant c.in_err-take_byte.ensures.err)

pub loop-byte-init : goal.loop-byte-init
loop-byte-init g c = reads_none _

pub returns-clause-ok : goal.returns-clause-ok
returns-clause-ok g c =
    let old = reading c.args.self.now (g.L.Sink.state c.args.log.now) (g.P.Panel.state c.args.panel.now) in
    let new = reading c.loop-byte.self (g.L.Sink.state c.loop-byte.log) (g.P.Panel.state c.loop-byte.panel) in
    subst (Reads old new) (take_all c.loop-byte.byte-index c.args.piece.now (omega arith)) c.loop-byte.invariant
