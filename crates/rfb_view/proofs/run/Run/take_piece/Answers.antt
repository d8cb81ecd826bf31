use Rattle.std.proofs.Common.{sym, arith, length-take, drop, ◌+◌}
use Rattle.std.proofs.lemmas.List.{take_more, drop_more, take-append-drop}
use Rattle.gui_edge.proofs.Prefixes.{on_err}
use Rattle.rfb_view.proofs.Going.{room_less, reads_more, breaks_more}
use Rattle.rfb_view.proofs.run.Run.take_piece.Goals as goal

pub take_byte-requires-clause-room : goal.take_byte-requires-clause-room
take_byte-requires-clause-room g c = c.loop-byte.invariant.reads.room 1 (room_less c.args.self.now _ _ (omega (arith, length-take c.loop-byte.byte-index c.args.piece.now)) c.requires.room)

pub loop-byte-preserved : goal.loop-byte-preserved
loop-byte-preserved g c = record {
  reads = reads_more _ _ _ _ _ _ _ _ _ _ _ _ (sym (take_more c.args.piece.now c.loop-byte.byte-index 0 (omega arith))) c.loop-byte.invariant.reads c.in_ok-take_byte.ensures.reads;
  out_faults = omega (arith, c.in_ok-take_byte.ensures.causes.out, c.loop-byte.invariant.out_faults);
  log_faults = omega (arith, c.in_ok-take_byte.ensures.causes.log, c.loop-byte.invariant.log_faults);
}

pub returns-in_err-take_byte-clause-breaks : goal.returns-in_err-take_byte-clause-breaks
returns-in_err-take_byte-clause-breaks g c =
    let piece = c.args.piece.now in
    let i = c.loop-byte.byte-index in
    on_err c.from_residual.result (breaks_more _ _ _ _ _ _ _ _ _ (drop (i + 1) piece) _ (rw (← drop_more piece i 0 (omega arith)) (take-append-drop i piece))
    c.loop-byte.invariant.reads c.in_err-take_byte.ensures.breaks)
