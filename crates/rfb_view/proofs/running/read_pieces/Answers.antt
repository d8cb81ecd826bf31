use Rattle.std.proofs.Common.{◌∙◌, ◌≡◌, sym, refl, arith, Option, Some, None}
use Rattle.session_defs.specs.declared.RfbBad.{RfbBad}
use Rattle.rfb_view.specs.Talking.{outs}
use Rattle.rfb_view.proofs.Gone.{gone_none, gone_more, serves_unread, serves_whole, serves_broken_last, serves_broken, serves_long, serves_bad, not_long, no_read_fault, no_write_fault}
use Rattle.rfb_view.proofs.running.read_pieces.Goals as goal

pub returns-in-Err-clause-serves : goal.returns-in-Err-clause-serves
returns-in-Err-clause-serves g c = λ first start r. serves_unread _ _ _ _ _ _ _ _ _ _ c.loop.invariant.gone c.loop.invariant.short c.loop.invariant.quiet c.in-Err.ensures.bytes first start r

pub returns-in-Ok-finish-clause-serves : goal.returns-in-Ok-finish-clause-serves
returns-in-Ok-finish-clause-serves g c = λ first start r.
    let none = c.in-Ok.ensures.bytes in
    serves_whole _ _ _ _ _ _ _ _ _ _ c.loop.invariant.gone _ _ c.in-Ok-finish.ensures.well c.loop.invariant.short c.loop.invariant.quiet (rw c.if-count-eq0.true at none.0) (none.1 c.if-count-eq0.true (omega arith)) c.in-Ok-finish.ensures.ends first start r

pub returns-in-Ok-finish-clause-read_fault : goal.returns-in-Ok-finish-clause-read_fault
returns-in-Ok-finish-clause-read_fault g c = λ e. no_read_fault _ c.in-Ok-finish.ensures.well e

pub returns-in-Ok-finish-clause-write_fault : goal.returns-in-Ok-finish-clause-write_fault
returns-in-Ok-finish-clause-write_fault g c = λ e. no_write_fault _ c.in-Ok-finish.ensures.well e

pub returns-in-Err-finish-clause-serves : goal.returns-in-Err-finish-clause-serves
returns-in-Err-finish-clause-serves g c = λ first start r.
    let none = c.in-Ok.ensures.bytes in
    serves_broken_last _ _ _ _ _ _ _ _ _ _ c.loop.invariant.gone _ (rw c.if-count-eq0.true at none.0) (none.1 c.if-count-eq0.true (omega arith)) c.in-Err-finish.ensures.breaks first start r

pub returns-in-Err-take_piece-clause-serves : goal.returns-in-Err-take_piece-clause-serves
returns-in-Err-take_piece-clause-serves g c = λ first start r.
    serves_broken _ _ _ _ _ _ _ _ _ _ c.loop.invariant.gone c.loop.invariant.short c.loop.invariant.quiet c.read.new.buf _ c.in-Ok.count c.in-Ok.ensures.bound.0 (omega arith) c.split_at.ensures.front c.in-Ok.ensures.bytes.0 _ c.in-Err-take_piece.ensures.breaks first start r

pub finish-requires : goal.finish-requires
finish-requires g c = record { number = λ b. let script = c.loop.invariant.short.script b in let few = c.loop.invariant.number in omega (arith, script, few) }

pub returns-then-is_too_long-clause-serves : goal.returns-then-is_too_long-clause-serves
returns-then-is_too_long-clause-serves g c = λ first start r.
    serves_long _ _ _ _ _ _ _ _ _ (gone_more _ _ _ _ _ _ _ _ _ _ c.loop.invariant.gone c.loop.invariant.short c.loop.invariant.quiet c.read.new.buf _ c.in-Ok.count c.in-Ok.ensures.bound.0 (omega arith) c.split_at.ensures.front c.in-Ok.ensures.bytes.0 _ _ _ c.in-Ok-take_piece.ensures.reads)
    (sym c.is_too_long.ensures ∙ c.if-is_too_long.true) first start r

pub returns-in-Some-clause-serves : goal.returns-in-Some-clause-serves
returns-in-Some-clause-serves g c = λ first start r.
    serves_bad _ _ _ _ _ _ _ _ _ (gone_more _ _ _ _ _ _ _ _ _ _ c.loop.invariant.gone c.loop.invariant.short c.loop.invariant.quiet c.read.new.buf _ c.in-Ok.count c.in-Ok.ensures.bound.0 (omega arith) c.split_at.ensures.front c.in-Ok.ensures.bytes.0 _ _ _ c.in-Ok-take_piece.ensures.reads)
    _ (not_long _ _ (sym c.is_too_long.ensures ∙ c.if-is_too_long.false)) c.in-Some.is first start r

quiet : (fault : Option RfbBad) → ((why : RfbBad) → fault ≡ Some why → ⊥) → fault ≡ None
quiet None k = refl
quiet (Some why) k = absurd (k why refl)

pub loop-init : goal.loop-init
loop-init g c =
    let number = c.requires.number in let count = c.requires.count in
    record {
      gone = gone_none (g.S.Source.state c.args.source.now) (g.V.Viewed.machine c.args.viewed.now) c.args.run.now (outs (g.O.Sink.state c.args.out.now) (g.L.Sink.state c.args.log.now));
      over = c.requires.over;
      quiet = c.requires.quiet;
      short = record { script = λ begun. omega arith; all = omega arith };
      number = omega (arith, number);
      count = omega (arith, count);
      turns = omega arith;
      source_faults = omega arith;
      out_faults = omega arith;
      log_faults = omega arith;
    }

pub loop-preserved : goal.loop-preserved
loop-preserved g c =
    let reads = c.in-Ok-take_piece.ensures.reads in
    let inv = c.loop.invariant in
    let len = c.split_at.ensures.front_len in
    let number = reads.number in let count = reads.count in
    let few = inv.number in let heard = inv.count in let turns = inv.turns in
    let some = c.if-count-eq0.false in
    let source = inv.source_faults in let out = inv.out_faults in let log = inv.log_faults in
    let wrote = c.take_piece.ensures.causes.out in let logged = c.take_piece.ensures.causes.log in
    record {
      gone = gone_more _ _ _ _ _ _ _ _ _ _ inv.gone inv.short inv.quiet c.read.new.buf _ c.in-Ok.count c.in-Ok.ensures.bound.0 (omega arith) c.split_at.ensures.front c.in-Ok.ensures.bytes.0 _ _ _ reads;
      over = reads.over;
      quiet = quiet _ c.in_default.not-Some;
      short = not_long _ _ (sym c.is_too_long.ensures ∙ c.if-is_too_long.false);
      number = omega (arith, number, few, len);
      count = omega (arith, count, heard, len);
      turns = omega (arith, turns, some);
      source_faults = omega (arith, source);
      out_faults = omega (arith, out, wrote);
      log_faults = omega (arith, log, logged);
    }
