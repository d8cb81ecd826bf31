use Rattle.std.proofs.Common.{◌≡◌, ◌≢◌, arith, refl, ◌∙◌, ap, take, Bool, true, false, if◌then◌else◌}
use Rattle.scene_run.specs.declared.status.Status.{Status}
use Rattle.scene_run.specs.declared.status.Status.TheVariants.{Done, Noted, ReadFault}
use Rattle.scene_run.specs.Headline.{IfUnstarted}
use Rattle.scene_run.proofs.Going.{ready_less}
use Rattle.scene_host.proofs.Hosting.{has_gone_more, asked_unread, asked_whole, asked_broken_last, asked_broken, asked_long}
use Rattle.scene_host.proofs.reading.read_pieces.Goals as goal

pub returns-in-Err-clause-runs : goal.returns-in-Err-clause-runs
returns-in-Err-clause-runs g c = λ first start begun gone. asked_unread _ _ _ _ _ _ _ _ (c.loop.invariant.gone first start begun gone) c.in-Err.ensures.bytes

pub returns-in-Ok-finish-clause-runs : goal.returns-in-Ok-finish-clause-runs
returns-in-Ok-finish-clause-runs g c = λ first start begun gone.
    let none = c.in-Ok.ensures.bytes in
    rw c.status.ensures (asked_whole _ _ _ _ _ _ _ _ (c.loop.invariant.gone first start begun gone) (rw c.if-count-eq0.true at none.0) (none.1 c.if-count-eq0.true (omega arith)) _ _ c.in-Ok-finish.ensures.ok refl)

-- a run that came to its end was started, and does not end by a fault
ended_well : (noted : Bool) (status : Status) → status ≡ (if noted then Noted else Done) → IfUnstarted status ⊥ × (status ≢ ReadFault)
ended_well true status is = rw is (tt, λ e. cc)
ended_well false status is = rw is (tt, λ e. cc)

pub returns-in-Ok-finish-clause-started : goal.returns-in-Ok-finish-clause-started
returns-in-Ok-finish-clause-started g c = (ended_well _ c.status.result c.status.ensures).0

pub returns-in-Ok-finish-clause-read_fault : goal.returns-in-Ok-finish-clause-read_fault
returns-in-Ok-finish-clause-read_fault g c = λ e. absurd ((ended_well _ c.status.result c.status.ensures).1 e)

pub returns-in-Err-finish-clause-runs : goal.returns-in-Err-finish-clause-runs
returns-in-Err-finish-clause-runs g c = λ first start begun gone.
    let none = c.in-Ok.ensures.bytes in
    asked_broken_last _ _ _ _ _ _ _ _ (c.loop.invariant.gone first start begun gone) (rw c.if-count-eq0.true at none.0) (none.1 c.if-count-eq0.true (omega arith)) _ c.in-Err-finish.ensures.err

pub returns-in-Err-take_piece-clause-runs : goal.returns-in-Err-take_piece-clause-runs
returns-in-Err-take_piece-clause-runs g c = λ first start begun gone.
    asked_broken _ _ _ _ _ _ _ _ (c.loop.invariant.gone first start begun gone) c.read.new.buf _ c.in-Ok.count c.in-Ok.ensures.bound.0 (c.split_at.ensures.front ∙ ap (λ k. take k c.read.new.buf) c.min.ensures)
    c.in-Ok.ensures.bytes.0 _ _ c.in-Err-take_piece.ensures.err

pub returns-then-count-room-clause-runs : goal.returns-then-count-room-clause-runs
returns-then-count-room-clause-runs g c = λ first start begun gone.
    asked_long _ _ _ _ _ _ _ _ (c.loop.invariant.gone first start begun gone) c.read.new.buf _ c.in-Ok.count c.in-Ok.ensures.bound.0 (c.split_at.ensures.front ∙ ap (λ k. take k c.read.new.buf) c.min.ensures)
    c.in-Ok.ensures.bytes.0 _ _ c.if-count-room.true c.in-Ok-take_piece.ensures.ok c.in-Ok-take_piece.ensures.heard

pub loop-preserved : goal.loop-preserved
loop-preserved g c = record {
  gone = λ first start begun gone. has_gone_more _ _ _ _ _ _ _ _ (c.loop.invariant.gone first start begun gone) c.read.new.buf _ c.in-Ok.count c.in-Ok.ensures.bound.0 (c.split_at.ensures.front ∙ ap (λ k. take k c.read.new.buf) c.min.ensures)
      c.in-Ok.ensures.bytes.0 _ _ c.if-count-room.false c.in-Ok-take_piece.ensures.ok c.in-Ok-take_piece.ensures.heard;
  ready = c.in-Ok-take_piece.ensures.ok.ready _ (ready_less _ _ _ (omega (arith, c.split_at.ensures.front_len, c.min.ensures)) c.loop.invariant.ready);
  within = omega arith;
  turns = omega arith;
  source_faults = omega arith;
}
