use Rattle.std.proofs.Common.{◌∙◌, ap, inl, inr, subst, ℕ, Option}
use Rattle.gui_base.specs.declared.Handle.{Handle}
use Rattle.run_defs.specs.Devices.{encoder_tells, focused_at, long_push, press_encoder, release_push}
use Rattle.run_defs.specs.Play.{aimed}
use Rattle.gui_board.specs.Boards.{machine_of, stage, Plays}
use Rattle.gui_board.proofs.Plays.{idle}
use Rattle.gui_play.proofs.devices.encoder_tells.Goals as goal

pub returns-in-Press : goal.returns-in-Press
unfolding encoder_tells
returns-in-Press g c =
    let P : Option Handle → Type 0 = λ target. Plays c.args.board.now c.press_encoder.new.board (g.S.Sink.state c.args.log.now) (g.S.Sink.state c.press_encoder.new.log) (press_encoder target) in
    rw c.in-Press.is (subst P (c.focused-focused.ensures ∙ ap (λ (id : ℕ). focused_at (machine_of c.args.board.now) id) c.encoder_group-id.ensures) c.press_encoder.ensures)

pub returns-in-Release : goal.returns-in-Release
unfolding encoder_tells
returns-in-Release g c =
    let P : Option Handle → Type 0 = λ target. Plays c.args.board.now c.release_push_aimed.new.board (g.S.Sink.state c.args.log.now) (g.S.Sink.state c.release_push_aimed.new.log) (aimed target (release_push c.in-Release.long)) in
    rw c.in-Release.is (subst P c.encoder_target-target.ensures c.release_push_aimed.ensures)

pub returns-in-Long : goal.returns-in-Long
unfolding encoder_tells
returns-in-Long g c =
    let log = g.S.Sink.state c.args.log.now in
    let P : Option Handle → ℕ → Type 0 = λ target id. Plays c.args.board.now c.long_push.new.board log log (long_push target id) in
    rw c.in-Long.is
    (subst (λ (target : Option Handle). P target (machine_of c.args.board.now).encoder_group) c.encoder_target-target.ensures
    (subst (λ (id : ℕ). P c.encoder_target-target.result id) c.encoder_group-id.ensures (c.long_push.ensures log)))

-- nothing comes of the rest
pub returns-in-Hold : goal.returns-in-Hold
unfolding encoder_tells
returns-in-Hold g c =
    let still = idle (stage c.args.board.now (g.S.Sink.state c.args.log.now)) in
    elim c.in-Hold.is [
      | inl hold ↦ rw hold.4 still
      | inr others ↦ elim others [
        | inl repeat ↦ rw repeat still
        | inr keys ↦ elim keys [
          | inl key ↦ rw key.1 still
          | inr turned ↦ elim turned [
            | inl next ↦ rw next still
            | inr prev ↦ rw prev still
          ]
        ]
      ]
    ]
