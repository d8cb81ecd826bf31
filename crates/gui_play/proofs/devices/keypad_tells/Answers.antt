use Rattle.std.proofs.Common.{◌∙◌, ap, subst, ℕ, Option, inl, inr, true, false}
use Rattle.gui_base.specs.declared.Handle.{Handle}
use Rattle.gui_base.specs.declared.events.EventKind.TheVariants.{LongPressed, LongPressedRepeat}
use Rattle.run_defs.specs.Devices.{keypad_tells, press_keypad, focused_at}
use Rattle.run_defs.specs.Events.{send_input}
use Rattle.run_defs.specs.Focusing.{step_focus}
use Rattle.run_defs.specs.Play.{aimed}
use Rattle.run_defs.specs.Reactions.{release}
use Rattle.gui_board.specs.Boards.{machine_of, stage, Plays}
use Rattle.gui_board.proofs.Plays.{idle}
use Rattle.gui_play.proofs.devices.keypad_tells.Goals as goal

pub returns-in-Press : goal.returns-in-Press
unfolding keypad_tells
returns-in-Press g c =
    let P : Option Handle → Type 0 = λ target. Plays c.args.board.now c.press_keypad.new.board (g.S.Sink.state c.args.log.now) (g.S.Sink.state c.press_keypad.new.log) (press_keypad target) in
    rw c.in-Press.is (subst P (c.focused-focused.ensures ∙ ap (λ (id : ℕ). focused_at (machine_of c.args.board.now) id) c.keypad_group-id.ensures) c.press_keypad.ensures)

pub returns-in-Release : goal.returns-in-Release
unfolding keypad_tells
returns-in-Release g c =
    let P : Option Handle → Type 0 = λ target. Plays c.args.board.now c.release_aimed.new.board (g.S.Sink.state c.args.log.now) (g.S.Sink.state c.release_aimed.new.log) (aimed target (release c.in-Release.long)) in
    rw c.in-Release.is (subst P c.keypad_target-target.ensures c.release_aimed.ensures)

pub returns-in-Long : goal.returns-in-Long
unfolding keypad_tells
returns-in-Long g c =
    let P : Option Handle → Type 0 = λ target. Plays c.args.board.now c.send_aimed.new.self (g.S.Sink.state c.args.log.now) (g.S.Sink.state c.send_aimed.new.log) (aimed target (send_input LongPressed)) in
    rw c.in-Long.is (subst P c.keypad_target-target.ensures c.send_aimed.ensures)

pub returns-in-Repeat : goal.returns-in-Repeat
unfolding keypad_tells
returns-in-Repeat g c =
    let P : Option Handle → Type 0 = λ target.
    Plays c.args.board.now c.send_aimed-in-Repeat.new.self (g.S.Sink.state c.args.log.now) (g.S.Sink.state c.send_aimed-in-Repeat.new.log) (aimed target (send_input LongPressedRepeat)) in
    rw c.in-Repeat.is (subst P c.keypad_target-target.ensures c.send_aimed-in-Repeat.ensures)

pub returns-in-Next : goal.returns-in-Next
unfolding keypad_tells
returns-in-Next g c =
    let P : ℕ → Type 0 = λ id. Plays c.args.board.now c.step_focus.new.self (g.S.Sink.state c.args.log.now) (g.S.Sink.state c.step_focus.new.log) (step_focus true id) in
    rw c.in-Next.is (subst P c.keypad_group-id.ensures c.step_focus.ensures)

pub returns-in-Prev : goal.returns-in-Prev
unfolding keypad_tells
returns-in-Prev g c =
    let P : ℕ → Type 0 = λ id. Plays c.args.board.now c.step_focus-in-Prev.new.self (g.S.Sink.state c.args.log.now) (g.S.Sink.state c.step_focus-in-Prev.new.log) (step_focus false id) in
    rw c.in-Prev.is (subst P c.keypad_group-id.ensures c.step_focus-in-Prev.ensures)

-- nothing comes of the rest
pub returns-in-Hold : goal.returns-in-Hold
unfolding keypad_tells
returns-in-Hold g c =
    let still = idle (stage c.args.board.now (g.S.Sink.state c.args.log.now)) in
    elim c.in-Hold.is [
      | inl hold ↦ rw hold.4 still
      | inr turn ↦ rw turn.1 still
    ]
