use Rattle.std.proofs.Common.{subst, FitsSigned, w32, rules, Option, inl, inr}
use Rattle.std.proofs.lemmas.Int.{to_z-of_z}
use Rattle.gui_base.specs.declared.Handle.{Handle}
use Rattle.gui_base.specs.declared.events.EventKind.TheVariants.{LongPressed, LongPressedRepeat}
use Rattle.play_defs.specs.declared.Scrolling.{Scrolling}
use Rattle.run_defs.specs.Devices.{pointer_tells, press_pointer}
use Rattle.run_defs.specs.Dragging.{end_press, tell_press}
use Rattle.gui_board.specs.Boards.{machine_of, stage, Plays}
use Rattle.gui_board.proofs.Plays.{idle}
use Rattle.gui_play.proofs.devices.pointer_tells.Goals as goal

pub returns-in-Press : goal.returns-in-Press
unfolding pointer_tells
returns-in-Press g c =
    let P : Option Handle → Type 0 = λ target. Plays c.args.board.now c.press_pointer.new.board (g.S.Sink.state c.args.log.now) (g.S.Sink.state c.press_pointer.new.log) (press_pointer c.args.at target) in
    rw c.in-Press.is (subst P c.hit_by-hit.ensures c.press_pointer.ensures)

pub returns-in-Hold : goal.returns-in-Hold
unfolding pointer_tells
returns-in-Hold g c =
    let from_x : FitsSigned w32 c.in-Hold.from_x = search rules in
    let from_y : FitsSigned w32 c.in-Hold.from_y = search rules in
    let step_x : FitsSigned w32 c.in-Hold.step_x = search rules in
    let step_y : FitsSigned w32 c.in-Hold.step_y = search rules in
    let done = simp to_z-of_z at c.drag_pointer.ensures in
    rw c.in-Hold.is done

pub returns-in-Release : goal.returns-in-Release
unfolding pointer_tells
returns-in-Release g c =
    let P : Option Scrolling → Option Handle → Type 0 = λ scrolling target.
    Plays c.args.board.now c.end_press.new.board (g.S.Sink.state c.args.log.now) (g.S.Sink.state c.end_press.new.log) (end_press scrolling c.in-Release.long target) in
    rw c.in-Release.is
    (subst (λ (scrolling : Option Scrolling). P scrolling (machine_of c.args.board.now).pointer.target) c.scrolling-scrolling.ensures
    (subst (λ (target : Option Handle). P c.scrolling-scrolling.result target) c.pointer_target-target.ensures c.end_press.ensures))

pub returns-in-Long : goal.returns-in-Long
unfolding pointer_tells
returns-in-Long g c =
    let P : Option Scrolling → Option Handle → Type 0 = λ scrolling target.
    Plays c.args.board.now c.tell_press.new.board (g.S.Sink.state c.args.log.now) (g.S.Sink.state c.tell_press.new.log) (tell_press scrolling LongPressed target) in
    rw c.in-Long.is
    (subst (λ (scrolling : Option Scrolling). P scrolling (machine_of c.args.board.now).pointer.target) c.scrolling-scrolling.ensures
    (subst (λ (target : Option Handle). P c.scrolling-scrolling.result target) c.pointer_target-target.ensures c.tell_press.ensures))

pub returns-in-Repeat : goal.returns-in-Repeat
unfolding pointer_tells
returns-in-Repeat g c =
    let P : Option Scrolling → Option Handle → Type 0 = λ scrolling target.
    Plays c.args.board.now c.tell_press-in-Repeat.new.board (g.S.Sink.state c.args.log.now) (g.S.Sink.state c.tell_press-in-Repeat.new.log) (tell_press scrolling LongPressedRepeat target) in
    rw c.in-Repeat.is
    (subst (λ (scrolling : Option Scrolling). P scrolling (machine_of c.args.board.now).pointer.target) c.scrolling-scrolling.ensures
    (subst (λ (target : Option Handle). P c.scrolling-scrolling.result target) c.pointer_target-target.ensures c.tell_press-in-Repeat.ensures))

-- nothing comes of the rest
pub returns-in-Key : goal.returns-in-Key
unfolding pointer_tells
returns-in-Key g c =
    let still = idle (stage c.args.board.now (g.S.Sink.state c.args.log.now)) in
    elim c.in-Key.is [
      | inl key ↦ rw key.1 still
      | inr others ↦ elim others [
        | inl turn ↦ rw turn.1 still
        | inr moves ↦ elim moves [
          | inl next ↦ rw next still
          | inr prev ↦ rw prev still
        ]
      ]
    ]
