-- What is played on a board.
use Rattle.std.proofs.Common.{◌≡◌, ◌∙◌, sym, ap, subst, refl, Bool, true, false, ◌||◌, Option, Some, None, List, []}
use Rattle.std.specs.Prelude.{is_some}
use Rattle.gui_base.specs.Area.{Rect}
use Rattle.gui_base.specs.Limits.{Bounds}
use Rattle.gui_base.specs.declared.refusal.Refusal.{Refusal}
use Rattle.gui_base.specs.declared.Handle.{Handle}
use Rattle.gui_base.specs.declared.events.EventKind.{EventKind}
use Rattle.gui_damage.specs.Adding.{AddsAll}
use Rattle.gui_damage.specs.Pending.{Pending}
use Rattle.run_defs.specs.Events.{say, event_line}
use Rattle.gui_board.proofs.Adding.{adds_nothing}
use Rattle.debt_defs.specs.Scenes.{debt_of}
use Rattle.debt_defs.proofs.Scenes.{refused_owes_nothing}
use Rattle.run_laws.proofs.Commands.{owed_one}
use Rattle.run_defs.specs.Making.{make, make_by, is_same, is_in_state, put_state}
use Rattle.scene_defs.specs.declared.Change.TheVariants as change
use Rattle.gui_base.specs.declared.words.State.{State}
use mathlib.Core.Bool.{not, beq}
use Rattle.run_defs.specs.Machine.{Machine}
use Rattle.run_defs.specs.Play.{Rule, only, with, ◌▷◌}
use Rattle.scene_defs.specs.declared.Change.{Change}
use Rattle.scene_defs.specs.Change.{answer_of, changed, scene_by}
use Rattle.gui_change.specs.Canvas.{scene_in}
use Rattle.gui_board.specs.Boards.{stage, Quiet}
use Rattle.gui_anim.specs.Anims.{Anims}
use Rattle.gui_event.specs.Groups.{FocusGroups}
use Rattle.gui_event.specs.Handlers.{Handlers}
use Rattle.gui_board.specs.Sizes.{AreSized}
use Rattle.gui_board.specs.Stages.{Stage, Played}
use Rattle.gui_board.specs.Writing.{WritesBy}
use Rattle.gui_board.specs.declared.board.Board.{Board}
use Rattle.gui_board.proofs.Plays.{idle, played_then}

or_false : (b : Bool) → b ≡ (b || false)
or_false true = refl
or_false false = refl

-- room for what equal limits say
pub sized_for : {before after : Bounds} (handlers : Handlers) (groups : FocusGroups) (anims : Anims) → before ≡ after → AreSized handlers groups anims before → AreSized handlers groups anims after
sized_for handlers groups anims same sized = subst (AreSized handlers groups anims) same sized

-- nothing is done
pub quiet_nothing : (board : Board) → Quiet board board only
quiet_nothing board log = idle (stage board log)

-- one rule and then another, neither of which writes
pub quiet_then : (a b c : Board) (first second : Rule) → Quiet a b first → Quiet b c second → Quiet a c (first ▷ second)
quiet_then a b c first second h k log = played_then (stage a log) (stage b log) (stage c log) first second (h log) (k log)

-- another machine with the same scene, and nothing else
pub played_with : (a b : Stage) (f : Machine → Machine) → b.machine ≡ f a.machine → (f a.machine).scene ≡ a.machine.scene → b.pending ≡ a.pending →
    WritesBy a.cut b.cut a.log b.log [] → b.noted ≡ a.noted → Played a b (with f a.machine)
unfolding with
played_with a b f machine scene pending lines noted = record {
  machine = machine;
  scene = scene;
  owed = λ is. subst (λ (p : Pending). AddsAll a.pending p []) (sym pending) (adds_nothing a.pending is);
  lines = lines;
  noted = noted ∙ or_false a.noted;
}

pub ruleset quiet = (quiet_nothing)

-- the scene changed, what that owes is pending, and nothing is written
pub played_change : (old new : Stage) (change : Change) → new.machine ≡ record old.machine { scene = changed old.machine.scene change } → AddsAll old.pending new.pending (debt_of old.machine.scene change) →
    WritesBy old.cut new.cut old.log new.log [] → new.noted ≡ old.noted → Played old new (make change old.machine)
unfolding make
played_change old new change next adds lines noted = by (answer_of old.machine.scene change) refl where
  by : (answer : Option Refusal) → answer_of old.machine.scene change ≡ answer → Played old new (make_by answer change old.machine)
  by None e = record {
    machine = next;
    scene = refl;
    owed = λ is. subst (λ (areas : List Rect). AddsAll old.pending new.pending areas) (sym (owed_one old.machine.scene change)) adds;
    lines = lines;
    noted = noted ∙ or_false old.noted;
  }
  by (Some refusal) e = record {
    machine = next ∙ ap (λ (answer : Option Refusal). record old.machine { scene = scene_by answer old.machine.scene change }) e;
    scene = refl;
    owed = λ is. subst (λ (areas : List Rect). AddsAll old.pending new.pending areas) (refused_owes_nothing old.machine.scene change (ap is_some e)) adds;
    lines = lines;
    noted = noted ∙ or_false old.noted;
  }

-- the line of an event is written
pub played_say : (old new : Stage) (kind : EventKind) (target current : Handle) → new.machine ≡ old.machine → new.pending ≡ old.pending → WritesBy old.cut new.cut old.log new.log (event_line kind target current) → new.noted ≡ old.noted →
    Played old new (say kind target current old.machine)
unfolding say
played_say old new kind target current machine pending lines noted = record {
  machine = machine;
  scene = refl;
  owed = λ is. subst (λ (p : Pending). AddsAll old.pending p []) (sym pending) (adds_nothing old.pending is);
  lines = lines;
  noted = noted ∙ or_false old.noted;
}

-- a state that is not so already
pub differ : (is on : Bool) → not (beq is on) ≡ true → is_same is on ≡ false
differ true true e = cc
differ true false e = refl
differ false true e = refl
differ false false e = cc

-- a state that is so already
pub agree : (is on : Bool) → not (beq is on) ≡ false → is_same is on ≡ true
agree true true e = refl
agree true false e = cc
agree false true e = cc
agree false false e = refl

pub put_same : (board : Board) (state : State) (on : Bool) (h : Handle) → is_same (is_in_state state (scene_in board.canvas) h) on ≡ true → Quiet board board (put_state state on h)
unfolding put_state
put_same board state on h same log = rw same (idle (stage board log))

pub put_made : (old new : Stage) (state : State) (on : Bool) (h : Handle) → is_same (is_in_state state old.machine.scene h) on ≡ false →
    Played old new (make (change.State h state on) old.machine) → Played old new (put_state state on h old.machine)
unfolding put_state
put_made old new state on h apart played = rw apart played
