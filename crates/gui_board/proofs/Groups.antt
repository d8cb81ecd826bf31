-- An object leaves its group.
use Rattle.std.proofs.Common.{◌≡◌, ◌∙◌, sym, ap, subst, ℕ, true, Option, Some, None, Ok, Err}
use Rattle.std.specs.Prelude.{OnOk}
use Rattle.gui_base.specs.declared.Handle.{Handle}
use Rattle.gui_base.specs.declared.words.State.TheVariants.{Focused}
use Rattle.gui_event.specs.Groups.{FocusGroups, Answer, leave_answer, left, left_by}
use Rattle.play_defs.specs.Focus.{Groups, group_of, with_focused}
use Rattle.play_defs.specs.Focus as focus
use Rattle.run_defs.specs.Making.{heir, leave_from, leave_group, pass_on, put_state, with_groups}
use Rattle.gui_board.specs.Stages.{Stage, Played}
use Rattle.gui_board.proofs.Plays.{idle, played_then}

-- a member of a group leaves it
pub has_left : (s t : FocusGroups) (id : ℕ) (h : Handle) (r : Answer) → group_of s.all h ≡ Some id → r ≡ leave_answer s h → OnOk r (t ≡ left s h) → t ≡ record s { all = focus.left s.all id h }
has_left s t id h (Ok u) is answer ok = ok ∙ ap (λ (o : Option ℕ). left_by o s h) is
has_left s t id h (Err why) is answer ok = let wrong = rw is at answer in cc

-- its heir gets the focus, if there is one
pub passed_to : (a b c : Stage) (id : ℕ) (h k : Handle) (to : Option Handle) → to ≡ Some k → Played b c (put_state Focused true k b.machine) →
    Played a b (with_groups (λ groups. with_focused (focus.left groups id h) id (Some k)) a.machine) → Played a c (pass_on id h to a.machine)
passed_to a b c id h k to is later first =
    subst (λ (o : Option Handle). Played a c (pass_on id h o a.machine)) (sym is)
    (played_then a b c (with_groups (λ groups. with_focused (focus.left groups id h) id (Some k))) (put_state Focused true k) first later)

pub passed_to_none : (a b : Stage) (id : ℕ) (h : Handle) (to : Option Handle) → to ≡ None → Played a b (with_groups (λ groups. focus.left groups id h) a.machine) → Played a b (pass_on id h to a.machine)
passed_to_none a b id h to is played = subst (λ (o : Option Handle). Played a b (pass_on id h o a.machine)) (sym is) played

-- a member leaves its group, and who is none leaves none
pub left_group : (a b : Stage) (id : ℕ) (h : Handle) (to : Option Handle) → Some id ≡ group_of a.machine.groups h → to ≡ heir a.machine id h → Played a b (pass_on id h to a.machine) → Played a b (leave_group h a.machine)
unfolding leave_group leave_from
left_group a b id h to is next played =
    subst (λ (o : Option ℕ). Played a b (leave_from o h a.machine)) is (subst (λ (o : Option Handle). Played a b (pass_on id h o a.machine)) next played)

pub left_none : (a : Stage) (h : Handle) → None ≡ group_of a.machine.groups h → Played a a (leave_group h a.machine)
unfolding leave_group leave_from
left_none a h is = subst (λ (o : Option ℕ). Played a a (leave_from o h a.machine)) is (idle a)
