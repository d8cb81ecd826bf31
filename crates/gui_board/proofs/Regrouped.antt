-- The groups change, and nothing else.
use Rattle.std.proofs.Common.{◌≡◌, ◌∙◌, sym, ap, subst, refl, ℕ, true, Option, None, Ok, Err}
use Rattle.std.specs.Prelude.{OnOk}
use Rattle.gui_base.specs.declared.Handle.{Handle}
use Rattle.gui_event.specs.Groups.{FocusGroups, Answer, join_answer, joined}
use Rattle.play_defs.specs.Focus.{Groups, focused_in, group_at, group_of, has_group, joined as with_member}
use Rattle.run_defs.specs.Focusing.{first_focus, join}
use Rattle.run_defs.specs.Making.{with_groups}
use Rattle.gui_board.specs.Stages.{Stage, Played}
use Rattle.gui_board.proofs.Boards.{played_with}
use Rattle.gui_board.proofs.Plays.{played_then}
use Rattle.gui_board.proofs.Writes.{writes_nothing}

-- other groups, and all else as before
abbrev pub regrouped : Stage → (Groups → Groups) → Stage
regrouped a f = record a { machine = record a.machine { groups = f a.machine.groups } }

pub played_groups : (a b : Stage) (f : Groups → Groups) → b ≡ regrouped a f → Played a b (with_groups f a.machine)
played_groups a b f e =
    subst (λ (s : Stage). Played a s (with_groups f a.machine)) (sym e)
    (played_with a (regrouped a f) (λ machine. record machine { groups = f machine.groups }) refl refl refl (writes_nothing a.cut a.log) refl)

-- an object that is in no group joins one that is there
pub has_joined : (s t : FocusGroups) (id : ℕ) (h : Handle) (r : Answer) → has_group s.all id ≡ true → group_of s.all h ≡ None → r ≡ join_answer s id h → OnOk r (t ≡ joined s id h) → t ≡ joined s id h
has_joined s t id h (Ok u) there free answer ok = ok
has_joined s t id h (Err why) there free answer ok = let wrong = rw (there, free) at answer in cc

-- one that joins gets the focus where no other has it
pub played_join : (a b c : Stage) (id : ℕ) (h : Handle) (other : Option Handle) → b ≡ regrouped a (λ groups. with_member groups id h) → other ≡ focused_in (group_at b.machine.groups id) → Played b c (first_focus other id h b.machine) →
    Played a c (join id h a.machine)
unfolding join
played_join a b c id h other e is later =
    let same : other ≡ focused_in (group_at a.machine.groups id) = is ∙ ap (λ (s : Stage). focused_in (group_at s.machine.groups id)) e in
    let f : Groups → Groups = λ groups. with_member groups id h in
    played_then a b c (with_groups f) (first_focus (focused_in (group_at a.machine.groups id)) id h) (played_groups a b f e) (subst (λ (o : Option Handle). Played b c (first_focus o id h b.machine)) same later)
