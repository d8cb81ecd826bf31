-- Plays in turn.
use Rattle.std.proofs.Common.{◌≡◌, ◌∙◌, sym, ap, subst, refl, ℕ, ◌+◌, ◌<◌, ◌≤◌, Bool, true, false, ◌||◌, List, [], ◌∷◌, ◌++◌, length, take, get_or, append_assoc}
use Rattle.std.proofs.Math.Bool.{or_assoc}
use Rattle.std.proofs.lemmas.List.{append-nil, take_more, take_all}
use Rattle.gui_base.specs.Area.{Rect}
use Rattle.gui_damage.specs.Adding.{AddsAll}
use Rattle.gui_damage.specs.Pending.{IsPending}
use Rattle.run_defs.specs.Owing.{owed_along}
use Rattle.run_laws.proofs.Commands.{owed-append}
use Rattle.run_defs.specs.Machine.{Machine}
use Rattle.run_defs.specs.Play.{Play, Rule, only, both, ◌⊳◌, ◌▷◌, each, after_changes}
use Rattle.run_defs.proofs.Steps.{after-append}
use Rattle.scene_defs.specs.Scene.{Scene}
use Rattle.gui_board.specs.Laws.{NothingIsPlayed, PlaysFollow}
use Rattle.gui_board.specs.Stages.{Stage, Played}
use Rattle.gui_board.proofs.Adding.{adds_nothing, adds_in_turn}
use Rattle.gui_board.proofs.Writes.{writes_in_turn, writes_nothing}

or_false : (b : Bool) → b ≡ (b || false)
or_false true = refl
or_false false = refl

pub idle : NothingIsPlayed
idle now = record {
  machine = refl;
  scene = refl;
  owed = adds_nothing now.pending;
  lines = writes_nothing now.cut now.log;
  noted = or_false now.noted;
}

module _ (a b c : Stage) (p q : Play) (h : Played a b p) (k : Played b c q) where
  -- the scene after the first play
  between : b.machine.scene ≡ after_changes a.machine.scene p.changes
  between = ap (λ (m : Machine). m.scene) h.machine ∙ h.scene

  owed_both : IsPending a.pending → AddsAll a.pending c.pending (owed_along a.machine.scene (p.changes ++ q.changes))
  owed_both is =
      let first = h.owed is in
      let second = subst (λ (s : Scene). AddsAll b.pending c.pending (owed_along s q.changes)) between (k.owed first.sound) in
      subst (λ (areas : List Rect). AddsAll a.pending c.pending areas) (sym (owed-append a.machine.scene p.changes q.changes))
      (adds_in_turn a.pending b.pending c.pending _ _ first second)

  -- one play and then another
  pub played_both : Played a c (both p q)
  played_both = record {
    machine = k.machine;
    scene = k.scene ∙ (ap (λ (s : Scene). after_changes s q.changes) between ∙ sym (after-append a.machine.scene p.changes q.changes));
    owed = owed_both;
    lines = writes_in_turn a.cut b.cut c.cut a.log b.log c.log p.lines q.lines h.lines k.lines;
    noted = k.noted ∙ (ap (λ (n : Bool). n || q.noted) h.noted ∙ or_assoc a.noted p.noted q.noted);
  }

-- a play and then a rule
pub played_on : (a b c : Stage) (p : Play) (rule : Rule) → Played a b p → Played b c (rule b.machine) → Played a c (p ⊳ rule)
unfolding ◌⊳◌
played_on a b c p rule h k =
    subst (λ (m : Machine). Played a c (both p (rule m))) h.machine (played_both a b c p (rule b.machine) h k)

pub played_then : PlaysFollow
unfolding ◌▷◌
played_then a b c first second h k = played_on a b c (first a.machine) second h k

-- Rules for each of a list.

and_false : (b : Bool) → (b || false) ≡ b
and_false true = refl
and_false false = refl

pub both_nothing : (p : Play) → both p (only p.machine) ≡ p
both_nothing p = rw (append-nil p.changes, append-nil p.lines, and_false p.noted) refl

pub both_assoc : (p q r : Play) → both (both p q) r ≡ both p (both q r)
both_assoc p q r = rw (append_assoc p.changes q.changes r.changes, append_assoc p.lines q.lines r.lines, or_assoc p.noted q.noted r.noted) refl

pub each-append : {A : Type 0} (rule : A → Rule) (xs ys : List A) (m : Machine) → each rule (xs ++ ys) m ≡ both (each rule xs m) (each rule ys (each rule xs m).machine)
unfolding each ◌▷◌ ◌⊳◌
each-append rule [] ys m = refl
each-append rule (x ∷ xs) ys m =
    ap (λ (p : Play). both (rule x m) p) (each-append rule xs ys (rule x m).machine)
    ∙ sym (both_assoc (rule x m) (each rule xs (rule x m).machine) (each rule ys (each rule xs (rule x m).machine).machine))

each_more : {A : Type 0} (rule : A → Rule) (xs : List A) (x : A) (m : Machine) → each rule (xs ++ x ∷ []) m ≡ (each rule xs m ⊳ rule x)
unfolding each ◌▷◌ ◌⊳◌
each_more rule [] x m = both_nothing (rule x m)
each_more rule (y ∷ ys) x m =
    ap (λ (p : Play). both (rule y m) p) (each_more rule ys x (rule y m).machine)
    ∙ sym (both_assoc (rule y m) (each rule ys (rule y m).machine) (rule x (each rule ys (rule y m).machine).machine))

pub played_each_none : {A : Type 0} (a : Stage) (rule : A → Rule) → Played a a (each rule [] a.machine)
unfolding each
played_each_none a rule = idle a

-- the rules for the first n of a list, and then that for the next
pub played_more : {A : Type 0} (a b c : Stage) (rule : A → Rule) (xs : List A) (n : ℕ) (x : A) → take (n + 1) xs ≡ take n xs ++ x ∷ [] → Played a b (each rule (take n xs) a.machine) → Played b c (rule x b.machine) →
    Played a c (each rule (take (n + 1) xs) a.machine)
played_more a b c rule xs n x e h k =
    subst (Played a c) (sym (ap (λ ys. each rule ys a.machine) e ∙ each_more rule (take n xs) x a.machine))
    (played_on a b c (each rule (take n xs) a.machine) (rule x) h k)

-- the same by its place in the list
pub played_step : {A : Type 0} (a b c : Stage) (rule : A → Rule) (xs : List A) (n : ℕ) (d : A) → n < length xs → Played a b (each rule (take n xs) a.machine) → Played b c (rule (get_or xs n d) b.machine) →
    Played a c (each rule (take (n + 1) xs) a.machine)
played_step a b c rule xs n d l h k = played_more a b c rule xs n (get_or xs n d) (take_more xs n d l) h k

-- the rules for all of a list
pub played_whole : {A : Type 0} (a b : Stage) (rule : A → Rule) (xs : List A) (n : ℕ) → length xs ≤ n → Played a b (each rule (take n xs) a.machine) → Played a b (each rule xs a.machine)
played_whole {A} a b rule xs n l h = subst (λ (ys : List A). Played a b (each rule ys a.machine)) (take_all n xs l) h
