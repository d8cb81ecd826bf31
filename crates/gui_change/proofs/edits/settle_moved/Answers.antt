use Rattle.std.proofs.Common.{◌≡◌, ◌∙◌, ◌<◌, refl, sym, subst, eq-eqb, ℕ, true, false, [], ◌∷◌, List, arith}
use Rattle.std.specs.Prelude.{IfSome}
use Rattle.std.proofs.lemmas.Bool.{false_from_ne_true}
use Rattle.gui_base.specs.declared.Handle.{Handle}
use Rattle.gui_boxes.proofs.Pendings.{all-any}
use Rattle.gui_boxes.specs.Listing.{times}
use Rattle.gui_boxes.specs.Marks.{is_changed, is_marked, is_parent}
use Rattle.gui_layout.specs.SettledBut.{WereSettled}
use Rattle.gui_layout.specs.Solved.{AreSettled}
use Rattle.gui_pool.specs.Table.{value_at}
use Rattle.gui_store.specs.Views.{scene_of}
use Rattle.gui_change.proofs.edits.settle_moved.Goals as goal
use Rattle.gui_change.proofs.edits.settle_moved.Goals.{After-solve_one}

-- an object is listed where it is listed alone
listed-alone : (h : Handle) → 0 < times (h ∷ []) h.0
listed-alone h = rw (eq-eqb h.0 h.0 refl) (omega arith)

-- where the one object that has changed is to its parent what it was, nothing is solved
pub solve_one-requires : goal.solve_one-requires
solve_one-requires c = record { room = subst (λ o. IfSome o (λ (h : Handle). 0 < c.mark_moved.new.marks.objects)) c.in-Some.is c.keeps.ensures.room }

pub returns-in-Some-clause-settles : goal.returns-in-Some-clause-settles
returns-in-Some-clause-settles c =
    let scene = scene_of c.args.store.now in
    let places = c.args.places.now in
    let marks = c.mark_moved.new.marks in
    let were : WereSettled places scene (is_changed marks) (is_parent marks) = c.mark_moved.ensures.tell c.requires.was.edit c.requires.was.removed c.requires.was.kept places c.requires.was.edited in
    let stays : WereSettled places scene (is_changed marks) (is_parent marks) → AreSettled places scene =
    subst (λ o. IfSome o (λ j. WereSettled places scene (is_changed marks) (is_parent marks) → AreSettled places scene)) c.in-Some.is c.keeps.ensures.settled in
    record {
      settled = stays were;
      limits = refl;
      stays = λ k there off. refl;
      scrolls = λ k there off. record { reach = refl; offset = refl };
    }

-- what has changed is that object
changed : (c : After-solve_one) (k : ℕ) → is_changed c.mark_moved.new.marks k ≡ true → 0 < times (c.in-Some.h ∷ []) k
changed c k on =
    let marks = c.mark_moved.new.marks in
    let h = c.in-Some.h in
    let alone : (j : ℕ) → is_marked marks j ≡ true → j ≡ h.0 = subst (λ o. IfSome o (λ (i : Handle). (j : ℕ) → is_marked marks j ≡ true → j ≡ i.0)) c.in-Some.is c.keeps.ensures.alone in
    subst (λ j. 0 < times (h ∷ []) j) (sym (alone k (all-any (value_at marks.pending k) on))) (listed-alone h)

pub returns-in-Some-clause-boxes : goal.returns-in-Some-clause-boxes
returns-in-Some-clause-boxes c was k there off =
    let d = (goal.at.returns-in-Some-clause-boxes c).After-solve_one in
    let marks = c.mark_moved.new.marks in
    let none : times (c.in-Some.h ∷ []) k ≡ 0 = subst (λ (us : List Handle). times us k ≡ 0) c.solve_one.ensures.solved off in
    let unchanged : is_changed marks k ≡ false = false_from_ne_true (is_changed marks k) (λ on. let some = changed d k on in omega (arith, some, none)) in
    c.mark_moved.ensures.boxes was.edit was.removed was.kept c.args.places.now was.edited k there unchanged

pub returns-in-Some-clause-all : goal.returns-in-Some-clause-all
returns-in-Some-clause-all c moves k there may =
    let d = (goal.at.returns-in-Some-clause-all c).After-solve_one in
    subst (λ (us : List Handle). 0 < times us k) (sym c.solve_one.ensures.solved) (changed d k (c.mark_moved.ensures.all moves k there may))

pub returns-clause-all : goal.returns-clause-all
returns-clause-all c moves k there may = c.settle_again.ensures.moved_whole k there (c.mark_moved.ensures.all moves k there may)

pub returns-in-Some-clause-none : goal.returns-in-Some-clause-none
returns-in-Some-clause-none c = record {
  none = c.solve_one.ensures.empty;
  most = c.solve_one.ensures.most ∙ (c.mark_moved.ensures.most ∙ c.requires.none.most);
}

pub settle_again-requires-clause-were : goal.settle_again-requires-clause-were
settle_again-requires-clause-were c = c.mark_moved.ensures.tell c.requires.was.edit c.requires.was.removed c.requires.was.kept c.args.places.now c.requires.was.edited

pub returns-clause-settles : goal.returns-clause-settles
returns-clause-settles c = record {
  settled = c.settle_again.ensures.settled;
  limits = c.settle_again.ensures.limits;
  stays = c.settle_again.ensures.moved_stays;
  scrolls = λ k there off. record { reach = c.settle_again.ensures.moved_reaches k there off; offset = c.settle_again.ensures.moved_offsets k there off };
}

-- what did not move was not marked
pub returns-clause-boxes : goal.returns-clause-boxes
returns-clause-boxes c was k there off =
    let marks = c.mark_moved.new.marks in
    let unchanged : is_changed marks k ≡ false = false_from_ne_true (is_changed marks k) (λ on. let some = c.settle_again.ensures.moved_whole k there on in omega (arith, some, off)) in
    c.mark_moved.ensures.boxes was.edit was.removed was.kept c.args.places.now was.edited k there unchanged

pub returns-clause-none : goal.returns-clause-none
returns-clause-none c = record {
  none = c.settle_again.ensures.empty;
  most = c.settle_again.ensures.most ∙ (c.mark_moved.ensures.most ∙ c.requires.none.most);
}
