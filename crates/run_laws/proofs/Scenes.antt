-- What becomes of a scene that is in order.
use Rattle.std.proofs.Common.{◌≡◌, ◌∙◌, ◌≤◌, sym, ap, subst, refl, ℕ, true, false, Option, Some, None, List, [], ◌∷◌, inl, inr, arith}
use Rattle.std.specs.List.{AllByRecursion}
use Rattle.std.proofs.lemmas.Bool.{cases_Bool}
use Rattle.std.proofs.lemmas.Bool.Decides.{nat_tests}
use Rattle.gui_base.specs.declared.Handle.{Handle}
use Rattle.gui_base.specs.declared.refusal.Refusal.{Refusal}
use Rattle.gui_base.specs.Forest.{count}
use Rattle.gui_base.proofs.Visits.{count-has, count-off}
use Rattle.scene_defs.specs.declared.Change.{Change}
use Rattle.scene_defs.specs.declared.Change.TheVariants as change
use Rattle.scene_defs.specs.Change.{answer_of, answer_in_range, changed, scene_by, scene_after}
use Rattle.scene_defs.specs.Edits.{below, tree_below}
use Rattle.scene_defs.specs.Deeds.{is_in_range}
use Rattle.scene_defs.specs.Scene.{Scene, handles_of, is_there}
use Rattle.scene_defs.specs.Valid.{IsValid, IsChange, is_among}
use Rattle.scene_defs.proofs.Changes.{range_done}
use Rattle.scene_defs.proofs.Totals.{one_at, count-total}
use Rattle.scene_defs.proofs.Validity.{Leaves, removed_sum, after_leaves, change_keeps_valid}
use Rattle.run_defs.specs.Making.{handles, not_there}
use Rattle.run_defs.specs.Play.{after_changes}
use Rattle.run_defs.specs.Step.{step}
use Rattle.run_defs.proofs.Steps.{step_changes, step_asks}
use Rattle.run_laws.specs.Keeping.{DeleteRemovesAllBelow, StepsKeepScenesValid}
use Rattle.run_laws.proofs.Counting.{preorder-has}

-- how often a handle stands after a change that is done
module _ (scene : Scene) (change : Change) (v : IsValid scene) (c : IsChange change) (done : answer_of scene change ≡ None) where
  pub leaves : Leaves scene change (scene_after scene change)
  leaves = let fits = range_done (is_in_range change) (answer_in_range scene change) done in after_leaves scene change fits.0 c fits.1 v

  pub changed-is : changed scene change ≡ scene_after scene change
  changed-is = ap (λ (answer : Option Refusal). scene_by answer scene change) done

-- none of those below h is there after it is deleted
pub below-goes : (scene : Scene) (h : Handle) → IsValid scene → answer_of scene (change.Delete h) ≡ None → (k : ℕ) → is_among (below scene h.0) k ≡ true →
    is_there (changed scene (change.Delete h)) k ≡ false
below-goes scene h v done k is =
    let l = leaves scene (change.Delete h) v tt done in
    let tree = handles_of (tree_below scene h.0) in
    let stood : 1 ≤ count tree k = count-has tree k (sym (preorder-has tree k) ∙ is) in
    rw (changed-is scene (change.Delete h) v tt done) (elim (cases_Bool (is_there (scene_after scene (change.Delete h)) k)) [
      | inl on ↦ absurd (omega (arith, l.handles k, v.trees.once k, stood, count-total (tree_below scene h.0) k, count-has (handles_of (scene_after scene (change.Delete h)).trees) k on))
      | inr off ↦ off
    ])

-- and all others are
pub others-stay : (scene : Scene) (h : Handle) → IsValid scene → answer_of scene (change.Delete h) ≡ None → (k : ℕ) → is_there scene k ≡ true → is_among (below scene h.0) k ≡ false →
    is_there (changed scene (change.Delete h)) k ≡ true
others-stay scene h v done k on out =
    let l = leaves scene (change.Delete h) v tt done in
    let tree = handles_of (tree_below scene h.0) in
    let none : count tree k ≡ 0 = count-off tree k (sym (preorder-has tree k) ∙ out) in
    rw (changed-is scene (change.Delete h) v tt done) (elim (cases_Bool (is_there (scene_after scene (change.Delete h)) k)) [
      | inl stays ↦ stays
      | inr off ↦ absurd (omega (arith, l.handles k, none, count-total (tree_below scene h.0) k, count-has (handles_of scene.trees) k on, count-off (handles_of (scene_after scene (change.Delete h)).trees) k off))
    ])

-- a change that removes none leaves who is there
pub none-goes : (scene : Scene) (change : Change) → IsValid scene → IsChange change → ((k : ℕ) → removed_sum scene change (one_at k) ≡ 0) → (k : ℕ) → is_there scene k ≡ true →
    is_there (changed scene change) k ≡ true
none-goes scene change v c none k on = by (answer_of scene change) refl where
  by : (answer : Option Refusal) → answer_of scene change ≡ answer → is_there (scene_by answer scene change) k ≡ true
  by (Some refusal) done = on
  by None done = let l = leaves scene change v c done in elim (cases_Bool (is_there (scene_after scene change) k)) [
    | inl stays ↦ stays
    | inr off ↦ absurd (omega (arith, l.handles k, none k, count-has (handles_of scene.trees) k on, count-off (handles_of (scene_after scene change).trees) k off))
  ]

-- a filter that all pass
not_there-all : (scene : Scene) (hs : List ℕ) → ((k : ℕ) → is_among hs k ≡ true → is_there scene k ≡ false) → not_there scene hs ≡ hs
not_there-all scene [] gone = refl
not_there-all scene (h ∷ hs) gone =
    let rest = not_there-all scene hs (λ k is. gone k (grind (arith, nat_tests, is))) in
    rw (gone h (grind (arith, nat_tests)), rest) refl

pub removes_all_below : DeleteRemovesAllBelow
removes_all_below scene h v done = ap handles (not_there-all (changed scene (change.Delete h)) (below scene h.0) (below-goes scene h v done))

-- changes in a row keep a scene in order
changes_keep_valid : (scene : Scene) (cs : List Change) → IsValid scene → AllByRecursion IsChange cs → IsValid (after_changes scene cs)
changes_keep_valid scene [] v all = v
changes_keep_valid scene (c ∷ cs) v all = changes_keep_valid (changed scene c) cs (change_keeps_valid scene c v all.0) all.1

pub steps_keep_valid : StepsKeepScenesValid
steps_keep_valid machine command v is =
    subst IsValid (sym (step_changes machine command)) (changes_keep_valid machine.scene (step machine command).changes v (step_asks machine command is))
