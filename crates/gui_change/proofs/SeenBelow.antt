-- What is seen again below an object, or below the users of a style.
use Rattle.std.proofs.Common.{◌≡◌, ◌∙◌, ◌<◌, ◌≤◌, sym, ap, subst, refl, ℕ, zero, suc, Bool, true, false, eqb, eq-eqb, List, [], ◌++◌, Option, Some, None, option_map, is_some, inl, inr, arith}
use Rattle.std.specs.List.{flat_map}
use Rattle.std.specs.List.Sorted.{IsPermutation}
use Rattle.std.proofs.lemmas.Bool.{both_ways, cases_Bool, eqb-true, false≢true, false_from_ne_true, or_cases, or_left}
use Rattle.std.proofs.lemmas.List.{append-nil}
use Rattle.gui_tree.proofs.Below.{own_tree}
use Rattle.gui_base.specs.Area.{Rect}
use Rattle.gui_base.specs.Forest.{Forest, StandsOnce, has, parent_of, tree_at}
use Rattle.gui_base.specs.declared.Handle.{Handle}
use Rattle.gui_damage.specs.Gridded.{GridList}
use Rattle.gui_boxes.specs.Listing.{HasThese}
use Rattle.gui_boxes.proofs.InTrees.{tree-there}
use Rattle.gui_boxes.proofs.These.{has_value}
use Rattle.gui_pool.specs.Table.{Table, value_at}
use Rattle.gui_style.specs.Styles.{uses_style}
use Rattle.gui_tree.specs.Handles.{as_handle, numbers}
use Rattle.scene_defs.specs.Scene.{Scene, handles_of, is_there}
use Rattle.scene_defs.specs.Shown.{order}
use Rattle.scene_defs.specs.Valid.{IsValid}
use Rattle.scene_defs.specs.Visible.{shown_trees}
use Rattle.scene_defs.proofs.Distinct.{distinct_once}
use Rattle.scene_defs.proofs.Handles.{below-handles, has-handles}
use Rattle.debt_defs.specs.Concerns.{lies_in}
use Rattle.debt_defs.proofs.Inside.{among-handles}
use Rattle.debt_defs.proofs.Moved.{lies-in-tree}
use Rattle.gui_change.specs.Again.{owed_again}
use Rattle.gui_concerns.specs.Concerned.{is_below, is_below_user}
use Rattle.gui_change.specs.Dues.{OwesAll}
use Rattle.gui_change.specs.Sees.{IsSeenIn, KnowsShown, SeesAgain, is_below_one, is_below_other, owing}
use Rattle.gui_debts.specs.Sights.{AreSeen}
use Rattle.gui_debts.specs.declared.seen.Seen.{Seen}
use Rattle.gui_concerns.proofs.Below.{below_met, climbs, meets_from, steps_from, user_met}
use Rattle.gui_change.proofs.Orders.{shown_there}
use Rattle.gui_change.proofs.SeenAgain.{all-owed, nothing-known, shown-has, shown-still}

module _ (scene : Scene) (valid : IsValid scene) (h : ℕ) where
  lies-tree : (k : ℕ) → lies_in scene h k ≡ true → has (tree_at (handles_of scene.trees) h) k ≡ true
  lies-tree k lies = below-handles scene.trees h k ∙ lies-in-tree h k [] scene.trees (distinct_once scene.trees valid.trees.once) refl lies

  -- what is below an object that is there stands in its tree
  pub below-tree : is_there scene h ≡ true → (k : ℕ) → is_below scene h k ≡ true → has (tree_at (handles_of scene.trees) h) k ≡ true
  below-tree there k below = elim (or_cases (eqb k h) (lies_in scene h k) below) [
    | inl is ↦ subst (λ (j : ℕ). has (tree_at (handles_of scene.trees) h) j ≡ true) (sym (eqb-true k h is)) (own_tree (handles_of scene.trees) h there)
    | inr lies ↦ lies-tree k lies
  ]

  -- an object that is not there is not known
  pub gone-unknown : (t : Table Seen) → KnowsShown t scene → is_there scene h ≡ false → is_some (value_at t h) ≡ false
  gone-unknown t shown gone =
      shown-has scene t shown h ∙ false_from_ne_true (has (handles_of (shown_trees scene)) h) (λ i. both_ways (is_there scene h) gone (shown_there scene valid h i))

  -- below an object that is not there nothing is known
  pub gone-below : (t : Table Seen) → KnowsShown t scene → is_there scene h ≡ false → (k : ℕ) → is_below scene h k ≡ true → IsSeenIn t scene k
  gone-below t shown gone k below = elim (or_cases (eqb k h) (lies_in scene h k) below) [
    | inl is ↦ subst (IsSeenIn t scene) (sym (eqb-true k h is)) (nothing-known scene t h (gone-unknown t shown gone))
    | inr lies ↦ absurd (both_ways (is_there scene h) gone (tree-there h k (handles_of scene.trees) (lies-tree k lies)))
  ]

-- What is below a user of a style is below one that stands below no other.
module _ (scene : Scene) (number : ℕ) (once : StandsOnce (handles_of scene.trees)) where
  abbrev trees : Forest ℕ
  trees = handles_of scene.trees

  abbrev user : ℕ → Bool
  user h = uses_style scene.book h number

  -- the walk up from the parent tells whether another user stands above
  other-met : (o : Option ℕ) → meets_from trees user (option_map as_handle o) ≡ is_below_one scene number o
  other-met None = refl
  other-met (Some p) = user_met scene number p once

  -- P holds below each user that stands below no other
  abbrev Tops : Type 0 → ℕ → Type 0
  Tops P k = (u : ℕ) → user u ≡ true → is_below_other scene number u ≡ false → is_below scene u k ≡ true → P

  -- one step up
  from-above : {P : Type 0} (k : Handle) → Tops P k.0 → ((p : Handle) → steps_from trees (Some p) < steps_from trees (Some k) → Tops P p.0 → meets_from trees user (Some p) ≡ true → P) →
      (next : Option Handle) → next ≡ option_map as_handle (parent_of trees k.0) → meets_from trees user next ≡ true → P
  from-above k tops above None is met = absurd (false≢true met)
  from-above k tops above (Some p) is met =
      above p (climbs trees user k (Some p) once is).fewer (λ u uses none below. tops u uses none (elim (cases_Bool (eqb k.0 u)) [
        | inl same ↦ or_left _ _ same
        | inr differs ↦ sym (below_met scene u k.0 once) ∙ ((climbs trees (λ j. eqb j u) k (Some p) once is).met differs ∙ (below_met scene u p.0 once ∙ below))
      ])) met

  top-from : {P : Type 0} (most : ℕ) (k : Handle) → steps_from trees (Some k) ≤ most → Tops P k.0 → meets_from trees user (Some k) ≡ true → P
  top-from zero k steps tops met = absurd (omega (arith, steps))
  top-from (suc most) k steps tops met =
      let next = option_map as_handle (parent_of trees k.0) in
      elim (cases_Bool (is_below_other scene number k.0)) [
        | inl other ↦ from-above k tops (λ p fewer below. top-from most p (omega (arith, fewer, steps)) below) next refl (other-met (parent_of trees k.0) ∙ other)
        | inr none ↦ elim (cases_Bool (user k.0)) [
          | inl uses ↦ tops k.0 uses none (or_left _ _ (eq-eqb k.0 k.0 refl))
          | inr isnt ↦ absurd (both_ways (meets_from trees user (Some k)) ((climbs trees user k next once refl).met isnt ∙ (other-met (parent_of trees k.0) ∙ none)) met)
        ]
      ]

  pub user-below : {P : Type 0} (k : ℕ) → ((u : ℕ) → uses_style scene.book u number ≡ true → is_below_other scene number u ≡ false → is_below scene u k ≡ true → P) → is_below_user scene number k ≡ true → P
  user-below k tops below = top-from (steps_from trees (Some (as_handle k))) (as_handle k) (omega arith) tops (user_met scene number k once ∙ below)

-- something is known of what is listed, which is shown
pub knows-shown : (objects : ℕ) (t : Table Seen) (hs : List Handle) (scene : Scene) → numbers hs ≡ order scene → HasThese objects t hs → KnowsShown t scene
knows-shown objects t hs scene listed these h =
    has_value hs (handles_of (shown_trees scene)) listed objects t these h
    ∙ (has-handles (shown_trees scene) h ∙ sym (among-handles (shown_trees scene) h))

-- where all are seen, all is owed that the change owes
pub owes-all : (named : Option ℕ) (scene : Scene) (old new : Table Seen) (before after : GridList) → KnowsShown old scene → SeesAgain named scene old new before after → AreSeen new scene →
    OwesAll before after (flat_map (owed_again named old scene) (order scene))
owes-all named scene old new before after shown sees seen =
    let none : owing None new scene ≡ [] = all-owed scene new seen (shown-still scene old new sees.listing shown) in
    let all : sees.areas ++ owing None new scene ≡ sees.areas = ap (λ (rs : List Rect). sees.areas ++ rs) none ∙ append-nil sees.areas in
    record {
      areas_listed = sees.areas;
      is = sees.lists;
      same = subst (λ (rs : List Rect). IsPermutation rs (owing named old scene)) all sees.owes;
    }
