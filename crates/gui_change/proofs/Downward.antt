-- What is seen goes by the parent: where neither the stand of an object nor what is seen of its parent is another, it is
-- seen as it was.
use Rattle.std.proofs.Common.{◌≡◌, ◌∙◌, refl, sym, ap, subst, ℕ, Bool, false, eqb, [], Option, Some, None, option_map, inl, inr}
use Rattle.std.specs.Prelude.{if◌then◌else◌}
use Rattle.std.proofs.lemmas.Bool.{both_ways, cases_Bool, eqb-true}
use Rattle.gui_base.specs.Area.{Rect}
use Rattle.gui_base.specs.Forest.{parent_of}
use Rattle.gui_base.specs.declared.Handle.{Handle}
use Rattle.gui_base.specs.declared.words.Flag.TheVariants.{Hidden}
use Rattle.gui_damage.specs.Gridded.{GridList}
use Rattle.gui_pool.specs.Table.{Table, value_at}
use Rattle.gui_tree.specs.Handles.{as_handle}
use Rattle.scene_defs.specs.declared.Row.{Row}
use Rattle.scene_defs.specs.Place.{place}
use Rattle.scene_defs.specs.Row.{is_on}
use Rattle.scene_defs.specs.Scene.{Scene, handles_of, row_at}
use Rattle.scene_defs.specs.Valid.{IsValid}
use Rattle.scene_defs.specs.Visible.{met, visible}
use Rattle.debt_defs.specs.Same.{same_visible}
use Rattle.debt_defs.proofs.Samenesses.{visible-is}
use Rattle.gui_layout.specs.Scenes.{shown_panel}
use Rattle.gui_layout.proofs.Seen.{clip_up, seen_is, gone_is}
use Rattle.gui_debts.specs.Owed.{sight_of}
use Rattle.gui_debts.specs.declared.seen.Seen.{Seen}
use Rattle.gui_change.specs.Down.{SeesDown, visible_known}
use Rattle.gui_change.specs.Sees.{IsSeenIn, SeesAgain, owing}
use Rattle.gui_change.proofs.Orderless.{same-order}
use Rattle.gui_change.proofs.SeenAgain.{then-again}
use Rattle.gui_change.proofs.Staying.{visible-self}
use Rattle.gui_change.specs.Shifted.{hidden_in}

module _ (before after : Scene) (was : IsValid before) (is : IsValid after) where
  -- what is seen of an object is the same where its stand is, and what is seen of its parent
  pub step-same : (k : ℕ) → parent_of (handles_of after.trees) k ≡ parent_of (handles_of before.trees) k → hidden_in after k ≡ hidden_in before k → place after k ≡ place before k → shown_panel after k ≡ shown_panel before k →
      ((p : ℕ) → parent_of (handles_of after.trees) k ≡ Some p → visible after p ≡ visible before p) → visible after k ≡ visible before k
  step-same k parents hides stands panel higher = seen-by (row_at before k) (row_at after k) refl refl where
    up : Option Handle
    up = option_map as_handle (parent_of (handles_of after.trees) k)

    clip-by : (o : Option ℕ) → parent_of (handles_of after.trees) k ≡ o → clip_up after is k (option_map as_handle o) ≡ clip_up before was k (option_map as_handle o)
    clip-by None e = panel
    clip-by (Some p) e = higher p e

    seen-by : (old new : Option Row) → row_at before k ≡ old → row_at after k ≡ new → visible after k ≡ visible before k
    seen-by None None was_none none = gone_is after is k (sym none) ∙ sym (gone_is before was k (sym was_none))
    seen-by None (Some row) was_none here = cc (rw (was_none, here) at hides)
    seen-by (Some row) None was_here none = cc (rw (was_here, none) at hides)
    seen-by (Some old) (Some row) was_here here =
        let hidden : is_on row.flags Hidden ≡ is_on old.flags Hidden = cc (rw (was_here, here) at hides) in
        seen_is after is k row up (sym here) refl
        ∙ (ap (λ (b : Bool). if b then None else met (clip_up after is k up) (place after k)) hidden
        ∙ (ap (λ (clip : Option Rect). if is_on old.flags Hidden then None else met clip (place after k)) (clip-by (parent_of (handles_of after.trees) k) refl)
        ∙ (ap (λ (at : Option Rect). if is_on old.flags Hidden then None else met (clip_up before was k up) at) stands
        ∙ sym (seen_is before was k old up (sym was_here) (ap (option_map as_handle) parents)))))

-- One after another.
pub then-down : (named : Option ℕ) (scene : Scene) (a b c : Table Seen) (p q r : GridList) → SeesDown named scene a b p q → SeesDown None scene b c q r → SeesDown named scene a c p r
then-down named scene a b c p q r first next = record {
  sees = then-again named scene a b c p q r first.sees next.sees;
  closes = λ k u up other. elim (cases_Bool (same_visible (visible_known a u) (visible_known b u))) [
    | inl same ↦ next.closes k u up (subst (λ (v : Option Rect). same_visible v (visible_known c u) ≡ false) (visible-is (visible_known a u) (visible_known b u) same) other)
    | inr moved ↦ next.sees.seen k (first.closes k u up moved)
  ];
  either = λ k. elim (next.either k) [
    | inl same ↦ elim (first.either k) [
      | inl was ↦ inl (same ∙ was)
      | inr right ↦ inr (next.sees.seen k right)
    ]
    | inr right ↦ inr right
  ];
}

-- nothing is seen again
pub none-down : (scene : Scene) (t : Table Seen) (p : GridList) → SeesDown None scene t t p p
none-down scene t p = record {
  sees = record {
    listing = refl;
    seen = λ h is. is;
    keeps = λ concerned known. known;
    areas = [];
    lists = refl;
    owes = same-order (owing None t scene) (owing None t scene) refl;
  };
  closes = λ k u up other. absurd (both_ways (same_visible (visible_known t u) (visible_known t u)) other (visible-self (visible_known t u)));
  either = λ k. inl refl;
}

-- an object is seen again, and then others; its children are seen, where it is seen elsewhere
pub open-down : (named : Option ℕ) (scene : Scene) (a b c : Table Seen) (p q r : GridList) (h : ℕ) → SeesAgain named scene a b p q → IsSeenIn b scene h → ((k : ℕ) → eqb h k ≡ false → value_at b k ≡ value_at a k) → SeesDown None scene b c q r →
    (same_visible (visible_known a h) (visible_known c h) ≡ false → (k : ℕ) → parent_of (handles_of scene.trees) k ≡ Some h → IsSeenIn c scene k) → SeesDown named scene a c p r
open-down named scene a b c p q r h sees own rest next kids = record {
  sees = then-again named scene a b c p q r sees next.sees;
  closes = λ k u up other. elim (cases_Bool (eqb h u)) [
    | inl same ↦
        let it : h ≡ u = eqb-true h u same in
        kids (subst (λ (n : ℕ). same_visible (visible_known a n) (visible_known c n) ≡ false) (sym it) other) k (up ∙ ap (λ (n : ℕ). Some n) (sym it))
    | inr apart ↦
        let e : visible_known b u ≡ visible_known a u = ap (λ (o : Option Seen). (sight_of o).visible) (rest u apart) in
        next.closes k u up (subst (λ (v : Option Rect). same_visible v (visible_known c u) ≡ false) (sym e) other)
  ];
  either = λ k. elim (next.either k) [
    | inl same ↦ elim (cases_Bool (eqb h k)) [
      | inl here ↦ inr (subst (λ (n : ℕ). IsSeenIn c scene n) (eqb-true h k here) (next.sees.seen h own))
      | inr other ↦ inl (same ∙ rest k other)
    ]
    | inr right ↦ inr right
  ];
}
