-- Where objects that moved are seen again downwards, and then those that a change concerns, all are seen.
use Rattle.std.proofs.Common.{◌≡◌, ◌∙◌, refl, sym, ap, subst, ℕ, ◌<◌, ◌≤◌, true, length, Option, Some, None, option_map, is_some, zero, suc, inl, inr, arith}
use Rattle.std.specs.Prelude.{◌⊎◌}
use Rattle.std.proofs.lemmas.Bool.{cases_Bool}
use Rattle.gui_base.specs.Corners.{rect_of}
use Rattle.gui_base.specs.Forest.{has, parent_of, path_of}
use Rattle.gui_pool.specs.Table.{Table, value_at}
use Rattle.gui_tree.specs.Handles.{as_handle}
use Rattle.scene_defs.specs.Scene.{Scene, handles_of}
use Rattle.scene_defs.specs.Valid.{IsValid}
use Rattle.scene_defs.specs.Visible.{visible}
use Rattle.debt_defs.specs.Same.{same_visible}
use Rattle.debt_defs.proofs.Samenesses.{visible-is}
use Rattle.gui_layout.proofs.Climbing.{is_above}
use Rattle.gui_debts.specs.Owed.{sight_of}
use Rattle.gui_debts.specs.Seen.{IsSeen}
use Rattle.gui_debts.specs.Sights.{AreSeen}
use Rattle.gui_debts.specs.declared.seen.Seen.{Seen}
use Rattle.gui_debts.proofs.Sparing.{keeps, look-paints}
use Rattle.gui_change.specs.Down.{ClosesDown, visible_known}
use Rattle.gui_change.specs.Sees.{IsSeenIn}
use Rattle.gui_change.specs.Shifted.{PaintsAlike, StandsStill}
use Rattle.gui_change.proofs.Downward.{step-same}
use Rattle.gui_change.proofs.Unchanged.{items-alike}

pub some-of : (o : Option Seen) → is_some o ≡ true → (s : Seen) × (o ≡ Some s)
some-of None e = cc
some-of (Some s) e = (s, refl)

module _ (before after : Scene) (was : IsValid before) (is : IsValid after) (old mid new : Table Seen) (seen : AreSeen old before) (known : (k : ℕ) → is_some (value_at mid k) ≡ is_some (value_at old k))
    (there : (k : ℕ) → is_some (value_at old k) ≡ true → has (handles_of after.trees) k ≡ true) (above : (k p : ℕ) → is_some (value_at old k) ≡ true → parent_of (handles_of after.trees) k ≡ Some p → is_some (value_at old p) ≡ true)
    (closes : ClosesDown after old mid) (either : (k : ℕ) → value_at mid k ≡ value_at old k ⊎ IsSeenIn mid after k)
    (stands : (k : ℕ) → is_some (value_at old k) ≡ true → IsSeenIn mid after k ⊎ StandsStill before after k) where
  -- what is seen, by what is known
  seen-visible : (k : ℕ) → is_some (value_at old k) ≡ true → visible_known old k ≡ visible before k
  seen-visible k some = let s = some-of (value_at old k) some in ap (λ (o : Option Seen). (sight_of o).visible) s.1 ∙ (seen k s.0 s.1).visible

  right-visible : (k : ℕ) → is_some (value_at old k) ≡ true → IsSeenIn mid after k → visible_known mid k ≡ visible after k
  right-visible k some right = let s = some-of (value_at mid k) (known k ∙ some) in ap (λ (o : Option Seen). (sight_of o).visible) s.1 ∙ (right s.0 s.1).visible

  -- all are known to be seen where they are
  by-parent : (k : ℕ) → is_some (value_at old k) ≡ true → ((p : ℕ) → length (path_of (handles_of after.trees) p) < length (path_of (handles_of after.trees) k) → is_some (value_at old p) ≡ true → visible_known mid p ≡ visible after p) →
      visible_known mid k ≡ visible after k
  by-parent k some higher = by (stands k some) (either k) where
    as-it-was : StandsStill before after k → value_at mid k ≡ value_at old k → ((p : ℕ) → parent_of (handles_of after.trees) k ≡ Some p → visible after p ≡ visible before p) → visible_known mid k ≡ visible after k
    as-it-was same kept clip =
        ap (λ (o : Option Seen). (sight_of o).visible) kept
        ∙ (seen-visible k some
        ∙ sym (step-same before after was is k same.parents same.hides same.stands same.panel clip))

    told : StandsStill before after k → value_at mid k ≡ value_at old k → (o : Option ℕ) → parent_of (handles_of after.trees) k ≡ o → visible_known mid k ≡ visible after k
    told same kept None e = as-it-was same kept (λ p up. let no : None ≡ Some p = sym e ∙ up in cc)
    told same kept (Some p) e =
        let up_known = above k p some e in
        let up = higher p (is_above (handles_of after.trees) k (as_handle p) is.trees.once (there k some) (sym (ap (option_map as_handle) e))).higher up_known in
        elim (cases_Bool (same_visible (visible_known old p) (visible_known mid p))) [
          | inl as_was ↦ as-it-was same kept (λ q next.
              let both : Some p ≡ Some q = sym e ∙ next in
              let one : p ≡ q = cc in
              subst (λ (n : ℕ). visible after n ≡ visible before n) one
              (sym up ∙ (sym (visible-is (visible_known old p) (visible_known mid p) as_was) ∙ seen-visible p up_known)))
          | inr moved ↦ right-visible k some (closes k p e moved)
        ]

    by : IsSeenIn mid after k ⊎ StandsStill before after k → value_at mid k ≡ value_at old k ⊎ IsSeenIn mid after k → visible_known mid k ≡ visible after k
    by (inl right) o = right-visible k some right
    by (inr same) (inl kept) = told same kept (parent_of (handles_of after.trees) k) refl
    by (inr same) (inr right) = right-visible k some right

  within : (n k : ℕ) → length (path_of (handles_of after.trees) k) ≤ n → is_some (value_at old k) ≡ true → visible_known mid k ≡ visible after k
  within zero k short some = by-parent k some (λ p shorter up. absurd (omega (arith, short, shorter)))
  within (suc n) k short some = by-parent k some (λ p shorter up. within n p (omega (arith, short, shorter)) up)

  module _ (still : (k : ℕ) → IsSeenIn mid after k → IsSeenIn new after k) (kept-known : (k : ℕ) → is_some (value_at new k) ≡ is_some (value_at mid k))
      (paints : (k : ℕ) → is_some (value_at old k) ≡ true → IsSeenIn new after k ⊎ PaintsAlike before after k) where
    -- and so all are seen
    pub all-seen : (k : ℕ) → IsSeenIn new after k
    all-seen k s found = by (paints k some) (stands k some) (either k) where
      some : is_some (value_at old k) ≡ true
      some = sym (known k) ∙ (sym (kept-known k) ∙ ap is_some found)

      by : IsSeenIn new after k ⊎ PaintsAlike before after k → IsSeenIn mid after k ⊎ StandsStill before after k → value_at mid k ≡ value_at old k ⊎ IsSeenIn mid after k → IsSeen after k s
      by (inl right) o e = right s found
      by (inr alike) (inl right) e = still k right s found
      by (inr alike) (inr same) (inr right) = still k right s found
      by (inr alike) (inr same) (inl kept) = still k (λ t at.
          let then_was = seen k t (sym kept ∙ at) in
          let now : option_map rect_of t.visible ≡ visible after k = ap (λ (o : Option Seen). (sight_of o).visible) (sym at) ∙ within (length (path_of (handles_of after.trees) k)) k (omega arith) some in
          let as_then : visible before k ≡ visible after k = sym then_was.visible ∙ now in
          record {
            visible = now;
            items = λ seen_now. then_was.items (ap is_some as_then ∙ seen_now) ∙ sym (items-alike before after k alike.looks same.stands);
            bars = λ seen_now. then_was.bars (ap is_some as_then ∙ seen_now) ∙ sym alike.shows;
            keeps = keeps before after k t then_was (look-paints before after k alike.looks.look);
          }) s found
