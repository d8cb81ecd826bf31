-- Whether an object is shown, by the root above it.
use Rattle.std.proofs.Common.{◌≡◌, ◌∙◌, sym, ap, subst, refl, ℕ, Bool, true, false, eqb, ◌||◌, List, [], ◌∷◌, map, Option, Some, None, option_map, inl, inr}
use Rattle.std.proofs.lemmas.Bool.{cases_Bool, eqb-true, false_from_ne_true, both_ways}
use Rattle.gui_tree.proofs.Below.{own_tree}
use Rattle.gui_base.specs.Forest.{Forest, has, parent_of, path_of, tree_at}
use Rattle.gui_base.specs.declared.Handle.{Handle}
use Rattle.gui_base.proofs.Forests.{map-path_by}
use Rattle.gui_layout.proofs.Climbing.{is_above}
use Rattle.gui_tree.proofs.Paths.{goes_up, line_step, parent_gone, path_from}
use Rattle.gui_tree.specs.Handles.{as_handle}
use Rattle.gui_tree.specs.Walks.{line_from, line_of}
use Rattle.debt_defs.proofs.Inside.{among-handles}
use Rattle.scene_defs.specs.Scene.{Object, Scene, handle_of, handles_of, path_at}
use Rattle.scene_defs.specs.Valid.{IsValid, is_root_at}
use Rattle.scene_defs.specs.Visible.{shown_trees}
use Rattle.scene_defs.proofs.Handles.{has-handles}
use Rattle.gui_change.specs.Gone.{is_shown}
use Rattle.gui_change.proofs.Orders.{root_there, shown_there}
use Rattle.gui_change.proofs.Rooted.{ends_at, shown-by}
use Rattle.gui_change.proofs.ShownTrees.{shown-above, shown-below}

same-of : (a b : Bool) → (a ≡ true → b ≡ true) → (b ≡ true → a ≡ true) → a ≡ b
same-of true b to from = sym (to refl)
same-of false true to from = from refl
same-of false false to from = refl

among-shown : (scene : Scene) (k : ℕ) → is_shown scene k ≡ has (handles_of (shown_trees scene)) k
among-shown scene k = among-handles (shown_trees scene) k ∙ sym (has-handles (shown_trees scene) k)

ends-one : (a k : ℕ) (path : List Object) → map handle_of path ≡ k ∷ [] → ends_at a path ≡ eqb k a
ends-one a k [] e = cc
ends-one a k (object ∷ []) e = let same : object.handle ≡ k = cc in ap (λ (n : ℕ). eqb n a) same
ends-one a k (object ∷ (parent ∷ above)) e = cc

-- the last of these handles, or h where there is none
abbrev pub last_from : ℕ → List ℕ → ℕ
last_from h [] = h
last_from h (k ∷ ks) = last_from k ks

-- k has no parent, and is shown where h is
pub record IsTop (scene : Scene) (h k : ℕ) : Type 0 where
  pub root : parent_of (handles_of scene.trees) k ≡ None
  pub shown : is_shown scene k ≡ is_shown scene h

module _ (scene : Scene) (valid : IsValid scene) where
  abbrev f : Forest ℕ
  f = handles_of scene.trees

  -- what is shown is shown with its parent
  pub shown-up : (k : ℕ) (p : Handle) → Some p ≡ option_map as_handle (parent_of f k) → is_shown scene p.0 ≡ is_shown scene k
  shown-up k p up = elim (cases_Bool (has f k)) [
    | inl there ↦
        let above = is_above f k p valid.trees.once there up in
        let inside : has (tree_at f p.0) k ≡ true = above.encloses k (own_tree f k there) in
        among-shown scene p.0
        ∙ (same-of (has (handles_of (shown_trees scene)) p.0) (has (handles_of (shown_trees scene)) k) (λ s. shown-below scene valid p.0 k s inside) (λ s. shown-above scene valid p.0 k s inside)
        ∙ sym (among-shown scene k))
    | inr gone ↦
        let none : Some p ≡ None = up ∙ ap (option_map as_handle) (parent_gone f k None gone) in cc
  ]

  top-from : (hs : List ℕ) (h : ℕ) (o : Option ℕ) → parent_of f h ≡ o → line_from (option_map as_handle o) f ≡ hs → IsTop scene h (last_from h hs)
  top-from [] h None up line = record { root = up; shown = refl }
  top-from [] h (Some p) up line = cc
  top-from (k ∷ hs) h None up line = cc
  top-from (k ∷ hs) h (Some p) up line =
      let on : k ∷ hs ≡ p ∷ line_from (option_map as_handle (parent_of f p)) f = sym line ∙ line_step f p valid.trees.once in
      let same : k ≡ p = cc in
      let above = top-from hs p (parent_of f p) refl cc in
      rw same (record { root = above.root; shown = above.shown ∙ shown-up h (as_handle p) (sym (ap (option_map as_handle) up)) })

  -- the last of a line is such a one
  pub top-is : (h : ℕ) → IsTop scene h (last_from h (line_of f h))
  top-is h =
      subst (λ (hs : List ℕ). IsTop scene h (last_from h hs)) (sym (line_step f h valid.trees.once))
      (top-from (line_from (option_map as_handle (parent_of f h)) f) h (parent_of f h) refl refl)

  abbrev roots : ℕ → Bool
  roots k = eqb k scene.active || (eqb k 1 || eqb k 2)

  root-off : (k r : ℕ) → has f k ≡ false → is_root_at scene.trees r ≡ true → eqb k r ≡ false
  root-off k r gone root = false_from_ne_true (eqb k r) (λ e. both_ways (has f k) gone (subst (λ n. has f n ≡ true) (sym (eqb-true k r e)) (root_there scene valid r root)))

  -- what has no parent is shown where it is one of three roots
  pub top-shown : (k : ℕ) → None ≡ option_map as_handle (parent_of f k) → is_shown scene k ≡ roots k
  top-shown k none = among-shown scene k ∙ elim (cases_Bool (has f k)) [
    | inl there ↦
        let path : path_of f k ≡ k ∷ [] = (goes_up f k valid.trees.once there).path ∙ ap (λ (o : Option Handle). k ∷ path_from o f) (sym none) in
        let one : map handle_of (path_at scene k) ≡ k ∷ [] = map-path_by handle_of (λ j. eqb j k) [] scene.trees ∙ path in
        shown-by scene valid k
        ∙ rw (ends-one scene.active k (path_at scene k) one, ends-one 1 k (path_at scene k) one, ends-one 2 k (path_at scene k) one) refl
    | inr gone ↦
        let off : has (handles_of (shown_trees scene)) k ≡ false = false_from_ne_true (has (handles_of (shown_trees scene)) k) (λ s. both_ways (has f k) gone (shown_there scene valid k s)) in
        off ∙ rw (root-off k scene.active gone valid.trees.active, root-off k 1 gone valid.trees.top_layer, root-off k 2 gone valid.trees.system_layer) refl
  ]
