-- What is painted after an object went behind all its siblings.
use Rattle.std.proofs.Common.{◌≡◌, ◌∙◌, refl, sym, ap, subst, ℕ, eqb, List, Option, Some, None, option_map, inl, inr}
use Rattle.std.proofs.lemmas.Bool.{cases_Bool}
use Rattle.gui_base.specs.Forest.{Forest, Empty, Tree, StandsOnce, and_then, parent_of, tree_at}
use Rattle.gui_base.specs.declared.Handle.{Handle}
use Rattle.gui_base.proofs.Forests.{map-and_then, map-moved_last_by, map-parent_by}
use Rattle.gui_tree.proofs.Parts.{distinct_once}
use Rattle.scene_defs.specs.declared.Change.{Change}
use Rattle.scene_defs.specs.declared.Change.TheVariants as change
use Rattle.scene_defs.specs.Change.{answer_of, changed}
use Rattle.scene_defs.specs.Edits.{last_below, parent_object}
use Rattle.scene_defs.specs.Scene.{Object, Scene, handle_of, handles_of, is_at}
use Rattle.scene_defs.specs.Shown.{entries, entries_in}
use Rattle.scene_defs.specs.Valid.{IsValid}
use Rattle.scene_defs.specs.Visible.{root_tree, shown_trees}
use Rattle.gui_layout.specs.declared.places.Places.{Places}
use Rattle.gui_change.specs.Edits.{WasEdited}
use Rattle.gui_concerns.specs.Edits.{edit_of}
use Rattle.gui_change.specs.Fronts.{Fronts}
use Rattle.gui_concerns.specs.declared.concerned.Concerned.{Concerned}
use Rattle.gui_concerns.specs.declared.edit.Edit.TheVariants.{Beside}
use Rattle.gui_concerns.proofs.Changes.{after_is}
use Rattle.gui_change.proofs.Fronting.{gone_last, root-goes, root_of, three-go}
use Rattle.gui_change.proofs.Kids.{parent-child}
use Rattle.gui_change.proofs.Moves.{above-is}
use Rattle.gui_change.proofs.Orders.{shown_once}

root-handles : (f : Forest Object) (r : ℕ) → handles_of (root_tree f r) ≡ root_of (handles_of f) r
root-handles Empty r = refl
root-handles (Tree object cs rest) r = elim (cases_Bool (is_at r object)) [
  | inl is ↦ rw is refl
  | inr other ↦ rw other (root-handles rest r)
]

-- what is shown, as handles
abbrev pub three_of : Forest ℕ → ℕ → Forest ℕ
three_of f a = and_then (root_of f a) (and_then (root_of f 1) (root_of f 2))

pub shown-handles : (scene : Scene) → handles_of (shown_trees scene) ≡ three_of (handles_of scene.trees) scene.active
shown-handles scene =
    let f = scene.trees in
    map-and_then handle_of (root_tree f scene.active) (and_then (root_tree f 1) (root_tree f 2))
    ∙ (ap (and_then (handles_of (root_tree f scene.active))) (map-and_then handle_of (root_tree f 1) (root_tree f 2))
    ∙ rw (root-handles f scene.active, root-handles f 1, root-handles f 2) refl)

module _ (scene : Scene) (valid : IsValid scene) (h p : ℕ) (above : parent_of (handles_of scene.trees) h ≡ Some p) where
  abbrev f : Forest ℕ
  f = handles_of scene.trees

  last-handles : handles_of (last_below (parent_object scene h) scene.trees h) ≡ gone_last h p (tree_at f h) f
  last-handles = by (parent_object scene h) refl where
    by : (parent : Option Object) → parent_object scene h ≡ parent → handles_of (last_below parent scene.trees h) ≡ gone_last h p (tree_at f h) f
    by None is =
        let none : None ≡ Some p = ap (option_map handle_of) (sym is) ∙ (map-parent_by handle_of (λ j. eqb j h) None scene.trees ∙ above) in
        cc
    by (Some q) is =
        let same : Some q.handle ≡ Some p = ap (option_map handle_of) (sym is) ∙ (map-parent_by handle_of (λ j. eqb j h) None scene.trees ∙ above) in
        let it : q.handle ≡ p = cc in
        map-moved_last_by handle_of (λ j. eqb j h) (λ j. eqb j q.handle) scene.trees ∙ ap (λ j. gone_last h j (tree_at f h) f) it

  pub goes-last : Fronts h p (entries scene) (entries (record scene { trees = last_below (parent_object scene h) scene.trees h }))
  goes-last =
      let t = tree_at f h in
      let g = gone_last h p t f in
      let after : Scene = record scene { trees = last_below (parent_object scene h) scene.trees h } in
      let kid = parent-child f h p valid.trees.once above in
      let each = λ (r : ℕ). root-goes h p t f r (distinct_once f valid.trees.once) kid refl in
      let once : StandsOnce (three_of f scene.active) = subst StandsOnce (shown-handles scene) (shown_once scene valid) in
      let old : entries scene ≡ entries_in (three_of f scene.active) = ap entries_in (shown-handles scene) in
      let new : entries after ≡ entries_in (three_of g scene.active) = ap entries_in (shown-handles after) ∙ ap (λ (u : Forest ℕ). entries_in (three_of u scene.active)) last-handles in
      subst (λ es. Fronts h p es (entries after)) (sym old)
      (subst (λ es. Fronts h p (entries_in (three_of f scene.active)) es) (sym new)
      (three-go h p (root_of f scene.active) (root_of f 1) (root_of f 2) (root_of g scene.active) (root_of g 1) (root_of g 2) once (each scene.active) (each 1) (each 2)))

-- after a change that brings an object to the front
pub brought : (places : Places) (after : Scene) (parent : Handle) (made : Change) (concerned : Concerned) (removed : List ℕ) (was : WasEdited places after (Beside parent) made concerned removed) (h : Handle) → made ≡ change.Front h →
    Fronts h.0 parent.0 (entries was.was.before) (entries after)
brought places after parent made concerned removed was h is =
    let before = was.was.before in
    let above = above-is places after parent made concerned removed was (parent_of (handles_of before.trees) h.0) (was.does ∙ ap (edit_of before) is) in
    let now : after ≡ record before { trees = last_below (parent_object before h.0) before.trees h.0 } =
    was.was.is ∙ (ap (changed before) is ∙ after_is before (change.Front h) (ap (answer_of before) (sym is) ∙ was.was.done)) in
    subst (λ (s : Scene). Fronts h.0 parent.0 (entries before) (entries s)) (sym now) (goes-last before was.was.valid h.0 parent.0 above)
