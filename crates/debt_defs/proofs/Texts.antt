-- A change leaves all texts but that of the object that it names.
use Rattle.std.proofs.Common.{◌≡◌, ◌∙◌, sym, ap, ℕ, zero, suc, Bool, true, false, cond, eqb, ◌||◌, Option, Some, None, is_some, List, refl, arith, inl, inr}
use Rattle.std.proofs.lemmas.Bool.{cases_Bool, or_parts, both_ways, false≢true, eqb-true}
use Rattle.std.proofs.lemmas.Bool.Decides.{nat_tests}
use Rattle.gui_base.specs.declared.words.Kind.TheVariants.{Screen}
use Rattle.gui_base.specs.Forest.{Forest, Empty, Tree, and_then, put_at, leaf, cut_by, tree_by, with_children_by, with_row_by}
use Rattle.scene_defs.specs.declared.Change.{Change}
use Rattle.scene_defs.specs.declared.Change.TheVariants as change
use Rattle.scene_defs.specs.Assets.{AssetChange}
use Rattle.scene_defs.specs.Change.{styling_in, asset_change_in, scene_after, after_by}
use Rattle.scene_defs.specs.Edits.{over_row, over_text, last_below, at_index_below, parent_object}
use Rattle.scene_defs.specs.Row.{Setter}
use Rattle.scene_defs.specs.Deeds.{setter_of}
use Rattle.scene_defs.specs.Scene.{Object, Scene, is_at, object_by, object_at, new_object}
use Rattle.scene_defs.specs.Styling.{Styling}
use Rattle.scene_defs.specs.Valid.{IsValid}
use Rattle.scene_defs.proofs.Distinct.{there, IsDistinct, distinct_once}
use Rattle.debt_defs.specs.Debt.{is_named}
use Rattle.debt_defs.specs.Named.{named}

module _ (k : ℕ) (text : List ℕ) where
  -- an object has this text, where it is k
  abbrev pub HasText : Object → Type 0
  HasText object = is_at k object ≡ true → object.text ≡ text

  -- each object of trees has
  abbrev pub HaveText : Forest Object → Type 0
  HaveText Empty = Unit {0}
  HaveText (Tree object cs rest) = HasText object × (HaveText cs × HaveText rest)

  have-then : (f g : Forest Object) → HaveText f → HaveText g → HaveText (and_then f g)
  have-then Empty g f-has g-has = g-has
  have-then (Tree object cs rest) g f-has g-has = (f-has.0, (f-has.1.0, have-then rest g f-has.1.1 g-has))

  have-put : (n : ℕ) (t f : Forest Object) → HaveText t → HaveText f → HaveText (put_at n t f)
  have-put zero t f t-has f-has = have-then t f t-has f-has
  have-put (suc n) t Empty t-has f-has = t-has
  have-put (suc n) t (Tree object cs rest) t-has f-has = (f-has.0, (f-has.1.0, have-put n t rest t-has f-has.1.1))

  have-cut : (test : Object → Bool) (f : Forest Object) → HaveText f → HaveText (cut_by test f)
  have-cut test Empty has = tt
  have-cut test (Tree object cs rest) has =
      let inner = have-cut test cs has.1.0 in
      let later = have-cut test rest has.1.1 in
      elim (cases_Bool (test object)) [ inl is ↦ rw is later | inr isnt ↦ rw isnt (has.0, (inner, later)) ]

  have-tree : (test : Object → Bool) (f : Forest Object) → HaveText f → HaveText (tree_by test f)
  have-tree test Empty has = tt
  have-tree test (Tree object cs rest) has = chosen (test object) _ _ (has.0, (has.1.0, tt)) (chosen _ _ _ (have-tree test cs has.1.0) (have-tree test rest has.1.1)) where
    chosen : (b : Bool) (f g : Forest Object) → HaveText f → HaveText g → HaveText (cond b f g)
    chosen true f g f-has g-has = f-has
    chosen false f g f-has g-has = g-has

  have-children : (test : Object → Bool) (g : Forest Object → Forest Object) → ((cs : Forest Object) → HaveText cs → HaveText (g cs)) → (f : Forest Object) → HaveText f →
      HaveText (with_children_by test g f)
  have-children test g each Empty has = tt
  have-children test g each (Tree object cs rest) has =
      let inner = have-children test g each cs has.1.0 in
      let later = have-children test g each rest has.1.1 in
      elim (cases_Bool (test object)) [ inl is ↦ rw is (has.0, (each cs has.1.0, has.1.1)) | inr isnt ↦ rw isnt (has.0, (inner, later)) ]

  have-set : (test : Object → Bool) (s : Object → Object) → ((object : Object) → test object ≡ true → HasText object → HasText (s object)) → (f : Forest Object) → HaveText f →
      HaveText (with_row_by test s f)
  have-set test s each Empty has = tt
  have-set test s each (Tree object cs rest) has = (own, (have-set test s each cs has.1.0, have-set test s each rest has.1.1)) where
    own : HasText (cond (test object) (s object) object)
    own = elim (cases_Bool (test object)) [ inl is ↦ rw is (each object is has.0) | inr isnt ↦ rw isnt has.0 ]

  have-leaf : (object : Object) → is_at k object ≡ false → HaveText (leaf object)
  have-leaf object other = (λ is. absurd (both_ways _ other is), (tt, tt))

  have-index : (parent : Option Object) (trees : Forest Object) (h n : ℕ) → HaveText trees → HaveText (at_index_below parent trees h n)
  have-index None trees h n has = has
  have-index (Some p) trees h n has =
      have-children (is_at p.handle) (put_at n (tree_by (is_at h) trees)) (λ cs c. have-put n _ cs (have-tree (is_at h) trees has) c) (cut_by (is_at h) trees) (have-cut (is_at h) trees has)

  have-last : (h p : ℕ) (trees : Forest Object) → HaveText trees → HaveText (with_children_by (is_at p) (λ cs. and_then cs (tree_by (is_at h) trees)) (cut_by (is_at h) trees))
  have-last h p trees has =
      have-children (is_at p) (λ cs. and_then cs (tree_by (is_at h) trees)) (λ cs c. have-then cs _ c (have-tree (is_at h) trees has)) (cut_by (is_at h) trees) (have-cut (is_at h) trees has)

  have-below : (parent : Option Object) (trees : Forest Object) (h : ℕ) → HaveText trees → HaveText (last_below parent trees h)
  have-below None trees h has = has
  have-below (Some p) trees h has = have-last h p.handle trees has

  -- what sets a row, styles, fonts or images leaves all texts
  have-plain : (scene : Scene) (change : Change) (setter : Option Setter) (styling : Option Styling) (assets : Option AssetChange) →
      (is_some setter || (is_some styling || is_some assets)) ≡ true → HaveText scene.trees → HaveText (after_by setter styling assets scene change).trees
  have-plain scene change (Some setter) styling assets plain has = have-set (is_at setter.handle.0) (over_row setter.after) (λ object is own. own) scene.trees has
  have-plain scene change None (Some styling) assets plain has = has
  have-plain scene change None None (Some assets) plain has = has
  have-plain scene change None None None plain has = absurd (false≢true plain)

  -- the text of another object leaves this one
  text-set : (h : ℕ) (new : List ℕ) (trees : Forest Object) → eqb h k ≡ false → HaveText trees → HaveText (with_row_by (is_at h) (over_text new) trees)
  text-set h new trees other has = have-set (is_at h) (over_text new) (λ object is own at. absurd (apart object is at)) trees has where
    apart : (object : Object) → is_at h object ≡ true → is_at k object ≡ true → ⊥
    apart object is at = both_ways _ other (grind (arith, nat_tests, is, at))

  have-after : (scene : Scene) (change : Change) → is_named (named change) k ≡ false → HaveText scene.trees → HaveText (scene_after scene change).trees
  have-after scene (change.Screen n) other has = have-then scene.trees _ has (have-leaf (new_object n.0 Screen) other)
  have-after scene (change.New n p kind) other has =
      have-children (is_at p.0) (λ cs. and_then cs (leaf (new_object n.0 kind))) (λ cs c. have-then cs _ c (have-leaf (new_object n.0 kind) other)) scene.trees has
  have-after scene (change.Delete h) other has = have-cut (is_at h.0) scene.trees has
  have-after scene (change.Parent h p) other has = have-last h.0 p.0 scene.trees has
  have-after scene (change.Index h n) other has = have-index (parent_object scene h.0) scene.trees h.0 n has
  have-after scene (change.Front h) other has = have-below (parent_object scene h.0) scene.trees h.0 has
  have-after scene (change.Back h) other has = have-index (parent_object scene h.0) scene.trees h.0 0 has
  have-after scene (change.Text h new) other has = text-set h.0 new scene.trees other has
  have-after scene (change.Load h) other has = has
  have-after scene change other has = have-plain scene change (setter_of change) (styling_in scene change) (asset_change_in scene change) refl has

  have-off : (f : Forest Object) → there f k ≡ false → HaveText f
  have-off Empty off = tt
  have-off (Tree object cs rest) off =
      let a : (is_at k object ≡ false) × ((there cs k || there rest k) ≡ false) = or_parts _ _ off in
      let b : (there cs k ≡ false) × (there rest k ≡ false) = or_parts _ _ a.1 in
      (λ is. absurd (both_ways _ a.0 is), (have-off cs b.0, have-off rest b.1))

  -- k stands once
  have-own : (f : Forest Object) (object : Object) → IsDistinct f → object_by (is_at k) f ≡ Some object → object.text ≡ text → HaveText f
  have-own Empty object d e own = tt
  have-own (Tree o cs rest) object d e own = elim (cases_Bool (is_at k o)) [
    | inl is ↦
        let same : o ≡ object = cc (rw is at e) in
        let handle = eqb-true o.handle k is in
        (λ i. ap (λ (a : Object). a.text) same ∙ own, (have-off cs (ap (there cs) (sym handle) ∙ d.1), have-off rest (ap (there rest) (sym handle) ∙ d.2)))
    | inr isnt ↦ elim (cases_Bool (there cs k)) [
      | inl below ↦ (λ is. absurd (both_ways _ isnt is), (have-own cs object d.3 (rw (isnt, below) at e) own, have-off rest (d.0 k below)))
      | inr beside ↦ (λ is. absurd (both_ways _ isnt is), (have-off cs beside, have-own rest object d.4 (rw (isnt, beside) at e) own))
    ]
  ]

  -- where k is found, it has it
  found-text : (f : Forest Object) (object : Object) → HaveText f → object_by (is_at k) f ≡ Some object → object.text ≡ text
  found-text Empty object has e = cc
  found-text (Tree o cs rest) object has e = elim (cases_Bool (is_at k o)) [
    | inl is ↦ let same : o ≡ object = cc (rw is at e) in ap (λ (a : Object). a.text) (sym same) ∙ has.0 is
    | inr isnt ↦ elim (cases_Bool (there cs k)) [
      | inl below ↦ found-text cs object has.1.0 (rw (isnt, below) at e)
      | inr beside ↦ found-text rest object has.1.1 (rw (isnt, beside) at e)
    ]
  ]

pub text-stays : (scene : Scene) (change : Change) (k : ℕ) (old new : Object) → IsValid scene → is_named (named change) k ≡ false →
    object_at scene k ≡ Some old → object_at (scene_after scene change) k ≡ Some new → new.text ≡ old.text
text-stays scene change k old new valid other was is =
    let has = have-own k old.text scene.trees old (distinct_once scene.trees valid.trees.once) was refl in
    found-text k old.text (scene_after scene change).trees new (have-after k old.text scene change other has) is
