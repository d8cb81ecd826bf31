-- What trees that go away or elsewhere concern: their parents, and what lies in them.
use Rattle.std.proofs.Common.{◌≡◌, ◌∙◌, sym, ap, subst, refl, ℕ, true, false, eqb, ◌||◌, List, [], ◌∷◌, map, Option, Some, None, option_map, arith, inl, inr}
use Rattle.std.specs.List.{list_any}
use Rattle.std.specs.Prelude.{unwrap_or}
use Rattle.std.proofs.lemmas.Bool.{cases_Bool, or_parts, or_from, or_left, or_right, both_ways, false≢true, false_from_ne_true, eqb-true}
use Rattle.std.proofs.lemmas.Bool.Decides.{nat_tests}
use Rattle.gui_base.specs.Forest.{Forest, Empty, Tree, and_then, roots, tree_by, cut_by, children_by, parent_by, parent_of, path_by, with_children_by}
use Rattle.gui_base.specs.declared.Handle.{Handle}
use Rattle.gui_base.proofs.Forests.{map-parent_by}
use Rattle.scene_defs.specs.declared.Change.{Change}
use Rattle.scene_defs.specs.declared.Change.TheVariants as change
use Rattle.debt_defs.specs.declared.subject.Subject.{Subject}
use Rattle.debt_defs.specs.declared.subject.Subject.TheVariants.{Goes, Moves, Among}
use Rattle.scene_defs.specs.Change.{answer_of, changed, scene_after}
use Rattle.scene_defs.specs.Scene.{Object, Scene, handle_of, handles_of, is_at, is_there}
use Rattle.debt_defs.specs.Subject.{subject_of}
use Rattle.scene_defs.specs.Valid.{IsValid}
use Rattle.scene_defs.proofs.Distinct.{there, IsDistinct, distinct_once, there-and_then}
use Rattle.scene_defs.proofs.Handles.{has-handles}
use Rattle.scene_defs.proofs.Totals.{with_children-off}
use Rattle.debt_defs.specs.Concerns.{children, lies_in, touches}
use Rattle.debt_defs.specs.SceneLook.{is_among}
use Rattle.debt_defs.proofs.Inside.{there-tree}
use Rattle.debt_defs.proofs.Moved.{lies-in-tree, IsTreeAt, tree-at}
use Rattle.debt_defs.proofs.Paths.{not-in}
use Rattle.gui_concerns.specs.Concerned.{parent_or_self, Covers}
use Rattle.gui_concerns.proofs.Changes.{after_is}
use Rattle.gui_concerns.proofs.Subjects.{goes-is, moves-is}
use Rattle.gui_concerns.specs.declared.concerned.Concerned.TheVariants.{One, Both, Moved}

-- The parent of a child.
among-handles : (h : ℕ) (objects : List Object) → is_among (map handle_of objects) h ≡ list_any (is_at h) objects
among-handles h [] = refl
among-handles h (object ∷ objects) = ap (λ b. is_at h object || b) (among-handles h objects)

root-there : (h : ℕ) (f : Forest Object) → list_any (is_at h) (roots f) ≡ true → there f h ≡ true
root-there h Empty i = i
root-there h (Tree object cs rest) i = grind (arith, nat_tests, root-there h rest)

child-there : (h k : ℕ) (f : Forest Object) → list_any (is_at h) (roots (children_by (is_at k) f)) ≡ true → there f h ≡ true
child-there h k Empty i = absurd (false≢true i)
child-there h k (Tree object cs rest) i = grind (arith, nat_tests, root-there h cs, child-there h k cs, child-there h k rest)

isnt-at : (object : Object) (f : Forest Object) (k : ℕ) → there f object.handle ≡ false → there f k ≡ true → is_at k object ≡ false
isnt-at object f k out i = grind (arith, nat_tests)

root-parent : (h : ℕ) (above : Option Object) (f : Forest Object) → IsDistinct f → list_any (is_at h) (roots f) ≡ true → parent_by (is_at h) above f ≡ above
root-parent h above Empty d i = absurd (false≢true i)
root-parent h above (Tree object cs rest) d i = elim (cases_Bool (is_at h object)) [
  | inl is ↦ rw is refl
  | inr isnt ↦
      let root : list_any (is_at h) (roots rest) ≡ true = rw isnt at i in
      let out = false_from_ne_true (there cs h) (λ j. both_ways _ (d.0 h j) (root-there h rest root)) in
      rw (isnt, out) (root-parent h above rest d.4 root)
]

child-parent : (h k : ℕ) (above : Option Object) (f : Forest Object) → IsDistinct f → list_any (is_at h) (roots (children_by (is_at k) f)) ≡ true →
    option_map handle_of (parent_by (is_at h) above f) ≡ Some k
child-parent h k above Empty d i = absurd (false≢true i)
child-parent h k above (Tree object cs rest) d i = elim (cases_Bool (is_at k object)) [
  | inl top ↦
      let root : list_any (is_at h) (roots cs) ≡ true = rw top at i in
      let inner = root-there h cs root in
      rw (isnt-at object cs h d.1 inner, inner, root-parent h (Some object) cs d.3 root) (ap Some (eqb-true object.handle k top))
  | inr lower ↦ elim (cases_Bool (there cs k)) [
    | inl below ↦
        let child : list_any (is_at h) (roots (children_by (is_at k) cs)) ≡ true = rw (lower, below) at i in
        let inner = child-there h k cs child in
        rw (isnt-at object cs h d.1 inner, inner) (child-parent h k (Some object) cs d.3 child)
    | inr beside ↦
        let child : list_any (is_at h) (roots (children_by (is_at k) rest)) ≡ true = rw (lower, beside) at i in
        let later = child-there h k rest child in
        let out = false_from_ne_true (there cs h) (λ j. both_ways _ (d.0 h j) later) in
        rw (isnt-at object rest h d.2 later, out) (child-parent h k above rest d.4 child)
  ]
]

distinct : (scene : Scene) → IsValid scene → IsDistinct scene.trees
distinct scene valid = distinct_once scene.trees valid.trees.once

-- what is not the parent has not the child
not-child : (scene : Scene) (h k p : ℕ) → IsValid scene → p ≡ parent_or_self (handles_of scene.trees) h → eqb k p ≡ false → is_among (children scene k) h ≡ false
not-child scene h k p valid is other = false_from_ne_true _ (λ among.
    let child : list_any (is_at h) (roots (children_by (is_at k) scene.trees)) ≡ true = sym (among-handles h (roots (children_by (is_at k) scene.trees))) ∙ among in
    let parent : parent_of (handles_of scene.trees) h ≡ Some k =
    sym (map-parent_by handle_of (λ j. eqb j h) None scene.trees) ∙ child-parent h k None scene.trees (distinct scene valid) child in
    let same : p ≡ k = is ∙ ap (λ (o : Option ℕ). unwrap_or o h) parent in
    let here : eqb k p ≡ true = rw same (grind (arith, nat_tests)) in
    both_ways _ other here)

-- What is left of a tree stands in none that is cut out.
there-cut : (f : Forest Object) (h k : ℕ) → there (cut_by (is_at h) f) k ≡ true → there f k ≡ true
there-cut Empty h k i = i
there-cut (Tree object cs rest) h k i = grind (arith, nat_tests, there-cut cs h k, there-cut rest h k)

cut-apart : (f : Forest Object) (h k : ℕ) → IsDistinct f → there (cut_by (is_at h) f) k ≡ true → there (tree_by (is_at h) f) k ≡ false
cut-apart Empty h k d i = refl
cut-apart (Tree object cs rest) h k d i =
    grind (arith, nat_tests, i, d.0 k, d.1, d.2, there-cut cs h k, there-cut rest h k, there-tree cs h k, there-tree rest h k, cut-apart cs h k d.3, cut-apart rest h k d.4)

pub left-off : (scene : Scene) (h k : ℕ) → IsValid scene → there (cut_by (is_at h) scene.trees) k ≡ true → lies_in scene h k ≡ false
left-off scene h k valid left = false_from_ne_true _ (λ on.
    both_ways _ (cut-apart scene.trees h k (distinct scene valid) left) (lies-in-tree h k [] scene.trees (distinct scene valid) refl on))

-- A tree that goes below p: all that stands in it lies below its root still.
module _ (h k p : ℕ) (t : Forest Object) (at : IsTreeAt h t) (part : there t k ≡ true) where
  root-path : (object : Object) (kids : Forest Object) (above : List Object) → is_at h object ≡ true → there (Tree object kids Empty) k ≡ true → list_any (is_at h) (path_by (is_at k) above (Tree object kids Empty)) ≡ true
  root-path object kids above named i = elim (cases_Bool (is_at k object)) [
    | inl is ↦ rw is (or_left _ _ named)
    | inr isnt ↦
        let inner : there kids k ≡ true = let j = rw isnt at i in grind (arith, nat_tests) in
        elim (cases_Bool (list_any (is_at h) (path_by (is_at k) (object ∷ above) kids))) [
          | inl on ↦ rw (isnt, inner) on
          | inr off ↦ absurd (not-in (is_at k) (is_at h) object above kids named inner off)
        ]
  ]

  top-path : (above : List Object) → list_any (is_at h) (path_by (is_at k) above t) ≡ true
  top-path above = rw at.tree (root-path at.object at.children above at.named (rw at.tree at part))

  last-path : (above : List Object) (cs : Forest Object) → there cs k ≡ false → list_any (is_at h) (path_by (is_at k) above (and_then cs t)) ≡ true
  last-path above Empty out = top-path above
  last-path above (Tree object cs rest) out =
      let a : (is_at k object ≡ false) × ((there cs k || there rest k) ≡ false) = or_parts _ _ out in
      let b : (there cs k ≡ false) × (there rest k ≡ false) = or_parts _ _ a.1 in
      rw (a.0, b.0) (last-path above rest b.1)

  abbrev pub put : Forest Object → Forest Object
  put = with_children_by (is_at p) (λ cs. and_then cs t)

  pub put-there : (f : Forest Object) → there f p ≡ true → there (put f) k ≡ true
  put-there Empty i = absurd (false≢true i)
  put-there (Tree object cs rest) i = elim (cases_Bool (is_at p object)) [
    | inl top ↦ rw (top, there-and_then cs t k, part) (grind (arith, nat_tests))
    | inr lower ↦ rw lower (let a = put-there cs in let b = put-there rest in grind (arith, nat_tests))
  ]

  put-path : (above : List Object) (f : Forest Object) → there f p ≡ true → there f k ≡ false → list_any (is_at h) (path_by (is_at k) above (put f)) ≡ true
  put-path above Empty i out = absurd (false≢true i)
  put-path above (Tree object cs rest) i out =
      let a : (is_at k object ≡ false) × ((there cs k || there rest k) ≡ false) = or_parts _ _ out in
      let b : (there cs k ≡ false) × (there rest k ≡ false) = or_parts _ _ a.1 in
      elim (cases_Bool (is_at p object)) [
        | inl top ↦
            let inner : there (and_then cs t) k ≡ true = there-and_then cs t k ∙ or_right _ _ part in
            rw (top, a.0, inner) (last-path (object ∷ above) cs b.0)
        | inr lower ↦ elim (cases_Bool (there cs p)) [
          | inl below ↦ rw (lower, a.0, put-there cs below) (put-path (object ∷ above) cs below b.0)
          | inr off ↦
              let later : there rest p ≡ true = rw (lower, off) at i in
              rw (lower, a.0, with_children-off cs p (λ cs. and_then cs t) off, b.0) (put-path above rest later b.1)
        ]
      ]

-- what does not lie below h after it did not before
pub moved-off : (scene : Scene) (h k p : ℕ) → IsValid scene → there (scene_after scene (change.Parent (record { 0 = h }) (record { 0 = p }))).trees k ≡ true →
    lies_in (scene_after scene (change.Parent (record { 0 = h }) (record { 0 = p }))) h k ≡ false → lies_in scene h k ≡ false
moved-off scene h k p valid i off =
    let left = cut_by (is_at h) scene.trees in
    let t = tree_by (is_at h) scene.trees in
    let d = distinct scene valid in
    elim (cases_Bool (there left p)) [
      | inl on ↦ false_from_ne_true _ (λ lies.
          let part : there t k ≡ true = lies-in-tree h k [] scene.trees d refl lies in
          let out : there left k ≡ false = false_from_ne_true _ (λ j. both_ways _ (cut-apart scene.trees h k d j) part) in
          let at = tree-at h scene.trees (there-tree scene.trees h k part).0 in
          both_ways _ off (put-path h k p t at part [] left on out))
      | inr gone ↦ left-off scene h k valid (rw (with_children-off left p (λ cs. and_then cs t) gone) at i)
    ]

-- Each change of the trees.
module _ (scene : Scene) (valid : IsValid scene) (h p : Handle) (is : p.0 ≡ parent_or_self (handles_of scene.trees) h.0) where
  after-there : (c : Change) (k : ℕ) → answer_of scene c ≡ None → is_there (changed scene c) k ≡ true → there (scene_after scene c).trees k ≡ true
  after-there c k done i = sym (has-handles (scene_after scene c).trees k) ∙ (ap (λ (s : Scene). is_there s k) (sym (after_is scene c done)) ∙ i)

  covers-delete : Covers (One p) scene (change.Delete h)
  covers-delete done k i other =
      or_from _ _ (left-off scene h.0 k valid (after-there (change.Delete h) k done i)) (not-child scene h.0 k p.0 valid is other)

  pub covers_goes : (c : Change) → Goes h ≡ subject_of c → Covers (One p) scene c
  covers_goes c about = subst (Covers (One p) scene) (sym (goes-is c h about)) covers-delete

  covers-parent : (q : Handle) → Covers (Moved h p q) scene (change.Parent h q)
  covers-parent q done k i other =
      let c = change.Parent h q in
      let a : ((eqb k p.0 || eqb k q.0) ≡ false) × ((eqb k h.0 || lies_in (changed scene c) h.0 k) ≡ false) = or_parts _ _ other in
      let b : (eqb k p.0 ≡ false) × (eqb k q.0 ≡ false) = or_parts _ _ a.0 in
      let e : (eqb k h.0 ≡ false) × (lies_in (changed scene c) h.0 k ≡ false) = or_parts _ _ a.1 in
      let off : lies_in (scene_after scene c) h.0 k ≡ false = ap (λ (s : Scene). lies_in s h.0 k) (sym (after_is scene c done)) ∙ e.1 in
      let away = moved-off scene h.0 k q.0 valid (after-there c k done i) off in
      or_from _ _ (or_from _ _ away (not-child scene h.0 k p.0 valid is b.0)) b.1

  pub covers_moves : (c : Change) (q : Handle) → Moves h q ≡ subject_of c → Covers (Moved h p q) scene c
  covers_moves c q about = subst (Covers (Moved h p q) scene) (sym (moves-is c h q about)) (covers-parent q)

  place-off : (k : ℕ) → (eqb k h.0 || eqb k p.0) ≡ false → (eqb k h.0 || is_among (children scene k) h.0) ≡ false
  place-off k other =
      let a : (eqb k h.0 ≡ false) × (eqb k p.0 ≡ false) = or_parts _ _ other in
      or_from _ _ a.0 (not-child scene h.0 k p.0 valid is a.1)

  pub covers_among : (c : Change) → Among h ≡ subject_of c → Covers (Both h p) scene c
  covers_among c about done k i other = ap (λ (s : Subject). touches scene s k) (sym about) ∙ place-off k other
