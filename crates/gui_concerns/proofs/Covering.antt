-- What a change concerns, by the change and the trees after it.
use Rattle.std.proofs.Common.{◌≡◌, ◌∙◌, sym, ap, ℕ, Bool, true, false, List, [], ◌∷◌, refl, None, arith, inl, inr}
use Rattle.std.specs.List.{list_any, list_all}
use Rattle.std.specs.Prelude.{◌==◌, not}
use Rattle.std.proofs.lemmas.Bool.{cases_Bool, and_parts, or_from, or_parts, eqb-true}
use Rattle.std.proofs.lemmas.Bool.Decides.{nat_tests}
use Rattle.gui_base.specs.Forest.{Forest, Empty, Tree, path_by, has_by}
use Rattle.gui_base.specs.Props.{inherits}
use Rattle.gui_base.specs.declared.Handle.{Handle}
use Rattle.gui_base.specs.declared.props.Prop.{Prop}
use Rattle.scene_defs.specs.declared.Change.{Change}
use Rattle.debt_defs.specs.declared.subject.Reach.{Reach}
use Rattle.debt_defs.specs.declared.subject.Reach.TheVariants.{OfProp, OfStyle}
use Rattle.debt_defs.specs.declared.subject.Subject.{Subject}
use Rattle.debt_defs.specs.declared.subject.Subject.TheVariants.{Spread, Styled, Shared}
use Rattle.scene_defs.specs.Change.{answer_of, changed, scene_after}
use Rattle.scene_defs.specs.Scene.{Object, Scene, is_at, path_at}
use Rattle.debt_defs.specs.Subject.{subject_of}
use Rattle.debt_defs.specs.Concerns.{nearest, asks, asks_user, is_inherited_by, lies_in, touches, uses_style as is_user}
use Rattle.debt_defs.specs.Orders.{leaves_trees}
use Rattle.gui_style.specs.Styles.{uses_style}
use Rattle.gui_concerns.specs.Concerned.{is_below, is_below_user, is_own, may_be, Covers}
use Rattle.gui_concerns.specs.declared.concerned.Concerned.{Concerned}
use Rattle.gui_concerns.specs.Edits.{edits}
use Rattle.gui_concerns.specs.declared.edit.Edit.TheVariants.{Same}
use Rattle.gui_concerns.specs.declared.concerned.Concerned.TheVariants.{One, Below, Users, BelowUsers}
use Rattle.gui_concerns.proofs.Below.{below_stays}
use Rattle.gui_concerns.proofs.Changes.{after_is}
use Rattle.gui_concerns.proofs.Subjects.{leaves-by, users-stay, users-stay-below}

-- the nearest of a path is the object itself
nearest-passes : (test : Object → Bool) (above : List Object) (trees : Forest Object) → list_all test (nearest (path_by test above trees)) ≡ true
nearest-passes test above Empty = refl
nearest-passes test above (Tree object cs rest) = elim (cases_Bool (test object)) [
  | inl here ↦ rw (here, here) refl
  | inr off ↦ elim (cases_Bool (has_by test cs)) [
    | inl below ↦ rw (off, below) (nearest-passes test (object ∷ above) cs)
    | inr beside ↦ rw (off, beside) (nearest-passes test above rest)
  ]
]

-- what has one handle has no other
other-off : (h k : ℕ) (objects : List Object) → (k == h) ≡ false → list_all (is_at k) objects ≡ true → list_any (is_at h) objects ≡ false
other-off h k [] other all = refl
other-off h k (object ∷ objects) other all = grind (arith, nat_tests, other, all, other-off h k objects other)

-- a value that is not inherited is asked of the object alone
covers-nearest : (scene : Scene) (h k : ℕ) (inherited : Bool) → inherited ≡ false → (k == h) ≡ false → asks scene inherited h k ≡ false
covers-nearest scene h k true own other = cc
covers-nearest scene h k false own other = other-off h k (nearest (path_at scene k)) other (nearest-passes (is_at k) [] scene.trees)

-- the nearest of a path is on it
nearest-off : (test : Object → Bool) (path : List Object) → list_any test path ≡ false → list_any test (nearest path) ≡ false
nearest-off test [] off = refl
nearest-off test (object ∷ above) off = let parts : (test object ≡ false) × (list_any test above ≡ false) = or_parts _ _ off in rw parts.0 refl

-- no value is asked of what does not lie above
asks-below : (scene : Scene) (inherited : Bool) (h k : ℕ) → lies_in scene h k ≡ false → asks scene inherited h k ≡ false
asks-below scene true h k off = off
asks-below scene false h k off = nearest-off (is_at h) (path_at scene k) off

-- what lies below an object is the same after a change that leaves the trees
lies-not : (scene : Scene) (c : Change) (h k : ℕ) → leaves_trees scene c ≡ true → is_below (changed scene c) h k ≡ false → is_below scene h k ≡ false
lies-not scene c h k leaves off = sym (below_stays scene c h k leaves) ∙ off

-- its values are asked of it and of what lies above
asks-not : (scene : Scene) (c : Change) (inherited : Bool) (h k : ℕ) → leaves_trees scene c ≡ true → is_below (changed scene c) h k ≡ false → asks scene inherited h k ≡ false
asks-not scene c inherited h k leaves off =
    let parts : ((k == h) ≡ false) × (lies_in scene h k ≡ false) = or_parts _ _ (lies-not scene c h k leaves off) in
    asks-below scene inherited h k parts.1

-- What concerns those objects that may be.
pub covers_same : (scene : Scene) (c : Change) (concerned : Concerned) (subject : Subject) → ((k : ℕ) → touches scene subject k ≡ may_be (changed scene c) concerned k) → subject ≡ subject_of c →
    Covers concerned scene c
covers_same scene c concerned subject same about done k there off = ap (λ (s : Subject). touches scene s k) (sym about) ∙ (same k ∙ off)

-- What concerns an object and those below it.
module _ (scene : Scene) (c : Change) (h : Handle) where
  leaves : (subject : Subject) → edits scene subject ≡ Same → subject ≡ subject_of c → leaves_trees scene c ≡ true
  leaves subject same about = leaves-by scene c (sym same ∙ ap (edits scene) about)

  pub covers_spread : Spread h ≡ subject_of c → Covers (Below h) scene c
  covers_spread about done k there off =
      ap (λ (s : Subject). touches scene s k) (sym about) ∙ lies-not scene c h.0 k (leaves (Spread h) refl about) off

  pub covers_styled : (reach : Reach) → Styled h reach ≡ subject_of c → Covers (Below h) scene c
  covers_styled reach about done k there off =
      ap (λ (s : Subject). touches scene s k) (sym about) ∙ asks-not scene c (is_inherited_by scene reach) h.0 k (leaves (Styled h reach) refl about) off

  own-is : (reach : Reach) → is_own reach ≡ true → is_inherited_by scene reach ≡ false
  own-is (OfProp prop) own = by (inherits prop) own where
    by : (b : Bool) → not b ≡ true → b ≡ false
    by true is = cc
    by false is = refl
  own-is (OfStyle s) own = cc

  pub covers_own : (reach : Reach) → Styled h reach ≡ subject_of c → is_own reach ≡ true → Covers (One h) scene c
  covers_own reach about own done k there off =
      ap (λ (s : Subject). touches scene s k) (sym about) ∙ covers-nearest scene h.0 k (is_inherited_by scene reach) (own-is reach own) off

-- What concerns the users of a style, and those below them. A change of a style leaves its users.
users-off : (test : ℕ → Bool) (k : ℕ) (objects : List Object) → test k ≡ false → list_all (is_at k) objects ≡ true → list_any (λ (object : Object). test object.handle) objects ≡ false
users-off test k [] off all = refl
users-off test k (object ∷ objects) off all =
    let parts : (is_at k object ≡ true) × (list_all (is_at k) objects ≡ true) = and_parts _ _ all in
    or_from _ _ (ap test (eqb-true object.handle k parts.0) ∙ off) (users-off test k objects off parts.1)

-- a value that is not inherited is asked of the object alone
asks-own : (scene : Scene) (number k : ℕ) (inherited : Bool) → inherited ≡ false → uses_style scene.book k number ≡ false → asks_user scene inherited number k ≡ false
asks-own scene number k true own off = cc
asks-own scene number k false own off = users-off (λ j. uses_style scene.book j number) k (nearest (path_at scene k)) off (nearest-passes (is_at k) [] scene.trees)

asks-above : (scene : Scene) (number k : ℕ) (inherited : Bool) → is_below_user scene number k ≡ false → asks_user scene inherited number k ≡ false
asks-above scene number k true off = (or_parts _ _ off).1
asks-above scene number k false off = nearest-off (is_user scene.book number) (path_at scene k) (or_parts _ _ off).1

module _ (scene : Scene) (number : ℕ) (c : Change) (done : answer_of scene c ≡ None) (k : ℕ) where
  used : uses_style (scene_after scene c).book k number ≡ uses_style scene.book k number → uses_style (changed scene c).book k number ≡ false → uses_style scene.book k number ≡ false
  used stays off = sym stays ∙ (ap (λ (s : Scene). uses_style s.book k number) (sym (after_is scene c done)) ∙ off)

  below_used : is_below_user (scene_after scene c) number k ≡ is_below_user scene number k → is_below_user (changed scene c) number k ≡ false → is_below_user scene number k ≡ false
  below_used stays off = sym stays ∙ (ap (λ (s : Scene). is_below_user s number k) (sym (after_is scene c done)) ∙ off)

module _ (scene : Scene) (c : Change) (number : ℕ) (prop : Prop) (about : Shared number prop ≡ subject_of c) where
  pub covers_users : inherits prop ≡ false → Covers (Users number) scene c
  covers_users own done k there off =
      ap (λ (s : Subject). touches scene s k) (sym about) ∙ asks-own scene number k (inherits prop) own (used scene number c done k (users-stay scene c number prop k about) off)

  pub covers_below_users : Covers (BelowUsers number) scene c
  covers_below_users done k there off =
      ap (λ (s : Subject). touches scene s k) (sym about) ∙ asks-above scene number k (inherits prop) (below_used scene number c done k (users-stay-below scene c number prop k about) off)
