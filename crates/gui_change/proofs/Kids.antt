-- Children and their parents.
use Rattle.std.proofs.Common.{◌≡◌, ◌∙◌, ◌⊎◌, refl, sym, ap, subst, ℕ, Bool, true, false, eqb, eq-eqb, ◌||◌, ◌∷◌, map, Option, Some, None, inl, inr}
use Rattle.std.specs.List.{list_any}
use Rattle.std.proofs.lemmas.Bool.{cases_Bool, both_ways, eqb-true, false≢true, false_from_ne_true, or_left, or_right}
use Rattle.gui_base.specs.Forest.{Forest, Empty, Tree, StandsOnce, children_by, children_of, has, parent_by, parent_of, roots}
use Rattle.gui_base.proofs.Forests.{map-children_by}
use Rattle.scene_defs.specs.Scene.{Object, Scene, handle_of, handles_of, is_at}
use Rattle.debt_defs.specs.Concerns.{children}
use Rattle.gui_layout.specs.Marked.{is_root}
use Rattle.gui_tree.proofs.Parts.{IsDistinct, distinct_once, has-part, part_children}
use Rattle.gui_layout.proofs.Settling.{parent-root, root-has}
use Rattle.gui_tree.proofs.Paths.{children_gone}

kid-has : (j k : ℕ) (f : Forest ℕ) → is_root j (children_of f k) ≡ true → has f j ≡ true
kid-has j k f kid = has-part (part_children f k) j (root-has j (children_of f k) kid)

-- what has children is there
with-kids : (j k : ℕ) (f : Forest ℕ) → is_root j (children_of f k) ≡ true → has f k ≡ true
with-kids j k f kid = elim (cases_Bool (has f k)) [
  | inl there ↦ there
  | inr gone ↦ absurd (false≢true (ap (is_root j) (sym (children_gone f k gone)) ∙ kid))
]

other-top : (t j : ℕ) (f : Forest ℕ) → has f t ≡ false → has f j ≡ true → eqb t j ≡ false
other-top t j f out there = false_from_ne_true (eqb t j) (λ e. both_ways (has f t) out (subst (λ i. has f i ≡ true) (sym (eqb-true t j e)) there))

-- a child has its parent
pub kid-parent : (j k : ℕ) (above : Option ℕ) (f : Forest ℕ) → IsDistinct f → is_root j (children_of f k) ≡ true → parent_by (λ i. eqb i j) above f ≡ Some k
kid-parent j k above Empty distinct kid = absurd (false≢true kid)
kid-parent j k above (Tree t cs rest) distinct kid = elim (cases_Bool (eqb t k)) [
  | inl top ↦
      let root : is_root j cs ≡ true = rw top at kid in
      let inner : has cs j ≡ true = root-has j cs root in
      let other : eqb t j ≡ false = other-top t j cs distinct.1 inner in
      rw (other, inner) (parent-root j (Some t) cs distinct.3 root ∙ ap Some (eqb-true t k top))
  | inr lower ↦ elim (cases_Bool (has cs k)) [
    | inl below ↦
        let deep : is_root j (children_of cs k) ≡ true = rw (lower, below) at kid in
        let inner : has cs j ≡ true = kid-has j k cs deep in
        let other : eqb t j ≡ false = other-top t j cs distinct.1 inner in
        rw (other, inner) (kid-parent j k (Some t) cs distinct.3 deep)
    | inr off ↦
        let late : is_root j (children_of rest k) ≡ true = rw (lower, off) at kid in
        let later : has rest j ≡ true = kid-has j k rest late in
        let other : eqb t j ≡ false = other-top t j rest distinct.2 later in
        let out : has cs j ≡ false = false_from_ne_true (has cs j) (λ i. both_ways (has rest j) (distinct.0 j i) later) in
        rw (other, out) (kid-parent j k above rest distinct.4 late)
  ]
]

-- and it is a child of that
parent-kid : (j k : ℕ) (above : Option ℕ) (f : Forest ℕ) → IsDistinct f → parent_by (λ i. eqb i j) above f ≡ Some k → ((above ≡ Some k) × (is_root j f ≡ true)) ⊎ (is_root j (children_of f k) ≡ true)
parent-kid j k above Empty distinct is = cc
parent-kid j k above (Tree t cs rest) distinct is = elim (cases_Bool (eqb t j)) [
  | inl top ↦ inl (rw top at is, or_left (eqb t j) (is_root j rest) top)
  | inr lower ↦ elim (cases_Bool (has cs j)) [
    | inl inner ↦ elim (parent-kid j k (Some t) cs distinct.3 (rw (lower, inner) at is)) [
      | inl here ↦
          let same : t ≡ k = let e = here.0 in cc in
          let at_k : eqb t k ≡ true = eq-eqb t k same in
          inr (rw at_k here.1)
      | inr deep ↦
          let below : has cs k ≡ true = with-kids j k cs deep in
          let other : eqb t k ≡ false = other-top t k cs distinct.1 below in
          inr (rw (other, below) deep)
    ]
    | inr out ↦ elim (parent-kid j k above rest distinct.4 (rw (lower, out) at is)) [
      | inl here ↦ inl (here.0, or_right (eqb t j) (is_root j rest) here.1)
      | inr late ↦
          let later : has rest k ≡ true = with-kids j k rest late in
          let other : eqb t k ≡ false = other-top t k rest distinct.2 later in
          let off : has cs k ≡ false = false_from_ne_true (has cs k) (λ i. both_ways (has rest k) (distinct.0 k i) later) in
          inr (rw (other, off) late)
    ]
  ]
]

none-above : {k : ℕ} → None ≡ Some k → ⊥
none-above e = cc

pub parent-child : (f : Forest ℕ) (j k : ℕ) → StandsOnce f → parent_of f j ≡ Some k → is_root j (children_of f k) ≡ true
parent-child f j k once is = elim (parent-kid j k None f (distinct_once f once) is) [
  | inl here ↦ absurd (none-above here.0)
  | inr child ↦ child
]

-- what has the same parent is a child of it as before
pub kid-before : (new old : Forest ℕ) (j k : ℕ) → StandsOnce new → StandsOnce old → parent_of new j ≡ parent_of old j → is_root j (children_of new k) ≡ true → is_root j (children_of old k) ≡ true
kid-before new old j k once before same kid =
    parent-child old j k before (sym same ∙ kid-parent j k None new (distinct_once new once) kid)

-- The children of an object of a scene, as handles.
pub root-among : (u : ℕ) (f : Forest ℕ) → is_root u f ≡ list_any (λ h. eqb h u) (roots f)
root-among u Empty = refl
root-among u (Tree h cs rest) = ap (λ (b : Bool). eqb h u || b) (root-among u rest)

map-roots : (f : Forest Object) → map handle_of (roots f) ≡ roots (handles_of f)
map-roots Empty = refl
map-roots (Tree object cs rest) = ap (λ hs. object.handle ∷ hs) (map-roots rest)

pub kids-are : (scene : Scene) (k : ℕ) → children scene k ≡ roots (children_of (handles_of scene.trees) k)
kids-are scene k = map-roots (children_by (is_at k) scene.trees) ∙ ap (λ (t : Forest ℕ). roots t) (map-children_by handle_of (λ j. eqb j k) scene.trees)
