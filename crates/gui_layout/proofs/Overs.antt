-- How far children reach around the trees that were solved.
use Rattle.std.proofs.Common.{◌≡◌, ◌∙◌, ◌<◌, ◌+◌, refl, sym, ap, subst, ℕ, Bool, true, false, eqb, eq-eqb, cond, ◌||◌, inl, inr, List, [], ◌∷◌, ◌++◌, Option, Some, None, option_map, arith}
use Rattle.std.proofs.lemmas.Bool.{cases_Bool, eqb-true, both_ways, false_from_ne_true, or_cases, or_left, or_right, or_parts, false≢true}
use Rattle.std.specs.Prelude.{IfSome}
use Rattle.gui_tree.proofs.Below.{own_tree}
use Rattle.gui_base.specs.Forest.{Forest, Empty, Tree, StandsOnce, has, tree_at, children_of, parent_of, parent_by, roots, map_forest}
use Rattle.gui_base.specs.declared.Handle.{Handle}
use Rattle.gui_tree.specs.Handles.{as_handle}
use Rattle.layout_defs.specs.Boxes.{Box}
use Rattle.scene_defs.specs.Scene.{Scene, handles_of}
use Rattle.gui_layout.specs.declared.places.Places.{Places}
use Rattle.gui_boxes.specs.Around.{IsFlat, ReadsReaches}
use Rattle.gui_boxes.specs.Kids.{flat_scrolled}
use Rattle.gui_boxes.specs.Listing.{times}
use Rattle.gui_layout.specs.Marked.{is_root}
use Rattle.gui_layout.specs.Scenes.{scene_box}
use Rattle.gui_layout.specs.Scrolled.{IsScrolledIn, scrolled_known}
use Rattle.gui_boxes.specs.Scrolls.{Scrolled, scrolled_at}
use Rattle.gui_boxes.specs.Settled.{IsSteady, Known, Layout}
use Rattle.gui_layout.specs.Settles.{LetsStand, SolvesTree, known_in}
use Rattle.gui_layout.specs.Solved.{layout_of}
use Rattle.gui_layout.specs.Tops.{ScrollsAt, in_trees_at, is_it, is_over}
use Rattle.gui_boxes.specs.Views.{box_at}
use Rattle.gui_layout.proofs.Climbing.{is_above}
use Rattle.gui_tree.proofs.Parts.{IsDistinct, distinct_once}
use Rattle.gui_boxes.proofs.InTrees.{tree-in}
use Rattle.gui_layout.proofs.Settling.{is_at, parent-root, root-has, root-out}
use Rattle.gui_layout.proofs.Solves.{rest_same}
use Rattle.gui_layout.proofs.Stepping.{mark-inside, marked-fewer}
use Rattle.gui_layout.proofs.Tops.{in-first, in-second, listed-either}

-- Reaches that are read one after another.
pub reads-none : (f : Forest ℕ) (l : Layout) → ReadsReaches f l l
reads-none f l = record { each = λ k. inl refl; rest = refl }

-- what is flat is so where only how far others are scrolled is told otherwise
flat-else : (f : Forest ℕ) (old new : Layout) (k : ℕ) → ReadsReaches f old new → scrolled_at new.scrolls k ≡ scrolled_at old.scrolls k → IsFlat f old k → IsFlat f new k
flat-else f old new k reads same flat = record {
  still = ap (λ (l : Layout). (box_at l.boxes k).scrollable) reads.rest ∙ flat.still;
  read = same ∙ (flat.read ∙ sym (ap (λ (l : Layout). flat_scrolled l f k) reads.rest));
}

pub flat-stays : (f : Forest ℕ) (old new : Layout) (k : ℕ) → ReadsReaches f old new → IsFlat f old k → IsFlat f new k
flat-stays f old new k reads flat = elim (reads.each k) [ inl same ↦ flat-else f old new k reads same flat | inr now ↦ now ]

pub reads-then : (f : Forest ℕ) (a b c : Layout) → ReadsReaches f a b → ReadsReaches f b c → ReadsReaches f a c
reads-then f a b c first later = record {
  each = λ k. elim (later.each k) [
    | inr now ↦ inr now
    | inl same ↦ elim (first.each k) [ inl before ↦ inl (same ∙ before) | inr flat ↦ inr (flat-else f b c k later same flat) ]
  ];
  rest = later.rest ∙ ap (λ (l : Layout). record l { scrolls = c.scrolls }) first.rest;
}

pub still-before : (f : Forest ℕ) (a b : Layout) (k : ℕ) → ReadsReaches f a b → (box_at a.boxes k).scrollable ≡ false → (box_at b.boxes k).scrollable ≡ false
still-before f a b k reads still = ap (λ (l : Layout). (box_at l.boxes k).scrollable) reads.rest ∙ still

-- an object, if there is one, whose reach is read if it moves no children
pub if-still : (f : Forest ℕ) (a b l : Layout) (o : Option Handle) → ((k : ℕ) → (box_at b.boxes k).scrollable ≡ false → (box_at a.boxes k).scrollable ≡ false) → IfSome o (λ p. (box_at a.boxes p.0).scrollable ≡ false → IsFlat f l p.0) →
    IfSome o (λ p. (box_at b.boxes p.0).scrollable ≡ false → IsFlat f l p.0)
if-still f a b l None same is = tt
if-still f a b l (Some p) same is = λ still. is (same p.0 still)

pub if-stays : (f : Forest ℕ) (a b d : Layout) (o : Option Handle) → ReadsReaches f b d → IfSome o (λ p. (box_at a.boxes p.0).scrollable ≡ false → IsFlat f b p.0) → IfSome o (λ p. (box_at a.boxes p.0).scrollable ≡ false → IsFlat f d p.0)
if-stays f a b d None reads is = tt
if-stays f a b d (Some p) reads is = λ still. flat-stays f b d p.0 reads (is still)

-- an object's parent, if it has one
pub if-parent : (f : Forest ℕ) (a l : Layout) (o : Option Handle) (up : Option ℕ) → o ≡ option_map as_handle up → ((q : ℕ) → up ≡ Some q → IsFlat f l q) → IfSome o (λ p. (box_at a.boxes p.0).scrollable ≡ false → IsFlat f l p.0)
if-parent f a l o None is own = subst (λ (v : Option Handle). IfSome v (λ p. (box_at a.boxes p.0).scrollable ≡ false → IsFlat f l p.0)) (sym is) tt
if-parent f a l o (Some q) is own = subst (λ (v : Option Handle). IfSome v (λ p. (box_at a.boxes p.0).scrollable ≡ false → IsFlat f l p.0)) (sym is) (λ still. own q refl)

-- Children and trees.

-- a child of an object of some trees lies in them
pub root-in : (g : Forest ℕ) (j k : ℕ) → is_root j (children_of g k) ≡ true → has g j ≡ true
root-in Empty j k i = i
root-in (Tree t ks later) j k i = elim (cases_Bool (eqb t k)) [
  | inl top ↦ or_right (eqb t j) (has ks j || has later j) (or_left (has ks j) (has later j) (root-has j ks (rw top at i)))
  | inr other ↦ elim (cases_Bool (has ks k)) [
    | inl deep ↦ or_right (eqb t j) (has ks j || has later j) (or_left (has ks j) (has later j) (root-in ks j k (rw (other, deep) at i)))
    | inr off ↦ or_right (eqb t j) (has ks j || has later j) (or_right (has ks j) (has later j) (root-in later j k (rw (other, off) at i)))
  ]
]

-- a root that lies in a tree is its top
root-top : (g : Forest ℕ) (u j : ℕ) → IsDistinct g → is_root j g ≡ true → has (tree_at g u) j ≡ true → u ≡ j
root-top g u j distinct root i = elim (cases_Bool (eqb j u)) [
  | inl is ↦ sym (eqb-true j u is)
  | inr isnt ↦ absurd (both_ways (has (tree_at g u) j) (root-out u j g distinct root isnt) i)
]

-- a child that lies in a tree in which its parent does not lie is the top of that tree
pub kid-top : (f : Forest ℕ) (u j k : ℕ) → IsDistinct f → is_root j (children_of f k) ≡ true → has (tree_at f u) j ≡ true → has (tree_at f u) k ≡ false → u ≡ j
kid-top Empty u j k distinct kid inside out = absurd (false≢true kid)
kid-top (Tree h cs rest) u j k distinct kid inside out = elim (cases_Bool (eqb h u)) [
  | inl same ↦
      let kid_out : (eqb h k ≡ false) × ((has cs k || false) ≡ false) = or_parts (eqb h k) (has cs k || false) (rw same at out) in
      let low : (has cs k ≡ false) × (false ≡ false) = or_parts (has cs k) false kid_out.1 in
      let later : has rest j ≡ true = root-in rest j k (rw (kid_out.0, low.0) at kid) in
      elim (or_cases (eqb h j) (has cs j || false) (rw same at inside)) [
        | inl top ↦ sym (eqb-true h u same) ∙ eqb-true h j top
        | inr below ↦ elim (or_cases (has cs j) false below) [ inl i ↦ absurd (both_ways (has rest j) (distinct.0 j i) later) | inr i ↦ absurd (false≢true i) ]
      ]
  | inr isnt ↦ elim (cases_Bool (has cs u)) [
    | inl below ↦
        let inner : has (tree_at cs u) j ≡ true = rw (isnt, below) at inside in
        let gone : has (tree_at cs u) k ≡ false = rw (isnt, below) at out in
        let in_cs : has cs j ≡ true = tree-in u j cs inner in
        elim (cases_Bool (eqb h k)) [
          | inl top ↦ root-top cs u j distinct.3 (rw top at kid) inner
          | inr other ↦ elim (cases_Bool (has cs k)) [
            | inl deep ↦ kid-top cs u j k distinct.3 (rw (other, deep) at kid) inner gone
            | inr outside ↦ absurd (both_ways (has rest j) (distinct.0 j in_cs) (root-in rest j k (rw (other, outside) at kid)))
          ]
        ]
    | inr away ↦
        let inner : has (tree_at rest u) j ≡ true = rw (isnt, away) at inside in
        let gone : has (tree_at rest u) k ≡ false = rw (isnt, away) at out in
        let in_rest : has rest j ≡ true = tree-in u j rest inner in
        elim (cases_Bool (eqb h k)) [
          | inl top ↦ absurd (both_ways (has rest j) (distinct.0 j (root-has j cs (rw top at kid))) in_rest)
          | inr other ↦ elim (cases_Bool (has cs k)) [
            | inl deep ↦ absurd (both_ways (has rest j) (distinct.0 j (root-in cs j k (rw (other, deep) at kid))) in_rest)
            | inr outside ↦ kid-top rest u j k distinct.4 (rw (other, outside) at kid) inner gone
          ]
        ]
  ]
]

-- the parent of a child
pub kid-parent : (f : Forest ℕ) (above : Option ℕ) (j k : ℕ) → IsDistinct f → is_root j (children_of f k) ≡ true → parent_by (is_at j) above f ≡ Some k
kid-parent Empty above j k distinct kid = absurd (false≢true kid)
kid-parent (Tree h cs rest) above j k distinct kid = elim (cases_Bool (eqb h k)) [
  | inl top ↦
      let root : is_root j cs ≡ true = rw top at kid in
      let below : has cs j ≡ true = root-has j cs root in
      let other : eqb h j ≡ false = false_from_ne_true (eqb h j) (λ e. both_ways (has cs h) distinct.1 (subst (λ m. has cs m ≡ true) (sym (eqb-true h j e)) below)) in
      rw (other, below) (parent-root j (Some h) cs distinct.3 root ∙ ap (λ i. Some i) (eqb-true h k top))
  | inr isnt ↦ elim (cases_Bool (has cs k)) [
    | inl deep ↦
        let root : is_root j (children_of cs k) ≡ true = rw (isnt, deep) at kid in
        let below : has cs j ≡ true = root-in cs j k root in
        let other : eqb h j ≡ false = false_from_ne_true (eqb h j) (λ e. both_ways (has cs h) distinct.1 (subst (λ m. has cs m ≡ true) (sym (eqb-true h j e)) below)) in
        rw (other, below) (kid-parent cs (Some h) j k distinct.3 root)
    | inr outside ↦
        let root : is_root j (children_of rest k) ≡ true = rw (isnt, outside) at kid in
        let beside : has rest j ≡ true = root-in rest j k root in
        let other : eqb h j ≡ false = false_from_ne_true (eqb h j) (λ e. both_ways (has rest h) distinct.2 (subst (λ m. has rest m ≡ true) (sym (eqb-true h j e)) beside)) in
        let off : has cs j ≡ false = false_from_ne_true (has cs j) (λ i. both_ways (has rest j) (distinct.0 j i) beside) in
        rw (other, off) (kid-parent rest above j k distinct.4 root)
  ]
]

-- Parents of tops.
is_it-some : (k : ℕ) (up : Option ℕ) → up ≡ Some k → is_it k up ≡ true
is_it-some k None e = cc
is_it-some k (Some p) e = let same : p ≡ k = cc in eq-eqb p k same

pub it-is : (k : ℕ) (up : Option ℕ) → is_it k up ≡ true → up ≡ Some k
it-is k None is = absurd (false≢true is)
it-is k (Some p) is = ap (λ i. Some i) (eqb-true p k is)

-- one whose parent is this one
pub record Over (f : Forest ℕ) (us : List Handle) (k : ℕ) : Type 0 where
  pub top : ℕ
  pub listed : 0 < times us top
  pub parent : parent_of f top ≡ Some k

pub over-is : (f : Forest ℕ) (us : List Handle) (k : ℕ) → is_over f us k ≡ true → Over f us k
over-is f [] k is = absurd (false≢true is)
over-is f (u ∷ us) k is = elim (or_cases (is_it k (parent_of f u.0)) (is_over f us k) is) [
  | inl own ↦ record {
    top = u.0;
    listed = let first : times (u ∷ us) u.0 ≡ 1 + times us u.0 = ap (λ b. cond b 1 0 + times us u.0) (eq-eqb u.0 u.0 refl) in omega arith;
    parent = it-is k (parent_of f u.0) own;
  }
  | inr later ↦
      let o = over-is f us k later in
      record { top = o.top; listed = let some = o.listed in omega arith; parent = o.parent }
]

pub over-top : (f : Forest ℕ) (us : List Handle) (u k : ℕ) → 0 < times us u → parent_of f u ≡ Some k → is_over f us k ≡ true
over-top f [] u k some up = absurd (omega arith)
over-top f (v ∷ us) u k some up = elim (cases_Bool (eqb v.0 u)) [
  | inl is ↦ or_left (is_it k (parent_of f v.0)) (is_over f us k) (is_it-some k (parent_of f v.0) (ap (parent_of f) (eqb-true v.0 u is) ∙ up))
  | inr isnt ↦
      let same : times (v ∷ us) u ≡ 0 + times us u = ap (λ b. cond b 1 0 + times us u) isnt in
      or_right (is_it k (parent_of f v.0)) (is_over f us k) (over-top f us u k (omega arith) up)
]

pub over-first : (f : Forest ℕ) (us vs : List Handle) (k : ℕ) → is_over f us k ≡ true → is_over f (us ++ vs) k ≡ true
over-first f [] vs k is = absurd (false≢true is)
over-first f (u ∷ us) vs k is = elim (or_cases (is_it k (parent_of f u.0)) (is_over f us k) is) [
  | inl own ↦ or_left (is_it k (parent_of f u.0)) (is_over f (us ++ vs) k) own
  | inr later ↦ or_right (is_it k (parent_of f u.0)) (is_over f (us ++ vs) k) (over-first f us vs k later)
]

pub over-second : (f : Forest ℕ) (us vs : List Handle) (k : ℕ) → is_over f vs k ≡ true → is_over f (us ++ vs) k ≡ true
over-second f [] vs k is = is
over-second f (u ∷ us) vs k is = or_right (is_it k (parent_of f u.0)) (is_over f (us ++ vs) k) (over-second f us vs k is)

in-either : (f : Forest ℕ) (us vs : List Handle) (k : ℕ) → in_trees_at f (us ++ vs) k ≡ true → in_trees_at f vs k ≡ false → in_trees_at f us k ≡ true
in-either f [] vs k is out = absurd (both_ways (in_trees_at f vs k) out is)
in-either f (u ∷ us) vs k is out = elim (or_cases (has (tree_at f u.0) k) (in_trees_at f (us ++ vs) k) is) [
  | inl own ↦ or_left (has (tree_at f u.0) k) (in_trees_at f us k) own
  | inr later ↦ or_right (has (tree_at f u.0) k) (in_trees_at f us k) (in-either f us vs k later out)
]

-- a child in one of these trees has its parent there too, or that is the parent of one of the tops
pub kid-over : (f : Forest ℕ) (us : List Handle) (j k : ℕ) → IsDistinct f → is_root j (children_of f k) ≡ true → in_trees_at f us j ≡ true → in_trees_at f us k ≡ false → is_over f us k ≡ true
kid-over f [] j k distinct kid inside out = absurd (false≢true inside)
kid-over f (u ∷ us) j k distinct kid inside out =
    let outs : (has (tree_at f u.0) k ≡ false) × (in_trees_at f us k ≡ false) = or_parts (has (tree_at f u.0) k) (in_trees_at f us k) out in
    elim (or_cases (has (tree_at f u.0) j) (in_trees_at f us j) inside) [
      | inl own ↦ or_left (is_it k (parent_of f u.0)) (is_over f us k) (is_it-some k (parent_of f u.0) (ap (parent_of f) (kid-top f u.0 j k distinct kid own outs.0) ∙ kid-parent f None j k distinct kid))
      | inr later ↦ or_right (is_it k (parent_of f u.0)) (is_over f us k) (kid-over f us j k distinct kid later outs.1)
    ]

-- The same is known of the children where it is of each.
pub kids-same : (old new : ℕ → Known) (g : Forest ℕ) → ((j : ℕ) → is_root j g ≡ true → new j ≡ old j) → roots (map_forest new g) ≡ roots (map_forest old g)
kids-same old new Empty same = refl
kids-same old new (Tree h cs rest) same =
    ap (λ (k : Known). k ∷ roots (map_forest new rest)) (same h (or_left (eqb h h) (is_root h rest) (eq-eqb h h refl)))
    ∙ ap (λ ks. old h ∷ ks) (kids-same old new rest (λ j i. same j (or_right (eqb h j) (is_root j rest) i)))

-- so what is told of an object is right still
pub scrolled-same : (old new : ℕ → Known) (was now : List Scrolled) (f : Forest ℕ) (k : ℕ) → new k ≡ old k → ((j : ℕ) → is_root j (children_of f k) ≡ true → new j ≡ old j) → scrolled_at now k ≡ scrolled_at was k → IsScrolledIn old was f k → IsScrolledIn new now f k
scrolled-same old new was now f k own kids same is =
    same
    ∙ (is
    ∙ (ap (λ (ks : List Known). scrolled_known (old k) ks) (sym (kids-same old new (children_of f k) kids))
    ∙ ap (λ (i : Known). scrolled_known i (roots (map_forest new (children_of f k)))) (sym own)))

-- What is told of trees that are solved one after another.
module _ (scene : Scene) where
  abbrev f : Forest ℕ
  f = handles_of scene.trees

  pub scrolls-none : (p : Places) (m : ℕ → Bool) → ScrollsAt p p scene m []
  scrolls-none p m = record {
    scrolled = λ k there is over. absurd (false≢true is);
    kept = λ k there out. refl;
    known = λ k there out. refl;
    steady = λ u q some up. absurd (omega arith);
    marked = λ u q some up k is. absurd (omega arith);
  }

  steady-there : (h : ℕ) (box : Box) → IsSteady (record box { handle = h }) → IsSteady box
  steady-there h box s = record { free = s.free; still = s.still; wide = s.wide; high = s.high }

  only : (u : Handle) (j : ℕ) → 0 < times (u ∷ []) j → u.0 ≡ j
  only u j some = elim (cases_Bool (eqb u.0 j)) [
    | inl is ↦ eqb-true u.0 j is
    | inr isnt ↦ absurd (let none : times (u ∷ []) j ≡ 0 = ap (λ b. cond b 1 0 + 0) isnt in omega arith)
  ]

  lets-steady : (old new : ℕ → Known) (u q : ℕ) (up : Option ℕ) → up ≡ Some q → LetsStand old new u up → IsSteady (old q).box
  lets-steady old new u q None is lets = cc
  lets-steady old new u q (Some p) is lets = let same : p ≡ q = cc in subst (λ i. IsSteady (old i).box) same lets.0

  pub scrolls-one : StandsOnce f → (a b : Places) (m : ℕ → Bool) (h : ℕ) (u : Handle) → m h ≡ true → has f h ≡ true → SolvesTree a b scene h u.0 → ScrollsAt a b scene m (u ∷ [])
  scrolls-one once a b m h u on there tree = record {
    scrolled = λ k is inside over. elim (or_cases (has (tree_at f u.0) k) false inside) [ inl own ↦ tree.scrolled k own | inr none ↦ absurd (false≢true none) ];
    kept = λ k is out. tree.keeps.scrolls.others k (or_parts (has (tree_at f u.0) k) false out).0;
    known = λ k is out. rest_same (scene_box scene) (layout_of a) (layout_of b) (tree_at f u.0) k tree.keeps (or_parts (has (tree_at f u.0) k) false out).0;
    steady = λ v q some up.
        let up_u : parent_of f u.0 ≡ Some q = ap (parent_of f) (only u v some) ∙ up in
        steady-there q (scene_box scene q) (lets-steady (known_in a scene) (known_in b scene) u.0 q (parent_of f u.0) up_u tree.lets);
    marked = λ v q some up k is.
        let up_u : parent_of f u.0 ≡ Some q = ap (parent_of f) (only u v some) ∙ up in
        let above = is_above f u.0 (as_handle q) once tree.there (sym (ap (option_map as_handle) up_u)) in
        mark-inside m h q k f on (above.encloses h (tree.encloses h (own_tree f h there))) is;
  }

  pub scrolls-then : StandsOnce f → (a b c : Places) (m n : ℕ → Bool) (us vs : List Handle) → ((k : ℕ) → n k ≡ true → m k ≡ true) → ScrollsAt a b scene m us → ScrollsAt b c scene n vs → ScrollsAt a c scene m (us ++ vs)
  scrolls-then once a b c m n us vs fewer first later =
      let distinct = distinct_once f once in
      let out_first : (k : ℕ) → in_trees_at f (us ++ vs) k ≡ false → in_trees_at f us k ≡ false = λ k out. false_from_ne_true (in_trees_at f us k) (λ i. both_ways (in_trees_at f (us ++ vs) k) out (in-first f us vs k i)) in
      let out_second : (k : ℕ) → in_trees_at f (us ++ vs) k ≡ false → in_trees_at f vs k ≡ false = λ k out. false_from_ne_true (in_trees_at f vs k) (λ i. both_ways (in_trees_at f (us ++ vs) k) out (in-second f us vs k i)) in
      record {
        scrolled = λ k there inside over.
            let not_first : is_over f us k ≡ false = false_from_ne_true (is_over f us k) (λ i. both_ways (is_over f (us ++ vs) k) over (over-first f us vs k i)) in
            let not_second : is_over f vs k ≡ false = false_from_ne_true (is_over f vs k) (λ i. both_ways (is_over f (us ++ vs) k) over (over-second f us vs k i)) in
            elim (cases_Bool (in_trees_at f vs k)) [
              | inl i ↦ later.scrolled k there i not_second
              | inr out ↦
                  let kid_out : (j : ℕ) → is_root j (children_of f k) ≡ true → in_trees_at f vs j ≡ false = λ j kid. false_from_ne_true (in_trees_at f vs j) (λ i. both_ways (is_over f vs k) not_second (kid-over f vs j k distinct kid i out)) in
                  scrolled-same (known_in b scene) (known_in c scene) (layout_of b).scrolls (layout_of c).scrolls f k (later.known k there out) (λ j kid. later.known j (root-in f j k kid) (kid_out j kid)) (later.kept k there out)
                  (first.scrolled k there (in-either f us vs k inside out) not_first)
            ];
        kept = λ k there out. later.kept k there (out_second k out) ∙ first.kept k there (out_first k out);
        known = λ k there out. later.known k there (out_second k out) ∙ first.known k there (out_first k out);
        steady = λ u q some up. elim (listed-either us vs u some) [ inl i ↦ first.steady u q i up | inr i ↦ later.steady u q i up ];
        marked = λ u q some up k is. elim (listed-either us vs u some) [ inl i ↦ first.marked u q i up k is | inr i ↦ marked-fewer m n k f fewer (later.marked u q i up k is) ];
      }
