-- A tree that goes behind those that stand beside it, in what is painted.
use Rattle.std.proofs.Common.{◌≡◌, ◌∙◌, ◌+◌, ◌≤◌, refl, sym, ap, subst, ℕ, Bool, true, false, cond, eqb, eq-eqb, ◌||◌, List, [], ◌∷◌, ◌++◌, append_assoc, inl, inr, arith}
use Rattle.std.proofs.lemmas.Bool.{cases_Bool, both_ways, eqb-true, false≢true, false_from_ne_true, or_from, or_left, or_parts, or_right}
use Rattle.std.proofs.lemmas.Bool.Decides.{nat_tests}
use Rattle.std.proofs.lemmas.List.Folds.{list_any-append}
use Rattle.gui_base.specs.Forest.{Forest, Empty, Tree, StandsOnce, and_then, children_of, count, cut, has, tree_at, with_children_by}
use Rattle.gui_base.proofs.Visits.{count-has}
use Rattle.gui_tree.proofs.Parts.{IsDistinct, has-part, part_children}
use Rattle.gui_layout.specs.Marked.{is_root}
use Rattle.gui_layout.proofs.Settling.{root-has}
use Rattle.scene_defs.specs.Shown.{Entry as Painted, bars_over, entries_in, own}
use Rattle.gui_change.specs.Fronts.{Fronts, GoesLast, names}
use Rattle.gui_change.proofs.Entering.{entries-and_then}

-- Which entries name an object.
pub names-append : (k : ℕ) (xs ys : List Painted) → names k (xs ++ ys) ≡ (names k xs || names k ys)
names-append k xs ys = list_any-append (λ (e : Painted). eqb e.handle k) xs ys

or-twice : (a b c : Bool) → (a || (b || (a || c))) ≡ (a || (b || c))
or-twice true b c = refl
or-twice false b c = refl

pub names-entries : (k : ℕ) (f : Forest ℕ) → names k (entries_in f) ≡ has f k
names-entries k Empty = refl
names-entries k (Tree h cs rest) =
    ap (λ (b : Bool). eqb h k || b) (names-append k (entries_in cs) (bars_over h ∷ entries_in rest))
    ∙ rw (names-entries k cs, names-entries k rest) (or-twice (eqb h k) (has cs k) (has rest k))

-- Trees without h and p stay.
pub cut-off : (f : Forest ℕ) (h : ℕ) → has f h ≡ false → cut f h ≡ f
cut-off Empty h off = refl
cut-off (Tree k cs rest) h off = grind (arith, nat_tests, cut-off cs h, cut-off rest h)

pub kids-off : (f : Forest ℕ) (p : ℕ) (g : Forest ℕ → Forest ℕ) → has f p ≡ false → with_children_by (λ k. eqb k p) g f ≡ f
kids-off Empty p g off = refl
kids-off (Tree k cs rest) p g off = grind (arith, nat_tests, kids-off cs p g, kids-off rest p g)

other-top : (t j : ℕ) (f : Forest ℕ) → has f t ≡ false → has f j ≡ true → eqb t j ≡ false
other-top t j f out there = false_from_ne_true (eqb t j) (λ e. both_ways (has f t) out (subst (λ i. has f i ≡ true) (sym (eqb-true t j e)) there))

kid-has : (j k : ℕ) (f : Forest ℕ) → is_root j (children_of f k) ≡ true → has f j ≡ true
kid-has j k f kid = has-part (part_children f k) j (root-has j (children_of f k) kid)

-- One of some trees: what is painted of it, before it and after it.
record Beside (h : ℕ) (f : Forest ℕ) : Type 0 where
  before : List Painted
  inside : List Painted
  after : List Painted
  first : names h before ≡ false
  whole : names h inside ≡ false
  out : (k : ℕ) → has f k ≡ false → names k after ≡ false
  was : entries_in f ≡ before ++ (own h ∷ (inside ++ (bars_over h ∷ after)))
  left : entries_in (cut f h) ≡ before ++ after
  tree : entries_in (tree_at f h) ≡ own h ∷ (inside ++ (bars_over h ∷ []))

beside : (h : ℕ) (f : Forest ℕ) → IsDistinct f → is_root h f ≡ true → Beside h f
beside h Empty d root = absurd (false≢true root)
beside h (Tree k cs rest) d root = elim (cases_Bool (eqb k h)) [
  | inl is ↦
      let same : k ≡ h = eqb-true k h is in
      record {
        before = [];
        inside = entries_in cs;
        after = entries_in rest;
        first = refl;
        whole = names-entries h cs ∙ subst (λ j. has cs j ≡ false) same d.1;
        out = λ j off.
            let a : (eqb k j ≡ false) × ((has cs j || has rest j) ≡ false) = or_parts (eqb k j) (has cs j || has rest j) off in
            let b : (has cs j ≡ false) × (has rest j ≡ false) = or_parts (has cs j) (has rest j) a.1 in
            names-entries j rest ∙ b.1;
        was = ap (λ j. own j ∷ (entries_in cs ++ (bars_over j ∷ entries_in rest))) same;
        left = rw is (ap entries_in (cut-off rest h (subst (λ j. has rest j ≡ false) same d.2)));
        tree = rw is (ap (λ j. own j ∷ (entries_in cs ++ (bars_over j ∷ []))) same);
      }
  | inr isnt ↦
      let later : is_root h rest ≡ true = rw isnt at root in
      let there : has rest h ≡ true = root-has h rest later in
      let out : has cs h ≡ false = false_from_ne_true (has cs h) (λ j. both_ways (has rest h) (d.0 h j) there) in
      let l = beside h rest d.4 later in
      let tree = own h ∷ (l.inside ++ (bars_over h ∷ l.after)) in
      record {
        before = own k ∷ (entries_in cs ++ (bars_over k ∷ l.before));
        inside = l.inside;
        after = l.after;
        first =
            ap (λ (b : Bool). eqb k h || b) (names-append h (entries_in cs) (bars_over k ∷ l.before))
            ∙ or_from (eqb k h) (names h (entries_in cs) || (eqb k h || names h l.before)) isnt
            (or_from (names h (entries_in cs)) (eqb k h || names h l.before) (names-entries h cs ∙ out) (or_from (eqb k h) (names h l.before) isnt l.first));
        whole = l.whole;
        out = λ j off.
            let a : (eqb k j ≡ false) × ((has cs j || has rest j) ≡ false) = or_parts (eqb k j) (has cs j || has rest j) off in
            let b : (has cs j ≡ false) × (has rest j ≡ false) = or_parts (has cs j) (has rest j) a.1 in
            l.out j b.1;
        was =
            ap (λ es. own k ∷ (entries_in cs ++ (bars_over k ∷ es))) l.was
            ∙ ap (λ es. own k ∷ es) (sym (append_assoc (entries_in cs) (bars_over k ∷ l.before) tree));
        left = rw isnt
            (ap (λ t. own k ∷ (entries_in t ++ (bars_over k ∷ entries_in (cut rest h)))) (cut-off cs h out)
            ∙ (ap (λ es. own k ∷ (entries_in cs ++ (bars_over k ∷ es))) l.left
            ∙ ap (λ es. own k ∷ es) (sym (append_assoc (entries_in cs) (bars_over k ∷ l.before) l.after))));
        tree = rw (isnt, out) l.tree;
      }
]

-- More that is painted before and after.
module _ (h p : ℕ) where
  prefix : (xs old new : List Painted) → names h xs ≡ false → GoesLast h p old new → GoesLast h p (xs ++ old) (xs ++ new)
  prefix xs old new none g = record {
    before = xs ++ g.before;
    inside = g.inside;
    beside = g.beside;
    after = g.after;
    first = names-append h xs g.before ∙ or_from (names h xs) (names h g.before) none g.first;
    whole = g.whole;
    last = g.last;
    was = ap (λ es. xs ++ es) g.was ∙ sym (append_assoc xs g.before (own h ∷ (g.inside ++ (bars_over h ∷ (g.beside ++ (bars_over p ∷ g.after))))));
    is = ap (λ es. xs ++ es) g.is ∙ sym (append_assoc xs g.before (g.beside ++ (own h ∷ (g.inside ++ (bars_over h ∷ (bars_over p ∷ g.after))))));
  }

  suffix : (ys old new : List Painted) → GoesLast h p old new → GoesLast h p (old ++ ys) (new ++ ys)
  suffix ys old new g = record {
    before = g.before;
    inside = g.inside;
    beside = g.beside;
    after = g.after ++ ys;
    first = g.first;
    whole = g.whole;
    last = g.last;
    was =
        ap (λ es. es ++ ys) g.was
        ∙ (append_assoc g.before (own h ∷ (g.inside ++ (bars_over h ∷ (g.beside ++ (bars_over p ∷ g.after))))) ys
        ∙ ap (λ es. g.before ++ (own h ∷ es))
        (append_assoc g.inside (bars_over h ∷ (g.beside ++ (bars_over p ∷ g.after))) ys
        ∙ ap (λ es. g.inside ++ (bars_over h ∷ es)) (append_assoc g.beside (bars_over p ∷ g.after) ys)));
    is =
        ap (λ es. es ++ ys) g.is
        ∙ (append_assoc g.before (g.beside ++ (own h ∷ (g.inside ++ (bars_over h ∷ (bars_over p ∷ g.after))))) ys
        ∙ ap (λ es. g.before ++ es)
        (append_assoc g.beside (own h ∷ (g.inside ++ (bars_over h ∷ (bars_over p ∷ g.after)))) ys
        ∙ ap (λ es. g.beside ++ (own h ∷ es)) (append_assoc g.inside (bars_over h ∷ (bars_over p ∷ g.after)) ys)));
  }

  listed : (old new : List Painted) → GoesLast h p old new → names h old ≡ true
  listed old new g =
      ap (names h) g.was
      ∙ (names-append h g.before (own h ∷ (g.inside ++ (bars_over h ∷ (g.beside ++ (bars_over p ∷ g.after)))))
      ∙ or_right (names h g.before) _ (or_left (eqb h h) _ (eq-eqb h h refl)))

  pub both : (a b c d : List Painted) → Fronts h p a b → Fronts h p c d → (names h a ≡ true → names h c ≡ true → ⊥) → Fronts h p (a ++ c) (b ++ d)
  both a b c d (inl x) (inl y) apart = inl (record {
    none = names-append h a c ∙ or_from (names h a) (names h c) x.none y.none;
    same = ap (λ es. es ++ d) x.same ∙ ap (λ es. a ++ es) y.same;
  })
  both a b c d (inl x) (inr y) apart = inr (subst (λ es. GoesLast h p (a ++ c) (es ++ d)) (sym x.same) (prefix a c d x.none y))
  both a b c d (inr x) (inl y) apart = inr (subst (λ es. GoesLast h p (a ++ c) (b ++ es)) (sym y.same) (suffix c a b x))
  both a b c d (inr x) (inr y) apart = absurd (apart (listed a b x) (listed c d y))

-- The tree t goes behind the children of p, and h goes away.
module _ (h p : ℕ) (t : Forest ℕ) where
  abbrev pub gone_last : Forest ℕ → Forest ℕ
  gone_last f = with_children_by (λ k. eqb k p) (λ cs. and_then cs t) (cut f h)

  still : (f : Forest ℕ) → has f h ≡ false → has f p ≡ false → gone_last f ≡ f
  still f out off = ap (with_children_by (λ k. eqb k p) (λ cs. and_then cs t)) (cut-off f h out) ∙ kids-off f p (λ cs. and_then cs t) off

  -- it is a child of the root p
  below : (k : ℕ) (cs rest : Forest ℕ) → k ≡ p → has cs k ≡ false → eqb k h ≡ false → Beside h cs → t ≡ tree_at cs h →
      GoesLast h p (entries_in (Tree k cs rest)) (own k ∷ ((entries_in (cut cs h) ++ entries_in t) ++ (bars_over k ∷ entries_in rest)))
  below k cs rest same out isnt l is =
      let later = bars_over k ∷ entries_in rest in
      let tree = own h ∷ (l.inside ++ (bars_over h ∷ [])) in
      record {
        before = own k ∷ l.before;
        inside = l.inside;
        beside = l.after;
        after = entries_in rest;
        first = or_from (eqb k h) (names h l.before) isnt l.first;
        whole = l.whole;
        last = l.out p (subst (λ j. has cs j ≡ false) same out);
        was =
            ap (λ es. own k ∷ (es ++ later)) l.was
            ∙ (ap (λ es. own k ∷ es)
            (append_assoc l.before (own h ∷ (l.inside ++ (bars_over h ∷ l.after))) later
            ∙ ap (λ es. l.before ++ (own h ∷ es)) (append_assoc l.inside (bars_over h ∷ l.after) later))
            ∙ ap (λ j. own k ∷ (l.before ++ (own h ∷ (l.inside ++ (bars_over h ∷ (l.after ++ (bars_over j ∷ entries_in rest))))))) same);
        is =
            ap (λ es. own k ∷ ((es ++ entries_in t) ++ later)) l.left
            ∙ (ap (λ es. own k ∷ (((l.before ++ l.after) ++ es) ++ later)) (ap entries_in is ∙ l.tree)
            ∙ (ap (λ es. own k ∷ es)
            (append_assoc (l.before ++ l.after) tree later
            ∙ (append_assoc l.before l.after (tree ++ later)
            ∙ ap (λ es. l.before ++ (l.after ++ (own h ∷ es))) (append_assoc l.inside (bars_over h ∷ []) later)))
            ∙ ap (λ j. own k ∷ (l.before ++ (l.after ++ (own h ∷ (l.inside ++ (bars_over h ∷ (bars_over j ∷ entries_in rest))))))) same));
      }

  goes : (f : Forest ℕ) → IsDistinct f → is_root h (children_of f p) ≡ true → t ≡ tree_at f h → GoesLast h p (entries_in f) (entries_in (gone_last f))
  goes Empty d kid is = absurd (false≢true kid)
  goes (Tree k cs rest) d kid is = elim (cases_Bool (eqb k p)) [
    | inl top ↦
        let root : is_root h cs ≡ true = rw top at kid in
        let inner : has cs h ≡ true = root-has h cs root in
        let isnt : eqb k h ≡ false = other-top k h cs d.1 inner in
        let own_tree : t ≡ tree_at cs h = rw (isnt, inner) at is in
        let trees : gone_last (Tree k cs rest) ≡ Tree k (and_then (cut cs h) t) rest = rw (isnt, top) (ap (Tree k (and_then (cut cs h) t)) (cut-off rest h (d.0 h inner))) in
        let new : entries_in (gone_last (Tree k cs rest)) ≡ own k ∷ ((entries_in (cut cs h) ++ entries_in t) ++ (bars_over k ∷ entries_in rest)) =
        ap entries_in trees ∙ ap (λ es. own k ∷ (es ++ (bars_over k ∷ entries_in rest))) (entries-and_then (cut cs h) t) in
        subst (λ es. GoesLast h p (entries_in (Tree k cs rest)) es) (sym new) (below k cs rest (eqb-true k p top) d.1 isnt (beside h cs d.3 root) own_tree)
    | inr lower ↦ elim (cases_Bool (has cs p)) [
      | inl under ↦
          let deeper : is_root h (children_of cs p) ≡ true = rw (lower, under) at kid in
          let inner : has cs h ≡ true = kid-has h p cs deeper in
          let isnt : eqb k h ≡ false = other-top k h cs d.1 inner in
          let own_tree : t ≡ tree_at cs h = rw (isnt, inner) at is in
          let trees : gone_last (Tree k cs rest) ≡ Tree k (gone_last cs) rest = rw (isnt, lower) (ap (Tree k (gone_last cs)) (still rest (d.0 h inner) (d.0 p under))) in
          let later = bars_over k ∷ entries_in rest in
          subst (λ u. GoesLast h p (entries_in (Tree k cs rest)) (entries_in u)) (sym trees)
          (prefix h p (own k ∷ []) (entries_in cs ++ later) (entries_in (gone_last cs) ++ later) (or_from (eqb k h) false isnt refl)
          (suffix h p later (entries_in cs) (entries_in (gone_last cs)) (goes cs d.3 deeper own_tree)))
      | inr off ↦
          let late : is_root h (children_of rest p) ≡ true = rw (lower, off) at kid in
          let there : has rest h ≡ true = kid-has h p rest late in
          let isnt : eqb k h ≡ false = other-top k h rest d.2 there in
          let out : has cs h ≡ false = false_from_ne_true (has cs h) (λ j. both_ways (has rest h) (d.0 h j) there) in
          let own_tree : t ≡ tree_at rest h = rw (isnt, out) at is in
          let trees : gone_last (Tree k cs rest) ≡ Tree k cs (gone_last rest) = rw (isnt, lower) (ap (λ u. Tree k u (gone_last rest)) (still cs out off)) in
          let new = entries_in (gone_last rest) in
          subst (λ u. GoesLast h p (entries_in (Tree k cs rest)) (entries_in u)) (sym trees)
          (prefix h p (own k ∷ []) (entries_in cs ++ (bars_over k ∷ entries_in rest)) (entries_in cs ++ (bars_over k ∷ new)) (or_from (eqb k h) false isnt refl)
          (prefix h p (entries_in cs) (bars_over k ∷ entries_in rest) (bars_over k ∷ new) (names-entries h cs ∙ out)
          (prefix h p (bars_over k ∷ []) (entries_in rest) new (or_from (eqb k h) false isnt refl) (goes rest d.4 late own_tree))))
    ]
  ]

-- The tree of a root.
abbrev pub root_of : Forest ℕ → ℕ → Forest ℕ
root_of Empty r = Empty
root_of (Tree k cs rest) r = cond (eqb k r) (Tree k cs Empty) (root_of rest r)

pub root-in : (f : Forest ℕ) (r k : ℕ) → has f k ≡ false → has (root_of f r) k ≡ false
root-in Empty r k out = refl
root-in (Tree j cs rest) r k out = grind (arith, nat_tests, out, root-in rest r k)

unlisted : (h p : ℕ) (f : Forest ℕ) → has f h ≡ false → Fronts h p (entries_in f) (entries_in f)
unlisted h p f out = inl (record { none = names-entries h f ∙ out; same = refl })

module _ (h p : ℕ) (t : Forest ℕ) where
  -- where p stands in the first tree
  in-first : (k : ℕ) (cs rest : Forest ℕ) (r : ℕ) (f u : Forest ℕ) → gone_last h p t f ≡ Tree k u rest → gone_last h p t (Tree k cs Empty) ≡ Tree k u Empty → f ≡ Tree k cs rest → has rest h ≡ false →
      GoesLast h p (entries_in (Tree k cs Empty)) (entries_in (gone_last h p t (Tree k cs Empty))) → Fronts h p (entries_in (root_of f r)) (entries_in (root_of (gone_last h p t f) r))
  in-first k cs rest r f u all own_is is out g = elim (cases_Bool (eqb k r)) [
    | inl same ↦ rw (all, is, same) (inr (subst (λ w. GoesLast h p (entries_in (Tree k cs Empty)) (entries_in w)) own_is g))
    | inr other ↦ rw (all, is, other) (unlisted h p (root_of rest r) (root-in rest r h out))
  ]

  pub root-goes : (f : Forest ℕ) (r : ℕ) → IsDistinct f → is_root h (children_of f p) ≡ true → t ≡ tree_at f h → Fronts h p (entries_in (root_of f r)) (entries_in (root_of (gone_last h p t f) r))
  root-goes Empty r d kid is = absurd (false≢true kid)
  root-goes (Tree k cs rest) r d kid is = elim (cases_Bool (eqb k p)) [
    | inl top ↦
        let root : is_root h cs ≡ true = rw top at kid in
        let inner : has cs h ≡ true = root-has h cs root in
        let isnt : eqb k h ≡ false = other-top k h cs d.1 inner in
        let out : has rest h ≡ false = d.0 h inner in
        let own_kid : is_root h (children_of (Tree k cs Empty) p) ≡ true = rw top root in
        let own_tree : t ≡ tree_at cs h = rw (isnt, inner) at is in
        let lone : t ≡ tree_at (Tree k cs Empty) h = rw (isnt, inner) own_tree in
        let u = and_then (cut cs h) t in
        in-first k cs rest r (Tree k cs rest) u (rw (isnt, top) (ap (Tree k u) (cut-off rest h out))) (rw (isnt, top) refl) refl out
        (goes h p t (Tree k cs Empty) ((λ j i. refl), d.1, refl, d.3, tt) own_kid lone)
    | inr lower ↦ elim (cases_Bool (has cs p)) [
      | inl under ↦
          let deeper : is_root h (children_of cs p) ≡ true = rw (lower, under) at kid in
          let inner : has cs h ≡ true = kid-has h p cs deeper in
          let isnt : eqb k h ≡ false = other-top k h cs d.1 inner in
          let out : has rest h ≡ false = d.0 h inner in
          let own_kid : is_root h (children_of (Tree k cs Empty) p) ≡ true = rw (lower, under) deeper in
          let own_tree : t ≡ tree_at cs h = rw (isnt, inner) at is in
          let lone : t ≡ tree_at (Tree k cs Empty) h = rw (isnt, inner) own_tree in
          let u = gone_last h p t cs in
          in-first k cs rest r (Tree k cs rest) u (rw (isnt, lower) (ap (Tree k u) (still h p t rest out (d.0 p under)))) (rw (isnt, lower) refl) refl out
          (goes h p t (Tree k cs Empty) ((λ j i. refl), d.1, refl, d.3, tt) own_kid lone)
      | inr off ↦
          let late : is_root h (children_of rest p) ≡ true = rw (lower, off) at kid in
          let there : has rest h ≡ true = kid-has h p rest late in
          let isnt : eqb k h ≡ false = other-top k h rest d.2 there in
          let out : has cs h ≡ false = false_from_ne_true (has cs h) (λ j. both_ways (has rest h) (d.0 h j) there) in
          let own_tree : t ≡ tree_at rest h = rw (isnt, out) at is in
          let trees : gone_last h p t (Tree k cs rest) ≡ Tree k cs (gone_last h p t rest) = rw (isnt, lower) (ap (λ u. Tree k u (gone_last h p t rest)) (still h p t cs out off)) in
          elim (cases_Bool (eqb k r)) [
            | inl same ↦ rw (trees, same) (unlisted h p (Tree k cs Empty) (or_from (eqb k h) (has cs h || false) isnt (or_from (has cs h) false out refl)))
            | inr other ↦ rw (trees, other) (root-goes rest r d.4 late own_tree)
          ]
    ]
  ]

-- No object stands in two of the trees that are shown.
pub count-and_then : (f g : Forest ℕ) (k : ℕ) → count (and_then f g) k ≡ count f k + count g k
count-and_then Empty g k = omega arith
count-and_then (Tree h cs rest) g k = omega (arith, count-and_then rest g k)

apart : (f g : Forest ℕ) (h : ℕ) → count (and_then f g) h ≤ 1 → names h (entries_in f) ≡ true → names h (entries_in g) ≡ true → ⊥
apart f g h once i j =
    let a = count-has f h (sym (names-entries h f) ∙ i) in
    let b = count-has g h (sym (names-entries h g) ∙ j) in
    absurd (omega (arith, a, b, once, count-and_then f g h))

-- What is painted of three trees.
pub three-go : (h p : ℕ) (a b c d e f : Forest ℕ) → StandsOnce (and_then a (and_then b c)) → Fronts h p (entries_in a) (entries_in d) → Fronts h p (entries_in b) (entries_in e) → Fronts h p (entries_in c) (entries_in f) →
    Fronts h p (entries_in (and_then a (and_then b c))) (entries_in (and_then d (and_then e f)))
three-go h p a b c d e f once x y z =
    let least : count (and_then b c) h ≤ 1 = let l = once h in omega (arith, l, count-and_then a (and_then b c) h) in
    let later : Fronts h p (entries_in (and_then b c)) (entries_in (and_then e f)) =
    subst (λ es. Fronts h p (entries_in (and_then b c)) es) (sym (entries-and_then e f))
    (subst (λ es. Fronts h p es (entries_in e ++ entries_in f)) (sym (entries-and_then b c)) (both h p (entries_in b) (entries_in e) (entries_in c) (entries_in f) y z (apart b c h least))) in
    subst (λ es. Fronts h p (entries_in (and_then a (and_then b c))) es) (sym (entries-and_then d (and_then e f)))
    (subst (λ es. Fronts h p es (entries_in d ++ entries_in (and_then e f))) (sym (entries-and_then a (and_then b c)))
    (both h p (entries_in a) (entries_in d) (entries_in (and_then b c)) (entries_in (and_then e f)) x later (apart a (and_then b c) h (once h))))
