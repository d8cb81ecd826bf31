-- What is painted where an object comes, the last child of another.
use Rattle.std.proofs.Common.{◌≡◌, ◌∙◌, ◌+◌, ◌*◌, ◌≤◌, refl, sym, ap, subst, length, length-append, ℕ, true, false, eqb, ◌||◌, List, [], ◌∷◌, ◌++◌, append_assoc, inl, inr, arith}
use Rattle.std.proofs.lemmas.Bool.{cases_Bool, eqb-true, false≢true, false_from_ne_true, or_from, or_left, or_right}
use Rattle.gui_base.specs.Forest.{Forest, Empty, Tree, StandsOnce, and_then, has, leaf, size, with_children_by}
use Rattle.gui_base.specs.declared.Handle.{Handle}
use Rattle.gui_base.specs.declared.words.Kind.{Kind}
use Rattle.gui_base.proofs.Forests.{map-added_by, map-size}
use Rattle.gui_base.proofs.Visits.{count-has}
use Rattle.gui_tree.proofs.Parts.{IsDistinct, distinct_once}
use Rattle.scene_defs.specs.declared.Change.TheVariants as change
use Rattle.scene_defs.specs.Change.{scene_after}
use Rattle.scene_defs.specs.Scene.{Scene, handle_of, handles_of, new_object}
use Rattle.scene_defs.specs.Shown.{Entry as Painted, bars_over, entries, entries_in, own}
use Rattle.scene_defs.specs.Valid.{IsValid}
use Rattle.scene_defs.specs.Visible.{root_tree, shown_trees}
use Rattle.gui_layout.proofs.Entering.{few}
use Rattle.gui_change.specs.Comes.{AddsLast, Comes}
use Rattle.gui_change.specs.Fronts.{names}
use Rattle.gui_change.proofs.Entering.{entries-and_then}
use Rattle.gui_change.proofs.Fronted.{shown-handles, three_of}
use Rattle.gui_change.proofs.Fronting.{count-and_then, kids-off, names-append, names-entries, root-in, root_of}
use Rattle.gui_change.proofs.Orders.{shown_once, size-and_then, size-roots}

module _ (h p : ℕ) where
  abbrev last : Forest ℕ → Forest ℕ
  last cs = and_then cs (leaf h)

  abbrev pub grown : Forest ℕ → Forest ℕ
  grown f = with_children_by (λ k. eqb k p) last f

  still : (f : Forest ℕ) → has f p ≡ false → grown f ≡ f
  still f off = kids-off f p last off

  -- More that is painted before and after.
  prefix : (xs old new : List Painted) → names p xs ≡ false → AddsLast h p old new → AddsLast h p (xs ++ old) (xs ++ new)
  prefix xs old new none g = record {
    before = xs ++ g.before;
    inside = g.inside;
    after = g.after;
    first = names-append p xs g.before ∙ or_from (names p xs) (names p g.before) none g.first;
    whole = g.whole;
    was = ap (λ es. xs ++ es) g.was ∙ sym (append_assoc xs g.before (own p ∷ (g.inside ++ (bars_over p ∷ g.after))));
    is = ap (λ es. xs ++ es) g.is ∙ sym (append_assoc xs g.before (own p ∷ (g.inside ++ (own h ∷ (bars_over h ∷ (bars_over p ∷ g.after))))));
  }

  suffix : (ys old new : List Painted) → AddsLast h p old new → AddsLast h p (old ++ ys) (new ++ ys)
  suffix ys old new g = record {
    before = g.before;
    inside = g.inside;
    after = g.after ++ ys;
    first = g.first;
    whole = g.whole;
    was =
        ap (λ es. es ++ ys) g.was
        ∙ (append_assoc g.before (own p ∷ (g.inside ++ (bars_over p ∷ g.after))) ys
        ∙ ap (λ es. g.before ++ (own p ∷ es)) (append_assoc g.inside (bars_over p ∷ g.after) ys));
    is =
        ap (λ es. es ++ ys) g.is
        ∙ (append_assoc g.before (own p ∷ (g.inside ++ (own h ∷ (bars_over h ∷ (bars_over p ∷ g.after))))) ys
        ∙ ap (λ es. g.before ++ (own p ∷ es)) (append_assoc g.inside (own h ∷ (bars_over h ∷ (bars_over p ∷ g.after))) ys));
  }

  -- p is the root of the first tree
  below : (k : ℕ) (cs rest : Forest ℕ) → k ≡ p → has cs k ≡ false → AddsLast h p (entries_in (Tree k cs rest)) (entries_in (Tree k (last cs) rest))
  below k cs rest same out = record {
    before = [];
    inside = entries_in cs;
    after = entries_in rest;
    first = refl;
    whole = names-entries p cs ∙ subst (λ (j : ℕ). has cs j ≡ false) same out;
    was = ap (λ (j : ℕ). own j ∷ (entries_in cs ++ (bars_over j ∷ entries_in rest))) same;
    is =
        ap (λ es. own k ∷ (es ++ (bars_over k ∷ entries_in rest))) (entries-and_then cs (leaf h))
        ∙ (ap (λ es. own k ∷ es) (append_assoc (entries_in cs) (own h ∷ (bars_over h ∷ [])) (bars_over k ∷ entries_in rest))
        ∙ ap (λ (j : ℕ). own j ∷ (entries_in cs ++ (own h ∷ (bars_over h ∷ (bars_over j ∷ entries_in rest))))) same);
  }

  pub adds : (f : Forest ℕ) → IsDistinct f → has f p ≡ true → AddsLast h p (entries_in f) (entries_in (grown f))
  adds Empty d there = absurd (false≢true there)
  adds (Tree k cs rest) d there = elim (cases_Bool (eqb k p)) [
    | inl top ↦
        let trees : grown (Tree k cs rest) ≡ Tree k (last cs) rest = rw top refl in
        subst (λ u. AddsLast h p (entries_in (Tree k cs rest)) (entries_in u)) (sym trees) (below k cs rest (eqb-true k p top) d.1)
    | inr lower ↦
        let own_off : names p (own k ∷ []) ≡ false = or_from (eqb k p) false lower refl in
        let bars_off : names p (bars_over k ∷ []) ≡ false = or_from (eqb k p) false lower refl in
        elim (cases_Bool (has cs p)) [
          | inl under ↦
              let trees : grown (Tree k cs rest) ≡ Tree k (grown cs) rest = rw lower (ap (Tree k (grown cs)) (still rest (d.0 p under))) in
              let later = bars_over k ∷ entries_in rest in
              subst (λ u. AddsLast h p (entries_in (Tree k cs rest)) (entries_in u)) (sym trees)
              (prefix (own k ∷ []) (entries_in cs ++ later) (entries_in (grown cs) ++ later) own_off (suffix later (entries_in cs) (entries_in (grown cs)) (adds cs d.3 under)))
          | inr off ↦
              let late : has rest p ≡ true = rw (lower, off) at there in
              let trees : grown (Tree k cs rest) ≡ Tree k cs (grown rest) = rw lower (ap (λ u. Tree k u (grown rest)) (still cs off)) in
              let new = entries_in (grown rest) in
              subst (λ u. AddsLast h p (entries_in (Tree k cs rest)) (entries_in u)) (sym trees)
              (prefix (own k ∷ []) (entries_in cs ++ (bars_over k ∷ entries_in rest)) (entries_in cs ++ (bars_over k ∷ new)) own_off
              (prefix (entries_in cs) (bars_over k ∷ entries_in rest) (bars_over k ∷ new) (names-entries p cs ∙ off)
              (prefix (bars_over k ∷ []) (entries_in rest) new bars_off (adds rest d.4 late))))
        ]
  ]

  -- it comes in any of some trees
  pub comes : (f : Forest ℕ) → IsDistinct f → Comes h p (entries_in f) (entries_in (grown f))
  comes f d = elim (cases_Bool (has f p)) [
    | inl there ↦ inr (adds f d there)
    | inr off ↦ inl (record { none = names-entries p f ∙ off; same = ap entries_in (still f off) })
  ]

  -- one after another
  grown-and_then : (a b : Forest ℕ) → (has a p ≡ true → has b p ≡ false) → grown (and_then a b) ≡ and_then (grown a) (grown b)
  grown-and_then Empty b apart = refl
  grown-and_then (Tree k cs rest) b apart = elim (cases_Bool (eqb k p)) [
    | inl top ↦
        let off : has b p ≡ false = apart (or_left (eqb k p) (has cs p || has rest p) top) in
        rw top (ap (λ u. Tree k (last cs) (and_then rest u)) (sym (still b off)))
    | inr lower ↦ rw lower (ap (Tree k (grown cs)) (grown-and_then rest b (λ i. apart (or_right (eqb k p) (has cs p || has rest p) (or_right (has cs p) (has rest p) i)))))
  ]

  root-grown : (f : Forest ℕ) (r : ℕ) → IsDistinct f → root_of (grown f) r ≡ grown (root_of f r)
  root-grown Empty r d = refl
  root-grown (Tree k cs rest) r d = elim (cases_Bool (eqb k p)) [
    | inl top ↦ elim (cases_Bool (eqb k r)) [
      | inl same ↦ rw (top, same) (rw top refl)
      | inr other ↦ rw (top, other) (sym (still (root_of rest r) (root-in rest r p (subst (λ (j : ℕ). has rest j ≡ false) (eqb-true k p top) d.2))))
    ]
    | inr lower ↦ elim (cases_Bool (eqb k r)) [
      | inl same ↦ rw (lower, same) (rw lower refl)
      | inr other ↦ rw (lower, other) (root-grown rest r d.4)
    ]
  ]

  apart : (a b : Forest ℕ) → StandsOnce (and_then a b) → has a p ≡ true → has b p ≡ false
  apart a b once i = false_from_ne_true (has b p) (λ j.
      let x = count-has a p i in
      let y = count-has b p j in
      let one = once p in
      absurd (omega (arith, x, y, one, count-and_then a b p)))

  later : (a b : Forest ℕ) → StandsOnce (and_then a b) → StandsOnce b
  later a b once k = let one = once k in omega (arith, one, count-and_then a b k)

  -- so it is with the trees that are shown
  three-grown : (f : Forest ℕ) (a : ℕ) → IsDistinct f → StandsOnce (three_of f a) → three_of (grown f) a ≡ grown (three_of f a)
  three-grown f a d once =
      let x = root_of f a in
      let y = root_of f 1 in
      let z = root_of f 2 in
      rw (root-grown f a d, root-grown f 1 d, root-grown f 2 d)
      (ap (and_then (grown x)) (sym (grown-and_then y z (apart y z (later x (and_then y z) once)))) ∙ sym (grown-and_then x (and_then y z) (apart x (and_then y z) once)))

-- one object more
size-grown : (h p : ℕ) (f : Forest ℕ) → IsDistinct f → has f p ≡ true → size (grown h p f) ≡ size f + 1
size-grown h p Empty d there = absurd (false≢true there)
size-grown h p (Tree k cs rest) d there = elim (cases_Bool (eqb k p)) [
  | inl top ↦ rw top (let a = size-and_then cs (leaf h) in omega (arith, a))
  | inr lower ↦ elim (cases_Bool (has cs p)) [
    | inl under ↦ rw lower (let a = size-grown h p cs d.3 under in let b = ap size (still h p rest (d.0 p under)) in omega (arith, a, b))
    | inr off ↦ let late : has rest p ≡ true = rw (lower, off) at there in rw lower (let a = size-grown h p rest d.4 late in let b = ap size (still h p cs off) in omega (arith, a, b))
  ]
]

length-entries : (f : Forest ℕ) → length (entries_in f) ≡ 2 * size f
length-entries Empty = omega arith
length-entries (Tree k cs rest) =
    let a = length-append (entries_in cs) (bars_over k ∷ entries_in rest) in
    let b = length-entries cs in
    let c = length-entries rest in
    omega (arith, a, b, c)

-- What is painted after a change that made an object.
module _ (scene : Scene) (valid : IsValid scene) (h p : Handle) (kind : Kind) where
  abbrev pub after : Scene
  after = scene_after scene (change.New h p kind)

  trees-grown : handles_of after.trees ≡ grown h.0 p.0 (handles_of scene.trees)
  trees-grown = map-added_by handle_of (λ j. eqb j h.0) (λ j. eqb j p.0) (new_object h.0 kind) scene.trees

  pub new-entries : Comes h.0 p.0 (entries scene) (entries after)
  new-entries =
      let f = handles_of scene.trees in
      let t = three_of f scene.active in
      let once : StandsOnce t = subst StandsOnce (shown-handles scene) (shown_once scene valid) in
      let old : entries scene ≡ entries_in t = ap entries_in (shown-handles scene) in
      let new : entries after ≡ entries_in (grown h.0 p.0 t) =
      ap entries_in (shown-handles after)
      ∙ (ap (λ (u : Forest ℕ). entries_in (three_of u scene.active)) trees-grown
      ∙ ap entries_in (three-grown h.0 p.0 f scene.active (distinct_once f valid.trees.once) once)) in
      subst (λ es. Comes h.0 p.0 es (entries after)) (sym old) (subst (λ es. Comes h.0 p.0 (entries_in t) es) (sym new) (comes h.0 p.0 t (distinct_once t once)))

  -- so there is room for two entries more
  pub entries-fit : IsValid after → has (handles_of scene.trees) p.0 ≡ true → length (entries scene) + 2 ≤ 2 * after.limits.objects
  entries-fit now there =
      let f = scene.trees in
      let all = size-roots f scene.active valid.trees.above_top valid.trees.above_system in
      let a = size-and_then (root_tree f scene.active) (and_then (root_tree f 1) (root_tree f 2)) in
      let b = size-and_then (root_tree f 1) (root_tree f 2) in
      let c = map-size handle_of (shown_trees scene) in
      let d = map-size handle_of f in
      let e = length-entries (handles_of (shown_trees scene)) in
      let g = few after now in
      let more = ap size trees-grown ∙ size-grown h.0 p.0 (handles_of f) (distinct_once (handles_of f) valid.trees.once) there in
      omega (arith, all, a, b, c, d, e, g, more)
