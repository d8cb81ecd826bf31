-- No object is made twice where no handle is given twice.
use Rattle.std.proofs.Common.{◌≡◌, ◌∙◌, refl, sym, ap, ℕ, ◌≤◌, true, false, not, Bool, ◌&&◌, ◌||◌, List, [], ◌∷◌, ◌++◌, eqb, arith}
use Rattle.std.specs.List.{list_all}
use Rattle.std.proofs.lemmas.Int.{ints}
use Rattle.std.proofs.lemmas.Bool.Decides.{nat_tests}
use Rattle.gui_base.specs.Forest.{Forest, has}
use Rattle.gui_base.specs.Intervals.{is_counted}
use Rattle.gui_base.specs.declared.Handle.{Handle}
use Rattle.gui_base.specs.declared.intervals.TheConstants.{HANDLE, NEW_HANDLE}
use Rattle.gui_base.specs.declared.words.Kind.{Kind}
use Rattle.gui_base.proofs.Forests.{map-added_by}
use Rattle.scene_defs.specs.declared.Change.{Change}
use Rattle.scene_defs.specs.declared.Change.TheVariants as change
use Rattle.scene_defs.specs.Deeds.{is_in_range}
use Rattle.scene_defs.specs.Scene.{first_trees}
use Rattle.scene_check.specs.Made.{is_among, is_other, ids_after, are_other}
use Rattle.scene_check.specs.Outlines.{Node, handle_in, handles_in, has_node, outline_of, outline_after}
use Rattle.scene_check.specs.Trees.{is_new, all_new}
use Rattle.scene_check.proofs.Growing.{handles_grow}
use Rattle.scene_check.proofs.Holding.{both_hold}

one_more : (k n : ℕ) (ids : List ℕ) → is_among k (ids ++ n ∷ []) ≡ (is_among k ids || eqb n k)
one_more k n [] = or_false (eqb n k) where
  or_false : (a : Bool) → (a || false) ≡ a
  or_false true = refl
  or_false false = refl
one_more k n (id ∷ ids) = rw (one_more k n ids) (or_assoc (eqb id k) (is_among k ids) (eqb n k)) where
  or_assoc : (a b c : Bool) → (a || (b || c)) ≡ ((a || b) || c)
  or_assoc true b c = refl
  or_assoc false b c = refl

-- what a caller named is among these
abbrev AreAll : Forest Node → List ℕ → Type 0
AreAll o ids = (k : ℕ) → 10 ≤ k → has_node o k ≡ true → is_among k ids ≡ true

-- the first objects have other handles
none_first : AreAll (outline_of first_trees) []
none_first k low h = grind (arith, nat_tests, low, h)

record Went (o : Forest Node) (ids : List ℕ) (c : Change) : Type 0 where
  new : is_new o c ≡ true
  all : AreAll (outline_after o c) (ids_after ids c)

new_low : (n p : ℕ) → (is_counted NEW_HANDLE n && is_counted HANDLE p) ≡ true → 10 ≤ n
new_low n p h = let one = both_hold (is_counted NEW_HANDLE n) (is_counted HANDLE p) h in low n one.0 where
  low : (n : ℕ) → is_counted NEW_HANDLE n ≡ true → 10 ≤ n
  low n h = grind (arith, ints, nat_tests, h)

not_there : (there among : Bool) → (there ≡ true → among ≡ true) → not among ≡ true → not there ≡ true
not_there true true f h = h
not_there true false f h = let e = f refl in cc
not_there false among f h = refl

either_way : (was p is among : Bool) → (was ≡ true → among ≡ true) → (was || (p && is)) ≡ true → (among || is) ≡ true
either_way true p is among f h = rw (f refl) refl
either_way false true true true f h = refl
either_way false true true false f h = refl
either_way false true false among f h = cc
either_way false false is among f h = cc

new_goes : (o : Forest Node) (ids : List ℕ) (n p : Handle) (kind : Kind) → is_in_range (change.New n p kind) ≡ true → AreAll o ids → not (is_among n.0 ids) ≡ true → Went o ids (change.New n p kind)
new_goes o ids n p kind r i d = record {
  new = not_there (has_node o n.0) (is_among n.0 ids) (i n.0 (new_low n.0 p.0 r)) d;
  all = λ k low h. one_more k n.0 ids ∙ either_way (has_node o k) (has_node o p.0) (eqb n.0 k) (is_among k ids) (i k low)
      (sym (ap (λ (f : Forest ℕ). has f k) (map-added_by handle_in (λ j. eqb j p.0) (λ j. eqb j p.0) (n.0, kind) o) ∙ handles_grow.has_grown (handles_in o) n.0 p.0 k) ∙ h);
}

goes : (o : Forest Node) (ids : List ℕ) (c : Change) → is_in_range c ≡ true → AreAll o ids → is_other ids c ≡ true → Went o ids c
goes o ids (change.New n p kind) r i d = new_goes o ids n p kind r i d
goes o ids c r i d = record { new = refl; all = i }

all_go : (o : Forest Node) (ids : List ℕ) (cs : List Change) → list_all is_in_range cs ≡ true → AreAll o ids → are_other ids cs ≡ true → all_new o cs ≡ true
all_go o ids [] r i d = refl
all_go o ids (c ∷ cs) r i d =
    let ranges = both_hold (is_in_range c) (list_all is_in_range cs) r in
    let others = both_hold (is_other ids c) (are_other (ids_after ids c) cs) d in
    let one = goes o ids c ranges.0 i others.0 in
    rw (one.new) (all_go (outline_after o c) (ids_after ids c) cs ranges.1 one.all others.1)

pub all_new_first : (cs : List Change) → list_all is_in_range cs ≡ true → are_other [] cs ≡ true → all_new (outline_of first_trees) cs ≡ true
all_new_first cs r d = all_go (outline_of first_trees) [] cs r none_first d
