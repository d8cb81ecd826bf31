-- What the changes of a scene make of its handles.
use Rattle.std.proofs.Common.{◌≡◌, ◌∙◌, refl, ℕ, eqb, true, false, Bool, ◌&&◌, ◌||◌, ◌+◌, cond, arith}
use Rattle.std.specs.Prelude.{Some, None, is_some}
use Rattle.std.specs.declared.option.Option.{Option}
use Rattle.std.proofs.lemmas.Bool.Decides.{nat_tests}
use Rattle.gui_base.specs.Forest.{Forest, Empty, Tree, and_then, leaf, has, depth_of, parent_by}
use Rattle.gui_base.proofs.Forests.{map-added_by, map-with_row_by}
use Rattle.scene_defs.specs.Edits.{over_row, over_text}
use Rattle.scene_defs.specs.Scene.{handle_of, is_at, new_object}
use Rattle.scene_check.specs.Growing.{grown, HandlesGrow}

same : (n : ℕ) → eqb n n ≡ true
same n = grind (arith, nat_tests)

has_leaf : (f : Forest ℕ) (n k : ℕ) → has (and_then f (leaf n)) k ≡ (has f k || eqb n k)
has_leaf Empty n k = by (eqb n k) where
  by : (b : Bool) → (b || (false || false)) ≡ (false || b)
  by true = refl
  by false = refl
has_leaf (Tree row cs rest) n k = rw (has_leaf rest n k) (by (eqb row k) (has cs k) (has rest k) (eqb n k)) where
  by : (a b c d : Bool) → (a || (b || (c || d))) ≡ ((a || (b || c)) || d)
  by true b c d = refl
  by false true c d = refl
  by false false c d = refl

has_more : (f : Forest ℕ) (n p k : ℕ) → has (grown f n p) k ≡ (has f k || (has f p && eqb n k))
has_more Empty n p k = refl
has_more (Tree row cs rest) n p k = by (eqb row p) (eqb row k) (has_more cs n p k) (has_more rest n p k) where
  join : (a b c d : Bool) → (a || ((b || d) || c)) ≡ ((a || (b || c)) || d)
  join true b c d = refl
  join false true c d = refl
  join false false true true = refl
  join false false true false = refl
  join false false false true = refl
  join false false false false = refl

  spread : (a b c p q d : Bool) → (a || ((b || (p && d)) || (c || (q && d)))) ≡ ((a || (b || c)) || ((p || q) && d))
  spread true b c p q d = refl
  spread false true c p q d = refl
  spread false false true true true true = refl
  spread false false true true true false = refl
  spread false false true true false true = refl
  spread false false true true false false = refl
  spread false false true false true true = refl
  spread false false true false true false = refl
  spread false false true false false true = refl
  spread false false true false false false = refl
  spread false false false true true true = refl
  spread false false false true true false = refl
  spread false false false true false true = refl
  spread false false false true false false = refl
  spread false false false false q d = refl

  by : (here there : Bool) → has (grown cs n p) k ≡ (has cs k || (has cs p && eqb n k)) → has (grown rest n p) k ≡ (has rest k || (has rest p && eqb n k)) →
      has (cond here (Tree row (and_then cs (leaf n)) rest) (Tree row (grown cs n p) (grown rest n p))) k
      ≡ ((eqb row k || (has cs k || has rest k)) || ((here || (has cs p || has rest p)) && eqb n k))
  by true there e f = rw (has_leaf cs n k) (join (eqb row k) (has cs k) (has rest k) (eqb n k))
  by false there e f = rw (e, f) (spread (eqb row k) (has cs k) (has rest k) (has cs p) (has rest p) (eqb n k))

or_nothing : (a b : Bool) → (a || (b && false)) ≡ a
or_nothing true b = refl
or_nothing false true = refl
or_nothing false false = refl

has_kept : (f : Forest ℕ) (n p k : ℕ) → eqb n k ≡ false → has (grown f n p) k ≡ has f k
has_kept f n p k e = has_more f n p k ∙ rw e (or_nothing (has f k) (has f p))

or_nothing_last : (a : Bool) → (a || false) ≡ a
or_nothing_last true = refl
or_nothing_last false = refl

depth_leaf : (f : Forest ℕ) (n k : ℕ) → eqb n k ≡ false → depth_of (and_then f (leaf n)) k ≡ depth_of f k
depth_leaf Empty n k e = rw e refl
depth_leaf (Tree row cs rest) n k e = rw (depth_leaf rest n k e) refl

depth_same : (f : Forest ℕ) (n p k : ℕ) → eqb n k ≡ false → depth_of (grown f n p) k ≡ depth_of f k
depth_same Empty n p k e = refl
depth_same (Tree row cs rest) n p k e = by (eqb row p) (depth_same cs n p k e) (depth_same rest n p k e) where
  by : (here : Bool) → depth_of (grown cs n p) k ≡ depth_of cs k → depth_of (grown rest n p) k ≡ depth_of rest k →
      depth_of (cond here (Tree row (and_then cs (leaf n)) rest) (Tree row (grown cs n p) (grown rest n p))) k ≡ depth_of (Tree row cs rest) k
  by true f g = rw (has_leaf cs n k, e, or_nothing_last (has cs k), depth_leaf cs n k e) refl
  by false f g = rw (has_kept cs n p k e, f, g) refl

parent_leaf : (f : Forest ℕ) (n k : ℕ) (up : Option ℕ) → eqb n k ≡ false → parent_by (λ j. eqb j k) up (and_then f (leaf n)) ≡ parent_by (λ j. eqb j k) up f
parent_leaf Empty n k up e = rw e refl
parent_leaf (Tree row cs rest) n k up e = rw (parent_leaf rest n k up e) refl

parent_same : (f : Forest ℕ) (n p k : ℕ) (up : Option ℕ) → eqb n k ≡ false → parent_by (λ j. eqb j k) up (grown f n p) ≡ parent_by (λ j. eqb j k) up f
parent_same Empty n p k up e = refl
parent_same (Tree row cs rest) n p k up e = by (eqb row p) (parent_same cs n p k (Some row) e) (parent_same rest n p k up e) where
  by : (here : Bool) → parent_by (λ j. eqb j k) (Some row) (grown cs n p) ≡ parent_by (λ j. eqb j k) (Some row) cs → parent_by (λ j. eqb j k) up (grown rest n p) ≡ parent_by (λ j. eqb j k) up rest →
      parent_by (λ j. eqb j k) up (cond here (Tree row (and_then cs (leaf n)) rest) (Tree row (grown cs n p) (grown rest n p))) ≡ parent_by (λ j. eqb j k) up (Tree row cs rest)
  by true f g = rw (has_leaf cs n k, e, or_nothing_last (has cs k), parent_leaf cs n k (Some row) e) refl
  by false f g = rw (has_kept cs n p k e, f, g) refl

-- What is new.

none_of : (a b c : Bool) → (a || (b || c)) ≡ false → (a ≡ false) × ((b ≡ false) × (c ≡ false))
none_of true b c e = cc
none_of false true c e = cc
none_of false false true e = cc
none_of false false false e = (refl, (refl, refl))

depth_first : (f : Forest ℕ) (n : ℕ) → has f n ≡ false → depth_of (and_then f (leaf n)) n ≡ 1
depth_first Empty n h = rw (same n) refl
depth_first (Tree row cs rest) n h =
    let t = none_of (eqb row n) (has cs n) (has rest n) h in
    rw (t.0, t.1.0, depth_first rest n t.1.1) refl

parent_first : (f : Forest ℕ) (n row : ℕ) → has f n ≡ false → parent_by (λ j. eqb j n) (Some row) (and_then f (leaf n)) ≡ Some row
parent_first Empty n row h = rw (same n) refl
parent_first (Tree other cs rest) n row h =
    let t = none_of (eqb other n) (has cs n) (has rest n) h in
    rw (t.0, t.1.0, parent_first rest n row t.1.1) refl

-- the new leaf is there below what has p, and nowhere else
has_new : (f : Forest ℕ) (n p : ℕ) → has f n ≡ false → has (grown f n p) n ≡ has f p
has_new f n p h = has_more f n p n ∙ rw (h, same n) (by (has f p)) where
  by : (b : Bool) → (false || (b && true)) ≡ b
  by true = refl
  by false = refl

depth_added : (f : Forest ℕ) (n p : ℕ) → has f p ≡ true → has f n ≡ false → depth_of (grown f n p) n ≡ depth_of f p + 1
depth_added Empty n p i h = cc
depth_added (Tree row cs rest) n p i h =
    let t = none_of (eqb row n) (has cs n) (has rest n) h in
    by (eqb row p) (has cs p) refl i t.0 t.1.0 t.1.1 (λ j. depth_added cs n p j t.1.0) (λ j. depth_added rest n p j t.1.1) where
      by : (here below : Bool) → has cs p ≡ below → (here || (below || has rest p)) ≡ true → eqb row n ≡ false → has cs n ≡ false → has rest n ≡ false →
          (has cs p ≡ true → depth_of (grown cs n p) n ≡ depth_of cs p + 1) → (has rest p ≡ true → depth_of (grown rest n p) n ≡ depth_of rest p + 1) →
          depth_of (cond here (Tree row (and_then cs (leaf n)) rest) (Tree row (grown cs n p) (grown rest n p))) n ≡ cond here 1 (cond below (depth_of cs p + 1) (depth_of rest p)) + 1
      by true below e i a b c f g = rw (a, has_leaf cs n n, b, same n, depth_first cs n b) refl
      by false true e i a b c f g = rw (a, has_new cs n p b, e, f e) refl
      by false false e i a b c f g = rw (a, has_new cs n p b, e, g i) refl

parent_added : (f : Forest ℕ) (n p : ℕ) (up : Option ℕ) → has f p ≡ true → has f n ≡ false → is_some (parent_by (λ j. eqb j n) up (grown f n p)) ≡ true
parent_added Empty n p up i h = cc
parent_added (Tree row cs rest) n p up i h =
    let t = none_of (eqb row n) (has cs n) (has rest n) h in
    by (eqb row p) (has cs p) refl i t.0 t.1.0 t.1.1 (λ j. parent_added cs n p (Some row) j t.1.0) (λ j. parent_added rest n p up j t.1.1) where
      by : (here below : Bool) → has cs p ≡ below → (here || (below || has rest p)) ≡ true → eqb row n ≡ false → has cs n ≡ false → has rest n ≡ false →
          (has cs p ≡ true → is_some (parent_by (λ j. eqb j n) (Some row) (grown cs n p)) ≡ true) → (has rest p ≡ true → is_some (parent_by (λ j. eqb j n) up (grown rest n p)) ≡ true) →
          is_some (parent_by (λ j. eqb j n) up (cond here (Tree row (and_then cs (leaf n)) rest) (Tree row (grown cs n p) (grown rest n p)))) ≡ true
      by true below e i a b c f g = rw (a, has_leaf cs n n, b, same n, parent_first cs n row b) refl
      by false true e i a b c f g = rw (a, has_new cs n p b, e, f e) refl
      by false false e i a b c f g = rw (a, has_new cs n p b, e, g i) refl

pub handles_grow : HandlesGrow
handles_grow = record {
  by_object = λ trees n p kind. map-added_by handle_of (λ k. eqb k p) (λ k. eqb k p) (new_object n kind) trees;
  by_row = λ scene h set. map-with_row_by handle_of (λ k. eqb k h) (is_at h) (over_row set) (λ a. refl) scene.trees;
  by_text = λ scene h text. map-with_row_by handle_of (λ k. eqb k h) (is_at h) (over_text text) (λ a. refl) scene.trees;
  has_grown = has_more;
  depth_kept = depth_same;
  depth_new = depth_added;
  parent_kept = λ f n p k e. parent_same f n p k None e;
  parent_new = λ f n p i h. parent_added f n p None i h;
}
