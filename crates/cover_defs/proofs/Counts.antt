-- What is shown is there.
use Rattle.std.proofs.Common.{◌≡◌, ◌≢◌, ◌∙◌, refl, ap, ◌+◌, ◌*◌, ◌≤◌, ℕ, Bool, true, false, if◌then◌else◌, Option, Some, None, is_some, List, [], ◌∷◌, ◌++◌, length, map, arith, sum_by}
use Rattle.std.specs.List.{filter}
use Rattle.std.proofs.Math.Nat.{mul-le-mul_left}
use Rattle.std.proofs.lemmas.Bool.Decides.{nat_tests}
use Rattle.std.proofs.lemmas.List.{length-append}
use Rattle.std.proofs.lemmas.List.Sums.{sum_by-append, sum_by-cons}
use Rattle.gui_base.specs.Area.{Rect, size_of}
use Rattle.gui_base.specs.Forest.{Forest, Empty, Tree, and_then, preorder}
use Rattle.scene_defs.specs.Items.{bars, items}
use Rattle.scene_defs.specs.Scene.{Object, Scene, handles_of}
use Rattle.scene_defs.specs.Shown.{Entry, Seen, bars_over, entries, entries_in, own, painted, seen_entry}
use Rattle.scene_defs.specs.Visible.{root_tree, shown_trees, visible}
use Rattle.scene_defs.specs.Walk.{IsShowable}
use Rattle.cover_defs.specs.Cover.{is_cover, from_last, uncovered, item_count, late, items_shown}
use Rattle.cover_defs.specs.Steps.{bar_steps, handles, letters_at, letter_count, object_count, object_steps, steps_of, slice_steps, most_steps}
use Rattle.cover_defs.specs.Laws.{EachIsCounted}

module _ (f : ℕ → ℕ) where
  -- a number of each object of some trees
  abbrev pub sum_in : Forest Object → ℕ
  sum_in trees = sum_by f (preorder (handles_of trees))

  sum_tree : (o : Object) (cs rest : Forest Object) → sum_in (Tree o cs rest) ≡ f o.handle + (sum_in cs + sum_in rest)
  sum_tree o cs rest = omega (arith, sum_by-cons f o.handle (preorder (handles_of cs) ++ preorder (handles_of rest)), sum_by-append f (preorder (handles_of cs)) (preorder (handles_of rest)))

  sum-and_then : (a b : Forest Object) → sum_in (and_then a b) ≡ sum_in a + sum_in b
  sum-and_then Empty b = omega arith
  sum-and_then (Tree o cs rest) b = omega (arith, sum_tree o cs (and_then rest b), sum_tree o cs rest, sum-and_then rest b)

  sum-roots : (trees : Forest Object) (a : ℕ) → a ≢ 1 → a ≢ 2 → sum_in (root_tree trees a) + (sum_in (root_tree trees 1) + sum_in (root_tree trees 2)) ≤ sum_in trees
  sum-roots Empty a one two = omega arith
  sum-roots (Tree o cs rest) a one two = grind (arith, nat_tests, sum-roots rest a one two, sum_tree o cs rest, sum_tree o cs Empty)

pub each_is_counted : EachIsCounted
each_is_counted scene f showable =
    omega (
      arith,
      sum-and_then f (root_tree scene.trees scene.active) (and_then (root_tree scene.trees 1) (root_tree scene.trees 2)),
      sum-and_then f (root_tree scene.trees 1) (root_tree scene.trees 2),
      sum-roots f scene.trees scene.active showable.above_top showable.above_system,
    )

-- a number of each object by itself, and none of its bars
abbrev pub own_number : (ℕ → ℕ) → Bool → ℕ → ℕ
own_number f is_bars h = if is_bars then 0 else f h

abbrev pub of_entry : (ℕ → ℕ) → Entry → ℕ
of_entry f e = own_number f e.is_bars e.handle

abbrev pub of_seen : (ℕ → ℕ) → Seen → ℕ
of_seen f s = own_number f s.is_bars s.handle

-- among the entries of trees it stands once for each object
pub entries_own : (f : ℕ → ℕ) (trees : Forest ℕ) → sum_by (of_entry f) (entries_in trees) ≡ sum_by f (preorder trees)
entries_own f Empty = refl
entries_own f (Tree h cs rest) =
    omega (
      arith,
      sum_by-cons (of_entry f) (own h) (entries_in cs ++ (bars_over h ∷ entries_in rest)),
      sum_by-append (of_entry f) (entries_in cs) (bars_over h ∷ entries_in rest),
      sum_by-cons (of_entry f) (bars_over h) (entries_in rest),
      entries_own f cs,
      entries_own f rest,
      sum_by-cons f h (preorder cs ++ preorder rest),
      sum_by-append f (preorder cs) (preorder rest),
    )

-- each object has two
pub entries_twice : (trees : Forest ℕ) → length (entries_in trees) ≡ 2 * length (preorder trees)
entries_twice Empty = refl
entries_twice (Tree h cs rest) =
    omega (
      arith,
      length-append (entries_in cs) (bars_over h ∷ entries_in rest),
      entries_twice cs,
      entries_twice rest,
      length-append (preorder cs) (preorder rest),
    )

-- a number of each of some entries that is seen, summed up, is at most that of all of them
module _ (scene : Scene) (f : ℕ → ℕ) where
  abbrev sum_seen : List Entry → ℕ
  sum_seen es = sum_by (of_seen f) (filter (λ s. is_some s.visible) (map (seen_entry scene) es))

  seen_next : (e : Entry) (es : List Entry) (v : Option Rect) → visible scene e.handle ≡ v → sum_seen es ≤ sum_by (of_entry f) es → sum_seen (e ∷ es) ≤ sum_by (of_entry f) (e ∷ es)
  seen_next e es None is later =
      let rest = filter (λ s. is_some s.visible) (map (seen_entry scene) es) in
      let list : sum_seen (e ∷ es) ≡ sum_seen es = ap (λ (v : Option Rect). sum_by (of_seen f) (if is_some v then seen_entry scene e ∷ rest else rest)) is in
      omega (arith, later, list, sum_by-cons (of_entry f) e es)
  seen_next e es (Some area) is later =
      let rest = filter (λ s. is_some s.visible) (map (seen_entry scene) es) in
      let list : sum_seen (e ∷ es) ≡ of_entry f e + sum_seen es =
      ap (λ (v : Option Rect). sum_by (of_seen f) (if is_some v then seen_entry scene e ∷ rest else rest)) is ∙ sum_by-cons (of_seen f) (seen_entry scene e) rest in
      omega (arith, later, list, sum_by-cons (of_entry f) e es)

  seen_few : (es : List Entry) → sum_seen es ≤ sum_by (of_entry f) es
  seen_few [] = omega arith
  seen_few (e ∷ es) = seen_next e es (visible scene e.handle) refl (seen_few es)

-- and of what is painted at most that of all objects
pub painted_few : (scene : Scene) (f : ℕ → ℕ) → IsShowable scene → sum_by (of_seen f) (painted scene) ≤ sum_by f (handles scene)
painted_few scene f showable =
    omega (arith, seen_few scene f (entries scene), entries_own f (handles_of (shown_trees scene)), each_is_counted scene f showable)

-- what comes from the last that passes a test on is no more than all
pub sum_from : {A : Type 0} (f : A → ℕ) (test : A → Bool) (xs : List A) → sum_by f (from_last test xs) ≤ sum_by f xs
sum_from f test [] = omega arith
sum_from f test (x ∷ xs) = grind (arith, sum_from f test xs, sum_by-cons f x xs)

-- The steps of what is painted, by its items and its characters.
module _ (scene : Scene) where
  abbrev letters_of : Seen → ℕ
  letters_of = of_seen (letters_at scene)

  more : (size count rest : ℕ) → size * (count + rest) ≡ count * size + size * rest
  more size count rest = grind arith

  one_is : (is_bars : Bool) (size h : ℕ) →
      (if is_bars then bar_steps scene size h else object_steps scene size h)
      ≡ length (if is_bars then bars scene h else items scene h) * size + 6 * own_number (letters_at scene) is_bars h
  one_is true size h = omega arith
  one_is false size h = refl

  steps_are : (size : ℕ) (list : List Seen) → sum_by (steps_of scene size) list ≡ size * sum_by (item_count scene) list + 6 * sum_by letters_of list
  steps_are size [] = omega arith
  steps_are size (s ∷ list) =
      let pixels : size * sum_by (item_count scene) (s ∷ list) ≡ size * (item_count scene s + sum_by (item_count scene) list) = ap (λ (n : ℕ). size * n) (sum_by-cons (item_count scene) s list) in
      let one : steps_of scene size s ≡ item_count scene s * size + 6 * letters_of s = one_is s.is_bars size s.handle in
      omega (
        arith,
        steps_are size list,
        pixels,
        one,
        more size (item_count scene s) (sum_by (item_count scene) list),
        sum_by-cons (steps_of scene size) s list,
        sum_by-cons letters_of s list,
      )

  -- what is painted from the cover on, where each object was visited three times at most
  pub uncovered_steps : (part : Rect) (from mid visits to : ℕ) → IsShowable scene → mid ≤ from + object_count scene → visits ≤ 2 * object_count scene →
      to ≤ mid + (visits + sum_by (steps_of scene (size_of part)) (uncovered scene part)) → to ≤ from + slice_steps scene part
  uncovered_steps part from mid visits to showable search few paint =
      let letters : sum_by letters_of (uncovered scene part) ≤ letter_count scene =
      omega (arith, sum_from letters_of (is_cover scene part) (painted scene), painted_few scene (letters_at scene) showable) in
      omega (arith, search, few, paint, letters, steps_are (size_of part) (uncovered scene part))

  -- those of any area of as many pixels
  pub steps_most : (part : Rect) (from to : ℕ) → to ≤ from + slice_steps scene part → to ≤ from + most_steps scene (size_of part)
  steps_most part from to few =
      let fewer : late scene part ≤ items_shown scene = sum_from (item_count scene) (is_cover scene part) (painted scene) in
      let pixels = mul-le-mul_left (size_of part) fewer in
      omega (arith, few, pixels)
