-- Forests of rows and the forests of their handles.
use Rattle.std.proofs.Common.{◌≡◌, ℕ, zero, suc, Bool, List, ◌∷◌, map, Option, None, Some, option_map, refl, inl, inr, ◌∙◌, ap, true, false, ◌||◌, cond, eqb, eq-eqb}
use Rattle.std.proofs.lemmas.Bool.{cases_Bool}
use Rattle.std.proofs.lemmas.List.{map-append}
use Rattle.gui_base.specs.Forest.{Forest, Empty, Tree, map_forest, preorder, size, height, first_root, last_root_or, and_then, put_at, has_by, cut_by, tree_by, children_by, from_by, after_by, depth_by, parent_by, path_by, next_by, previous_by, with_children_by, with_row_by, leaf, has, added_by, moved_by, moved_last_by}

module _ {A B : Type 0} (f : A → B) where
  pub map-preorder : (t : Forest A) → preorder (map_forest f t) ≡ map f (preorder t)
  map-preorder Empty = refl
  map-preorder (Tree row cs rest) = rw (map-preorder cs, map-preorder rest, map-append f (preorder cs) (preorder rest)) refl

  pub map-size : (t : Forest A) → size (map_forest f t) ≡ size t
  map-size Empty = refl
  map-size (Tree row cs rest) = rw (map-size cs, map-size rest) refl

  pub map-height : (t : Forest A) → height (map_forest f t) ≡ height t
  map-height Empty = refl
  map-height (Tree row cs rest) = rw (map-height cs, map-height rest) refl

  pub map-first_root : (t : Forest A) → first_root (map_forest f t) ≡ option_map f (first_root t)
  map-first_root Empty = refl
  map-first_root (Tree row cs rest) = refl

  pub map-last_root_or : (d : Option A) (t : Forest A) → last_root_or (option_map f d) (map_forest f t) ≡ option_map f (last_root_or d t)
  map-last_root_or d Empty = refl
  map-last_root_or d (Tree row cs rest) = map-last_root_or (Some row) rest

  pub map-and_then : (s t : Forest A) → map_forest f (and_then s t) ≡ and_then (map_forest f s) (map_forest f t)
  map-and_then Empty t = refl
  map-and_then (Tree row cs rest) t = rw (map-and_then rest t) refl

  pub map-put_at : (n : ℕ) (s t : Forest A) → map_forest f (put_at n s t) ≡ put_at n (map_forest f s) (map_forest f t)
  map-put_at zero s t = map-and_then s t
  map-put_at (suc n) s Empty = refl
  map-put_at (suc n) s (Tree row cs rest) = rw (map-put_at n s rest) refl

  module _ (test : B → Bool) where
    pub map-has_by : (t : Forest A) → has_by test (map_forest f t) ≡ has_by (λ a. test (f a)) t
    map-has_by Empty = refl
    map-has_by (Tree row cs rest) = rw (map-has_by cs, map-has_by rest) refl

    pub map-cut_by : (t : Forest A) → map_forest f (cut_by (λ a. test (f a)) t) ≡ cut_by test (map_forest f t)
    map-cut_by Empty = refl
    map-cut_by (Tree row cs rest) =
        elim (cases_Bool (test (f row))) [
          | inl is ↦ rw is (map-cut_by rest)
          | inr isnt ↦ rw (isnt, map-cut_by cs, map-cut_by rest) refl
        ]

    pub map-tree_by : (t : Forest A) → map_forest f (tree_by (λ a. test (f a)) t) ≡ tree_by test (map_forest f t)
    map-tree_by Empty = refl
    map-tree_by (Tree row cs rest) =
        elim (cases_Bool (test (f row))) [
          | inl is ↦ rw is refl
          | inr isnt ↦ rw (isnt, map-has_by cs) (elim (cases_Bool (has_by (λ a. test (f a)) cs)) [
            | inl there ↦ rw there (map-tree_by cs)
            | inr gone ↦ rw gone (map-tree_by rest)
          ])
        ]

    pub map-children_by : (t : Forest A) → map_forest f (children_by (λ a. test (f a)) t) ≡ children_by test (map_forest f t)
    map-children_by Empty = refl
    map-children_by (Tree row cs rest) =
        elim (cases_Bool (test (f row))) [
          | inl is ↦ rw is refl
          | inr isnt ↦ rw (isnt, map-has_by cs) (elim (cases_Bool (has_by (λ a. test (f a)) cs)) [
            | inl there ↦ rw there (map-children_by cs)
            | inr gone ↦ rw gone (map-children_by rest)
          ])
        ]

    pub map-from_by : (t : Forest A) → map_forest f (from_by (λ a. test (f a)) t) ≡ from_by test (map_forest f t)
    map-from_by Empty = refl
    map-from_by (Tree row cs rest) =
        elim (cases_Bool (test (f row))) [
          | inl is ↦ rw is refl
          | inr isnt ↦ rw (isnt, map-has_by cs) (elim (cases_Bool (has_by (λ a. test (f a)) cs)) [
            | inl there ↦ rw there (map-from_by cs)
            | inr gone ↦ rw gone (map-from_by rest)
          ])
        ]

    pub map-after_by : (t : Forest A) → map_forest f (after_by (λ a. test (f a)) t) ≡ after_by test (map_forest f t)
    map-after_by Empty = refl
    map-after_by (Tree row cs rest) =
        elim (cases_Bool (test (f row))) [
          | inl is ↦ rw is refl
          | inr isnt ↦ rw (isnt, map-has_by cs) (elim (cases_Bool (has_by (λ a. test (f a)) cs)) [
            | inl there ↦ rw there (map-after_by cs)
            | inr gone ↦ rw gone (map-after_by rest)
          ])
        ]

    pub map-depth_by : (t : Forest A) → depth_by test (map_forest f t) ≡ depth_by (λ a. test (f a)) t
    map-depth_by Empty = refl
    map-depth_by (Tree row cs rest) = rw (map-has_by cs, map-depth_by cs, map-depth_by rest) refl

    pub map-parent_by : (above : Option A) (t : Forest A) → option_map f (parent_by (λ a. test (f a)) above t) ≡ parent_by test (option_map f above) (map_forest f t)
    map-parent_by above Empty = refl
    map-parent_by above (Tree row cs rest) =
        elim (cases_Bool (test (f row))) [
          | inl is ↦ rw is refl
          | inr isnt ↦ rw (isnt, map-has_by cs) (elim (cases_Bool (has_by (λ a. test (f a)) cs)) [
            | inl there ↦ rw there (map-parent_by (Some row) cs)
            | inr gone ↦ rw gone (map-parent_by above rest)
          ])
        ]

    pub map-path_by : (above : List A) (t : Forest A) → map f (path_by (λ a. test (f a)) above t) ≡ path_by test (map f above) (map_forest f t)
    map-path_by above Empty = refl
    map-path_by above (Tree row cs rest) =
        elim (cases_Bool (test (f row))) [
          | inl is ↦ rw is refl
          | inr isnt ↦ rw (isnt, map-has_by cs) (elim (cases_Bool (has_by (λ a. test (f a)) cs)) [
            | inl there ↦ rw there (map-path_by (row ∷ above) cs)
            | inr gone ↦ rw gone (map-path_by above rest)
          ])
        ]

    pub map-next_by : (t : Forest A) → option_map f (next_by (λ a. test (f a)) t) ≡ next_by test (map_forest f t)
    map-next_by Empty = refl
    map-next_by (Tree row cs rest) =
        elim (cases_Bool (test (f row))) [
          | inl is ↦ rw (is, map-first_root rest) refl
          | inr isnt ↦ rw (isnt, map-has_by cs) (elim (cases_Bool (has_by (λ a. test (f a)) cs)) [
            | inl there ↦ rw there (map-next_by cs)
            | inr gone ↦ rw gone (map-next_by rest)
          ])
        ]

    pub map-previous_by : (before : Option A) (t : Forest A) → option_map f (previous_by (λ a. test (f a)) before t) ≡ previous_by test (option_map f before) (map_forest f t)
    map-previous_by before Empty = refl
    map-previous_by before (Tree row cs rest) =
        elim (cases_Bool (test (f row))) [
          | inl is ↦ rw is refl
          | inr isnt ↦ rw (isnt, map-has_by cs) (elim (cases_Bool (has_by (λ a. test (f a)) cs)) [
            | inl there ↦ rw there (map-previous_by None cs)
            | inr gone ↦ rw gone (map-previous_by (Some row) rest)
          ])
        ]

    pub map-with_children_by : (g : Forest A → Forest A) (h : Forest B → Forest B) → ((cs : Forest A) → map_forest f (g cs) ≡ h (map_forest f cs)) → (t : Forest A) → map_forest f (with_children_by (λ a. test (f a)) g t) ≡ with_children_by test h (map_forest f t)
    map-with_children_by g h same Empty = refl
    map-with_children_by g h same (Tree row cs rest) =
        elim (cases_Bool (test (f row))) [
          | inl is ↦ rw (is, same cs) refl
          | inr isnt ↦ rw (isnt, map-with_children_by g h same cs, map-with_children_by g h same rest) refl
        ]

    -- rows that keep their handles
    pub map-with_row_by : (keep : A → Bool) (set : A → A) → ((a : A) → f (set a) ≡ f a) → (t : Forest A) → map_forest f (with_row_by keep set t) ≡ map_forest f t
    map-with_row_by keep set same Empty = refl
    map-with_row_by keep set same (Tree row cs rest) =
        elim (cases_Bool (keep row)) [
          | inl is ↦ rw (is, same row, map-with_row_by keep set same cs, map-with_row_by keep set same rest) refl
          | inr isnt ↦ rw (isnt, map-with_row_by keep set same cs, map-with_row_by keep set same rest) refl
        ]

  -- the changes of trees
  module _ (test above : B → Bool) where
    pub map-added_by : (row : A) (t : Forest A) → map_forest f (added_by (λ a. above (f a)) row t) ≡ added_by above (f row) (map_forest f t)
    map-added_by row t = map-with_children_by above (λ cs. and_then cs (leaf row)) (λ cs. and_then cs (leaf (f row))) (λ cs. map-and_then cs (leaf row)) t

    pub map-moved_by : (n : ℕ) (t : Forest A) → map_forest f (moved_by (λ a. test (f a)) (λ a. above (f a)) n t) ≡ moved_by test above n (map_forest f t)
    map-moved_by n t =
        map-with_children_by above (put_at n (tree_by (λ a. test (f a)) t)) (put_at n (tree_by test (map_forest f t)))
        (λ cs. map-put_at n (tree_by (λ a. test (f a)) t) cs ∙ ap (λ s. put_at n s (map_forest f cs)) (map-tree_by test t)) (cut_by (λ a. test (f a)) t)
        ∙ ap (with_children_by above (put_at n (tree_by test (map_forest f t)))) (map-cut_by test t)

    pub map-moved_last_by : (t : Forest A) → map_forest f (moved_last_by (λ a. test (f a)) (λ a. above (f a)) t) ≡ moved_last_by test above (map_forest f t)
    map-moved_last_by t =
        map-with_children_by above (λ cs. and_then cs (tree_by (λ a. test (f a)) t)) (λ cs. and_then cs (tree_by test (map_forest f t)))
        (λ cs. map-and_then cs (tree_by (λ a. test (f a)) t) ∙ ap (and_then (map_forest f cs)) (map-tree_by test t)) (cut_by (λ a. test (f a)) t)
        ∙ ap (with_children_by above (λ cs. and_then cs (tree_by test (map_forest f t)))) (map-cut_by test t)

-- rows that are the same at each handle of a forest
module _ {B : Type 0} (f g : ℕ → B) where
  pub map-agree : (t : Forest ℕ) → ((h : ℕ) → has t h ≡ true → f h ≡ g h) → map_forest f t ≡ map_forest g t
  map-agree Empty same = refl
  map-agree (Tree k cs rest) same =
      let here : has (Tree k cs rest) k ≡ true = rw (eq-eqb k k refl) refl in
      rw (
        same k here,
        map-agree cs (λ h i. same h (rw i (either_true (eqb k h) (has rest h)))),
        map-agree rest (λ h i. same h (rw i (last_true (eqb k h) (has cs h)))),
      )
      refl
    where
      either_true : (a b : Bool) → (a || (true || b)) ≡ true
      either_true true b = refl
      either_true false b = refl

      last_true : (a b : Bool) → (a || (b || true)) ≡ true
      last_true true b = refl
      last_true false true = refl
      last_true false false = refl

-- a change of the rows at one handle
pub map-set : {B : Type 0} (f : ℕ → B) (set : B → B) (h : ℕ) (test : B → Bool) → ((k : ℕ) → test (f k) ≡ eqb k h) → (t : Forest ℕ) → with_row_by test set (map_forest f t) ≡ map_forest (λ k. cond (eqb k h) (set (f k)) (f k)) t
map-set f set h test same Empty = refl
map-set f set h test same (Tree k cs rest) = rw (same k, map-set f set h test same cs, map-set f set h test same rest) refl
