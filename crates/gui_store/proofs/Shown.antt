-- What a forest of handles shows with the rows of a table.
use Rattle.gui_store.proofs.Common.{ap, ◌≡◌, ◌<◌, ◌∙◌, sym, ℕ, Bool, true, false, cond, if◌then◌else◌, List, length, Some, None, refl, arith, eqb, nat_tests, get_or-set_same, get_or-set_other, Forest, Empty, Tree, all_by, count, map_forest, has, with_row_by, map-has_by, map-agree, map-set, Handle, Table, value_inserted, value_replaced, numbers, Object, is_at, handles_of, object_by, total, one_at, count-total, KeptRow, object_of, object_in, rows_without}
use Rattle.gui_store.proofs.Rows.{times, without-other}

abbrev pub shown : Table KeptRow → Forest ℕ → Forest Object
shown rows f = map_forest (object_in rows) f

module _ (rows : Table KeptRow) where
  pub shown-handles : (f : Forest ℕ) → handles_of (shown rows f) ≡ f
  shown-handles Empty = refl
  shown-handles (Tree h cs rest) = rw (shown-handles cs, shown-handles rest) refl

  pub shown-count : (f : Forest ℕ) (j : ℕ) → count f j ≡ total (one_at j) (shown rows f)
  shown-count f j = ap (λ (g : Forest ℕ). count g j) (sym (shown-handles f)) ∙ count-total (shown rows f) j

  pub shown-object : (f : Forest ℕ) (h : ℕ) → object_by (is_at h) (shown rows f) ≡ (if has f h then Some (object_in rows h) else None)
  shown-object Empty h = refl
  shown-object (Tree k cs rest) h = grind (arith, nat_tests, map-has_by (object_in rows) (is_at h) cs, shown-object cs h, shown-object rest h)

  -- a test that each row passes
  pub shown-all : (P : Object → Bool) (f : Forest ℕ) (h : ℕ) → all_by P (shown rows f) ≡ true → has f h ≡ true → P (object_in rows h) ≡ true
  shown-all P Empty h a i = cc
  shown-all P (Tree k cs rest) h a i = grind (arith, nat_tests, a, i, shown-all P cs h, shown-all P rest h)

  -- a row that is written where no handle of the forest reads it
  pub shown-aside : (f : Forest ℕ) (h : ℕ) (row : KeptRow) → has f h ≡ false → shown (value_inserted rows h row) f ≡ shown rows f
  shown-aside f h row off = map-agree _ _ f (λ k on. grind (arith, off, on, get_or-set_other rows.values h k (Some row) None))

  -- rows that are taken out of handles that are not in the forest
  pub shown-without : (f : Forest ℕ) (hs : List Handle) → ((k : ℕ) → has f k ≡ true → times (numbers hs) k ≡ 0) → shown (rows_without rows hs) f ≡ shown rows f
  shown-without f hs none = map-agree _ _ f (λ k on. grind (arith, without-other rows hs k (none k on)))

  -- another row at h
  pub shown-set : (f : Forest ℕ) (h : ℕ) (row : KeptRow) (set : Object → Object) → h < length rows.values → object_of h row ≡ set (object_in rows h) → shown (value_replaced rows h row) f ≡ with_row_by (is_at h) set (shown rows f)
  shown-set f h row set within e =
      map-agree _ (λ k. cond (eqb k h) (set (object_in rows k)) (object_in rows k)) f (λ k on. grind (arith, nat_tests, e, get_or-set_same rows.values h (Some row) None within, get_or-set_other rows.values h k (Some row) None))
      ∙ sym (map-set (object_in rows) set h (is_at h) (λ k. refl) f)
