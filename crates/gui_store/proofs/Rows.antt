-- The rows of a table after one is written, and after some are taken out.
use Rattle.std.proofs.lemmas.Bool.{cases_Bool}
use Rattle.std.specs.Prelude.{unwrap_or}
use Rattle.gui_base.specs.declared.words.Kind.TheVariants.{Obj}
use Rattle.gui_pool.specs.Texts.{need_of}
use Rattle.gui_store.specs.RowSets.{without_row}
use Rattle.scene_defs.specs.Scene.{chunks_in}
use Rattle.gui_store.proofs.Common.{ap, inl, inr, ◌≡◌, ◌<◌, ◌≤◌, ◌∙◌, ℕ, ◌+◌, true, cond, eqb, List, [], ◌∷◌, ◌++◌, length, slice_set, slice_index_or, Option, Some, None, is_some, IsSome, refl, arith, length-set, nat_tests, get_or-set_same, get_or-set_other, get_or_past, length-append, Handle, Forest, Empty, Tree, has, count, size, preorder, count-has, count-off, Table, value_at, value_inserted, value_replaced, value_removed, numbers, map_forest, chunks, object_in, new_kept, KeptRow, RowSet, set_without, chunks_of, HaveRows, rows_without}

-- 1 for a handle that has a row, and 0 for any other
abbrev pub row_count : Table KeptRow → ℕ → ℕ
row_count rows h = cond (is_some (value_at rows h)) 1 0

pub within_of : (rows : Table KeptRow) (h : ℕ) → IsSome (value_at rows h) → h < length rows.values
within_of rows h some = grind (arith, nat_tests, get_or_past rows.values h None, some)

-- what is written at h, and what stands elsewhere
pub value-set : (vs : List (Option KeptRow)) (h k : ℕ) (o : Option KeptRow) → h < length vs → slice_index_or (slice_set vs h o) k None ≡ cond (eqb h k) o (slice_index_or vs k None)
value-set vs h k o within = grind (arith, nat_tests, get_or-set_same vs h o None within, get_or-set_other vs h k o None)

module _ (rows : Table KeptRow) (h k : ℕ) where
  pub inserted-count : (row : KeptRow) → h < length rows.values → value_at rows h ≡ None → row_count (value_inserted rows h row) k ≡ cond (eqb h k) 1 0 + row_count rows k
  inserted-count row within vacant = grind (arith, nat_tests, value-set rows.values h k (Some row) within, vacant)

  pub replaced-count : (row : KeptRow) → IsSome (value_at rows h) → row_count (value_replaced rows h row) k ≡ row_count rows k
  replaced-count row some = grind (arith, nat_tests, value-set rows.values h k (Some row) (within_of rows h some), some)

  pub removed-count : IsSome (value_at rows h) → row_count (value_removed rows h) k + cond (eqb h k) 1 0 ≡ row_count rows k
  removed-count some = grind (arith, nat_tests, value-set rows.values h k None (within_of rows h some), some)

-- A handle has a row where it stands in a forest.
pub told-count : (f : Forest ℕ) (h : ℕ) (o : Option KeptRow) → count f h ≤ 1 → is_some o ≡ has f h → cond (is_some o) 1 0 ≡ count f h
told-count f h o once e = grind (arith, nat_tests, count-has f h, count-off f h)

pub count-told : (f : Forest ℕ) (h : ℕ) (o : Option KeptRow) → cond (is_some o) 1 0 ≡ count f h → is_some o ≡ has f h
count-told f h o e = grind (arith, nat_tests, count-has f h, count-off f h)

-- how often a handle is listed
abbrev pub times : List ℕ → ℕ → ℕ
times [] k = 0
times (h ∷ hs) k = cond (eqb h k) 1 0 + times hs k

times-append : (xs ys : List ℕ) (k : ℕ) → times (xs ++ ys) k ≡ times xs k + times ys k
times-append [] ys k = omega arith
times-append (x ∷ xs) ys k = let a = times-append xs ys k in omega arith

pub times-preorder : (f : Forest ℕ) (k : ℕ) → times (preorder f) k ≡ count f k
times-preorder Empty k = refl
times-preorder (Tree h cs rest) k = let a = times-append (preorder cs) (preorder rest) k in omega (arith, a, times-preorder cs k, times-preorder rest k)

pub length-preorder : (f : Forest ℕ) → length (preorder f) ≡ size f
length-preorder Empty = refl
length-preorder (Tree h cs rest) = let a = length-append (preorder cs) (preorder rest) in omega (arith, a, length-preorder cs, length-preorder rest)

-- handles that have rows, and are listed once each
pub have-rows : (rows : Table KeptRow) (hs : List Handle) → ((k : ℕ) → times (numbers hs) k ≤ row_count rows k) → HaveRows rows hs
have-rows rows [] each = tt
have-rows rows (h ∷ hs) each =
    let some : is_some (value_at rows h.0) ≡ true = grind (arith, nat_tests, each h.0) in
    (some, have-rows (value_removed rows h.0) hs (λ k. omega (arith, each k, removed-count rows h.0 k some)))

pub without-count : (rows : Table KeptRow) (hs : List Handle) (k : ℕ) → HaveRows rows hs → row_count (rows_without rows hs) k + times (numbers hs) k ≡ row_count rows k
without-count rows [] k have = omega arith
without-count rows (h ∷ hs) k have = let a = without-count (value_removed rows h.0) hs k have.1 in omega (arith, removed-count rows h.0 k have.0)

pub without-other : (rows : Table KeptRow) (hs : List Handle) (k : ℕ) → times (numbers hs) k ≡ 0 → value_at (rows_without rows hs) k ≡ value_at rows k
without-other rows [] k none = refl
without-other rows (h ∷ hs) k none =
    grind (arith, nat_tests, none, without-other (value_removed rows h.0) hs k, get_or-set_other rows.values h.0 k None None)

pub without-spare : (rows : Table KeptRow) (hs : List Handle) → (rows_without rows hs).spare ≡ rows.spare + length (numbers hs)
without-spare rows [] = omega arith
without-spare rows (h ∷ hs) = let a = without-spare (value_removed rows h.0) hs in omega arith

pub without-handles : (rows : Table KeptRow) (hs : List Handle) → length (rows_without rows hs).values ≡ length rows.values
without-handles rows [] = refl
without-handles rows (h ∷ hs) = without-handles (value_removed rows h.0) hs ∙ length-set rows.values h.0 None

-- What a table without some rows still has is what the table has.
abbrev IsBelow : Table KeptRow → Table KeptRow → Type 0
IsBelow some rows = (k : ℕ) → is_some (value_at some k) ≡ true → value_at some k ≡ value_at rows k

removed-below : (some rows : Table KeptRow) (h : ℕ) → IsBelow some rows → IsBelow (value_removed some h) rows
removed-below some rows h below k i = elim (cases_Bool (eqb h k)) [
  | inl same ↦ grind (arith, nat_tests, same, i, get_or-set_same some.values h None None, get_or_past (slice_set some.values h None) h None, length-set some.values h None)
  | inr other ↦ grind (arith, nat_tests, other, i, get_or-set_other some.values h k None None, below k)
]

-- how many chunks the texts of some handles take
abbrev pub listed_chunks : Table KeptRow → List Handle → ℕ
listed_chunks rows [] = 0
listed_chunks rows (h ∷ hs) = chunks_of (value_at rows h.0) + listed_chunks rows hs

sums-below : (some rows : Table KeptRow) (hs : List Handle) → IsBelow some rows → HaveRows some hs → listed_chunks some hs ≡ listed_chunks rows hs
sums-below some rows [] below have = refl
sums-below some rows (h ∷ hs) below have =
    let less = value_removed some h.0 in
    let here = ap chunks_of (below h.0 have.0) in
    let a = sums-below less some hs (removed-below some some h.0 (λ k i. refl)) have.1 in
    let b = sums-below less rows hs (removed-below some rows h.0 below) have.1 in omega (arith, here, a, b)

pub without-set : (set : RowSet) (hs : List Handle) → (set_without set hs).rows ≡ rows_without set.rows hs
without-set set [] = refl
without-set set (h ∷ hs) = without-set (without_row set h.0) hs

pub without-texts : (set : RowSet) (hs : List Handle) → HaveRows set.rows hs → (set_without set hs).spare_texts ≡ set.spare_texts + listed_chunks set.rows hs
without-texts set [] have = omega arith
without-texts set (h ∷ hs) have =
    let a = without-texts (without_row set h.0) hs have.1 in
    let b = sums-below (value_removed set.rows h.0) set.rows hs (removed-below set.rows set.rows h.0 (λ k i. refl)) have.1 in omega (arith, a, b)

-- those that are listed in a forest, each by its object
pub chunks-at : (rows : Table KeptRow) (h : ℕ) → chunks_of (value_at rows h) ≡ chunks (object_in rows h)
chunks-at rows h = by (value_at rows h) where
  by : (o : Option KeptRow) → chunks_of o ≡ need_of (unwrap_or o (new_kept Obj)).text
  by None = refl
  by (Some kept) = refl

abbrev chunks_along : Table KeptRow → List ℕ → ℕ
chunks_along rows [] = 0
chunks_along rows (h ∷ hs) = chunks (object_in rows h) + chunks_along rows hs

along-append : (rows : Table KeptRow) (xs ys : List ℕ) → chunks_along rows (xs ++ ys) ≡ chunks_along rows xs + chunks_along rows ys
along-append rows [] ys = omega arith
along-append rows (x ∷ xs) ys = let a = along-append rows xs ys in omega arith

along-listed : (rows : Table KeptRow) (hs : List Handle) → listed_chunks rows hs ≡ chunks_along rows (numbers hs)
along-listed rows [] = refl
along-listed rows (h ∷ hs) = let a = along-listed rows hs in omega (arith, chunks-at rows h.0)

along-forest : (rows : Table KeptRow) (f : Forest ℕ) → chunks_along rows (preorder f) ≡ chunks_in (map_forest (object_in rows) f)
along-forest rows Empty = refl
along-forest rows (Tree h cs rest) = let a = along-append rows (preorder cs) (preorder rest) in omega (arith, a, along-forest rows cs, along-forest rows rest)

pub listed-forest : (rows : Table KeptRow) (hs : List Handle) (f : Forest ℕ) → numbers hs ≡ preorder f → listed_chunks rows hs ≡ chunks_in (map_forest (object_in rows) f)
listed-forest rows hs f listed = along-listed rows hs ∙ ap (chunks_along rows) listed ∙ along-forest rows f
