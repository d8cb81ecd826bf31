-- Forests: rose trees in a list, with a row of any type at each node.
use Rattle.std.specs.Prelude.{◌≡◌, ◌≤◌, ℕ, zero, suc, ◌+◌, max, Bool, true, false, cond, eqb, ◌&&◌, ◌||◌}
use Rattle.std.specs.Prelude.{List, [], ◌∷◌, ◌++◌, Option, None, Some, refl}
use Rattle.std.specs.Coded.{Coded, code_by, coded_list, coded_option}
use Rattle.std.proofs.Common.{ap, sym, ◌∙◌, append_assoc}
use Rattle.std.proofs.lemmas.List.{append-nil}

-- the first tree's row, its children, and the trees after it
pub data Forest (A : Type 0) : Type 0 where
  Empty : Forest A
  Tree : (row : A) (children rest : Forest A) → Forest A

-- the same trees with other rows
abbrev pub map_forest : {A B : Type 0} → (A → B) → Forest A → Forest B
map_forest f Empty = Empty
map_forest f (Tree row cs rest) = Tree (f row) (map_forest f cs) (map_forest f rest)

-- each row before those of its children
abbrev pub preorder : {A : Type 0} → Forest A → List A
preorder Empty = []
preorder (Tree row cs rest) = row ∷ (preorder cs ++ preorder rest)

-- the rows of the trees' roots
abbrev pub roots : {A : Type 0} → Forest A → List A
roots Empty = []
roots (Tree row cs rest) = row ∷ roots rest

-- how many nodes there are
abbrev pub size : {A : Type 0} → Forest A → ℕ
size Empty = 0
size (Tree row cs rest) = size cs + size rest + 1

-- the depth of the deepest node, a root having depth 1
abbrev pub height : {A : Type 0} → Forest A → ℕ
height Empty = 0
height (Tree row cs rest) = max (height cs + 1) (height rest)

abbrev pub first_root : {A : Type 0} → Forest A → Option A
first_root Empty = None
first_root (Tree row cs rest) = Some row

-- the row of the last root, or d
abbrev pub last_root_or : {A : Type 0} → Option A → Forest A → Option A
last_root_or d Empty = d
last_root_or d (Tree row cs rest) = last_root_or (Some row) rest

abbrev pub last_root : {A : Type 0} → Forest A → Option A
last_root f = last_root_or None f

-- the trees of both
abbrev pub and_then : {A : Type 0} → Forest A → Forest A → Forest A
and_then Empty g = g
and_then (Tree row cs rest) g = Tree row cs (and_then rest g)

-- the trees of t after so many of f, or after all of them
abbrev pub put_at : {A : Type 0} → ℕ → Forest A → Forest A → Forest A
put_at zero t f = and_then t f
put_at (suc n) t Empty = t
put_at (suc n) t (Tree row cs rest) = Tree row cs (put_at n t rest)

-- a single node without children
abbrev pub leaf : {A : Type 0} → A → Forest A
leaf row = Tree row Empty Empty

-- whether a row passes the test
abbrev pub has_by : {A : Type 0} → (A → Bool) → Forest A → Bool
has_by test Empty = false
has_by test (Tree row cs rest) = test row || (has_by test cs || has_by test rest)

-- whether each row passes the test
abbrev pub all_by : {A : Type 0} → (A → Bool) → Forest A → Bool
all_by test Empty = true
all_by test (Tree row cs rest) = test row && (all_by test cs && all_by test rest)

-- without the trees whose root passes the test
abbrev pub cut_by : {A : Type 0} → (A → Bool) → Forest A → Forest A
cut_by test Empty = Empty
cut_by test (Tree row cs rest) =
    cond (test row) (cut_by test rest) (Tree row (cut_by test cs) (cut_by test rest))

-- the first tree whose root passes the test, alone
abbrev pub tree_by : {A : Type 0} → (A → Bool) → Forest A → Forest A
tree_by test Empty = Empty
tree_by test (Tree row cs rest) =
    cond (test row) (Tree row cs Empty) (cond (has_by test cs) (tree_by test cs) (tree_by test rest))

-- the children of the first that passes the test
abbrev pub children_by : {A : Type 0} → (A → Bool) → Forest A → Forest A
children_by test Empty = Empty
children_by test (Tree row cs rest) =
    cond (test row) cs (cond (has_by test cs) (children_by test cs) (children_by test rest))

-- the tree of the first that passes the test, with the trees that stand beside it after it
abbrev pub from_by : {A : Type 0} → (A → Bool) → Forest A → Forest A
from_by test Empty = Empty
from_by test (Tree row cs rest) =
    cond (test row) (Tree row cs rest) (cond (has_by test cs) (from_by test cs) (from_by test rest))

-- those trees alone
abbrev pub after_by : {A : Type 0} → (A → Bool) → Forest A → Forest A
after_by test Empty = Empty
after_by test (Tree row cs rest) =
    cond (test row) rest (cond (has_by test cs) (after_by test cs) (after_by test rest))

-- how many rows lead down to the first that passes the test, itself included; 0 where none does
abbrev pub depth_by : {A : Type 0} → (A → Bool) → Forest A → ℕ
depth_by test Empty = 0
depth_by test (Tree row cs rest) =
    cond (test row) 1 (cond (has_by test cs) (depth_by test cs + 1) (depth_by test rest))

-- the row above the first that passes the test, which is `above` for a root
abbrev pub parent_by : {A : Type 0} → (A → Bool) → Option A → Forest A → Option A
parent_by test above Empty = None
parent_by test above (Tree row cs rest) =
    cond (test row) above (cond (has_by test cs) (parent_by test (Some row) cs) (parent_by test above rest))

-- the first row that passes the test, and those above it, the nearest first; `above` are those above the
-- trees
abbrev pub path_by : {A : Type 0} → (A → Bool) → List A → Forest A → List A
path_by test above Empty = []
path_by test above (Tree row cs rest) =
    cond (test row) (row ∷ above)
    (cond (has_by test cs) (path_by test (row ∷ above) cs) (path_by test above rest))

-- the row that stands beside the first that passes the test, after it
abbrev pub next_by : {A : Type 0} → (A → Bool) → Forest A → Option A
next_by test Empty = None
next_by test (Tree row cs rest) =
    cond (test row) (first_root rest) (cond (has_by test cs) (next_by test cs) (next_by test rest))

-- the row that stands beside it, before it, which is `before` for the first root
abbrev pub previous_by : {A : Type 0} → (A → Bool) → Option A → Forest A → Option A
previous_by test before Empty = None
previous_by test before (Tree row cs rest) =
    cond (test row) before
    (cond (has_by test cs) (previous_by test None cs) (previous_by test (Some row) rest))

-- g of the children of the first rows that pass the test
abbrev pub with_children_by : {A : Type 0} → (A → Bool) → (Forest A → Forest A) → Forest A → Forest A
with_children_by test g Empty = Empty
with_children_by test g (Tree row cs rest) =
    cond (test row) (Tree row (g cs) rest)
    (Tree row (with_children_by test g cs) (with_children_by test g rest))

-- with a leaf more, the last child of the first that passes the test
abbrev pub added_by : {A : Type 0} → (A → Bool) → A → Forest A → Forest A
added_by above row f = with_children_by above (λ cs. and_then cs (leaf row)) f

-- the first tree whose root passes the test goes below the first that passes the other, at an index among its
-- children
abbrev pub moved_by : {A : Type 0} → (A → Bool) → (A → Bool) → ℕ → Forest A → Forest A
moved_by test above n f = with_children_by above (put_at n (tree_by test f)) (cut_by test f)

-- the same, as the last child
abbrev pub moved_last_by : {A : Type 0} → (A → Bool) → (A → Bool) → Forest A → Forest A
moved_last_by test above f = with_children_by above (λ cs. and_then cs (tree_by test f)) (cut_by test f)

-- f of each row that passes the test
abbrev pub with_row_by : {A : Type 0} → (A → Bool) → (A → A) → Forest A → Forest A
with_row_by test f Empty = Empty
with_row_by test f (Tree row cs rest) =
    Tree (cond (test row) (f row) row) (with_row_by test f cs) (with_row_by test f rest)

-- Forests of handles.
abbrev pub has : Forest ℕ → ℕ → Bool
has f h = has_by (λ k. eqb k h) f

-- without the tree at h
abbrev pub cut : Forest ℕ → ℕ → Forest ℕ
cut f h = cut_by (λ k. eqb k h) f

-- the tree at h alone
abbrev pub tree_at : Forest ℕ → ℕ → Forest ℕ
tree_at f h = tree_by (λ k. eqb k h) f

-- the children of h
abbrev pub children_of : Forest ℕ → ℕ → Forest ℕ
children_of f h = children_by (λ k. eqb k h) f

-- the tree at h, and the trees that stand beside it after it
abbrev pub list_from : Forest ℕ → ℕ → Forest ℕ
list_from f h = from_by (λ k. eqb k h) f

-- those trees alone
abbrev pub list_after : Forest ℕ → ℕ → Forest ℕ
list_after f h = after_by (λ k. eqb k h) f

-- a root has depth 1, and what is not there has depth 0
abbrev pub depth_of : Forest ℕ → ℕ → ℕ
depth_of f h = depth_by (λ k. eqb k h) f

-- the parent of h; a root has none
abbrev pub parent_of : Forest ℕ → ℕ → Option ℕ
parent_of f h = parent_by (λ k. eqb k h) None f

-- h and those above it, the nearest first
abbrev pub path_of : Forest ℕ → ℕ → List ℕ
path_of f h = path_by (λ k. eqb k h) [] f

abbrev pub next_to : Forest ℕ → ℕ → Option ℕ
next_to f h = next_by (λ k. eqb k h) f

abbrev pub previous_to : Forest ℕ → ℕ → Option ℕ
previous_to f h = previous_by (λ k. eqb k h) None f

-- g of the children of p
abbrev pub with_children : Forest ℕ → ℕ → (Forest ℕ → Forest ℕ) → Forest ℕ
with_children f p g = with_children_by (λ k. eqb k p) g f

-- h becomes the last child of p
abbrev pub added : Forest ℕ → ℕ → ℕ → Forest ℕ
added f p h = added_by (λ k. eqb k p) h f

-- the tree at h becomes the child of p before which so many others stand, or the last
abbrev pub moved : Forest ℕ → ℕ → ℕ → ℕ → Forest ℕ
moved f h p n = moved_by (λ k. eqb k h) (λ k. eqb k p) n f

-- the tree at h becomes the last child of p
abbrev pub moved_last : Forest ℕ → ℕ → ℕ → Forest ℕ
moved_last f h p = moved_last_by (λ k. eqb k h) (λ k. eqb k p) f

-- how often a handle stands in a forest
abbrev pub count : Forest ℕ → ℕ → ℕ
count Empty h = 0
count (Tree k cs rest) h = cond (eqb k h) 1 0 + (count cs h + count rest h)

-- each handle stands once at most
abbrev pub StandsOnce : Forest ℕ → Type 0
StandsOnce f = (h : ℕ) → count f h ≤ 1

-- A code, by which a type may be seen as a forest: each row as it opens, and none where a list ends.
abbrev tokens : {A : Type 0} → Forest A → List (Option A)
tokens Empty = None ∷ []
tokens (Tree row cs rest) = Some row ∷ (tokens cs ++ tokens rest)

abbrev opened : {A : Type 0} → A → List (Forest A) → List (Forest A)
opened row (cs ∷ rest ∷ stack) = Tree row cs rest ∷ stack
opened row stack = stack

abbrev read : {A : Type 0} → List (Option A) → List (Forest A)
read [] = []
read (None ∷ ts) = Empty ∷ read ts
read (Some row ∷ ts) = opened row (read ts)

abbrev first : {A : Type 0} → List (Forest A) → Forest A
first [] = Empty
first (f ∷ fs) = f

read-tokens : {A : Type 0} (f : Forest A) (ts : List (Option A)) → read (tokens f ++ ts) ≡ f ∷ read ts
read-tokens Empty ts = refl
read-tokens {A} (Tree row cs rest) ts =
    ap (λ (us : List (Option A)). opened row (read us)) (append_assoc (tokens cs) (tokens rest) ts)
    ∙ ap (opened row)
    (read-tokens cs (tokens rest ++ ts) ∙ ap (λ (fs : List (Forest A)). cs ∷ fs) (read-tokens rest ts))

pub read_back : {A : Type 0} (f : Forest A) → first (read (tokens f)) ≡ f
read_back {A} f =
    ap (λ (ts : List (Option A)). first (read ts)) (sym (append-nil (tokens f))) ∙ ap first (read-tokens f [])

abbrev pub forest_code : {A : Type 0} → Coded A → Coded (Forest A)
forest_code {A} code =
    code_by (List (Option A)) (coded_list (coded_option code)) tokens (λ ts. first (read ts)) read_back
