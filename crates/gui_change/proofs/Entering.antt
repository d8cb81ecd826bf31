-- What is painted of trees, one after another.
use Rattle.std.proofs.Common.{◌≡◌, ◌∙◌, sym, ap, refl, eq-eqb, ℕ, ◌<◌, true, List, [], ◌∷◌, ◌++◌, length, get_or, append_assoc}
use Rattle.std.specs.List.{All}
use Rattle.std.proofs.lemmas.Bool.{or_left, or_right}
use Rattle.std.proofs.lemmas.Grind.{flat_map-append}
use Rattle.std.proofs.lemmas.List.Elements.{All-append, All-cons, All-get_or, All-nil}
use Rattle.gui_base.specs.Forest.{Forest, Empty, Tree, and_then, has, preorder, tree_at}
use Rattle.gui_base.proofs.Forests.{map-and_then}
use Rattle.scene_defs.specs.Scene.{Scene, handle_of, handles_of}
use Rattle.scene_defs.specs.Shown.{Entry, bars_over, entries, entries_in, own}
use Rattle.scene_defs.specs.Valid.{IsValid}
use Rattle.scene_defs.specs.Visible.{root_tree}
use Rattle.gui_change.specs.Entries.{own_handles, own_of}
use Rattle.gui_change.proofs.Orders.{root_is}

-- an object comes before what lies below it, and its bars after that
pub entries_turn : (old below beside : List Entry) (first last : Entry) → (((old ++ first ∷ []) ++ below) ++ last ∷ []) ++ beside ≡ old ++ (first ∷ (below ++ (last ∷ beside)))
entries_turn old below beside first last =
    append_assoc ((old ++ first ∷ []) ++ below) (last ∷ []) beside
    ∙ (append_assoc (old ++ first ∷ []) below (last ∷ beside) ∙ append_assoc old (first ∷ []) (below ++ (last ∷ beside)))

pub entries-and_then : (f g : Forest ℕ) → entries_in (and_then f g) ≡ entries_in f ++ entries_in g
entries-and_then Empty g = refl
entries-and_then (Tree h cs rest) g =
    ap (λ es. own h ∷ (entries_in cs ++ (bars_over h ∷ es))) (entries-and_then rest g)
    ∙ ap (λ es. own h ∷ es) (sym (append_assoc (entries_in cs) (bars_over h ∷ entries_in rest) (entries_in g)))

-- what is painted is that of three trees
module _ (scene : Scene) (valid : IsValid scene) where
  abbrev forest : Forest ℕ
  forest = handles_of scene.trees

  pub entries_are : entries scene ≡ entries_in (tree_at forest scene.active) ++ (entries_in (tree_at forest 1) ++ entries_in (tree_at forest 2))
  entries_are =
      let f = scene.trees in
      ap entries_in (map-and_then handle_of (root_tree f scene.active) (and_then (root_tree f 1) (root_tree f 2)))
      ∙ (entries-and_then (handles_of (root_tree f scene.active)) (handles_of (and_then (root_tree f 1) (root_tree f 2)))
      ∙ (ap (λ (t : Forest ℕ). entries_in (handles_of (root_tree f scene.active)) ++ entries_in t) (map-and_then handle_of (root_tree f 1) (root_tree f 2))
      ∙ (ap (λ xs. entries_in (handles_of (root_tree f scene.active)) ++ xs) (entries-and_then (handles_of (root_tree f 1)) (handles_of (root_tree f 2)))
      ∙ rw (root_is scene valid scene.active valid.trees.active, root_is scene valid 1 valid.trees.top_layer, root_is scene valid 2 valid.trees.system_layer) refl)))

-- those that are painted by themselves are the objects, each before those below it
pub own_is : (f : Forest ℕ) → own_handles (entries_in f) ≡ preorder f
own_is Empty = refl
own_is (Tree h cs rest) =
    ap (λ (hs : List ℕ). h ∷ hs)
    (flat_map-append own_of (entries_in cs) (bars_over h ∷ entries_in rest)
    ∙ (ap (λ (hs : List ℕ). hs ++ own_handles (entries_in rest)) (own_is cs) ∙ ap (λ (hs : List ℕ). preorder cs ++ hs) (own_is rest)))

-- each entry of a forest is of an object in it
each_entry : (P : ℕ → Type 0) (f : Forest ℕ) → ((h : ℕ) → has f h ≡ true → P h) → All (λ (e : Entry). P e.handle) (entries_in f)
each_entry P Empty all = All-nil (λ (e : Entry). P e.handle)
each_entry P (Tree h cs rest) all =
    let here = all h (or_left _ _ (eq-eqb h h refl)) in
    let below = each_entry P cs (λ k i. all k (or_right _ _ (or_left _ _ i))) in
    let beside = each_entry P rest (λ k i. all k (or_right _ _ (or_right _ _ i))) in
    All-cons (λ (e : Entry). P e.handle) (own h) (entries_in cs ++ (bars_over h ∷ entries_in rest)) here
    (All-append (λ (e : Entry). P e.handle) (entries_in cs) (bars_over h ∷ entries_in rest) below (All-cons (λ (e : Entry). P e.handle) (bars_over h) (entries_in rest) here beside))

pub entry_has : (f : Forest ℕ) (n : ℕ) (other : Entry) → n < length (entries_in f) → has f (get_or (entries_in f) n other).handle ≡ true
entry_has f n other within = All-get_or (λ (e : Entry). has f e.handle ≡ true) (entries_in f) n other within (each_entry (λ k. has f k ≡ true) f (λ k i. i))
