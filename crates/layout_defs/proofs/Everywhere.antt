-- What holds of each element, or of each row of a forest.
use Rattle.std.proofs.Common.{◌≡◌, refl, sym, subst, ℕ, ◌+◌, ◌<◌, ◌≤◌, Bool, true, false, List, [], ◌∷◌, ◌++◌, length, map, reverse, inl, inr, arith}
use Rattle.std.specs.List.{All, flat_map}
use Rattle.std.proofs.lemmas.Bool.{cases_Bool}
use Rattle.std.proofs.lemmas.List.Elements.{All-nil, All-cons, All-head, All-tail, All-same, All-append}
use Rattle.std.proofs.lemmas.Grind.{reverse_onto}
use Rattle.gui_base.specs.Forest.{Forest, Empty, Tree, preorder, roots, map_forest}
use Rattle.layout_defs.specs.Flex.{numbered}
use Rattle.layout_defs.specs.Boxes.{Box}
use Rattle.layout_defs.specs.Solving.{taking_part, in_order, dealt, paired}

module _ {A : Type 0} (P : A → Type 0) where
  pub All-front : (xs ys : List A) → All P (xs ++ ys) → All P xs
  All-front [] ys all = All-nil P
  All-front (x ∷ xs) ys all = All-cons P x xs (All-head P x (xs ++ ys) all) (All-front xs ys (All-tail P x (xs ++ ys) all))

  pub All-back : (xs ys : List A) → All P (xs ++ ys) → All P ys
  All-back [] ys all = all
  All-back (x ∷ xs) ys all = All-back xs ys (All-tail P x (xs ++ ys) all)

  pub All-reverse : (xs : List A) → All P xs → All P (reverse xs)
  All-reverse [] all = all
  All-reverse (x ∷ xs) all =
      All-same P (reverse (x ∷ xs)) (reverse xs ++ x ∷ []) (reverse_onto xs x [])
      (All-append P (reverse xs) (x ∷ []) (All-reverse xs (All-tail P x xs all)) (All-cons P x [] (All-head P x xs all) (All-nil P)))

  pub All-in_order : (back : Bool) (xs : List A) → All P xs → All P (in_order back xs)
  All-in_order true xs all = All-reverse xs all
  All-in_order false xs all = all

  pub All-taking_part : (box : A → Box) (kids : List A) → All P kids → All P (taking_part box kids)
  All-taking_part box [] all = all
  All-taking_part box (kid ∷ kids) all =
      let rest = All-taking_part box kids (All-tail P kid kids all) in
      elim (cases_Bool (box kid).hidden) [
        | inl is ↦ rw is rest
        | inr isnt ↦ rw isnt (All-cons P kid (taking_part box kids) (All-head P kid kids all) rest)
      ]

  -- a forest's rows
  pub all_tree : (row : A) (cs rest : Forest A) → P row → All P (preorder cs) → All P (preorder rest) → All P (preorder (Tree row cs rest))
  all_tree row cs rest top below beside = All-cons P row (preorder cs ++ preorder rest) top (All-append P (preorder cs) (preorder rest) below beside)

  pub all_top : (row : A) (cs rest : Forest A) → All P (preorder (Tree row cs rest)) → P row
  all_top row cs rest all = All-head P row (preorder cs ++ preorder rest) all

  pub all_below : (row : A) (cs rest : Forest A) → All P (preorder (Tree row cs rest)) → All P (preorder cs)
  all_below row cs rest all = All-front (preorder cs) (preorder rest) (All-tail P row (preorder cs ++ preorder rest) all)

  pub all_beside : (row : A) (cs rest : Forest A) → All P (preorder (Tree row cs rest)) → All P (preorder rest)
  all_beside row cs rest all = All-back (preorder cs) (preorder rest) (All-tail P row (preorder cs ++ preorder rest) all)

  pub all_roots : (f : Forest A) → All P (preorder f) → All P (roots f)
  all_roots Empty all = All-nil P
  all_roots (Tree row cs rest) all = All-cons P row (roots rest) (all_top row cs rest all) (all_roots rest (all_beside row cs rest all))

module _ {A B : Type 0} (Q : A → Type 0) (P : B → Type 0) where
  pub All-each : (f : A → B) → ((x : A) → Q x → P (f x)) → (xs : List A) → All Q xs → All P (map f xs)
  All-each f keeps [] all = All-nil P
  All-each f keeps (x ∷ xs) all = All-cons P (f x) (map f xs) (keeps x (All-head Q x xs all)) (All-each f keeps xs (All-tail Q x xs all))

  pub All-flat_map : (f : A → List B) → ((x : A) → Q x → All P (f x)) → (xs : List A) → All Q xs → All P (flat_map f xs)
  All-flat_map f keeps [] all = All-nil P
  All-flat_map f keeps (x ∷ xs) all = All-append P (f x) (flat_map f xs) (keeps x (All-head Q x xs all)) (All-flat_map f keeps xs (All-tail Q x xs all))

  -- each with its number, of which there are m
  pub All-numbered : (f : ℕ → A → B) (m : ℕ) → ((i : ℕ) (x : A) → i < m → Q x → P (f i x)) → (n : ℕ) (xs : List A) → n + length xs ≤ m → All Q xs → All P (numbered f n xs)
  All-numbered f m keeps n [] h all = All-nil P
  All-numbered f m keeps n (x ∷ xs) h all =
      All-cons P (f n x) (numbered f (n + 1) xs) (keeps n x (omega arith) (All-head Q x xs all)) (All-numbered f m keeps (n + 1) xs (omega arith) (All-tail Q x xs all))

  pub All-dealt : (box : A → Box) (own : A → B) → ((x : A) → Q x → P (own x)) → (kids : List A) (ys : List B) → All Q kids → All P ys → All P (dealt box own kids ys)
  All-dealt box own keeps [] ys all given = All-nil P
  All-dealt box own keeps (kid ∷ kids) [] all given =
      All-cons P (own kid) (dealt box own kids []) (keeps kid (All-head Q kid kids all)) (All-dealt box own keeps kids [] (All-tail Q kid kids all) given)
  All-dealt box own keeps (kid ∷ kids) (y ∷ ys) all given = elim (cases_Bool (box kid).hidden) [
    | inl is ↦ rw is (All-cons P (own kid) (dealt box own kids (y ∷ ys)) (keeps kid (All-head Q kid kids all)) (All-dealt box own keeps kids (y ∷ ys) (All-tail Q kid kids all) given))
    | inr isnt ↦ rw isnt (All-cons P y (dealt box own kids ys) (All-head P y ys given) (All-dealt box own keeps kids ys (All-tail Q kid kids all) (All-tail P y ys given)))
  ]

pub All-paired : {A B C : Type 0} (Q : A → Type 0) (R : B → Type 0) (P : C → Type 0) (f : A → B → C) → ((x : A) (y : B) → Q x → R y → P (f x y)) → (xs : List A) (ys : List B) → All Q xs → All R ys → All P (paired f xs ys)
All-paired Q R P f keeps [] ys q r = All-nil P
All-paired Q R P f keeps (x ∷ xs) [] q r = All-nil P
All-paired Q R P f keeps (x ∷ xs) (y ∷ ys) q r =
    All-cons P (f x y) (paired f xs ys) (keeps x y (All-head Q x xs q) (All-head R y ys r)) (All-paired Q R P f keeps xs ys (All-tail Q x xs q) (All-tail R y ys r))

-- what holds of what the rows are seen as
pub all_seen : {A B : Type 0} (P : B → Type 0) (g : A → B) (f : Forest A) (h : Forest B) → map_forest g f ≡ h → All P (preorder h) → All (λ a. P (g a)) (preorder f)
all_seen P g Empty h is all = All-nil (λ a. P (g a))
all_seen P g (Tree row cs rest) h is all =
    let here : All P (preorder (map_forest g (Tree row cs rest))) = subst (λ t. All P (preorder t)) (sym is) all in
    all_tree (λ a. P (g a)) row cs rest (all_top P (g row) (map_forest g cs) (map_forest g rest) here)
    (all_seen P g cs (map_forest g cs) refl (all_below P (g row) (map_forest g cs) (map_forest g rest) here))
    (all_seen P g rest (map_forest g rest) refl (all_beside P (g row) (map_forest g cs) (map_forest g rest) here))
