-- A run of pixels that is lent out of a longer list.
use Rattle.std.proofs.Common.{◌≡◌, ℕ, ◌+◌, ◌-◌, ◌<◌, ◌≤◌, List, [], ◌∷◌, ◌++◌, length, take, drop, get_or, set, replicate, rules, arith, sym, ap, ◌∙◌}
use Rattle.std.proofs.lemmas.List.{places, same_lists, take-take, take-append-le, length-take-le, length-append, length-take, length-drop, drop_more, set_at, length-replicate, append_assoc, replicate_more, take_all}
use Rattle.std.proofs.lemmas.Slice.{between_is}
use Rattle.gui_base.specs.declared.color.Rgb565.{Rgb565}
use Rattle.gui_color.specs.Buffer.{with_run}

-- what a run leaves in the list that it is lent from
abbrev patched : List Rgb565 → ℕ → List Rgb565 → List Rgb565
patched xs i ws = take i xs ++ (ws ++ drop (length ws) (drop i xs))

front : (xs : List Rgb565) (n i : ℕ) (ws : List Rgb565) → i ≤ n → n ≤ length xs → take n (patched xs i ws) ≡ take n (patched (take n xs) i ws)
front xs n i ws p q = same_lists _ _ (search (rules, places)) (λ k d h. grind (arith, places))

pub with_run_is : (xs : List Rgb565) (len n i : ℕ) (ws : List Rgb565) → len ≡ length xs → i ≤ n → n ≤ len
    → take n (take len (patched xs i ws ++ drop (length (patched xs i ws)) xs)) ≡ with_run (take n xs) i ws
unfolding with_run
with_run_is xs len n i ws e p q =
    let l : n ≤ length (patched xs i ws) = simp (length-append, length-take, length-drop) (omega arith) in
    let t : length (take n xs) ≡ n = length-take-le n xs (omega arith) in
    take-take n len (patched xs i ws ++ drop (length (patched xs i ws)) xs) q
    ∙ take-append-le n (patched xs i ws) (drop (length (patched xs i ws)) xs) l
    ∙ front xs n i ws p (omega arith)
    ∙ ap (λ m. take m (patched (take n xs) i ws)) (sym t)

pub filled_more : (xs : List Rgb565) (i : ℕ) (b : Rgb565) → i < length xs → set (replicate i b ++ drop i xs) i b ≡ replicate (i + 1) b ++ drop (i + 1) xs
filled_more xs i b h =
    rw (drop_more xs i b h, set_at (replicate i b) (get_or xs i b) (drop (i + 1) xs) b i (length-replicate i b))
    (sym (append_assoc (replicate i b) (b ∷ []) (drop (i + 1) xs)) ∙ ap (λ z. z ++ drop (i + 1) xs) (replicate_more i b))

-- the first n of a list whose first n were written
pub front_is : (xs ys : List Rgb565) (len n : ℕ) → len ≡ length xs → n ≤ len → length ys ≡ n
    → take n (take len (patched xs 0 ys ++ drop (length (patched xs 0 ys)) xs)) ≡ ys
unfolding with_run
front_is xs ys len n e p q =
    with_run_is xs len n 0 ys e (omega arith) p
    ∙ rw (length-take-le n xs (omega arith)) (take-append-le n ys _ (omega arith) ∙ take_all n ys (omega arith))

-- a part of the first n of a list
pub part_of_front : (xs : List Rgb565) (n i j : ℕ) → j ≤ n → take (j - i) (drop i xs) ≡ take (j - i) (drop i (take n xs))
part_of_front xs n i j p =
    between_is xs i j ∙ ap (drop i) (sym (take-take j n xs p)) ∙ sym (between_is (take n xs) i j)

pub run_inside : (ps : List Rgb565) (i : ℕ) (ws : List Rgb565) (k : ℕ) (d : Rgb565) → k < length ws → i + length ws ≤ length ps → get_or (with_run ps i ws) (i + k) d ≡ get_or ws k d
unfolding with_run
run_inside ps i ws k d p q = grind (arith, places)

pub run_before : (ps : List Rgb565) (i : ℕ) (ws : List Rgb565) (k : ℕ) (d : Rgb565) → k < i → i + length ws ≤ length ps → get_or (with_run ps i ws) k d ≡ get_or ps k d
unfolding with_run
run_before ps i ws k d p q = grind (arith, places)

pub run_after : (ps : List Rgb565) (i : ℕ) (ws : List Rgb565) (k : ℕ) (d : Rgb565) → i + length ws ≤ k → i + length ws ≤ length ps → get_or (with_run ps i ws) k d ≡ get_or ps k d
unfolding with_run
run_after ps i ws k d p q = grind (arith, places)

pub part_at : (ps : List Rgb565) (i j k : ℕ) (d : Rgb565) → i + k < j → get_or (take (j - i) (drop i ps)) k d ≡ get_or ps (i + k) d
part_at ps i j k d p = grind (arith, places)

pub length-with_run : (ps : List Rgb565) (i : ℕ) (ws : List Rgb565) → i + length ws ≤ length ps → length (with_run ps i ws) ≡ length ps
unfolding with_run
length-with_run ps i ws p = simp (length-append, length-take, length-drop) (omega arith)

pub length-part : (ps : List Rgb565) (i j : ℕ) → i ≤ j → j ≤ length ps → length (take (j - i) (drop i ps)) ≡ j - i
length-part ps i j p q = simp (length-take, length-drop) (omega arith)
