-- How the words of a line are cut off one at a time.
use Rattle.std.proofs.Common.{◌≡◌, ◌≢◌, refl, ap, sym, ◌∙◌, not, ℕ, suc, true, false, ◌+◌, ◌-◌, ◌<◌, ◌≤◌, Bool, List, [], ◌∷◌, ◌++◌, length, take, drop, get_or, arith, length-drop}
use Rattle.std.proofs.lemmas.List.{take_all, take_more}
use Rattle.std.proofs.lemmas.List.Splits.{slice_split_first}
use Rattle.std.specs.Prelude.{Some, None, if◌then◌else◌, slice_get, position, is_some}
use Rattle.std.specs.List.{slice_split, list_any, before_first, after_first, position_or_len}
use Rattle.std.proofs.lemmas.Bool.Decides.{nat_tests}
use Rattle.run_defs.specs.Language.{words_of, is_comment, words_from, onto, trimmed, trimmed_on, is_space, is_quote}

pub any_position : (p : ℕ → Bool) (bs : List ℕ) → list_any p bs ≡ is_some (position p bs)
any_position p [] = refl
any_position p (b ∷ bs) = grind (arith, nat_tests, any_position p bs)

-- bytes are one piece where no byte cuts them
pub one_piece : (p : ℕ → Bool) (bs : List ℕ) → position p bs ≡ None → slice_split p bs ≡ bs ∷ []
one_piece p [] e = refl
one_piece p (b ∷ bs) e = grind (arith, nat_tests, one_piece p bs)

-- else the first piece ends at the first that does
pub first_piece : (p : ℕ → Bool) (bs : List ℕ) (i : ℕ) → position p bs ≡ Some i → slice_split p bs ≡ take i bs ∷ slice_split p (take (length bs - (i + 1)) (drop (i + 1) bs))
first_piece p bs i e = grind (arith, nat_tests, slice_split_first p bs 0, take_all, length-drop)

pub ruleset cuts = (any_position, one_piece, first_piece)

cut_later : (b : ℕ) (bs : List ℕ) (n i j : ℕ) → i ≡ suc n → j ≡ suc (n + 1) → (b ∷ take n bs) ∷ words_of (drop (n + 1) bs) ≡ take i (b ∷ bs) ∷ words_of (drop j (b ∷ bs))
cut_later b bs n i j e f = rw (e, f) refl

-- within a word its bytes come first, up to a space
within_by : (space : Bool) (b : ℕ) (bs : List ℕ) (n : ℕ) → words_from true bs ≡ take n bs ∷ words_of (drop (n + 1) bs) →
    (if space then [] ∷ words_of bs else onto b (words_from true bs)) ≡ take (if not space then 1 + n else 0) (b ∷ bs) ∷ words_of (drop ((if not space then 1 + n else 0) + 1) (b ∷ bs))
within_by true b bs n e = refl
within_by false b bs n e = ap (onto b) e ∙ cut_later b bs n (1 + n) (1 + n + 1) (omega arith) (omega arith)

words_within : (bs : List ℕ) → words_from true bs ≡ before_first is_space bs ∷ words_of (after_first is_space bs)
words_within [] = refl
words_within (b ∷ bs) = within_by (is_space b) b bs (position_or_len is_space bs) (words_within bs)

-- bytes that begin with no space begin with a word
pub first_word : (bs : List ℕ) → 0 < length bs → slice_get bs 0 ≢ Some 32 → slice_get bs 0 ≢ Some 34 → words_of bs ≡ before_first is_space bs ∷ words_of (after_first is_space bs)
first_word [] h n m = absurd (omega arith)
first_word (b ∷ bs) h n m =
    let space : is_space b ≡ false = grind (arith, nat_tests) in
    let quote : is_quote b ≡ false = grind (arith, nat_tests) in
    let within : words_of (b ∷ bs) ≡ words_from true (b ∷ bs) = rw (space, quote) refl in
    within ∙ words_within (b ∷ bs)

pub quoted_word : (bs : List ℕ) → slice_get bs 0 ≡ Some 34 → words_of bs ≡ trimmed bs ∷ []
quoted_word [] e = cc
quoted_word (b ∷ bs) e = grind (arith, nat_tests)

-- a space before the words changes nothing
pub space_before : (bs : List ℕ) → 1 ≤ length bs → get_or bs 0 0 ≡ 32 →
    (words_of (take (length bs - 1) (drop 1 bs)) ≡ words_of bs) × (is_comment (take (length bs - 1) (drop 1 bs)) ≡ is_comment bs)
space_before [] h e = absurd (omega arith)
space_before (b ∷ bs) h e =
    let all : take (length (b ∷ bs) - 1) bs ≡ bs = take_all (length (b ∷ bs) - 1) bs (omega arith) in
    (ap words_of all ∙ rw e refl, ap is_comment all ∙ rw e refl)

-- nothing follows where no byte cuts
pub nothing_after : (p : ℕ → Bool) (bs : List ℕ) → list_any p bs ≡ false → after_first p bs ≡ []
nothing_after p [] e = refl
nothing_after p (b ∷ bs) e = grind (arith, nat_tests, nothing_after p bs)

-- a space at the end is left out, and nothing else
trimmed-space : (bs : List ℕ) → trimmed (bs ++ 32 ∷ []) ≡ trimmed bs
trimmed-space [] = refl
trimmed-space (b ∷ bs) = ap (trimmed_on b) (trimmed-space bs)

trimmed_on-more : (a : ℕ) (bs : List ℕ) (b : ℕ) → trimmed_on a (bs ++ b ∷ []) ≡ a ∷ (bs ++ b ∷ [])
trimmed_on-more a [] b = refl
trimmed_on-more a (c ∷ cs) b = refl

trimmed-other : (bs : List ℕ) (b : ℕ) → b ≢ 32 → trimmed (bs ++ b ∷ []) ≡ bs ++ b ∷ []
trimmed-other [] b n = grind (arith, nat_tests)
trimmed-other (a ∷ bs) b n = ap (trimmed_on a) (trimmed-other bs b n) ∙ trimmed_on-more a bs b

-- bytes end with their last
ends_with : (bs : List ℕ) → 0 < length bs → bs ≡ take (length bs - 1) bs ++ get_or bs (length bs - 1) 0 ∷ []
ends_with bs h =
    let whole : bs ≡ take (length bs - 1 + 1) bs = sym (take_all (length bs - 1 + 1) bs (omega arith)) in
    whole ∙ take_more bs (length bs - 1) 0 (omega arith)

pub trimmed-shorter : (bs : List ℕ) → 0 < length bs → get_or bs (length bs - 1) 0 ≡ 32 → trimmed (take (length bs - 1) bs) ≡ trimmed bs
trimmed-shorter bs h e = sym (ap trimmed (ends_with bs h ∙ ap (λ (b : ℕ). take (length bs - 1) bs ++ b ∷ []) e) ∙ trimmed-space (take (length bs - 1) bs))

pub trimmed-whole : (bs : List ℕ) → get_or bs (length bs - 1) 0 ≢ 32 → trimmed bs ≡ bs
trimmed-whole [] n = refl
trimmed-whole (b ∷ bs) n =
    let all = ends_with (b ∷ bs) (omega arith) in
    ap trimmed all ∙ (trimmed-other (take (length (b ∷ bs) - 1) (b ∷ bs)) (get_or (b ∷ bs) (length (b ∷ bs) - 1) 0) n ∙ sym all)

pub ruleset trims = (trimmed-shorter, trimmed-whole)
