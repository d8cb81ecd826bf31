-- How lines and words are cut off one at a time.
use Rattle.std.proofs.Common.{◌≡◌, ◌≢◌, refl, ap, sym, ◌∙◌, not, ℕ, suc, true, false, ◌+◌, ◌-◌, ◌<◌, ◌==◌, Bool, List, [], ◌∷◌, ◌++◌, length, take, drop, get_or, arith}
use Rattle.std.proofs.lemmas.List.{take_all, take_more}
use Rattle.std.specs.Prelude.{Some, if◌then◌else◌, slice_get, position, is_some}
use Rattle.std.proofs.lemmas.Bool.Decides.{nat_tests}
use Rattle.std.specs.List.{list_any, before_first, after_first, position_or_len}
use Rattle.run_defs.specs.Language.{onto, is_space}
use Rattle.run_defs.specs.Script.{is_newline}
use Rattle.bdf_font.specs.Lines.{file_lines, onto_first, file_words, split_from, to_end, up_to_end, is_edge}

pub any_position : (p : ℕ → Bool) (bs : List ℕ) → list_any p bs ≡ is_some (position p bs)
any_position p [] = refl
any_position p (b ∷ bs) = grind (arith, nat_tests, any_position p bs)

-- nothing follows where no byte cuts
pub nothing_after : (p : ℕ → Bool) (bs : List ℕ) → list_any p bs ≡ false → after_first p bs ≡ []
nothing_after p [] e = refl
nothing_after p (b ∷ bs) e = grind (arith, nat_tests, nothing_after p bs)

-- Lines.

line_later : (b : ℕ) (bs : List ℕ) (n i j : ℕ) → i ≡ suc n → j ≡ suc (n + 1) → (b ∷ take n bs) ∷ file_lines (drop (n + 1) bs) ≡ take i (b ∷ bs) ∷ file_lines (drop j (b ∷ bs))
line_later b bs n i j e f = rw (e, f) refl

line_by : (newline : Bool) (b : ℕ) (bs : List ℕ) (n : ℕ) → file_lines bs ≡ take n bs ∷ file_lines (drop (n + 1) bs) →
    (if newline then [] ∷ file_lines bs else onto_first b (file_lines bs)) ≡ take (if not newline then 1 + n else 0) (b ∷ bs) ∷ file_lines (drop ((if not newline then 1 + n else 0) + 1) (b ∷ bs))
line_by true b bs n e = refl
line_by false b bs n e = ap (onto_first b) e ∙ line_later b bs n (1 + n) (1 + n + 1) (omega arith) (omega arith)

last_by : (newline : Bool) (b : ℕ) → (if newline then [] ∷ [] else (b ∷ []) ∷ []) ≡ take (if not newline then 1 + 0 else 0) (b ∷ []) ∷ file_lines (drop ((if not newline then 1 + 0 else 0) + 1) (b ∷ []))
last_by true b = refl
last_by false b = refl

pub first_line_is : (bs : List ℕ) → 0 < length bs → file_lines bs ≡ before_first (λ b. b == 10) bs ∷ file_lines (after_first (λ b. b == 10) bs)
first_line_is [] h = absurd (omega arith)
first_line_is (b ∷ []) h = last_by (is_newline b) b
first_line_is (b ∷ c ∷ cs) h = line_by (is_newline b) b (c ∷ cs) (position_or_len is_newline (c ∷ cs)) (first_line_is (c ∷ cs) (omega arith))

-- Words.

word_later : (b : ℕ) (bs : List ℕ) (n i j : ℕ) → i ≡ suc n → j ≡ suc (n + 1) → (b ∷ take n bs) ∷ file_words (drop (n + 1) bs) ≡ take i (b ∷ bs) ∷ file_words (drop j (b ∷ bs))
word_later b bs n i j e f = rw (e, f) refl

word_by : (space : Bool) (b : ℕ) (bs : List ℕ) (n : ℕ) → split_from true bs ≡ take n bs ∷ file_words (drop (n + 1) bs) →
    (if space then [] ∷ file_words bs else onto b (split_from true bs)) ≡ take (if not space then 1 + n else 0) (b ∷ bs) ∷ file_words (drop ((if not space then 1 + n else 0) + 1) (b ∷ bs))
word_by true b bs n e = refl
word_by false b bs n e = ap (onto b) e ∙ word_later b bs n (1 + n) (1 + n + 1) (omega arith) (omega arith)

words_within : (bs : List ℕ) → split_from true bs ≡ before_first is_space bs ∷ file_words (after_first is_space bs)
words_within [] = refl
words_within (b ∷ bs) = word_by (is_space b) b bs (position_or_len is_space bs) (words_within bs)

-- bytes that begin with no space begin with a word
pub first_word_is : (bs : List ℕ) → 0 < length bs → slice_get bs 0 ≢ Some 32 → file_words bs ≡ before_first (λ b. b == 32) bs ∷ file_words (after_first (λ b. b == 32) bs)
first_word_is [] h n = absurd (omega arith)
first_word_is (b ∷ bs) h n =
    let space : is_space b ≡ false = grind (arith, nat_tests) in
    let within : file_words (b ∷ bs) ≡ split_from true (b ∷ bs) = rw space refl in
    within ∙ words_within (b ∷ bs)

-- An edge at the end is left out, and nothing else.

to_end-edge : (bs : List ℕ) (e : ℕ) → is_edge e ≡ true → to_end (bs ++ e ∷ []) ≡ to_end bs
to_end-edge [] e h = rw h refl
to_end-edge (b ∷ bs) e h = ap (up_to_end b) (to_end-edge bs e h)

up_to_end-more : (a : ℕ) (bs : List ℕ) (b : ℕ) → up_to_end a (bs ++ b ∷ []) ≡ a ∷ (bs ++ b ∷ [])
up_to_end-more a [] b = refl
up_to_end-more a (c ∷ cs) b = refl

to_end-other : (bs : List ℕ) (b : ℕ) → is_edge b ≡ false → to_end (bs ++ b ∷ []) ≡ bs ++ b ∷ []
to_end-other [] b h = rw h refl
to_end-other (a ∷ bs) b h = ap (up_to_end a) (to_end-other bs b h) ∙ up_to_end-more a bs b

-- bytes end with their last
ends_with : (bs : List ℕ) → 0 < length bs → bs ≡ take (length bs - 1) bs ++ get_or bs (length bs - 1) 0 ∷ []
ends_with bs h =
    let whole : bs ≡ take (length bs - 1 + 1) bs = sym (take_all (length bs - 1 + 1) bs (omega arith)) in
    whole ∙ take_more bs (length bs - 1) 0 (omega arith)

pub to_end-shorter : (bs : List ℕ) → 0 < length bs → is_edge (get_or bs (length bs - 1) 0) ≡ true → to_end (take (length bs - 1) bs) ≡ to_end bs
to_end-shorter bs h e = sym (ap to_end (ends_with bs h) ∙ to_end-edge (take (length bs - 1) bs) (get_or bs (length bs - 1) 0) e)

pub to_end-whole : (bs : List ℕ) → is_edge (get_or bs (length bs - 1) 0) ≡ false → to_end bs ≡ bs
to_end-whole [] n = refl
to_end-whole (b ∷ bs) n =
    let all = ends_with (b ∷ bs) (omega arith) in
    ap to_end all ∙ (to_end-other (take (length (b ∷ bs) - 1) (b ∷ bs)) (get_or (b ∷ bs) (length (b ∷ bs) - 1) 0) n ∙ sym all)

pub ruleset trims = (to_end-shorter, to_end-whole)
