-- A line says what its words say.
use Rattle.std.proofs.Common.{◌≡◌, ◌∙◌, refl, sym, ap, ℕ, true, false, ◌||◌, Bool, List, [], ◌∷◌, ◌++◌, length, arith}
use Rattle.std.specs.Prelude.{nat_lt}
use Rattle.std.specs.List.{list_any, list_all}
use Rattle.std.proofs.lemmas.Bool.Decides.{nat_tests}
use Rattle.std.proofs.lemmas.List.{append-nil}
use Rattle.run_defs.specs.Language.{Word, words_of, words_from, trimmed, trimmed_on, is_comment, is_control}
use Rattle.run_defs.specs.Script.{line_says, max_line}
use Rattle.line_texts.specs.LineTexts.{spaced, line_text, is_letter, is_plain, is_in_line, ends_well, is_text, are_words, is_name}
use Rattle.line_texts.specs.Laws.{WordsSay}

-- a word up to a space
within_word : (word rest : List ℕ) → list_all is_letter word ≡ true → words_from true (word ++ 32 ∷ rest) ≡ word ∷ words_from false rest
within_word [] rest h = refl
within_word (b ∷ bs) rest h = grind (arith, nat_tests, within_word bs rest)

-- a word up to the end
last_word : (word : List ℕ) → list_all is_letter word ≡ true → words_from true word ≡ word ∷ []
last_word [] h = refl
last_word (b ∷ bs) h = grind (arith, nat_tests, last_word bs)

-- a plain word begins with its first byte
begins : (word rest : List ℕ) → is_plain word ≡ true → words_from false (word ++ rest) ≡ words_from true (word ++ rest)
begins [] rest h = cc
begins (b ∷ bs) rest h = grind (arith, nat_tests, h)

plain_letters : (word : List ℕ) → is_plain word ≡ true → list_all is_letter word ≡ true
plain_letters [] h = cc
plain_letters (b ∷ bs) h = grind (arith, nat_tests, h)

-- a text has no space at its end
not_trimmed : (b : ℕ) (bs : List ℕ) → ends_well b bs ≡ true → trimmed (b ∷ bs) ≡ b ∷ bs
not_trimmed b [] h = grind (arith, nat_tests, h)
not_trimmed b (c ∷ cs) h = ap (trimmed_on b) (not_trimmed c cs h)

text_word : (word : List ℕ) → is_text word ≡ true → words_from false word ≡ word ∷ []
text_word [] h = cc
text_word (b ∷ bs) h =
    let whole : trimmed (b ∷ bs) ≡ b ∷ bs = not_trimmed b bs (grind (arith, nat_tests, h)) in
    grind (arith, nat_tests, h, whole)

plain_word : (word : List ℕ) → is_plain word ≡ true → words_from false word ≡ word ∷ []
plain_word word h =
    let e : word ++ [] ≡ word = append-nil word in
    sym (ap (words_from false) e) ∙ begins word [] h ∙ ap (words_from true) e ∙ last_word word (plain_letters word h)

either_word : (p q : Bool) (P : Type 0) → (p || q) ≡ true → (p ≡ true → P) → (q ≡ true → P) → P
either_word true q P h f g = f refl
either_word false true P h f g = g refl
either_word false false P h f g = cc

one_word : (word : List ℕ) → (is_plain word || is_text word) ≡ true → words_from false word ≡ word ∷ []
one_word word h = either_word (is_plain word) (is_text word) (words_from false word ≡ word ∷ []) h (plain_word word) (text_word word)

-- the words of words with a space between each two
all_words : (word : Word) (words : List Word) → are_words (word ∷ words) ≡ true → words_of (word ++ spaced words) ≡ word ∷ words
all_words word [] h = ap (words_from false) (append-nil word) ∙ one_word word h
all_words word (next ∷ words) h =
    let plain : is_plain word ≡ true = grind (arith, nat_tests, h) in
    let others : are_words (next ∷ words) ≡ true = grind (arith, nat_tests, h) in
    begins word (spaced (next ∷ words)) plain
    ∙ within_word word (next ++ spaced words) (plain_letters word plain)
    ∙ ap (λ (ws : List Word). word ∷ ws) (all_words next words others)

named_words : (name : Word) (words : List Word) → is_name name ≡ true → are_words words ≡ true → are_words (name ∷ words) ≡ true
named_words [] words h k = cc
named_words (b ∷ bs) [] h k = grind (arith, nat_tests, h)
named_words (b ∷ bs) (word ∷ words) h k = grind (arith, nat_tests, h, k)

no_comment : (name : Word) (rest : List ℕ) → is_name name ≡ true → is_comment (name ++ rest) ≡ false
no_comment [] rest h = cc
no_comment (b ∷ bs) rest h = grind (arith, nat_tests, h)

-- Control characters.

letters_clean : (bs : List ℕ) → list_all is_letter bs ≡ true → list_any is_control bs ≡ false
letters_clean [] h = refl
letters_clean (b ∷ bs) h = grind (arith, nat_tests, h, letters_clean bs)

in_line_clean : (bs : List ℕ) → list_all is_in_line bs ≡ true → list_any is_control bs ≡ false
in_line_clean [] h = refl
in_line_clean (b ∷ bs) h = grind (arith, nat_tests, h, in_line_clean bs)

text_clean : (word : Word) → is_text word ≡ true → list_any is_control word ≡ false
text_clean [] h = refl
text_clean (b ∷ bs) h = grind (arith, nat_tests, h, in_line_clean bs)

plain_clean : (word : Word) → is_plain word ≡ true → list_any is_control word ≡ false
plain_clean word h = letters_clean word (plain_letters word h)

one_clean : (word : Word) → (is_plain word || is_text word) ≡ true → list_any is_control word ≡ false
one_clean word h = either_word (is_plain word) (is_text word) (list_any is_control word ≡ false) h (plain_clean word) (text_clean word)

both_clean : (xs ys : List ℕ) → list_any is_control xs ≡ false → list_any is_control ys ≡ false → list_any is_control (xs ++ ys) ≡ false
both_clean [] ys h k = k
both_clean (x ∷ xs) ys h k = grind (arith, nat_tests, h, k, both_clean xs ys)

all_clean : (word : Word) (words : List Word) → are_words (word ∷ words) ≡ true → list_any is_control (word ++ spaced words) ≡ false
all_clean word [] h = both_clean word [] (one_clean word h) refl
all_clean word (next ∷ words) h =
    let plain : is_plain word ≡ true = grind (arith, nat_tests, h) in
    let others : are_words (next ∷ words) ≡ true = grind (arith, nat_tests, h) in
    both_clean word (32 ∷ (next ++ spaced words)) (plain_clean word plain) (grind (arith, nat_tests, all_clean next words others))

pub words_say_so : WordsSay
unfolding line_says
words_say_so name words h k short =
    let all : are_words (name ∷ words) ≡ true = named_words name words h k in
    let fits : nat_lt max_line (length (line_text name words)) ≡ false = grind (arith, nat_tests, short) in
    rw (fits, no_comment name (spaced words) h, all_clean name words all, all_words name words all) refl
