-- A text between quotes says itself.
use Rattle.std.proofs.Common.{◌≡◌, refl, ℕ, ◌-◌, ◌*◌, ◌≤◌, true, false, List, [], ◌∷◌, ◌++◌, length, length-append, arith}
use Rattle.std.specs.Prelude.{nat_lt, Some}
use Rattle.std.specs.Str.{is_utf8}
use Rattle.std.proofs.Math.Seq.{get_or-append_seam, take-append_seam}
use Rattle.std.proofs.lemmas.Bool.Decides.{nat_tests}
use Rattle.scene_defs.specs.Quoted.{unescaped, text_in_quotes, most_quoted}
use Rattle.scene_defs.specs.Texts.{is_short}
use Rattle.run_defs.specs.Texts.{between_quotes, text_said}
use Rattle.line_texts.specs.Quoting.{escaped, inside_quotes, quoted}
use Rattle.line_texts.specs.Laws.{TextSays}

-- what is escaped is unescaped again
unescape_all : (text : List ℕ) → unescaped false (inside_quotes text) ≡ Some text
unescape_all [] = refl
unescape_all (b ∷ bs) = grind (arith, nat_tests, unescape_all bs)

-- it has at most twice as many bytes
twice : (text : List ℕ) → length (inside_quotes text) ≤ 2 * length text
twice [] = omega arith
twice (b ∷ bs) = grind (arith, nat_tests, twice bs, length-append (escaped b) (inside_quotes bs))

between : (text : List ℕ) → between_quotes (quoted text) ≡ Some (inside_quotes text)
between text =
    let size : length (inside_quotes text ++ 34 ∷ []) - 1 ≡ length (inside_quotes text) = omega (arith, length-append (inside_quotes text) (34 ∷ [])) in
    rw (size, get_or-append_seam (inside_quotes text) 34 [] 0, take-append_seam (inside_quotes text) (34 ∷ [])) refl

pub text_says : TextSays
unfolding text_said text_in_quotes
text_says text h k =
    let small : length text ≤ 1000 = grind (arith, nat_tests, h) in
    let utf8 : is_utf8 text ≡ true = grind (arith, nat_tests, h) in
    let short : is_short text ≡ true = grind (arith, nat_tests, h) in
    let fits : nat_lt most_quoted (length (inside_quotes text)) ≡ false = grind (arith, nat_tests, small, twice text) in
    rw (between text, fits, unescape_all text, utf8, short) refl
