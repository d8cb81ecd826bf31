-- A text of lines that ask for changes says these as a script, and nothing else.
use Rattle.std.proofs.Common.{◌≡◌, ◌∙◌, refl, sym, ap, ap₂, ℕ, zero, suc, ◌-◌, true, false, Bool, List, [], ◌∷◌, ◌++◌, append_assoc, map, length, arith}
use Rattle.std.specs.Prelude.{◌==◌, ◌||◌, Ok, Err, if◌then◌else◌, nat_lt, slice_index}
use Rattle.std.specs.List.{list_any}
use Rattle.std.proofs.lemmas.Bool.Decides.{nat_tests}
use Rattle.std.proofs.lemmas.List.{append-nil}
use Rattle.run_defs.specs.Language.{is_comment, is_control, words_of, onto}
use Rattle.run_defs.specs.Script.{Said, parse, line_says, words_say, max_line, is_newline, lines_of, rest_of, without_return, ended_says, says_cut, open_says, says, Whole}
use Rattle.run_defs.specs.declared.Line.TheVariants.{Blank}
use Rattle.run_defs.specs.declared.LineFault.TheVariants.{Long, Syntax}
use Rattle.scene_defs.specs.declared.Change.{Change}
use Rattle.line_texts.specs.LineTexts.{ended_lines}
use Rattle.line_texts.specs.Commands.{asks}

-- A line that asks for a change has no control character, and is not too long.

record Clean (line : List ℕ) : Type 0 where
  fits : nat_lt max_line (length line) ≡ false
  clean : list_any is_control line ≡ false

clean_by : (long comment control : Bool) (said : Said) (change : Change) →
    (if long then Err Long else if comment then Ok Blank else if control then Err Syntax else said) ≡ asks change → (long ≡ false) × (control ≡ false)
clean_by true comment control said change e = cc
clean_by false true control said change e = cc
clean_by false false true said change e = cc
clean_by false false false said change e = (refl, refl)

clean : (line : List ℕ) (change : Change) → parse line ≡ asks change → Clean line
unfolding line_says
clean line change e =
    let two = clean_by (nat_lt max_line (length line)) (is_comment line) (list_any is_control line) (words_say (words_of line)) change e in
    record { fits = two.0; clean = two.1 }

no_return : (line : List ℕ) (i : ℕ) → list_any is_control line ≡ false → (slice_index line i == 13) ≡ false
no_return [] zero h = refl
no_return [] (suc i) h = refl
no_return (b ∷ bs) zero h = grind (arith, nat_tests, h)
no_return (b ∷ bs) (suc i) h = grind (arith, nat_tests, h, no_return bs i)

ended_same : (line : List ℕ) → Clean line → ended_says line ≡ parse line
ended_same line c =
    let kept : without_return line ≡ line = rw (no_return line (length line - 1) c.clean) refl in
    let fits = c.fits in
    rw (kept, fits) refl

-- The lines of a text of such lines.

newline_ends : (line rest : List ℕ) → list_any is_control line ≡ false → lines_of (line ++ 10 ∷ rest) ≡ line ∷ lines_of rest
newline_ends [] rest h = refl
newline_ends (b ∷ bs) rest h =
    let same : is_newline b ≡ false = grind (arith, nat_tests, h) in
    let later : list_any is_control bs ≡ false = grind (arith, nat_tests, h) in
    rw (same, newline_ends bs rest later) refl

any_there : (line rest : List ℕ) → list_any is_newline (line ++ 10 ∷ rest) ≡ true
any_there [] rest = refl
any_there (b ∷ bs) rest = grind (arith, any_there bs rest)

rest_after : (line rest : List ℕ) → rest_of (line ++ 10 ∷ rest) ≡ rest_of rest
rest_after [] rest = refl
rest_after (b ∷ bs) rest = by (is_newline b) (list_any is_newline (bs ++ 10 ∷ rest)) (any_there bs rest) (rest_after bs rest) where
  by : (here later : Bool) → later ≡ true → rest_of (bs ++ 10 ∷ rest) ≡ rest_of rest → (if here || later then rest_of (bs ++ 10 ∷ rest) else b ∷ (bs ++ 10 ∷ rest)) ≡ rest_of rest
  by true later e k = k
  by false true e k = k
  by false false e k = cc

no_rest : (lines : List (List ℕ)) → rest_of (ended_lines lines) ≡ []
no_rest [] = refl
no_rest (line ∷ lines) = ap rest_of (append_assoc line (10 ∷ []) (ended_lines lines)) ∙ rest_after line (ended_lines lines) ∙ no_rest lines

same_first : (a b : Said) (xs ys : List Said) → a ∷ xs ≡ b ∷ ys → a ≡ b
same_first a b xs ys e = cc

same_others : (a b : Said) (xs ys : List Said) → a ∷ xs ≡ b ∷ ys → xs ≡ ys
same_others a b xs ys e = cc

cut_asked : (lines : List (List ℕ)) (changes : List Change) → map (λ line. parse line) lines ≡ map asks changes → says_cut (ended_lines lines) ≡ map asks changes
cut_asked [] changes e = e
cut_asked (line ∷ lines) [] e = cc
cut_asked (line ∷ lines) (change ∷ changes) e =
    let here = same_first (parse line) (asks change) (map (λ line. parse line) lines) (map asks changes) e in
    let later = same_others (parse line) (asks change) (map (λ line. parse line) lines) (map asks changes) e in
    let c = clean line change here in
    ap says_cut (append_assoc line (10 ∷ []) (ended_lines lines))
    ∙ ap (map ended_says) (newline_ends line (ended_lines lines) c.clean)
    ∙ ap₂ (λ (said : Said) (others : List Said). said ∷ others) (ended_same line c ∙ here) (cut_asked lines changes later)

pub says_asked : (lines : List (List ℕ)) (changes : List Change) → map (λ line. parse line) lines ≡ map asks changes → says Whole (ended_lines lines) ≡ map asks changes
says_asked lines changes e =
    ap (λ (rest : List ℕ). says_cut (ended_lines lines) ++ open_says rest) (no_rest lines)
    ∙ append-nil (says_cut (ended_lines lines)) ∙ cut_asked lines changes e
