-- Where lines end.
use Rattle.std.proofs.Common.{◌≡◌, ◌∙◌, ◌⊎◌, refl, sym, ap, subst, ℕ, zero, suc, ◌+◌, ◌<◌, ◌≤◌, max, Bool, true, false, ltb, if◌then◌else◌, List, ◌∷◌, length, take, drop, Option, Some, None, inl, inr, arith}
use Rattle.std.proofs.lemmas.Bool.{cases_Bool, cases_lt, false≢true}
use Rattle.std.proofs.lemmas.Bool.Decides.{nat_tests}
use Rattle.text_defs.specs.Laws.{IsAfterSpace, IsWithoutSpace, LinesEndByRule, unbounded, bounded, WideLinesEndAtNewlines}
use Rattle.text_defs.specs.Lines.{LineSetting, TextLine, run_width, segment_length, is_fit, fitting, ends_in_space, after_space, or_else, is_broken, lines_of, lines, widest, greatest, byte_count, after_newline}
use Rattle.text_defs.proofs.Greatest.{greatest_test, greatest_most, greatest-le}

not_less : (a b : ℕ) → b ≤ a → ltb a b ≡ false
not_less a b h = grind (arith, nat_tests)

less : (a b : ℕ) → a < b → ltb a b ≡ true
less a b h = grind (arith, nat_tests)

-- what passes is not above the greatest
fails_above : (test : ℕ → Bool) (n k : ℕ) → greatest test n < k → k ≤ n → test k ≡ false
fails_above test n k h l = elim (cases_Bool (test k)) [
  | inl passes ↦ let m = greatest_most test n k l passes in absurd (omega arith)
  | inr fails ↦ fails
]

unbroken : (s : LineSetting) (cs : List ℕ) → segment_length cs ≤ 1 ⊎ (is_fit s cs (segment_length cs) ≡ true) → is_broken s cs ≡ false
unbroken s cs (inl short) = not_less (fitting s cs) (segment_length cs) (omega arith)
unbroken s cs (inr fits) = let m = greatest_most (is_fit s cs) (segment_length cs) (segment_length cs) (omega arith) fits in not_less (fitting s cs) (segment_length cs) (omega arith)

max_fits : (test : ℕ → Bool) (n : ℕ) → 1 < max 1 (greatest test n) → test (max 1 (greatest test n)) ≡ true
max_fits test n h =
    let e : max 1 (greatest test n) ≡ greatest test n = omega arith in
    ap test e ∙ greatest_test test n (omega arith)

below_most : (test : ℕ → Bool) (n : ℕ) → 1 < n → test n ≡ false → max 1 (greatest test n) < n
below_most test n some fails =
    let le = greatest-le test n in
    elim (cases_lt (greatest test n) n) [
      | inl lt ↦ omega arith
      | inr ge ↦
          let e : greatest test n ≡ n = omega arith in
          absurd (false≢true (sym fails ∙ sym (ap test e) ∙ greatest_test test n (omega arith)))
    ]

ends_at : (cs : List ℕ) (n m : ℕ) → after_space cs n ≡ m → IsAfterSpace cs n (or_else m n) ⊎ IsWithoutSpace cs n (or_else m n)
ends_at cs n zero e = inr (record { all = refl; none = λ k some l. fails_above (ends_in_space cs) n k (omega arith) l })
ends_at cs n (suc m) e = inl (record {
  within = let le = greatest-le (ends_in_space cs) n in omega arith;
  space = ap (ends_in_space cs) (sym e) ∙ greatest_test (ends_in_space cs) n (omega arith);
  last = λ k h l. fails_above (ends_in_space cs) n k (omega arith) l;
})

pub line_ends : LinesEndByRule
line_ends s cs = record {
  whole = λ fits. rw (unbroken s cs fits) refl;
  broken = λ some fails.
      let before = below_most (is_fit s cs) (segment_length cs) some fails in
      let is : is_broken s cs ≡ true = less (fitting s cs) (segment_length cs) before in
      record {
        most = record {
          some = omega arith;
          fits = max_fits (is_fit s cs) (segment_length cs);
          most = λ k h l. fails_above (is_fit s cs) (segment_length cs) k (omega arith) l;
        };
        before = before;
        at = rw is (ends_at cs (fitting s cs) (after_space cs (fitting s cs)) refl);
      };
}

-- the width of a run does not go by the width that it may have
same_width : (s : LineSetting) (width : ℕ) (cs : List ℕ) → run_width (bounded s width) cs ≡ run_width (unbounded s) cs
unfolding run_width
same_width s width cs = refl

-- a segment that goes into one line, and the lines after it
whole_lines : (t : LineSetting) (n at : ℕ) (cs : List ℕ) → is_broken t cs ≡ false →
    lines_of t (suc n) at (Some cs) ≡ record { start = at; chars = take (segment_length cs) cs } ∷ lines_of t n (at + (byte_count (take (segment_length cs) cs) + 1)) (after_newline (drop (segment_length cs) cs))
whole_lines t n at cs e =
    let before = or_else (after_space cs (fitting t cs)) (fitting t cs) in
    let all = segment_length cs in
    ap (λ (b : Bool).
    record { start = at; chars = take (if b then before else all) cs }
    ∷ lines_of t n (at + (byte_count (take (if b then before else all) cs) + (if b then 0 else 1)))
    (if b then Some (drop (if b then before else all) cs) else after_newline (drop (if b then before else all) cs))) e

wide_lines : (s : LineSetting) (width n at : ℕ) (left : Option (List ℕ)) → widest (unbounded s) (lines_of (unbounded s) n at left) ≤ width → lines_of (bounded s width) n at left ≡ lines_of (unbounded s) n at left
wide_lines s width n at None h = refl
wide_lines s width zero at (Some cs) h = refl
wide_lines s width (suc n) at (Some cs) h =
    let free = whole_lines (unbounded s) n at cs (unbroken (unbounded s) cs (inr refl)) in
    let line : TextLine = record { start = at; chars = take (segment_length cs) cs } in
    let next = at + (byte_count (take (segment_length cs) cs) + 1) in
    let rest = after_newline (drop (segment_length cs) cs) in
    let wide : max (run_width (unbounded s) (take (segment_length cs) cs)) (widest (unbounded s) (lines_of (unbounded s) n next rest)) ≤ width =
    subst (λ (ls : List TextLine). widest (unbounded s) ls ≤ width) free h in
    let run : run_width (bounded s width) (take (segment_length cs) cs) ≤ width = rw same_width (omega arith) in
    let fits : is_fit (bounded s width) cs (segment_length cs) ≡ true = grind (arith, nat_tests) in
    let whole = whole_lines (bounded s width) n at cs (unbroken (bounded s width) cs (inr fits)) in
    whole ∙ ap (λ (ls : List TextLine). line ∷ ls) (wide_lines s width n next rest (omega arith)) ∙ sym free

pub wide_lines_end_at_newlines : WideLinesEndAtNewlines
unfolding lines
wide_lines_end_at_newlines s cs width h = wide_lines s width (length cs + 1) 0 (Some cs) h
