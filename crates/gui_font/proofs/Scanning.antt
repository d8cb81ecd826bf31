-- Scanning the characters of a line.
use Rattle.std.proofs.Common.{◌≡◌, ◌≢◌, ◌∙◌, refl, sym, ap, ℕ, zero, suc, ◌+◌, ◌-◌, ◌*◌, ◌<◌, ◌≤◌, Bool, true, false, not, ◌||◌, eqb, ltb, if◌then◌else◌, List, [], ◌∷◌, length, take, drop, get_or, Option, Some, None, is_some, arith, inl, inr, MatchOption}
use Rattle.std.specs.List.{sum_by}
use Rattle.std.proofs.lemmas.Bool.{cases_Bool, cases_lt}
use Rattle.std.proofs.Math.Nat.{mul-le-mul_left}
use Rattle.std.proofs.lemmas.Bool.Decides.{nat_tests}
use Rattle.std.proofs.lemmas.List.{length-take-le, take-take, length-drop, drop_more, drop_all}
use Rattle.std.proofs.lemmas.List.Sums.{sum_by_more, sum_by-take-le, prefix_len-le-length, prefix_len_stops, prefix_len_passes}
use Rattle.std.specs.Str.{chars, IsUtf8}
use Rattle.std.proofs.lemmas.Str.{length-le-encodes, encodes-chars}
use Rattle.std.specs.Char.{len_utf8}
use Rattle.text_defs.specs.Lines.{LineSetting, run_width, is_within, is_fit, fitting, segment_length, after_space, ends_in_space, is_broken, or_else}
use Rattle.gui_font.specs.Walks.{EndsAt, IsCut}
use Rattle.gui_font.specs.declared.lines.Stop.{Stop}
use Rattle.text_defs.proofs.Greatest.{greatest_zero, greatest_passes, greatest_fails, greatest-le, greatest_below, greatest_most}

-- the run of the first n characters ends at the stop
abbrev pub Stops : LineSetting → List ℕ → ℕ → ℕ → Stop → Type 0
Stops s cs bytes n stop = EndsAt s cs bytes n stop.count stop.width stop.rest.now

-- what was found of the first so many characters
pub record Scanned (s : LineSetting) (cs : List ℕ) (bytes count : ℕ) (stop : Stop) (space : Option Stop) : Type 0 where
  pub ends : Stops s cs bytes count stop
  pub plain : count ≤ segment_length cs
  pub fits : 1 < count → is_fit s cs count ≡ true
  pub spaced : MatchOption space (after_space cs count ≡ 0) (λ st. (0 < after_space cs count) × Stops s cs bytes (after_space cs count) st)
  pub small : stop.width ≤ 355 * count
  pub short : count ≤ 1000

-- the character after the first n
pub record IsNext (cs : List ℕ) (n c : ℕ) (left : List ℕ) : Type 0 where
  pub below : n < length cs
  pub is : get_or cs n 0 ≡ c
  pub after : left ≡ drop (n + 1) cs

pub next_at : (cs : List ℕ) (n c : ℕ) (left : List ℕ) → drop n cs ≡ c ∷ left → IsNext cs n c left
next_at cs n c left e =
    let more : n < length cs = elim (cases_lt n (length cs)) [
      | inl l ↦ l
      | inr g ↦ let none : drop n cs ≡ [] = drop_all n cs g in cc
    ] in
    let split : c ∷ left ≡ get_or cs n 0 ∷ drop (n + 1) cs = sym e ∙ drop_more cs n 0 more in
    record { below = more; is = cc; after = cc }

pub run_start : (s : LineSetting) (cs : List ℕ) → run_width s (take 0 cs) ≡ 0
unfolding run_width
run_start s cs = omega arith

gap_more : (letter n : ℕ) → letter * (n + 1 - 1) ≡ letter * (n - 1) + (if eqb n 0 then 0 else letter)
gap_more letter zero = omega arith
gap_more letter (suc n) =
    let one : suc n + 1 - 1 ≡ suc n = omega arith in
    let two : suc n - 1 ≡ n = omega arith in
    let three : eqb (suc n) 0 ≡ false = grind (arith, nat_tests) in
    rw (one, two, three) (omega arith)

pub run_more : (s : LineSetting) (cs : List ℕ) (n : ℕ) → n < length cs →
    run_width s (take (n + 1) cs) ≡ run_width s (take n cs) + (s.face.cell (get_or cs n 0)).advance + (if eqb n 0 then 0 else s.letter)
unfolding run_width
run_more s cs n h =
    let sums = sum_by_more (λ c. (s.face.cell c).advance) cs n 0 h in
    let more : length (take (n + 1) cs) ≡ n + 1 = length-take-le (n + 1) cs (omega arith) in
    let now : length (take n cs) ≡ n = length-take-le n cs (omega arith) in
    rw (sums, more, now) (omega (arith, gap_more s.letter n))

-- a longer run is no narrower
pub run_grows : (s : LineSetting) (cs : List ℕ) (m n : ℕ) → m ≤ n → n ≤ length cs → run_width s (take m cs) ≤ run_width s (take n cs)
unfolding run_width
run_grows s cs m n l h =
    let less = sum_by-take-le (λ c. (s.face.cell c).advance) (take n cs) m in
    let sums : sum_by (λ c. (s.face.cell c).advance) (take m cs) ≤ sum_by (λ c. (s.face.cell c).advance) (take n cs) = rw (take-take m n cs l) at less in
    let many : length (take n cs) ≡ n = length-take-le n cs h in
    let few : length (take m cs) ≡ m = length-take-le m cs (omega arith) in
    let gaps : s.letter * (m - 1) ≤ s.letter * (n - 1) = mul-le-mul_left s.letter (omega arith) in
    rw (many, few) (omega arith)

pub scanned_none : (s : LineSetting) (cs : List ℕ) (stop : Stop) → chars stop.rest.now ≡ cs → stop.count ≡ 0 → stop.width ≡ 0 → Scanned s cs (length stop.rest.now) 0 stop None
scanned_none s cs stop e n w = record {
  ends = record { count_is = n; within = omega arith; left = e; taken = omega arith; width_is = w ∙ sym (run_start s cs) };
  plain = omega arith;
  fits = λ l. absurd (omega arith);
  spaced = greatest_zero (ends_in_space cs);
  small = omega arith;
  short = omega arith;
}

-- the run with one character more
ends_more : (s : LineSetting) (cs : List ℕ) (bytes count c : ℕ) (stop next : Stop) →
    next.count ≡ count + 1 → Stops s cs bytes count stop → chars stop.rest.now ≡ c ∷ chars next.rest.now → length stop.rest.now ≡ len_utf8 c + length next.rest.now →
    next.width ≡ stop.width + (s.face.cell c).advance + (if eqb count 0 then 0 else s.letter) → Stops s cs bytes (count + 1) next
ends_more s cs bytes count c stop next n h chars_is bytes_is width =
    let at = next_at cs count c (chars next.rest.now) (sym h.left ∙ chars_is) in
    let b = at.below in
    let sums = sum_by_more len_utf8 cs count 0 b in
    record {
      count_is = n;
      within = omega arith;
      left = at.after;
      taken = rw (sums, at.is) (omega (arith, h.taken, bytes_is));
      width_is = rw (run_more s cs count b, at.is) (omega (arith, h.width_is, width));
    }

spaced_more : (s : LineSetting) (cs : List ℕ) (bytes count c : ℕ) (next : Stop) (space : Option Stop) → get_or cs count 0 ≡ c → Stops s cs bytes (count + 1) next →
    MatchOption space (after_space cs count ≡ 0) (λ st. (0 < after_space cs count) × Stops s cs bytes (after_space cs count) st) →
    MatchOption (if eqb c 32 then Some next else space) (after_space cs (count + 1) ≡ 0) (λ st. (0 < after_space cs (count + 1)) × Stops s cs bytes (after_space cs (count + 1)) st)
spaced_more s cs bytes count c next space is ends spaced =
    let here : ends_in_space cs (count + 1) ≡ eqb c 32 = ap (λ (k : ℕ). eqb (get_or cs k 0) 32) (omega arith) ∙ ap (λ (k : ℕ). eqb k 32) is in
    elim (cases_Bool (eqb c 32)) [
      | inl sp ↦
          let e : after_space cs (count + 1) ≡ count + 1 = greatest_passes (ends_in_space cs) count (here ∙ sp) in
          rw (sp, e) (omega arith, ends)
      | inr other ↦
          let e : after_space cs (count + 1) ≡ after_space cs count = greatest_fails (ends_in_space cs) count (here ∙ other) in
          rw (other, e) spaced
    ]

plain_more : (cs : List ℕ) (count c : ℕ) → count < length cs → get_or cs count 0 ≡ c → c ≢ 10 → count ≤ segment_length cs → count + 1 ≤ segment_length cs
plain_more cs count c below is plain l = elim (cases_lt count (segment_length cs)) [
  | inl lt ↦ omega arith
  | inr ge ↦
      let e : count ≡ segment_length cs = omega arith in
      let stops = prefix_len_stops (λ k. not (eqb k 10)) cs 0 (omega arith) in
      absurd (grind (arith, nat_tests))
]

-- one character more
pub scanned_more : (s : LineSetting) (cs : List ℕ) (bytes count c : ℕ) (stop next : Stop) (space : Option Stop) →
    next.count ≡ count + 1 → Scanned s cs bytes count stop space → chars stop.rest.now ≡ c ∷ chars next.rest.now → length stop.rest.now ≡ len_utf8 c + length next.rest.now →
    c ≢ 10 → next.width ≡ stop.width + (s.face.cell c).advance + (if eqb count 0 then 0 else s.letter) → (eqb count 0 || is_within s.most next.width) ≡ true →
    length cs ≤ 1000 → next.width ≤ 355 * (count + 1) →
    Scanned s cs bytes (count + 1) next (if eqb c 32 then Some next else space)
scanned_more s cs bytes count c stop next space n h chars_is bytes_is plain width fits short small =
    let ends = ends_more s cs bytes count c stop next n h.ends chars_is bytes_is width in
    let at = next_at cs count c (chars next.rest.now) (sym h.ends.left ∙ chars_is) in
    record {
      ends = ends;
      plain = plain_more cs count c at.below at.is plain h.plain;
      fits = λ l. let other : eqb count 0 ≡ false = grind (arith, nat_tests) in ap (is_within s.most) (sym ends.width_is) ∙ rw other at fits;
      spaced = spaced_more s cs bytes count c next space at.is ends h.spaced;
      small = small;
      short = omega (arith, at.below);
    }

-- a text has no more characters than bytes
pub chars_few : (bs : List ℕ) → IsUtf8 bs → length bs ≤ 1000 → length (chars bs) ≤ 1000
chars_few bs utf8 short = let l = length-le-encodes (chars bs) in omega (arith, l, ap length (encodes-chars bs utf8))

not_less : (a b : ℕ) → b ≤ a → ltb a b ≡ false
not_less a b h = grind (arith, nat_tests)

-- a segment that fits goes into one line
fits_whole : (s : LineSetting) (cs : List ℕ) (count : ℕ) → segment_length cs ≡ count → (1 < count → is_fit s cs count ≡ true) → is_broken s cs ≡ false
fits_whole s cs count whole fits =
    let enough : count ≤ fitting s cs = elim (cases_lt 1 count) [
      | inl many ↦ let g = greatest_most (is_fit s cs) (segment_length cs) count (omega arith) (fits many) in omega arith
      | inr one ↦ omega arith
    ] in
    not_less (fitting s cs) (segment_length cs) (omega arith)

pub cut_whole : (s : LineSetting) (cs : List ℕ) (bytes count : ℕ) (stop : Stop) (space : Option Stop) → Scanned s cs bytes count stop space → segment_length cs ≡ count →
    IsCut s cs bytes stop.count stop.width stop.rest.now false
cut_whole s cs bytes count stop space h whole =
    let e = fits_whole s cs count whole h.fits in record {
      ends = rw (e, whole) h.ends;
      broken_is = sym e;
      small = omega (arith, h.small, h.short);
    }

-- the segment ends at a newline, or with the text
pub segment_at_newline : (cs : List ℕ) (count : ℕ) (left : List ℕ) → count ≤ segment_length cs → drop count cs ≡ 10 ∷ left → segment_length cs ≡ count
segment_at_newline cs count left plain e =
    let at = next_at cs count 10 left e in
    elim (cases_lt count (segment_length cs)) [
      | inl lt ↦
          let passes = prefix_len_passes (λ k. not (eqb k 10)) cs count 0 lt in
          let is = at.is in absurd (grind (arith, nat_tests))
      | inr ge ↦ omega arith
    ]

pub segment_at_end : (cs : List ℕ) (count : ℕ) → count ≤ segment_length cs → drop count cs ≡ [] → segment_length cs ≡ count
segment_at_end cs count plain e =
    let most = prefix_len-le-length (λ k. not (eqb k 10)) cs in
    let none : length cs - count ≡ 0 = sym (length-drop count cs) ∙ ap length e in
    omega arith

past_more : (most : Option ℕ) (a b : ℕ) → a ≤ b → is_within most a ≡ false → is_within most b ≡ false
past_more None a b l h = h
past_more (Some most) a b l h = grind (arith, nat_tests)

-- what is longer than a run that does not fit does not fit either
wider_past : (s : LineSetting) (cs : List ℕ) (m n : ℕ) → m ≤ n → n ≤ length cs → is_fit s cs m ≡ false → is_fit s cs n ≡ false
wider_past s cs m n l h past = past_more s.most _ _ (run_grows s cs m n l h) past

-- the next character does not fit
fits_count : (s : LineSetting) (cs : List ℕ) (count : ℕ) → 0 < count → count + 1 ≤ segment_length cs → (1 < count → is_fit s cs count ≡ true) → is_fit s cs (count + 1) ≡ false → fitting s cs ≡ count
fits_count s cs count some more fits past =
    let most = prefix_len-le-length (λ k. not (eqb k 10)) cs in
    let above = greatest_below (is_fit s cs) count (segment_length cs) (omega arith) (λ j a b. wider_past s cs (count + 1) j (omega arith) (omega arith) past) in
    let le = greatest-le (is_fit s cs) count in
    elim (cases_lt 1 count) [
      | inl many ↦ let g = greatest_most (is_fit s cs) count count (omega arith) (fits many) in omega arith
      | inr one ↦ omega arith
    ]

or_false : (a b : Bool) → (a || b) ≡ false → (a ≡ false) × (b ≡ false)
or_false true b h = cc
or_false false b h = (refl, h)

or_else_some : (m n : ℕ) → 0 < m → or_else m n ≡ m
or_else_some zero n h = absurd (omega arith)
or_else_some (suc m) n h = refl

or_else-le : (m n : ℕ) → m ≤ n → or_else m n ≤ n
or_else-le zero n h = omega arith
or_else-le (suc m) n h = h

last_is : (s : LineSetting) (cs : List ℕ) (bytes count : ℕ) (stop last : Stop) (space : Option Stop) → Stops s cs bytes count stop →
    MatchOption space (after_space cs count ≡ 0) (λ st. (0 < after_space cs count) × Stops s cs bytes (after_space cs count) st) →
    Some last ≡ (if is_some space then space else Some stop) → Stops s cs bytes (or_else (after_space cs count) count) last
last_is s cs bytes count stop last None ends spaced is = let e : last ≡ stop = cc in rw (spaced, e) ends
last_is s cs bytes count stop last (Some st) ends spaced is = let e : last ≡ st = cc in rw (e, or_else_some (after_space cs count) count spaced.0) spaced.1

pub cut_broken : (s : LineSetting) (cs : List ℕ) (bytes count c width : ℕ) (left : List ℕ) (stop last : Stop) (space : Option Stop) → Scanned s cs bytes count stop space → drop count cs ≡ c ∷ left →
    c ≢ 10 → width ≡ stop.width + (s.face.cell c).advance + (if eqb count 0 then 0 else s.letter) → (eqb count 0 || is_within s.most width) ≡ false → Some last ≡ (if is_some space then space else Some stop) →
    IsCut s cs bytes last.count last.width last.rest.now true
cut_broken s cs bytes count c width left stop last space h next plain wide full is =
    let at = next_at cs count c left next in
    let parts = or_false (eqb count 0) _ full in
    let some : 0 < count = let e = parts.0 in grind (arith, nat_tests) in
    let past : is_fit s cs (count + 1) ≡ false =
    let run : run_width s (take (count + 1) cs) ≡ width = rw (run_more s cs count at.below, at.is) (omega (arith, wide, h.ends.width_is)) in
    ap (is_within s.most) run ∙ parts.1 in
    let more = plain_more cs count c at.below at.is plain h.plain in
    let fit = fits_count s cs count some more h.fits past in
    let broken : is_broken s cs ≡ true = rw fit (grind (arith, nat_tests)) in
    let ends = last_is s cs bytes count stop last space h.ends h.spaced is in
    record {
      ends = rw (broken, fit) ends;
      broken_is = sym broken;
      small = omega (arith, h.small, h.short, h.ends.width_is, ends.width_is, run_grows s cs (or_else (after_space cs count) count) count (or_else-le (after_space cs count) count (greatest-le (ends_in_space cs) count)) h.ends.within);
    }
