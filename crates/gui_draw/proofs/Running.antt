-- Runs of cells, one cell after another.
use Rattle.gui_draw.proofs.Common.{pos, ◌≡◌, ◌∙◌, refl, sym, ap, subst, ℕ, ◌+◌, ◌*◌, ◌≤◌, Bool, true, false, ◌&&◌, ◌||◌, if◌then◌else◌, Option, Some, None, List, [], ◌∷◌, ◌++◌, take, drop, arith, inl, inr, ℤ, ◌≤ℤ◌, ◌+ℤ◌, ◌-ℤ◌, le_z, lt_z, ints, nat_tests, cases_Bool, Rgb565, Rect, has, Buffer, Face, Cell, Dab, Coat, only, within, plain, Draws, run_at, cell_at}
use Rattle.gui_draw.proofs.Steps.{draws_none, draws_same, draws_both}
use Rattle.std.specs.List.{sum_by}
use Rattle.std.proofs.lemmas.List.{take_more}
use Rattle.std.proofs.lemmas.List.Sums.{sum_by-cons, sum_by_push}
use Rattle.gui_font.proofs.Scanning.{next_at}
use Rattle.text_defs.specs.Ink.{cell_inked, run_inked}

twice_less : (x : ℤ) (a b n : ℕ) → n ≡ a + b → (x -ℤ pos a) -ℤ pos b ≡ x -ℤ pos n
twice_less x a b n h = omega (arith, ints)

first_past : (x : ℤ) (a b c n : ℕ) → n ≡ (a + b) + c → pos n ≤ℤ x → pos a ≤ℤ x
first_past x a b c n h l = omega (arith, ints)

rest_past : (x : ℤ) (a b n : ℕ) → n ≡ a + b → pos n ≤ℤ x → pos b ≤ℤ (x -ℤ pos a)
rest_past x a b n h l = omega (arith, ints)

module _ (face : Face) (letter : ℕ) where
  -- from one cell to the next
  abbrev pub step : ℕ → ℕ
  step c = (face.cell c).advance + letter

  -- from the first cell of a run to what comes after it
  abbrev pub steps_of : List ℕ → ℕ
  steps_of cs = sum_by step cs

  or_assoc : (a b c : Bool) → (a || (b || c)) ≡ ((a || b) || c)
  or_assoc true b c = refl
  or_assoc false b c = refl

  or_false : (a : Bool) → (a || false) ≡ a
  or_false true = refl
  or_false false = refl

  -- a run with one cell more
  pub run_push : (cs : List ℕ) (c : ℕ) (x y : ℤ) → run_inked face letter (cs ++ c ∷ []) x y ≡ (run_inked face letter cs x y || cell_inked face.height (face.cell c) (x -ℤ pos (steps_of cs)) y)
  run_push [] c x y =
      let same : x -ℤ pos 0 ≡ x = omega (arith, ints) in
      or_false (cell_inked face.height (face.cell c) x y) ∙ ap (λ (v : ℤ). cell_inked face.height (face.cell c) v y) (sym same)
  run_push (d ∷ cs) c x y =
      let on : (x -ℤ pos (step d)) -ℤ pos (steps_of cs) ≡ x -ℤ pos (steps_of (d ∷ cs)) = twice_less x (step d) (steps_of cs) (steps_of (d ∷ cs)) (sum_by-cons step d cs) in
      ap (λ (t : Bool). cell_inked face.height (face.cell d) x y || t) (run_push cs c (x -ℤ pos (step d)) y
      ∙ ap (λ (v : ℤ). run_inked face letter cs (x -ℤ pos (step d)) y || cell_inked face.height (face.cell c) v y) on)
      ∙ or_assoc (cell_inked face.height (face.cell d) x y) _ _

  right_of : (advance : ℕ) (x : ℤ) → pos advance ≤ℤ x → lt_z x (pos advance) ≡ false
  right_of advance x h = grind (arith, ints, nat_tests)

  cell_ends : (cell : Cell) (x y : ℤ) → lt_z x (pos cell.advance) ≡ false → cell_inked face.height cell x y ≡ false
  cell_ends cell x y h = rw h (no (le_z (pos 0) x) (le_z (pos 0) y && lt_z y (pos face.height)) (cell.dot x y)) where
    no : (a b c : Bool) → (((a && false) && b) && c) ≡ false
    no true b c = refl
    no false b c = refl

  -- no ink right of a run
  pub run_ends : (cs : List ℕ) (x y : ℤ) → pos (steps_of cs) ≤ℤ x → run_inked face letter cs x y ≡ false
  run_ends [] x y h = refl
  run_ends (d ∷ cs) x y h =
      let here = cell_ends (face.cell d) x y (right_of (face.cell d).advance x (first_past x (face.cell d).advance letter (steps_of cs) _ (sum_by-cons step d cs) h)) in
      let later = run_ends cs (x -ℤ pos (step d)) y (rest_past x (step d) (steps_of cs) _ (sum_by-cons step d cs) h) in
      rw (here, later) refl

  cell_starts : (cell : Cell) (x y : ℤ) → le_z (pos 0) x ≡ false → cell_inked face.height cell x y ≡ false
  cell_starts cell x y h = rw h refl

  pub and_false : (a : Bool) → (a && false) ≡ false
  and_false true = refl
  and_false false = refl

  -- the next cell lies beside the run
  pub cell_apart : (cs : List ℕ) (c : ℕ) (x y : ℤ) → (run_inked face letter cs x y && cell_inked face.height (face.cell c) (x -ℤ pos (steps_of cs)) y) ≡ false
  cell_apart cs c x y = elim (cases_Bool (le_z (pos 0) (x -ℤ pos (steps_of cs)))) [
    | inl right ↦
        let h : pos (steps_of cs) ≤ℤ x = grind (arith, ints) in
        rw (run_ends cs x y h) refl
    | inr left ↦ rw (cell_starts (face.cell c) (x -ℤ pos (steps_of cs)) y left) (and_false (run_inked face letter cs x y))
  ]

-- the same steps more on both sides
pub draws_later : (old new : Buffer) (from to k : ℕ) (coat : Coat) → Draws old new from to coat → Draws old new (from + k) (to + k) coat
draws_later old new from to k coat h = record { area_stays = h.area_stays; limit_stays = h.limit_stays; pixels = h.pixels; steps = omega (arith, h.steps) }

-- drawing one cell more of a run
pub both_in : (t a b : Bool) (d : Dab) → (if t then (if (a || b) then Some d else None) else None) ≡ (if ((t && a) || (t && b)) then Some d else None)
both_in true a b d = refl
both_in false a b d = refl

pub one_in : (t a : Bool) (d : Dab) → (if t then (if a then Some d else None) else None) ≡ (if (t && a) then Some d else None)
one_in true a d = refl
one_in false a d = refl

pub apart_in : (t a b : Bool) → (a && b) ≡ false → ((t && a) && (t && b)) ≡ false
apart_in true a b h = h
apart_in false a b h = refl

pub run_more : (old mid new : Buffer) (part : Rect) (face : Face) (letter : ℕ) (cs : List ℕ) (c : ℕ) (left top pen : ℤ) (color : Rgb565) (opa from via to : ℕ) → pen ≡ left +ℤ pos (steps_of face letter cs) →
    Draws old mid from via (within part (only (run_at face letter cs left top) (plain color opa))) →
    Draws mid new via to (within part (only (cell_at face c pen top) (plain color opa))) →
    Draws old new from to (within part (only (run_at face letter (cs ++ c ∷ []) left top) (plain color opa)))
run_more old mid new part face letter cs c left top pen color opa from via to at h k =
    let d : Dab = record { color = color; opa = opa } in
    let A = λ (x y : ℤ). has part x y && run_at face letter cs left top x y in
    let B = λ (x y : ℤ). has part x y && cell_at face c pen top x y in
    draws_same old new from to _ _ (λ x y i.
    sym (both_in (has part x y) (run_at face letter cs left top x y) (cell_at face c pen top x y) d)
    ∙ ap (λ (t : Bool). if has part x y then (if t then Some d else None) else None) (ap (λ (v : ℤ). run_at face letter cs left top x y || cell_inked face.height (face.cell c) v (y -ℤ top)) (place x) ∙ sym (run_push face letter cs c (x -ℤ left) (y -ℤ top))))
    (draws_both old mid new from via to A B (plain color opa)
    (λ x y i. apart_in (has part x y) _ _ (ap (λ (v : ℤ). run_at face letter cs left top x y && cell_inked face.height (face.cell c) v (y -ℤ top)) (place x) ∙ cell_apart face letter cs c (x -ℤ left) (y -ℤ top)))
    (draws_same old mid from via _ _ (λ x y i. one_in (has part x y) (run_at face letter cs left top x y) d) h)
    (draws_same mid new via to _ _ (λ x y i. one_in (has part x y) (cell_at face c pen top x y) d) k)) where
      place : (x : ℤ) → x -ℤ pen ≡ (x -ℤ left) -ℤ pos (steps_of face letter cs)
      place x = omega (arith, ints)

pub empty_coat : (inside cell dot : Bool) (d : Dab) → dot ≡ false → (if inside then (if (cell && dot) then Some d else None) else None) ≡ None
empty_coat true true dot d h = rw h refl
empty_coat true false dot d h = refl
empty_coat false cell dot d h = refl

-- the first i cells of a run were drawn
pub record Running (face : Face) (letter : ℕ) (cs : List ℕ) (part : Rect) (color : Rgb565) (opa : ℕ) (old new : Buffer) (from to : ℕ) (left top : ℤ) (i : ℕ) (rest : List ℕ) (x y : ℤ) : Type 0 where
  pub rest_is : rest ≡ drop i cs
  pub x_is : x ≡ left +ℤ pos (steps_of face letter (take i cs))
  pub y_is : y ≡ top
  pub short : steps_of face letter (take i cs) ≤ 355 * i
  pub drawn : Draws old new (from + i) to (within part (only (run_at face letter (take i cs) left top) (plain color opa)))

pub draws_none_from : (buf : Buffer) (steps : ℕ) (coat : Coat) → ((x y : ℤ) → has buf.area x y ≡ true → coat x y ≡ None) → Draws buf buf (steps + 0) steps coat
draws_none_from buf steps coat none = let e : steps + 0 ≡ steps = omega arith in rw e (draws_none buf steps coat none)

pub running_none : (face : Face) (letter : ℕ) (cs : List ℕ) (part : Rect) (color : Rgb565) (opa : ℕ) (buf : Buffer) (steps : ℕ) (left top : ℤ) → Running face letter cs part color opa buf buf steps steps left top 0 cs left top
running_none face letter cs part color opa buf steps left top = record {
  rest_is = refl;
  x_is = omega (arith, ints);
  y_is = refl;
  short = omega arith;
  drawn = draws_none_from buf steps _ (λ x y i. none (has part x y));
} where
  empty : Option Dab
  empty = None

  none : (t : Bool) → (if t then empty else empty) ≡ empty
  none true = refl
  none false = refl

later_x : (left x x' : ℤ) (a b : ℕ) → x ≡ left +ℤ pos a → x' ≡ x +ℤ pos b → x' ≡ left +ℤ pos (a + b)
later_x left x x' a b h k = omega (arith, ints)

pub running_more : (face : Face) (letter : ℕ) (cs : List ℕ) (part : Rect) (color : Rgb565) (opa : ℕ) (old mid new : Buffer) (from via to : ℕ) (left top : ℤ) (i c : ℕ) (rest later : List ℕ) (x y x' y' : ℤ) →
    Running face letter cs part color opa old mid from via left top i rest x y → rest ≡ c ∷ later → (face.cell c).advance + letter ≤ 355 →
    Draws mid new (via + 1) to (within part (only (cell_at face c x y) (plain color opa))) → x' ≡ x +ℤ pos ((face.cell c).advance + letter) → y' ≡ y →
    Running face letter cs part color opa old new from to left top (i + 1) later x' y'
running_more face letter cs part color opa old mid new from via to left top i c rest later x y x' y' h split small cell x_next y_next =
    let at = next_at cs i c later (sym h.rest_is ∙ split) in
    let more : take (i + 1) cs ≡ take i cs ++ c ∷ [] = take_more cs i 0 at.below ∙ ap (λ (k : ℕ). take i cs ++ k ∷ []) at.is in
    let sums : steps_of face letter (take i cs ++ c ∷ []) ≡ steps_of face letter (take i cs) + step face letter c = sum_by_push (step face letter) (take i cs) c in
    let first = draws_later old mid (from + i) via 1 _ h.drawn in
    let second = subst (λ (v : ℤ). Draws mid new (via + 1) to (within part (only (cell_at face c x v) (plain color opa)))) h.y_is cell in
    let both = run_more old mid new part face letter (take i cs) c left top x color opa (from + i + 1) (via + 1) to h.x_is first second in
    let count : from + i + 1 ≡ from + (i + 1) = omega arith in
    record {
      rest_is = at.after;
      x_is = rw (more, sums) (later_x left x x' (steps_of face letter (take i cs)) (step face letter c) h.x_is x_next);
      y_is = y_next ∙ h.y_is;
      short = rw (more, sums) (omega (arith, h.short));
      drawn = rw (more, ← count) both;
    }

-- the cell of a glyph
pub cell_drawn : (old new : Buffer) (part : Rect) (face : Face) (c : ℕ) (cell : Cell) (height : ℕ) (left top : ℤ) (color : Rgb565) (opa from to : ℕ) → face.cell c ≡ cell → height ≡ face.height →
    Draws old new from to (within part (only (λ x y. cell_inked height cell (x -ℤ left) (y -ℤ top)) (plain color opa))) → Draws old new from to (within part (only (cell_at face c left top) (plain color opa)))
cell_drawn old new part face c cell height left top color opa from to e f h =
    subst (λ (k : Cell). Draws old new from to (within part (only (λ x y. cell_inked face.height k (x -ℤ left) (y -ℤ top)) (plain color opa)))) (sym e)
    (subst (λ (n : ℕ). Draws old new from to (within part (only (λ x y. cell_inked n cell (x -ℤ left) (y -ℤ top)) (plain color opa)))) f h)
