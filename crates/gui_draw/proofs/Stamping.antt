-- Letters of the built-in font of which all columns are seen.
use Rattle.gui_draw.proofs.Common.{pos, negsuc, ◌≡◌, ◌∙◌, refl, sym, ap, ℕ, ◌+◌, ◌<◌, ◌≤◌, Bool, true, false, ◌&&◌, if◌then◌else◌, ltb, List, length, slice_index_or, Some, None, arith, ℤ, ◌≤ℤ◌, ◌+ℤ◌, ◌-ℤ◌, le_z, lt_z, ints, nat_tests, Rgb565, Rect, is_empty, width_of, height_of, black, Dab, only, within, plain, Buffer, HoldsRow, row_of, with_row, masked, Draws, IsInside, is_among, is_seen, IsSpan, span_rect, HasLine, line_of, cell_at, sum_below, row_count, one_if}
use Rattle.text_defs.specs.Bits.{bit}
use Rattle.text_defs.specs.BuiltIn.{built_in, has_built_in, dot_in, column_of}
use Rattle.text_defs.specs.Ink.{cell_inked, in_cell}
use Rattle.text_defs.specs.declared.built_in.TheConstants.{HEIGHT}
use Rattle.gui_draw.specs.declared.glyphs.Span.{Span}
use Rattle.gui_draw.proofs.Counts.{sum_same}
use Rattle.gui_draw.proofs.Drawing.{line_drawn, laid_if, count_if}
use Rattle.gui_draw.proofs.Seeing.{inside_of}
use Rattle.gui_draw.proofs.Steps.{draws_none, draws_same}

-- a part has all columns of a glyph that stands there
record HasColumns (part : Rect) (left : ℤ) : Type 0 where
  after : part.x1 ≤ℤ left
  before : ((left +ℤ pos 5) -ℤ pos 1) ≤ℤ part.x2

abbrev pub has_columns : Rect → ℤ → Bool
has_columns part left = le_z part.x1 left && le_z ((left +ℤ pos 5) -ℤ pos 1) part.x2

columns_in : (part : Rect) (left : ℤ) → has_columns part left ≡ true → HasColumns part left
columns_in part left h = record { after = grind (arith, ints); before = grind (arith, ints) }

-- what is seen of it
abbrev pub seen_rect : ℤ → Span → Rect
seen_rect left lines = record { x1 = left; y1 = lines.from; x2 = (left +ℤ pos 5) -ℤ pos 1; y2 = lines.to }

pub seen_wide : (left : ℤ) (lines : Span) → width_of (seen_rect left lines) ≡ 5
seen_wide left lines = let e : (((left +ℤ pos 5) -ℤ pos 1) -ℤ left) +ℤ pos 1 ≡ pos 5 = omega (arith, ints) in rw e refl

-- the area that the code finds
pub seen_is : (area : Rect) (left x : ℤ) (columns lines : Span) → area ≡ span_rect columns lines → x ≡ left → columns.from ≡ x → columns.to ≡ (x +ℤ pos 5) -ℤ pos 1 → area ≡ seen_rect left lines
seen_is area left x columns lines e same f t = e ∙ rw (f, t, same) refl

pub seen_first : (part area : Rect) (left top : ℤ) (lines : Span) → IsSpan part.y1 part.y2 top HEIGHT (pos 0) 7 lines → area ≡ seen_rect left lines → lines.first + height_of area ≤ 7
seen_first part area left top lines l is = rw is l.fits

some_seen : (left : ℤ) (lines : Span) → lines.from ≤ℤ lines.to → is_empty (seen_rect left lines) ≡ false
some_seen left lines h = grind (arith, ints, nat_tests)

pub area_in : (part : Rect) (left : ℤ) → has_columns part left ≡ true → (part.x1 ≤ℤ left) × (((left +ℤ pos 5) -ℤ pos 1) ≤ℤ part.x2)
area_in part left h = let i = columns_in part left h in (i.after, i.before)

pub inside_lines : (area part : Rect) (left top : ℤ) (lines : Span) → IsInside area part → has_columns part left ≡ true → IsSpan part.y1 part.y2 top HEIGHT (pos 0) 7 lines → IsInside area (seen_rect left lines)
inside_lines area part left top lines inside h l =
    let i = columns_in part left h in
    let both = inside_of area part left lines.from ((left +ℤ pos 5) -ℤ pos 1) lines.to inside.first inside.last i.after (omega (arith, ints)) i.before l.after l.order l.before in
    record { some = some_seen left lines l.order; first = both.0; last = both.1 }

-- no bit outside the glyph
and_false : (a : Bool) → (a && false) ≡ false
and_false true = refl
and_false false = refl

mid_false : (a b : Bool) → ((a && false) && b) ≡ false
mid_false true b = refl
mid_false false b = refl

beside : (code : ℕ) (x y : ℤ) → (le_z (pos 0) x && lt_z x (pos 5)) ≡ false → dot_in code x y ≡ false
beside code (pos x) (pos y) h = let e : ltb x 5 ≡ false = grind (arith, ints, nat_tests) in rw e (mid_false (has_built_in code) _)
beside code (pos x) (negsuc y) h = refl
beside code (negsuc x) y h = refl

above : (code : ℕ) (x y : ℤ) → (le_z (pos 0) y && lt_z y (pos 7)) ≡ false → dot_in code x y ≡ false
above code (pos x) (pos y) h = let e : ltb y 7 ≡ false = grind (arith, ints, nat_tests) in rw (e, and_false (ltb x 5)) (mid_false (has_built_in code) _)
above code (pos x) (negsuc y) h = refl
above code (negsuc x) y h = refl

column_from : (left x : ℤ) → (le_z (pos 0) (x -ℤ left) && lt_z (x -ℤ left) (pos 5)) ≡ (le_z left x && le_z x ((left +ℤ pos 5) -ℤ pos 1))
column_from left x = grind (arith, ints, nat_tests)

row_from : (top y : ℤ) → (le_z (pos 0) (y -ℤ top) && lt_z (y -ℤ top) (pos 7)) ≡ is_among (top +ℤ pos 0) 7 y
row_from top y = grind (arith, ints, nat_tests)

-- its rows are in its cell
row_in_cell : (top y : ℤ) → is_among (top +ℤ pos 0) 7 y ≡ true → is_among top HEIGHT y ≡ true
row_in_cell top y h = grind (arith, ints, nat_tests)

column_in_part : (part : Rect) (left x : ℤ) → has_columns part left ≡ true → (le_z left x && le_z x ((left +ℤ pos 5) -ℤ pos 1)) ≡ true → (le_z part.x1 x && le_z x part.x2) ≡ true
column_in_part part left x h i =
    let p = columns_in part left h in
    let a : left ≤ℤ x = grind (arith, ints) in
    let b : x ≤ℤ ((left +ℤ pos 5) -ℤ pos 1) = grind (arith, ints) in
    between part.x1 x part.x2 (omega (arith, ints, p.after)) (omega (arith, ints, p.before)) where
      between : (a x b : ℤ) → a ≤ℤ x → x ≤ℤ b → (le_z a x && le_z x b) ≡ true
      between a x b h i = grind (arith, ints)

either_way : (a b : Bool) (d : Dab) → (if a then (if false then Some d else None) else None) ≡ (if b then (if false then Some d else None) else None)
either_way true true d = refl
either_way true false d = refl
either_way false true d = refl
either_way false false d = refl

-- the part and what is seen of a glyph in it have the same set bits
same_bits : (A A' X C B S cell dot : Bool) (d : Dab) → (X ≡ true → A ≡ true) → S ≡ ((A' && C) && B) → (X ≡ false → dot ≡ false) → (B ≡ false → dot ≡ false) → (B ≡ true → C ≡ true) →
    (if (X && S) then (if (cell && dot) then Some d else None) else None) ≡ (if (A && A') then (if (cell && dot) then Some d else None) else None)
same_bits A A' false C B S cell dot d h e k l m = rw (k refl, and_false cell) (either_way false (A && A') d)
same_bits A A' true C false S cell dot d h e k l m = rw (l refl, and_false cell) (either_way S (A && A') d)
same_bits A true true C true S cell dot d h e k l m = rw (h refl, e, m refl) refl
same_bits A false true C true S cell dot d h e k l m = rw (h refl, e) refl

-- a part has no line of it
no_bits : (A A' C B cell dot : Bool) (d : Dab) → ((A' && C) && B) ≡ false → (B ≡ false → dot ≡ false) → (B ≡ true → C ≡ true) → (if (A && A') then (if (cell && dot) then Some d else None) else None) ≡ None
no_bits false A' C B cell dot d h l m = refl
no_bits true false C B cell dot d h l m = refl
no_bits true true C false cell dot d h l m = rw (l refl, and_false cell) refl
no_bits true true true true cell dot d h l m = cc
no_bits true true false true cell dot d h l m = let e = m refl in cc

pub letter_unseen : (buf : Buffer) (part : Rect) (code : ℕ) (left top : ℤ) (fg : Rgb565) (opa steps : ℕ) → ((v : ℤ) → is_seen part.y1 part.y2 top HEIGHT (pos 0) 7 v ≡ false) →
    Draws buf buf steps steps (within part (only (cell_at built_in code left top) (plain fg opa)))
letter_unseen buf part code left top fg opa steps none =
    draws_none buf steps _ (λ x y i.
    no_bits (le_z part.x1 x && le_z x part.x2) (le_z part.y1 y && le_z y part.y2) (is_among top HEIGHT y) (is_among (top +ℤ pos 0) 7 y) (in_cell HEIGHT (built_in.cell code) (x -ℤ left) (y -ℤ top)) (dot_in code (x -ℤ left) (y -ℤ top)) (record { color = fg; opa = opa })
    (none y) (λ e. above code (x -ℤ left) (y -ℤ top) (row_from top y ∙ e)) (row_in_cell top y))

module _ (code : ℕ) (there : has_built_in code ≡ true) where
  -- the bit of a pixel of the glyph
  in_glyph : (k y : ℕ) → k < 5 → y < 7 → cell_inked HEIGHT (built_in.cell code) (pos k) (pos y) ≡ bit (column_of code k) y
  in_glyph k y p q =
      let e : ltb k 5 ≡ true = grind (arith, nat_tests) in
      let f : ltb y 7 ≡ true = grind (arith, nat_tests) in
      let c : in_cell HEIGHT (built_in.cell code) (pos k) (pos y) ≡ true = grind (arith, ints, nat_tests) in
      rw (c, there, e, f) refl

  letter_dot : (left top : ℤ) (first k line : ℕ) → k < 5 → first + line < 7 → cell_at built_in code left (top -ℤ pos first) (left +ℤ pos k) (top +ℤ pos line) ≡ bit (column_of code k) (first + line)
  letter_dot left top first k line p q =
      let a : (left +ℤ pos k) -ℤ left ≡ pos k = omega (arith, ints) in
      let b : (top +ℤ pos line) -ℤ (top -ℤ pos first) ≡ pos (first + line) = omega (arith, ints) in
      rw (a, b) (in_glyph k (first + line) p q)

  letter_count : (area : Rect) (first line : ℕ) (fg : Rgb565) (opa : ℕ) → first + line < 7 →
      sum_below 5 (λ x. one_if (bit (column_of code x) (first + line))) ≡ row_count (only (cell_at built_in code area.x1 (area.y1 -ℤ pos first)) (plain fg opa)) (area.y1 +ℤ pos line) area.x1 5
  unfolding row_count
  letter_count area first line fg opa low =
      sum_same 5 _ _ (λ i l.
      ap one_if (sym (letter_dot area.x1 area.y1 first i line l low)) ∙ count_if (cell_at built_in code area.x1 (area.y1 -ℤ pos first) (area.x1 +ℤ pos i) (area.y1 +ℤ pos line)) (record { color = fg; opa = opa }))

  -- one line of what is seen
  pub line_stamped : (buf : Buffer) (area : Rect) (first line : ℕ) (ws : List Rgb565) (fg : Rgb565) (opa from to : ℕ) → width_of area ≡ 5 → first + line < 7 → HasLine buf.area area line → HoldsRow buf (area.y1 +ℤ pos line) area.x1 area.x2 →
      length ws ≡ width_of area →
      ((k : ℕ) → k < 5 → slice_index_or ws k black ≡ masked (bit (column_of code k) (first + line)) fg opa (slice_index_or (row_of buf (area.y1 +ℤ pos line) area.x1 area.x2) k black)) →
      to ≡ from + sum_below 5 (λ x. one_if (bit (column_of code x) (first + line))) →
      Draws buf (with_row buf (area.y1 +ℤ pos line) area.x1 ws) from to (within (line_of area line) (only (cell_at built_in code area.x1 (area.y1 -ℤ pos first)) (plain fg opa)))
  line_stamped buf area first line ws fg opa from to wide low has_it row long each counted =
      let under = λ (k : ℕ). slice_index_or (row_of buf (area.y1 +ℤ pos line) area.x1 area.x2) k black in
      let coat = only (cell_at built_in code area.x1 (area.y1 -ℤ pos first)) (plain fg opa) in
      line_drawn buf area line ws coat from to has_it row long
      (λ k l.
      let near : k < 5 = omega (arith, wide) in
      each k near
      ∙ (ap (λ (t : Bool). masked t fg opa (under k)) (sym (letter_dot area.x1 area.y1 first k line near low))
      ∙ laid_if (cell_at built_in code area.x1 (area.y1 -ℤ pos first) (area.x1 +ℤ pos k) (area.y1 +ℤ pos line)) fg (under k) opa))
      (counted ∙ ap (λ (n : ℕ). from + n) (letter_count area first line fg opa low ∙ ap (row_count coat (area.y1 +ℤ pos line) area.x1) (sym wide)))

  module _ (old new : Buffer) (part : Rect) (left top : ℤ) (fg : Rgb565) (opa : ℕ) (h : has_columns part left ≡ true) where
    -- all of it
    pub letter_stamped : (from to : ℕ) (lines : Span) (area : Rect) (first : ℕ) → IsSpan part.y1 part.y2 top HEIGHT (pos 0) 7 lines → area ≡ seen_rect left lines → first ≡ lines.first →
        Draws old new from to (within area (only (cell_at built_in code area.x1 (area.y1 -ℤ pos first)) (plain fg opa))) →
        Draws old new from to (within part (only (cell_at built_in code left top) (plain fg opa)))
    letter_stamped from to lines area first l is same drawn =
        let at = l.first_is in
        let start : lines.from -ℤ pos first ≡ top = omega (arith, ints, same) in
        draws_same old new from to _ _ (λ x y i.
        same_bits (le_z part.x1 x && le_z x part.x2) (le_z part.y1 y && le_z y part.y2) (le_z left x && le_z x ((left +ℤ pos 5) -ℤ pos 1)) (is_among top HEIGHT y) (is_among (top +ℤ pos 0) 7 y) (le_z lines.from y && le_z y lines.to)
        (in_cell HEIGHT (built_in.cell code) (x -ℤ left) (y -ℤ top)) (dot_in code (x -ℤ left) (y -ℤ top)) (record { color = fg; opa = opa })
        (column_in_part part left x h) (sym (l.seen y))
        (λ e. beside code (x -ℤ left) (y -ℤ top) (column_from left x ∙ e))
        (λ e. above code (x -ℤ left) (y -ℤ top) (row_from top y ∙ e))
        (row_in_cell top y))
        (rw (is, start) at drawn)
