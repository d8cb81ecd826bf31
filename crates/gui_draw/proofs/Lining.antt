-- Lines of cells, one line after another.
use Rattle.gui_draw.proofs.Common.{pos, ◌≡◌, ◌∙◌, refl, sym, ap, ℕ, zero, suc, ◌+◌, ◌-◌, ◌*◌, ◌≤◌, Bool, true, false, ◌&&◌, ◌||◌, if◌then◌else◌, Option, Some, None, List, [], ◌∷◌, take, drop, length, is_some, arith, inl, inr, ℤ, ◌≤ℤ◌, ◌+ℤ◌, ◌-ℤ◌, le_z, lt_z, ints, nat_tests, cases_Bool, Rgb565, Rect, has, width_of, IsPart, Buffer, Face, Dab, Coat, only, within, plain, Draws, run_at, lines_at, letter_count, DrawsIn, IsPen, IsOutside}
use Rattle.gui_base.specs.Area.{IsCoordinate}
use Rattle.gui_draw.proofs.Lines.{part_inside, part_outside}
use Rattle.gui_draw.proofs.Steps.{draws_same, draws_both}
use Rattle.std.proofs.lemmas.List.{length-take, length-drop}
use Rattle.std.proofs.lemmas.List.Sums.{sum_by-cons}
use Rattle.gui_base.specs.declared.words.TextAlign.{TextAlign}
use Rattle.text_defs.specs.declared.TextLook.{TextLook}
use Rattle.text_defs.specs.Fonts.{Font, finished, has_font, is_done, font_of}
use Rattle.text_defs.specs.Ink.{cell_inked, run_inked, lines_inked, line_at}
use Rattle.text_defs.specs.Lines.{LineSetting, TextLine, run_width, lines, lines_of, first_length, is_broken, left_after, after_newline, bytes_to_next}
use Rattle.std.proofs.Common.{option_map}
use Rattle.gui_font.specs.Walks.{setting}
use Rattle.gui_font.proofs.Inking.{text_inked}
use Rattle.text_defs.specs.Coats.{ink_coat}
use Rattle.gui_draw.proofs.Running.{both_in, one_in, apart_in, draws_none_from, draws_later}

and_false : (a : Bool) → (a && false) ≡ false
and_false true = refl
and_false false = refl

above : (a b d : Bool) → ((a && (false && b)) && d) ≡ false
above true b d = refl
above false b d = refl

below : (a b d : Bool) → ((a && (b && false)) && d) ≡ false
below true true d = refl
below true false d = refl
below false b d = refl

-- no ink above a run, nor below it
module _ (face : Face) (letter : ℕ) (y : ℤ) where
  run_above : le_z (pos 0) y ≡ false → (cs : List ℕ) (x : ℤ) → run_inked face letter cs x y ≡ false
  run_above h [] x = refl
  run_above h (c ∷ cs) x =
      let here : cell_inked face.height (face.cell c) x y ≡ false = rw h (above (le_z (pos 0) x && lt_z x (pos (face.cell c).advance)) (lt_z y (pos face.height)) ((face.cell c).dot x y)) in
      rw (here, run_above h cs (x -ℤ pos ((face.cell c).advance + letter))) refl

  run_below : lt_z y (pos face.height) ≡ false → (cs : List ℕ) (x : ℤ) → run_inked face letter cs x y ≡ false
  run_below h [] x = refl
  run_below h (c ∷ cs) x =
      let here : cell_inked face.height (face.cell c) x y ≡ false = rw h (below (le_z (pos 0) x && lt_z x (pos (face.cell c).advance)) (le_z (pos 0) y) ((face.cell c).dot x y)) in
      rw (here, run_below h cs (x -ℤ pos ((face.cell c).advance + letter))) refl

still_above : (y : ℤ) (n : ℕ) → le_z (pos 0) y ≡ false → le_z (pos 0) (y -ℤ pos n) ≡ false
still_above y n h = grind (arith, ints, nat_tests)

next_above : (y sy top next : ℤ) (height pitch : ℕ) → height ≤ pitch → sy ≡ top → next ≡ top +ℤ pos pitch → lt_z (y -ℤ sy) (pos height) ≡ true → le_z (pos 0) (y -ℤ next) ≡ false
next_above y sy top next height pitch h a b c = grind (arith, ints, nat_tests)

less_both : (x left line sx : ℤ) → sx ≡ left +ℤ line → (x -ℤ left) -ℤ line ≡ x -ℤ sx
less_both x left line sx e = omega (arith, ints)

module _ (s : LineSetting) (align : TextAlign) (pitch whole : ℕ) where
  lines_above : (lines : List TextLine) (x y : ℤ) → le_z (pos 0) y ≡ false → lines_inked s align pitch whole lines x y ≡ false
  lines_above [] x y h = refl
  lines_above (line ∷ rest) x y h =
      rw (run_above s.face s.letter y h line.chars (x -ℤ line_at align (pos whole) (pos (run_width s line.chars))), lines_above rest x (y -ℤ pos pitch) (still_above y pitch h)) refl

  -- the ink of a first line, and then of the others
  first_and_rest : (first : TextLine) (after : List TextLine) (left top sx sy next x y : ℤ) → sx ≡ left +ℤ line_at align (pos whole) (pos (run_width s first.chars)) → sy ≡ top → next ≡ top +ℤ pos pitch →
      lines_at s align pitch whole (first ∷ after) left top x y ≡ (run_at s.face s.letter first.chars sx sy x y || lines_at s align pitch whole after left next x y)
  first_and_rest first after left top sx sy next x y a b c =
      let line = line_at align (pos whole) (pos (run_width s first.chars)) in
      let ex = less_both x left line sx a in
      let ey : y -ℤ top ≡ y -ℤ sy = ap (λ (v : ℤ). y -ℤ v) (sym b) in
      let en = less_both y top (pos pitch) next c in
      ap (λ (v : ℤ). run_inked s.face s.letter first.chars v (y -ℤ top) || lines_inked s align pitch whole after (x -ℤ left) ((y -ℤ top) -ℤ pos pitch)) ex
      ∙ (ap (λ (v : ℤ). run_inked s.face s.letter first.chars (x -ℤ sx) v || lines_inked s align pitch whole after (x -ℤ left) ((y -ℤ top) -ℤ pos pitch)) ey
      ∙ ap (λ (v : ℤ). run_inked s.face s.letter first.chars (x -ℤ sx) (y -ℤ sy) || lines_inked s align pitch whole after (x -ℤ left) v) en)

  first_apart : (first : TextLine) (after : List TextLine) (left top sx sy next x y : ℤ) → s.face.height ≤ pitch → sy ≡ top → next ≡ top +ℤ pos pitch →
      (run_at s.face s.letter first.chars sx sy x y && lines_at s align pitch whole after left next x y) ≡ false
  first_apart first after left top sx sy next x y tall b c = elim (cases_Bool (lt_z (y -ℤ sy) (pos s.face.height))) [
    | inl inside ↦
        rw (lines_above after (x -ℤ left) (y -ℤ next) (next_above y sy top next s.face.height pitch tall b c inside)) (and_false (run_at s.face s.letter first.chars sx sy x y))
    | inr under ↦ rw (run_below s.face s.letter (y -ℤ sy) under first.chars (x -ℤ sx)) refl
  ]

  pub lines_more : (old mid new : Buffer) (part : Rect) (first : TextLine) (after : List TextLine) (left top sx sy next : ℤ) (color : Rgb565) (opa from via to : ℕ) →
      s.face.height ≤ pitch → sx ≡ left +ℤ line_at align (pos whole) (pos (run_width s first.chars)) → sy ≡ top → next ≡ top +ℤ pos pitch →
      Draws old mid from via (within part (only (run_at s.face s.letter first.chars sx sy) (plain color opa))) →
      Draws mid new via to (within part (only (lines_at s align pitch whole after left next) (plain color opa))) →
      Draws old new from to (within part (only (lines_at s align pitch whole (first ∷ after) left top) (plain color opa)))
  lines_more old mid new part first after left top sx sy next color opa from via to tall a b c h k =
      let d : Dab = record { color = color; opa = opa } in
      let A = λ (x y : ℤ). has part x y && run_at s.face s.letter first.chars sx sy x y in
      let B = λ (x y : ℤ). has part x y && lines_at s align pitch whole after left next x y in
      draws_same old new from to _ _ (λ x y i.
      sym (both_in (has part x y) (run_at s.face s.letter first.chars sx sy x y) (lines_at s align pitch whole after left next x y) d)
      ∙ ap (λ (t : Bool). if has part x y then (if t then Some d else None) else None) (sym (first_and_rest first after left top sx sy next x y a b c)))
      (draws_both old mid new from via to A B (plain color opa)
      (λ x y i. apart_in (has part x y) _ _ (first_apart first after left top sx sy next x y tall b c))
      (draws_same old mid from via _ _ (λ x y i. one_in (has part x y) (run_at s.face s.letter first.chars sx sy x y) d) h)
      (draws_same mid new via to _ _ (λ x y i. one_in (has part x y) (lines_at s align pitch whole after left next x y) d) k))

-- the first lines of some were drawn; what draws the others draws all of them
pub record Lining (s : LineSetting) (align : TextAlign) (pitch whole : ℕ) (all : List TextLine) (part : Rect) (color : Rgb565) (opa : ℕ) (old buf : Buffer) (from to : ℕ) (left top : ℤ) (rest : List TextLine) (x y : ℤ) : Type 0 where
  pub area_is : buf.area ≡ old.area
  pub x_is : x ≡ left
  pub low : top ≤ℤ y
  pub high : y ≤ℤ (top +ℤ pos (510 * (1001 - length rest)))
  pub few : length rest ≤ 1001
  pub used : ℕ
  pub letters : used + letter_count rest ≤ letter_count all
  pub others :
      (new : Buffer) (more last : ℕ) → Draws buf new (to + more) last (within part (only (lines_at s align pitch whole rest left y) (plain color opa))) →
      Draws old new (from + used + more) last (within part (only (lines_at s align pitch whole all left top) (plain color opa)))

-- a line of them may begin there
pub pen_line : {s : LineSetting} {align : TextAlign} {pitch whole opa from to : ℕ} {all rest : List TextLine} {part : Rect} {color : Rgb565} {old buf : Buffer} {left top x y : ℤ} →
    Lining s align pitch whole all part color opa old buf from to left top rest x y → IsCoordinate top → IsPen y
pen_line h k = let low = h.low in let high = h.high in (omega (arith, ints), omega (arith, ints))

module _ (s : LineSetting) (align : TextAlign) (pitch whole : ℕ) (all : List TextLine) (part : Rect) (color : Rgb565) (opa : ℕ) where
  pub lining_none : (buf : Buffer) (from : ℕ) (left top : ℤ) → length all ≤ 1001 → Lining s align pitch whole all part color opa buf buf from from left top all left top
  lining_none buf from left top few = record {
    area_is = refl;
    x_is = refl;
    low = omega (arith, ints);
    high = omega (arith, ints);
    few = few;
    used = 0;
    letters = omega arith;
    others = λ new more last h. let e : from + 0 + more ≡ from + more = omega arith in rw e h;
  }

  pub lining_more : (old buf mid : Buffer) (from to to' : ℕ) (left top : ℤ) (rest after : List TextLine) (first : TextLine) (count : ℕ) (x y sx sy x' y' : ℤ) → Lining s align pitch whole all part color opa old buf from to left top rest x y →
      rest ≡ first ∷ after → count ≡ length first.chars → s.face.height ≤ pitch → pitch ≤ 510 → sx ≡ x +ℤ line_at align (pos whole) (pos (run_width s first.chars)) → sy ≡ y → x' ≡ x → y' ≡ y +ℤ pos pitch →
      DrawsIn count buf mid to to' (within part (only (run_at s.face s.letter first.chars sx sy) (plain color opa))) → Lining s align pitch whole all part color opa old mid from to' left top after x' y'
  lining_more old buf mid from to to' left top rest after first count x y sx sy x' y' h split counted tall small sx_is sy_is x_same y_is drawn =
      let shorter : length rest ≡ suc (length after) = ap length split in
      let sums : letter_count rest ≡ length first.chars + letter_count after = ap letter_count split ∙ sum_by-cons (λ line. length line.chars) first after in
      let few = h.few in
      let low = h.low in
      let high = h.high in
      let start : sx ≡ left +ℤ line_at align (pos whole) (pos (run_width s first.chars)) = sx_is ∙ ap (λ (v : ℤ). v +ℤ line_at align (pos whole) (pos (run_width s first.chars))) h.x_is in record {
        area_is = drawn.draws.area_stays ∙ h.area_is;
        x_is = x_same ∙ h.x_is;
        low = omega (arith, ints);
        high = omega (arith, ints);
        few = omega arith;
        used = h.used + drawn.more;
        letters = omega (arith, h.letters, drawn.few, sums, counted);
        others = λ new more last k.
            let e : from + (h.used + drawn.more) + more ≡ from + h.used + (drawn.more + more) = omega arith in
            let f : to + drawn.more + more ≡ to + (drawn.more + more) = omega arith in
            let here = rw f at (draws_later buf mid (to + drawn.more) to' more _ drawn.draws) in
            rw e (h.others new (drawn.more + more) last
            (rw split (lines_more s align pitch whole buf mid new part first after left y sx sy y' color opa (to + (drawn.more + more)) (to' + more) last tall start sy_is y_is here k)));
      }

  pub lining_all : (old buf : Buffer) (from to : ℕ) (left top : ℤ) (rest : List TextLine) (x y : ℤ) → Lining s align pitch whole all part color opa old buf from to left top rest x y → rest ≡ [] →
      DrawsIn (letter_count all) old buf from to (within part (only (lines_at s align pitch whole all left top) (plain color opa)))
  lining_all old buf from to left top rest x y h none =
      let e : from + h.used ≡ from + h.used + 0 = omega arith in
      let ended : Draws buf buf (to + 0) to (within part (only (lines_at s align pitch whole rest left y) (plain color opa))) = rw none (draws_none_from buf to _ (λ x y i. nothing (has part x y))) in record {
        more = h.used;
        few = omega (arith, h.letters);
        draws = rw e (h.others buf 0 to ended);
      } where
        empty : Option Dab
        empty = None

        nothing : (t : Bool) → (if t then empty else empty) ≡ empty
        nothing true = refl
        nothing false = refl

-- the characters of the lines of a text
left_length : Option (List ℕ) → ℕ
left_length None = 0
left_length (Some cs) = length cs

newline_less : (cs : List ℕ) → left_length (after_newline cs) ≤ length cs
unfolding left_length
newline_less [] = omega arith
newline_less (c ∷ cs) = omega arith

rest_less : (broken : Bool) (cs : List ℕ) → left_length (if broken then Some cs else after_newline cs) ≤ length cs
unfolding left_length
rest_less true cs = omega arith
rest_less false cs = newline_less cs

letters_few : (s : LineSetting) (n at : ℕ) (left : Option (List ℕ)) → letter_count (lines_of s n at left) ≤ left_length left
unfolding left_length
letters_few s n at None = omega arith
letters_few s zero at (Some cs) = omega arith
letters_few s (suc n) at (Some cs) =
    let k = first_length s cs in
    let rest = lines_of s n (at + bytes_to_next s cs) (left_after s cs) in
    let first : TextLine = record { start = at; chars = take k cs } in
    let sums : letter_count (first ∷ rest) ≡ length (take k cs) + letter_count rest = sum_by-cons (λ (line : TextLine). length line.chars) first rest in
    omega (arith, sums, length-take k cs, length-drop k cs, letters_few s n (at + bytes_to_next s cs) (left_after s cs), rest_less (is_broken s cs) (drop k cs))

pub letters_most : (s : LineSetting) (cs : List ℕ) → letter_count (lines s cs) ≤ length cs
unfolding lines left_length
letters_most s cs = letters_few s (length cs + 1) 0 (Some cs)

-- a finished font is there
pub font_there : (fonts : List Font) (name : ℕ) → finished fonts name ≡ Some true → has_font fonts name ≡ true
font_there fonts name h = go _ (font_of fonts name) h where
  go : (zeroth : Bool) (font : Option Font) → (if zeroth then Some true else option_map is_done font) ≡ Some true → (zeroth || is_some font) ≡ true
  go true font h = refl
  go false None h = cc
  go false (Some font) h = refl

-- a line that no pixel of a part can show
nothing_in : (t r : Bool) (d : Dab) → (t ≡ true → r ≡ false) → (if t then (if r then Some d else None) else None) ≡ None
nothing_in true r d h = rw (h refl) refl
nothing_in false r d h = refl

over : (part : Rect) (x y top : ℤ) → has part x y ≡ true → lt_z part.y2 top ≡ true → le_z (pos 0) (y -ℤ top) ≡ false
over part x y top h k = grind (arith, ints, nat_tests)

under : (part : Rect) (x y top : ℤ) (height : ℕ) → has part x y ≡ true → le_z (top +ℤ pos height) part.y1 ≡ true → lt_z (y -ℤ top) (pos height) ≡ false
under part x y top height h k = grind (arith, ints, nat_tests)

second_of : (a b : Bool) → a ≡ false → (a || b) ≡ true → b ≡ true
second_of true b h k = cc
second_of false b h k = k

pub line_beside : (buf : Buffer) (part : Rect) (face : Face) (letter : ℕ) (cs : List ℕ) (left top : ℤ) (color : Rgb565) (opa steps count height : ℕ) → height ≡ face.height → (lt_z part.y2 top || le_z (top +ℤ pos height) part.y1) ≡ true →
    DrawsIn count buf buf steps steps (within part (only (run_at face letter cs left top) (plain color opa)))
line_beside buf part face letter cs left top color opa steps count height is beside = record {
  more = 0;
  few = omega arith;
  draws = draws_none_from buf steps _ (λ x y i. nothing_in (has part x y) (run_at face letter cs left top x y) _ (none x y));
} where
  none : (x y : ℤ) → has part x y ≡ true → run_at face letter cs left top x y ≡ false
  none x y h = elim (cases_Bool (lt_z part.y2 top)) [
    | inl up ↦ run_above face letter (y -ℤ top) (over part x y top h up) cs (x -ℤ left)
    | inr down ↦ run_below face letter (y -ℤ top) (ap (λ (n : ℕ). lt_z (y -ℤ top) (pos n)) (sym is) ∙ under part x y top height h (second_of _ _ down beside)) cs (x -ℤ left)
  ]

pub line_within : (old new : Buffer) (from count to : ℕ) (coat : Coat) → Draws old new (from + count) to coat → DrawsIn count old new from to coat
line_within old new from count to coat h = record { more = count; few = omega arith; draws = h }

-- a text in its area and in a clip
pub text_drawn : (old new : Buffer) (clip area part : Rect) (face : Face) (look : TextLook) (cs : List ℕ) (color : Rgb565) (opa from to : ℕ) (s : LineSetting) (runs : List TextLine) (whole : ℕ) (left top : ℤ) → IsPart old.area clip area part →
    s ≡ setting face look (Some (width_of area)) → runs ≡ lines (setting face look (Some (width_of area))) cs → whole ≡ width_of area → left ≡ area.x1 → top ≡ area.y1 →
    DrawsIn (letter_count runs) old new from to (within part (only (lines_at s look.align (face.height + look.line) whole runs left top) (plain color opa))) →
    DrawsIn (length cs) old new from to (within clip (ink_coat area face look cs color opa))
text_drawn old new clip area part face look cs color opa from to s runs whole left top is e1 e2 e3 e4 e5 h = record {
  more = h.more;
  few = omega (arith, h.few, letters_most (setting face look (Some (width_of area))) cs, ap letter_count e2);
  draws = part_inside old new clip area part _ _ _ is
      (draws_same old new _ to _ _ (λ x y i.
      ap (λ (t : Bool). if has part x y then (if t then Some (record { color = color; opa = opa }) else None) else None)
      (text_inked face look cs (width_of area) (x -ℤ area.x1) (y -ℤ area.y1) s runs whole (x -ℤ left) (y -ℤ top) e1 e2 e3 (ap (λ (v : ℤ). x -ℤ v) e4) (ap (λ (v : ℤ). y -ℤ v) e5))) h.draws);
}

pub text_outside : (buf : Buffer) (clip area : Rect) (face : Face) (look : TextLook) (cs : List ℕ) (color : Rgb565) (opa steps : ℕ) → IsOutside buf.area clip area → DrawsIn (length cs) buf buf steps steps (within clip (ink_coat area face look cs color opa))
text_outside buf clip area face look cs color opa steps out =
    let e : steps + 0 ≡ steps = omega arith in
    record { more = 0; few = omega arith; draws = rw e (part_outside buf clip area _ steps out) }

pub run_count : (count : ℕ) (cs run : List ℕ) → take count cs ≡ run → count ≤ length cs → count ≡ length run
run_count count cs run e h = rw (← e) (simp length-take (omega arith))
