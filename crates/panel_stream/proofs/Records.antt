-- The records that a panel writes, and what a viewer makes of them.
use Rattle.std.proofs.Common.{◌≡◌, ◌∙◌, sym, ap, refl, subst, inl, inr, ℕ, ◌+◌, ◌*◌, ◌/◌, ◌%◌, ◌<◌, ◌≤◌, nat_lt, ℤ, pos, negsuc, ◌+ℤ◌, ◌-ℤ◌, ◌≤ℤ◌, true, false, List, [], ◌∷◌, ◌++◌, length, arith}
use Rattle.std.proofs.lemmas.Bool.{cases_lt}
use Rattle.std.proofs.lemmas.Bool.Decides.{nat_tests}
use Rattle.std.proofs.lemmas.Int.{ints}
use Rattle.std.proofs.lemmas.List.{get_or_append_left, length-append}
use Rattle.gui_base.specs.declared.color.Rgb565.{Rgb565}
use Rattle.gui_base.specs.Area.{Rect, area_at, nat_of, width_of, height_of, size_of}
use Rattle.gui_color.specs.Buffer.{Buffer, IsWhole}
use Rattle.panel_stream.specs.StreamPanel.{IsInside}
use Rattle.panel_stream.specs.Viewer.{sixteen, byte_at, number_at, record_len, sizes_kind, area_kind, colors_in, area_said, color_bytes, sizes_bytes, head_bytes, area_bytes, frame_bytes}
use Rattle.panel_stream.proofs.Viewing.{IsRecord}

whole : (n : ℕ) → sixteen (n / 256) (n % 256) ≡ n
whole n = omega arith

pub sizes_back : (n : ℕ) → sixteen (n / 256) (n % 256) ≡ n
sizes_back n = whole n

-- The colours come back from their bytes.
pub colors_back : (colors : List Rgb565) → colors_in (color_bytes colors) ≡ colors
unfolding colors_in
colors_back [] = refl
colors_back (c ∷ colors) = ap (λ (n : ℕ). record { 0 = n } ∷ colors_in (color_bytes colors)) (whole c.0) ∙ ap (λ (l : List Rgb565). c ∷ l) (colors_back colors)

pub length-color_bytes : (colors : List Rgb565) → length (color_bytes colors) ≡ 2 * length colors
length-color_bytes [] = refl
length-color_bytes (c ∷ colors) = let h = length-color_bytes colors in omega arith

at_prefix : (done more r : List ℕ) (i : ℕ) → done ++ more ≡ r → i < length done → byte_at done i ≡ byte_at r i
at_prefix done more r i e lt = sym (get_or_append_left done more 0 i lt) ∙ ap (λ (l : List ℕ). byte_at l i) e

number_prefix : (done more r : List ℕ) (i : ℕ) → done ++ more ≡ r → i + 1 < length done → number_at done i ≡ number_at r i
number_prefix done more r i e lt =
    ap (λ (n : ℕ). sixteen n (byte_at done (i + 1))) (at_prefix done more r i e (omega arith))
    ∙ ap (λ (n : ℕ). sixteen (byte_at r i) n) (at_prefix done more r (i + 1) e lt)

lengths : (done more r : List ℕ) → done ++ more ≡ r → length done + length more ≡ length r
lengths done more r e = sym (length-append done more) ∙ ap (λ (l : List ℕ). length l) e

-- How long records are.
len_sizes : (l : List ℕ) → byte_at l 0 ≡ sizes_kind → record_len l ≡ 5
len_sizes l k = rw k refl

lt_true : (a b : ℕ) → a < b → nat_lt a b ≡ true
lt_true a b h = grind (arith, nat_tests)

lt_false : (a b : ℕ) → b ≤ a → nat_lt a b ≡ false
lt_false a b h = grind (arith, nat_tests)

len_short : (l : List ℕ) → byte_at l 0 ≡ area_kind → length l < 9 → record_len l ≡ 9
len_short l k h = rw (k, lt_true (length l) 9 h) refl

len_long : (l : List ℕ) → byte_at l 0 ≡ area_kind → 9 ≤ length l → record_len l ≡ 9 + 2 * (number_at l 5 * number_at l 7)
len_long l k h = rw (k, lt_false (length l) 9 h) refl

pub frame_record : IsRecord frame_bytes
frame_record = record {
  unfinished = λ done more e a b. absurd (omega (arith, lengths done more frame_bytes e));
  whole = omega arith;
  some = omega arith;
}

pub sizes_record : (width height : ℕ) → IsRecord (sizes_bytes width height)
sizes_record width height = record {
  unfinished = λ done more e a b.
      let k : byte_at done 0 ≡ sizes_kind = at_prefix done more (sizes_bytes width height) 0 e a in
      omega (arith, len_sizes done k, lengths done more (sizes_bytes width height) e);
  whole = omega arith;
  some = omega arith;
}

area_long : (buf : Buffer) → IsWhole buf → length (area_bytes buf) ≡ 9 + 2 * size_of buf.area
area_long buf w =
    length-append (head_bytes buf.area) (color_bytes buf.pixels)
    ∙ ap (λ (n : ℕ). 9 + n) (length-color_bytes buf.pixels ∙ ap (λ (n : ℕ). 2 * n) w)

sizes_said : (buf : Buffer) → 2 * (number_at (area_bytes buf) 5 * number_at (area_bytes buf) 7) ≡ 2 * size_of buf.area
sizes_said buf =
    ap (λ (n : ℕ). 2 * (n * number_at (area_bytes buf) 7)) (whole (width_of buf.area))
    ∙ ap (λ (n : ℕ). 2 * (width_of buf.area * n)) (whole (height_of buf.area))

pub area_record : (buf : Buffer) → IsWhole buf → IsRecord (area_bytes buf)
area_record buf w =
    let r = area_bytes buf in
    let long = area_long buf w in
    record {
      unfinished = λ done more e a b.
          let k : byte_at done 0 ≡ area_kind = at_prefix done more r 0 e a in
          elim (cases_lt (length done) 9) [
            | inl short ↦ subst (λ (n : ℕ). length done < n) (sym (len_short done k short)) short
            | inr past ↦
                let five : number_at done 5 ≡ number_at r 5 = number_prefix done more r 5 e (omega arith) in
                let seven : number_at done 7 ≡ number_at r 7 = number_prefix done more r 7 e (omega arith) in
                let all : record_len done ≡ 9 + 2 * size_of buf.area =
                len_long done k past
                ∙ ap (λ (n : ℕ). 9 + 2 * (n * number_at done 7)) five
                ∙ ap (λ (n : ℕ). 9 + 2 * (number_at r 5 * n)) seven
                ∙ ap (λ (n : ℕ). 9 + n) (sizes_said buf) in
                let both = lengths done more r e in
                subst (λ (n : ℕ). length done < n) (sym all) (omega arith)
          ];
      whole =
          let nine : 9 ≤ length r = omega arith in
          let all : record_len r ≡ 9 + 2 * size_of buf.area = len_long r refl nine ∙ ap (λ (n : ℕ). 9 + n) (sizes_said buf) in
          omega arith;
      some = omega arith;
    }

-- The area that a record tells.
nat_is : (z : ℤ) → pos 0 ≤ℤ z → pos (nat_of z) ≡ z
nat_is (pos n) h = refl
nat_is (negsuc n) h = absurd (omega (arith, ints))

corners : ℤ → ℤ → ℤ → ℤ → Rect
corners l t r m = record { x1 = l; y1 = t; x2 = r; y2 = m }

corners_are : (l t r m l' t' r' m' : ℤ) → l ≡ l' → t ≡ t' → r ≡ r' → m ≡ m' → corners l t r m ≡ corners l' t' r' m'
corners_are l t r m l' t' r' m' a b c d = rw (a, b, c, d) refl

far_end : (a b : ℤ) (n : ℕ) → a ≤ℤ b → n ≡ nat_of ((b -ℤ a) +ℤ pos 1) → (a +ℤ pos n) -ℤ pos 1 ≡ b
far_end a b n order e =
    let some : pos 0 ≤ℤ ((b -ℤ a) +ℤ pos 1) = omega (arith, ints) in
    let there : pos n ≡ (b -ℤ a) +ℤ pos 1 = ap (λ (k : ℕ). pos k) e ∙ nat_is ((b -ℤ a) +ℤ pos 1) some in
    omega (arith, ints)

area_back : (area : Rect) (x y w h : ℕ) → IsInside area → x ≡ nat_of area.x1 → y ≡ nat_of area.y1 → w ≡ width_of area → h ≡ height_of area → area_at (pos x) (pos y) w h ≡ area
unfolding corners
area_back area x y w h i a b c d =
    let left : pos x ≡ area.x1 = ap (λ (k : ℕ). pos k) a ∙ nat_is area.x1 i.left in
    let top : pos y ≡ area.y1 = ap (λ (k : ℕ). pos k) b ∙ nat_is area.y1 i.top in
    corners_are _ _ _ _ area.x1 area.y1 area.x2 area.y2 left top
    (ap (λ (z : ℤ). (z +ℤ pos w) -ℤ pos 1) left ∙ far_end area.x1 area.x2 w i.columns c)
    (ap (λ (z : ℤ). (z +ℤ pos h) -ℤ pos 1) top ∙ far_end area.y1 area.y2 h i.lines d)

pub area_told : (buf : Buffer) → IsInside buf.area → area_said (area_bytes buf) ≡ buf.area
area_told buf i =
    area_back buf.area (number_at (area_bytes buf) 1) (number_at (area_bytes buf) 3) (number_at (area_bytes buf) 5) (number_at (area_bytes buf) 7) i
    (whole (nat_of buf.area.x1)) (whole (nat_of buf.area.y1)) (whole (width_of buf.area)) (whole (height_of buf.area))
