-- The texels of an image over the pixels of an area.
use Rattle.gui_draw.proofs.Common.{pos, laid, ◌≡◌, ◌∙◌, refl, sym, ap, ℕ, ◌+◌, ◌-◌, ◌*◌, ◌<◌, ◌≤◌, ltb, Bool, true, false, ◌&&◌, if◌then◌else◌, List, length, slice_index_or, Some, None, arith, ℤ, ◌≤ℤ◌, ◌+ℤ◌, ◌-ℤ◌, int_min, le_z, ints, nat_tests, cases_Bool, inl, inr, ◌⊎◌, Rgb565, Rect, has, is_empty, width_of, height_of, count_between, black, Buffer, HoldsRow, distance, row_of, with_row, Dab, only, within, Draws, IsInside, IsPart, HasLine, line_of}
use Rattle.gui_draw.proofs.Steps.{draws_none, draws_same}
use Rattle.gui_draw.proofs.Counts.{row_count_all}
use Rattle.gui_font.specs.Bitmaps.{bitmap_texel}
use Rattle.gui_font.specs.declared.images.Bitmap.{Bitmap}
use Rattle.gui_base.specs.declared.words.Format.{Format}
use Rattle.text_defs.specs.declared.Texel.{Texel}
use Rattle.text_defs.specs.Images.{Image, size_in, image_bytes, texel_of, texel_in, texel_size}
use Rattle.text_defs.specs.Coats.{dab_of, is_pictured, texel_coat, picture_coat}
use Rattle.gui_draw.specs.Texels.{row_over, texel_over, texels_in, HasTexels, HasTexelRow, first_pixels}
use Rattle.gui_draw.specs.declared.texels.Texels.{Texels}
use Rattle.gui_draw.proofs.Drawing.{line_drawn}

-- one line of a part
below_top : (top : ℤ) (n : ℕ) → distance top (top +ℤ pos n) ≡ n
below_top top n = omega (arith, ints)

pub texels_drawn : (buf : Buffer) (part : Rect) (line : ℕ) (ws : List Rgb565) (t : Texels) (from to y : ℕ) → y ≡ t.row + line → HasLine buf.area part line → HoldsRow buf (part.y1 +ℤ pos line) part.x1 part.x2 → length ws ≡ width_of part →
    ((k : ℕ) → k < width_of part → slice_index_or ws k black ≡ texel_over t (t.column + k) y (slice_index_or (row_of buf (part.y1 +ℤ pos line) part.x1 part.x2) k black)) →
    to ≡ from + width_of part → Draws buf (with_row buf (part.y1 +ℤ pos line) part.x1 ws) from to (within (line_of part line) (texels_in t part))
texels_drawn buf part line ws t from to y at has_it row long mixed counted =
    line_drawn buf part line ws (texels_in t part) from to has_it row long
    (λ k l. mixed k l ∙ rw (at, below_top part.x1 k, below_top part.y1 line) refl)
    (counted ∙ ap (λ (n : ℕ). from + n) (sym (row_count_all (texels_in t part) (part.y1 +ℤ pos line) part.x1 (width_of part) (λ i. refl))))

pub texel_row : (t : Texels) (part : Rect) (line n : ℕ) → HasTexels t part → line < height_of part → n ≡ width_of part → HasTexelRow t (t.row + line) n
texel_row t part line n h below long =
    let columns = h.columns in
    let rows = h.rows in
    record { columns = omega arith; row = omega arith; whole = h.whole; small = h.small }

-- a texel by the bytes of its row
pub by_row : (t : Texels) (y n k : ℕ) (format : Format) (bytes : List ℕ) (bg : Rgb565) → HasTexelRow t y n → k < n → t.bitmap.format ≡ format →
    ((x : ℕ) → x < t.bitmap.width → texel_in t.bitmap.format bytes (x * texel_size t.bitmap.format) ≡ bitmap_texel t.bitmap x y) →
    row_over format bytes t.recolor t.opa (t.column + k) bg ≡ texel_over t (t.column + k) y bg
by_row t y n k format bytes bg h l e is =
    let columns = h.columns in
    let texel : texel_in format bytes ((t.column + k) * texel_size format) ≡ bitmap_texel t.bitmap (t.column + k) y = rw (← e) (is (t.column + k) (omega arith)) in
    ap (λ (texel : Texel). laid (Some (dab_of texel t.recolor t.opa)) bg) texel

-- the part of an item in a clip has its first pixel in the item
first_in : (p c i : Bool) → p ≡ true → p ≡ (c && i) → i ≡ true
first_in p true i h e = sym e ∙ h
first_in p false i h e = cc

first_has : (part : Rect) → is_empty part ≡ false → has part part.x1 part.y1 ≡ true
first_has part some = grind (arith, ints, nat_tests)

sides : (area part : Rect) → has area part.x1 part.y1 ≡ true → (area.x1 ≤ℤ part.x1) × (area.y1 ≤ℤ part.y1)
sides area part h = (grind (arith, ints), grind (arith, ints))

pub part_after : (buf clip area part : Rect) → IsPart buf clip area part → (area.x1 ≤ℤ part.x1) × (area.y1 ≤ℤ part.y1)
part_after buf clip area part is =
    sides area part (first_in (has part part.x1 part.y1) (has clip part.x1 part.y1) (has area part.x1 part.y1) (first_has part is.inside.some) (is.pixels part.x1 part.y1 is.inside.first))

pub part_order : (part : Rect) → is_empty part ≡ false → (part.x1 ≤ℤ part.x2) × (part.y1 ≤ℤ part.y2)
part_order part some = (grind (arith, ints), grind (arith, ints))

-- along one axis
cut_axis : (low first last v : ℤ) (size column : ℕ) → low ≤ℤ first → column ≡ distance low first → column < size →
    (le_z first v && le_z v (int_min last ((first +ℤ pos (size - column)) -ℤ pos 1))) ≡ ((le_z first v && le_z v last) && ltb (distance low v) size)
cut_axis low first last v size column after is some = elim (cases_Bool (le_z first v)) [
  | inl from ↦ grind (arith, ints, nat_tests)
  | inr before ↦ rw before refl
]

beyond_axis : (low first last v : ℤ) (size column : ℕ) → low ≤ℤ first → column ≡ distance low first → size ≤ column → (le_z first v && le_z v last) ≡ true → ltb (distance low v) size ≡ false
beyond_axis low first last v size column after is none h = grind (arith, ints, nat_tests)

place_axis : (low first v : ℤ) (column : ℕ) → low ≤ℤ first → column ≡ distance low first → first ≤ℤ v → column + distance first v ≡ distance low v
place_axis low first v column after is h = omega (arith, ints)

swap : (a m b n : Bool) → ((a && m) && (b && n)) ≡ ((a && b) && (m && n))
swap true true b n = refl
swap true false true n = refl
swap true false false n = refl
swap false m b n = refl

coat_same : (p n s : Bool) (d e : Dab) → s ≡ (p && n) → (p ≡ true → d ≡ e) → (if s then Some d else None) ≡ (if p then (if n then Some e else None) else None)
coat_same true true s d e h k = rw h (ap Some (k refl))
coat_same true false s d e h k = rw h refl
coat_same false n s d e h k = rw h refl

starts : (part : Rect) (x y : ℤ) → has part x y ≡ true → (part.x1 ≤ℤ x) × (part.y1 ≤ℤ y)
starts part x y h = (grind (arith, ints), grind (arith, ints))

-- what is known of the texels of an image
pub record IsBitmap (images : List Image) (id : ℕ) (b : Bitmap) : Type 0 where
  pub size : size_in images id ≡ Some (b.width, b.height)
  pub whole : length b.bytes.now ≡ image_bytes b.format b.width b.height
  pub texels : (x y : ℕ) → bitmap_texel b x y ≡ texel_of images id x y

-- the first pixels of a part, as many as the picture has there
module _ (area part : Rect) (images : List Image) (id : ℕ) (bitmap : Bitmap) (recolor : Rgb565) (opa column row : ℕ) (is : IsBitmap images id bitmap) (after : (area.x1 ≤ℤ part.x1) × (area.y1 ≤ℤ part.y1))
    (column_is : column ≡ distance area.x1 part.x1) (row_is : row ≡ distance area.y1 part.y1) where
  pictured : (x y : ℤ) → is_pictured area images id x y ≡ (ltb (distance area.x1 x) bitmap.width && ltb (distance area.y1 y) bitmap.height)
  pictured x y = rw is.size refl

  dab_is : (seen : Rect) (x y : ℤ) → seen.x1 ≡ part.x1 → seen.y1 ≡ part.y1 → has part x y ≡ true →
      dab_of (bitmap_texel bitmap (column + distance seen.x1 x) (row + distance seen.y1 y)) recolor opa ≡ dab_of (texel_of images id (distance area.x1 x) (distance area.y1 y)) recolor opa
  dab_is seen x y ex ey h =
      let at = starts part x y h in
      rw (ex, ey, place_axis area.x1 part.x1 x column after.0 column_is at.0, place_axis area.y1 part.y1 y row after.1 row_is at.1, is.texels (distance area.x1 x) (distance area.y1 y)) refl

  pub picture_some : (old new : Buffer) (from to : ℕ) → column < bitmap.width → row < bitmap.height →
      Draws old new from to (within (first_pixels part (bitmap.width - column) (bitmap.height - row)) (texels_in (record { bitmap = bitmap; recolor = recolor; opa = opa; column = column; row = row }) (first_pixels part (bitmap.width - column) (bitmap.height - row)))) →
      Draws old new from to (within part (only (is_pictured area images id) (texel_coat area images id recolor opa)))
  picture_some old new from to p q h =
      let seen = first_pixels part (bitmap.width - column) (bitmap.height - row) in
      draws_same old new from to _ _ (λ x y i.
      coat_same (has part x y) (is_pictured area images id x y) (has seen x y) _ _
      (ap (λ (t : Bool). t && (le_z seen.y1 y && le_z y seen.y2)) (cut_axis area.x1 part.x1 part.x2 x bitmap.width column after.0 column_is p)
      ∙ (ap (λ (t : Bool). ((le_z part.x1 x && le_z x part.x2) && ltb (distance area.x1 x) bitmap.width) && t) (cut_axis area.y1 part.y1 part.y2 y bitmap.height row after.1 row_is q)
      ∙ (swap (le_z part.x1 x && le_z x part.x2) (ltb (distance area.x1 x) bitmap.width) (le_z part.y1 y && le_z y part.y2) (ltb (distance area.y1 y) bitmap.height)
      ∙ ap (λ (t : Bool). has part x y && t) (sym (pictured x y)))))
      (λ k. dab_is seen x y refl refl k)) h

  both_none : (a b : Bool) (m n : Bool) → ((a ≡ true → m ≡ false) ⊎ (b ≡ true → n ≡ false)) → (d : Dab) → (if (a && b) then (if (m && n) then Some d else None) else None) ≡ None
  both_none true true m n (inl h) d = rw (h refl) refl
  both_none true true m n (inr h) d = rw (h refl, and_false m) refl where
    and_false : (t : Bool) → (t && false) ≡ false
    and_false true = refl
    and_false false = refl
  both_none true false m n h d = refl
  both_none false b m n h d = refl

  pub picture_beyond : (old : Buffer) (steps : ℕ) → (bitmap.width ≤ column) ⊎ (bitmap.height ≤ row) → Draws old old steps steps (within part (only (is_pictured area images id) (texel_coat area images id recolor opa)))
  picture_beyond old steps none =
      draws_none old steps _ (λ x y i.
      ap (λ (t : Bool). if has part x y then (if t then texel_coat area images id recolor opa x y else None) else None) (pictured x y)
      ∙ both_none (le_z part.x1 x && le_z x part.x2) (le_z part.y1 y && le_z y part.y2) (ltb (distance area.x1 x) bitmap.width) (ltb (distance area.y1 y) bitmap.height) (either x y) _) where
        either : (x y : ℤ) → (((le_z part.x1 x && le_z x part.x2) ≡ true → ltb (distance area.x1 x) bitmap.width ≡ false) ⊎ ((le_z part.y1 y && le_z y part.y2) ≡ true → ltb (distance area.y1 y) bitmap.height ≡ false))
        either x y = elim none [
          | inl h ↦ inl (λ k. beyond_axis area.x1 part.x1 part.x2 x bitmap.width column after.0 column_is h k)
          | inr h ↦ inr (λ k. beyond_axis area.y1 part.y1 part.y2 y bitmap.height row after.1 row_is h k)
        ]

  pub texels_there : (column < bitmap.width) × (row < bitmap.height) → (bitmap.width < 65536) × (bitmap.height < 65536) →
      HasTexels (record { bitmap = bitmap; recolor = recolor; opa = opa; column = column; row = row }) (first_pixels part (bitmap.width - column) (bitmap.height - row))
  texels_there p small = record {
    columns = fits part.x1 part.x2 column bitmap.width p.0;
    rows = fits part.y1 part.y2 row bitmap.height p.1;
    whole = is.whole;
    small = small;
  } where
    fits : (first last : ℤ) (n size : ℕ) → n < size → n + count_between first (int_min last ((first +ℤ pos (size - n)) -ℤ pos 1)) ≤ size
    fits first last n size h = grind (arith, ints)

-- the first pixels of a part are inside
inside_of : (area : Rect) (x1 y1 x2 y2 x y : ℤ) → has area x1 y1 ≡ true → has area x2 y2 ≡ true → x1 ≤ℤ x → x ≤ℤ x2 → y1 ≤ℤ y → y ≤ℤ y2 → has area x y ≡ true
inside_of area x1 y1 x2 y2 x y first last a b c d = grind (arith, ints)

cut_order : (first last : ℤ) (n : ℕ) → first ≤ℤ last → 1 ≤ n → (first ≤ℤ int_min last ((first +ℤ pos n) -ℤ pos 1)) × (int_min last ((first +ℤ pos n) -ℤ pos 1) ≤ℤ last)
cut_order first last n h k = (grind (arith, ints), grind (arith, ints))

not_empty : (a : Rect) → a.x1 ≤ℤ a.x2 → a.y1 ≤ℤ a.y2 → is_empty a ≡ false
not_empty a h k = grind (arith, ints, nat_tests)

pub first_inside : (area part : Rect) (columns lines : ℕ) → IsInside area part → 1 ≤ columns → 1 ≤ lines → IsInside area (first_pixels part columns lines)
first_inside area part columns lines h p q =
    let order = part_order part h.some in
    let x = cut_order part.x1 part.x2 columns order.0 p in
    let y = cut_order part.y1 part.y2 lines order.1 q in
    let seen = first_pixels part columns lines in record {
      some = not_empty seen x.0 y.0;
      first = h.first;
      last = inside_of area part.x1 part.y1 part.x2 part.y2 seen.x2 seen.y2 h.first h.last x.0 x.1 y.0 y.1;
    }

-- nothing is drawn of an image that is not there
not_there : (a b n : Bool) (d : Dab) → n ≡ false → (if a then (if b then (if n then Some d else None) else None) else None) ≡ None
not_there true true n d h = rw h refl
not_there true false n d h = refl
not_there false b n d h = refl

pub picture_none : (buf : Buffer) (steps : ℕ) (clip area : Rect) (images : List Image) (id : ℕ) (recolor : Rgb565) (opa : ℕ) → size_in images id ≡ None → Draws buf buf steps steps (within clip (picture_coat area images id recolor opa))
picture_none buf steps clip area images id recolor opa none =
    draws_none buf steps _ (λ x y i. not_there (has clip x y) (has area x y) (is_pictured area images id x y) _ (rw none refl))
