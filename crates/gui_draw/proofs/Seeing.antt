-- What is seen of a glyph.
use Rattle.gui_draw.proofs.Common.{pos, negsuc, ◌≡◌, ◌∙◌, refl, sym, ap, ℕ, ◌+◌, ◌*◌, ◌<◌, Bool, true, false, ◌&&◌, if◌then◌else◌, ltb, List, length, Some, None, arith, ℤ, ◌≤ℤ◌, ◌+ℤ◌, ◌-ℤ◌, le_z, lt_z, ints, nat_tests, Rect, has, is_empty, count_between, distance, mask_bit, Dab, IsInside, glyph_from, glyph_at, span_rect, dots_in, HasDots, is_among, is_seen, IsSpan}
use Rattle.std.specs.Borrow.{Bor}
use Rattle.std.proofs.lemmas.Nat.{mul-le}
use Rattle.gui_base.proofs.Areas.{between_has, has_between}
use Rattle.gui_color.proofs.Places.{distance_is, distance_below}
use Rattle.text_defs.specs.declared.GlyphBox.{GlyphBox}
use Rattle.text_defs.specs.Bits.{bit_of}
use Rattle.text_defs.specs.Fonts.{Glyph, dot_at, row_at, row_bytes}
use Rattle.gui_draw.specs.declared.glyphs.Span.{Span}
use Rattle.gui_draw.specs.declared.dots.Dots.{Dots}

among_from : (from x : ℤ) (n : ℕ) → (le_z (pos 0) (x -ℤ from) && lt_z (x -ℤ from) (pos n)) ≡ is_among from n x
among_from from x n = grind (arith, ints, nat_tests)

and_false : (a : Bool) → (a && false) ≡ false
and_false true = refl
and_false false = refl

combine : (A A' C C' B B' dot bit S S' : Bool) (d : Dab) → S ≡ ((A && C) && B) → S' ≡ ((A' && C') && B') → (B ≡ false → dot ≡ false) → (B' ≡ false → dot ≡ false) → (S ≡ true → S' ≡ true → dot ≡ bit) →
    (if (A && A') then (if ((C && C') && dot) then Some d else None) else None) ≡ (if (S && S') then (if bit then Some d else None) else None)
combine false A' C C' B B' dot bit S S' d e e' f f' g = rw e refl
combine true false C C' B B' dot bit S S' d e e' f f' g = rw (e', and_false S) refl
combine true true false C' B B' dot bit S S' d e e' f f' g = rw e refl
combine true true true false B B' dot bit S S' d e e' f f' g = rw (e', and_false S) refl
combine true true true true false B' dot bit S S' d e e' f f' g = rw (e, f refl) refl
combine true true true true true false dot bit S S' d e e' f f' g = rw (e', f' refl, and_false S) refl
combine true true true true true true dot bit S S' d e e' f f' g = rw (e, e', g e e') refl

mid_false : (a b : Bool) → ((a && false) && b) ≡ false
mid_false true b = refl
mid_false false b = refl

-- no bit outside the box
out_left : (g : Glyph) (a b : ℤ) → (le_z (pos 0) a && lt_z a (pos g.shape.w)) ≡ false → dot_at g a b ≡ false
out_left g (pos x) (pos y) h = let e : ltb x g.shape.w ≡ false = grind (arith, ints, nat_tests) in rw e refl
out_left g (pos x) (negsuc y) h = refl
out_left g (negsuc x) b h = refl

out_above : (g : Glyph) (a b : ℤ) → (le_z (pos 0) b && lt_z b (pos g.shape.h)) ≡ false → dot_at g a b ≡ false
out_above g (pos x) (pos y) h = let e : ltb y g.shape.h ≡ false = grind (arith, ints, nat_tests) in rw e (mid_false (ltb x g.shape.w) _)
out_above g (pos x) (negsuc y) h = refl
out_above g (negsuc x) b h = refl

in_box : (from x : ℤ) (a : ℤ) (n : ℕ) → a ≡ x -ℤ from → is_among from n x ≡ false → (le_z (pos 0) a && lt_z a (pos n)) ≡ false
in_box from x a n e h = rw e (among_from from x n ∙ h)

offset_is : (x pen : ℤ) (offset : ℤ) → (x -ℤ pen) -ℤ offset ≡ x -ℤ (pen +ℤ offset)
offset_is x pen offset = omega (arith, ints)

-- the coat of a glyph at a pixel, by what is seen of it along both axes
pub glyph_coat : (part : Rect) (height : ℕ) (shape : GlyphBox) (bytes : List ℕ) (pen top x y : ℤ) (d : Dab) (bit S S' : Bool) →
    S ≡ is_seen part.x1 part.x2 pen shape.advance shape.ox shape.w x → S' ≡ is_seen part.y1 part.y2 top height shape.oy shape.h y →
    (S ≡ true → S' ≡ true → dot_at (glyph_from shape bytes) ((x -ℤ pen) -ℤ shape.ox) ((y -ℤ top) -ℤ shape.oy) ≡ bit) →
    (if has part x y then (if glyph_at height shape bytes pen top x y then Some d else None) else None) ≡ (if (S && S') then (if bit then Some d else None) else None)
glyph_coat part height shape bytes pen top x y d bit S S' e e' same =
    let g : Glyph = glyph_from shape bytes in
    let a = (x -ℤ pen) -ℤ shape.ox in
    let b = (y -ℤ top) -ℤ shape.oy in
    ap (λ (t : Bool). if has part x y then (if t then Some d else None) else None)
    (ap (λ (t : Bool). (t && (le_z (pos 0) (y -ℤ top) && lt_z (y -ℤ top) (pos height))) && dot_at g a b) (among_from pen x shape.advance)
    ∙ ap (λ (t : Bool). (is_among pen shape.advance x && t) && dot_at g a b) (among_from top y height))
    ∙ combine (le_z part.x1 x && le_z x part.x2) (le_z part.y1 y && le_z y part.y2) (is_among pen shape.advance x) (is_among top height y)
    (is_among (pen +ℤ shape.ox) shape.w x) (is_among (top +ℤ shape.oy) shape.h y) (dot_at g a b) bit S S' d e e'
    (λ h. out_left g a b (in_box (pen +ℤ shape.ox) x a shape.w (offset_is x pen shape.ox) h))
    (λ h. out_above g a b (in_box (top +ℤ shape.oy) y b shape.h (offset_is y top shape.oy) h))
    same

-- nothing is seen of it
pub glyph_none : (part : Rect) (height : ℕ) (shape : GlyphBox) (bytes : List ℕ) (pen top x y : ℤ) (d : Dab) →
    (is_seen part.x1 part.x2 pen shape.advance shape.ox shape.w x && is_seen part.y1 part.y2 top height shape.oy shape.h y) ≡ false →
    (if has part x y then (if glyph_at height shape bytes pen top x y then Some d else None) else None) ≡ None
glyph_none part height shape bytes pen top x y d none =
    glyph_coat part height shape bytes pen top x y d _ _ _ refl refl (λ p q. refl) ∙ rw none refl

-- the number in the box of what is seen
box_number : (low high cell offset v : ℤ) (advance size : ℕ) (span : Span) → IsSpan low high cell advance offset size span → (le_z span.from v && le_z v span.to) ≡ true →
    ((v -ℤ cell) -ℤ offset ≡ pos (span.first + distance span.from v)) × (span.first + distance span.from v < size)
box_number low high cell offset v advance size span h i =
    let p : span.from ≤ℤ v = grind (arith, ints) in
    let q : v ≤ℤ span.to = grind (arith, ints) in
    let far = distance_is span.from v p in
    let at = h.first_is in
    (omega (arith, ints), omega (arith, h.fits, distance_below span.from v span.to p q))

bit_in : (g : Glyph) (m n : ℕ) → m < g.shape.w → n < g.shape.h → dot_at g (pos m) (pos n) ≡ mask_bit (row_at g n) m
unfolding mask_bit bit_of
bit_in g m n p q =
    let e : ltb m g.shape.w ≡ true = grind (arith, nat_tests) in
    let f : ltb n g.shape.h ≡ true = grind (arith, nat_tests) in
    rw (e, f) refl

-- the bits of what is seen of it
abbrev pub glyph_dots : GlyphBox → Bor (List ℕ) → Span → Span → Dots
glyph_dots shape bytes columns lines = record { bytes = bytes; stride = row_bytes shape.w; column = columns.first; row = lines.first }

-- some pixels of it are seen
pub glyph_some : (part : Rect) (height : ℕ) (shape : GlyphBox) (bytes : Bor (List ℕ)) (pen top x y : ℤ) (d : Dab) (columns lines : Span) →
    IsSpan part.x1 part.x2 pen shape.advance shape.ox shape.w columns → IsSpan part.y1 part.y2 top height shape.oy shape.h lines →
    (if has part x y then (if glyph_at height shape bytes.now pen top x y then Some d else None) else None) ≡
    (if has (span_rect columns lines) x y then (if dots_in (glyph_dots shape bytes columns lines) (span_rect columns lines) x y then Some d else None) else None)
glyph_some part height shape bytes pen top x y d columns lines h k =
    let g : Glyph = glyph_from shape bytes.now in
    glyph_coat part height shape bytes.now pen top x y d _ (le_z columns.from x && le_z x columns.to) (le_z lines.from y && le_z y lines.to) (sym (h.seen x)) (sym (k.seen y))
    (λ p q.
    let c = box_number part.x1 part.x2 pen shape.ox x shape.advance shape.w columns h p in
    let r = box_number part.y1 part.y2 top shape.oy y height shape.h lines k q in
    rw (c.0, r.0) (bit_in g (columns.first + distance columns.from x) (lines.first + distance lines.from y) c.1 r.1))

pub some_seen : (columns lines : Span) → columns.from ≤ℤ columns.to → lines.from ≤ℤ lines.to → is_empty (span_rect columns lines) ≡ false
some_seen columns lines h k = grind (arith, ints, nat_tests)

pub inside_of : (area part : Rect) (x1 y1 x2 y2 : ℤ) → has area part.x1 part.y1 ≡ true → has area part.x2 part.y2 ≡ true → part.x1 ≤ℤ x1 → x1 ≤ℤ x2 → x2 ≤ℤ part.x2 → part.y1 ≤ℤ y1 → y1 ≤ℤ y2 → y2 ≤ℤ part.y2 → (has area x1 y1 ≡ true) × (has area x2 y2 ≡ true)
inside_of area part x1 y1 x2 y2 first last a b c d e f =
    let p = between_has area part.x1 part.y1 first in
    let q = between_has area part.x2 part.y2 last in
    let l = p.left in let t = p.top in let r = q.right in let m = q.bottom in (
      has_between area x1 y1 (record { left = omega (arith, ints); right = omega (arith, ints); top = omega (arith, ints); bottom = omega (arith, ints) }),
      has_between area x2 y2 (record { left = omega (arith, ints); right = omega (arith, ints); top = omega (arith, ints); bottom = omega (arith, ints) }),
    )

pub inside_seen : (area part : Rect) (columns lines : Span) (shape : GlyphBox) (left top : ℤ) (height : ℕ) → IsInside area part →
    IsSpan part.x1 part.x2 left shape.advance shape.ox shape.w columns → IsSpan part.y1 part.y2 top height shape.oy shape.h lines → IsInside area (span_rect columns lines)
inside_seen area part columns lines shape left top height inside c l =
    let both = inside_of area part columns.from lines.from columns.to lines.to inside.first inside.last c.after c.order c.before l.after l.order l.before in
    record { some = some_seen columns lines c.order l.order; first = both.0; last = both.1 }

pub box_seen : (part : Rect) (columns lines : Span) (shape : GlyphBox) (bytes : Bor (List ℕ)) (pen top : ℤ) (height : ℕ) → shape.w < 256 → shape.h < 256 → length bytes.now ≡ shape.h * row_bytes shape.w →
    IsSpan part.x1 part.x2 pen shape.advance shape.ox shape.w columns → IsSpan part.y1 part.y2 top height shape.oy shape.h lines →
    HasDots (glyph_dots shape bytes columns lines) (span_rect columns lines)
box_seen part columns lines shape bytes pen top height wide high long c l = record {
  columns = omega (arith, c.fits);
  rows = omega (arith, long, mul-le (lines.first + count_between lines.from lines.to) (row_bytes shape.w) shape.h (row_bytes shape.w) l.fits (omega arith));
  few = omega (arith, l.fits);
  small = omega arith;
}

pub either_none : ((a b : Bool) → a ≡ false → (a && b) ≡ false) × ((a b : Bool) → b ≡ false → (a && b) ≡ false)
either_none = ((λ a b h. rw h refl), (λ a b h. rw h (and_false a)))
