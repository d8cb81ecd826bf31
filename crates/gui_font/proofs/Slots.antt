-- Fonts as they are kept.
use Rattle.std.proofs.Common.{◌≡◌, ◌≢◌, ◌∙◌, refl, sym, ap, subst, ℕ, ◌+◌, ◌≤◌, length, slice_range, true, false, Bool, eqb, List, [], ◌∷◌, map, inl, inr, eqb-true, arith, Option, Some, None, is_some, option_map}
use Rattle.std.proofs.lemmas.Bool.{cases_Bool, false≢true}
use Rattle.std.proofs.lemmas.Bool.Decides.{nat_tests}
use Rattle.text_defs.specs.Fonts.{Font, has_font, has_glyph, has_code, face, face_or, font_of, glyph_of, cell_or, glyph_bytes}
use Rattle.std.proofs.lemmas.List.{length-take, length-drop}
use Rattle.text_defs.specs.Face.{Cell}
use Rattle.text_defs.specs.BuiltIn.{built_in}
use Rattle.gui_pool.specs.Table.{Table}
use Rattle.gui_font.specs.Cells.{IsCell, IsEmptyCell}
use Rattle.gui_font.specs.declared.fonts.Bits.{Bits}
use Rattle.gui_font.specs.Views.{font_in, glyph_in, glyphs_in, AreKept, IsMember}
use Rattle.gui_font.specs.declared.fonts.FontSlot.{FontSlot}
use Rattle.gui_font.specs.declared.fonts.GlyphSlot.{GlyphSlot}

font_of-name : (fonts : List Font) (name : ℕ) (font : Font) → Some font ≡ font_of fonts name → font.name ≡ name
font_of-name [] name font e = cc
font_of-name (f ∷ fs) name font e = elim (cases_Bool (eqb f.name name)) [
  | inl here ↦ let is : Some font ≡ Some f = rw here at e in let same : font ≡ f = cc in ap (λ (k : Font). k.name) same ∙ eqb-true f.name name here
  | inr other ↦ font_of-name fs name font (rw other at e)
]

-- the cell of a character, from the slot of its font and that of its glyph, if it has one
pub cell_is : (glyphs : List GlyphSlot) (ink : List ℕ) (fonts : List FontSlot) (name code : ℕ) (slot : FontSlot) (glyph : Option GlyphSlot) → name ≢ 0 →
    Some (font_in glyphs ink slot) ≡ font_of (map (font_in glyphs ink) fonts) name → option_map (glyph_in ink) glyph ≡ glyph_of (glyphs_in glyphs ink name) code →
    (face (map (font_in glyphs ink) fonts) name).cell code ≡ cell_or slot.advance (option_map (glyph_in ink) glyph)
unfolding face
cell_is glyphs ink fonts name code slot glyph some font_is glyph_is =
    let other : eqb name 0 ≡ false = grind (arith, nat_tests) in
    let named : slot.name ≡ name = font_of-name (map (font_in glyphs ink) fonts) name (font_in glyphs ink slot) font_is in
    rw (other, ← font_is, named, ← glyph_is) refl

-- the same of any font that is listed
pub listed_cell : (glyphs : List GlyphSlot) (ink : List ℕ) (fonts : List FontSlot) (name code : ℕ) (found : Option GlyphSlot) → name ≢ 0 → is_some (font_of (map (font_in glyphs ink) fonts) name) ≡ true →
    option_map (glyph_in ink) found ≡ glyph_of (glyphs_in glyphs ink name) code →
    (advance : ℕ) × ((face (map (font_in glyphs ink) fonts) name).cell code ≡ cell_or advance (option_map (glyph_in ink) found))
unfolding face
listed_cell glyphs ink fonts name code found some there e =
    let other : eqb name 0 ≡ false = grind (arith, nat_tests) in
    let h = go fonts there in
    (h.0, rw other h.1) where
      go : (fs : List FontSlot) → is_some (font_of (map (font_in glyphs ink) fs) name) ≡ true → (advance : ℕ) × ((face_or (font_of (map (font_in glyphs ink) fs) name)).cell code ≡ cell_or advance (option_map (glyph_in ink) found))
      go [] t = absurd (false≢true t)
      go (f ∷ fs) t = elim (cases_Bool (eqb f.name name)) [
        | inl here ↦
            let is : f.name ≡ name = eqb-true f.name name here in
            (f.advance, rw (here, is) (ap (cell_or f.advance) (sym e)))
        | inr off ↦ let h = go fs (rw off at t) in (h.0, rw off h.1)
      ]

pub bits_none : (glyphs : List GlyphSlot) (ink : List ℕ) (fonts : List FontSlot) (name code : ℕ) → name ≢ 0 → is_some (font_of (map (font_in glyphs ink) fonts) name) ≡ true →
    None ≡ glyph_of (glyphs_in glyphs ink name) code → IsEmptyCell ((face (map (font_in glyphs ink) fonts) name).cell code)
bits_none glyphs ink fonts name code some there e x y =
    let h = listed_cell glyphs ink fonts name code None some there e in
    ap (λ (cell : Cell). cell.dot x y) h.1

pub bits_some : (glyphs : List GlyphSlot) (ink : List ℕ) (fonts : List FontSlot) (name code : ℕ) (g : GlyphSlot) (bits : Bits) (index : Table ℕ) (room : ℕ) → AreKept fonts index glyphs ink room → name ≢ 0 → is_some (font_of (map (font_in glyphs ink) fonts) name) ≡ true →
    Some (glyph_in ink g) ≡ glyph_of (glyphs_in glyphs ink name) code → IsMember g glyphs → bits.shape ≡ g.shape → bits.rows.now ≡ slice_range ink g.ink (g.ink + glyph_bytes g.shape) →
    IsCell ((face (map (font_in glyphs ink) fonts) name).cell code) bits
bits_some glyphs ink fonts name code g bits index room kept some there e member shape rows =
    let h = listed_cell glyphs ink fonts name code (Some g) some there e in
    let inside : g.ink + glyph_bytes g.shape ≤ length ink = subst (λ (k : GlyphSlot). k.ink + glyph_bytes k.shape ≤ length ink) member.is (kept.bits member.at g member.below) in
    let long : length (slice_range ink g.ink (g.ink + glyph_bytes g.shape)) ≡ glyph_bytes g.shape = simp (length-take, length-drop) (omega arith) in
    record {
      is = h.1 ∙ rw (shape, rows) refl;
      whole = rw (rows, shape) long;
    }

-- what stands for no font, and for one that is listed
pub face_zero : (fonts : List Font) (name : ℕ) → name ≡ 0 → face fonts name ≡ built_in
unfolding face
face_zero fonts name h = rw h refl

pub face_missing : (fonts : List Font) (name : ℕ) → name ≢ 0 → None ≡ font_of fonts name → face fonts name ≡ built_in
unfolding face
face_missing fonts name some none = let other : eqb name 0 ≡ false = grind (arith, nat_tests) in rw (other, ← none) refl

pub face_listed : (fonts : List Font) (name : ℕ) (font : Font) → name ≢ 0 → Some font ≡ font_of fonts name → (face fonts name).height ≡ font.height
unfolding face
face_listed fonts name font some is = let other : eqb name 0 ≡ false = grind (arith, nat_tests) in rw (other, ← is) refl

-- a font that is there and is not the built-in one is listed
pub listed_there : (glyphs : List GlyphSlot) (ink : List ℕ) (fonts : List FontSlot) (name : ℕ) → name ≢ 0 → has_font (map (font_in glyphs ink) fonts) name ≡ true → is_some (font_of (map (font_in glyphs ink) fonts) name) ≡ true
listed_there glyphs ink fonts name some there = let other : eqb name 0 ≡ false = grind (arith, nat_tests) in rw other at there

pub not_listed : (glyphs : List GlyphSlot) (ink : List ℕ) (fonts : List FontSlot) (name : ℕ) → has_font (map (font_in glyphs ink) fonts) name ≡ false → is_some (font_of (map (font_in glyphs ink) fonts) name) ≡ false
not_listed glyphs ink fonts name none = elim (cases_Bool (eqb name 0)) [
  | inl zero ↦ absurd (false≢true (sym (rw zero at none)))
  | inr other ↦ rw other at none
]

pub has_glyph_listed : (fonts : List Font) (name code : ℕ) (has : Bool) → name ≢ 0 → has ≡ has_code (font_of fonts name) code → has ≡ has_glyph fonts name code
has_glyph_listed fonts name code has some e = let other : eqb name 0 ≡ false = grind (arith, nat_tests) in rw other e

-- the built-in font stands for a font that is not there
pub face_absent : (fonts : List Font) (name : ℕ) → name ≢ 0 → has_font fonts name ≡ false → face fonts name ≡ built_in
unfolding face
face_absent fonts name some none =
    let other : eqb name 0 ≡ false = grind (arith, nat_tests) in
    rw other (go (font_of fonts name) (rw other at none)) where
      go : (font : Option Font) → is_some font ≡ false → face_or font ≡ built_in
      go None h = refl
      go (Some f) h = absurd (false≢true (sym h))
