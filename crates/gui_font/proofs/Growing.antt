-- Fonts as they are kept, with a font or a glyph more.
use Rattle.std.proofs.Common.{◌≡◌, ◌≢◌, ◌∙◌, refl, sym, ap, subst, ℕ, suc, ◌+◌, ◌-◌, ◌<◌, ◌≤◌, Bool, true, false, eqb, List, [], ◌∷◌, ◌++◌, map, length, take, drop, slice_range, slice_index_or, Option, Some, None, is_some, option_map, arith, inl, inr, eqb-true}
use Rattle.std.specs.List.{filter, find, position}
use Rattle.std.proofs.lemmas.Bool.{cases_Bool, cases_lt, false≢true}
use Rattle.std.proofs.lemmas.Bool.Decides.{nat_tests}
use Rattle.std.proofs.lemmas.List.{map-append, append-nil, take-append-le, drop-append-le, length-drop, length-append, take_all, get_or_push}
use Rattle.std.proofs.Math.ListN.{get_or-append}
use Rattle.std.proofs.lemmas.List.Elements.{filter-append}
use Rattle.std.proofs.Math.Seq.{drop-append_seam}
use Rattle.text_defs.specs.Fonts.{Glyph, font_of, glyph_of, has_code, has_glyph, glyph_bytes}
use Rattle.text_defs.specs.Building.{given, done}
use Rattle.gui_pool.specs.Table.{Table, value_inserted}
use Rattle.gui_font.specs.Views.{font_in, glyph_in, glyphs_in, has_slot, key_of, is_glyph, marked, AreKept}
use Rattle.gui_font.proofs.Indexing.{indexed_more, glyph_found, not_found}
use Rattle.gui_font.specs.declared.fonts.FontSlot.{FontSlot}
use Rattle.gui_font.specs.declared.fonts.GlyphSlot.{GlyphSlot}

filter_none : (p : GlyphSlot → Bool) (gs : List GlyphSlot) → ((k : ℕ) (d : GlyphSlot) → k < length gs → p (slice_index_or gs k d) ≡ false) → filter p gs ≡ []
filter_none p [] h = refl
filter_none p (g ∷ gs) h =
    let first : p g ≡ false = h 0 g (omega arith) in
    rw first (filter_none p gs (λ k d l. h (suc k) d (omega arith)))

no_slot : (glyphs : List GlyphSlot) (ink : List ℕ) (fonts : List FontSlot) (name : ℕ) → is_some (font_of (map (font_in glyphs ink) fonts) name) ≡ false → has_slot fonts name ≡ false
no_slot glyphs ink [] name h = refl
no_slot glyphs ink (f ∷ fs) name h = elim (cases_Bool (eqb f.name name)) [
  | inl here ↦ absurd (false≢true (sym (rw here at h)))
  | inr other ↦ rw other (no_slot glyphs ink fs name (rw other at h))
]

-- no glyph belongs to a font that is not there
pub no_glyphs : (fonts : List FontSlot) (index : Table ℕ) (glyphs : List GlyphSlot) (ink : List ℕ) (room name : ℕ) → AreKept fonts index glyphs ink room → has_slot fonts name ≡ false → glyphs_in glyphs ink name ≡ []
no_glyphs fonts index glyphs ink room name kept none =
    ap (map (glyph_in ink)) (filter_none (λ g. eqb g.font name) glyphs (λ k d l. elim (cases_Bool (eqb (slice_index_or glyphs k d).font name)) [
      | inl same ↦
          let there = kept.owned k d l in
          let is : (slice_index_or glyphs k d).font ≡ name = eqb-true _ _ same in
          absurd (false≢true (sym none ∙ (ap (has_slot fonts) (sym is) ∙ there)))
      | inr other ↦ other
    ]))

pub fonts_begun : (fonts : List FontSlot) (index : Table ℕ) (glyphs : List GlyphSlot) (ink : List ℕ) (room : ℕ) (slot : FontSlot) → AreKept fonts index glyphs ink room → is_some (font_of (map (font_in glyphs ink) fonts) slot.name) ≡ false →
    map (font_in glyphs ink) (fonts ++ slot ∷ []) ≡ map (font_in glyphs ink) fonts ++ record { name = slot.name; height = slot.height; advance = slot.advance; finished = slot.finished; glyphs = [] } ∷ []
fonts_begun fonts index glyphs ink room slot kept none =
    map-append (font_in glyphs ink) fonts (slot ∷ [])
    ∙ ap (λ (gs : List Glyph). map (font_in glyphs ink) fonts ++ record { name = slot.name; height = slot.height; advance = slot.advance; finished = slot.finished; glyphs = gs } ∷ [])
    (no_glyphs fonts index glyphs ink room slot.name kept (no_slot glyphs ink fonts slot.name none))

-- bytes behind the others change no glyph
pub front_range : (xs ys : List ℕ) (i j : ℕ) → i ≤ j → j ≤ length xs → slice_range (xs ++ ys) i j ≡ slice_range xs i j
front_range xs ys i j p q =
    let l : j - i ≤ length (drop i xs) = simp length-drop (omega arith) in
    ap (take (j - i)) (drop-append-le i xs ys (omega arith)) ∙ take-append-le (j - i) (drop i xs) ys l

glyphs_stay : (ink more : List ℕ) (gs : List GlyphSlot) (p : GlyphSlot → Bool) → ((k : ℕ) (d : GlyphSlot) → k < length gs → (slice_index_or gs k d).ink + glyph_bytes (slice_index_or gs k d).shape ≤ length ink) →
    map (glyph_in (ink ++ more)) (filter p gs) ≡ map (glyph_in ink) (filter p gs)
glyphs_stay ink more [] p h = refl
glyphs_stay ink more (g ∷ gs) p h =
    let later = glyphs_stay ink more gs p (λ k d l. h (suc k) d (omega arith)) in
    let here : glyph_in (ink ++ more) g ≡ glyph_in ink g =
    ap (λ (rows : List ℕ). record { code = g.code; shape = g.shape; rows = rows }) (front_range ink more g.ink (g.ink + glyph_bytes g.shape) (omega arith) (h 0 g (omega arith))) in
    elim (cases_Bool (p g)) [
      | inl yes_ ↦ rw (yes_, here, later) refl
      | inr no_ ↦ rw no_ later
    ]

pub new_range : (xs ys : List ℕ) (n : ℕ) → n ≡ length ys → slice_range (xs ++ ys) (length xs) (length xs + n) ≡ ys
new_range xs ys n e =
    let m : length xs + n - length xs ≡ n = omega arith in
    ap (λ (k : ℕ). take k (drop (length xs) (xs ++ ys))) m ∙ (ap (take n) (drop-append_seam xs ys) ∙ take_all n ys (omega arith))

-- the fonts with a glyph more
pub fonts_given : (fonts : List FontSlot) (all : List FontSlot) (index : Table ℕ) (glyphs : List GlyphSlot) (ink rows : List ℕ) (room : ℕ) (slot : GlyphSlot) → AreKept all index glyphs ink room → slot.ink ≡ length ink → length rows ≡ glyph_bytes slot.shape →
    map (font_in (glyphs ++ slot ∷ []) (ink ++ rows)) fonts ≡ map (given slot.font (record { code = slot.code; shape = slot.shape; rows = rows })) (map (font_in glyphs ink) fonts)
fonts_given [] all index glyphs ink rows room slot kept at long = refl
fonts_given (f ∷ fs) all index glyphs ink rows room slot kept at long =
    let G : Glyph = record { code = slot.code; shape = slot.shape; rows = rows } in
    let p : GlyphSlot → Bool = λ g. eqb g.font f.name in
    let old = glyphs_stay ink rows glyphs p kept.bits in
    let new : glyph_in (ink ++ rows) slot ≡ G =
    ap (λ (bs : List ℕ). record { code = slot.code; shape = slot.shape; rows = bs })
    (ap (λ (n : ℕ). slice_range (ink ++ rows) n (n + glyph_bytes slot.shape)) at ∙ new_range ink rows (glyph_bytes slot.shape) (sym long)) in
    let split : map (glyph_in (ink ++ rows)) (filter p (glyphs ++ slot ∷ [])) ≡ map (glyph_in ink) (filter p glyphs) ++ map (glyph_in (ink ++ rows)) (filter p (slot ∷ [])) =
    ap (map (glyph_in (ink ++ rows))) (filter-append p glyphs (slot ∷ []))
    ∙ (map-append (glyph_in (ink ++ rows)) (filter p glyphs) (filter p (slot ∷ [])) ∙ ap (λ (gs : List Glyph). gs ++ map (glyph_in (ink ++ rows)) (filter p (slot ∷ []))) old) in
    let later = fonts_given fs all index glyphs ink rows room slot kept at long in
    elim (cases_Bool (eqb slot.font f.name)) [
      | inl same ↦ rw (split, same, new, later) refl
      | inr other ↦ rw (split, other, append-nil, later) refl
    ]

pub missing : (glyphs : List GlyphSlot) (ink : List ℕ) (fonts : List FontSlot) (name : ℕ) (found : Option FontSlot) → is_some found ≡ false → option_map (font_in glyphs ink) found ≡ font_of (map (font_in glyphs ink) fonts) name →
    is_some (font_of (map (font_in glyphs ink) fonts) name) ≡ false
missing glyphs ink fonts name None h e = rw (← e) refl
missing glyphs ink fonts name (Some f) h e = cc

-- a font is there where its slot is
pub slot_there : (glyphs : List GlyphSlot) (ink : List ℕ) (fonts : List FontSlot) (name : ℕ) → is_some (font_of (map (font_in glyphs ink) fonts) name) ≡ has_slot fonts name
slot_there glyphs ink [] name = refl
slot_there glyphs ink (f ∷ fs) name = elim (cases_Bool (eqb f.name name)) [
  | inl here ↦ rw here refl
  | inr other ↦ rw other (slot_there glyphs ink fs name)
]

some_same : (ink : List ℕ) (o : Option GlyphSlot) (g : Option Glyph) → option_map (glyph_in ink) o ≡ g → is_some o ≡ is_some g
some_same ink None g e = rw (← e) refl
some_same ink (Some s) g e = rw (← e) refl

-- whether a font has a glyph
pub glyph_there : (glyphs : List GlyphSlot) (ink : List ℕ) (fonts : List FontSlot) (name code : ℕ) (found : Option GlyphSlot) → has_slot fonts name ≡ true → option_map (glyph_in ink) found ≡ glyph_of (glyphs_in glyphs ink name) code →
    is_some found ≡ has_code (font_of (map (font_in glyphs ink) fonts) name) code
glyph_there glyphs ink [] name code found there e = absurd (false≢true there)
glyph_there glyphs ink (f ∷ fs) name code found there e = elim (cases_Bool (eqb f.name name)) [
  | inl here ↦
      let is : f.name ≡ name = eqb-true f.name name here in
      rw (here, is) (some_same ink found _ e)
  | inr other ↦ rw other (glyph_there glyphs ink fs name code found (rw other at there) e)
]

-- what holds of each glyph and of one more
each_push : (P : GlyphSlot → Type 0) (glyphs : List GlyphSlot) (slot : GlyphSlot) → ((k : ℕ) (d : GlyphSlot) → k < length glyphs → P (slice_index_or glyphs k d)) → P slot →
    (k : ℕ) (d : GlyphSlot) → k < length (glyphs ++ slot ∷ []) → P (slice_index_or (glyphs ++ slot ∷ []) k d)
each_push P glyphs slot each last k d l = elim (cases_lt k (length glyphs)) [
  | inl old ↦ subst P (sym (get_or-append glyphs (slot ∷ []) d k old)) (each k d old)
  | inr new ↦
      let end : length glyphs ≡ k = omega (arith, length-append glyphs (slot ∷ [])) in
      subst P (sym (get_or_push glyphs slot d k end)) last
]

slot_stays : (fonts : List FontSlot) (slot : FontSlot) (name : ℕ) → has_slot fonts name ≡ true → has_slot (fonts ++ slot ∷ []) name ≡ true
slot_stays [] slot name h = absurd (false≢true h)
slot_stays (f ∷ fs) slot name h = elim (cases_Bool (eqb f.name name)) [
  | inl here ↦ rw here refl
  | inr other ↦ rw other (slot_stays fs slot name (rw other at h))
]

-- what is kept with a font more
pub kept_begun : (fonts : List FontSlot) (index : Table ℕ) (glyphs : List GlyphSlot) (ink : List ℕ) (room : ℕ) (slot : FontSlot) → AreKept fonts index glyphs ink room → AreKept (fonts ++ slot ∷ []) index glyphs ink room
kept_begun fonts index glyphs ink room slot kept = record {
  bits = kept.bits;
  owned = λ k d l. slot_stays fonts slot (slice_index_or glyphs k d).font (kept.owned k d l);
  indexed = kept.indexed;
  fits = kept.fits;
  few = kept.few;
}

-- what is kept with a glyph more
pub kept_more : (fonts : List FontSlot) (index : Table ℕ) (glyphs : List GlyphSlot) (ink rows : List ℕ) (room : ℕ) (slot : GlyphSlot) → AreKept fonts index glyphs ink room → has_slot fonts slot.font ≡ true → slot.ink ≡ length ink →
    length rows ≡ glyph_bytes slot.shape → slot.font < 256 → slot.code < 1114112 → position (is_glyph slot.font slot.code) glyphs ≡ None → 1 ≤ index.spare →
    AreKept fonts (value_inserted index (key_of slot.font slot.code) (length glyphs)) (glyphs ++ slot ∷ []) (ink ++ rows) room
kept_more fonts index glyphs ink rows room slot kept there at long font code new spare =
    let both = length-append ink rows in
    let one = length-append glyphs (slot ∷ []) in
    let fits = kept.fits in
    let few = kept.few in
    record {
      bits = each_push (λ g. g.ink + glyph_bytes g.shape ≤ length (ink ++ rows)) glyphs slot (λ k d l. omega (arith, kept.bits k d l, both)) (omega (arith, both));
      owned = each_push (λ g. has_slot fonts g.font ≡ true) glyphs slot kept.owned there;
      indexed = indexed_more index glyphs slot kept.indexed font code new;
      fits = omega (arith, one);
      few = omega (arith, one);
    }

-- what is kept with a font finished
pub kept_marked : (fonts : List FontSlot) (index : Table ℕ) (glyphs : List GlyphSlot) (ink : List ℕ) (room name : ℕ) → AreKept fonts index glyphs ink room → AreKept (map (marked name) fonts) index glyphs ink room
kept_marked fonts index glyphs ink room name kept = record {
  bits = kept.bits;
  owned = λ k d l. slot_marked fonts name (slice_index_or glyphs k d).font ∙ kept.owned k d l;
  indexed = kept.indexed;
  fits = kept.fits;
  few = kept.few;
} where
  slot_marked : (fs : List FontSlot) (name font : ℕ) → has_slot (map (marked name) fs) font ≡ has_slot fs font
  slot_marked [] name font = refl
  slot_marked (f ∷ fs) name font = elim (cases_Bool (eqb f.name name)) [
    | inl here ↦ rw (here, slot_marked fs name font) refl
    | inr other ↦ rw (other, slot_marked fs name font) refl
  ]

-- the fonts with one of them finished
pub fonts_marked : (fonts : List FontSlot) (glyphs : List GlyphSlot) (ink : List ℕ) (name : ℕ) → map (font_in glyphs ink) (map (marked name) fonts) ≡ map (done name) (map (font_in glyphs ink) fonts)
fonts_marked [] glyphs ink name = refl
fonts_marked (f ∷ fs) glyphs ink name = elim (cases_Bool (eqb f.name name)) [
  | inl here ↦ rw (here, fonts_marked fs glyphs ink name) refl
  | inr other ↦ rw (other, fonts_marked fs glyphs ink name) refl
]

-- a character without a glyph has no place
pub no_place : (glyphs : List GlyphSlot) (ink : List ℕ) (fonts : List FontSlot) (name code : ℕ) → name ≢ 0 → has_slot fonts name ≡ true → has_glyph (map (font_in glyphs ink) fonts) name code ≡ false →
    position (is_glyph name code) glyphs ≡ None
no_place glyphs ink fonts name code some there none =
    let other : eqb name 0 ≡ false = grind (arith, nat_tests) in
    let unlisted : has_code (font_of (map (font_in glyphs ink) fonts) name) code ≡ false = rw other at none in
    let found = glyph_there glyphs ink fonts name code (find (is_glyph name code) glyphs) there (sym (glyph_found glyphs ink name code)) in
    not_found (is_glyph name code) glyphs (found ∙ unlisted)
