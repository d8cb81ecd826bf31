-- The place of each glyph by its key.
use Rattle.std.proofs.Common.{◌≡◌, ◌≢◌, ◌∙◌, refl, sym, ap, ℕ, ◌+◌, ◌<◌, ◌≤◌, Bool, true, false, eqb, ltb, List, [], ◌∷◌, ◌++◌, length, Some, None, is_some, option_map, inl, inr, arith, get_or, not, eq-eqb}
use Rattle.std.specs.List.{position, position_or_len, find, slice_get}
use Rattle.std.proofs.lemmas.Bool.{cases_Bool, cases_lt, cases_eq, eqb-true, false≢true}
use Rattle.std.proofs.lemmas.Bool.Decides.{nat_tests}
use Rattle.std.proofs.lemmas.List.Folds.{position_or_len_push, find_at}
use Rattle.std.proofs.lemmas.List.{length-append, length-set, get_or-set_same, get_or-set_other}
use Rattle.std.proofs.lemmas.List.Sums.{prefix_len-le-length, position_or_len_is}
use Rattle.std.proofs.lemmas.List.Quantifiers.{position-Some}
use Rattle.std.proofs.lemmas.Option.{none-some, slice_get-get_or, slice_get_past}
use Rattle.gui_pool.specs.Table.{Table, value_at, value_inserted}
use Rattle.text_defs.specs.Fonts.{glyph_of}
use Rattle.gui_font.specs.Views.{glyph_in, glyphs_in, key_of, is_glyph, IsIndex}
use Rattle.gui_font.specs.declared.fonts.GlyphSlot.{GlyphSlot}
use Rattle.gui_font.specs.declared.fonts.TheConstants.{KEYS}

module _ {S : Type 0} (p : S → Bool) where
  pub position_is : (xs : List S) (k : ℕ) → position_or_len p xs ≡ k → k < length xs → position p xs ≡ Some k
  position_is xs k e h = let less : ltb k (length xs) ≡ true = grind (arith, nat_tests) in rw (e, less) refl

  pub position_no : (xs : List S) (k : ℕ) → position_or_len p xs ≡ k → length xs ≤ k → position p xs ≡ None
  position_no xs k e h = let less : ltb k (length xs) ≡ false = grind (arith, nat_tests) in rw (e, less) refl

  pub none_at_end : (xs : List S) → position p xs ≡ None → position_or_len p xs ≡ length xs
  none_at_end xs none =
      let le = prefix_len-le-length (λ x. not (p x)) xs in
      elim (cases_lt (position_or_len p xs) (length xs)) [
        | inl lt ↦ absurd (none-some (position_or_len p xs) (sym none ∙ position_is xs (position_or_len p xs) refl lt))
        | inr ge ↦ omega arith
      ]

  -- one more at the end that passes, where none did
  pub position_new : (xs : List S) (x : S) → position p xs ≡ None → p x ≡ true → position p (xs ++ x ∷ []) ≡ Some (length xs)
  position_new xs x none passes =
      let end : eqb (position_or_len p xs) (length xs) ≡ true = eq-eqb (position_or_len p xs) (length xs) (none_at_end xs none) in
      let at : position_or_len p (xs ++ x ∷ []) ≡ length xs = position_or_len_push p xs x ∙ rw (end, passes) (omega arith) in
      let longer = length-append xs (x ∷ []) in
      position_is (xs ++ x ∷ []) (length xs) at (omega arith)

  -- one more at the end that does not pass
  pub position_other : (xs : List S) (x : S) → p x ≡ false → position p (xs ++ x ∷ []) ≡ position p xs
  position_other xs x fails =
      let le = prefix_len-le-length (λ y. not (p y)) xs in
      let longer = length-append xs (x ∷ []) in
      elim (cases_lt (position_or_len p xs) (length xs)) [
        | inl lt ↦
            let no : eqb (position_or_len p xs) (length xs) ≡ false = grind (arith, nat_tests) in
            let at : position_or_len p (xs ++ x ∷ []) ≡ position_or_len p xs = position_or_len_push p xs x ∙ rw no refl in
            position_is (xs ++ x ∷ []) (position_or_len p xs) at (omega arith) ∙ sym (position_is xs (position_or_len p xs) refl lt)
        | inr ge ↦
            let end : eqb (position_or_len p xs) (length xs) ≡ true = grind (arith, nat_tests) in
            let at : position_or_len p (xs ++ x ∷ []) ≡ length xs + 1 = position_or_len_push p xs x ∙ rw (end, fails) refl in
            position_no (xs ++ x ∷ []) (length xs + 1) at (omega arith) ∙ sym (position_no xs (position_or_len p xs) refl ge)
      ]

  pub not_found : (xs : List S) → is_some (find p xs) ≡ false → position p xs ≡ None
  not_found xs none = elim (cases_lt (position_or_len p xs) (length xs)) [
    | inr ge ↦ position_no xs (position_or_len p xs) refl ge
    | inl lt ↦ absurd (false≢true (sym none ∙ found xs lt))
  ] where
    found : (ys : List S) → position_or_len p ys < length ys → is_some (find p ys) ≡ true
    found [] l = absurd (omega arith)
    found (y ∷ ys) l = ap is_some (find_at p (y ∷ ys) ∙ slice_get-get_or (y ∷ ys) (position_or_len p (y ∷ ys)) y l)

-- different characters have different keys
same_key : (font code other that : ℕ) → code < 1114112 → that < 1114112 → key_of font code ≡ key_of other that → (font ≡ other) × (code ≡ that)
same_key font code other that a b e = elim (cases_lt font other) [
  | inl lt ↦ absurd (omega arith)
  | inr ge ↦ elim (cases_lt other font) [
    | inl gt ↦ absurd (omega arith)
    | inr le ↦ (omega arith, omega arith)
  ]
]

is_same : (font code : ℕ) (g : GlyphSlot) → g.font ≡ font → g.code ≡ code → is_glyph font code g ≡ true
is_same font code g f c = let a = eq-eqb g.font font f in let b = eq-eqb g.code code c in rw (a, b) refl

isnt_same : (font code : ℕ) (g : GlyphSlot) → key_of font code ≢ key_of g.font g.code → is_glyph font code g ≡ false
isnt_same font code g other = elim (cases_Bool (eqb g.font font)) [
  | inr f ↦ rw f refl
  | inl f ↦ elim (cases_Bool (eqb g.code code)) [
    | inr c ↦ rw (f, c) refl
    | inl c ↦
        let font_is = eqb-true g.font font f in
        let code_is = eqb-true g.code code c in
        absurd (other (rw (font_is, code_is) refl))
  ]
]

pub key_within : (font code : ℕ) → font < 256 → code < 1114112 → key_of font code < KEYS
key_within font code f c = omega arith

pub indexed_more : (index : Table ℕ) (glyphs : List GlyphSlot) (slot : GlyphSlot) → IsIndex index glyphs → slot.font < 256 → slot.code < 1114112 → position (is_glyph slot.font slot.code) glyphs ≡ None →
    IsIndex (value_inserted index (key_of slot.font slot.code) (length glyphs)) (glyphs ++ slot ∷ [])
indexed_more index glyphs slot is font code new = record {
  keys = length-set index.values (key_of slot.font slot.code) (Some (length glyphs)) ∙ is.keys;
  places = λ other that f c. elim (cases_eq (key_of other that) (key_of slot.font slot.code)) [
    | inl same ↦
        let both = same_key other that slot.font slot.code c code same in
        let passes : is_glyph other that slot ≡ true = is_same other that slot (sym both.0) (sym both.1) in
        let none : position (is_glyph other that) glyphs ≡ None = rw (both.0, both.1) new in
        let within : key_of slot.font slot.code < length index.values = rw is.keys (key_within slot.font slot.code font code) in
        ap (λ k. value_at (value_inserted index (key_of slot.font slot.code) (length glyphs)) k) same
        ∙ get_or-set_same index.values (key_of slot.font slot.code) (Some (length glyphs)) None within
        ∙ sym (position_new (is_glyph other that) glyphs slot none passes)
    | inr different ↦
        get_or-set_other index.values (key_of slot.font slot.code) (key_of other that) (Some (length glyphs)) None different
        ∙ is.places other that f c
        ∙ sym (position_other (is_glyph other that) glyphs slot (isnt_same other that slot different))
  ];
}

-- the first glyph of a character among those of its font
pub glyph_found : (glyphs : List GlyphSlot) (ink : List ℕ) (font code : ℕ) → glyph_of (glyphs_in glyphs ink font) code ≡ option_map (glyph_in ink) (find (is_glyph font code) glyphs)
glyph_found [] ink font code = refl
glyph_found (g ∷ gs) ink font code = elim (cases_Bool (eqb g.font font)) [
  | inr f ↦ rw f (glyph_found gs ink font code)
  | inl f ↦ elim (cases_Bool (eqb g.code code)) [
    | inr c ↦ rw (f, c) (glyph_found gs ink font code)
    | inl c ↦ rw (f, c) refl
  ]
]

-- a glyph by its place
pub placed_some : (index : Table ℕ) (glyphs : List GlyphSlot) (font code place : ℕ) (g : GlyphSlot) → IsIndex index glyphs → font < 256 → code < 1114112 → value_at index (key_of font code) ≡ Some place →
    (place < length glyphs) × (find (is_glyph font code) glyphs ≡ Some (get_or glyphs place g))
placed_some index glyphs font code place g is f c at =
    let here : position (is_glyph font code) glyphs ≡ Some place = sym (is.places font code f c) ∙ at in
    let facts = position-Some (is_glyph font code) glyphs place g here in
    let first : position_or_len (is_glyph font code) glyphs ≡ place = position_or_len_is (is_glyph font code) glyphs place g (omega (arith, facts.0)) (λ k l. position_before k l) (λ l. facts.1) in
    (facts.0, find_at (is_glyph font code) glyphs ∙ ap (slice_get glyphs) first ∙ slice_get-get_or glyphs place g facts.0) where
      position_before : (k : ℕ) → k < place → is_glyph font code (get_or glyphs k g) ≡ false
      position_before k l = (position-Some (is_glyph font code) glyphs place g (sym (is.places font code f c) ∙ at)).2 k l

pub placed_none : (index : Table ℕ) (glyphs : List GlyphSlot) (font code : ℕ) → IsIndex index glyphs → font < 256 → code < 1114112 → value_at index (key_of font code) ≡ None → find (is_glyph font code) glyphs ≡ None
placed_none index glyphs font code is f c at =
    let none : position (is_glyph font code) glyphs ≡ None = sym (is.places font code f c) ∙ at in
    find_at (is_glyph font code) glyphs ∙ ap (slice_get glyphs) (none_at_end (is_glyph font code) glyphs none) ∙ slice_get_past glyphs (length glyphs) (omega arith)
