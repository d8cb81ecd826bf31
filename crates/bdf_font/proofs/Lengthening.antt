-- The text of a font grows by its lines.
use Rattle.std.proofs.Common.{◌≡◌, ◌∙◌, refl, sym, ap, ℕ, ◌+◌, ◌<◌, List, [], ◌∷◌, ◌++◌, length, get_or, take, map, append_assoc, append-nil}
use Rattle.std.proofs.lemmas.Grind.{flat_map-append}
use Rattle.std.proofs.lemmas.List.{take_more}
use Rattle.line_texts.specs.LineTexts.{ended_lines, spaced}
use Rattle.std.specs.declared.option.Option.{Option}
use Rattle.bdf_font.specs.declared.characters.Extents.{Extents}
use Rattle.bdf_font.specs.Reading.{kept, glyph_lines}
use Rattle.bdf_font.specs.Texts.{font_line, glyph_text, end_line, left_line, last_lines}
use Rattle.bdf_font.specs.declared.glyphs.Kept.{Kept}

lines_more : (number : ℕ) (glyphs : List Kept) (i : ℕ) (glyph : Kept) → i < length glyphs → glyph ≡ get_or glyphs i glyph →
    glyph_lines number (take (i + 1) glyphs) ≡ glyph_lines number (take i glyphs) ++ (glyph_text number (kept glyph) ++ 10 ∷ [])
lines_more number glyphs i glyph lt is =
    ap (glyph_lines number) (take_more glyphs i glyph lt)
    ∙ flat_map-append (λ (g : Kept). glyph_text number (kept g) ++ 10 ∷ []) (take i glyphs) (get_or glyphs i glyph ∷ [])
    ∙ ap (λ (t : List ℕ). glyph_lines number (take i glyphs) ++ t) (append-nil _ ∙ ap (λ (g : Kept). glyph_text number (kept g) ++ 10 ∷ []) (sym is))

pub glyph_pushed : (number : ℕ) (glyphs : List Kept) (i : ℕ) (glyph : Kept) (first before after : List ℕ) → i < length glyphs → glyph ≡ get_or glyphs i glyph →
    before ≡ first ++ glyph_lines number (take i glyphs) → after ≡ before ++ glyph_text number (kept glyph) ++ 10 ∷ [] → after ≡ first ++ glyph_lines number (take (i + 1) glyphs)
glyph_pushed number glyphs i glyph first before after lt is e f =
    let line : List ℕ = glyph_text number (kept glyph) in
    f ∙ append_assoc before line (10 ∷ [])
    ∙ ap (λ (t : List ℕ). t ++ (line ++ 10 ∷ [])) e
    ∙ append_assoc first (glyph_lines number (take i glyphs)) (line ++ 10 ∷ [])
    ∙ ap (λ (t : List ℕ). first ++ t) (sym (lines_more number glyphs i glyph lt is))

lines_are : (number : ℕ) (glyphs : List Kept) → glyph_lines number glyphs ≡ ended_lines (map (glyph_text number) (map kept glyphs))
lines_are number [] = refl
lines_are number (glyph ∷ glyphs) = ap (λ (t : List ℕ). (glyph_text number (kept glyph) ++ 10 ∷ []) ++ t) (lines_are number glyphs)

-- a line more
line_pushed : (t u line rest : List ℕ) → u ≡ t ++ line ++ 10 ∷ [] → t ++ ((line ++ 10 ∷ []) ++ rest) ≡ u ++ rest
line_pushed t u line rest e =
    sym (append_assoc t (line ++ 10 ∷ []) rest) ∙ ap (λ (x : List ℕ). x ++ rest) (sym (append_assoc t line (10 ∷ [])) ∙ sym e)

pub whole_text : (number : ℕ) (bounds : Option Extents) (glyphs : List Kept) (left_out : ℕ) (t0 t1 t2 t3 t4 : List ℕ) → t0 ≡ [] →
    t1 ≡ t0 ++ font_line number bounds ++ 10 ∷ [] → t2 ≡ t1 ++ glyph_lines number glyphs → t3 ≡ t2 ++ end_line number ++ 10 ∷ [] → t4 ≡ t3 ++ left_line left_out ++ 10 ∷ [] →
    t4 ≡ ended_lines (font_line number bounds ∷ map (glyph_text number) (map kept glyphs) ++ last_lines number left_out)
whole_text number bounds glyphs left_out t0 t1 t2 t3 t4 e0 e1 e2 e3 e4 =
    let A : List ℕ = font_line number bounds ++ 10 ∷ [] in
    let B : List ℕ = glyph_lines number glyphs in
    let C : List ℕ = ended_lines (last_lines number left_out) in
    let first : t1 ≡ A = e1 ∙ (append_assoc t0 (font_line number bounds) (10 ∷ []) ∙ ap (λ (t : List ℕ). t ++ A) e0) in
    let second : t2 ≡ A ++ B = e2 ∙ ap (λ (t : List ℕ). t ++ B) first in
    let last : t2 ++ C ≡ t4 = line_pushed t2 t3 (end_line number) ((left_line left_out ++ 10 ∷ []) ++ []) e3 ∙ (line_pushed t3 t4 (left_line left_out) [] e4 ∙ append-nil t4) in
    sym last ∙ (ap (λ (t : List ℕ). t ++ C) second
    ∙ (append_assoc A B C
    ∙ ap (λ (t : List ℕ). A ++ t) (ap (λ (t : List ℕ). t ++ C) (lines_are number glyphs) ∙ sym (flat_map-append (λ (line : List ℕ). line ++ 10 ∷ []) (map (glyph_text number) (map kept glyphs)) (last_lines number left_out)))))

pub shape_pushed : (t t1 t2 t3 a b c d e : List ℕ) → t1 ≡ t ++ spaced (a ∷ b ∷ c ∷ []) → t2 ≡ t1 ++ 32 ∷ d → t3 ≡ t2 ++ 32 ∷ e → t3 ≡ t ++ spaced (a ∷ b ∷ c ∷ d ∷ e ∷ [])
shape_pushed t t1 t2 t3 a b c d e e1 e2 e3 =
    let S : List ℕ = spaced (a ∷ b ∷ c ∷ []) in
    let D : List ℕ = 32 ∷ d in
    let E : List ℕ = 32 ∷ e in
    let all : S ++ (D ++ E) ≡ spaced (a ∷ b ∷ c ∷ d ∷ e ∷ []) =
    ap (λ (x : List ℕ). S ++ (D ++ x)) (sym (append-nil E)) ∙ sym (flat_map-append (λ (word : List ℕ). 32 ∷ word) (a ∷ b ∷ c ∷ []) (d ∷ e ∷ [])) in
    e3 ∙ (ap (λ (x : List ℕ). x ++ E) (e2 ∙ ap (λ (x : List ℕ). x ++ D) e1)
    ∙ (append_assoc (t ++ S) D E ∙ (append_assoc t S (D ++ E) ∙ ap (λ (x : List ℕ). t ++ x) all)))
