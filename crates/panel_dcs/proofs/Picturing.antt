-- The file of what a turned panel shows, line by line.
use Rattle.std.proofs.Common.{◌≡◌, ◌∙◌, sym, ap, refl, subst, ℕ, suc, zero, ◌+◌, ◌-◌, ◌*◌, ◌/◌, ◌%◌, ◌<◌, ℤ, pos, List, [], ◌∷◌, ◌++◌, append_assoc, append-nil, length, map, take, slice_index_or, slice_set, flat_map, Option, Some, None, arith}
use Rattle.std.specs.Prelude.{IfSome}
use Rattle.std.specs.List.{range_with_len}
use Rattle.std.specs.Io.KnownBytes.{Appends}
use Rattle.std.proofs.KnownBytes.{Appends-trans}
use Rattle.std.proofs.lemmas.Grind.{rows, flat_map-append}
use Rattle.std.proofs.lemmas.List.{get_or_default, take_more_set}
use Rattle.std.proofs.lemmas.List.FromFn.{length-map-range_with_len, get_or-map-range_with_len, map-range_with_len_more, fill_by_all}
use Rattle.gui_base.specs.declared.color.Rgb565.{Rgb565}
use Rattle.gui_base.specs.Color.{black}
use Rattle.gui_base.specs.Ppm.{rgb_bytes, ppm_head, ppm}
use Rattle.gui_color.specs.Buffer.{color_at}
use Rattle.gui_edge.specs.Sink.{AppendsPrefix}
use Rattle.gui_edge.proofs.Prefixes.{AppendsPrefix-append, AppendsPrefix-behind}
use Rattle.panel_dcs.specs.Controller.{Chip, cell, unwritten}
use Rattle.panel_dcs.specs.DcsPanel.{IsDevice, WritesShown}
use Rattle.panel_dcs.specs.Turning.{Turned, columns_of, pages_of, column_at, page_at, color_behind, device, shown, line_shown, lines_from}
use Rattle.panel_dcs.proofs.Rows.{place_is}

-- The colour behind a pixel is that of a cell of the memory.
within : (columns pages column page : ℕ) → column < columns → page < pages → page * columns + column < columns * pages
within columns pages column page few_columns few_pages = grind (arith, rows)

cell_behind : (t : Turned) (chip : Chip) (column page : ℕ) (x y : ℤ) → IsDevice t chip → pos column ≡ column_at t x y → pos page ≡ page_at t x y → column < columns_of t → page < pages_of t →
    slice_index_or chip.memory (cell chip column page) unwritten ≡ color_behind t chip.memory x y
unfolding color_at
cell_behind t chip column page x y d is is' few_columns few_pages =
    let inside : page * columns_of t + column < length chip.memory = subst (λ (n : ℕ). page * columns_of t + column < n) (sym d.len) (within (columns_of t) (pages_of t) column page few_columns few_pages) in
    ap (λ (n : ℕ). slice_index_or chip.memory (page * n + column) unwritten) d.columns
    ∙ get_or_default chip.memory (page * columns_of t + column) unwritten black inside
    ∙ ap (λ (n : ℕ). slice_index_or chip.memory n black) (sym (place_is (columns_of t) (pages_of t) column page))
    ∙ ap (λ (z : ℤ). color_at (device t) chip.memory z (pos page)) is
    ∙ ap (λ (z : ℤ). color_at (device t) chip.memory (column_at t x y) z) is'

pub peeked : (t : Turned) (told : Option Chip) (color : Rgb565) (column page : ℕ) (x y : ℤ) → ((chip : Chip) → told ≡ Some chip → IsDevice t chip) → pos column ≡ column_at t x y → pos page ≡ page_at t x y → column < columns_of t → page < pages_of t →
    IfSome told (λ chip. color ≡ slice_index_or chip.memory (cell chip column page) unwritten) →
    IfSome told (λ chip. color ≡ color_behind t chip.memory x y)
peeked t None color column page x y d is is' few_columns few_pages h = tt
peeked t (Some chip) color column page x y d is is' few_columns few_pages h = h ∙ cell_behind t chip column page x y (d chip refl) is is' few_columns few_pages

-- A line with a pixel more.
pub line_more : (t : Turned) (told : Option Chip) (line : List Rgb565) (color : Rgb565) (x y at : ℕ) → at ≡ x → x < length line →
    IfSome told (λ chip. take x line ≡ map (λ (k : ℕ). color_behind t chip.memory (pos k) (pos y)) (range_with_len 0 x)) →
    IfSome told (λ chip. color ≡ color_behind t chip.memory (pos x) (pos y)) →
    IfSome told (λ chip. take (x + 1) (slice_set line at color) ≡ map (λ (k : ℕ). color_behind t chip.memory (pos k) (pos y)) (range_with_len 0 (x + 1)))
line_more t None line color x y at is lt h k = tt
line_more t (Some chip) line color x y at is lt h k =
    let last : 0 + x ≡ x = omega arith in
    ap (λ (n : ℕ). take (x + 1) (slice_set line n color)) is
    ∙ take_more_set line x color lt
    ∙ ap (λ (l : List Rgb565). l ++ color ∷ []) h
    ∙ ap (λ (c : Rgb565). map (λ (k : ℕ). color_behind t chip.memory (pos k) (pos y)) (range_with_len 0 x) ++ c ∷ []) k
    ∙ sym (map-range_with_len_more (λ (k : ℕ). color_behind t chip.memory (pos k) (pos y)) 0 x x last)

pub line_begins : (t : Turned) (told : Option Chip) (line : List Rgb565) (y : ℕ) →
    IfSome told (λ chip. take 0 line ≡ map (λ (k : ℕ). color_behind t chip.memory (pos k) (pos y)) (range_with_len 0 0))
line_begins t None line y = tt
line_begins t (Some chip) line y = refl

pub line_ends : (t : Turned) (told : Option Chip) (line : List Rgb565) (x y : ℕ) → x ≡ t.width →
    IfSome told (λ chip. take x line ≡ map (λ (k : ℕ). color_behind t chip.memory (pos k) (pos y)) (range_with_len 0 x)) →
    IfSome told (λ chip. take t.width line ≡ line_shown t chip.memory y)
line_ends t told line x y e h = subst (λ (n : ℕ). IfSome told (λ chip. take n line ≡ map (λ (k : ℕ). color_behind t chip.memory (pos k) (pos y)) (range_with_len 0 n))) e h

-- The lines from one on are that line and those after it.
map_run : {X : Type 0} (f : ℕ → X) (a b n m k : ℕ) → k ≡ n + m → b ≡ a + n → map f (range_with_len a k) ≡ map f (range_with_len a n) ++ map f (range_with_len b m)
map_run f a b zero m k e h =
    let all : k ≡ m = omega arith in
    let same : b ≡ a = omega arith in
    rw (all, same) refl
map_run f a b (suc n) m zero e h = absurd (omega arith)
map_run f a b (suc n) m (suc k) e h =
    let fewer : k ≡ n + m = omega arith in
    let later : b ≡ (a + 1) + n = omega arith in
    ap (λ xs. f a ∷ xs) (map_run f (a + 1) b n m k fewer later)

pixel_is : (t : Turned) (memory : List Rgb565) (column line : ℕ) → column < t.width →
    color_behind t memory (pos ((line * t.width + column) % t.width)) (pos ((line * t.width + column) / t.width)) ≡ color_behind t memory (pos column) (pos line)
pixel_is t memory column line few_columns =
    let in_row : (line * t.width + column) % t.width ≡ column = grind (arith, rows) in
    let in_column : (line * t.width + column) / t.width ≡ line = grind (arith, rows) in
    rw (in_row, in_column) refl

line_is : (t : Turned) (memory : List Rgb565) (y : ℕ) →
    map (λ (i : ℕ). color_behind t memory (pos (i % t.width)) (pos (i / t.width))) (range_with_len (y * t.width) t.width) ≡ line_shown t memory y
line_is t memory y =
    fill_by_all (λ (x : ℕ). color_behind t memory (pos x) (pos y)) _ t.width black
    (length-map-range_with_len (λ (i : ℕ). color_behind t memory (pos (i % t.width)) (pos (i / t.width))) (y * t.width) t.width)
    (λ k lt. get_or-map-range_with_len (λ (i : ℕ). color_behind t memory (pos (i % t.width)) (pos (i / t.width))) (y * t.width) t.width k (y * t.width + k) black lt refl ∙ pixel_is t memory k y lt)

lines_run : (t : Turned) (memory : List Rgb565) (y : ℕ) → y < t.height → lines_from t memory y ≡ line_shown t memory y ++ lines_from t memory (y + 1)
lines_run t memory y lt =
    let one : t.height - y ≡ (t.height - (y + 1)) + 1 = omega arith in
    let more : (t.height - y) * t.width ≡ t.width + (t.height - (y + 1)) * t.width = rw one (omega arith) in
    let next : (y + 1) * t.width ≡ y * t.width + t.width = omega arith in
    map_run (λ (i : ℕ). color_behind t memory (pos (i % t.width)) (pos (i / t.width))) (y * t.width) ((y + 1) * t.width) t.width ((t.height - (y + 1)) * t.width) ((t.height - y) * t.width) more next
    ∙ ap (λ (l : List Rgb565). l ++ lines_from t memory (y + 1)) (line_is t memory y)

all_lines : (t : Turned) (memory : List Rgb565) → lines_from t memory 0 ≡ shown t memory
all_lines t memory =
    let first : 0 * t.width ≡ 0 = omega arith in
    let whole : t.height - 0 ≡ t.height = omega arith in
    let size : (t.height - 0) * t.width ≡ t.width * t.height = rw whole (omega arith) in
    ap (λ (k : ℕ). map (λ (i : ℕ). color_behind t memory (pos (i % t.width)) (pos (i / t.width))) (range_with_len k ((t.height - 0) * t.width))) first
    ∙ ap (λ (n : ℕ). map (λ (i : ℕ). color_behind t memory (pos (i % t.width)) (pos (i / t.width))) (range_with_len 0 n)) size

no_lines : (t : Turned) (memory : List Rgb565) (y : ℕ) → y ≡ t.height → lines_from t memory y ≡ []
no_lines t memory y e =
    let none : t.height - y ≡ 0 = omega arith in
    let size : (t.height - y) * t.width ≡ 0 = rw none (omega arith) in
    ap (λ (n : ℕ). map (λ (i : ℕ). color_behind t memory (pos (i % t.width)) (pos (i / t.width))) (range_with_len (y * t.width) n)) size

-- so many colours are a line where they are as many as its pixels
pub line_of : (t : Turned) (told : Option Chip) (line : List Rgb565) (y n : ℕ) → n ≡ t.width → IfSome told (λ chip. take t.width line ≡ line_shown t chip.memory y) → IfSome told (λ chip. take n line ≡ line_shown t chip.memory y)
line_of t told line y n e h = subst (λ (k : ℕ). IfSome told (λ chip. take k line ≡ line_shown t chip.memory y)) (sym e) h

-- The file up to a line is written.
pub record LinesWritten (t : Turned) (memory : List Rgb565) (y : ℕ) (old new : Option (List ℕ)) : Type 0 where
  pub bytes : List ℕ
  pub whole : bytes ++ flat_map rgb_bytes (lines_from t memory y) ≡ ppm t.width t.height (shown t memory)
  pub grows : Appends old new bytes

whole_more : (t : Turned) (memory : List Rgb565) (y : ℕ) (bytes : List ℕ) (line : List Rgb565) → y < t.height → bytes ++ flat_map rgb_bytes (lines_from t memory y) ≡ ppm t.width t.height (shown t memory) → line ≡ line_shown t memory y →
    (bytes ++ flat_map rgb_bytes line) ++ flat_map rgb_bytes (lines_from t memory (y + 1)) ≡ ppm t.width t.height (shown t memory)
whole_more t memory y bytes line lt h is =
    append_assoc bytes (flat_map rgb_bytes line) (flat_map rgb_bytes (lines_from t memory (y + 1)))
    ∙ ap (λ (zs : List ℕ). bytes ++ zs)
    (sym (flat_map-append rgb_bytes line (lines_from t memory (y + 1)))
    ∙ ap (λ (l : List Rgb565). flat_map rgb_bytes (l ++ lines_from t memory (y + 1))) is
    ∙ ap (λ (l : List Rgb565). flat_map rgb_bytes l) (sym (lines_run t memory y lt)))
    ∙ h

pub lines_begin : (t : Turned) (told : Option Chip) (old new : Option (List ℕ)) (bytes : List ℕ) → bytes ≡ ppm_head t.width t.height → Appends old new bytes → IfSome told (λ chip. LinesWritten t chip.memory 0 old new)
lines_begin t None old new bytes is a = tt
lines_begin t (Some chip) old new bytes is a = record {
  bytes = bytes;
  whole = ap (λ (b : List ℕ). b ++ flat_map rgb_bytes (lines_from t chip.memory 0)) is ∙ ap (λ (l : List Rgb565). ppm_head t.width t.height ++ flat_map rgb_bytes l) (all_lines t chip.memory);
  grows = a;
}

pub lines_more : (t : Turned) (told : Option Chip) (old mid new : Option (List ℕ)) (y : ℕ) (line : List Rgb565) → y < t.height → IfSome told (λ chip. LinesWritten t chip.memory y old mid) → IfSome told (λ chip. line ≡ line_shown t chip.memory y) → Appends mid new (flat_map rgb_bytes line) →
    IfSome told (λ chip. LinesWritten t chip.memory (y + 1) old new)
lines_more t None old mid new y line lt w is a = tt
lines_more t (Some chip) old mid new y line lt w is a = record {
  bytes = w.bytes ++ flat_map rgb_bytes line;
  whole = whole_more t chip.memory y w.bytes line lt w.whole is;
  grows = Appends-trans old mid new w.bytes (flat_map rgb_bytes line) w.grows a;
}

pub lines_end : (t : Turned) (told : Option Chip) (old new : Option (List ℕ)) (y : ℕ) → y ≡ t.height → IfSome told (λ chip. LinesWritten t chip.memory y old new) → WritesShown t told (Appends old new)
lines_end t None old new y e w = tt
lines_end t (Some chip) old new y e w =
    let all : w.bytes ≡ ppm t.width t.height (shown t chip.memory) = sym (append-nil w.bytes) ∙ ap (λ (l : List Rgb565). w.bytes ++ flat_map rgb_bytes l) (sym (no_lines t chip.memory y e)) ∙ w.whole in
    subst (λ (b : List ℕ). Appends old new b) all w.grows

-- A prefix of the file is written.
pub head_breaks : (t : Turned) (told : Option Chip) (old new : Option (List ℕ)) (bytes : List ℕ) → bytes ≡ ppm_head t.width t.height → AppendsPrefix old new bytes → WritesShown t told (AppendsPrefix old new)
head_breaks t None old new bytes is a = tt
head_breaks t (Some chip) old new bytes is a =
    AppendsPrefix-append old new (ppm_head t.width t.height) (flat_map rgb_bytes (shown t chip.memory)) (subst (λ (b : List ℕ). AppendsPrefix old new b) is a)

pub line_breaks : (t : Turned) (told : Option Chip) (old mid new : Option (List ℕ)) (y : ℕ) (line : List Rgb565) → y < t.height → IfSome told (λ chip. LinesWritten t chip.memory y old mid) → IfSome told (λ chip. line ≡ line_shown t chip.memory y) → AppendsPrefix mid new (flat_map rgb_bytes line) →
    WritesShown t told (AppendsPrefix old new)
line_breaks t None old mid new y line lt w is a = tt
line_breaks t (Some chip) old mid new y line lt w is a =
    subst (λ (b : List ℕ). AppendsPrefix old new b) (whole_more t chip.memory y w.bytes line lt w.whole is)
    (AppendsPrefix-append old new (w.bytes ++ flat_map rgb_bytes line) (flat_map rgb_bytes (lines_from t chip.memory (y + 1)))
    (AppendsPrefix-behind old mid new w.bytes (flat_map rgb_bytes line) w.grows a))
