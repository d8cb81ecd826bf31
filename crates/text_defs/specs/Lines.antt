-- How a text is broken into lines.
use Rattle.std.specs.Prelude.{ℕ, zero, suc, ◌+◌, ◌-◌, ◌*◌, max, Bool, true, not, ◌==◌, nat_le, nat_lt}
use Rattle.std.specs.Prelude.{if◌then◌else◌, List, [], ◌∷◌, take, drop, length, slice_index, Some, None}
use Rattle.std.specs.declared.option.Option.{Option}
use Rattle.std.specs.List.{prefix_len, sum_by}
use Rattle.std.specs.Char.{len_utf8}
use Rattle.text_defs.specs.Face.{Face}

-- a font, the pixels between two characters, and how wide a line may be
pub record LineSetting : Type 0 where
  pub face : Face
  pub letter : ℕ
  pub most : Option ℕ

-- the code of the newline
abbrev pub newline : ℕ
newline = 10

-- the code of the space
abbrev pub space : ℕ
space = 32

-- how many bytes characters take
abbrev pub byte_count : List ℕ → ℕ
byte_count cs = sum_by len_utf8 cs

-- the sum of the advances
abbrev pub advances : Face → List ℕ → ℕ
advances face cs = sum_by (λ c. (face.cell c).advance) cs

-- the width of a run: its advances, and the pixels between each two characters
unfoldable pub run_width : LineSetting → List ℕ → ℕ
run_width s cs = advances s.face cs + s.letter * (length cs - 1)

-- whether a width is at most as wide as a line may be; without a limit each is
abbrev pub is_within : Option ℕ → ℕ → Bool
is_within None width = true
is_within (Some most) width = nat_le width most

-- the greatest number up to n that passes a test, and 0 where none does
unfoldable pub greatest : (ℕ → Bool) → ℕ → ℕ
greatest test zero = 0
greatest test (suc n) = if test (suc n) then suc n else greatest test n

-- how many characters stand before the first newline
abbrev pub segment_length : List ℕ → ℕ
segment_length cs = prefix_len (λ c. not (c == newline)) cs

-- whether the first n characters fit
abbrev pub is_fit : LineSetting → List ℕ → ℕ → Bool
is_fit s cs n = is_within s.most (run_width s (take n cs))

-- how many characters of the first segment fit: as many as may be, and one at least
abbrev pub fitting : LineSetting → List ℕ → ℕ
fitting s cs = max 1 (greatest (is_fit s cs) (segment_length cs))

-- whether the last of the first n characters is a space
abbrev pub ends_in_space : List ℕ → ℕ → Bool
ends_in_space cs n = slice_index cs (n - 1) == space

-- where the last space of the first n characters ends, or 0
abbrev pub after_space : List ℕ → ℕ → ℕ
after_space cs n = greatest (ends_in_space cs) n

-- a number, or another one where it is 0
abbrev pub or_else : ℕ → ℕ → ℕ
or_else zero n = n
or_else (suc m) n = suc m

-- whether the first segment goes on after its first line
abbrev pub is_broken : LineSetting → List ℕ → Bool
is_broken s cs = nat_lt (fitting s cs) (segment_length cs)

-- how many characters the first line of a text has: the whole segment where it fits, and else those up to the
-- last space that fits, or as many as fit where there is none
abbrev pub first_length : LineSetting → List ℕ → ℕ
first_length s cs =
    if is_broken s cs then or_else (after_space cs (fitting s cs)) (fitting s cs) else segment_length cs

-- the first line of a text
abbrev pub first_line : LineSetting → List ℕ → List ℕ
first_line s cs = take (first_length s cs) cs

-- the text after its first newline, if it has one
abbrev pub after_newline : List ℕ → Option (List ℕ)
after_newline [] = None
after_newline (c ∷ cs) = Some cs

-- what is left after the first line: it begins in the same segment, or after the newline
abbrev pub left_after : LineSetting → List ℕ → Option (List ℕ)
left_after s cs =
    if is_broken s cs then Some (drop (first_length s cs) cs) else after_newline (drop (first_length s cs) cs)

-- a line: how many bytes stand before it, and its characters
pub record TextLine : Type 0 where
  pub start : ℕ
  pub chars : List ℕ

-- the bytes from one line to the next: those of the line, and the newline where it ends there
abbrev pub bytes_to_next : LineSetting → List ℕ → ℕ
bytes_to_next s cs = byte_count (first_line s cs) + (if is_broken s cs then 0 else 1)

-- at most so many lines of what is left, which begins after so many bytes
abbrev pub lines_of : LineSetting → ℕ → ℕ → Option (List ℕ) → List TextLine
lines_of s n at None = []
lines_of s zero at (Some cs) = []
lines_of s (suc n) at (Some cs) =
    record { start = at; chars = first_line s cs } ∷ lines_of s n (at + bytes_to_next s cs) (left_after s cs)

-- all lines of a text: no more than its characters and one
unfoldable pub lines : LineSetting → List ℕ → List TextLine
lines s cs = lines_of s (length cs + 1) 0 (Some cs)

-- the widest run of some lines
abbrev pub widest : LineSetting → List TextLine → ℕ
widest s [] = 0
widest s (line ∷ rest) = max (run_width s line.chars) (widest s rest)

-- how high so many lines are, with so many pixels between each two
abbrev pub height_of_lines : ℕ → ℕ → ℕ → ℕ
height_of_lines height gap count = count * height + (count - 1) * gap

-- the widest run of a text, and the height of its lines
abbrev pub measured : LineSetting → ℕ → List ℕ → ℕ × ℕ
measured s gap cs =
    (widest s (lines s cs), height_of_lines s.face.height gap (length (lines s cs)))
