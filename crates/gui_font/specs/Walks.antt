-- A walk over the lines of a text.
use Rattle.std.specs.Prelude.{◌≡◌, ℕ, ◌+◌, ◌≤◌, Bool, List, ◌∷◌, drop, take, length, Some, None, pos}
use Rattle.std.specs.declared.option.Option.{Option}
use Rattle.std.specs.Str.{chars}
use Rattle.std.specs.Borrow.{Bor}
use Rattle.text_defs.specs.declared.TextLook.{TextLook}
use Rattle.text_defs.specs.declared.Line.{Line}
use Rattle.text_defs.specs.Face.{Face}
use Rattle.text_defs.specs.Lines.{LineSetting, TextLine, newline, run_width, byte_count, first_length, is_broken}

-- a text set in a face by a look, in so many pixels at most
abbrev pub setting : Face → TextLook → Option ℕ → LineSetting
setting face look most = record { face = face; letter = look.letter; most = most }

-- a line as its bytes and the width of its run
abbrev pub line_of : LineSetting → TextLine → Line
line_of s l =
    record { start = l.start; «end» = l.start + byte_count l.chars; width = pos (run_width s l.chars) }

-- the text is empty, or its first character is a newline
abbrev pub StartsWithNewline : List ℕ → Type 0
StartsWithNewline cs = (c : ℕ) (rest : List ℕ) → cs ≡ c ∷ rest → c ≡ newline

-- how many bytes are left
abbrev pub bytes_left : Option (Bor (List ℕ)) → ℕ
bytes_left None = 0
bytes_left (Some text) = length text.now

-- the run of the first n characters of a text of so many bytes ends here: their count, how wide it is, and
-- what follows
pub record EndsAt (s : LineSetting) (cs : List ℕ) (bytes n count width : ℕ) (rest : List ℕ) : Type 0 where
  pub count_is : count ≡ n
  pub within : n ≤ length cs
  pub left : chars rest ≡ drop n cs
  pub taken : byte_count (take n cs) + length rest ≡ bytes
  pub width_is : width ≡ run_width s (take n cs)

-- the first line of a text of so many bytes: where it ends, and whether its segment goes on
pub record IsCut (s : LineSetting) (cs : List ℕ) (bytes count width : ℕ) (rest : List ℕ) (broken : Bool) : Type 0
  where
    pub ends : EndsAt s cs bytes (first_length s cs) count width rest
    pub broken_is : broken ≡ is_broken s cs
    pub small : width ≤ 355000
