-- A line's end, said as a relation over all ends.
use Rattle.std.specs.Prelude.{◌≡◌, ◌<◌, ◌≤◌, ◌⊎◌, ℕ, List, Bool, true, false, Some, None}
use Rattle.text_defs.specs.Lines.{LineSetting, segment_length, is_fit, fitting, ends_in_space, first_length}
use Rattle.text_defs.specs.Lines.{lines, widest}

-- no end further on in the segment passes the test
abbrev pub NoneFurther : List ℕ → (ℕ → Bool) → ℕ → Type 0
NoneFurther cs test n = (k : ℕ) → n < k → k ≤ segment_length cs → test k ≡ false

-- as many characters as fit: one, or a number that fits, and no greater number of the segment fits
pub record IsMost (s : LineSetting) (cs : List ℕ) (n : ℕ) : Type 0 where
  pub some : 1 ≤ n
  pub fits : 1 < n → is_fit s cs n ≡ true
  pub most : NoneFurther cs (is_fit s cs) n

-- the line ends after the last space of the first n characters
pub record IsAfterSpace (cs : List ℕ) (n «end» : ℕ) : Type 0 where
  pub within : «end» ≤ n
  pub space : ends_in_space cs «end» ≡ true
  pub last : (k : ℕ) → «end» < k → k ≤ n → ends_in_space cs k ≡ false

-- none of the first n characters is a space, and the line ends after all of them
pub record IsWithoutSpace (cs : List ℕ) (n «end» : ℕ) : Type 0 where
  pub all : «end» ≡ n
  pub none : (k : ℕ) → 1 ≤ k → k ≤ n → ends_in_space cs k ≡ false

-- a line that ends before its segment does, where n characters fit
pub record IsBreak (s : LineSetting) (cs : List ℕ) (n «end» : ℕ) : Type 0 where
  pub most : IsMost s cs n
  pub before : n < segment_length cs
  pub at : IsAfterSpace cs n «end» ⊎ IsWithoutSpace cs n «end»

-- a segment goes whole into one line where it fits, or has one character at most; else its first line ends
-- after the last space that fits, or after as many characters as fit
pub record LineEnds (s : LineSetting) (cs : List ℕ) : Type 0 where
  pub whole :
      segment_length cs ≤ 1 ⊎ (is_fit s cs (segment_length cs) ≡ true) → first_length s cs ≡ segment_length cs
  pub broken :
      1 < segment_length cs → is_fit s cs (segment_length cs) ≡ false →
      IsBreak s cs (fitting s cs) (first_length s cs)

abbrev pub LinesEndByRule : Type 0
LinesEndByRule = (s : LineSetting) (cs : List ℕ) → LineEnds s cs

-- the same setting without a width, and in so many pixels
abbrev pub unbounded : LineSetting → LineSetting
unbounded s = record s { most = None }

abbrev pub bounded : LineSetting → ℕ → LineSetting
bounded s width = record s { most = Some width }

-- in a width of at least the widest run, lines end at newlines alone
abbrev pub WideLinesEndAtNewlines : Type 0
WideLinesEndAtNewlines =
    (s : LineSetting) (cs : List ℕ) (width : ℕ) → widest (unbounded s) (lines (unbounded s) cs) ≤ width →
    lines (bounded s width) cs ≡ lines (unbounded s) cs
