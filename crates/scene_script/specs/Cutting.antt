-- What a cutter holds, and what bytes make of it.
use Rattle.std.specs.Prelude.{◌≡◌, ℕ, Bool, true, false, Some, None, Err, nat_lt, if◌then◌else◌}
use Rattle.std.specs.Prelude.{List, [], ◌∷◌, ◌++◌, length}
use Rattle.std.specs.declared.option.Option.{Option}
use Rattle.run_defs.specs.Script.{Said, Whole, says, says_cut, rest_of, max_line, is_newline, without_return}
use Rattle.run_defs.specs.Script.{parse}
use Rattle.run_defs.specs.declared.LineFault.TheVariants.{Long as LongLine}
use Rattle.scene_script.specs.declared.cutter.Cut.{Cut}
use Rattle.scene_script.specs.declared.cutter.Cut.TheVariants.{More, Line, Long}

pub record Cutting : Type 0 where
  -- the bytes of the line, where they are not too many
  pub bytes : Option (List ℕ)
  -- the last answer
  pub answer : Cut
  -- whether the end of the script ended the line, and no newline
  pub last : Bool

-- the bytes of a line, where they are not too many for one
abbrev pub kept : List ℕ → Option (List ℕ)
kept bytes = if nat_lt max_line (length bytes) then None else Some bytes

-- the same with one byte more
abbrev pub kept_with : Option (List ℕ) → ℕ → Option (List ℕ)
kept_with None byte = None
kept_with (Some bytes) byte = kept (bytes ++ byte ∷ [])

-- the line that the next byte is of: a new one where the last one is whole
abbrev pub begun_by : Cut → Option (List ℕ) → Option (List ℕ)
begun_by More bytes = bytes
begun_by Line bytes = Some []
begun_by Long bytes = Some []

abbrev pub begun : Cutting → Option (List ℕ)
begun c = begun_by c.answer c.bytes

-- the answer to a newline after these bytes
abbrev pub cut_of : Option (List ℕ) → Cut
cut_of None = Long
cut_of (Some bytes) = Line

-- the answer to the end of the script after these bytes: where there are none, there is no line
abbrev pub last_cut : Option (List ℕ) → Cut
last_cut None = Long
last_cut (Some []) = More
last_cut (Some (b ∷ bytes)) = Line

abbrev pub pushed : Cutting → ℕ → Cutting
pushed c byte =
    if is_newline byte then record { bytes = begun c; answer = cut_of (begun c); last = false }
    else record { bytes = kept_with (begun c) byte; answer = More; last = false }

abbrev pub finished : Cutting → Cutting
finished c = record { bytes = begun c; answer = last_cut (begun c); last = true }

-- the line of these bytes: one carriage return before a newline is no part of it
abbrev pub line_of : Bool → List ℕ → List ℕ
line_of true bytes = bytes
line_of false bytes = without_return bytes

-- what the line says that a cutter's last answer made whole, if it made one
abbrev pub cut_line : Cut → Option (List ℕ) → Bool → List Said
cut_line More bytes last = []
cut_line Line None last = []
cut_line Line (Some bytes) last = parse (line_of last bytes) ∷ []
cut_line Long bytes last = Err LongLine ∷ []

abbrev pub cut_says : Cutting → List Said
cut_says c = cut_line c.answer c.bytes c.last

-- the cutter has taken these bytes: it holds the line that they leave open
abbrev pub HasTaken : Cutting → List ℕ → Type 0
HasTaken c bytes = begun c ≡ kept (rest_of bytes)

-- A byte was taken after others, and what the lines say goes on as that of a script with these bytes.
pub record Takes (old new : Cutting) (byte : ℕ) : Type 0 where
  pub says : (taken : List ℕ) → HasTaken old taken →
      says_cut taken ++ cut_says new ≡ says_cut (taken ++ byte ∷ [])
  pub has : (taken : List ℕ) → HasTaken old taken → HasTaken new (taken ++ byte ∷ [])

-- The end of the script was taken.
pub record Finishes (old new : Cutting) : Type 0 where
  pub says : (script : List ℕ) → HasTaken old script → says_cut script ++ cut_says new ≡ says Whole script
