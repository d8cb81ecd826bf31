-- Where lines stop to be those of a font.
use Rattle.std.specs.Prelude.{◌≡◌, ℕ, ◌+◌, ◌-◌, ◌≤◌, Bool, true, not, List, ◌++◌, length, take, IsOk, IfErr}
use Rattle.std.specs.List.{list_all, list_any}
use Rattle.run_defs.specs.Script.{is_newline}
use Rattle.bdf_font.specs.Bdf.{bdf, font_from, nothing_read}
use Rattle.bdf_font.specs.Lines.{file_lines}

-- bytes that a line of a file may have: no newline is among them
abbrev pub is_line : List ℕ → Bool
is_line line = not (list_any is_newline line)

-- a font may begin with these lines: with other lines after them they are one
pub record BeginsFont (lines : List (List ℕ)) : Type 0 where
  pub more : List (List ℕ)
  pub each : list_all is_line more ≡ true
  pub ends : IsOk (font_from nothing_read 1 (lines ++ more))

-- the lines before this one begin a font, and with this one they do not, whatever comes after it. Where it follows
-- the last line, only the end is missing
pub record IsFirstBad (lines : List (List ℕ)) (number : ℕ) : Type 0 where
  pub first : 1 ≤ number
  pub last : number ≤ length lines + 1
  pub before : BeginsFont (take (number - 1) lines)
  pub here : number ≤ length lines → (more : List (List ℕ)) →
      IsOk (font_from nothing_read 1 (take number lines ++ more)) → ⊥

-- where bytes are no font, the number is that of the first line at which they are none
abbrev pub BadLineIsFirst : Type 0
BadLineIsFirst = (bytes : List ℕ) → IfErr (bdf bytes) (λ number. IsFirstBad (file_lines bytes) number)
