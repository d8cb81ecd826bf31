-- Cells, runs and lines where they stand, and drawings that take a few steps more.
use Rattle.std.specs.Prelude.{ℕ, ◌+◌, ◌≤◌, Bool, List, length, take, ℤ, pos, negsuc, ◌-ℤ◌, ◌≤ℤ◌}
use Rattle.std.specs.List.{sum_by}
use Rattle.std.specs.Str.{chars}
use Rattle.gui_base.specs.declared.words.TextAlign.{TextAlign}
use Rattle.gui_base.specs.Coats.{Coat}
use Rattle.gui_color.specs.Buffer.{Buffer}
use Rattle.gui_draw.specs.Drawing.{Draws}
use Rattle.gui_draw.specs.declared.runs.Lettering.{Lettering}
use Rattle.gui_font.specs.Sets.{face_in}
use Rattle.gui_font.specs.declared.lines.Run.{Run}
use Rattle.text_defs.specs.Face.{Face}
use Rattle.text_defs.specs.Ink.{cell_inked, run_inked, lines_inked}
use Rattle.text_defs.specs.Lines.{LineSetting, TextLine}

-- the ink of a cell that stands there
abbrev pub cell_at : Face → ℕ → ℤ → ℤ → ℤ → ℤ → Bool
cell_at face c left top x y = cell_inked face.height (face.cell c) (x -ℤ left) (y -ℤ top)

-- the ink of a run whose first cell stands there
abbrev pub run_at : Face → ℕ → List ℕ → ℤ → ℤ → ℤ → ℤ → Bool
run_at face letter cs left top x y = run_inked face letter cs (x -ℤ left) (y -ℤ top)

-- the font of a lettering
abbrev pub face_of : Lettering → Face
face_of lettering = face_in lettering.fonts.now lettering.look.font

-- the ink of the characters of a run
abbrev pub ink_of : Lettering → Run → ℤ → ℤ → ℤ → ℤ → Bool
ink_of lettering run =
    run_at (face_of lettering) lettering.look.letter (take run.count (chars run.text.now))

-- the ink of lines that stand there
abbrev pub lines_at : LineSetting → TextAlign → ℕ → ℕ → List TextLine → ℤ → ℤ → ℤ → ℤ → Bool
lines_at s align pitch whole lines left top x y =
    lines_inked s align pitch whole lines (x -ℤ left) (y -ℤ top)

-- where a run may begin
abbrev pub IsPen : ℤ → Type 0
IsPen n = (negsuc 100000000000 ≤ℤ n) × (n ≤ℤ pos 100000000000)

-- how many characters lines have
abbrev pub letter_count : List TextLine → ℕ
letter_count lines = sum_by (λ line. length line.chars) lines

-- a drawing, and besides it so many steps at most
pub record DrawsIn (most : ℕ) (old new : Buffer) (from to : ℕ) (coat : Coat) : Type 0 where
  pub more : ℕ
  pub few : more ≤ most
  pub draws : Draws old new (from + more) to coat
