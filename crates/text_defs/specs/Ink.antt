-- Which points of a text are inked.
use Rattle.std.specs.Prelude.{ℕ, ◌+◌, Bool, false, ◌&&◌, ◌||◌, List, [], ◌∷◌, Some, ℤ, pos, ◌-ℤ◌}
use Rattle.std.specs.Int.{int_div_euclid}
use Rattle.std.specs.Int.Signed.{le_z, lt_z}
use Rattle.gui_base.specs.declared.words.TextAlign.{TextAlign}
use Rattle.gui_base.specs.declared.words.TextAlign.TheVariants.{Left, Center, Right}
use Rattle.text_defs.specs.Face.{Cell, Face}
use Rattle.text_defs.specs.Lines.{LineSetting, TextLine, run_width, lines}

-- where a line of this width stands in the whole width, to the left of it where it is wider
abbrev pub line_at : TextAlign → ℤ → ℤ → ℤ
line_at Left whole width = pos 0
line_at Center whole width = int_div_euclid (whole -ℤ width) (pos 2)
line_at Right whole width = whole -ℤ width

-- whether a point, counted from a cell's top left, lies in the cell
abbrev pub in_cell : ℕ → Cell → ℤ → ℤ → Bool
in_cell height cell x y =
    (le_z (pos 0) x && lt_z x (pos cell.advance)) && (le_z (pos 0) y && lt_z y (pos height))

-- a set point of the glyph inside its cell
abbrev pub cell_inked : ℕ → Cell → ℤ → ℤ → Bool
cell_inked height cell x y = in_cell height cell x y && cell.dot x y

-- the same of a run of cells, counted from the first one's top left
abbrev pub run_inked : Face → ℕ → List ℕ → ℤ → ℤ → Bool
run_inked face letter [] x y = false
run_inked face letter (c ∷ cs) x y =
    cell_inked face.height (face.cell c) x y
    || run_inked face letter cs (x -ℤ pos ((face.cell c).advance + letter)) y

-- the same of lines one below the other, with so many pixels from one to the next
abbrev pub lines_inked : LineSetting → TextAlign → ℕ → ℕ → List TextLine → ℤ → ℤ → Bool
lines_inked s align pitch whole [] x y = false
lines_inked s align pitch whole (line ∷ rest) x y =
    run_inked s.face s.letter line.chars (x -ℤ line_at align (pos whole) (pos (run_width s line.chars))) y
    || lines_inked s align pitch whole rest x (y -ℤ pos pitch)

-- whether a point is inked, counted from the top left of a text that is set in so many pixels
unfoldable pub inked : Face → ℕ → ℕ → TextAlign → List ℕ → ℕ → ℤ → ℤ → Bool
inked face letter line align cs width x y =
    let s : LineSetting = record { face = face; letter = letter; most = Some width } in
    lines_inked s align (face.height + line) width (lines s cs) x y
