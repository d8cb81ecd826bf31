-- The lines that are still to come.
use Rattle.std.specs.Prelude.{ℕ, ◌+◌, ◌-◌, List, map, length, option_map, Some, None}
use Rattle.std.specs.declared.option.Option.{Option}
use Rattle.std.specs.Str.{chars}
use Rattle.std.specs.Borrow.{Bor}
use Rattle.text_defs.specs.declared.Line.{Line}
use Rattle.text_defs.specs.Lines.{LineSetting, TextLine, lines_of}
use Rattle.gui_font.specs.Sets.{face_in}
use Rattle.gui_font.specs.Walks.{setting, line_of, bytes_left}
use Rattle.gui_font.specs.declared.lines.Lines.{Lines}

-- no text has more lines than characters and one
abbrev pub most_lines : Option (List ℕ) → ℕ
most_lines None = 0
most_lines (Some cs) = length cs + 1

abbrev pub setting_of : Lines → LineSetting
setting_of l = setting (face_in l.fonts.now l.look.font) l.look l.most

-- the lines of what is left of a text of so many bytes
unfoldable pub runs_after : LineSetting → ℕ → Option (Bor (List ℕ)) → List TextLine
runs_after s len left =
    let cs = option_map (λ t. chars t.now) left in lines_of s (most_lines cs) (len - bytes_left left) cs

abbrev pub runs_left : Lines → List TextLine
runs_left l = runs_after (setting_of l) l.len l.left

-- the same lines as their bytes and the widths of their runs
abbrev pub lines_left : Lines → List Line
lines_left l = map (line_of (setting_of l)) (runs_left l)
