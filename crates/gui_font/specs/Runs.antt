-- A line with its characters.
use Rattle.std.specs.Prelude.{◌≡◌, ◌≤◌, List, ◌∷◌, take, length}
use Rattle.std.specs.Str.{chars}
use Rattle.text_defs.specs.Lines.{LineSetting, TextLine}
use Rattle.gui_font.specs.Walks.{line_of}
use Rattle.gui_font.specs.declared.lines.Run.{Run}

-- the first of some lines is handed out, and the others stay
pub record GivesRun (s : LineSetting) (before after : List TextLine) (run : Run) : Type 0 where
  pub first : TextLine
  pub steps : before ≡ first ∷ after
  pub line : run.line ≡ line_of s first
  pub characters : take run.count (chars run.text.now) ≡ first.chars
  pub within : run.count ≤ length (chars run.text.now)
