-- What the lines of a scene ask for.
use Rattle.std.specs.Prelude.{◌≡◌, ℕ, Bool, true, false, List, map, IfOk, All}
use Rattle.std.specs.List.{list_all}
use Rattle.scene_defs.specs.declared.Change.{Change}
use Rattle.scene_defs.specs.declared.Change.TheVariants as change
use Rattle.scene_defs.specs.Deeds.{is_in_range}
use Rattle.scene_defs.specs.Valid.{IsChange}
use Rattle.run_defs.specs.Script.{parse, says, Whole}
use Rattle.line_texts.specs.LineTexts.{ended_lines}
use Rattle.line_texts.specs.Commands.{asks}
use Rattle.scene_json.specs.Scenes.{scene_text}

-- the changes that scenes are made by
abbrev pub is_scene_change : Change → Bool
is_scene_change (change.New id parent kind) = true
is_scene_change (change.Size id w h) = true
is_scene_change (change.Pos id x y) = true
is_scene_change (change.Flag id flag on) = true
is_scene_change (change.Text id text) = true
is_scene_change (change.Local id selector prop n) = true
is_scene_change other = false

-- a text of lines, each of which asks for such a change
pub record Asks (text : List ℕ) : Type 0 where
  pub lines : List (List ℕ)
  pub changes : List Change
  pub text_is : text ≡ ended_lines lines
  pub asked : map (λ line. parse line) lines ≡ map asks changes
  -- read as a script, the text asks for these changes and says nothing else
  pub script : says Whole text ≡ map asks changes
  pub scenes : list_all is_scene_change changes ≡ true
  -- their numbers lie in their intervals, and a store may be asked for them
  pub in_range : list_all is_in_range changes ≡ true
  pub allowed : All IsChange changes

-- so are the texts of all scenes
abbrev pub LinesAsk : Type 0
LinesAsk = (bytes : List ℕ) → IfOk (scene_text bytes) Asks
