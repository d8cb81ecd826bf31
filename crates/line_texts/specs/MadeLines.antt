-- What the lines of the made script ask for.
use Rattle.std.specs.Prelude.{◌≡◌, ◌≤◌, ℕ, ◌+◌, ◌*◌, pos}
use Rattle.gui_base.specs.declared.Handle.{Handle}
use Rattle.gui_base.specs.declared.props.Prop.TheVariants.{BgColor, BgOpa}
use Rattle.gui_base.specs.declared.words.Kind.TheVariants.{Obj}
use Rattle.gui_base.specs.declared.words.Length.TheVariants.{Pixels}
use Rattle.gui_base.specs.declared.words.Part.TheVariants.{Main}
use Rattle.gui_base.specs.declared.words.Selector.{Selector}
use Rattle.run_defs.specs.Made.{command_drawn, draw, drawn}
use Rattle.run_defs.specs.Script.{parse}
use Rattle.run_defs.specs.declared.made.MadeCommand.{MadeCommand}
use Rattle.run_defs.specs.declared.made.MadeCommand.TheVariants.{New, Size, Pos, Color, Opacity, Front}
use Rattle.scene_defs.specs.declared.Change.{Change}
use Rattle.scene_defs.specs.declared.Change.TheVariants as change
use Rattle.line_texts.specs.Commands.{asks}

abbrev handle : ℕ → Handle
handle h = record { 0 = h }

-- the main part in every state
abbrev main : Selector
main = record { part = Main; states = 0 }

-- the change that a command asks for, by the same draws as its text
abbrev pub change_drawn : ℕ → ℕ → MadeCommand → ℕ → ℕ → Change
change_drawn width height New h x = change.New (handle h) (handle 3) Obj
change_drawn width height Size h x =
    change.Size (handle h) (Pixels (1 + draw width x)) (Pixels (1 + draw height (drawn x)))
change_drawn width height Pos h x =
    change.Pos (handle h) (pos (draw width x)) (pos (draw height (drawn x)))
change_drawn width height Color h x =
    change.Local (handle h) main BgColor
    (pos (65536 * draw 256 x + 256 * draw 256 (drawn x) + draw 256 (drawn (drawn x))))
change_drawn width height Opacity h x = change.Local (handle h) main BgOpa (pos (draw 256 x))
change_drawn width height Front h x = change.Front (handle h)

-- each command says so, on an object that may be made, and on a panel that there may be
abbrev pub MadeCommandsSay : Type 0
MadeCommandsSay =
    (width height : ℕ) (command : MadeCommand) (h x : ℕ) →
    1 ≤ width → width ≤ 1024 → 1 ≤ height → height ≤ 1024 → 10 ≤ h → h ≤ 9999 →
    parse (command_drawn width height command h x).text ≡ asks (change_drawn width height command h x)
