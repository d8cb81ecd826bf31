-- The commands that a meter gives: each is a change of its scene.
use Rattle.std.specs.Prelude.{ℤ, Bool, List, [], ◌∷◌, map, pos, negsuc, int_le}
use Rattle.std.specs.Fmt.{signed_decimal}
use Rattle.gui_base.specs.declared.Handle.{Handle}
use Rattle.gui_base.specs.declared.words.Length.TheVariants.{Pixels}
use Rattle.gui_base.specs.declared.props.Prop.TheVariants.{BgColor}
use Rattle.gui_base.specs.declared.words.Selector.{Selector}
use Rattle.gui_base.specs.declared.words.Align.TheVariants.{BottomMid, TopMid}
use Rattle.gui_base.specs.declared.words.Kind.TheVariants as kind
use Rattle.gui_base.specs.declared.words.Part.TheVariants.{Indicator}
use Rattle.gui_base.specs.declared.words.State.TheVariants.{User1}
use Rattle.run_defs.specs.declared.Command.{Command}
use Rattle.run_defs.specs.declared.Command.TheVariants.{Change as OfChange}
use Rattle.scene_defs.specs.declared.Change.TheVariants as change

abbrev pub screen : Handle
screen = record { 0 = 3 }

abbrev pub bar : Handle
bar = record { 0 = 10 }

abbrev pub digits : Handle
digits = record { 0 = 11 }

-- the filled part of the bar, and the same during an alarm
abbrev pub filled : Selector
filled = record { part = Indicator; states = 0 }

abbrev pub alarmed : Selector
alarmed = record { part = Indicator; states = 4096 }

-- a bar with two colours, and digits over it
abbrev pub screen_commands : List Command
screen_commands = map OfChange
    (change.New bar screen kind.Bar ∷ change.Align bar BottomMid (pos 0) (negsuc 2) ∷
    change.Size bar (Pixels 58) (Pixels 8) ∷
    change.Local bar filled BgColor (pos 4431943) ∷ change.Local bar alarmed BgColor (pos 15022389) ∷
    change.New digits screen kind.Label ∷ change.Align digits TopMid (pos 0) (pos 3) ∷ [])

-- whether a number is one of an alarm
abbrev pub alarms : ℤ → Bool
alarms n = int_le (pos 80) n

-- a number is shown: its digits, its share of the bar, and whether it alarms
abbrev pub number_commands : ℤ → List Command
number_commands n = map OfChange
    (change.Text digits (signed_decimal n) ∷ change.Value bar n ∷ change.State bar User1 (alarms n) ∷ [])
