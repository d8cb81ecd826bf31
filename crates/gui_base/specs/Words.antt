-- Whether two words are the same, and two selectors.
use Rattle.std.specs.Prelude.{Bool, ◌==◌, ◌&&◌}
use denote.Enum.Bare.{sameb}
use Rattle.gui_base.specs.contracts.words.Part as part
use Rattle.gui_base.specs.contracts.props.Prop as prop
use Rattle.gui_base.specs.declared.words.Part.{Part}
use Rattle.gui_base.specs.declared.props.Prop.{Prop}
use Rattle.gui_base.specs.declared.words.Selector.{Selector}

-- whether both are the same part of an object
abbrev pub same_part : Part → Part → Bool
same_part p q = sameb part.the_type p q

-- whether both are the same property
abbrev pub same_prop : Prop → Prop → Bool
same_prop p q = sameb prop.the_type p q

-- whether both have the same part and the same set of states
abbrev pub same_selector : Selector → Selector → Bool
same_selector s t = same_part s.part t.part && (s.states == t.states)
