-- Whether two words of events are the same, and two handles.
use Rattle.std.specs.Prelude.{Bool, ◌==◌}
use denote.Enum.Bare.{sameb}
use Rattle.gui_base.specs.contracts.events.EventKind as kind
use Rattle.gui_base.specs.contracts.events.Key as key
use Rattle.gui_base.specs.contracts.events.Var as var
use Rattle.gui_base.specs.declared.Handle.{Handle}
use Rattle.gui_base.specs.declared.events.EventKind.{EventKind}
use Rattle.gui_base.specs.declared.events.Key.{Key}
use Rattle.gui_base.specs.declared.events.Var.{Var}

-- whether both are the same kind of event
abbrev pub same_kind : EventKind → EventKind → Bool
same_kind a b = sameb kind.the_type a b

-- whether both are the same key
abbrev pub same_key : Key → Key → Bool
same_key a b = sameb key.the_type a b

-- whether both are the same variable of an animation
abbrev pub same_var : Var → Var → Bool
same_var a b = sameb var.the_type a b

-- whether both are the handle of the same object
abbrev pub same_handle : Handle → Handle → Bool
same_handle a b = a.0 == b.0
