-- The handlers of each object, by its handle, in the order of adding.
use Rattle.std.specs.Prelude.{ℕ, Bool, not, List, [], ◌∷◌, ◌++◌, map, filter, replicate, slice_index_or}
use Rattle.std.specs.Prelude.{slice_set}
use Rattle.gui_base.specs.declared.events.Action.{Action}
use Rattle.gui_base.specs.declared.events.EventKind.{EventKind}
use Rattle.play_defs.specs.declared.Handler.{Handler}
use Rattle.play_defs.specs.Same.{same_kind}

-- no handlers at any handle, which is a number of sixteen bits
unfoldable pub no_handlers : List (List Handler)
no_handlers = replicate 65536 []

-- the handlers of an object
abbrev pub handlers_of : List (List Handler) → ℕ → List Handler
handlers_of lists h = slice_index_or lists h []

-- other handlers for an object
abbrev pub with_handlers : List (List Handler) → ℕ → List Handler → List (List Handler)
with_handlers lists h handlers = slice_set lists h handlers

-- whether a handler is for a kind of event
abbrev pub is_of : EventKind → Handler → Bool
is_of kind handler = same_kind handler.kind kind

-- what handlers do at an event of a kind
abbrev pub actions_of : EventKind → List Handler → List Action
actions_of kind handlers = map (λ (handler : Handler). handler.action) (filter (is_of kind) handlers)

-- with a handler more, the last of an object
abbrev pub with_handler : List (List Handler) → ℕ → EventKind → Action → List (List Handler)
with_handler lists h kind action =
    with_handlers lists h (handlers_of lists h ++ record { kind = kind; action = action } ∷ [])

-- without those of a kind
abbrev pub of_other_kinds : EventKind → List Handler → List Handler
of_other_kinds kind handlers = filter (λ handler. not (is_of kind handler)) handlers

-- without the handlers of an object for a kind of event
abbrev pub without_kind : List (List Handler) → ℕ → EventKind → List (List Handler)
without_kind lists h kind = with_handlers lists h (of_other_kinds kind (handlers_of lists h))

-- without all of an object
abbrev pub forgotten : List (List Handler) → ℕ → List (List Handler)
forgotten lists h = with_handlers lists h []
