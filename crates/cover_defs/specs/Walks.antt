-- What walks over what is painted keep from one object to the next.
use Rattle.std.specs.Prelude.{ℕ, Bool, false, ◌==◌, if◌then◌else◌, Some, None, List, [], ◌∷◌}
use Rattle.std.specs.declared.option.Option.{Option}
use Rattle.std.specs.List.{list_any}
use Rattle.gui_base.specs.Area.{Rect}
use Rattle.scene_defs.specs.Scene.{Scene}
use Rattle.scene_defs.specs.Shown.{Seen}
use Rattle.cover_defs.specs.Cover.{is_cover}

-- the last object so far that covers an area
abbrev pub remembered : Scene → Rect → Option ℕ → Seen → Option ℕ
remembered scene part last s = if is_cover scene part s then Some s.handle else last

-- whether it is what an object shows by itself
abbrev pub is_own : ℕ → Seen → Bool
is_own h s = if s.is_bars then false else (s.handle == h)

-- what is painted from the object on that a walk waits for, or all where it waits for none
abbrev pub from_handle : Option ℕ → List Seen → List Seen
from_handle None list = list
from_handle (Some h) [] = []
from_handle (Some h) (s ∷ list) = if is_own h s then s ∷ list else from_handle (Some h) list

-- the object that it still waits for after these
abbrev pub waits_on : Option ℕ → List Seen → Option ℕ
waits_on None list = None
waits_on (Some h) list = if list_any (is_own h) list then None else Some h
