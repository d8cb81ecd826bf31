-- What is painted, as the code lists it.
use Rattle.std.specs.Prelude.{◌≡◌, ◌≤◌, ◌*◌, ℕ, if◌then◌else◌, List, [], ◌∷◌, map, vec_len, vec_capacity}
use Rattle.std.specs.List.{flat_map}
use Rattle.std.specs.Global.{Vec}
use Rattle.gui_base.specs.declared.Handle.{Handle}
use Rattle.scene_defs.specs.Shown.{Entry as Painted}
use Rattle.gui_change.specs.declared.entries.Entry.{Entry}

abbrev pub entry_in : Entry → Painted
entry_in e = record { handle = e.h.0; is_bars = e.is_bars }

abbrev pub all_entries : List Entry → List Painted
all_entries es = map entry_in es

-- the objects that are painted by themselves, in this order
abbrev pub own_of : Painted → List ℕ
own_of e = if e.is_bars then [] else e.handle ∷ []

abbrev pub own_handles : List Painted → List ℕ
own_handles es = flat_map own_of es

-- the same objects, as the code has them
abbrev pub owner_of : Entry → List Handle
owner_of e = if e.is_bars then [] else e.h ∷ []

abbrev pub owners : List Entry → List Handle
owners es = flat_map owner_of es

-- a list is empty, and has room for two entries of each of so many objects
pub record IsEntryRoom (objects : ℕ) (listed : Vec Entry) : Type 0 where
  pub empty : listed.items ≡ []
  pub len : vec_len listed ≡ 0
  pub room : 2 * objects ≤ vec_capacity listed
