-- The object that a point hits, by the entries that are painted.
use Rattle.std.specs.Prelude.{ℤ, if◌then◌else◌, Some, None}
use Rattle.std.specs.declared.option.Option.{Option}
use Rattle.gui_base.specs.declared.Handle.{Handle}
use Rattle.run_defs.specs.Pointing.{is_hit}
use Rattle.scene_defs.specs.Scene.{Scene}
use Rattle.scene_defs.specs.Shown.{Entry, seen}

-- the object of an entry that is its own, where the point hits it: bars are not hit
abbrev pub hit_of : Scene → ℤ → ℤ → Entry → Option Handle
hit_of scene x y e =
    if e.is_bars then None
    else if is_hit scene x y (seen scene e.handle) then Some (record { 0 = e.handle })
    else None
