-- Whether an object is hidden by itself.
use Rattle.std.specs.Prelude.{Bool, false, Some, None}
use Rattle.std.specs.declared.option.Option.{Option}
use Rattle.gui_base.specs.declared.words.Flag.TheVariants.{Hidden}
use Rattle.scene_defs.specs.Row.{is_on}
use Rattle.scene_defs.specs.declared.Row.{Row}

-- whether there is a row with the hidden flag
abbrev pub hides : Option Row → Bool
hides None = false
hides (Some row) = is_on row.flags Hidden
