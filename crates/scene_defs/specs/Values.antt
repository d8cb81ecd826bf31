-- A law of values.
use Rattle.std.specs.Prelude.{◌≡◌, ℕ, true}
use Rattle.gui_base.specs.declared.props.Prop.{Prop}
use Rattle.gui_base.specs.declared.words.Part.{Part}
use Rattle.gui_base.specs.Props.{is_value}
use Rattle.scene_defs.specs.Scene.{Scene, value}
use Rattle.scene_defs.specs.Valid.{IsValid}

-- the value of a property lies in its interval
abbrev pub ValuesInRange : Type 0
ValuesInRange =
    (scene : Scene) (h : ℕ) (part : Part) (prop : Prop) → IsValid scene →
    is_value prop (value scene h part prop) ≡ true
