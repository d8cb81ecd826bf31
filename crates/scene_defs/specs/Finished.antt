-- What is finished stays as it is.
use Rattle.std.specs.Prelude.{◌≡◌, ℕ, true, Some}
use Rattle.gui_base.specs.Area.{nat_of}
use Rattle.gui_base.specs.declared.props.Prop.TheVariants.{TextFont}
use Rattle.gui_base.specs.declared.words.Part.{Part}
use Rattle.text_defs.specs.Building.{is_finished}
use Rattle.text_defs.specs.Fonts.{Font, font_of}
use Rattle.text_defs.specs.Images.{Image, image_of, is_done}
use Rattle.scene_defs.specs.declared.Change.{Change}
use Rattle.scene_defs.specs.Change.{changed}
use Rattle.scene_defs.specs.Scene.{Scene, value}
use Rattle.scene_defs.specs.Valid.{IsValid}

-- no change touches a font that is finished
abbrev pub FontsStay : Type 0
FontsStay =
    (scene : Scene) (change : Change) (name : ℕ) (font : Font) →
    font_of scene.fonts name ≡ Some font → font.finished ≡ true →
    font_of (changed scene change).fonts name ≡ Some font

-- nor an image that has all its rows
abbrev pub ImagesStay : Type 0
ImagesStay =
    (scene : Scene) (change : Change) (name : ℕ) (image : Image) → IsValid scene →
    image_of scene.images name ≡ Some image → is_done image ≡ true →
    image_of (changed scene change).images name ≡ Some image

-- and the font of a text is finished
abbrev pub FontsOfTextsAreFinished : Type 0
FontsOfTextsAreFinished =
    (scene : Scene) (h : ℕ) (part : Part) → IsValid scene →
    is_finished scene.fonts (nat_of (value scene h part TextFont)) ≡ true
