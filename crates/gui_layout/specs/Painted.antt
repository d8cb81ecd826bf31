-- What the painting of an object goes by.
use Rattle.std.specs.Prelude.{◌≡◌, ℕ, Bool, true, Some, option_map}
use Rattle.gui_base.specs.Area.{Rect}
use Rattle.gui_base.specs.declared.props.Prop.TheVariants as prop
use Rattle.gui_base.specs.declared.words.Kind.{Kind}
use Rattle.widget_defs.specs.Items.{items}
use Rattle.widget_defs.specs.Kinds.{shows, is_something, has_indicator, has_knob}
use Rattle.widget_defs.specs.Looks.{Look, PartValues}
use Rattle.layout_defs.specs.Reach.{IsNear}
use Rattle.scene_defs.specs.Looks.{look_of}
use Rattle.scene_defs.specs.Place.{place}
use Rattle.scene_defs.specs.Scene.{Scene, is_there, object_at}

-- whether objects of a kind paint something in their content area
abbrev pub paints_content : Kind → Bool
paints_content kind = is_something (shows kind)

abbrev pub paints_indicator : Kind → Bool
paints_indicator kind = has_indicator (shows kind)

abbrev pub paints_knob : Kind → Bool
paints_knob kind = has_knob (shows kind)

-- two parts have the same fill and the same border
pub record FillsAs (some others : PartValues) : Type 0 where
  pub bg_color : some prop.BgColor ≡ others prop.BgColor
  pub bg_opa : some prop.BgOpa ≡ others prop.BgOpa
  pub border_color : some prop.BorderColor ≡ others prop.BorderColor
  pub border_opa : some prop.BorderOpa ≡ others prop.BorderOpa
  pub border_width : some prop.BorderWidth ≡ others prop.BorderWidth

-- a look paints what h paints, and has its text
pub record PaintsLike (scene : Scene) (h : ℕ) (look : Look) : Type 0 where
  pub whole : Look
  pub is : Some whole ≡ option_map (look_of scene) (object_at scene h)
  pub items : (area : Rect) → items look area ≡ items whole area
  pub text : look.text ≡ whole.text

-- an object is there and stands in this place, which leaves room beside it
pub record ShowsBarsIn (scene : Scene) (h : ℕ) (area : Rect) : Type 0 where
  pub there : is_there scene h ≡ true
  pub stands : place scene h ≡ Some area
  pub near : IsNear area
