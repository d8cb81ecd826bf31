-- A box by what layout goes by: a part of its object's row and text, some values, and fonts and images.
use Rattle.std.proofs.Common.{◌≡◌, ◌∙◌, refl, sym, ap, ℕ, ◌+◌, Bool, true, Option, Some, None, option_map, List, pos, inl, inr}
use Rattle.std.specs.Prelude.{if◌then◌else◌}
use Rattle.std.specs.Str.{chars}
use Rattle.std.proofs.lemmas.Bool.{cases_Bool}
use Rattle.std.proofs.Math.Path.{fun_ext}
use Rattle.gui_base.specs.Area.{nat_of}
use Rattle.gui_base.specs.declared.props.Prop.{Prop}
use Rattle.gui_base.specs.declared.props.Prop.TheVariants.{BorderWidth, PadLeft, PadRight, PadTop, PadBottom, PadRow, PadColumn, TextFont}
use Rattle.gui_base.specs.declared.words.Flag.TheVariants.{Hidden, Scrollable}
use Rattle.gui_base.specs.declared.words.Part.TheVariants.{Main}
use Rattle.layout_defs.specs.Boxes.{Box, side_across, side_down}
use Rattle.text_defs.specs.Fonts.{Font, face}
use Rattle.text_defs.specs.Images.{Image}
use Rattle.widget_defs.specs.declared.kinds.Shown.{Shown}
use Rattle.widget_defs.specs.declared.kinds.Shown.TheVariants as shown
use Rattle.widget_defs.specs.Kinds.{shows}
use Rattle.widget_defs.specs.Looks.{Look, PartValues, number_of}
use Rattle.widget_defs.specs.Sizes.{width_by, height_by, shown_width, shown_height}
use Rattle.scene_defs.specs.declared.Row.{Row}
use Rattle.scene_defs.specs.Looks.{image_look, look_of}
use Rattle.scene_defs.specs.Place.{box_of}
use Rattle.scene_defs.specs.Row.{is_on}
use Rattle.scene_defs.specs.Scene.{Object, Scene, object_at, value}
use Rattle.gui_layout.specs.Scenes.{scene_box}
use Rattle.gui_layout.proofs.SceneBoxes.{named}
use Rattle.gui_concerns.specs.Moving.{goes_by}

-- Of an object, of its row and of its values what layout goes by.
abbrev pub laid_row : Row → Row
laid_row row = record row { flags = 0; states = 0; value = pos 0; min = pos 0; max = pos 0 }

pub record Laid : Type 0 where
  pub hidden : Bool
  pub scrollable : Bool
  pub row : Row
  pub text : List ℕ

abbrev pub laid : Object → Laid
laid object = record {
  hidden = is_on object.row.flags Hidden;
  scrollable = is_on object.row.flags Scrollable;
  row = laid_row object.row;
  text = object.text;
}

abbrev laid_values : PartValues → PartValues
laid_values values prop = if goes_by prop then values prop else pos 0

-- a look of these
abbrev look_by : List Font → List Image → Laid → PartValues → Look
look_by fonts images object values = record {
  kind = object.row.kind;
  main = values;
  scrollbar = values;
  indicator = values;
  knob = values;
  text = chars object.text;
  face = face fonts (number_of (values TextFont));
  value = pos 0;
  min = pos 0;
  max = pos 0;
  image = image_look images object.row.image;
  scrollable = object.scrollable;
  reach = (0, 0);
  offset = (0, 0);
}

-- the box that they make
abbrev box_by : List Font → List Image → ℕ → Laid → PartValues → Box
box_by fonts images h object v = record {
  handle = h;
  hidden = object.hidden;
  across = record {
    size = object.row.width;
    side = side_across object.row.align;
    wanted = object.row.x;
    before = nat_of (v BorderWidth) + nat_of (v PadLeft);
    after = nat_of (v BorderWidth) + nat_of (v PadRight);
    gap = nat_of (v PadColumn);
    scroll = nat_of object.row.scroll_x;
  };
  down = record {
    size = object.row.height;
    side = side_down object.row.align;
    wanted = object.row.y;
    before = nat_of (v BorderWidth) + nat_of (v PadTop);
    after = nat_of (v BorderWidth) + nat_of (v PadBottom);
    gap = nat_of (v PadRow);
    scroll = nat_of object.row.scroll_y;
  };
  flow = object.row.flow;
  places = record { main = object.row.places.0; cross = object.row.places.1; track = object.row.places.2 };
  grow = object.row.grow;
  scrollable = object.scrollable;
  own_width = width_by object.row.kind (look_by fonts images object v);
  own_height = height_by object.row.kind (look_by fonts images object v);
}

-- own sizes go by these alone
module _ (scene : Scene) (object : Object) where
  abbrev values : PartValues
  values = laid_values (value scene object.handle Main)

  abbrev bare : Look
  bare = look_by scene.fonts scene.images (laid object) values

  width-laid : (what : Shown) → shown_width what (look_of scene object) ≡ shown_width what bare
  width-laid shown.Text = refl
  width-laid what = refl

  height-laid : (what : Shown) (room : ℕ) → shown_height what (look_of scene object) room ≡ shown_height what bare room
  height-laid shown.Text room = refl
  height-laid what room = refl

  box-laid : box_of scene object ≡ box_by scene.fonts scene.images object.handle (laid object) values
  box-laid =
      let width = width-laid (shows object.row.kind) in
      let height : height_by object.row.kind (look_of scene object) ≡ height_by object.row.kind bare = fun_ext (height-laid (shows object.row.kind)) in
      λ i. record (box_of scene object) { own_width = width i; own_height = height i }

-- What layout goes by of h is the same in both scenes.
pub record LaidSame (before after : Scene) (h : ℕ) : Type 0 where
  pub fonts : after.fonts ≡ before.fonts
  pub images : after.images ≡ before.images
  pub object : option_map laid (object_at after h) ≡ option_map laid (object_at before h)
  pub values : (prop : Prop) → goes_by prop ≡ true → value after h Main prop ≡ value before h Main prop

laid-values : (v w : PartValues) → ((prop : Prop) → goes_by prop ≡ true → v prop ≡ w prop) → laid_values v ≡ laid_values w
laid-values v w same = fun_ext each where
  each : (prop : Prop) → laid_values v prop ≡ laid_values w prop
  each prop = elim (cases_Bool (goes_by prop)) [ inl by ↦ rw by (same prop by) | inr not ↦ rw not refl ]

-- so its box is the same
pub box-same : (before after : Scene) (h : ℕ) → LaidSame before after h → scene_box after h ≡ scene_box before h
box-same before after h same = by (object_at before h) (object_at after h) refl refl where
  values : laid_values (value after h Main) ≡ laid_values (value before h Main)
  values = laid-values (value after h Main) (value before h Main) same.values

  told : (scene : Scene) (object : Object) → object_at scene h ≡ Some object →
      box_of scene object ≡ box_by scene.fonts scene.images h (laid object) (laid_values (value scene h Main))
  told scene object is =
      box-laid scene object
      ∙ ap (λ k. box_by scene.fonts scene.images k (laid object) (laid_values (value scene k Main))) (named scene.trees h object is)

  by : (old new : Option Object) → object_at before h ≡ old → object_at after h ≡ new → scene_box after h ≡ scene_box before h
  by None None was is = rw (was, is) refl
  by None (Some new) was is = cc (rw (was, is) at same.object)
  by (Some old) None was is = cc (rw (was, is) at same.object)
  by (Some old) (Some new) was is =
      let object : laid new ≡ laid old = cc (rw (was, is) at same.object) in
      rw (was, is)
      (told after new is
      ∙ (ap (λ (f : List Font). box_by f after.images h (laid new) (laid_values (value after h Main))) same.fonts
      ∙ (ap (λ (p : List Image). box_by before.fonts p h (laid new) (laid_values (value after h Main))) same.images
      ∙ (ap (λ (o : Laid). box_by before.fonts before.images h o (laid_values (value after h Main))) object
      ∙ (ap (box_by before.fonts before.images h (laid old)) values ∙ sym (told before old was))))))
