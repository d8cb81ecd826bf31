-- What is known of an object is what it paints where it stood, where a change does not concern what it paints by.
use Rattle.std.proofs.Common.{◌≡◌, ◌∙◌, sym, ap, refl, ℕ, false, List, [], Option, Some, None, is_some, option_map}
use Rattle.gui_base.specs.Area.{Rect}
use Rattle.gui_base.specs.declared.area.Area.{Area}
use Rattle.gui_base.specs.Corners.{rect_of}
use Rattle.gui_pack.specs.Records.{paints_in}
use Rattle.gui_pack.specs.declared.record.Paints.{Paints}
use Rattle.gui_pool.specs.Table.{Table}
use Rattle.pack_defs.specs.Paints.{items_in as packed}
use Rattle.widget_defs.specs.Items.{Item}
use Rattle.widget_defs.specs.Items as widget
use Rattle.widget_defs.specs.Looks.{Look as Widget}
use Rattle.scene_defs.specs.declared.Change.{Change}
use Rattle.scene_defs.specs.Change.{answer_of, changed}
use Rattle.scene_defs.specs.Items.{items, items_of as items_in}
use Rattle.scene_defs.specs.Looks.{look_of}
use Rattle.scene_defs.specs.Place.{place}
use Rattle.scene_defs.specs.Scene.{Object, Scene, object_at}
use Rattle.scene_defs.specs.Valid.{IsValid, IsChange}
use Rattle.debt_defs.specs.Concerns.{look_at}
use Rattle.debt_defs.proofs.Concerned.{others_are_same, look-same}
use Rattle.gui_concerns.specs.Concerned.{Covers}
use Rattle.gui_concerns.specs.declared.concerned.Concerned.{Concerned}
use Rattle.gui_debts.specs.declared.seen.Seen.{Seen}
use Rattle.gui_debts.specs.Seen.{IsSeen, KeepsItems, items_known, place_in}
use Rattle.gui_debts.specs.Sights.{AreSeen, KeepOthers}

-- what is painted by a look, where it stands somewhere
abbrev pub painted : Option Widget → Option Rect → List Item
painted None at = []
painted (Some look) None = []
painted (Some look) (Some area) = widget.items look area

pub painted-is : (scene : Scene) (object : Option Object) (at : Option Rect) → items_in scene object at ≡ painted (option_map (look_of scene) object) at
painted-is scene None at = refl
painted-is scene (Some object) None = refl
painted-is scene (Some object) (Some area) = refl

-- the items of a look that is there
pub items-are : (scene : Scene) (h : ℕ) (look : Widget) (area : Rect) → Some look ≡ look_at scene h → Some area ≡ place scene h → widget.items look area ≡ items scene h
items-are scene h look area is at =
    ap (λ (l : Option Widget). painted l (Some area)) is
    ∙ (ap (painted (look_at scene h)) at ∙ sym (painted-is scene (object_at scene h) (place scene h)))

-- what paints something stands where the first item says
stands : (scene : Scene) (object : Option Object) (at : Option Rect) → items_in scene object (place_in (items_in scene object at)) ≡ items_in scene object at
stands scene None at = refl
stands scene (Some object) None = refl
stands scene (Some object) (Some area) = refl

-- so what it paints is what is painted there
pub items-keep : (scene : Scene) (h : ℕ) (paints : Option Paints) → items_known paints ≡ items scene h → items_known paints ≡ items_in scene (object_at scene h) (place_in (items_known paints))
items-keep scene h paints is =
    is
    ∙ (sym (stands scene (object_at scene h) (place scene h))
    ∙ ap (λ (l : List Item). items_in scene (object_at scene h) (place_in l)) (sym is))

-- an object that is seen nowhere has no area there
pub no-area : (at : Option Area) → is_some at ≡ false → None ≡ option_map rect_of at
no-area None none = refl
no-area (Some area) none = cc

-- and so are no items
pub none-keep : (scene : Scene) (h : ℕ) (paints : Option Paints) → items_known paints ≡ [] → items_known paints ≡ items_in scene (object_at scene h) (place_in (items_known paints))
none-keep scene h paints empty =
    empty ∙ sym (ap (λ (l : List Item). items_in scene (object_at scene h) (place_in l)) empty ∙ nowhere (object_at scene h)) where
      nowhere : (object : Option Object) → items_in scene object None ≡ []
      nowhere None = refl
      nowhere (Some object) = refl

-- what is painted there is what is seen where the object stands there still
pub kept-items : (scene : Scene) (h : ℕ) (s : Seen) → KeepsItems scene h s → place_in (items_known s.paints) ≡ place scene h → items_known s.paints ≡ items scene h
kept-items scene h s keeps there = keeps ∙ ap (items_in scene (object_at scene h)) there

-- and in another place, where the record of that is one of the same look
pub moved-known : (scene : Scene) (h : ℕ) (known moved : Paints) (at : Rect) →
    ((look : Widget) (area : Rect) → packed (paints_in known) ≡ widget.items look area → packed (paints_in moved) ≡ widget.items look at) →
    items_known (Some known) ≡ items_in scene (object_at scene h) (place_in (items_known (Some known))) → items_known (Some moved) ≡ items_in scene (object_at scene h) (Some at)
moved-known scene h known moved at moves keeps = by (object_at scene h) keeps where
  by : (o : Option Object) → items_known (Some known) ≡ items_in scene o (Some (rect_of known.place)) → items_known (Some moved) ≡ items_in scene o (Some at)
  by None none = cc
  by (Some object) is = moves (look_of scene object) (rect_of known.place) is

-- h paints the same after a change, wherever it stands
abbrev pub PaintsSame : Scene → Scene → ℕ → Type 0
PaintsSame before after h = (at : Option Rect) → items_in after (object_at after h) at ≡ items_in before (object_at before h) at

pub look-paints : (before after : Scene) (h : ℕ) → look_at after h ≡ look_at before h → PaintsSame before after h
look-paints before after h same at =
    painted-is after (object_at after h) at
    ∙ (ap (λ (l : Option Widget). painted l at) same ∙ sym (painted-is before (object_at before h) at))

pub keeps : (before after : Scene) (h : ℕ) (s : Seen) → IsSeen before h s → PaintsSame before after h → KeepsItems after h s
keeps before after h s is same = is.keeps ∙ sym (same (place_in (items_known s.paints)))

-- what was seen before a change that is done keeps for others after it
pub others_keep : (scene : Scene) (change : Change) (concerned : Concerned) (table : Table Seen) → IsValid scene → IsChange change → answer_of scene change ≡ None →
    Covers concerned scene change → AreSeen table scene → KeepOthers table concerned (changed scene change)
others_keep scene change concerned table valid plain done covers seen h s there off found =
    keeps scene (changed scene change) h s (seen h s found) (look-paints scene (changed scene change) h (look-same scene (changed scene change) h (others_are_same scene change h valid plain (covers done h there off))))
