-- Trees, and how one painting follows another.
use Rattle.std.proofs.Common.{◌≡◌, ◌∙◌, refl, sym, ap, subst, ℕ, ℤ, Bool, true, Option, Some, None, option_map, List, map, arith}
use Rattle.std.proofs.lemmas.Bool.Decides.{nat_tests}
use Rattle.gui_base.specs.declared.props.Prop.TheVariants.{TextFont}
use Rattle.gui_base.specs.declared.words.Part.TheVariants.{Main}
use Rattle.gui_base.specs.Area.{Rect, has}
use Rattle.gui_base.specs.Coats.{Coat}
use Rattle.gui_base.specs.Forest.{Forest, Empty, Tree, tree_by, first_root, children_by}
use Rattle.gui_base.proofs.Visits.{tree-opens}
use Rattle.gui_color.specs.Buffer.{Buffer, pixel_at}
use Rattle.scene_defs.specs.declared.Row.{Row}
use Rattle.scene_defs.specs.Row.{shown_row}
use Rattle.scene_defs.specs.Scene.{Object, Scene, handle_of, is_at, is_there, object_at, object_by, row_at, row_of, value}
use Rattle.scene_defs.specs.Place.{place}
use Rattle.scene_defs.specs.Items.{chars_of, coat_in, coats, items_of}
use Rattle.scene_defs.specs.Looks.{look_of}
use Rattle.scene_defs.proofs.Distinct.{there}
use Rattle.scene_defs.proofs.Handles.{has-handles}
use Rattle.widget_defs.specs.Items as widget
use Rattle.widget_defs.specs.Items.{Item}
use Rattle.widget_defs.specs.Looks.{Look}
use Rattle.gui_paint.specs.Painting.{Painting, Leaves, Paints, painted_coats, painted_object}

-- nothing is painted
pub leaves_self : (buf : Buffer) (a b : Painting) → ((x y : ℤ) → a x y (pixel_at buf x y) ≡ b x y (pixel_at buf x y)) → Leaves buf buf a b
leaves_self buf a b same = record { area_stays = refl; limit_stays = refl; pixels = λ x y i. sym (same x y) }

-- one painting after another
pub leaves_then : (p q r : Buffer) (a b c : Painting) → Leaves p q a b → Leaves q r b c → Leaves p r a c
leaves_then p q r a b c h k = record {
  area_stays = k.area_stays ∙ h.area_stays;
  limit_stays = k.limit_stays ∙ h.limit_stays;
  pixels = λ x y i. k.pixels x y (subst (λ (area : Rect). has area x y ≡ true) (sym h.area_stays) i) ∙ h.pixels x y i;
}

-- what is painted before all that is left
pub leaves_less : (p q : Buffer) (own later : Painting) → Paints p q own → Leaves p q (λ x y under. later x y (own x y under)) later
leaves_less p q own later h = record { area_stays = h.area_stays; limit_stays = h.limit_stays; pixels = λ x y i. ap (later x y) (h.pixels x y i) }

-- the same painting in other words
pub leaves_same : (p q : Buffer) (a b c : Painting) → ((x y : ℤ) → has p.area x y ≡ true → a x y (pixel_at p x y) ≡ b x y (pixel_at p x y)) → Leaves p q a c → Leaves p q b c
leaves_same p q a b c same h = record { area_stays = h.area_stays; limit_stays = h.limit_stays; pixels = λ x y i. h.pixels x y i ∙ same x y i }

-- an object is the root of its tree
object_root : (test : Object → Bool) (f : Forest Object) → object_by test f ≡ first_root (tree_by test f)
object_root test Empty = refl
object_root test (Tree object cs rest) = grind (arith, nat_tests, object_root test cs, object_root test rest)

pub object_named : (f : Forest Object) (h : ℕ) (o : Object) → object_by (is_at h) f ≡ Some o → o.handle ≡ h
object_named Empty h o e = cc
object_named (Tree object cs rest) h o e = grind (arith, nat_tests, object_named cs h o, object_named rest h o)

-- what an object lays, by its look and its place
coats_are : (scene : Scene) (area : Rect) (look : Look) (object : Option Object) → Some look ≡ option_map (look_of scene) object →
    map (coat_in scene.fonts scene.images look.text) (widget.items look area) ≡ map (coat_in scene.fonts scene.images (chars_of object)) (items_of scene object (Some area))
coats_are scene area look None is = cc
coats_are scene area look (Some object) is =
    let same : look ≡ look_of scene object = cc in
    ap (λ (l : Look). map (coat_in scene.fonts scene.images l.text) (widget.items l area)) same

-- its items are painted
pub paints_object : (old new : Buffer) (scene : Scene) (visible area : Rect) (h : ℕ) (look : Look) (items : List Item) →
    Some look ≡ option_map (look_of scene) (object_at scene h) → place scene h ≡ Some area → items ≡ widget.items look area →
    Paints old new (painted_coats visible (map (coat_in scene.fonts scene.images look.text) items)) → Paints old new (painted_object scene visible h)
paints_object old new scene visible area h look items is at items_are paints =
    let by_place = λ (p : Option Rect). map (coat_in scene.fonts scene.images (chars_of (object_at scene h))) (items_of scene (object_at scene h) p) in
    let same : map (coat_in scene.fonts scene.images look.text) items ≡ coats scene h = rw items_are (coats_are scene area look (object_at scene h) is ∙ ap by_place (sym at)) in
    subst (λ (l : List Coat). Paints old new (painted_coats visible l)) same paints

-- the value of its font is that of its main part
pub font_is : (scene : Scene) (h : ℕ) (look : Look) → Some look ≡ option_map (look_of scene) (object_at scene h) → look.main TextFont ≡ value scene h Main TextFont
font_is scene h look is = go (object_at scene h) refl is
  where
    go : (o : Option Object) → object_at scene h ≡ o → Some look ≡ option_map (look_of scene) o → look.main TextFont ≡ value scene h Main TextFont
    go None e i = cc
    go (Some object) e i =
        let same : look ≡ look_of scene object = cc in
        ap (λ (l : Look). l.main TextFont) same ∙ ap (λ (k : ℕ). value scene k Main TextFont) (object_named scene.trees h object e)

-- an object that has a row is there
row_there : (f : Forest Object) (h : ℕ) (row : Row) → Some row ≡ option_map row_of (object_by (is_at h) f) → there f h ≡ true
row_there Empty h row is = cc
row_there (Tree object cs rest) h row is = grind (arith, nat_tests, row_there cs h row, row_there rest h row)

-- the object that has a row
pub object_with : (o : Option Object) (row : Row) → Some row ≡ option_map row_of o → (object : Object) × (o ≡ Some object) × (object.row ≡ row)
object_with None row is = cc
object_with (Some object) row is = (object, refl, cc)

module _ (scene : Scene) (h : ℕ) where
  pub is_there_row : (row : Row) → Some (shown_row row) ≡ row_at scene h → is_there scene h ≡ true
  is_there_row row is = has-handles scene.trees h ∙ row_there scene.trees h (shown_row row) is

  pub no_tree : None ≡ row_at scene h → tree_by (is_at h) scene.trees ≡ Empty
  no_tree none = go (tree_by (is_at h) scene.trees) (object_root (is_at h) scene.trees)
    where
      go : (t : Forest Object) → object_by (is_at h) scene.trees ≡ first_root t → t ≡ Empty
      go Empty e = refl
      go (Tree a cs rest) e = let n : None ≡ option_map row_of (Some a) = rw e at none in cc

  -- a tree by its root
  pub tree_is : (object : Object) → object_at scene h ≡ Some object → tree_by (is_at h) scene.trees ≡ Tree object (children_by (is_at h) scene.trees) Empty
  tree_is object is = tree-opens handle_of scene.trees h object (sym (object_root (is_at h) scene.trees) ∙ is)
