-- Whatever its kind is, an object is kept whole.
use Rattle.std.proofs.Common.{◌≡◌, refl, ap, List, ◌++◌, Option, Some, None, option_map}
use Rattle.gui_base.specs.Area.{Rect}
use Rattle.pack_defs.specs.Packing.{more_of, packed}
use Rattle.pack_defs.specs.Paints.{items_in, more_items}
use Rattle.widget_defs.specs.declared.ImageLook.{ImageLook}
use Rattle.widget_defs.specs.declared.kinds.Shown.{Shown}
use Rattle.widget_defs.specs.declared.kinds.Shown.TheVariants as shown
use Rattle.widget_defs.specs.Items.{Item, content_of, items, part_of, picture_of, shown_items}
use Rattle.widget_defs.specs.Kinds.{shows}
use Rattle.widget_defs.specs.Looks.{Look, PartValues}

picture-kept : (image : Option ImageLook) (values : PartValues) (content : Rect) → more_items (more_of (picture_of image values content)) ≡ picture_of image values content
picture-kept None values content = refl
picture-kept (Some image) values content = refl

-- what stands behind an object's own part
more-kept : (what : Shown) (look : Look) (content : Rect) → more_items (more_of (shown_items what look content)) ≡ shown_items what look content
more-kept shown.Picture look content = picture-kept look.image look.main content
more-kept what look content = refl

pub object-kept : (look : Look) (area : Rect) → option_map items_in (packed (items look area)) ≡ Some (items look area)
object-kept look area =
    ap (λ (more : List Item). Some (part_of area look.main ++ more)) (more-kept (shows look.kind) look (content_of area look.main))
