use Rattle.std.proofs.Common.{map, take, length, ◌+◌, ◌*◌, ◌≤◌}
use Rattle.std.specs.Str.{chars}
use Rattle.gui_base.specs.Area.{size_of}
use Rattle.gui_base.specs.Corners.{rect_of}
use Rattle.gui_store.specs.Views.{scene_of}
use Rattle.gui_widgets.specs.Looks.{items_of}
use Rattle.scene_defs.specs.Items.{coat_in}
use Rattle.gui_paint.specs.Painting.{Paints, painted_coats}
use Rattle.gui_paint.proofs.items.paint_items.Given as goal

abbrev pub invariant-loop-item : goal.invariant-loop-item
invariant-loop-item g l =
    record {
      painted : Paints l.initial.buf l.buf (painted_coats (rect_of l.visible) (map (coat_in (scene_of l.store).fonts (scene_of l.store).images (chars l.text)) (items_of (take l.item-index l.items))));
      steps : l.steps ≤ l.initial.steps + l.item-index * (size_of l.initial.buf.area + length (chars l.text));
    }
