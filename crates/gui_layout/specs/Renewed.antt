-- Boxes that are those of a scene, but for their own heights.
use Rattle.std.specs.Prelude.{◌≡◌, ℕ, true, List, Option}
use Rattle.gui_base.specs.Forest.{Forest, has}
use Rattle.layout_defs.specs.OwnHeights.{but_height}
use Rattle.scene_defs.specs.Scene.{Scene}
use Rattle.gui_boxes.specs.declared.layout_box.LayoutBox.{LayoutBox}
use Rattle.gui_layout.specs.Scenes.{scene_box}
use Rattle.gui_boxes.specs.Views.{box_at}

abbrev pub IsRenewed : Scene → List (Option LayoutBox) → ℕ → Type 0
IsRenewed scene boxes h = but_height (box_at boxes h) ≡ but_height (scene_box scene h)

-- those of all objects of a forest
abbrev pub AreRenewed : Scene → List (Option LayoutBox) → Forest ℕ → Type 0
AreRenewed scene boxes f = (h : ℕ) → has f h ≡ true → IsRenewed scene boxes h

-- those that were so are so still
abbrev pub KeepsRenewed : Scene → List (Option LayoutBox) → List (Option LayoutBox) → Type 0
KeepsRenewed scene old new = (h : ℕ) → IsRenewed scene old h → IsRenewed scene new h
