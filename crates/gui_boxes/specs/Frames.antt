-- What an object stands in by itself: the panel, or the content area of its parent.
use Rattle.std.specs.Prelude.{◌≡◌, ◌≤ℤ◌, ℕ, true, ℤ, pos, negsuc, Option, Some, None}
use Rattle.gui_base.specs.Forest.{Forest, has, tree_at}
use Rattle.gui_base.specs.Limits.{Bounds}
use Rattle.layout_defs.specs.Solving.{Wide, Tall, Slot, width_in, own_slot, room_of}
use Rattle.gui_boxes.specs.declared.frame.Frame.{Frame}
use Rattle.gui_boxes.specs.declared.frame.Frame.TheVariants.{Panel, Content}
use Rattle.gui_boxes.specs.Settled.{Known, wide_of, tall_of, corner, IsSteady}
use Rattle.gui_boxes.specs.Slots.{room_in}

-- a root fills the panel, and any other goes by its own size, side and wanted place
abbrev pub framed_width : Frame → Wide → ℕ
framed_width (Panel width height) wide = width.pixels
framed_width (Content inside) wide = width_in inside.width wide

abbrev pub framed_slot : Frame → Tall → Slot
framed_slot (Panel width height) tall = corner height.pixels
framed_slot (Content inside) tall = own_slot (room_in inside) tall

-- what lies in the tree of h lies in that of g
abbrev pub Encloses : Forest ℕ → ℕ → ℕ → Type 0
Encloses f g h = (k : ℕ) → has (tree_at f h) k ≡ true → has (tree_at f g) k ≡ true

-- an object stands in a frame
pub record StandsIn (frame : Frame) (k : Known) : Type 0 where
  pub width : k.width ≡ framed_width frame (wide_of k)
  pub slot : k.slot ≡ framed_slot frame (tall_of k)

-- a coordinate of a corner below which trees of any height have room
abbrev pub IsNearby : ℤ → Type 0
IsNearby n = (negsuc 8999999 ≤ℤ n) × (n ≤ℤ pos 9000000)

-- a frame is near the panel's corner
abbrev pub FrameIsNearby : Frame → Type 0
FrameIsNearby (Panel width height) = Unit {0}
FrameIsNearby (Content inside) = IsNearby inside.x × IsNearby inside.y

-- so far from it its parent may stand
pub record StandsNearby (slot : Slot) : Type 0 where
  pub left : negsuc 7999999 ≤ℤ slot.x
  pub right : slot.x ≤ℤ pos 8000000
  pub top : negsuc 7999999 ≤ℤ slot.y
  pub bottom : slot.y ≤ℤ pos 8000000

-- a frame is that of an object below this parent: a root fills the panel, and another stands in a steady
-- parent
abbrev pub IsFrameOf : Bounds → (ℕ → Known) → Option ℕ → Frame → Type 0
IsFrameOf limits known None (Panel width height) =
    (width.pixels ≡ limits.width) × (height.pixels ≡ limits.height)
IsFrameOf limits known None (Content inside) = ⊥
IsFrameOf limits known (Some p) (Panel width height) = ⊥
IsFrameOf limits known (Some p) (Content inside) =
    IsSteady (known p).box × (room_in inside ≡ room_of (tall_of (known p)) (known p).slot)
