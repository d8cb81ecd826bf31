-- Objects that stand by themselves.
use Rattle.std.proofs.Common.{◌≡◌, refl, ap, ℕ}
use Rattle.layout_defs.specs.Boxes.{Box, size_in}
use Rattle.layout_defs.specs.OwnHeights.{but_height}
use Rattle.layout_defs.specs.Solving.{own_slot}
use Rattle.gui_boxes.specs.declared.frame.Frame.{Frame}
use Rattle.gui_boxes.specs.declared.frame.Frame.TheVariants.{Panel, Content}
use Rattle.gui_boxes.specs.Frames.{framed_width, framed_slot}
use Rattle.gui_boxes.specs.Slots.{room_in}

-- Their own heights, and their handles, do not matter.
pub same_width : (frame : Frame) (b c : Box) (h n : ℕ) → but_height b ≡ but_height c → framed_width frame (record { box = b; natural = n }) ≡ framed_width frame (record { box = record c { handle = h }; natural = n })
same_width (Panel width height) b c h n same = refl
same_width (Content inside) b c h n same = ap (λ (x : Box). size_in x.across.size inside.width n) same

pub same_slot : (frame : Frame) (b c : Box) (h w n : ℕ) → but_height b ≡ but_height c →
    framed_slot frame (record { box = b; width = w; natural_height = n }) ≡ framed_slot frame (record { box = record c { handle = h }; width = w; natural_height = n })
same_slot (Panel width height) b c h w n same = refl
same_slot (Content inside) b c h w n same = ap (λ (x : Box). own_slot (room_in inside) (record { box = x; width = w; natural_height = n })) same
