-- How large the children of an object are together along an axis, child by child.
use Rattle.std.specs.Prelude.{ℕ, ◌+◌, ◌-◌, ◌*◌, max, if◌then◌else◌, List, fold}
use Rattle.layout_defs.specs.declared.Course.{Course}
use Rattle.layout_defs.specs.declared.Course.TheVariants.{Free, Across, Down}
use Rattle.layout_defs.specs.Boxes.{Axis, Box}
use Rattle.layout_defs.specs.Solving.{Wide, Tall, reach, flowing}
use Rattle.gui_boxes.specs.declared.total.Total.{Total}
use Rattle.gui_boxes.specs.declared.measuring.Run.{Run}
use Rattle.gui_boxes.specs.declared.measuring.Run.TheVariants.{Apart, Along, Crossing}

pub record Sum : Type 0 where
  pub size : ℕ
  pub count : ℕ

abbrev pub total_of : Total → Sum
total_of total = record { size = total.size; count = total.count }

-- how a flow runs, as the axis across and the axis down see it
abbrev pub run_across : Course → Run
run_across Free = Apart
run_across Across = Along
run_across Down = Crossing

abbrev pub run_down : Course → Run
run_down Free = Apart
run_down Across = Crossing
run_down Down = Along

-- a child, as it counts along an axis
pub record Kid : Type 0 where
  pub box : Box
  pub axis : Axis
  pub natural : ℕ

abbrev pub across_kid : Wide → Kid
across_kid kid = record { box = kid.box; axis = kid.box.across; natural = kid.natural }

abbrev pub down_kid : Tall → Kid
down_kid kid = record { box = kid.box; axis = kid.box.down; natural = kid.natural_height }

-- the size with a child more that takes part
abbrev pub joined : Run → ℕ → Kid → ℕ
joined Apart size kid = max size (reach kid.axis.side kid.axis.wanted kid.natural)
joined Along size kid = size + flowing kid.box kid.natural
joined Crossing size kid = max size kid.natural

abbrev pub with_kid : Run → Sum → Kid → Sum
with_kid run sum kid =
    if kid.box.hidden then sum
    else record { size = joined run sum.size kid; count = sum.count + 1 }

-- the sum with these children more
abbrev pub with_kids : {A : Type 0} → (A → Kid) → Run → Sum → List A → Sum
with_kids read run sum kids = fold (λ sum kid. with_kid run sum (read kid)) sum kids

abbrev pub sum_of : {A : Type 0} → (A → Kid) → Run → List A → Sum
sum_of read run kids = with_kids read run (record { size = 0; count = 0 }) kids

-- how large they are together
abbrev pub with_gaps : Run → ℕ → Sum → ℕ
with_gaps Apart gap sum = sum.size
with_gaps Along gap sum = sum.size + gap * (sum.count - 1)
with_gaps Crossing gap sum = sum.size
