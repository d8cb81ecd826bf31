-- Boxes: what layout knows of an object, with its styles looked up.
use Rattle.std.specs.Prelude.{ℕ, ◌+◌, ◌-◌, ◌*◌, ◌/◌, min, Bool, true, false, ℤ}
use Rattle.gui_base.specs.declared.words.Length.{Length}
use Rattle.gui_base.specs.declared.words.Length.TheVariants.{Pixels, Percent, Content}
use Rattle.gui_base.specs.declared.words.Flow.{Flow}
use Rattle.gui_base.specs.declared.words.Flow.TheVariants.{Free as NoFlow, Row, Column, RowWrap, ColumnWrap}
use Rattle.gui_base.specs.declared.words.Flow.TheVariants.{RowReverse, ColumnReverse, RowWrapReverse}
use Rattle.gui_base.specs.declared.words.Flow.TheVariants.{ColumnWrapReverse}
use Rattle.gui_base.specs.declared.words.Align.{Align}
use Rattle.gui_base.specs.declared.words.Align.TheVariants.{TopLeft, TopMid, TopRight, LeftMid, Center}
use Rattle.gui_base.specs.declared.words.Align.TheVariants.{RightMid, BottomLeft, BottomMid, BottomRight}
use Rattle.layout_defs.specs.declared.Course.{Course}
use Rattle.layout_defs.specs.declared.Course.TheVariants.{Free, Across, Down}
use Rattle.layout_defs.specs.declared.Side.{Side}
use Rattle.layout_defs.specs.declared.Side.TheVariants.{Near, Middle, Far}
use Rattle.layout_defs.specs.Flex.{Placings}

-- what an object wants in one direction, across or down
pub record Axis : Type 0 where
  pub size : Length
  pub side : Side
  -- how far from where its side puts it
  pub wanted : ℤ
  -- border and pad before and after its content area
  pub before : ℕ
  pub after : ℕ
  -- the gap between its children
  pub gap : ℕ
  -- how far its children are to be scrolled, where it is scrollable
  pub scroll : ℕ

-- all of an object that layout goes by
pub record Box : Type 0 where
  pub handle : ℕ
  pub hidden : Bool
  pub across : Axis
  pub down : Axis
  pub flow : Flow
  pub places : Placings
  pub grow : ℕ
  pub scrollable : Bool
  -- the own width of what it shows, and the own height where its content area is so wide
  pub own_width : ℕ
  pub own_height : ℕ → ℕ

-- the side that an alignment means across
abbrev pub side_across : Align → Side
side_across TopLeft = Near
side_across LeftMid = Near
side_across BottomLeft = Near
side_across TopMid = Middle
side_across Center = Middle
side_across BottomMid = Middle
side_across TopRight = Far
side_across RightMid = Far
side_across BottomRight = Far

-- the side that an alignment means down
abbrev pub side_down : Align → Side
side_down TopLeft = Near
side_down TopMid = Near
side_down TopRight = Near
side_down LeftMid = Middle
side_down Center = Middle
side_down RightMid = Middle
side_down BottomLeft = Far
side_down BottomMid = Far
side_down BottomRight = Far

-- the direction in which a flow runs
abbrev pub course_of : Flow → Course
course_of NoFlow = Free
course_of Row = Across
course_of RowWrap = Across
course_of RowReverse = Across
course_of RowWrapReverse = Across
course_of Column = Down
course_of ColumnWrap = Down
course_of ColumnReverse = Down
course_of ColumnWrapReverse = Down

-- whether a flow goes on in a further track where one is full
abbrev pub wraps : Flow → Bool
wraps RowWrap = true
wraps ColumnWrap = true
wraps RowWrapReverse = true
wraps ColumnWrapReverse = true
wraps NoFlow = false
wraps Row = false
wraps Column = false
wraps RowReverse = false
wraps ColumnReverse = false

-- whether a flow takes the children from the last to the first
abbrev pub is_reversed : Flow → Bool
is_reversed RowReverse = true
is_reversed ColumnReverse = true
is_reversed RowWrapReverse = true
is_reversed ColumnWrapReverse = true
is_reversed NoFlow = false
is_reversed Row = false
is_reversed Column = false
is_reversed RowWrap = false
is_reversed ColumnWrap = false

-- border and pads of both sides
abbrev pub inset : Axis → ℕ
inset axis = axis.before + axis.after

-- how large the content area is of an object that is so large
abbrev pub inner : Axis → ℕ → ℕ
inner axis size = size - inset axis

-- a result, brought into the interval of sizes
abbrev pub brought : ℕ → ℕ
brought n = min n 8191

-- the size of an object in a parent whose content area is so large
abbrev pub size_in : Length → ℕ → ℕ → ℕ
size_in (Pixels n) room natural = brought n
size_in (Percent n) room natural = brought (room * n / 100)
size_in Content room natural = brought natural
