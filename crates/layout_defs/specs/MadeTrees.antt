-- Trees that were made at random, with the places that another implementation of the same rules finds.
use Rattle.std.specs.Prelude.{◌≡◌, ℕ, Bool, true, false, [], ◌∷◌, ℤ, pos, negsuc}
use Rattle.gui_base.specs.Area.{Rect}
use Rattle.gui_base.specs.Forest.{Forest, Empty, Tree}
use Rattle.gui_base.specs.declared.words.Placing.{Placing}
use Rattle.gui_base.specs.declared.words.Placing.TheVariants.{Start, End, Center as Mid, SpaceEvenly}
use Rattle.gui_base.specs.declared.words.Placing.TheVariants.{SpaceAround, SpaceBetween}
use Rattle.gui_base.specs.declared.words.Length.{Length}
use Rattle.gui_base.specs.declared.words.Length.TheVariants.{Pixels, Percent, Content}
use Rattle.gui_base.specs.declared.words.Flow.{Flow}
use Rattle.gui_base.specs.declared.words.Flow.TheVariants.{Free, Row, Column, RowWrap, ColumnWrap}
use Rattle.gui_base.specs.declared.words.Flow.TheVariants.{RowReverse, ColumnReverse, RowWrapReverse}
use Rattle.gui_base.specs.declared.words.Flow.TheVariants.{ColumnWrapReverse}
use Rattle.gui_base.specs.declared.words.Align.{Align}
use Rattle.gui_base.specs.declared.words.Align.TheVariants.{TopLeft, TopMid, TopRight, Center}
use Rattle.gui_base.specs.declared.words.Align.TheVariants.{RightMid, BottomLeft, BottomMid, BottomRight}
use Rattle.layout_defs.specs.declared.Side.{Side}
use Rattle.layout_defs.specs.Flex.{Placings}
use Rattle.layout_defs.specs.Boxes.{Axis, Box, side_across, side_down}
use Rattle.layout_defs.specs.Examples.{places}

-- how items, an item in its track, and tracks are placed
abbrev by : Placing → Placing → Placing → Placings
by main cross track = record { main = main; cross = cross; track = track }

abbrev axis : Length → Side → ℤ → ℕ → ℕ → ℕ → Axis
axis size side wanted before after gap =
    record { size = size; side = side; wanted = wanted; before = before; after = after; gap = gap; scroll = 0 }

-- an object; the last numbers are its weight, its border and pads on the left, the right, the top and the
-- bottom, and its gaps across and down
abbrev object :
    ℕ → Bool → Length → Length → Align → ℤ → ℤ → Flow → Placings → ℕ → ℕ → ℕ → ℕ → ℕ → ℕ → ℕ → Box
object h hidden width height align x y flow places grow left right top bottom column row = record {
  handle = h;
  hidden = hidden;
  across = axis width (side_across align) x left right column;
  down = axis height (side_down align) y top bottom row;
  flow = flow;
  places = places;
  grow = grow;
  scrollable = false;
  own_width = 0;
  own_height = λ _. 0;
}

abbrev area : ℤ → ℤ → ℤ → ℤ → Rect
area x1 y1 x2 y2 = record { x1 = x1; y1 = y1; x2 = x2; y2 = y2 }

abbrev first_tree : Forest Box
first_tree =
    Tree
    (object 3 false Content Content TopLeft (pos 0) (pos 0) ColumnWrapReverse
    (by Start Start Start) 0 0 0 5 0 0 0)
    (Tree
    (object 10 true (Percent 3) (Percent 40) BottomRight (negsuc 3) (pos 11) Column
    (by Start Start Start) 2 1 1 8 1 0 3)
    (Tree
    (object 11 false (Percent 57) (Pixels 15) TopLeft (negsuc 28) (negsuc 11) RowWrap
    (by Start Start Start) 0 0 0 0 0 0 2)
    (Tree
    (object 12 true (Pixels 37) (Pixels 3) BottomLeft (pos 16) (pos 2) Row (by Mid End End) 0 4 0 0 0 0 0)
    (Tree
    (object 13 false (Percent 95) (Percent 86) TopLeft (pos 0) (pos 0) RowReverse
    (by SpaceAround Start Mid) 0 3 3 3 9 6 0)
    Empty Empty)
    Empty)
    Empty)
    (Tree
    (object 14 false (Percent 6) (Pixels 25) TopLeft (pos 5) (negsuc 6) ColumnWrap
    (by Start Start SpaceAround) 0 1 3 0 7 0 0)
    (Tree
    (object 15 false Content (Pixels 36) Center (pos 17) (pos 2) ColumnWrapReverse
    (by SpaceEvenly Start SpaceBetween) 0 0 0 0 0 0 0)
    Empty Empty)
    Empty))
    Empty

abbrev second_tree : Forest Box
second_tree =
    Tree
    (object 3 false Content Content TopLeft (pos 0) (pos 0) ColumnWrap
    (by SpaceAround End SpaceAround) 0 0 0 5 6 0 0)
    (Tree
    (object 10 true Content Content TopLeft (pos 0) (pos 0) ColumnReverse
    (by End End SpaceAround) 0 0 0 0 0 0 0)
    (Tree
    (object 11 false (Percent 51) (Pixels 19) Center (pos 7) (negsuc 16) RowWrapReverse
    (by Mid Mid Start) 0 0 0 4 0 4 3)
    (Tree
    (object 12 false (Pixels 37) (Percent 78) TopMid (pos 19) (negsuc 15) ColumnWrap
    (by Mid End Start) 3 3 3 3 4 0 0)
    (Tree
    (object 13 true (Percent 93) Content TopLeft (pos 0) (pos 0) RowWrap (by Start Start Start) 0 0 3 5 0 0 2)
    Empty Empty)
    (Tree
    (object 14 false Content Content TopLeft (pos 0) (pos 0) Free (by SpaceAround End Mid) 0 3 7 3 3 6 0)
    (Tree
    (object 15 false Content Content TopRight (pos 15) (pos 0) RowWrapReverse (by Mid Mid Mid) 0 0 0 0 0 0 0)
    (Tree
    (object 16 false (Percent 87) (Percent 55) TopRight (negsuc 6) (negsuc 17) ColumnWrapReverse
    (by Start Start Start) 2 0 0 0 0 0 0)
    Empty Empty)
    Empty)
    Empty))
    (Tree
    (object 17 false Content Content TopLeft (pos 0) (pos 0) Row (by Start Start Start) 0 0 0 0 2 4 4)
    Empty Empty))
    Empty)
    Empty

abbrev third_tree : Forest Box
third_tree =
    Tree
    (object 3 false Content Content TopLeft (pos 0) (pos 0) Column (by Start Start Start) 0 0 2 0 0 0 0)
    (Tree
    (object 10 false Content (Pixels 7) Center (pos 7) (pos 10) ColumnWrap
    (by Start Start Start) 3 3 10 9 5 0 5)
    (Tree
    (object 12 false Content (Pixels 27) BottomRight (negsuc 0) (pos 3) ColumnReverse
    (by SpaceEvenly Start SpaceAround) 1 0 0 0 0 0 0)
    (Tree
    (object 13 true (Percent 92) (Percent 47) TopLeft (pos 29) (pos 0) RowWrapReverse
    (by Start Start Start) 0 2 0 0 0 0 0)
    Empty Empty)
    (Tree
    (object 14 false (Pixels 53) (Pixels 13) TopLeft (pos 0) (pos 0) RowWrap (by Mid Mid Start) 1 7 3 3 3 0 6)
    (Tree
    (object 15 false Content Content BottomLeft (negsuc 17) (negsuc 17) Free
    (by Start Start Start) 0 1 0 0 0 3 0)
    (Tree
    (object 16 false (Pixels 49) Content Center (negsuc 13) (negsuc 5) Free
    (by SpaceEvenly Start Mid) 0 3 0 0 5 3 0)
    Empty Empty)
    Empty)
    Empty))
    (Tree
    (object 11 true (Percent 79) Content BottomMid (pos 13) (pos 6) Free (by Start Start Start) 0 2 2 2 2 0 0)
    (Tree
    (object 17 false (Pixels 41) Content RightMid (negsuc 18) (negsuc 3) RowReverse
    (by SpaceBetween Start SpaceAround) 0 0 0 0 4 0 0)
    Empty Empty)
    Empty))
    Empty

pub record MadeTreesAreSolved : Type 0 where
  pub first :
      places 35 66 first_tree
      ≡ area (pos 0) (pos 0) (pos 34) (pos 65) ∷ area (pos 30) (pos 53) (pos 30) (pos 76)
      ∷ area (pos 31) (pos 61) (pos 30) (pos 75) ∷ area (pos 47) (pos 75) (pos 83) (pos 77)
      ∷ area (pos 52) (pos 76) (pos 82) (pos 77) ∷ area (pos 0) (pos 5) (pos 1) (pos 29)
      ∷ area (pos 1) (pos 5) (pos 0) (pos 40) ∷ []
  pub second :
      places 115 88 second_tree
      ≡ area (pos 0) (pos 0) (pos 114) (pos 87) ∷ area (pos 0) (pos 5) (negsuc 0) (pos 25)
      ∷ area (pos 0) (pos 7) (negsuc 0) (pos 25) ∷ area (pos 0) (pos 20) (negsuc 0) (pos 30)
      ∷ area (pos 3) (pos 23) (pos 2) (pos 27) ∷ area (pos 0) (pos 11) (pos 9) (pos 16)
      ∷ area (pos 18) (pos 14) (pos 17) (pos 13) ∷ area (pos 18) (pos 14) (pos 17) (pos 13)
      ∷ area (pos 0) (pos 5) (negsuc 0) (pos 6) ∷ []
  pub third :
      places 99 83 third_tree
      ≡ area (pos 0) (pos 0) (pos 98) (pos 82) ∷ area (pos 0) (pos 0) (pos 65) (pos 82)
      ∷ area (pos 3) (pos 9) (pos 2) (pos 40) ∷ area (pos 32) (pos 9) (pos 31) (pos 23)
      ∷ area (pos 3) (pos 46) (pos 55) (pos 77) ∷ area (pos 10) (pos 49) (pos 59) (pos 53)
      ∷ area (negsuc 2) (pos 43) (pos 45) (pos 47) ∷ area (pos 23) (pos 81) (pos 98) (pos 88)
      ∷ area (pos 37) (pos 79) (pos 77) (pos 82) ∷ []
