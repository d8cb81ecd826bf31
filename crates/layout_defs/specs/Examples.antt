-- Places that were worked out by hand.
use Rattle.std.specs.Prelude.{◌≡◌, ℕ, true, false, List, [], ◌∷◌, map, pos, negsuc}
use Rattle.gui_base.specs.Area.{Rect}
use Rattle.gui_base.specs.Forest.{Forest, Empty, Tree, preorder}
use Rattle.gui_base.specs.declared.words.Placing.{Placing}
use Rattle.gui_base.specs.declared.words.Placing.TheVariants.{Start, SpaceBetween}
use Rattle.gui_base.specs.declared.words.Length.{Length}
use Rattle.gui_base.specs.declared.words.Length.TheVariants.{Pixels, Percent, Content}
use Rattle.gui_base.specs.declared.words.Flow.{Flow}
use Rattle.gui_base.specs.declared.words.Flow.TheVariants.{Free, Row, Column, RowWrapReverse}
use Rattle.layout_defs.specs.declared.Side.TheVariants.{Near}
use Rattle.layout_defs.specs.Flex.{Placings}
use Rattle.layout_defs.specs.Boxes.{Axis, Box}
use Rattle.layout_defs.specs.Solving.{Placed, Span, place_of, offset_at, solved}

abbrev axis : Length → ℕ → Axis
axis size border =
    record { size = size; side = Near; wanted = pos 0; before = border; after = border; gap = 0; scroll = 0 }

abbrev placed_by : Placing → Placings
placed_by placing = record { main = placing; cross = Start; track = Start }

-- an object of these sizes with a flow, and as much border and pads on each side
abbrev box : ℕ → Length → Length → Flow → ℕ → Box
box h width height flow border = record {
  handle = h;
  hidden = false;
  across = axis width border;
  down = axis height border;
  flow = flow;
  places = placed_by Start;
  grow = 0;
  scrollable = false;
  own_width = 0;
  own_height = λ _. 0;
}

-- one of so many pixels
abbrev pixels : ℕ → ℕ → ℕ → Box
pixels h width height = box h (Pixels width) (Pixels height) Free 0

abbrev hidden : Box → Box
hidden b = record b { hidden = true }

abbrev growing : Box → Box
growing b = record b { grow = 1 }

-- trees without children
abbrev leaves : List Box → Forest Box
leaves [] = Empty
leaves (b ∷ bs) = Tree b Empty (leaves bs)

-- a screen with these children
abbrev screen : Flow → Placing → Forest Box → Forest Box
screen flow placing kids =
    Tree (record (box 3 Content Content flow 0) { places = placed_by placing }) kids Empty

abbrev area : ℕ → ℕ → ℕ → ℕ → Rect
area x1 y1 x2 y2 = record { x1 = pos x1; y1 = pos y1; x2 = pos x2; y2 = pos y2 }

-- where the objects stand on a panel of these sizes, each before its children
abbrev pub places : ℕ → ℕ → Forest Box → List Rect
places width height f = map place_of (preorder (solved width height f))

-- how far each of them reaches and is moved
abbrev pub reaches : ℕ → ℕ → Forest Box → List Span
reaches width height f = map (λ (p : Placed). p.reach) (preorder (solved width height f))

abbrev pub offsets : ℕ → ℕ → Forest Box → List Span
offsets width height f = map offset_at (preorder (solved width height f))

abbrev span : ℕ → ℕ → Span
span across down = record { across = across; down = down }

-- an object that is to be scrolled so far
abbrev scrolled : ℕ → ℕ → Box → Box
scrolled across down b = record b {
  scrollable = true;
  across = record b.across { scroll = across };
  down = record b.down { scroll = down };
}

-- a child that is three times as high as its parent
abbrev high_child : ℕ → Forest Box
high_child down = screen Free Start (Tree (scrolled 0 down (pixels 10 20 20)) (leaves (pixels 11 10 60 ∷ [])) Empty)

abbrev fixed : ℕ → Forest Box
fixed down =
    let b = record (scrolled 0 down (pixels 10 20 20)) { scrollable = false } in
    screen Free Start (Tree b (leaves (pixels 11 10 60 ∷ [])) Empty)

-- a column in borders, of which a hidden one is left out; the last is wider than all
abbrev in_column : Forest Box
in_column =
    let kids = leaves (pixels 11 4 9 ∷ hidden (pixels 12 50 50) ∷ pixels 13 30 9 ∷ []) in
    screen Free Start (Tree (scrolled 5 100 (box 10 (Pixels 20) (Pixels 14) Column 2)) kids Empty)

abbrev row_of_two : Forest Box
row_of_two =
    let kids = leaves (pixels 11 30 10 ∷ box 12 (Percent 50) (Pixels 10) Free 0 ∷ []) in
    screen Free Start (Tree (box 10 Content (Pixels 20) Row 3) kids Empty)

abbrev three_growing : Forest Box
three_growing =
    screen Row Start (leaves (map growing (pixels 10 1 1 ∷ pixels 11 1 1 ∷ pixels 12 1 1 ∷ [])))

abbrev nested : Forest Box
nested =
    let inner = Tree (box 11 Content Content Free 0) (leaves (pixels 12 20 10 ∷ [])) Empty in
    screen Free Start (Tree (box 10 Content Content Free 0) inner Empty)

abbrev three_and_one_hidden : Forest Box
three_and_one_hidden =
    screen RowWrapReverse Start
    (leaves (pixels 10 4 2 ∷ hidden (pixels 11 5 5) ∷ pixels 12 4 3 ∷ pixels 13 4 1 ∷ []))

pub record PlacesAreWorked : Type 0 where
  -- an object is as wide as its children, of which the second wants half of it and so counts as nothing
  pub content_and_percent :
      places 64 32 row_of_two ≡ area 0 0 63 31 ∷ area 0 0 35 19 ∷ area 3 3 32 12 ∷ area 33 3 47 12 ∷ []
  -- three share ten columns, and the last has what is left
  pub three_share : places 10 2 three_growing ≡ area 0 0 9 1 ∷ area 0 0 2 0 ∷ area 3 0 5 0 ∷ area 6 0 9 0 ∷ []
  -- one that stands alone stands at the start
  pub one_between :
      places 10 2 (screen Row SpaceBetween (leaves (pixels 10 4 1 ∷ []))) ≡ area 0 0 9 1 ∷ area 0 0 3 0 ∷ []
  -- two that are wider than their row begin at its start
  pub two_too_wide :
      places 10 2 (screen Row SpaceBetween (leaves (pixels 10 8 1 ∷ pixels 11 8 1 ∷ [])))
      ≡ area 0 0 9 1 ∷ area 0 0 7 0 ∷ area 8 0 15 0 ∷ []
  -- sizes go up through contents
  pub nested_contents :
      places 40 20 nested ≡ area 0 0 39 19 ∷ area 0 0 19 9 ∷ area 0 0 19 9 ∷ area 0 0 19 9 ∷ []
  -- the last comes first, the third does not fit beside the others, and a hidden one stands by itself
  pub wrapped_from_the_last :
      places 10 9 three_and_one_hidden
      ≡ area 0 0 9 8 ∷ area 0 3 3 4 ∷ area 0 0 4 4 ∷ area 4 0 7 2 ∷ area 0 0 3 0 ∷ []
  -- what is to be scrolled too far is scrolled as far as it reaches
  pub reach_of_high : reaches 20 20 (high_child 100) ≡ span 0 0 ∷ span 0 40 ∷ span 0 0 ∷ []
  pub scrolled_whole :
      places 20 20 (high_child 100)
      ≡ area 0 0 19 19 ∷ area 0 0 19 19 ∷ record { x1 = pos 0; y1 = negsuc 39; x2 = pos 9; y2 = pos 19 } ∷ []
  -- what is not to be scrolled stands flat, and reaches as far, scrollable or not
  pub flat : places 20 20 (high_child 0) ≡ area 0 0 19 19 ∷ area 0 0 19 19 ∷ area 0 0 9 59 ∷ []
  pub reach_of_flat : reaches 20 20 (high_child 0) ≡ span 0 0 ∷ span 0 40 ∷ span 0 0 ∷ []
  pub not_scrollable : places 20 20 (fixed 100) ≡ places 20 20 (high_child 0)
  pub reach_of_fixed : reaches 20 20 (fixed 100) ≡ reaches 20 20 (high_child 0)
  -- a flow is moved with all that is hidden in it, which counts for no reach
  pub reach_of_column : reaches 20 20 in_column ≡ span 0 0 ∷ span 14 8 ∷ span 0 0 ∷ span 0 0 ∷ span 0 0 ∷ []
  pub offset_of_column : offsets 20 20 in_column ≡ span 0 0 ∷ span 5 8 ∷ span 0 0 ∷ span 0 0 ∷ span 0 0 ∷ []
  pub column_moved :
      map (λ (a : Rect). a.x1) (places 20 20 in_column) ≡ pos 0 ∷ pos 0 ∷ negsuc 2 ∷ negsuc 2 ∷ negsuc 2 ∷ []
