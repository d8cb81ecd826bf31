-- Debts that were worked out by hand.
use Rattle.std.specs.Prelude.{◌≡◌, ℕ, Bool, true, false, pos, List, [], ◌∷◌, ◌++◌, replicate, codes}
use Rattle.std.specs.List.{filter}
use Rattle.gui_base.specs.declared.Handle.{Handle}
use Rattle.gui_base.specs.declared.props.Prop.TheVariants.{BgColor, BgOpa, TextColor}
use Rattle.gui_base.specs.declared.words.State.TheVariants.{Pressed}
use Rattle.gui_base.specs.declared.words.Flag.TheVariants.{Hidden, Scrollable}
use Rattle.gui_base.specs.declared.words.Flow.TheVariants.{Row}
use Rattle.gui_base.specs.declared.words.Kind.{Kind}
use Rattle.gui_base.specs.declared.words.Kind.TheVariants.{Screen, Layer, Obj, Label, Slider}
use Rattle.gui_base.specs.declared.words.Length.TheVariants.{Pixels}
use Rattle.gui_base.specs.declared.words.Part.TheVariants.{Main}
use Rattle.gui_base.specs.declared.words.Selector.{Selector}
use Rattle.gui_base.specs.Area.{Rect}
use Rattle.gui_base.specs.Forest.{Forest, Empty, Tree, and_then}
use Rattle.gui_base.specs.Limits.{with_sizes, with_block}
use Rattle.style_defs.specs.declared.Entry.{Entry}
use Rattle.style_defs.specs.declared.Setting.{Setting}
use Rattle.style_defs.specs.Book.{Book, an_entry, a_setting, a_use}
use Rattle.scene_defs.specs.declared.Change.{Change}
use Rattle.scene_defs.specs.declared.Change.TheVariants as change
use Rattle.scene_defs.specs.Row.{new_row}
use Rattle.scene_defs.specs.Scene.{Object, Scene, new_object}
use Rattle.scene_defs.specs.Change.{changed}
use Rattle.scene_defs.specs.Edits.{with_row}
use Rattle.scene_defs.specs.Picture.{paint}
use Rattle.debt_defs.specs.Concerns.{concerns}
use Rattle.debt_defs.specs.Debt.{debt_size, debt_count}
use Rattle.debt_defs.specs.Same.{same_color}
use Rattle.debt_defs.specs.Scenes.{touched_of, debt_of}

abbrev handle : ℕ → Handle
handle h = record { 0 = h }

-- an object of a kind, with a text, of these sizes at a place
abbrev widget : Kind → List ℕ → ℕ → ℕ → ℕ → ℕ → ℕ → Object
widget kind text h x y width height = record {
  handle = h;
  row = record (new_row kind) { x = pos x; y = pos y; width = Pixels width; height = Pixels height };
  text = text;
}

abbrev object : ℕ → ℕ → ℕ → ℕ → ℕ → Object
object = widget Obj []

abbrev main : Selector
main = record { part = Main; states = 0 }

abbrev opaque : ℕ → List Entry
opaque color = an_entry main BgOpa (pos 255) ∷ an_entry main BgColor (pos color) ∷ []

-- what the objects from 10 on set locally
abbrev book : List (List Entry) → Book
book locals = record { styles = []; locals = replicate 10 [] ++ locals; uses = replicate 12 [] }

-- a panel of these sizes that shows screen 3 with these objects
abbrev scene : ℕ → ℕ → Forest Object → List (List Entry) → Scene
scene width height objects locals = record {
  trees = Tree (new_object 1 Layer) Empty
      (Tree (new_object 2 Layer) Empty (Tree (new_object 3 Screen) objects Empty));
  active = 3;
  book = book locals;
  fonts = [];
  images = [];
  limits = with_sizes width height 1;
}

abbrev area : ℕ → ℕ → ℕ → ℕ → Rect
area x1 y1 x2 y2 = record { x1 = pos x1; y1 = pos y1; x2 = pos x2; y2 = pos y2 }

-- one black object
abbrev pub one : Scene
one = scene 8 6 (Tree (object 10 1 1 3 2) Empty Empty) (opaque 0 ∷ [] ∷ [])

-- a black pixel, on a panel that takes blocks of four by two pixels
abbrev pub blocked : Scene
blocked =
    record (scene 8 4 (Tree (object 10 5 1 1 1) Empty Empty) (opaque 0 ∷ [] ∷ [])) {
      limits = with_block (with_sizes 8 4 4) (record { w = 4; h = 2 });
    }

abbrev pub moves : Change
moves = change.Pos (handle 10) (pos 2) (pos 1)

-- a black object with a blue one in it, that ends outside
abbrev pub nested : Scene
nested =
    scene 8 4 (Tree (object 10 0 0 4 4) (Tree (object 11 2 0 4 2) Empty Empty) Empty)
    (opaque 0 ∷ opaque 255 ∷ [])

-- a red object, and a green one over its right half
abbrev pub overlapping : Scene
overlapping =
    scene 4 1 (Tree (object 10 0 0 2 1) Empty (Tree (object 11 1 0 2 1) Empty Empty))
    (opaque 16711680 ∷ opaque 65280 ∷ [])

-- a red object and a green one beside it, in a row
abbrev pub in_row : Scene
in_row = with_row overlapping 3 (λ row. record row { flow = Row })

abbrev black_fill : List Setting
black_fill = a_setting BgOpa (pos 255) ∷ a_setting BgColor (pos 0) ∷ []

-- both use style 1, which is black
abbrev pub styled : Scene
styled = record overlapping {
  book = record {
    styles = record { number = 1; settings = black_fill } ∷ [];
    locals = [];
    uses = replicate 10 [] ++ (a_use 1 main ∷ []) ∷ (a_use 1 main ∷ []) ∷ [];
  };
}

-- a second screen, which has a black object
abbrev pub two_screens : Scene
two_screens =
    let last = Tree (new_object 4 Screen) (Tree (object 11 0 0 1 1) Empty Empty) Empty in
    record one { trees = and_then one.trees last }

-- a slider with its knob at the left
abbrev pub sliding : Scene
sliding = scene 8 4 (Tree (widget Slider [] 10 0 0 8 2) Empty Empty) []

-- a red text
abbrev pub labelled : Scene
labelled =
    scene 8 8 (Tree (widget Label (codes "I") 10 1 0 6 8) Empty Empty)
    ((an_entry main TextColor (pos 16711680) ∷ []) ∷ [])

abbrev pub slides : Change
slides = change.Value (handle 10) (pos 100)

abbrev pub says_other : Change
says_other = change.Text (handle 10) (codes "H")

abbrev pub goes_to_front : Change
goes_to_front = change.Front (handle 10)

abbrev pub narrows : Change
narrows = change.Size (handle 10) (Pixels 1) (Pixels 1)

abbrev pub turns_green : Change
turns_green = change.Set 1 BgColor (pos 65280)

-- how many pixels a change owes, and in how many areas
abbrev pub size_and_count : Scene → Change → ℕ × ℕ
size_and_count scene change = (debt_size (debt_of scene change), debt_count (debt_of scene change))

pub record DebtsAreWorked : Type 0 where
  -- one that moves owes both of its places
  pub moved : debt_of one moves ≡ area 1 1 3 2 ∷ area 2 1 4 2 ∷ []
  -- one that turns green owes its place once
  pub coloured : debt_of one (change.Local (handle 10) main BgColor (pos 65280)) ≡ area 1 1 3 2 ∷ []
  -- one that gets the colour that it has is touched, since it is named
  pub coloured_again : debt_of one (change.Local (handle 10) main BgColor (pos 0)) ≡ area 1 1 3 2 ∷ []
  -- what is moved along owes its part of both places
  pub moved_along :
      debt_of nested (change.Pos (handle 10) (pos 1) (pos 0))
      ≡ area 0 0 3 3 ∷ area 1 0 4 3 ∷ area 2 0 3 1 ∷ area 3 0 4 1 ∷ []
  pub both_touched : touched_of nested (change.Pos (handle 10) (pos 1) (pos 0)) ≡ 10 ∷ 11 ∷ []
  pub forty_in_four : size_and_count nested (change.Pos (handle 10) (pos 1) (pos 0)) ≡ (40, 4)
  -- one that goes to the front owes its place, also where it stands there already
  pub to_front : debt_of overlapping goes_to_front ≡ area 0 0 1 0 ∷ []
  pub to_front_again : debt_of (changed overlapping goes_to_front) goes_to_front ≡ area 0 0 1 0 ∷ []
  -- its neighbour in a row follows
  pub followed :
      debt_of in_row narrows ≡ area 0 0 1 0 ∷ area 0 0 0 0 ∷ area 2 0 3 0 ∷ area 1 0 2 0 ∷ []
  -- all users of a style that turns green owe their places
  pub both_users : debt_of styled turns_green ≡ area 0 0 1 0 ∷ area 1 0 2 0 ∷ []
  -- a slider whose knob moves owes its place once
  pub slid : debt_of sliding slides ≡ area 0 0 7 1 ∷ []
  -- one that shows another text owes its place, though its items are the same
  pub said : debt_of labelled says_other ≡ area 1 0 6 7 ∷ []
  -- a hidden one owes what was seen of it and of what lies in it
  pub hidden : debt_of nested (change.Flag (handle 10) Hidden true) ≡ area 0 0 3 3 ∷ area 2 0 3 1 ∷ []
  -- one that is deleted too, though it is gone
  pub deleted : debt_of nested (change.Delete (handle 10)) ≡ area 0 0 3 3 ∷ area 2 0 3 1 ∷ []
  -- a new object owes its place, of which the panel shows a part
  pub made : debt_of one (change.New (handle 11) (handle 3) Obj) ≡ area 0 0 7 5 ∷ []
  -- a screen that is loaded owes what both show: first what is shown now
  pub loaded :
      debt_of two_screens (change.Load (handle 4))
      ≡ area 0 0 7 5 ∷ area 0 0 0 0 ∷ area 0 0 7 5 ∷ area 1 1 3 2 ∷ []
  -- what is not shown owes nothing
  pub unseen : debt_of two_screens (change.Front (handle 11)) ≡ []
  -- nor does what is refused
  pub refused : debt_of one (change.Front (handle 99)) ≡ []
  -- where the panel takes whole blocks, one that turns red owes those that it lies in, and one that moves
  -- those of both its places, also where they are the same
  pub whole_blocks : debt_of blocked (change.Local (handle 10) main BgColor (pos 16711680)) ≡ area 4 0 7 1 ∷ []
  pub both_blocks : debt_of blocked (change.Pos (handle 10) (pos 3) (pos 2)) ≡ area 4 0 7 1 ∷ area 0 2 3 3 ∷ []
  pub same_blocks : debt_of blocked (change.Pos (handle 10) (pos 4) (pos 0)) ≡ area 4 0 7 1 ∷ area 4 0 7 1 ∷ []

-- a white object that is scrollable, with a blue one in it that is three times as high
abbrev scrollable : Object → Object
scrollable o = record o { row = record o.row { flags = 18 } }

abbrev pub high : Scene
high =
    scene 20 20
    (Tree (scrollable (object 10 0 0 20 20)) (Tree (object 11 0 0 10 60) Empty Empty) Empty)
    (opaque 16777215 ∷ opaque 255 ∷ [])

abbrev pub scrolls : Change
scrolls = change.Scroll (handle 10) (pos 0) (pos 100)

-- a pixel has this colour of sixteen bits
abbrev is_painted : Scene → ℕ → ℕ → ℕ → Bool
is_painted scene x y color = same_color (paint scene (pos x) (pos y)) (record { 0 = color })

pub record ScrollingIsWorked : Type 0 where
  -- what is scrolled owes its place, and so does all that it moves
  pub scrolled : debt_of high scrolls ≡ area 0 0 19 19 ∷ area 0 0 9 19 ∷ []
  -- farther than its children reach it moves nothing
  pub no_farther : debt_of (changed high scrolls) (change.Scroll (handle 10) (pos 9) (pos 50)) ≡ area 0 0 19 19 ∷ []
  -- where it is not scrollable any more, they go back
  pub let_go :
      debt_of (changed high scrolls) (change.Flag (handle 10) Scrollable false)
      ≡ area 0 0 19 19 ∷ area 0 0 9 19 ∷ []
  -- a new child is moved as the others are
  pub joined :
      debt_of (changed high scrolls) (change.New (handle 12) (handle 10) Obj)
      ≡ area 0 0 19 19 ∷ area 0 0 19 9 ∷ []
  -- a child that gets shorter is moved less, and makes the bar over it longer
  pub shorter :
      debt_of (changed high scrolls) (change.Size (handle 11) (Pixels 10) (Pixels 30))
      ≡ area 0 0 19 19 ∷ area 0 0 9 19 ∷ []
  -- the bar lies over all children, at the top and then at the bottom
  pub bar : is_painted high 16 7 40179 ≡ true
  pub below_bar : is_painted high 16 8 65535 ≡ true
  pub beside_bar : is_painted high 9 7 31 ≡ true
  pub above_moved : is_painted (changed high scrolls) 19 11 65535 ≡ true
  pub moved_bar : is_painted (changed high scrolls) 19 12 40179 ≡ true

-- the objects of two screens that a change concerns
abbrev concerned : Scene → Change → List ℕ
concerned scene change = filter (concerns scene change) (1 ∷ 2 ∷ 3 ∷ 10 ∷ 11 ∷ [])

pub record ConcernsAreWorked : Type 0 where
  -- a place concerns the object that is moved
  pub place : concerned nested (change.Pos (handle 10) (pos 1) (pos 0)) ≡ 10 ∷ []
  -- a colour that is not inherited concerns one, and one that is concerns what lies below too
  pub fill : concerned nested (change.Local (handle 10) main BgColor (pos 0)) ≡ 10 ∷ []
  pub text : concerned nested (change.Local (handle 10) main TextColor (pos 0)) ≡ 10 ∷ 11 ∷ []
  -- so does a state
  pub state : concerned nested (change.State (handle 10) Pressed true) ≡ 10 ∷ 11 ∷ []
  -- a value and a text concern the object that has it
  pub value : concerned sliding slides ≡ 10 ∷ []
  pub words : concerned labelled says_other ≡ 10 ∷ []
  -- a style concerns its users
  pub style : concerned styled turns_green ≡ 10 ∷ 11 ∷ []
  -- an order concerns the object that is moved and its parent
  pub order : concerned nested goes_to_front ≡ 3 ∷ 10 ∷ []
  -- another parent concerns both, and what is moved
  pub parents : concerned nested (change.Parent (handle 11) (handle 3)) ≡ 3 ∷ 10 ∷ 11 ∷ []
  -- a screen that is loaded is the same, and so is all else
  pub load : concerned two_screens (change.Load (handle 4)) ≡ []
  -- what is scrolled is another, and what it moves is the same
  pub scroll : concerned high scrolls ≡ 10 ∷ []
