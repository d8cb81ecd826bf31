-- What is shown, in paint order: each object before its children, and its bars after them.
use Rattle.std.specs.Prelude.{ℕ, Bool, true, false, if◌then◌else◌, is_some, List, [], ◌∷◌, ◌++◌, map}
use Rattle.std.specs.declared.option.Option.{Option}
use Rattle.std.specs.List.{filter}
use Rattle.gui_base.specs.Area.{Rect}
use Rattle.gui_base.specs.Coats.{Coat}
use Rattle.gui_base.specs.Forest.{Forest, Empty, Tree, preorder}
use Rattle.scene_defs.specs.Scene.{Scene, handles_of}
use Rattle.scene_defs.specs.Visible.{shown_trees, visible}
use Rattle.scene_defs.specs.Items.{coats, bar_coats}

-- what is painted of an object at one time: what it shows by itself, or its bars
pub record Entry : Type 0 where
  pub handle : ℕ
  pub is_bars : Bool

-- the entry of what h shows by itself
abbrev pub own : ℕ → Entry
own h = record { handle = h; is_bars = false }

-- the entry of the bars that h shows over its children
abbrev pub bars_over : ℕ → Entry
bars_over h = record { handle = h; is_bars = true }

-- an entry that is seen: where, and what its items lay there, the lowest first
pub record Seen : Type 0 where
  pub handle : ℕ
  pub is_bars : Bool
  pub visible : Option Rect
  pub coats : List Coat

-- an entry of which so much is seen, where entries lay these coats
abbrev pub seen_as : (Entry → List Coat) → Option Rect → Entry → Seen
seen_as lays visible e =
    record { handle = e.handle; is_bars = e.is_bars; visible = visible; coats = lays e }

-- what an entry lays where its object is seen
abbrev pub entry_coats : Scene → Entry → List Coat
entry_coats scene e = if e.is_bars then bar_coats scene e.handle else coats scene e.handle

-- an entry as it is seen in a scene
abbrev pub seen_entry : Scene → Entry → Seen
seen_entry scene e = seen_as (entry_coats scene) (visible scene e.handle) e

-- what h shows by itself, as it is seen
abbrev pub seen : Scene → ℕ → Seen
seen scene h = seen_entry scene (own h)

-- the handles of the shown trees, each before those of its children
abbrev pub order : Scene → List ℕ
order scene = preorder (handles_of (shown_trees scene))

-- the objects that are seen, each before those below it
abbrev pub shown : Scene → List Seen
shown scene = filter (λ s. is_some s.visible) (map (seen scene) (order scene))

-- the entries of trees: of each object its own, those of its children, and its bars
abbrev pub entries_in : Forest ℕ → List Entry
entries_in Empty = []
entries_in (Tree h cs rest) = own h ∷ (entries_in cs ++ (bars_over h ∷ entries_in rest))

-- all entries of the trees that are shown, in paint order
abbrev pub entries : Scene → List Entry
entries scene = entries_in (handles_of (shown_trees scene))

-- all that is painted, the lowest first
abbrev pub painted : Scene → List Seen
painted scene = filter (λ s. is_some s.visible) (map (seen_entry scene) (entries scene))
