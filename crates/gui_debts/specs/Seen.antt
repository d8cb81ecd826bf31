-- What the code knows of an object that is seen.
use Rattle.std.specs.Prelude.{◌≡◌, ◌<◌, ℕ, Bool, true, false, Some, None, IsSome, List, [], ◌∷◌, length, get_or, option_map}
use Rattle.std.specs.declared.option.Option.{Option}
use Rattle.gui_base.specs.Area.{Rect}
use Rattle.gui_base.specs.Corners.{rect_of}
use Rattle.gui_pack.specs.Records.{is_alone, paints_in}
use Rattle.gui_pack.specs.declared.record.Paints.{Paints}
use Rattle.pack_defs.specs.Paints.{items_in}
use Rattle.widget_defs.specs.Items.{Item}
use Rattle.scene_defs.specs.Items.{bars, items, items_of}
use Rattle.scene_defs.specs.Scene.{Scene, is_there, object_at}
use Rattle.scene_defs.specs.Shown.{Entry, entries}
use Rattle.scene_defs.specs.Visible.{visible}
use Rattle.gui_debts.specs.Bars.{items_in as bar_items}
use Rattle.gui_debts.specs.Kept.{packed_in, wide}
use Rattle.gui_debts.specs.declared.seen.Seen.{Seen}
use Rattle.gui_debts.specs.declared.seen.ShownEntry.{ShownEntry}

-- the items of what is known: none of an object that stands nowhere
abbrev pub items_known : Option Paints → List Item
items_known None = []
items_known (Some paints) = items_in (paints_in paints)

-- whether it is known to paint its own part alone
abbrev pub paints_alone : Option Paints → Bool
paints_alone None = false
paints_alone (Some paints) = is_alone paints.more

-- where an object stands that paints these: the first covers its place
abbrev pub place_in : List Item → Option Rect
place_in [] = None
place_in (item ∷ items) = Some item.area

-- the bars that are known, as they are kept beside its place
abbrev pub bars_seen : Seen → List Item
bars_seen s = bar_items (wide (packed_in s.bars) (place_in (items_known s.paints)))

-- it would paint what is known where it stood by that, wherever it stands now
abbrev pub KeepsItems : Scene → ℕ → Seen → Type 0
KeepsItems scene h s =
    items_known s.paints ≡ items_of scene (object_at scene h) (place_in (items_known s.paints))

-- something is seen of h
abbrev pub IsVisible : Scene → ℕ → Type 0
IsVisible scene h = IsSome (visible scene h)

-- What is known of h is what is seen of it: where, and if it is seen somewhere, what it paints by itself, and its
-- bars. What it paints by itself may be known of a place where it stood when it was seen.
pub record IsSeen (scene : Scene) (h : ℕ) (s : Seen) : Type 0 where
  pub visible : option_map rect_of s.visible ≡ visible scene h
  pub items : IsVisible scene h → items_known s.paints ≡ items scene h
  pub bars : IsVisible scene h → bars_seen s ≡ bars scene h
  pub keeps : KeepsItems scene h s

-- what is lent of an entry: where its object is seen, what that paints by itself, and its bars
abbrev pub visible_of : ShownEntry → Option Rect
visible_of e = option_map rect_of e.seen.now.visible

abbrev pub items_by : ShownEntry → List Item
items_by e = items_known e.seen.now.paints

abbrev pub bars_by : ShownEntry → List Item
bars_by e = bars_seen e.seen.now

-- and that is so in a scene: what it paints and its bars are told where it is seen somewhere
pub record IsKnown (scene : Scene) (e : ShownEntry) : Type 0 where
  pub there : is_there scene e.h.0 ≡ true
  pub visible : visible_of e ≡ visible scene e.h.0
  pub items : IsVisible scene e.h.0 → items_by e ≡ items scene e.h.0
  pub bars : IsVisible scene e.h.0 → bars_by e ≡ bars scene e.h.0

-- which entry it is
abbrev pub entry_of : ShownEntry → Entry
entry_of e = record { handle = e.h.0; is_bars = e.is_bars }

-- it is the nth that is painted
pub record IsShownAt (scene : Scene) (n : ℕ) (e : ShownEntry) : Type 0 where
  pub within : n < length (entries scene)
  pub entry : (other : Entry) → get_or (entries scene) n other ≡ entry_of e
  pub known : IsKnown scene e
