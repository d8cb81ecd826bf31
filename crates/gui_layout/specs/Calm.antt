-- Trees in which the objects that are not touched are right, and what is left of those that are not.
use Rattle.std.specs.Prelude.{◌≡◌, ◌<◌, ℕ, Bool, true, false, not, eqb, Some, List}
use Rattle.std.specs.List.{list_any}
use Rattle.gui_base.specs.Forest.{Forest, has, parent_of, path_of}
use Rattle.gui_base.specs.declared.Handle.{Handle}
use Rattle.layout_defs.specs.Boxes.{Box}
use Rattle.gui_boxes.specs.Listing.{times}
use Rattle.gui_boxes.specs.Scrolls.{scrolled_at}
use Rattle.gui_layout.specs.Marked.{AllFitBut}
use Rattle.gui_layout.specs.Scrolled.{IsScrolledIn}
use Rattle.gui_boxes.specs.Settled.{EachKids, Fits, Layout, known, known_at}
use Rattle.gui_boxes.specs.Touched.{HoldsScrollsIf, IfTouched, IsClosed, is_touched}

-- below an object that is not touched none is, it fits, and so does how far it scrolls its children
pub record IsCalm (box : ℕ → Box) (l : Layout) (f : Forest ℕ) : Type 0 where
  pub closed : IsClosed (is_touched l) f
  pub fit : EachKids (IfTouched (λ k. not (is_touched l k)) Fits) (known box l f)
  pub scrolled : HoldsScrollsIf (λ k. not (is_touched l k)) box l.widths l.natural_heights l.slots l.scrolls f

-- more is touched in these trees, and of an object that is not nothing has changed
pub record MovesTouched (box : ℕ → Box) (old new : Layout) (f : Forest ℕ) : Type 0 where
  pub more : (k : ℕ) → is_touched old k ≡ true → is_touched new k ≡ true
  pub others : (k : ℕ) → has f k ≡ false → is_touched new k ≡ is_touched old k
  pub closed : IsClosed (is_touched new) f
  pub known : (k : ℕ) → is_touched new k ≡ false → known_at box new k ≡ known_at box old k
  pub scrolls : (k : ℕ) → is_touched new k ≡ false → scrolled_at new.scrolls k ≡ scrolled_at old.scrolls k
  pub reported : new.reported ≡ old.reported

-- the parent of a touched object that is looked at is touched
abbrev pub IsClosedUp : Forest ℕ → (ℕ → Bool) → (ℕ → Bool) → Type 0
IsClosedUp f s t = (k p : ℕ) → has f k ≡ true → s k ≡ true → t k ≡ true → parent_of f k ≡ Some p → t p ≡ true

-- but where that is h
abbrev pub IsClosedBut : Forest ℕ → (ℕ → Bool) → (ℕ → Bool) → ℕ → Type 0
IsClosedBut f s t h =
    (k p : ℕ) → has f k ≡ true → s k ≡ true → t k ≡ true → parent_of f k ≡ Some p → eqb p h ≡ false → t p ≡ true

-- whether k is h or stands above it
abbrev pub is_up : Forest ℕ → ℕ → ℕ → Bool
is_up f k h = list_any (λ j. eqb j k) (path_of f h)

-- k is one of these objects, or stands above one that is there
pub record StandsOver (f : Forest ℕ) (hs : List Handle) (k : ℕ) : Type 0 where
  pub low : ℕ
  pub listed : 0 < times hs low
  pub there : has f low ≡ true
  pub up : is_up f k low ≡ true

-- nothing but the boxes and what is touched is another
abbrev pub ButTouchedBoxes : Layout → Layout → Type 0
ButTouchedBoxes old new = new ≡ record old { boxes = new.boxes; touched = new.touched }

-- The objects that are looked at, told by s, are right but for the marked ones, told by m; all marked ones are touched,
-- and so is what is above a touched one.
pub record IsReady (box : ℕ → Box) (l : Layout) (f : Forest ℕ) (s m : ℕ → Bool) : Type 0 where
  pub fit : AllFitBut s m (known_at box l) f
  pub closed : IsClosedUp f s (is_touched l)
  pub marked : (k : ℕ) → has f k ≡ true → m k ≡ true → is_touched l k ≡ true
  pub scrolled : (k : ℕ) → has f k ≡ true → s k ≡ true → is_touched l k ≡ false →
      IsScrolledIn (known_at box l) l.scrolls f k
