-- What is right of the objects of trees some of which are marked: those that may have changed since the places
-- were settled.
use Rattle.std.specs.Prelude.{◌≡◌, ℕ, Bool, true, false, ◌||◌, eqb, if◌then◌else◌, List, map}
use Rattle.gui_base.specs.Forest.{Forest, Empty, Tree, has_by, roots, map_forest}
use Rattle.layout_defs.specs.Solving.{natural_width, natural_height}
use Rattle.gui_boxes.specs.Settled.{Known, wide_of, tall_of, Fits, FillsPanel, StandsFree, is_steady}

-- the trees in which an object is marked
abbrev pub marked_trees : (ℕ → Bool) → Forest ℕ → Forest ℕ
marked_trees m Empty = Empty
marked_trees m (Tree h cs rest) =
    if m h || has_by m cs then Tree h cs (marked_trees m rest) else marked_trees m rest

-- whether u is a root of these trees
abbrev pub is_root : ℕ → Forest ℕ → Bool
is_root u Empty = false
is_root u (Tree h cs rest) = eqb h u || is_root u rest

-- whether one of these roots is marked
abbrev pub is_any_root : (ℕ → Bool) → Forest ℕ → Bool
is_any_root m Empty = false
is_any_root m (Tree h cs rest) = m h || is_any_root m rest

-- an object's natural sizes follow from its children
pub record HasNatural (k : Known) (kids : List Known) : Type 0 where
  pub natural_width : k.natural_width ≡ natural_width k.box (map wide_of kids)
  pub natural_height : k.natural_height ≡ natural_height k.box k.width (map tall_of kids)

-- those of these roots that are not marked stand by themselves in their parent
abbrev pub StandUnmarked : (ℕ → Bool) → (ℕ → Known) → Known → Forest ℕ → Type 0
StandUnmarked m known p Empty = Unit {0}
StandUnmarked m known p (Tree h cs rest) =
    (m h ≡ false → StandsFree p (known h)) × StandUnmarked m known p rest

-- What is right of an object with these children while some of them are marked. Where it is steady, its
-- natural sizes are, and each child for itself. Else all is, where no child is marked.
abbrev pub LeftBy : Bool → (ℕ → Bool) → (ℕ → Known) → ℕ → Forest ℕ → Type 0
LeftBy true m known h cs =
    HasNatural (known h) (roots (map_forest known cs)) × StandUnmarked m known (known h) cs
LeftBy false m known h cs = is_any_root m cs ≡ false → Fits (known h) (roots (map_forest known cs))

abbrev pub FitsBut : (ℕ → Bool) → (ℕ → Known) → ℕ → Forest ℕ → Type 0
FitsBut m known h cs = LeftBy (is_steady (known h).box) m known h cs

-- so it is with each object of these trees that is looked at and is not marked
abbrev pub AllFitBut : (ℕ → Bool) → (ℕ → Bool) → (ℕ → Known) → Forest ℕ → Type 0
AllFitBut s m known Empty = Unit {0}
AllFitBut s m known (Tree h cs rest) =
    (s h ≡ true → m h ≡ false → FitsBut m known h cs) × AllFitBut s m known cs × AllFitBut s m known rest

-- and the roots fill a panel
abbrev pub AllFillBut : (ℕ → Bool) → (ℕ → Bool) → ℕ → ℕ → (ℕ → Known) → Forest ℕ → Type 0
AllFillBut s m width height known Empty = Unit {0}
AllFillBut s m width height known (Tree h cs rest) =
    (s h ≡ true → m h ≡ false → FillsPanel width height (known h)) × AllFillBut s m width height known rest

-- Two grades of marks. Of objects of the second grade, told by c, the list of children alone may differ, and
-- those that are new in it are marked. A steady object does not go by that.
abbrev pub LeftOf : Bool → (ℕ → Bool) → (ℕ → Bool) → (ℕ → Known) → ℕ → Forest ℕ → Type 0
LeftOf true m c known h cs =
    HasNatural (known h) (roots (map_forest known cs)) × StandUnmarked m known (known h) cs
LeftOf false m c known h cs =
    c h ≡ false → is_any_root m cs ≡ false → Fits (known h) (roots (map_forest known cs))

abbrev pub AllFitButBoth : (ℕ → Bool) → (ℕ → Bool) → (ℕ → Bool) → (ℕ → Known) → Forest ℕ → Type 0
AllFitButBoth s m c known Empty = Unit {0}
AllFitButBoth s m c known (Tree h cs rest) =
    (s h ≡ true → m h ≡ false → LeftOf (is_steady (known h).box) m c known h cs)
    × AllFitButBoth s m c known cs × AllFitButBoth s m c known rest
