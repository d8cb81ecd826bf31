-- How listed areas are joined. `round` is what a join is widened to.
use Rattle.std.specs.Prelude.{◌≡◌, ℕ, ◌+◌, ◌<◌, ◌≤◌, nat_lt, Bool, true, false, not, ◌&&◌, ℤ}
use Rattle.std.specs.Prelude.{List, ◌∷◌, length, slice_index_or, set, remove, AllPairs}
use Rattle.std.specs.List.Sorted.{IsPermutation}
use Rattle.gui_base.specs.Area.{Rect, is_empty, size_of, common, joined, has_corners}
use Rattle.gui_damage.specs.Pending.{Pending, covered, total}

-- two areas have a pixel in common, and the rounding of their join has fewer pixels than both together
abbrev pub can_join : (Rect → Rect) → Rect → Rect → Bool
can_join round a b =
    not (is_empty (common a b)) && nat_lt (size_of (round (joined a b))) (size_of a + size_of b)

-- the areas at i and, later, at j are to be joined
pub record IsPair (round : Rect → Rect) (areas : List Rect) (i j : ℕ) : Type 0 where
  pub later : i < j
  pub within : j < length areas
  pub joins : (d : Rect) → can_join round (slice_index_or areas i d) (slice_index_or areas j d) ≡ true

-- no later area is to be joined with the one at i
abbrev pub HasNoPartner : (Rect → Rect) → List Rect → ℕ → Type 0
HasNoPartner round areas i = (j : ℕ) (d : Rect) → i < j → j < length areas →
    can_join round (slice_index_or areas i d) (slice_index_or areas j d) ≡ false

-- the list with the area at i replaced by another, and without the one at j
abbrev pub joined_at : List Rect → ℕ → ℕ → Rect → List Rect
joined_at areas i j area = remove (set areas i area) j

-- Two listed areas that are to be joined were replaced by the rounding of their join. The order of a list is
-- free.
pub record JoinsPair (round : Rect → Rect) (old new : List Rect) : Type 0 where
  pub first : Rect
  pub second : Rect
  pub others : List Rect
  pub listed : IsPermutation old (first ∷ second ∷ others)
  pub joins : can_join round first second ≡ true
  pub holds : has_corners (round (joined first second)) (joined first second) ≡ true
  pub replaced : IsPermutation (round (joined first second) ∷ others) new

-- such pairs were replaced, one after another
pub data JoinsPairs (round : Rect → Rect) (old : List Rect) : List Rect → Type 0 where
  none : JoinsPairs round old old
  one_more : {between new : List Rect} → JoinsPairs round old between → JoinsPair round between new →
      JoinsPairs round old new

-- pairs of listed areas were joined until none was left to join
pub record JoinsAll (round : Rect → Rect) (old new : Pending) : Type 0 where
  pub panel : new.panel ≡ old.panel
  pub joins : JoinsPairs round old.areas new.areas
  pub apart : AllPairs (λ a b. can_join round a b ≡ false) new.areas

-- what joining keeps
pub record KeepsPixels (old new : List Rect) : Type 0 where
  -- what was covered stays covered
  pub covers : (x y : ℤ) → covered old x y ≡ true → covered new x y ≡ true
  pub smaller : total new ≤ total old
  pub fewer : length new ≤ length old
  pub none_lost : 0 < length old → 0 < length new
