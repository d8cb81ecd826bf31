-- Tables that have values for listed handles, and for no others.
use Rattle.std.specs.Prelude.{◌≡◌, ◌≤◌, ◌<◌, ℕ, ◌+◌, ◌==◌, eqb, true, false, if◌then◌else◌}
use Rattle.std.specs.Prelude.{List, [], ◌∷◌, length, is_some, IsSome}
use Rattle.gui_base.specs.Forest.{Forest, has}
use Rattle.gui_base.specs.declared.Handle.{Handle}
use Rattle.gui_base.specs.declared.intervals.TheConstants.{HANDLE}
use Rattle.gui_pool.specs.Table.{Table, value_at}

-- how often a handle is listed
abbrev pub times : List Handle → ℕ → ℕ
times [] k = 0
times (h ∷ hs) k = (if h.0 == k then 1 else 0) + times hs k

-- each is listed once, and may name an object
pub record AreProper (hs : List Handle) : Type 0 where
  pub once : (k : ℕ) → times hs k ≤ 1
  pub low : (k : ℕ) → 0 < times hs k → k < HANDLE.high + 1

-- 1 for a handle that has a value, and 0 for any other
abbrev pub value_count : {T : Type 0} → Table T → ℕ → ℕ
value_count t k = if is_some (value_at t k) then 1 else 0

-- a table has a value for each of these handles and for no other; so many fit in all
pub record HasThese {T : Type 0} (objects : ℕ) (t : Table T) (hs : List Handle) : Type 0 where
  pub keys : HANDLE.high + 1 ≤ length t.values
  pub room : t.spare + length hs ≡ objects
  pub each : (k : ℕ) → value_count t k ≡ times hs k

-- those of these handles that stand in a forest
abbrev pub those_in : Forest ℕ → List Handle → List Handle
those_in f [] = []
those_in f (h ∷ hs) = if has f h.0 then h ∷ those_in f hs else those_in f hs

-- a table had a value for each of these handles; it has kept those of the handles that stand in a forest, and
-- has no others
pub record KeepsThose {T : Type 0} (f : Forest ℕ) (hs : List Handle) (old new : Table T) : Type 0 where
  pub these : (objects : ℕ) → HasThese objects old hs → HasThese objects new (those_in f hs)
  pub same : (k : ℕ) → has f k ≡ true → value_at new k ≡ value_at old k

-- a table has got a value for h, and those for all other handles are the same
pub record AddsValue {T : Type 0} (h : ℕ) (old new : Table T) : Type 0 where
  pub own : IsSome (value_at new h)
  pub same : (k : ℕ) → eqb k h ≡ false → value_at new k ≡ value_at old k

-- the value for k is the same
abbrev pub SameValue : {T : Type 0} → ℕ → Table T → Table T → Type 0
SameValue k old new = value_at new k ≡ value_at old k
