-- Marks that are still to be settled.
use Rattle.std.specs.Prelude.{◌≡◌, ◌≤◌, ℕ, Bool, true, false, Option, Some, None, List, length}
use Rattle.gui_base.specs.declared.Handle.{Handle}
use Rattle.gui_pool.specs.Table.{Table, value_at}
use Rattle.gui_boxes.specs.Listing.{HasThese}
use Rattle.gui_boxes.specs.declared.mark.Mark.{Mark}
use Rattle.gui_boxes.specs.declared.mark.Mark.TheVariants.{All, Children, Raised, Settled}

-- whether anything may have changed
abbrev pub is_all : Option Mark → Bool
is_all None = false
is_all (Some All) = true
is_all (Some Children) = false
is_all (Some Raised) = true
is_all (Some Settled) = false

-- whether the children alone may be others
abbrev pub is_part : Option Mark → Bool
is_part None = false
is_part (Some All) = false
is_part (Some Children) = true
is_part (Some Raised) = false
is_part (Some Settled) = false

-- whether it is one of both
abbrev pub is_any : Option Mark → Bool
is_any None = false
is_any (Some All) = true
is_any (Some Children) = true
is_any (Some Raised) = true
is_any (Some Settled) = false

-- whether it is a mark of the object itself, be it settled or not
abbrev pub is_own : Option Mark → Bool
is_own None = false
is_own (Some All) = true
is_own (Some Children) = false
is_own (Some Raised) = false
is_own (Some Settled) = true

abbrev pub is_pending : Table Mark → ℕ → Bool
is_pending t k = is_all (value_at t k)

abbrev pub is_partly : Table Mark → ℕ → Bool
is_partly t k = is_part (value_at t k)

abbrev pub is_first : Table Mark → ℕ → Bool
is_first t k = is_own (value_at t k)

abbrev pub is_marked_in : Table Mark → ℕ → Bool
is_marked_in t k = is_any (value_at t k)

-- each of these handles, and no other, has a mark, and none is settled or raised; there is a key for any handle
pub record AreMarks (objects : ℕ) (t : Table Mark) (hs : List Handle) : Type 0 where
  pub keys : 65536 ≤ length t.values
  pub these : HasThese objects t hs
  pub good : (k : ℕ) (mark : Mark) → value_at t k ≡ Some mark → is_any (Some mark) ≡ true
  pub fresh : (k : ℕ) (mark : Mark) → value_at t k ≡ Some mark → is_own (Some mark) ≡ is_all (Some mark)
