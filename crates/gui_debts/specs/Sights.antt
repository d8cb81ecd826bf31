-- Tables of what is seen.
use Rattle.std.specs.Prelude.{◌≡◌, ℕ, true, false, Some}
use Rattle.gui_pool.specs.Table.{Table, value_at}
use Rattle.scene_defs.specs.Scene.{Scene, is_there}
use Rattle.gui_concerns.specs.Concerned.{may_be}
use Rattle.gui_concerns.specs.declared.concerned.Concerned.{Concerned}
use Rattle.gui_debts.specs.declared.seen.Seen.{Seen}
use Rattle.gui_debts.specs.Seen.{IsSeen, KeepsItems}

-- each value of a table is what is seen of that object
abbrev pub AreSeen : Table Seen → Scene → Type 0
AreSeen table scene = (h : ℕ) (s : Seen) → value_at table h ≡ Some s → IsSeen scene h s

-- what is known of objects that are there, and that a change does not concern, is what they paint where they
-- stood
abbrev pub KeepOthers : Table Seen → Concerned → Scene → Type 0
KeepOthers table concerned scene =
    (h : ℕ) (s : Seen) → is_there scene h ≡ true →
    may_be scene concerned h ≡ false → value_at table h ≡ Some s → KeepsItems scene h s
