-- What a change of styles does to `Styles`.
use Rattle.std.specs.Prelude.{◌≡◌, ℕ, ◌+◌, nat_lt, if◌then◌else◌, Some, None, OnOk, OnErr}
use Rattle.std.specs.declared.option.Option.{Option}
use Rattle.gui_base.specs.declared.Handle.{Handle}
use Rattle.gui_base.specs.declared.limits.Pool.{Pool}
use Rattle.gui_base.specs.declared.limits.Pool.TheVariants.{Styles as StyleSlots, Entries, Uses}
use Rattle.gui_base.specs.declared.refusal.Refusal.{Refusal}
use Rattle.gui_base.specs.declared.refusal.Refusal.TheVariants.{Full}
use Rattle.gui_base.specs.Refusing.{first_of, result_of}
use Rattle.gui_style.specs.Styles.{Styles, Answer}
use Rattle.scene_defs.specs.Styling.{Styling}

-- the object that a change of styles names
abbrev pub named_by : Option Styling → Option Handle
named_by None = None
named_by (Some styling) = styling.object

-- the first pool that has fewer spare slots than are needed
abbrev pub full_for : Styles → (Pool → ℕ) → Option Refusal
full_for s need =
    if nat_lt s.spare_styles (need StyleSlots) then Some (Full StyleSlots)
    else if nat_lt s.spare_entries (need Entries) then Some (Full Entries)
    else if nat_lt s.spare_uses (need Uses) then Some (Full Uses) else None

-- so many slots of each pool are taken, and so many come back
pub record AreSlots (old new : Styles) (need freed : Pool → ℕ) : Type 0 where
  pub styles : new.spare_styles + need StyleSlots ≡ old.spare_styles + freed StyleSlots
  pub entries : new.spare_entries + need Entries ≡ old.spare_entries + freed Entries
  pub uses : new.spare_uses + need Uses ≡ old.spare_uses + freed Uses

pub record IsStyled (old new : Styles) (styling : Styling) : Type 0 where
  pub book : new.book ≡ styling.after
  pub slots : AreSlots old new styling.need styling.freed

-- a change of styles is done as a whole, or refused with all as it was; its object is there
pub record IsAnswered (old new : Styles) (styling : Styling) (answer : Answer) : Type 0 where
  pub answer_is : answer ≡ result_of (first_of styling.tests (full_for old styling.need))
  pub done : OnOk answer (IsStyled old new styling)
  pub refused : OnErr answer (new ≡ old)

abbrev pub IsRestyled : Styles → Styles → Option Styling → Answer → Type 0
IsRestyled old new None answer = Unit {0}
IsRestyled old new (Some styling) answer = IsAnswered old new styling answer
