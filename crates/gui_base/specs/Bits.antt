-- Sets of small numbers, as the bits of a number.
use Rattle.std.specs.Prelude.{ℕ, ◌^◌, Bool, if◌then◌else◌, ◌==◌, bit_and, bit_or}
use Rattle.std.specs.Int.{bit_at, bit_not}
use Rattle.std.proofs.Common.{w16}
use Rattle.gui_base.specs.declared.words.Flag.{Flag}
use Rattle.gui_base.specs.declared.words.Flag.TheVariants.{Hidden, Clickable, Checkable, Bubble, Scrollable}
use Rattle.gui_base.specs.declared.words.State.{State}
use Rattle.gui_base.specs.declared.words.State.TheVariants.{Checked, Focused, FocusKey, Edited, Hovered}
use Rattle.gui_base.specs.declared.words.State.TheVariants.{Pressed, Scrolled, Disabled, User1, User2, User3}
use Rattle.gui_base.specs.declared.words.State.TheVariants.{User4}

-- whether the set has k
unfoldable pub has_bit : ℕ → ℕ → Bool
has_bit set k = bit_at set k == 1

-- the set with k put in, or taken out
unfoldable pub with_bit : ℕ → ℕ → Bool → ℕ
with_bit set k on = if on then bit_or set (2 ^ k) else bit_and set (bit_not w16 (2 ^ k))

-- the bit of a flag
abbrev pub flag_bit : Flag → ℕ
flag_bit Hidden = 0
flag_bit Clickable = 1
flag_bit Checkable = 2
flag_bit Bubble = 3
flag_bit Scrollable = 4

-- the bit of a state
abbrev pub state_bit : State → ℕ
state_bit Checked = 0
state_bit Focused = 1
state_bit FocusKey = 2
state_bit Edited = 3
state_bit Hovered = 4
state_bit Pressed = 5
state_bit Scrolled = 6
state_bit Disabled = 7
state_bit User1 = 12
state_bit User2 = 13
state_bit User3 = 14
state_bit User4 = 15
