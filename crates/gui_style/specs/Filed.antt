-- How `Entries` files what is set: by owner, and again by owner and property. No public clause cites this.
use Rattle.std.specs.Prelude.{◌≡◌, ℕ, ◌+◌, ◌*◌, ◌<◌, ◌≤◌, Bool, length, filter}
use denote.Enum.Declared.{tag_of}
use Rattle.gui_base.specs.contracts.props.Prop as the_prop
use Rattle.gui_base.specs.declared.props.Prop.{Prop}
use Rattle.gui_base.specs.Words.{same_prop}
use Rattle.gui_pool.specs.Lists.{Lists, list_of}
use Rattle.style_defs.specs.declared.Entry.{Entry}

-- the place of a property among all, counted from 0
abbrev pub number_of : Prop → ℕ
number_of prop = tag_of the_prop.the_type prop

-- how far the keys of a property lie from those of the next
abbrev pub spread : ℕ
spread = 7064091

-- how many keys there are
abbrev pub keys : ℕ
keys = 19 * spread

-- the number under which an owner's entries of a property stand
abbrev pub key : ℕ → Prop → ℕ
key owner prop = number_of prop * spread + owner

-- whether an entry is of a property
abbrev pub has_prop : Prop → Entry → Bool
has_prop prop entry = same_prop entry.prop prop

pub record AreFiled (all by_prop : Lists Entry) : Type 0 where
  pub few : length all.lists ≤ spread
  pub all_keys : length by_prop.lists ≡ keys
  -- as many fit in one as in the other
  pub as_spare : by_prop.spare ≡ all.spare
  -- under a key stand the owner's entries of the property, in their order
  pub filed : (owner : ℕ) → owner < length all.lists → (prop : Prop)
      → list_of by_prop (key owner prop) ≡ filter (has_prop prop) (list_of all owner)
