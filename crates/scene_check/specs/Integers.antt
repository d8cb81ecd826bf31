-- The integers of what is read of JSON fit 64 bits.
use Rattle.std.specs.Prelude.{◌≡◌, ◌<◌, ◌^◌, ℕ, ℤ, Bool, true, ◌&&◌, nat_lt, List, Some}
use Rattle.serde_json.specs.Data.{Num, unsigned, negative, float, Data, null, boolean, number, string, array, object}
use Rattle.serde_json.specs.Data.{Items, no_items, item, Members, no_members, member}
use Rattle.serde_json.specs.Find.{get}
use Rattle.serde_json.specs.Read.{read}
use Rattle.scene_json.specs.Words.{integer}
use lib.Signed.{mag}

abbrev pub is_short : Num → Bool
is_short (unsigned n) = true
is_short (negative z) = nat_lt (mag z) (2 ^ 63)
is_short (float x) = true

-- whether no negative integer in a value has more bits
abbrev mutual
  pub are_short : Data → Bool
  are_short null = true
  are_short (boolean b) = true
  are_short (number n) = is_short n
  are_short (string s) = true
  are_short (array ds) = items_short ds
  are_short (object ms) = members_short ms

  pub items_short : Items → Bool
  items_short no_items = true
  items_short (item d ds) = are_short d && items_short ds

  pub members_short : Members → Bool
  members_short no_members = true
  members_short (member key d ms) = are_short d && members_short ms

pub record IntegersAreShort : Type 0 where
  pub read : (bytes : List ℕ) (d : Data) → read bytes ≡ Some d → are_short d ≡ true
  pub below : (key : List ℕ) (d below : Data) →
      are_short d ≡ true → get key d ≡ Some below → are_short below ≡ true
  pub integer : (d : Data) (n : ℤ) → are_short d ≡ true → integer d ≡ Some n → mag n < 2 ^ 63
