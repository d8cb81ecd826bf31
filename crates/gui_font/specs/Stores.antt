-- How images are kept. No public clause cites this module.
use Rattle.std.specs.Prelude.{◌≡◌, ◌<◌, ◌≤◌, ◌^◌, Bool, ℕ, ◌+◌, ◌==◌, List, [], ◌∷◌, ◌++◌, length, take, drop}
use Rattle.std.specs.Prelude.{position, slice_range}
use Rattle.gui_pool.specs.Table.{Table, value_at}
use Rattle.text_defs.specs.Images.{Image, image_bytes}
use Rattle.gui_font.specs.declared.images.ImageSlot.{ImageSlot}

-- how many bytes the rows of an image take
abbrev pub need_of : ImageSlot → ℕ
need_of s = image_bytes s.format s.width s.height

abbrev pub image_in : List ℕ → ImageSlot → Image
image_in bytes s = record {
  name = s.name;
  format = s.format;
  width = s.width;
  height = s.height;
  bytes = slice_range bytes s.start (s.start + s.given);
}

abbrev pub is_image : ℕ → ImageSlot → Bool
is_image name s = s.name == name

-- bytes with others put over them
abbrev pub written : List ℕ → ℕ → List ℕ → List ℕ
written bytes at row = take at bytes ++ row ++ drop (at + length row) bytes

-- the images lie one behind the other, from a byte to another
abbrev pub AreLaid : ℕ → List ImageSlot → ℕ → Type 0
AreLaid at [] «end» = at ≡ «end»
AreLaid at (s ∷ ss) «end» = (s.start ≡ at) × (s.given ≤ need_of s) × AreLaid (at + need_of s) ss «end»

-- the place of each image
pub record IsPlaced (index : Table ℕ) (slots : List ImageSlot) : Type 0 where
  pub keys : length index.values ≡ 65536
  pub places : (name : ℕ) → name < 65536 → value_at index name ≡ position (is_image name) slots

-- there is room for each image that may come
pub record AreStored (index : Table ℕ) (slots : List ImageSlot) (bytes : List ℕ) (room : ℕ) : Type 0 where
  pub laid : AreLaid 0 slots (length bytes)
  pub placed : IsPlaced index slots
  pub fits : length slots + index.spare ≤ room
  pub few : length slots + index.spare < 2 ^ 32
