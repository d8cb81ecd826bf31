-- How `Styles` keeps its lists. No public clause cites this module.
use Rattle.std.specs.Prelude.{◌≡◌, ℕ, ◌+◌, if◌then◌else◌, List, [], ◌∷◌, map, length, take}
use Rattle.std.specs.Prelude.{Option, None, is_some}
use Rattle.gui_pool.specs.Lists.{Lists, list_of}
use Rattle.gui_pool.specs.Table.{Table, value_at}
use Rattle.style_defs.specs.declared.Entry.{Entry}
use Rattle.style_defs.specs.declared.Setting.{Setting}
use Rattle.style_defs.specs.declared.Use.{Use}
use Rattle.style_defs.specs.Cascade.{Style}
use Rattle.gui_style.specs.Styles.{Styles}

-- the owner of what style 0 sets
abbrev pub first_style : ℕ
first_style = 75536

abbrev pub setting_in : Entry → Setting
setting_in e = record { prop = e.prop; value = e.value }

-- the style of a number
abbrev pub style_in : Lists Entry → ℕ → Style
style_in entries number =
    record { number = number; settings = map setting_in (list_of entries (first_style + number)) }

-- the keys from a number on that have a value
abbrev pub keys_from : {T : Type 0} → ℕ → List (Option T) → List ℕ
keys_from key [] = []
keys_from key (value ∷ values) =
    if is_some value then key ∷ keys_from (key + 1) values else keys_from (key + 1) values

-- the value that a contract sees
abbrev pub styles_of : Table (Unit {0}) → Lists Entry → Lists Use → Styles
styles_of made entries uses = record {
  book = record {
    styles = map (style_in entries) (keys_from 0 made.values);
    locals = take (length uses.lists) entries.lists;
    uses = uses.lists;
  };
  spare_styles = made.spare;
  spare_entries = entries.spare;
  spare_uses = uses.spare;
}

pub record AreStyles (made : Table (Unit {0})) (entries : Lists Entry) (uses : Lists Use) : Type 0 where
  pub numbers : length made.values ≡ 65536
  pub owners : length entries.lists ≡ first_style + 65536
  pub handles : length uses.lists ≡ 65536
  -- a style that is not there sets nothing
  pub unmade : (number : ℕ) → value_at made number ≡ None → list_of entries (first_style + number) ≡ []
