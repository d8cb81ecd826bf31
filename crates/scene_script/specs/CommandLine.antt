-- The words of the command line as they are split: three values, and a list of what follows them.
use Rattle.std.specs.Prelude.{◌≡◌, ℕ, Bool, true, false, ◌==◌, List, [], ◌∷◌, drop, codes, slice_get, unwrap_or}
use Rattle.std.specs.Prelude.{Some, None, option_map}
use Rattle.std.specs.declared.option.Option.{Option}
use Rattle.clap.specs.Matches.{first_value, matched_of, raw_values}
use Rattle.clap.specs.Simple.{App, new_rule, new_shape}
use Rattle.clap.specs.Walk.{Rule}
use Rattle.clap.specs.declared.builder.action.ArgAction.TheVariants.{Append}
use Rattle.clap.specs.declared.parser.matches.Found.{Found}
use Rattle.gui_base.specs.Limits.{Bounds}
use Rattle.run_defs.specs.Words.{number_within, setting_of, make_of, block_of, with_width, with_further}
use Rattle.scene_script.specs.declared.limits.Key.{Key}
use Rattle.scene_script.specs.declared.limits.Key.TheVariants.{Slots, Make, Blocks}

-- whether a word begins as an option does
abbrev pub begins_with_dash : List ℕ → Bool
begins_with_dash [] = false
begins_with_dash (b ∷ bs) = b == 45

-- the command of the program: three values, and a list of what follows them
abbrev pub needed : List ℕ → Rule
needed name = record (new_rule name) { required = true }

abbrev pub further_rule : Rule
further_rule = record (new_rule (codes "further")) { action = Some Append }

abbrev pub scene_app : App
scene_app = record {
  top = record (new_shape (codes "scene")) {
    rules = needed (codes "width") ∷ needed (codes "height") ∷ needed (codes "lines") ∷ further_rule ∷ [];
    no_binary_name = true;
    disable_help_flag = true;
  };
  subs = [];
}

-- the first three words by their names, and the words after them
pub record Splits (words : List (List ℕ)) (found : Found) : Type 0 where
  pub width : first_value found (codes "width") ≡ slice_get words 0
  pub height : first_value found (codes "height") ≡ slice_get words 1
  pub lines : first_value found (codes "lines") ≡ slice_get words 2
  pub further : unwrap_or (option_map raw_values (matched_of found (codes "further"))) [] ≡ drop 3 words

-- the limits of three words and of what follows them
abbrev pub limits_by : Option (List ℕ) → Option (List ℕ) → Option (List ℕ) → List (List ℕ) → Option Bounds
limits_by None height lines words = None
limits_by (Some width) None lines words = None
limits_by (Some width) (Some height) None words = None
limits_by (Some width) (Some height) (Some lines) words =
    with_further (with_width (number_within 1 1024 width) height lines) words

-- what a word sets of a pool, of the made script, or of the blocks
abbrev pub setting_by : Key → List ℕ → Option (List ℕ)
setting_by (Slots pool) word = setting_of pool word
setting_by Make word = make_of word
setting_by Blocks word = block_of word
