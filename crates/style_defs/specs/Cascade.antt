-- The cascade: which of the values that are set apply to a part of an object, and which of those wins.
use Rattle.std.specs.Prelude.{ℕ, Bool, ◌&&◌, ◌==◌, nat_lt, if◌then◌else◌, bit_and, ℤ}
use Rattle.std.specs.Prelude.{List, [], ◌++◌, map, fold, Some, None, option_map, is_some}
use Rattle.std.specs.declared.option.Option.{Option}
use Rattle.style_defs.specs.Firsts.{first_by}
use Rattle.gui_base.specs.Words.{same_part, same_prop}
use Rattle.gui_base.specs.declared.words.Part.{Part}
use Rattle.gui_base.specs.declared.props.Prop.{Prop}
use Rattle.gui_base.specs.declared.words.Selector.{Selector}
use Rattle.style_defs.specs.declared.Candidate.{Candidate}
use Rattle.style_defs.specs.declared.Entry.{Entry}
use Rattle.style_defs.specs.declared.Setting.{Setting}
use Rattle.style_defs.specs.declared.Use.{Use}

-- a shared style: its number, and what it sets
pub record Style : Type 0 where
  pub number : ℕ
  pub settings : List Setting

-- whether a style has this number
abbrev pub is_numbered : ℕ → Style → Bool
is_numbered number style = style.number == number

-- whether there is a style of this number
abbrev pub has_style : List Style → ℕ → Bool
has_style styles number = is_some (first_by (is_numbered number) styles)

-- what a style sets; nothing where there is none
abbrev pub settings_in : Option Style → List Setting
settings_in None = []
settings_in (Some style) = style.settings

-- what the style of this number sets; nothing where there is none
abbrev pub settings_of : List Style → ℕ → List Setting
settings_of styles number = settings_in (first_by (is_numbered number) styles)

-- whether a setting is for this property
abbrev pub sets : Prop → Setting → Bool
sets prop setting = same_prop setting.prop prop

-- the value that is set for a property
abbrev pub setting_of : List Setting → Prop → Option ℤ
setting_of settings prop = option_map (λ s. s.value) (first_by (sets prop) settings)

-- whether each state of the first is one of the second
abbrev pub is_subset : ℕ → ℕ → Bool
is_subset some all = bit_and some all == some

-- whether what is set for a selector applies to a part of an object in these states
abbrev pub applies : Part → ℕ → Selector → Bool
applies part states selector = same_part selector.part part && is_subset selector.states states

-- a value that is set for a selector, as it takes part in the cascade
abbrev pub candidate : Selector → ℤ → Candidate
candidate selector value = record { states = selector.states; value = value }

-- what a local entry is set for
abbrev pub selector_of : Entry → Selector
selector_of e = record { part = e.part; states = e.states }

-- what a local entry gives a property of a part, for an object in these states
abbrev pub of_entry : Part → ℕ → Prop → Entry → Option Candidate
of_entry part states prop e =
    if same_prop e.prop prop && applies part states (selector_of e) then
    Some (candidate (selector_of e) e.value)
    else None

-- the same of a style that is used
abbrev pub of_use : List Style → Part → ℕ → Prop → Use → Option Candidate
of_use styles part states prop u =
    if applies part states u.selector then
    option_map (candidate u.selector) (setting_of (settings_of styles u.style) prop)
    else None

-- all of them, each before those that win where the states are equal: what the styles give in the order of
-- adding, and then what is set locally
abbrev pub candidates : List Style → List Use → List Entry → Part → ℕ → Prop → List (Option Candidate)
candidates styles uses locals part states prop =
    map (of_use styles part states prop) uses ++ map (of_entry part states prop) locals

-- of the winner so far and the next candidate: the one with greater states, and of equals the next
abbrev pub stronger : Option Candidate → Option Candidate → Option Candidate
stronger best None = best
stronger None (Some next) = Some next
stronger (Some best) (Some next) = if nat_lt next.states best.states then Some best else Some next

-- the candidate that wins
abbrev pub winner : List Style → List Use → List Entry → Part → ℕ → Prop → Option Candidate
winner styles uses locals part states prop =
    fold stronger None (candidates styles uses locals part states prop)

-- the value that wins
abbrev pub winning : List Style → List Use → List Entry → Part → ℕ → Prop → Option ℤ
winning styles uses locals part states prop =
    option_map (λ c. c.value) (winner styles uses locals part states prop)
