-- The winner of a cascade, said without a way to find it, and what follows for values.
use Rattle.std.specs.Prelude.{◌≡◌, ◌<◌, ◌≤◌, ◌↔◌, ◌⊎◌, ℕ, ℤ, true, false, Some, None, List, [], ◌∷◌, ◌++◌}
use Rattle.std.specs.declared.option.Option.{Option}
use Rattle.std.specs.List.{All}
use Rattle.std.specs.Option.{ForSome}
use Rattle.style_defs.specs.Cascade.{Style, of_entry, of_use, winner}
use Rattle.gui_base.specs.Props.{is_value, inherits}
use Rattle.style_defs.specs.InOrder.{IsEntry, IsStyle}
use Rattle.style_defs.specs.Value.{Styled, won, inherited, value_on}
use Rattle.gui_base.specs.declared.words.Part.{Part}
use Rattle.gui_base.specs.declared.props.Prop.{Prop}
use Rattle.style_defs.specs.declared.Candidate.{Candidate}
use Rattle.gui_base.specs.declared.words.Part.TheVariants.{Main}
use Rattle.style_defs.specs.declared.Entry.{Entry}
use Rattle.style_defs.specs.declared.Use.{Use}

-- nothing is given, or for states that are not greater
abbrev pub IsAtMost : ℕ → Option Candidate → Type 0
IsAtMost states given = ForSome given (λ c. c.states ≤ states)

-- nothing is given, or for states that are less
abbrev pub IsBelow : ℕ → Option Candidate → Type 0
IsBelow states given = ForSome given (λ c. c.states < states)

-- one of the xs gives the candidate; none before it gives greater states, and all behind it give less
pub record GivesGreatest {A : Type 0} (gives : A → Option Candidate) (xs : List A) (c : Candidate) :
    Type 0 where
  pub front : List A
  pub one : A
  pub back : List A
  pub whole : xs ≡ front ++ one ∷ back
  pub given : gives one ≡ Some c
  pub before : All (λ x. IsAtMost c.states (gives x)) front
  pub behind : All (λ x. IsBelow c.states (gives x)) back

module _
    (styles : List Style) (uses : List Use) (locals : List Entry) (part : Part) (states : ℕ) (prop : Prop)
  where
    abbrev pub use_gives : Use → Option Candidate
    use_gives u = of_use styles part states prop u

    abbrev pub entry_gives : Entry → Option Candidate
    entry_gives e = of_entry part states prop e

    -- a local entry wins: no style that is used gives greater states
    pub record IsLocalWinner (c : Candidate) : Type 0 where
      pub local : GivesGreatest entry_gives locals c
      pub others : All (λ u. IsAtMost c.states (use_gives u)) uses

    -- a style that is used wins: all local entries give less
    pub record IsSharedWinner (c : Candidate) : Type 0 where
      pub shared : GivesGreatest use_gives uses c
      pub others : All (λ e. IsBelow c.states (entry_gives e)) locals

    abbrev pub IsWinner : Candidate → Type 0
    IsWinner c = IsLocalWinner c ⊎ IsSharedWinner c

    -- no style that is used gives anything, and no local entry does
    pub record NoneApplies : Type 0 where
      pub none_shared : All (λ u. use_gives u ≡ None) uses
      pub none_local : All (λ e. entry_gives e ≡ None) locals

abbrev pub WinnerIsGreatest : Type 0
WinnerIsGreatest =
    (styles : List Style) (uses : List Use) (locals : List Entry) (part : Part) (states : ℕ) (prop : Prop)
    (c : Candidate) →
    (winner styles uses locals part states prop ≡ Some c) ↔ IsWinner styles uses locals part states prop c

abbrev pub NoneWinsOfNone : Type 0
NoneWinsOfNone =
    (styles : List Style) (uses : List Use) (locals : List Entry) (part : Part) (states : ℕ) (prop : Prop) →
    (winner styles uses locals part states prop ≡ None) ↔ NoneApplies styles uses locals part states prop

-- what wins for a part is its value
abbrev pub SetWins : Type 0
SetWins =
    (styles : List Style) (object : Styled) (above : List Styled) (part : Part) (prop : Prop) (value : ℤ) →
    won styles object part prop ≡ Some value → value_on styles (object ∷ above) part prop ≡ value

-- a property that is not inherited has the same value whatever stands above
abbrev pub NothingAbove : Type 0
NothingAbove =
    (styles : List Style) (object : Styled) (above : List Styled) (part : Part) (prop : Prop) →
    inherits prop ≡ false →
    value_on styles (object ∷ above) part prop ≡ value_on styles (object ∷ []) part prop

-- one that is inherited, and not set at the object, has what comes from above
abbrev pub FromAbove : Type 0
FromAbove =
    (styles : List Style) (object : Styled) (above : List Styled) (part : Part) (prop : Prop) (value : ℤ) →
    inherits prop ≡ true → won styles object part prop ≡ None → won styles object Main prop ≡ None →
    inherited styles above prop ≡ Some value → value_on styles (object ∷ above) part prop ≡ value

-- each value that is set is one of its property's
pub record AreInRange (styles : List Style) (objects : List Styled) : Type 0 where
  pub settings : All IsStyle styles
  pub locals : All (λ object. All IsEntry object.locals) objects

abbrev pub ValuesInRange : Type 0
ValuesInRange =
    (styles : List Style) (objects : List Styled) (part : Part) (prop : Prop) → AreInRange styles objects →
    is_value prop (value_on styles objects part prop) ≡ true
