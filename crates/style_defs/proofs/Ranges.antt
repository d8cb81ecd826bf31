-- Where each value that is set is one of its property's, so is the value that wins.
use Rattle.std.proofs.Common.{◌≡◌, ℕ, ℤ, Bool, true, ltb, List, [], ◌∷◌, map, fold, cond, Option, Some, None, option_map, unwrap_or, inl, inr, subst, rules}
use Rattle.std.specs.Option.{IfSome, option_or}
use Rattle.std.specs.List.{All}
use Rattle.std.proofs.lemmas.Bool.{cases_Bool}
use Rattle.std.proofs.lemmas.List.Elements.{All-nil, All-cons, All-head, All-tail, All-append, All-map, All-weaker}
use denote.Enum.Bare.{same_true}
use Rattle.gui_base.specs.declared.words.Kind.{Kind}
use Rattle.gui_base.specs.contracts.props.Prop.{the_type}
use Rattle.gui_base.specs.declared.words.Part.{Part}
use Rattle.gui_base.specs.declared.words.Part.TheVariants.{Main, Scrollbar}
use Rattle.gui_base.specs.declared.props.Prop.{Prop}
use Rattle.gui_base.specs.declared.words.Selector.{Selector}
use Rattle.style_defs.specs.declared.Candidate.{Candidate}
use Rattle.style_defs.specs.declared.Entry.{Entry}
use Rattle.style_defs.specs.declared.Setting.{Setting}
use Rattle.style_defs.specs.declared.Use.{Use}
use Rattle.gui_base.specs.Words.{same_prop}
use Rattle.style_defs.specs.Cascade.{Style, is_numbered, settings_of, setting_of, selector_of, applies, candidate, of_entry, of_use, stronger, candidates, winner, winning}
use Rattle.style_defs.specs.Kinds.{entry_in, kind_rows, part_rows, kind_value, default_in}
use Rattle.gui_base.specs.Props.{default_of, is_value, inherits}
use Rattle.style_defs.specs.Value.{Styled, won, inherited, given, value_on}
use Rattle.style_defs.specs.InOrder.{IsEntry}
use Rattle.style_defs.specs.Laws.{ValuesInRange}

all_of : {A : Type 0} (P : A → Type 0) → ((x : A) → P x) → (xs : List A) → All P xs
all_of P each [] = All-nil P
all_of P each (x ∷ xs) = All-cons P x xs (each x) (all_of P each xs)

-- Where each value that is set passes a test, and each default does, so does the value that wins.
module _ (test : Prop → ℤ → Bool) (default_fits : (p : Prop) → test p (default_of p) ≡ true) (kind_fits : (kind : Kind) (part : Part) → All (λ (e : Entry). test e.prop e.value ≡ true) (map entry_in (part_rows kind part))) where
  abbrev FitsSetting : Setting → Type 0
  FitsSetting setting = test setting.prop setting.value ≡ true

  abbrev FitsEntry : Entry → Type 0
  FitsEntry entry = test entry.prop entry.value ≡ true

  abbrev FitsStyle : Style → Type 0
  FitsStyle style = All FitsSetting style.settings

  abbrev FitsStyled : Styled → Type 0
  FitsStyled object = All FitsEntry object.locals

  settings_fit : (styles : List Style) (number : ℕ) → All FitsStyle styles → All FitsSetting (settings_of styles number)
  settings_fit [] number all = All-nil FitsSetting
  settings_fit (style ∷ styles) number all =
      elim (cases_Bool (is_numbered number style)) [
        | inl is ↦ rw is (All-head FitsStyle style styles all)
        | inr isnt ↦ rw isnt (settings_fit styles number (All-tail FitsStyle style styles all))
      ]

  module _ (prop : Prop) where
    abbrev Fits : Option ℤ → Type 0
    Fits o = IfSome o (λ v. test prop v ≡ true)

    abbrev FitsAs : Option Candidate → Type 0
    FitsAs o = IfSome o (λ c. test prop c.value ≡ true)

    stronger_fits : (o p : Option Candidate) → FitsAs o → FitsAs p → FitsAs (stronger o p)
    stronger_fits o None a b = a
    stronger_fits None (Some d) a b = b
    stronger_fits (Some c) (Some d) a b =
        elim (cases_Bool (ltb d.states c.states)) [
          | inl less ↦ rw less a
          | inr more ↦ rw more b
        ]

    best_fits : (os : List (Option Candidate)) (start : Option Candidate) → FitsAs start → All FitsAs os → FitsAs (fold stronger start os)
    best_fits [] start s all = s
    best_fits (o ∷ os) start s all = best_fits os (stronger start o) (stronger_fits start o s (All-head FitsAs o os all)) (All-tail FitsAs o os all)

    same_fits : (other : Prop) (value : ℤ) → test other value ≡ true → same_prop other prop ≡ true → test prop value ≡ true
    same_fits other value is same = subst (λ p. test p value ≡ true) (same_true the_type tt other prop same) is

    setting_fits : (settings : List Setting) → All FitsSetting settings → Fits (setting_of settings prop)
    setting_fits [] all = tt
    setting_fits (s ∷ settings) all =
        elim (cases_Bool (same_prop s.prop prop)) [
          | inl same ↦ rw same (same_fits s.prop s.value (All-head FitsSetting s settings all) same)
          | inr other ↦ rw other (setting_fits settings (All-tail FitsSetting s settings all))
        ]

    as_candidate : (selector : Selector) (o : Option ℤ) → Fits o → FitsAs (option_map (candidate selector) o)
    as_candidate selector None is = tt
    as_candidate selector (Some v) is = is

    of_candidate : (o : Option Candidate) → FitsAs o → Fits (option_map (λ c. c.value) o)
    of_candidate None is = tt
    of_candidate (Some c) is = is

    use_fits : (styles : List Style) → All FitsStyle styles → (part : Part) (states : ℕ) (u : Use) → FitsAs (of_use styles part states prop u)
    use_fits styles shared part states u =
        elim (cases_Bool (applies part states u.selector)) [
          | inl on ↦ rw on (as_candidate u.selector (setting_of (settings_of styles u.style) prop) (setting_fits (settings_of styles u.style) (settings_fit styles u.style shared)))
          | inr off ↦ rw off tt
        ]

    module _ (part : Part) (states : ℕ) where
      entry_fits : (e : Entry) → FitsEntry e → FitsAs (of_entry part states prop e)
      entry_fits e is =
          elim (cases_Bool (same_prop e.prop prop)) [
            | inl same ↦
                elim (cases_Bool (applies part states (selector_of e))) [
                  | inl on ↦ rw (same, on) (same_fits e.prop e.value is same)
                  | inr off ↦ rw (same, off) tt
                ]
            | inr other ↦ rw other tt
          ]

    -- what each of them gives
    wins : (styles : List Style) (uses : List Use) (locals : List Entry) (part : Part) (states : ℕ) → All FitsStyle styles → All FitsEntry locals → Fits (winning styles uses locals part states prop)
    wins styles uses locals part states shared own =
        let of_uses = all_of (λ u. FitsAs (of_use styles part states prop u)) (use_fits styles shared part states) uses in
        let of_locals = All-weaker FitsEntry (λ e. FitsAs (of_entry part states prop e)) (entry_fits part states) locals own in
        of_candidate (winner styles uses locals part states prop)
        (best_fits (candidates styles uses locals part states prop) None tt
        (All-append FitsAs (map (of_use styles part states prop) uses) (map (of_entry part states prop) locals)
        (All-map FitsAs (of_use styles part states prop) uses of_uses) (All-map FitsAs (of_entry part states prop) locals of_locals)))

    or_fits : (o p : Option ℤ) → Fits o → Fits p → Fits (option_or o p)
    or_fits None p a b = b
    or_fits (Some v) p a b = a

    else_fits : (o : Option ℤ) (d : ℤ) → Fits o → test prop d ≡ true → test prop (unwrap_or o d) ≡ true
    else_fits None d a b = b
    else_fits (Some v) d a b = a

    module _ (styles : List Style) (shared : All FitsStyle styles) where
      won_fits : (object : Styled) (part : Part) → All FitsEntry object.locals → Fits (won styles object part prop)
      won_fits object part own = wins styles object.uses object.locals part object.states shared own

      inherited_fits : (objects : List Styled) → All FitsStyled objects → Fits (inherited styles objects prop)
      inherited_fits [] all = tt
      inherited_fits (object ∷ above) all =
          or_fits (won styles object Main prop) (inherited styles above prop) (won_fits object Main (All-head FitsStyled object above all)) (inherited_fits above (All-tail FitsStyled object above all))

      pub value_fits : (objects : List Styled) (part : Part) → All FitsStyled objects → test prop (value_on styles objects part prop) ≡ true
      value_fits [] part all = default_fits prop
      value_fits (object ∷ above) part all =
          let own = wins [] [] (map entry_in (part_rows object.kind part)) part object.states (All-nil FitsStyle) (kind_fits object.kind part) in
          let from_above : Fits (cond (inherits prop) (inherited styles (object ∷ above) prop) None) =
          elim (cases_Bool (inherits prop)) [
            | inl is ↦ rw is (inherited_fits (object ∷ above) all)
            | inr isnt ↦ rw isnt tt
          ]
          in
          else_fits (given styles object above part prop) (default_in object.kind part object.states prop)
          (or_fits (won styles object part prop) (cond (inherits prop) (inherited styles (object ∷ above) prop) None) (won_fits object part (All-head FitsStyled object above all)) from_above)
          (else_fits (kind_value object.kind part object.states prop) (default_of prop) own (default_fits prop))

rows_in_range : (kind : Kind) → All IsEntry (map entry_in (kind_rows kind))
rows_in_range kind = search rules

kinds_in_range : (kind : Kind) (part : Part) → All IsEntry (map entry_in (part_rows kind part))
kinds_in_range kind Scrollbar = search rules
kinds_in_range kind part = rows_in_range kind

defaults_in_range : (p : Prop) → is_value p (default_of p) ≡ true
defaults_in_range p = search rules

pub values_in_range : ValuesInRange
values_in_range styles objects part prop is = value_fits is_value defaults_in_range kinds_in_range prop styles is.settings objects part is.locals
