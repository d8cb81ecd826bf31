use Rattle.std.proofs.Common.{◌≡◌, ℕ, List, [], ap, ◌∙◌, map, inl, inr, get_or, take, length-take, arith}
use Rattle.std.proofs.lemmas.Bool.{cases_lt}
use Rattle.std.proofs.lemmas.List.{get_or-take, get_or_past}
use Rattle.gui_style.specs.Kept.{style_in}
use Rattle.gui_style.proofs.Keys.{no_keys}
use Rattle.gui_style.proofs.styles.Styles.open.Goals as goal

none_taken : {A : Type 0} (xs : List (List A)) (n h : ℕ) → ((k : ℕ) → get_or xs k [] ≡ []) → get_or (take n xs) h [] ≡ []
none_taken xs n h none =
    elim (cases_lt h n) [
      | inl lt ↦ get_or-take n xs h [] lt ∙ none h
      | inr ge ↦ get_or_past (take n xs) h [] (omega (arith, length-take n xs))
    ]

pub returns-clause-no_styles : goal.returns-clause-no_styles
returns-clause-no_styles c = ap (map (style_in c.in-Ok-open.entries)) (no_keys c.in-Ok.made.values 0 c.in-Ok.ensures.empty)

pub returns-clause-no_locals : goal.returns-clause-no_locals
returns-clause-no_locals c = λ h. none_taken c.in-Ok-open.entries.lists _ h c.in-Ok-open.ensures.empty
