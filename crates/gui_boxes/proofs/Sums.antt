-- Sums of children along an axis.
use Rattle.std.proofs.Common.{◌≡◌, ◌∙◌, refl, sym, ap, ℕ, ◌+◌, ◌-◌, ◌*◌, max, List, [], ◌∷◌, length, map, sum, Bool, true, false, if◌then◌else◌, arith}
use Rattle.std.specs.List.{fold}
use Rattle.std.proofs.lemmas.List.{length-map}
use Rattle.layout_defs.specs.Boxes.{Axis, Box}
use Rattle.layout_defs.specs.Flex.{greatest, spanned}
use Rattle.layout_defs.specs.Solving.{taking_part, reach, flowing}
use Rattle.gui_boxes.specs.declared.measuring.Run.{Run}
use Rattle.gui_boxes.specs.declared.measuring.Run.TheVariants.{Apart, Along, Crossing}
use Rattle.gui_boxes.specs.Totals.{Sum, Kid, joined, with_kids, sum_of, with_gaps}

fold-map : {A B C : Type 0} (op : C → B → C) (f : A → B) (a : C) (xs : List A) → fold (λ s x. op s (f x)) a xs ≡ fold op a (map f xs)
fold-map op f a [] = refl
fold-map op f a (x ∷ xs) = fold-map op f (op a (f x)) xs

module _ {A : Type 0} (box : A → Box) (axis : Box → Axis) (natural : A → ℕ) where
  abbrev read : A → Kid
  read kid = record { box = box kid; axis = axis (box kid); natural = natural kid }

  abbrev sizes : Run → ℕ → List A → ℕ
  sizes run size kids = fold (λ s kid. joined run s (read kid)) size kids

  -- how large they are together that take part
  abbrev pub together : Run → ℕ → List A → ℕ
  together Apart gap kids = greatest (map (λ kid. reach (axis (box kid)).side (axis (box kid)).wanted (natural kid)) kids)
  together Along gap kids = spanned gap (map (λ kid. flowing (box kid) (natural kid)) kids)
  together Crossing gap kids = greatest (map natural kids)

  rows : (run : Run) (size count : ℕ) (kids : List A) →
      with_kids read run (record { size = size; count = count }) kids ≡ record { size = sizes run size (taking_part box kids); count = count + length (taking_part box kids) }
  rows run size count [] = let none : count ≡ count + 0 = omega arith in ap (λ n. record { size = size; count = n }) none
  rows run size count (kid ∷ kids) = step (box kid).hidden (rows run size count kids) (rows run (joined run size (read kid)) (count + 1) kids)
    where
      step : (hidden : Bool) →
          with_kids read run (record { size = size; count = count }) kids ≡ record { size = sizes run size (taking_part box kids); count = count + length (taking_part box kids) } →
          with_kids read run (record { size = joined run size (read kid); count = count + 1 }) kids ≡ record { size = sizes run (joined run size (read kid)) (taking_part box kids); count = count + 1 + length (taking_part box kids) } →
          with_kids read run (if hidden then record { size = size; count = count } else record { size = joined run size (read kid); count = count + 1 }) kids
          ≡ record { size = sizes run size (if hidden then taking_part box kids else kid ∷ taking_part box kids); count = count + length (if hidden then taking_part box kids else kid ∷ taking_part box kids) }
      step true same more = same
      step false same more =
          let one : count + 1 + length (taking_part box kids) ≡ count + length (kid ∷ taking_part box kids) = omega arith in
          more ∙ ap (λ n. record { size = sizes run (joined run size (read kid)) (taking_part box kids); count = n }) one

  sum_is : (run : Run) (kids : List A) → sum_of read run kids ≡ record { size = sizes run 0 (taking_part box kids); count = length (taking_part box kids) }
  sum_is run kids =
      let none : 0 + length (taking_part box kids) ≡ length (taking_part box kids) = omega arith in
      rows run 0 0 kids ∙ ap (λ n. record { size = sizes run 0 (taking_part box kids); count = n }) none

  spans : (run : Run) (gap : ℕ) (kids : List A) → with_gaps run gap (record { size = sizes run 0 kids; count = length kids }) ≡ together run gap kids
  spans Apart gap kids = fold-map max (λ (kid : A). reach (axis (box kid)).side (axis (box kid)).wanted (natural kid)) 0 kids
  spans Along gap kids =
      let counted = map (λ (kid : A). flowing (box kid) (natural kid)) kids in
      ap (λ n. n + gap * (length kids - 1)) (fold-map ◌+◌ (λ (kid : A). flowing (box kid) (natural kid)) 0 kids)
      ∙ ap (λ n. sum counted + gap * (n - 1)) (sym (length-map kids (λ (kid : A). flowing (box kid) (natural kid))))
  spans Crossing gap kids = fold-map max natural 0 kids

  -- what a sum says with the gaps
  pub together_is : (run : Run) (gap : ℕ) (kids : List A) (row : Sum) → row ≡ sum_of read run kids → with_gaps run gap row ≡ together run gap (taking_part box kids)
  together_is run gap kids row is = ap (with_gaps run gap) (is ∙ sum_is run kids) ∙ spans run gap (taking_part box kids)

  -- how many it counts
  pub count_is : (run : Run) (kids : List A) (row : Sum) → row ≡ sum_of read run kids → row.count ≡ length (taking_part box kids)
  count_is run kids row is = ap (λ (s : Sum). s.count) (is ∙ sum_is run kids)
