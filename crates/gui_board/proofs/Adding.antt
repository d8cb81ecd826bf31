-- What becomes pending in turn.
use Rattle.std.proofs.Common.{◌≡◌, ◌∙◌, sym, refl, Bool, true, false, ◌||◌, inl, inr, ⊎_elim, List, [], ◌++◌, length-append, arith}
use Rattle.std.specs.Prelude.{ℤ}
use Rattle.std.proofs.lemmas.Bool.Decides.{nat_tests}
use Rattle.std.proofs.lemmas.List.Folds.{list_any-append}
use Rattle.std.proofs.lemmas.List.Sums.{sum_by-append}
use Rattle.gui_base.specs.Area.{Rect, has, size_of}
use Rattle.gui_damage.specs.Adding.{AddsAll, ListsAll, ListsWhole}
use Rattle.gui_damage.specs.Pending.{Pending, IsPending, covered}

pub adds_nothing : (p : Pending) → IsPending p → AddsAll p p []
adds_nothing p is = record {
  panel = refl;
  sound = is;
  keeps = λ x y e. e;
  covers = λ x y e. grind (arith, e);
  whole_stays = λ e. e;
  lists = inl (record { only = λ x y e. grind (arith, nat_tests, e); sizes = omega arith; counts = omega arith });
}

covered-append : (a b : List Rect) (x y : ℤ) → covered (a ++ b) x y ≡ (covered a x y || covered b x y)
covered-append a b x y = list_any-append (λ (area : Rect). has area x y) a b

either : (a b : Bool) {C : Type 0} → (a || b) ≡ true → (a ≡ true → C) → (b ≡ true → C) → C
either true b e f g = f refl
either false b e f g = g e

lists_in_turn : (p q r : Pending) (a b : List Rect) → ListsAll p q a → ListsAll q r b → ListsAll p r (a ++ b)
lists_in_turn p q r a b h k = record {
  only = λ x y e.
      let one = k.only x y e in
      let two : covered q.areas x y ≡ true → (covered p.areas x y || covered a x y) ≡ true = h.only x y in
      grind (arith, nat_tests, one, two, covered-append a b x y);
  sizes = omega (arith, h.sizes, k.sizes, sum_by-append size_of a b);
  counts = omega (arith, h.counts, k.counts, length-append a b);
}

pub adds_in_turn : (p q r : Pending) (a b : List Rect) → AddsAll p q a → AddsAll q r b → AddsAll p r (a ++ b)
adds_in_turn p q r a b h k = record {
  panel = k.panel ∙ h.panel;
  sound = k.sound;
  keeps = λ x y e. k.keeps x y (h.keeps x y e);
  covers = λ x y e. either (covered a x y) (covered b x y) (sym (covered-append a b x y) ∙ e) (λ f. k.keeps x y (h.covers x y f)) (λ f. k.covers x y f);
  whole_stays = λ e. k.whole_stays (h.whole_stays e);
  lists = ⊎_elim
      (λ (x : ListsAll p q a). ⊎_elim
      (λ (y : ListsAll q r b). inl (lists_in_turn p q r a b x y))
      (λ (y : ListsWhole q r b). inr (record { whole = y.whole; full = omega (arith, x.counts, y.full, length-append a b) })) k.lists)
      (λ (x : ListsWhole p q a). inr (record { whole = k.whole_stays x.whole; full = omega (arith, x.full, length-append a b) })) h.lists;
}
