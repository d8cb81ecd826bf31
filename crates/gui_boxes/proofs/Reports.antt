-- Objects that are told one after another.
use Rattle.std.proofs.Common.{◌≡◌, ◌∙◌, ◌+◌, refl, sym, ap, subst, ℕ, Bool, true, false, eqb, inl, inr, List, [], arith}
use Rattle.std.proofs.lemmas.Bool.{cases_Bool, eqb-true, false≢true}
use Rattle.gui_base.specs.Forest.{Forest, has}
use Rattle.gui_base.specs.declared.Handle.{Handle}
use Rattle.gui_boxes.specs.Layouts.{ButTold}
use Rattle.gui_boxes.specs.Settled.{Layout}
use Rattle.gui_boxes.specs.Standing.{reported_at}
use Rattle.gui_boxes.specs.Telling.{IsTold, IsUntold, ListsLeft, Tells}
use Rattle.gui_boxes.specs.Touched.{IsAtRest, is_touched, standing_at}

-- where an object stands is the same
pub standing-told : (old new : Layout) (k : ℕ) → ButTold old new → standing_at new k ≡ standing_at old k
standing-told old new k but = ap (λ (l : Layout). standing_at l k) but

-- what was at rest is so still, where nothing else of it is another
pub rests-apart : (old new : Layout) (k : ℕ) → ButTold old new → is_touched new k ≡ is_touched old k → reported_at new.reported k ≡ reported_at old.reported k → IsAtRest old k → IsAtRest new k
rests-apart old new k but touched reported rests = record {
  untouched = touched ∙ rests.untouched;
  told = reported ∙ (rests.told ∙ sym (standing-told old new k but));
}

pub rests-still : (old new : Layout) (was is : List Handle) (k : ℕ) → ButTold old new → IsUntold old new was is k → IsAtRest old k → IsAtRest new k
rests-still old new was is k but later rests = rests-apart old new k but later.touched later.reported rests

module _ (f : Forest ℕ) (m : ℕ → Bool) where
  pub tells-none : (l : Layout) (hs : List Handle) → Tells f m l l hs hs
  tells-none l hs = record {
    rest = refl;
    each = λ k. inl (record { touched = refl; reported = refl; listed = refl });
    there = λ k on off. absurd (false≢true (sym off ∙ on));
  }

  -- one object is told
  pub tells-one : (old new : Layout) (was is : List Handle) (h : ℕ) → has f h ≡ true → IsTold m old new was is h → ((k : ℕ) → eqb h k ≡ false → IsUntold old new was is k) → ButTold old new → Tells f m old new was is
  tells-one old new was is h there own others but = record {
    rest = but;
    each = λ k. elim (cases_Bool (eqb h k)) [
      | inl same ↦ inr (subst (λ j. IsTold m old new was is j) (eqb-true h k same) own)
      | inr other ↦ inl (others k other)
    ];
    there = λ k on off. elim (cases_Bool (eqb h k)) [
      | inl same ↦ subst (λ j. has f j ≡ true) (eqb-true h k same) there
      | inr other ↦ absurd (false≢true (sym off ∙ ((others k other).touched ∙ on)))
    ];
  }

  -- what is told last of it is as at first, and so is where it stands
  same-before : (a b : Layout) (us vs ws : List Handle) (c : Layout) (k : ℕ) → ButTold a b → IsUntold a b us vs k → IsTold m b c vs ws k → IsTold m a c us ws k
  same-before a b us vs ws c k but first later =
      let more = later.more in
      let once = later.once in
      record {
        touched = sym first.touched ∙ later.touched;
        rests = later.rests;
        more = more;
        listed = later.listed ∙ ap (λ n. n + more) first.listed;
        once = once;
        none = λ off. let was = later.none off in record { unmarked = was.unmarked; told = sym first.reported ∙ (was.told ∙ standing-told a b k but) };
        only = λ same. later.only (record { unmarked = same.unmarked; told = first.reported ∙ (same.told ∙ sym (standing-told a b k but)) });
      }

  still-told : (a b : Layout) (us vs ws : List Handle) (c : Layout) (k : ℕ) → ButTold b c → IsTold m a b us vs k → IsUntold b c vs ws k → IsTold m a c us ws k
  still-told a b us vs ws c k but first later = record {
    touched = first.touched;
    rests = rests-still b c vs ws k but later first.rests;
    more = first.more;
    listed = later.listed ∙ first.listed;
    once = first.once;
    none = first.none;
    only = first.only;
  }

  pub tells-then : (a b c : Layout) (us vs ws : List Handle) → Tells f m a b us vs → Tells f m b c vs ws → Tells f m a c us ws
  tells-then a b c us vs ws first later = record {
    rest = later.rest ∙ ap (λ (l : Layout). record l { touched = c.touched; reported = c.reported }) first.rest;
    each = λ k. elim (first.each k) [
      | inl before ↦ elim (later.each k) [
        | inl after ↦ inl (record { touched = after.touched ∙ before.touched; reported = after.reported ∙ before.reported; listed = after.listed ∙ before.listed })
        | inr after ↦ inr (same-before a b us vs ws c k first.rest before after)
      ]
      | inr before ↦ elim (later.each k) [
        | inl after ↦ inr (still-told a b us vs ws c k later.rest before after)
        | inr after ↦ absurd (false≢true (sym before.rests.untouched ∙ after.touched))
      ]
    ];
    there = λ k on off. elim (cases_Bool (is_touched b k)) [
      | inl still ↦ later.there k still off
      | inr rested ↦ first.there k on rested
    ];
  }

  -- what is not touched is not told
  pub calm-still : (old new : Layout) (was is : List Handle) (k : ℕ) → Tells f m old new was is → is_touched old k ≡ false → is_touched new k ≡ false
  calm-still old new was is k tells calm = elim (tells.each k) [
    | inl same ↦ same.touched ∙ calm
    | inr told ↦ told.rests.untouched
  ]

  -- what is listed is so once still, and none that is touched
  pub left-then : (old new : Layout) (was is : List Handle) → ListsLeft f (is_touched old) was → Tells f m old new was is → ListsLeft f (is_touched new) is
  left-then old new was is left tells = record {
    once = λ k. elim (tells.each k) [
      | inl same ↦ let a = left.once k in let b = same.listed in omega arith
      | inr told ↦ let a = left.left k told.touched in let b = told.listed in let c = told.once in omega arith
    ];
    there = λ k some. elim (tells.each k) [
      | inl same ↦ left.there k (let b = same.listed in omega arith)
      | inr told ↦ tells.there k told.touched told.rests.untouched
    ];
    left = λ k on. elim (tells.each k) [
      | inl same ↦ same.listed ∙ left.left k (sym same.touched ∙ on)
      | inr told ↦ absurd (false≢true (sym told.rests.untouched ∙ on))
    ];
  }

-- nothing is listed yet
pub left-none : (f : Forest ℕ) (t : ℕ → Bool) → ListsLeft f t []
left-none f t = record { once = λ k. omega arith; there = λ k some. absurd (omega arith); left = λ k on. refl }
