-- What calls of `Styles` leave.
use Rattle.gui_store.proofs.Common.{None, Some, Test, Refusal, first-then, first-some, ◌≡◌, ◌∙◌, sym, subst, ℕ, ◌+◌, Bool, cond, not, Entries, nat_tests, List, [], ◌∷◌, length, slice_set, slice_index_or, Ok, Err, inl, inr, refl, arith, get_or_past, OnOk, OnErr, Handle, first_of, result_of, numbers, Answer, Styles, Styling, entries_in, uses_in, IsStyled, IsAnswered, full_for, of_entries, one_unless, set_past, forgotten, all_forgotten}
use Rattle.std.specs.List.{sum_by}
use Rattle.gui_base.specs.Refusing.{Unknown}
use Rattle.gui_style.specs.Styles.{full_answer}
use Rattle.gui_base.specs.declared.refusal.Refusal.TheVariants as refusal
use Rattle.std.proofs.lemmas.Bool.{cases_lt}
use Rattle.style_defs.proofs.Counting.{lengths-set}
use Rattle.style_defs.specs.Book as book

-- a call that answers as the tests and the pools do
pub answered : (s t u : Styles) (styling : Styling) (r a : Answer) → r ≡ a → OnOk r (t ≡ u) → OnErr r (t ≡ s) →
    a ≡ result_of (first_of styling.tests (full_for s styling.need)) → (a ≡ Ok tt → IsStyled s u styling) → IsAnswered s t styling r
answered s t u styling (Ok v) a is ok err answer styled =
    record { answer_is = is ∙ answer; done = subst (λ x. IsStyled s x styling) (sym ok) (styled (sym is)); refused = tt }
answered s t u styling (Err x) a is ok err answer styled = record { answer_is = is ∙ answer; done = tt; refused = err }

-- a call for a property of a style, whose font is there
pub prop-told : (s : Styles) (has set : Bool) (fonts : List Test) → first_of fonts None ≡ None →
    cond (not has) (Err refusal.Unknown) (cond set (Ok tt) (full_answer s.spare_entries Entries))
    ≡ result_of (first_of ((not has, Unknown) ∷ fonts) (full_for s (of_entries (one_unless set))))
prop-told s has set fonts e = rw (first-then fonts (full_for s (of_entries (one_unless set))) e) (grind (arith, nat_tests))

-- a call for a local property, likewise
pub local-told : (s : Styles) (set : Bool) (fonts : List Test) → first_of fonts None ≡ None →
    cond set (Ok tt) (full_answer s.spare_entries Entries) ≡ result_of (first_of fonts (full_for s (of_entries (one_unless set))))
local-told s set fonts e = rw (first-then fonts (full_for s (of_entries (one_unless set))) e) (grind (arith, nat_tests))

-- a change that one of its tests refuses
pub refused : (s : Styles) (styling : Styling) (why : Refusal) → first_of styling.tests None ≡ Some why → IsAnswered s s styling (Err why)
refused s styling why e = record { answer_is = rw (first-some styling.tests (full_for s styling.need) why e) refl; done = tt; refused = refl }

-- an object's list is emptied
cleared : {A : Type 0} (lists : List (List A)) (h : ℕ) → sum_by length (slice_set lists h []) + length (slice_index_or lists h []) ≡ sum_by length lists
cleared lists h = elim (cases_lt h (length lists)) [
  | inl within ↦ omega (arith, lengths-set lists h [] within)
  | inr past ↦ rw (set_past lists h [] past, get_or_past lists h [] past) (omega arith)
]

-- what these objects had is spare
pub record Forgotten (old new : Styles) (handles : List ℕ) : Type 0 where
  pub book : new.book ≡ book.all_forgotten old.book handles
  pub styles : new.spare_styles ≡ old.spare_styles
  pub entries : new.spare_entries + entries_in new.book ≡ old.spare_entries + entries_in old.book
  pub uses : new.spare_uses + uses_in new.book ≡ old.spare_uses + uses_in old.book

pub forgets : (hs : List Handle) (s : Styles) → Forgotten s (all_forgotten s hs) (numbers hs)
forgets [] s = record { book = refl; styles = refl; entries = refl; uses = refl }
forgets (h ∷ hs) s =
    let rest = forgets hs (forgotten s h.0) in record {
      book = rest.book;
      styles = rest.styles;
      entries = omega (arith, rest.entries, cleared s.book.locals h.0);
      uses = omega (arith, rest.uses, cleared s.book.uses h.0);
    }
