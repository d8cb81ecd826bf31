-- How the pump state follows the machine.
use Rattle.std.proofs.Common.{◌≡◌, ◌∙◌, refl, sym, ap, subst, ℕ, zero, suc, ◌+◌, ◌-◌, ◌≤◌, Bool, true, false, if◌then◌else◌, nat_lt, inl, inr, List, [], ◌∷◌, ◌++◌, fold, sum_by, arith}
use Rattle.std.proofs.lemmas.Bool.Decides.{nat_tests}
use Rattle.std.proofs.lemmas.List.Sums.{fold-append, sum_by_push}
use Rattle.owed_defs.specs.Happenings.{Happening, Debt, Owes, Finished, Faulted, Pumps}
use Rattle.owed_defs.specs.Pumping.{PumpState, Rest, Fresh, Busy, owing, moved, pump_after, pump_state, MayAnswer, MayHappen, Obeys, moves_in}
use Rattle.owed_defs.specs.Progress.{Progress, at_rest, need, StandsAs, Draws, Starts, Arrives, Pumping, Changing, one_if, MovesWithin}
use Rattle.owed_defs.specs.PumpLaws.{IsObeyed, OpensObeyed, ChangeObeys, DoneObeys, FaultObeys, PumpObeys, FewMoves}
use Rattle.owed_defs.specs.declared.Pumped.{Pumped}
use Rattle.owed_defs.specs.declared.Pumped.TheVariants.{Idle, Moved, Waiting, Fault}

true≢false : true ≡ false → ⊥
true≢false h = cc

need_pending : (p : Progress) → p.pending ≡ true → need p ≡ 3
need_pending p h = rw h refl

need_most : (p : Progress) → need p ≤ 3
need_most p = go p.pending p.drawn p.flying where
  go : (a b c : Bool) → (if a then 3 else if b then 2 else if c then 1 else 0) ≤ 3
  go true b c = omega arith
  go false true c = omega arith
  go false false true = omega arith
  go false false false = omega arith

-- a change that owes something
pub stands_owing : (s : PumpState) (old new : Progress) → new.pending ≡ true → new.drawn ≡ old.drawn → new.flying ≡ old.flying → StandsAs s old → StandsAs (owing s) new
stands_owing Rest old new p d f h = rw (p, d ∙ ap (λ (q : Progress). q.drawn) h, f ∙ ap (λ (q : Progress). q.flying) h) refl
stands_owing Fresh old new p d f h = rw (p, d ∙ ap (λ (q : Progress). q.drawn) h, f ∙ ap (λ (q : Progress). q.flying) h) refl
stands_owing (Busy n) old new p d f h = omega (arith, need_pending new p)

pub stands_fault : (new : Progress) → new.pending ≡ true → StandsAs (Busy 3) new
stands_fault new p = omega (arith, need_pending new p)

stands_draws : (s : PumpState) (old new : Progress) → Draws old new → StandsAs s old → StandsAs (moved s) new
stands_draws Rest old new d h = absurd (true≢false (sym d.was ∙ ap (λ (q : Progress). q.pending) h))
stands_draws Fresh old new d h = go new.pending new.drawn new.flying d.drawn where
  go : (a b c : Bool) → b ≡ true → 2 ≤ (if a then 3 else if b then 2 else if c then 1 else 0)
  go true b c e = omega arith
  go false true c e = omega arith
  go false false c e = cc
stands_draws (Busy n) old new d h = go new.pending new.drawn new.flying d.drawn (need_most old) where
  go : (a b c : Bool) → b ≡ true → need old ≤ 3 → n - 1 ≤ (if a then 3 else if b then 2 else if c then 1 else 0)
  go true b c e m = omega arith
  go false true c e m = omega arith
  go false false c e m = cc

stands_starts : (s : PumpState) (old new : Progress) → Starts old new → StandsAs s old → StandsAs (moved s) new
stands_starts Rest old new d h = absurd (true≢false (sym d.was ∙ ap (λ (q : Progress). q.drawn) h))
stands_starts Fresh old new d h = absurd (true≢false (sym d.was ∙ ap (λ (q : Progress). q.drawn) h))
stands_starts (Busy n) old new d h = subst (λ k. n - 1 ≤ k) (sym now) (rest (subst (λ k. n ≤ k) was h)) where
  was : need old ≡ (if old.pending then 3 else 2)
  was = rw d.was refl

  now : need new ≡ (if old.pending then 3 else 1)
  now = rw (d.pending, d.drawn, d.flying) refl

  rest : n ≤ (if old.pending then 3 else 2) → n - 1 ≤ (if old.pending then 3 else 1)
  rest = elim old.pending as (λ b. n ≤ (if b then 3 else 2) → n - 1 ≤ (if b then 3 else 1)) [ true ↦ λ k. omega arith | false ↦ λ k. omega arith ]

stands_arrives : (s : PumpState) (old new : Progress) → Arrives old new → StandsAs s old → StandsAs (moved s) new
stands_arrives Rest old new d h = absurd (true≢false (sym d.was ∙ ap (λ (q : Progress). q.flying) h))
stands_arrives Fresh old new d h = absurd (true≢false (sym d.was ∙ ap (λ (q : Progress). q.flying) h))
stands_arrives (Busy n) old new d h = subst (λ k. n - 1 ≤ k) (sym now) (rest (subst (λ k. n ≤ k) was h)) where
  was : need old ≡ (if old.pending then 3 else if old.drawn then 2 else 1)
  was = rw d.was refl

  now : need new ≡ (if old.pending then 3 else if old.drawn then 2 else 0)
  now = rw (d.pending, d.drawn, d.flying) refl

  go : (a b : Bool) → n ≤ (if a then 3 else if b then 2 else 1) → n - 1 ≤ (if a then 3 else if b then 2 else 0)
  go true b k = omega arith
  go false true k = omega arith
  go false false k = omega arith

  rest : n ≤ (if old.pending then 3 else if old.drawn then 2 else 1) → n - 1 ≤ (if old.pending then 3 else if old.drawn then 2 else 0)
  rest = go old.pending old.drawn

-- each pump keeps the machine standing as the state says
pub stands_pumping : (s : PumpState) (old new : Progress) (answer : Pumped) → Pumping old new answer → StandsAs s old → StandsAs (pump_after s (Pumps answer)) new
stands_pumping s old new Idle p h = p.0 ∙ p.1
stands_pumping s old new Moved p h = elim p [ inl d ↦ stands_draws s old new d h | inr q ↦ elim q [ inl d ↦ stands_starts s old new d h | inr d ↦ stands_arrives s old new d h ] ]
stands_pumping s old new Waiting p h = subst (StandsAs s) (sym p.0) h
stands_pumping s old new Fault p h = stands_fault new p.0

-- a fault comes of a slice that was drawn or in flight
none_faults : (old new : Progress) → old.drawn ≡ false → old.flying ≡ false → Pumping old new Fault → ⊥
none_faults old new none still p = elim p.1 [ inl drawn ↦ true≢false (sym drawn ∙ none) | inr flying ↦ true≢false (sym flying ∙ still) ]

-- and answers as it may
pub may_answer : (s : PumpState) (old new : Progress) (answer : Pumped) → Pumping old new answer → StandsAs s old → MayAnswer s answer
may_answer Rest old new Idle p h = refl
may_answer Rest old new Moved p h = absurd (elim p [
  | inl d ↦ true≢false (sym d.was ∙ ap (λ (q : Progress). q.pending) h)
  | inr q ↦ elim q [ inl d ↦ true≢false (sym d.was ∙ ap (λ (q : Progress). q.drawn) h) | inr d ↦ true≢false (sym d.was ∙ ap (λ (q : Progress). q.flying) h) ]
])
may_answer Rest old new Waiting p h = absurd (true≢false (sym p.1 ∙ ap (λ (q : Progress). q.flying) h))
may_answer Rest old new Fault p h = absurd (none_faults old new (ap (λ (q : Progress). q.drawn) h) (ap (λ (q : Progress). q.flying) h) p)
may_answer Fresh old new Idle p h = absurd (true≢false (ap (λ (q : Progress). q.pending) (sym h ∙ p.1)))
may_answer Fresh old new Moved p h = refl
may_answer Fresh old new Waiting p h = absurd (true≢false (sym p.1 ∙ ap (λ (q : Progress). q.flying) h))
may_answer Fresh old new Fault p h = absurd (none_faults old new (ap (λ (q : Progress). q.drawn) h) (ap (λ (q : Progress). q.flying) h) p)
may_answer (Busy zero) old new Idle p h = tt
may_answer (Busy zero) old new Moved p h = tt
may_answer (Busy zero) old new Waiting p h = tt
may_answer (Busy zero) old new Fault p h = tt
may_answer (Busy (suc n)) old new Idle p h = absurd (omega (arith, h, ap need p.1))
may_answer (Busy (suc n)) old new Moved p h = tt
may_answer (Busy (suc n)) old new Waiting p h = tt
may_answer (Busy (suc n)) old new Fault p h = tt

stands_changed : (s : PumpState) (debt : Debt) (old new : Progress) → Changing debt old new → StandsAs s old → StandsAs (pump_after s (Owes debt)) new
stands_changed s debt old new c h = go (nat_lt 0 debt.count) refl where
  go : (b : Bool) → nat_lt 0 debt.count ≡ b → StandsAs (if b then owing s else s) new
  go true e = stands_owing s old new (c.some (grind (arith, nat_tests))) c.drawn c.flying h
  go false e = subst (StandsAs s) (sym (c.none (grind (arith, nat_tests)))) h

obeys_more : (state : PumpState) (hs : List Happening) (h : Happening) → Obeys state hs → MayHappen (fold pump_after state hs) h → Obeys state (hs ++ h ∷ [])
obeys_more state [] h a b = (b, tt)
obeys_more state (first ∷ hs) h a b = (a.0, obeys_more (pump_after state first) hs h a.1 b)

one_more : (hs : List Happening) (h : Happening) → pump_state (hs ++ h ∷ []) ≡ pump_after (pump_state hs) h
one_more hs h = fold-append pump_after Fresh hs (h ∷ [])

obeyed_more : (hs : List Happening) (h : Happening) (asked : ℕ) (now : Progress) → Obeys Fresh hs → MayHappen (pump_state hs) h → StandsAs (pump_after (pump_state hs) h) now → MovesWithin (sum_by moves_in hs + moves_in h) asked now → IsObeyed (hs ++ h ∷ []) asked now
obeyed_more hs h asked now a b s m = record {
  obeys = obeys_more Fresh hs h a b;
  stands = subst (λ (t : PumpState). StandsAs t now) (sym (one_more hs h)) s;
  moves = subst (λ n. MovesWithin n asked now) (sym (sum_by_push moves_in hs h)) m;
}

pub opens_obeyed : OpensObeyed
opens_obeyed = record { obeys = tt; stands = refl; moves = omega arith }

pub change_obeys : ChangeObeys
change_obeys hs asked old new debt c h =
    let m = h.moves in
    obeyed_more hs (Owes debt) asked new h.obeys tt (stands_changed (pump_state hs) debt old new c h.stands) (omega (arith, m, ap one_if c.drawn, ap one_if c.flying))

pub done_obeys : DoneObeys
done_obeys hs asked more old counted h = obeyed_more hs Finished (asked + more) at_rest h.obeys tt refl (counted (sum_by moves_in hs) asked h.moves)

pub fault_obeys : FaultObeys
fault_obeys hs asked more old new pending counted h = obeyed_more hs Faulted (asked + more) new h.obeys tt (stands_fault new pending) (counted (sum_by moves_in hs) asked h.moves)

pub pump_obeys : PumpObeys
pump_obeys hs asked more old new answer p counted h =
    obeyed_more hs (Pumps answer) (asked + more) new h.obeys (may_answer (pump_state hs) old new answer p h.stands) (stands_pumping (pump_state hs) old new answer p h.stands) (counted (sum_by moves_in hs) asked h.moves)

one_most : (b : Bool) → one_if b ≤ 1
one_most true = omega arith
one_most false = omega arith

pub few_moves : FewMoves
few_moves hs asked now h = let m = h.moves in omega (arith, m, one_most now.drawn)
