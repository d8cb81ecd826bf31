-- How transfers go on along a run.
use Rattle.std.proofs.Common.{sym, subst, ℕ, ◌+◌, ◌≤◌, List, [], ◌∷◌, ◌++◌, sum_by, arith}
use Rattle.std.proofs.lemmas.List.Sums.{sum_by_push}
use Rattle.owed_defs.specs.Happenings.{Happening, Owes, Finished, Faulted, Pumps}
use Rattle.owed_defs.specs.Pumping.{waits_in}
use Rattle.owed_defs.specs.Progress.{Progress, Counted}
use Rattle.owed_defs.specs.PumpLaws.{IsObeyed}
use Rattle.owed_defs.specs.Flights.{Flight, grown, IsFlown, FlightsGoOn, FlightsClaim, FlightsClaimOn}
use Rattle.owed_defs.proofs.PumpStates.{opens_obeyed, change_obeys, done_obeys, fault_obeys, pump_obeys, few_moves}

-- one happening more, with so many pixels asked for
flown : (hs : List Happening) (h : Happening) (start old new : Flight) (asked more : ℕ) → IsObeyed (hs ++ h ∷ []) (asked + more) new.progress → grown start.sent asked ≤ old.sent → grown old.sent more ≤ new.sent →
    grown start.waits (sum_by waits_in hs) ≤ old.waits → grown old.waits (waits_in h) ≤ new.waits → IsFlown (hs ++ h ∷ []) start new
flown hs h start old new asked more obeyed a b c d = record { asked = asked + more; obeyed = obeyed; sent = omega arith; waited = omega (arith, sum_by_push waits_in hs h) }

pub flights_go_on : FlightsGoOn
flights_go_on = record {
  opens = λ sent waits. record { asked = 0; obeyed = opens_obeyed; sent = omega arith; waited = omega arith };
  changed = λ hs start old new debt c s w h. record {
    asked = h.asked;
    obeyed = change_obeys hs h.asked old.progress new.progress debt c h.obeyed;
    sent = let k = h.sent in omega arith;
    waited = let k = h.waited in omega (arith, sum_by_push waits_in hs (Owes debt));
  };
  done = λ hs start old new rest f h.
      let obeyed = subst (λ (p : Progress). IsObeyed (hs ++ Finished ∷ []) (h.asked + f.asked) p) (sym rest)
      (done_obeys hs h.asked f.asked old.progress (subst (λ (p : Progress). Counted 0 f.asked old.progress p) rest f.moved) h.obeyed) in
      flown hs Finished start old new h.asked f.asked obeyed h.sent f.sent h.waited f.waited;
  faulted = λ hs start old new pending f h.
      flown hs Faulted start old new h.asked f.asked (fault_obeys hs h.asked f.asked old.progress new.progress pending f.moved h.obeyed) h.sent f.sent h.waited f.waited;
  pumped = λ hs start old new answer p f h.
      flown hs (Pumps answer) start old new h.asked f.asked (pump_obeys hs h.asked f.asked old.progress new.progress answer p f.moved h.obeyed) h.sent f.sent h.waited f.waited;
}

pub flights_claim : FlightsClaim
flights_claim hs start now sent waits s w h =
    let a = h.sent in
    let b = h.waited in
    record { obeys = h.obeyed.obeys; asked = h.asked; grew = omega arith; moves = few_moves hs h.asked now.progress h.obeyed; waited = omega arith }

pub flights_claim_on : FlightsClaimOn
flights_claim_on hs start now sent waits more waited s w h =
    let a = h.sent in
    let b = h.waited in
    record { obeys = h.obeyed.obeys; asked = h.asked; grew = omega arith; moves = few_moves hs h.asked now.progress h.obeyed; waited = omega arith }
