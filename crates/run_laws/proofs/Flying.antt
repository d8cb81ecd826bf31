-- How the pumps of a run go on answering as they may.
use Rattle.std.proofs.Common.{◌≡◌, ◌∙◌, refl, sym, ap, subst, ℕ, List, [], ◌∷◌, ◌++◌, map, sum_by, append-nil, arith}
use Rattle.std.specs.Prelude.{Ok, Err}
use Rattle.std.proofs.lemmas.List.{drop_all}
use Rattle.std.proofs.lemmas.List.Sums.{sum_by-append, sum_by-cons}
use Rattle.run_defs.specs.declared.FrameEnd.TheVariants.{Done, Fault}
use Rattle.run_defs.specs.declared.Line.TheVariants.{Blank, Frame, Pump, Make}
use Rattle.run_defs.specs.declared.Outcome.{Outcome}
use Rattle.run_defs.specs.declared.Outcome.TheVariants.{Frame as OfFrame, Pump as OfPump}
use Rattle.run_defs.specs.Machine.{Machine}
use Rattle.run_defs.specs.Run.{first_moment, entries, after_all, outcome_count}
use Rattle.run_defs.specs.Script.{Said}
use Rattle.owed_defs.specs.Flights.{Flight, IsFlown, PumpsWithin}
use Rattle.owed_defs.specs.Happenings.{Happening, Debt, Owes, debt_of as sizes_of}
use Rattle.owed_defs.specs.Pumping.{PumpState, Fresh, Obeys, pump_after, moves_in, waits_in}
use Rattle.owed_defs.proofs.Flights.{flights_go_on, flights_claim_on}
use Rattle.run_defs.specs.Owing.{happens, happenings, command_owes}
use Rattle.run_laws.specs.Pumping.{LineFlies, LineKeepsFlight, FlightsBound}
use Rattle.run_laws.proofs.Runs.{happenings-append, happenings-split, only_debts, debts}

-- one line more
line_flown : (machine : Machine) (said : Said) (more : List Outcome) (hs : List Happening) (start old new : Flight) → LineFlies machine said more old new → IsFlown hs start old → IsFlown (hs ++ happens machine said more) start new
line_flown machine (Ok Blank) more hs start old new e h = subst (λ (xs : List Happening). IsFlown xs start new) (sym (append-nil hs)) (subst (IsFlown hs start) (sym e) h)
line_flown machine (Ok Frame) [] hs start old new e h = absurd e
line_flown machine (Ok Frame) (OfFrame Done ∷ more) hs start old new e h = flights_go_on.done hs start old new e.0 e.1 h
line_flown machine (Ok Frame) (OfFrame Fault ∷ more) hs start old new e h = flights_go_on.faulted hs start old new e.0 e.1 h
line_flown machine (Ok Frame) (OfPump answer ∷ more) hs start old new e h = absurd e
line_flown machine (Ok Pump) [] hs start old new e h = absurd e
line_flown machine (Ok Pump) (OfFrame end ∷ more) hs start old new e h = absurd e
line_flown machine (Ok Pump) (OfPump answer ∷ more) hs start old new e h = flights_go_on.pumped hs start old new answer e.0 e.1 h
line_flown machine (Ok (Make command)) more hs start old new e h = flights_go_on.changed hs start old new (sizes_of (command_owes machine command)) e.0 e.1 e.2 h
line_flown machine (Err fault) more hs start old new e h = subst (λ (xs : List Happening). IsFlown xs start new) (sym (append-nil hs)) (subst (IsFlown hs start) (sym e) h)

pub line_keeps_flight : LineKeepsFlight
line_keeps_flight first before said outcomes more start old new each flies h =
    let now = after_all (first_moment first) before in
    let hs = happenings (first_moment first) before outcomes in
    let one = happenings-append (first_moment first) before (said ∷ []) outcomes more each ∙ ap (λ (es : List Happening). hs ++ es) (append-nil (happens now.machine said more)) in
    subst (λ (es : List Happening). IsFlown es start new) (sym one) (line_flown now.machine said more hs start old new flies h)

-- debts that come later
obeys_debts : (state : PumpState) (hs : List Happening) (ds : List Debt) → Obeys state hs → Obeys state (hs ++ map Owes ds)
obeys_debts state [] [] h = tt
obeys_debts state [] (d ∷ ds) h = (tt, obeys_debts (pump_after state (Owes d)) [] ds tt)
obeys_debts state (first ∷ hs) ds h = (h.0, obeys_debts (pump_after state first) hs ds h.1)

no_moves : (f : Happening → ℕ) (ds : List Debt) → ((d : Debt) → f (Owes d) ≡ 0) → sum_by f (map Owes ds) ≡ 0
no_moves f [] zero = refl
no_moves f (d ∷ ds) zero = omega (arith, sum_by-cons f (Owes d) (map Owes ds), zero d, no_moves f ds zero)

pub flights_bound : FlightsBound
flights_bound first lines unreached outcomes start now sent waits more waited each s w h =
    let next = after_all (first_moment first) lines in
    let hs = happenings (first_moment first) lines outcomes in
    let ds = debts next unreached in
    let claim = flights_claim_on hs start now sent waits more waited s w h in
    let none = drop_all (outcome_count (entries (first_moment first) lines)) outcomes (omega (arith, each)) in
    let all = happenings-split (first_moment first) lines unreached outcomes ∙ (ap (λ (o : List Outcome). hs ++ happenings next unreached o) none ∙ ap (λ (es : List Happening). hs ++ es) (only_debts next unreached)) in
    let moves = sum_by-append moves_in hs (map Owes ds) in
    let waits_all = sum_by-append waits_in hs (map Owes ds) in
    subst (λ (es : List Happening). PumpsWithin es start.sent start.waits sent waits) (sym all) (record {
      obeys = obeys_debts Fresh hs ds claim.obeys;
      asked = claim.asked;
      grew = claim.grew;
      moves = let m = claim.moves in omega (arith, moves, no_moves moves_in ds (λ d. refl));
      waited = let m = claim.waited in omega (arith, waits_all, no_moves waits_in ds (λ d. refl));
    })
