-- What a run asks of a panel, and how its transfers stand.
use Rattle.std.specs.Prelude.{◌≡◌, ℕ, ◌+◌, ◌-◌, ◌*◌, ◌^◌, ◌≤◌, min, true, List, [], ◌∷◌, ◌++◌, sum_by}
use Rattle.owed_defs.specs.Happenings.{Happening, Debt, Owes, Finished, Faulted, Pumps}
use Rattle.owed_defs.specs.Pumping.{Fresh, Obeys, moves_in, waits_in}
use Rattle.owed_defs.specs.Progress.{Progress, at_opening, at_rest, Pumping, Changing, Counted}
use Rattle.owed_defs.specs.PumpLaws.{IsObeyed}
use Rattle.owed_defs.specs.declared.Pumped.{Pumped}

pub record Flight : Type 0 where
  -- how many pixels were asked for, and how many polls told that a transfer goes on; each stays at the last
  -- count
  pub sent : ℕ
  pub waits : ℕ
  pub progress : Progress

-- how the transfers stand at the opening
abbrev pub opening_flight : ℕ → ℕ → Flight
opening_flight sent waits = record { sent = sent; waits = waits; progress = at_opening }

-- a count that grew by a number, or came to the last one
abbrev pub grown : ℕ → ℕ → ℕ
grown count more = min (count + more) (2 ^ 64 - 1)

-- steps in which so many pumps moved and so many waited
pub record Flies (old new : Flight) (moves waits : ℕ) : Type 0 where
  pub asked : ℕ
  pub sent : grown old.sent asked ≤ new.sent
  pub waited : grown old.waits waits ≤ new.waits
  pub moved : Counted moves asked old.progress new.progress

-- the pumps among these happenings answer as the states say, and how all stands goes with the state
pub record IsFlown (hs : List Happening) (start now : Flight) : Type 0 where
  pub asked : ℕ
  pub obeyed : IsObeyed hs asked now.progress
  pub sent : grown start.sent asked ≤ now.sent
  pub waited : grown start.waits (sum_by waits_in hs) ≤ now.waits

-- What a run may claim of its pumps: each answers as the state before it allows. The moved ones are at most
-- three for each pixel asked for, and one. The waiting ones are at most the polls that told so.
pub record PumpsWithin (hs : List Happening) (sent waits new_sent new_waits : ℕ) : Type 0 where
  pub obeys : Obeys Fresh hs
  pub asked : ℕ
  pub grew : grown sent asked ≤ new_sent
  pub moves : sum_by moves_in hs ≤ 3 * asked + 1
  pub waited : grown waits (sum_by waits_in hs) ≤ new_waits

pub record FlightsGoOn : Type 0 where
  pub opens : (sent waits : ℕ) → IsFlown [] (opening_flight sent waits) (opening_flight sent waits)
  pub changed : (hs : List Happening) (start old new : Flight) (debt : Debt) →
      Changing debt old.progress new.progress → new.sent ≡ old.sent → new.waits ≡ old.waits →
      IsFlown hs start old → IsFlown (hs ++ Owes debt ∷ []) start new
  pub done : (hs : List Happening) (start old new : Flight) →
      new.progress ≡ at_rest → Flies old new 0 0 → IsFlown hs start old →
      IsFlown (hs ++ Finished ∷ []) start new
  pub faulted : (hs : List Happening) (start old new : Flight) →
      new.progress.pending ≡ true → Flies old new 0 0 → IsFlown hs start old →
      IsFlown (hs ++ Faulted ∷ []) start new
  pub pumped : (hs : List Happening) (start old new : Flight) (answer : Pumped) →
      Pumping old.progress new.progress answer →
      Flies old new (moves_in (Pumps answer)) (waits_in (Pumps answer)) → IsFlown hs start old →
      IsFlown (hs ++ Pumps answer ∷ []) start new

-- also where more was asked for since
abbrev pub FlightsClaim : Type 0
FlightsClaim = (hs : List Happening) (start now : Flight) (sent waits : ℕ) →
    now.sent ≤ sent → now.waits ≤ waits → IsFlown hs start now →
    PumpsWithin hs start.sent start.waits sent waits

-- the same where the counts grew further since
abbrev pub FlightsClaimOn : Type 0
FlightsClaimOn = (hs : List Happening) (start now : Flight) (sent waits more waited : ℕ) →
    grown now.sent more ≤ sent → grown now.waits waited ≤ waits → IsFlown hs start now →
    PumpsWithin hs start.sent start.waits sent waits
