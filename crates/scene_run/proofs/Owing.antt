-- What a run sends against what its lines owe, and how its pumps answer.
use Rattle.std.proofs.Common.{◌≡◌, ◌∙◌, refl, ap, subst, false, ◌-◌, ◌≤◌, List, [], ◌∷◌, ◌++◌, length, append-nil, arith}
use Rattle.std.specs.Prelude.{is_some}
use Rattle.std.proofs.lemmas.Int.{ints}
use Rattle.std.proofs.lemmas.List.Sums.{sum_by-cons}
use Rattle.gui_base.specs.Area.{size_of}
use Rattle.gui_damage.specs.Pending.{total}
use Rattle.gui_edge.specs.Panel.{PanelState}
use Rattle.gui_refresh.specs.Owing.{standing_of, flight_of}
use Rattle.gui_refresh.specs.Stages.{Stage, to_send, drawn_size}
use Rattle.scene_defs.specs.Place.{panel_of}
use Rattle.scene_defs.specs.Scene.{Scene}
use Rattle.run_defs.specs.declared.Outcome.{Outcome}
use Rattle.run_defs.specs.Machine.{Machine}
use Rattle.run_defs.specs.Run.{Moment, first_moment, after_all, entries, outcome_count}
use Rattle.run_defs.specs.Script.{Said}
use Rattle.run_defs.proofs.Runs.{after_all-limits}
use Rattle.owed_defs.specs.Flights.{Flight, opening_flight}
use Rattle.owed_defs.specs.Standings.{Standing}
use Rattle.owed_defs.proofs.Flights.{flights_go_on}
use Rattle.run_laws.specs.Accounts.{IsRunAccounted, LineCounts}
use Rattle.run_defs.specs.Owing.{panel_size}
use Rattle.run_laws.specs.Pumping.{IsRunFlown, LineFlies}
use Rattle.run_laws.proofs.Flying.{line_keeps_flight, flights_bound}
use Rattle.run_laws.proofs.Runs.{run_opens, line_keeps_account, account_bounds}
use Rattle.scene_run.specs.Effects.{SinceOpening, SendsAsOwed, PumpsAsAllowed, GrewBy}
use Rattle.scene_run.specs.Running.{IsStill, opening}

-- how many pixels a scene's panel has
pub panel_is : (scene : Scene) → size_of (panel_of scene) ≡ panel_size scene.limits
panel_is scene = grind (arith, ints)

-- before the first line
pub accounted_start : (first : Machine) (before : PanelState) (now : Stage) → now.pending.areas ≡ panel_of first.scene ∷ [] → IsStill now.refresher → SinceOpening before now.panel →
    IsRunAccounted first [] [] (opening first.scene.limits before) (standing_of now)
accounted_start first before now whole still since =
    let begin = opening first.scene.limits before in
    let one = sum_by-cons size_of (panel_of first.scene) [] in
    let all : to_send now ≡ panel_size first.scene.limits = omega (arith, ap total whole, one, panel_is first.scene, ap drawn_size still.drawn) in
    let same : standing_of now ≡ begin = rw (since.sent, all, ap length whole, since.flush_faults) refl in
    rw same (run_opens first begin (record { pending = omega arith; listed = omega arith }))

pub flown_start : (first : Machine) (before : PanelState) (now : Stage) → now.pending.areas ≡ panel_of first.scene ∷ [] → IsStill now.refresher → is_some now.panel.coming ≡ false → SinceOpening before now.panel →
    IsRunFlown first [] [] (opening_flight before.sent before.waits) (flight_of now)
flown_start first before now whole still free since =
    let same : flight_of now ≡ opening_flight before.sent before.waits = rw (since.sent, since.waits, whole, still.drawn, free) refl in
    rw same (flights_go_on.opens before.sent before.waits)

-- over a line
pub accounted_line : (first : Machine) (begin : Standing) (before : List Said) (outcomes : List Outcome) (now : Moment) (said : Said) (more : List Outcome) (old new : Standing) →
    now ≡ after_all (first_moment first) before → length outcomes ≡ outcome_count (entries (first_moment first) before) → LineCounts now.machine.scene.limits now.machine said more old new → IsRunAccounted first before outcomes begin old →
    IsRunAccounted first (before ++ said ∷ []) (outcomes ++ more) begin new
accounted_line first begin before outcomes now said more old new is each counts account =
    let limits = ap (λ (m : Moment). m.machine.scene.limits) is ∙ after_all-limits (first_moment first) before in
    line_keeps_account first before said outcomes more begin old new each (rw (← is, ← limits) counts) account

pub flown_line : (first : Machine) (begin : Flight) (before : List Said) (outcomes : List Outcome) (now : Moment) (said : Said) (more : List Outcome) (old new : Flight) →
    now ≡ after_all (first_moment first) before → length outcomes ≡ outcome_count (entries (first_moment first) before) → LineFlies now.machine said more old new → IsRunFlown first before outcomes begin old →
    IsRunFlown first (before ++ said ∷ []) (outcomes ++ more) begin new
flown_line first begin before outcomes now said more old new is each flies flown =
    line_keeps_flight first before said outcomes more begin old new each (subst (λ (m : Moment). LineFlies m.machine said more old new) is flies) flown

-- what is sent where all lines were answered
pub sends_as_owed : (first : Machine) (before : PanelState) (now : Stage) (lines : List Said) (outcomes : List Outcome) → length outcomes ≤ outcome_count (entries (first_moment first) lines) →
    IsRunAccounted first lines outcomes (opening first.scene.limits before) (standing_of now) → SendsAsOwed first before now.panel lines outcomes
sends_as_owed first before now lines outcomes few account =
    subst (λ (ls : List Said). SendsAsOwed first before now.panel ls outcomes) (append-nil lines)
    (account_bounds first lines [] outcomes (opening first.scene.limits before) (standing_of now) (now.panel.flush_faults - before.flush_faults) few (omega arith) account)

-- and how the pumps answered
pub pumps_as_allowed : (first : Machine) (before : PanelState) (now : Stage) (lines : List Said) (outcomes : List Outcome) → length outcomes ≡ outcome_count (entries (first_moment first) lines) →
    IsRunFlown first lines outcomes (opening_flight before.sent before.waits) (flight_of now) → PumpsAsAllowed first before now.panel lines outcomes
pumps_as_allowed first before now lines outcomes each flown =
    subst (λ (ls : List Said). PumpsAsAllowed first before now.panel ls outcomes) (append-nil lines)
    (flights_bound first lines [] outcomes (opening_flight before.sent before.waits) (flight_of now) now.panel.sent now.panel.waits 0 0 each (omega arith) (omega arith) flown)

-- the same where a frame could not be presented, for which more was asked for
pub pumps_before : (first : Machine) (before after : PanelState) (now : Stage) (lines : List Said) (said : Said) (outcomes : List Outcome) → length outcomes ≡ outcome_count (entries (first_moment first) lines) → GrewBy now.panel after →
    IsRunFlown first lines outcomes (opening_flight before.sent before.waits) (flight_of now) → PumpsAsAllowed first before after (lines ++ said ∷ []) outcomes
pumps_before first before after now lines said outcomes each grew flown =
    flights_bound first lines (said ∷ []) outcomes (opening_flight before.sent before.waits) (flight_of now) after.sent after.waits grew.asked 0 each grew.sent grew.waited flown
