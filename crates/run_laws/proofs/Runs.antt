-- How the account of a run goes on.
use Rattle.std.proofs.Common.{◌≡◌, ◌∙◌, refl, sym, ap, subst, ℕ, ◌+◌, ◌≤◌, List, [], ◌∷◌, ◌++◌, length, map, fold, drop, append_assoc, append-nil, arith}
use Rattle.std.specs.Prelude.{Ok, Err}
use Rattle.std.proofs.lemmas.List.{drop-drop, drop_all}
use Rattle.std.proofs.lemmas.List.Sums.{fold-append}
use Rattle.run_defs.specs.declared.FrameEnd.TheVariants.{Done, Fault}
use Rattle.run_defs.specs.declared.Line.TheVariants.{Blank, Frame, Pump, Make}
use Rattle.run_defs.specs.declared.Outcome.{Outcome}
use Rattle.run_defs.specs.declared.Outcome.TheVariants.{Frame as OfFrame, Pump as OfPump}
use Rattle.run_defs.specs.Machine.{Machine}
use Rattle.run_defs.specs.Run.{Moment, first_moment, entry, entries, after, after_all, outcome_count, outcomes_asked}
use Rattle.run_defs.specs.Script.{Said}
use Rattle.run_defs.proofs.Runs.{outcome_count-cons, outcomes_asked-entry}
use Rattle.owed_defs.specs.Accounts.{IsAccounted}
use Rattle.owed_defs.specs.Happenings.{Happening, Debt, Owes, debt_of as sizes_of}
use Rattle.owed_defs.specs.Standings.{Standing}
use Rattle.owed_defs.specs.Windows.{Window, windows, allowance}
use Rattle.owed_defs.specs.Windows.{after as window_after}
use Rattle.owed_defs.proofs.Owing.{accounted_opening, accounted_change, accounted_done, accounted_fault, accounted_pump, sends_as_owed, later_debts_raise}
use Rattle.run_laws.specs.Accounts.{LineCounts, RunOpens, LineKeepsAccount, AccountBounds}
use Rattle.run_defs.specs.Owing.{happens, happenings, command_owes, panel_size, slice_limit, may_send}

-- what happens at more lines, where each frame of the lines before them has its outcome
pub happenings-append : (now : Moment) (xs ys : List Said) (o x : List Outcome) → length o ≡ outcome_count (entries now xs) → happenings now (xs ++ ys) (o ++ x) ≡ happenings now xs o ++ happenings (after_all now xs) ys x
happenings-append now [] ys [] x h = refl
happenings-append now [] ys (y ∷ o) x h = cc
happenings-append now (Ok Blank ∷ xs) ys o x h = happenings-append (after now (Ok Blank)) xs ys o x h
happenings-append now (Ok Frame ∷ xs) ys [] x h = absurd (omega (arith, outcome_count-cons (entry now (Ok Frame)) (entries (after now (Ok Frame)) xs)))
happenings-append now (Ok Frame ∷ xs) ys (OfFrame y ∷ o) x h = ap (λ (hs : List Happening). happens now.machine (Ok Frame) (OfFrame y ∷ []) ++ hs) (happenings-append (after now (Ok Frame)) xs ys o x (omega (arith, outcome_count-cons (entry now (Ok Frame)) (entries (after now (Ok Frame)) xs))))
happenings-append now (Ok Frame ∷ xs) ys (OfPump y ∷ o) x h = ap (λ (hs : List Happening). happens now.machine (Ok Frame) (OfPump y ∷ []) ++ hs) (happenings-append (after now (Ok Frame)) xs ys o x (omega (arith, outcome_count-cons (entry now (Ok Frame)) (entries (after now (Ok Frame)) xs))))
happenings-append now (Ok Pump ∷ xs) ys [] x h = absurd (omega (arith, outcome_count-cons (entry now (Ok Pump)) (entries (after now (Ok Pump)) xs)))
happenings-append now (Ok Pump ∷ xs) ys (OfFrame y ∷ o) x h = ap (λ (hs : List Happening). happens now.machine (Ok Pump) (OfFrame y ∷ []) ++ hs) (happenings-append (after now (Ok Pump)) xs ys o x (omega (arith, outcome_count-cons (entry now (Ok Pump)) (entries (after now (Ok Pump)) xs))))
happenings-append now (Ok Pump ∷ xs) ys (OfPump y ∷ o) x h = ap (λ (hs : List Happening). happens now.machine (Ok Pump) (OfPump y ∷ []) ++ hs) (happenings-append (after now (Ok Pump)) xs ys o x (omega (arith, outcome_count-cons (entry now (Ok Pump)) (entries (after now (Ok Pump)) xs))))
happenings-append now (Ok (Make command) ∷ xs) ys o x h = ap (λ (hs : List Happening). Owes (sizes_of (command_owes now.machine command)) ∷ hs) (happenings-append (after now (Ok (Make command))) xs ys o x h)
happenings-append now (Err fault ∷ xs) ys o x h = happenings-append (after now (Err fault)) xs ys o x h

-- the same, whatever outcomes there are
pub happenings-split : (now : Moment) (xs ys : List Said) (o : List Outcome) → happenings now (xs ++ ys) o ≡ happenings now xs o ++ happenings (after_all now xs) ys (drop (outcome_count (entries now xs)) o)
happenings-split now [] ys o = refl
happenings-split now (said ∷ xs) ys o =
    let rest = drop (outcomes_asked said) o in
    let many : outcome_count (entries now (said ∷ xs)) ≡ outcomes_asked said + outcome_count (entries (after now said) xs) = omega (arith, outcome_count-cons (entry now said) (entries (after now said) xs), outcome_count-cons (entry now said) [], outcomes_asked-entry now said) in
    let left = drop-drop (outcome_count (entries (after now said) xs)) (outcomes_asked said) o ∙ sym (ap (λ (n : ℕ). drop n o) many) in
    ap (λ (hs : List Happening). happens now.machine said o ++ hs) (happenings-split (after now said) xs ys rest ∙ ap (λ (p : List Outcome). happenings (after now said) xs rest ++ happenings (after_all (after now said) xs) ys p) left)
    ∙ sym (append_assoc (happens now.machine said o) (happenings (after now said) xs rest) _)

-- lines without an outcome owe, and no more happens
pub debts : Moment → List Said → List Debt
debts now [] = []
debts now (Ok Blank ∷ lines) = debts (after now (Ok Blank)) lines
debts now (Ok Frame ∷ lines) = debts (after now (Ok Frame)) lines
debts now (Ok Pump ∷ lines) = debts (after now (Ok Pump)) lines
debts now (Ok (Make command) ∷ lines) = sizes_of (command_owes now.machine command) ∷ debts (after now (Ok (Make command))) lines
debts now (Err fault ∷ lines) = debts (after now (Err fault)) lines

pub only_debts : (now : Moment) (lines : List Said) → happenings now lines [] ≡ map Owes (debts now lines)
unfolding debts
only_debts now [] = refl
only_debts now (Ok Blank ∷ lines) = only_debts (after now (Ok Blank)) lines
only_debts now (Ok Frame ∷ lines) = only_debts (after now (Ok Frame)) lines
only_debts now (Ok Pump ∷ lines) = only_debts (after now (Ok Pump)) lines
only_debts now (Ok (Make command) ∷ lines) = ap (λ (hs : List Happening). Owes (sizes_of (command_owes now.machine command)) ∷ hs) (only_debts (after now (Ok (Make command))) lines)
only_debts now (Err fault ∷ lines) = only_debts (after now (Err fault)) lines

pub run_opens : RunOpens
run_opens first start opening = accounted_opening (panel_size first.scene.limits) (slice_limit first.scene.limits) start opening

-- the windows after one line more
line_after : (first machine : Machine) (said : Said) (more : List Outcome) (ws : List Window) (start old new : Standing) → LineCounts first.scene.limits machine said more old new →
    IsAccounted (panel_size first.scene.limits) (slice_limit first.scene.limits) ws start old →
    IsAccounted (panel_size first.scene.limits) (slice_limit first.scene.limits) (fold window_after ws (happens machine said more)) start new
line_after first machine (Ok Blank) more ws start old new counts h = subst (IsAccounted (panel_size first.scene.limits) (slice_limit first.scene.limits) ws start) (sym counts) h
line_after first machine (Ok Frame) [] [] start old new counts h = absurd h
line_after first machine (Ok Frame) [] (w ∷ ended) start old new counts h = accounted_fault (panel_size first.scene.limits) (slice_limit first.scene.limits) (w ∷ ended) start old new counts h
line_after first machine (Ok Frame) (OfFrame Done ∷ more) ws start old new counts h = accounted_done (panel_size first.scene.limits) (slice_limit first.scene.limits) ws start old new counts.0 counts.1 h
line_after first machine (Ok Frame) (OfFrame Fault ∷ more) ws start old new counts h = accounted_fault (panel_size first.scene.limits) (slice_limit first.scene.limits) ws start old new counts h
line_after first machine (Ok Frame) (OfPump answer ∷ more) [] start old new counts h = absurd h
line_after first machine (Ok Frame) (OfPump answer ∷ more) (w ∷ ended) start old new counts h = accounted_fault (panel_size first.scene.limits) (slice_limit first.scene.limits) (w ∷ ended) start old new counts h
line_after first machine (Ok Pump) [] [] start old new counts h = absurd h
line_after first machine (Ok Pump) [] (w ∷ ended) start old new counts h = accounted_fault (panel_size first.scene.limits) (slice_limit first.scene.limits) (w ∷ ended) start old new counts h
line_after first machine (Ok Pump) (OfFrame end ∷ more) [] start old new counts h = absurd h
line_after first machine (Ok Pump) (OfFrame end ∷ more) (w ∷ ended) start old new counts h = accounted_fault (panel_size first.scene.limits) (slice_limit first.scene.limits) (w ∷ ended) start old new counts h
line_after first machine (Ok Pump) (OfPump answer ∷ more) ws start old new counts h = accounted_pump (panel_size first.scene.limits) (slice_limit first.scene.limits) ws start old new answer counts h
line_after first machine (Ok (Make command)) more ws start old new counts h =
    accounted_change (panel_size first.scene.limits) (slice_limit first.scene.limits) ws start old new (sizes_of (command_owes machine command)) counts h
line_after first machine (Err fault) more ws start old new counts h = subst (IsAccounted (panel_size first.scene.limits) (slice_limit first.scene.limits) ws start) (sym counts) h

pub line_keeps_account : LineKeepsAccount
line_keeps_account first before said outcomes more start old new each counts h =
    let panel = panel_size first.scene.limits in
    let now = after_all (first_moment first) before in
    let hs = happenings (first_moment first) before outcomes in
    let one = happenings-append (first_moment first) before (said ∷ []) outcomes more each ∙ ap (λ (es : List Happening). hs ++ es) (append-nil (happens now.machine said more)) in
    subst (λ (ws : List Window). IsAccounted panel (slice_limit first.scene.limits) ws start new)
    (sym (ap (windows panel) one ∙ fold-append window_after _ hs (happens now.machine said more)))
    (line_after first now.machine said more (windows panel hs) start old new counts h)

-- lines that were not reached raise what may be sent
pub may_send_more : (first : Machine) (lines unreached : List Said) (outcomes : List Outcome) (faults : ℕ) → length outcomes ≤ outcome_count (entries (first_moment first) lines) →
    may_send first lines outcomes faults ≤ may_send first (lines ++ unreached) outcomes faults
may_send_more first lines unreached outcomes faults few =
    let panel = panel_size first.scene.limits in
    let limit = slice_limit first.scene.limits in
    let next = after_all (first_moment first) lines in
    let hs = happenings (first_moment first) lines outcomes in
    let none = drop_all (outcome_count (entries (first_moment first) lines)) outcomes few in
    let more = ap (λ (o : List Outcome). hs ++ happenings next unreached o) none ∙ ap (λ (es : List Happening). hs ++ es) (only_debts next unreached) in
    let all = happenings-split (first_moment first) lines unreached outcomes ∙ more in
    let raised = later_debts_raise panel limit hs (debts next unreached) faults in
    let same = ap (λ (es : List Happening). allowance panel limit (windows panel es) faults) all in
    omega (arith, raised, same)

pub account_bounds : AccountBounds
account_bounds first lines unreached outcomes start now faults few rose h =
    let bound = sends_as_owed.accounted (panel_size first.scene.limits) (slice_limit first.scene.limits) start now (windows (panel_size first.scene.limits) (happenings (first_moment first) lines outcomes)) faults rose h in
    let more = may_send_more first lines unreached outcomes faults few in
    omega (arith, bound, more)
