-- Why a run sends no more than it owes.
use Rattle.std.proofs.Common.{◌≡◌, sym, subst, ℕ, zero, suc, ◌+◌, ◌*◌, ◌<◌, ◌≤◌, List, [], ◌∷◌, ◌++◌, sum_by, ap, map, fold, inl, inr, arith}
use Rattle.std.proofs.Math.Nat.{mul-le-mul_left, mul-le-mul_right}
use Rattle.std.proofs.lemmas.List.Sums.{sum_by-cons}
use Rattle.owed_defs.specs.Happenings.{Happening, Debt, Owes, Finished, Faulted, Pumps}
use Rattle.owed_defs.specs.Windows.{Window, owing, after, windows, overflows, allowed}
use Rattle.owed_defs.specs.Standings.{Standing, IsOpening, Refreshes}
use Rattle.std.proofs.lemmas.List.Sums.{fold-append}
use Rattle.owed_defs.specs.Runs.{Run, opened, changed, done, faulted, pumped, IsWithin, SendsAsOwed, LaterDebtsRaise}
use Rattle.owed_defs.specs.Accounts.{InWindow, IsAccounted, OpensAccounts, ChangeKeepsAccounts, DoneEndsWindow, FaultKeepsWindow, PumpKeepsWindow}

-- a list that overflowed so often was given areas enough for it, but for one each that failed to be sent
few_overflows : (o count failed : ℕ) → (0 < o → 32 * o < count + failed) → o ≤ overflows count + failed
few_overflows zero count failed h = omega arith
few_overflows (suc o) count failed h = let k = h (omega arith) in omega (arith, k)

pub accounted_opening : OpensAccounts
accounted_opening panel limit start opening =
    let pending = opening.pending in
    let listed = opening.listed in
    record { overflowed = 0; failed = 0; earlier = 0; faults = omega arith; sizes = omega arith; counts = omega arith; first = λ k. absurd (omega arith) }

pub accounted_change : ChangeKeepsAccounts
accounted_change panel limit [] start old new debt change h = h
accounted_change panel limit (w ∷ ended) start old new debt change h =
    let sent = change.sent in
    let faults = change.faults in
    let hf = h.faults in
    let hs = h.sizes in
    let hc = h.counts in
    elim change.lists [
      | inl e ↦
          let s = e.sizes in
          let n = e.counts in
          record { overflowed = h.overflowed; failed = h.failed; earlier = h.earlier; faults = omega arith; sizes = omega arith; counts = omega arith; first = λ k. let f = h.first k in omega arith }
      | inr e ↦
          let p = e.whole.0 in
          let n = e.whole.1 in
          let full = e.full in
          record { overflowed = h.overflowed + 1; failed = h.failed; earlier = h.earlier; faults = omega arith; sizes = omega arith; counts = omega arith; first = λ k. omega arith }
    ]

-- a refresh, in the same window
accounted_refresh : (panel limit : ℕ) (run : List Window) (start old new : Standing) → Refreshes panel limit old new → IsAccounted panel limit run start old → IsAccounted panel limit run start new
accounted_refresh panel limit [] start old new r h = h
accounted_refresh panel limit (w ∷ ended) start old new r h =
    let rf = r.faults in
    let hf = h.faults in
    let hs = h.sizes in
    let hc = h.counts in
    elim r.sends [
      | inl e ↦
          let s = e.sizes in
          let n = e.counts in
          record { overflowed = h.overflowed; failed = h.failed + r.failed; earlier = h.earlier; faults = omega arith; sizes = omega arith; counts = omega arith; first = λ k. let f = h.first k in omega arith }
      | inr e ↦
          let s = e.sizes in
          let n = e.whole in
          let full = e.full in
          record { overflowed = h.overflowed + 1; failed = h.failed + r.failed; earlier = h.earlier; faults = omega arith; sizes = omega arith; counts = omega arith; first = λ k. omega arith }
    ]

pub accounted_fault : FaultKeepsWindow
accounted_fault panel limit [] start old new r h = h
accounted_fault panel limit (w ∷ ended) start old new r h = accounted_refresh panel limit (w ∷ ended) start old new r h

pub accounted_pump : PumpKeepsWindow
accounted_pump panel limit [] start old new answer r h = h
accounted_pump panel limit (w ∷ ended) start old new answer r h = accounted_refresh panel limit (w ∷ ended) start old new r h

-- what was sent in the windows so far
within_window : (panel limit : ℕ) (w : Window) (ended : ℕ) (start now : Standing) (h : InWindow panel limit w ended start now) →
    now.sent ≤ start.sent + (ended + allowed panel w) + (h.earlier + h.failed) * (limit + panel)
within_window panel limit w ended start now h =
    let s = h.sizes in
    let few = few_overflows h.overflowed w.count h.failed h.first in
    let each = mul-le-mul_left panel few in
    omega (arith, each, s)

pub accounted_done : DoneEndsWindow
accounted_done panel limit [] start old new r clear h = h
accounted_done panel limit (w ∷ ended) start old new r clear h =
    let k = accounted_refresh panel limit (w ∷ ended) start old new r h in
    let within = within_window panel limit w (sum_by (allowed panel) ended) start new k in
    let kf = k.faults in
    let none = clear.pending in
    let empty = clear.listed in
    record {
      overflowed = 0;
      failed = 0;
      earlier = k.earlier + k.failed;
      faults = omega arith;
      sizes = omega (arith, within, sum_by-cons (allowed panel) w ended);
      counts = omega arith;
      first = λ z. absurd (omega arith);
    }

-- the bound over all windows
sent_within : (panel limit : ℕ) (start now : Standing) (run : List Window) (faults : ℕ) → now.faults ≤ start.faults + faults → IsAccounted panel limit run start now → IsWithin panel limit run start now faults
sent_within panel limit start now [] faults e h = absurd h
sent_within panel limit start now (w ∷ ended) faults e h =
    let within = within_window panel limit w (sum_by (allowed panel) ended) start now h in
    let hf = h.faults in
    let most = mul-le-mul_right (limit + panel) (few hf) in
    omega (arith, within, most, sum_by-cons (allowed panel) w ended) where
      few : start.faults + h.earlier + h.failed ≤ now.faults → h.earlier + h.failed ≤ faults
      few hf = omega arith

one_more : (panel : ℕ) (hs : List Happening) (h : Happening) → windows panel (hs ++ h ∷ []) ≡ after (windows panel hs) h
one_more panel hs h = fold-append after _ hs (h ∷ [])

accounted : (panel limit : ℕ) (start now : Standing) (hs : List Happening) → IsOpening panel start → Run panel limit start hs now → IsAccounted panel limit (windows panel hs) start now
accounted panel limit start now hs opening opened = accounted_opening panel limit start opening
accounted panel limit start now hs opening (changed {before = before} {old = old} debt run change) =
    subst (λ (ws : List Window). IsAccounted panel limit ws start now) (sym (one_more panel before (Owes debt)))
    (accounted_change panel limit (windows panel before) start old now debt change (accounted panel limit start old before opening run))
accounted panel limit start now hs opening (done {before = before} {old = old} run refresh clear) =
    subst (λ (ws : List Window). IsAccounted panel limit ws start now) (sym (one_more panel before Finished))
    (accounted_done panel limit (windows panel before) start old now refresh clear (accounted panel limit start old before opening run))
accounted panel limit start now hs opening (faulted {before = before} {old = old} run refresh) =
    subst (λ (ws : List Window). IsAccounted panel limit ws start now) (sym (one_more panel before Faulted))
    (accounted_fault panel limit (windows panel before) start old now refresh (accounted panel limit start old before opening run))
accounted panel limit start now hs opening (pumped {before = before} {old = old} answer run refresh) =
    subst (λ (ws : List Window). IsAccounted panel limit ws start now) (sym (one_more panel before (Pumps answer)))
    (accounted_pump panel limit (windows panel before) start old now answer refresh (accounted panel limit start old before opening run))

pub sends_as_owed : SendsAsOwed
sends_as_owed = record {
  runs = λ panel limit start now hs faults opening few run. sent_within panel limit start now (windows panel hs) faults few (accounted panel limit start now hs opening run);
  accounted = sent_within;
}

more_overflows : (a b : ℕ) → overflows a ≤ overflows (a + b)
more_overflows a b = omega arith

owes_raise_one : (panel : ℕ) (ws : List Window) (debt : Debt) → sum_by (allowed panel) ws ≤ sum_by (allowed panel) (after ws (Owes debt))
owes_raise_one panel [] debt = omega arith
owes_raise_one panel (w ∷ ended) debt =
    let more = mul-le-mul_left panel (more_overflows w.count debt.count) in
    omega (arith, more, sum_by-cons (allowed panel) w ended, sum_by-cons (allowed panel) (owing w debt) ended)

owes_raise_all : (panel : ℕ) (ws : List Window) (debts : List Debt) → sum_by (allowed panel) ws ≤ sum_by (allowed panel) (fold after ws (map Owes debts))
owes_raise_all panel ws [] = omega arith
owes_raise_all panel ws (debt ∷ debts) =
    let one = owes_raise_one panel ws debt in
    let rest = owes_raise_all panel (after ws (Owes debt)) debts in
    omega arith

pub later_debts_raise : LaterDebtsRaise
later_debts_raise panel limit hs debts faults =
    let all = owes_raise_all panel (windows panel hs) debts in
    let joined = ap (sum_by (allowed panel)) (fold-append after (record { size = panel; count = 1 } ∷ []) hs (map Owes debts)) in
    omega (arith, all, joined)
