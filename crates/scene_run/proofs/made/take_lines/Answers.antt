use Rattle.std.proofs.Common.{◌≡◌, ◌∙◌, sym, subst, ℕ, suc, Bool, true, false, ◌&&◌, ◌+◌, ◌^◌, ◌<◌, ◌≤◌, List, [], ◌∷◌, ◌++◌, length, append_assoc, append-nil, arith, refl}
use Rattle.std.specs.Prelude.{Ok}
use Rattle.gui_edge.proofs.Prefixes.{on_err}
use Rattle.run_defs.specs.Script.{Said}
use Rattle.scene_run.specs.Counting.{HasMade}
use Rattle.scene_run.specs.Making.{panel_alone}
use Rattle.scene_run.proofs.Going.{ready_less, halted_on}
use Rattle.scene_run.proofs.made.take_lines.Goals as goal

pub loop-line-init : goal.loop-line-init
loop-line-init g c = record {
  taken = [];
  split = refl;
  made = λ first start lines h. rw (append-nil lines) h;
  ready = c.requires.ready;
  few = c.requires.refused;
  in_range = c.requires.in_range;
  none = c.requires.no_pump;
}

-- how many lines are left
one_less : (line : Said) (left : List Said) → length left + 1 ≤ length (line ∷ left)
one_less line left = omega arith

some_left : (line : Said) (left : List Said) → 1 ≤ length (line ∷ left)
some_left line left = omega arith

few_left : (old new : ℕ) (line : Said) (left : List Said) → new ≤ old + 1 → old + length (line ∷ left) < 2 ^ 32 → new + length left < 2 ^ 32
few_left old new line left step few = omega arith

few_here : (old : ℕ) (line : Said) (left : List Said) → old + length (line ∷ left) < 2 ^ 32 → old + 1 < 2 ^ 32
few_here old line left few = omega arith

-- a line that is taken comes after those before it, and before those that are left
taken_amid : (lines taken : List Said) (line : Said) (left : List Said) → ((lines ++ taken) ++ line ∷ []) ++ left ≡ lines ++ (taken ++ line ∷ left)
taken_amid lines taken line left = append_assoc (lines ++ taken) (line ∷ []) left ∙ append_assoc lines taken (line ∷ left)

all_both : (a b : Bool) → (a && b) ≡ true → (a ≡ true) × (b ≡ true)
all_both true true e = (refl, refl)
all_both true false e = cc
all_both false b e = cc

pub take_line-requires-clause-in_range : goal.take_line-requires-clause-in_range
take_line-requires-clause-in_range g c =
    let h = rw c.in-Some.ensures.line at c.loop-line.invariant in
    h.in_range 0 (Ok c.in-Some.line) (omega arith)

-- the first of the lines that are left is no pump
pub take_line-requires-clause-no_pump : goal.take_line-requires-clause-no_pump
take_line-requires-clause-no_pump g c =
    let h = rw c.in-Some.ensures.line at c.loop-line.invariant in
    (all_both _ _ h.none).0

pub take_line-requires-clause-ready : goal.take_line-requires-clause-ready
take_line-requires-clause-ready g c =
    let h = rw c.in-Some.ensures.line at c.loop-line.invariant in
    ready_less _ _ _ (some_left (Ok c.in-Some.line) c.next_said.new.self) h.ready

pub take_line-requires-clause-refused : goal.take_line-requires-clause-refused
take_line-requires-clause-refused g c =
    let h = rw c.in-Some.ensures.line at c.loop-line.invariant in
    few_here _ (Ok c.in-Some.line) c.next_said.new.self h.few

pub loop-line-preserved : goal.loop-line-preserved
loop-line-preserved g c =
    let h = rw c.in-Some.ensures.line at c.loop-line.invariant in
    let on = c.in_ok-take_line.ensures.ok in
    let said : Said = Ok c.in-Some.line in record {
      taken = h.taken ++ said ∷ [];
      split = append_assoc h.taken (said ∷ []) c.next_said.new.self ∙ h.split;
      made = λ first start lines k. subst (HasMade first start c.take_line.new.self (g.P.Panel.state c.take_line.new.panel)) (append_assoc lines h.taken (said ∷ [])) (on.from first start (lines ++ h.taken) (h.made first start lines k));
      ready = on.ready _ (ready_less _ _ _ (one_less said c.next_said.new.self) h.ready);
      few = few_left _ _ said c.next_said.new.self c.in_ok-take_line.ensures.refused h.few;
      in_range = λ k d below. h.in_range (suc k) d (omega (arith, below));
      none = (all_both _ _ h.none).1;
    }

pub returns-in_err-take_line-clause-err : goal.returns-in_err-take_line-clause-err
returns-in_err-take_line-clause-err g c =
    let h = rw c.in-Some.ensures.line at c.loop-line.invariant in
    let halts = c.in_err-take_line.ensures.err in
    let said : Said = Ok c.in-Some.line in
    on_err c.from_residual.result (λ first start lines k.
    halted_on first (panel_alone start) (panel_alone (g.P.Panel.state c.take_line.new.panel)) ((lines ++ h.taken) ++ said ∷ []) c.next_said.new.self (lines ++ c.args.maker.now)
    (rw (← h.split) (sym (taken_amid lines h.taken said c.next_said.new.self))) (halts.from first (panel_alone start) (lines ++ h.taken) (h.made first start lines k).answered))

pub returns-clause-ok : goal.returns-clause-ok
returns-clause-ok g c = λ first start lines k.
    let h = rw c.in_default.ensures.end.0 at c.loop-line.invariant in
    rw (← h.split, append-nil h.taken) (h.made first start lines k)
