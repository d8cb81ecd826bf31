use Rattle.std.proofs.Common.{◌≡◌, ap, ℕ, get_or, arith}
use Rattle.std.proofs.lemmas.List.{ext_get_or}
use borrow.Author.Count.{below_more}
use Rattle.gui_base.specs.declared.Handle.{Handle}
use Rattle.gui_boxes.proofs.listing.are_same.Invariants.{none}
use Rattle.gui_boxes.proofs.listing.are_same.Goals as goal

abbrev named : ℕ → Handle
named n = record { 0 = n }

same : (a b : Handle) → a.0 ≡ b.0 → a ≡ b
same a b e = ap named e

pub loop-i-preserved : goal.loop-i-preserved
loop-i-preserved c =
    below_more (λ k. get_or c.args.some.now k none ≡ get_or c.args.others.now k none) c.loop-i.i c.loop-i.invariant (same _ _ c.if-some-i.false)

pub returns-clause-same : goal.returns-clause-same
returns-clause-same c = λ e. ext_get_or none c.args.some.now c.args.others.now c.if-some-others.false (λ k within. c.loop-i.invariant k (omega arith))
