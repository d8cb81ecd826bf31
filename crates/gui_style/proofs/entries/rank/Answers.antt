use Rattle.std.proofs.Common.{◌≡◌, ℕ, ◌+◌, ◌-◌, take, length, cond, sym, ap, ◌∙◌, arith}
use Rattle.std.specs.List.{filter}
use Rattle.gui_style.specs.Filed.{has_prop}
use Rattle.gui_style.proofs.ByProp.{counted}
use Rattle.gui_style.proofs.entries.rank.Goals.{then-eq, else-eq}
use Rattle.gui_style.proofs.entries.rank.Goals as goal

none : (k : ℕ) → k + 0 ≡ k
none k = omega arith

pub loop-i-preserved : goal.loop-i-preserved
loop-i-preserved c =
    let l = c.loop-i in let prop = c.args.prop in let x = c.in-Some.entry.now in
    let step = counted (has_prop prop) l.items c.next.new.self x c.args.n l._i l.count c.loop-i-test.true c.in-Some.ensures in
    let few = l.invariant.few in
    let now : c.if-eq.count ≡ l.count + cond (has_prop prop x) 1 0 =
    elim c.if-eq.branch [
      | then-eq w ↦ w.count-is ∙ ap (λ b. l.count + cond b 1 0) (sym w.if-eq.true ∙ c.eq.ensures)
      | else-eq w ↦ w.count-is ∙ sym (none l.count) ∙ ap (λ b. l.count + cond b 1 0) (sym w.if-eq.false ∙ c.eq.ensures)
    ] in
    record {
      rest = l.invariant.rest ∙ step ∙ ap (λ k. k + length (filter (has_prop prop) (take (c.args.n - (l._i + 1)) c.next.new.self))) (sym now);
      few = elim c.if-eq.branch [ then-eq w ↦ (let is = w.count-is in omega arith) | else-eq w ↦ (let is = w.count-is in omega arith) ];
    }
