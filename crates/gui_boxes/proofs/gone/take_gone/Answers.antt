use Rattle.std.proofs.Common.{◌≡◌, ◌<◌, ◌∷◌, ◌+◌, ◌++◌, ◌∙◌, [], ℕ, true, false, sym, ap, subst, length, add-one, drop, get_or, List, drop-cons, arith}
use Rattle.std.proofs.lemmas.List.{drop_all}
use Rattle.gui_base.specs.Forest.{has}
use Rattle.gui_base.specs.declared.Handle.{Handle}
use Rattle.gui_boxes.specs.Listing.{those_in}
use Rattle.gui_boxes.proofs.Leaving.{KeepsLeft, goes-over, goes-on, goes-past, left_gone, left_all}
use Rattle.gui_boxes.proofs.gone.take_gone.Goals as goal
use Rattle.gui_boxes.proofs.gone.take_gone.Goals.{then-has, else-has}

abbrev none : Handle
none = record { 0 = 0 }

now : (hs : List Handle) (i : ℕ) → i < length hs → drop i hs ≡ get_or hs i none ∷ drop (i + 1) hs
now hs i within = rw (add-one, drop-cons hs i none)

pub loop-h-preserved : goal.loop-h-preserved
loop-h-preserved c =
    let f = c.args.tree.now.forest in
    let hs = c.args.listed.now in
    let i = c.loop-h.h-index in
    let h = get_or hs i none in
    let ys = drop (i + 1) hs in
    let xs = c.loop-h.found.items in
    let inv = c.loop-h.invariant in
    let first : drop i hs ≡ h ∷ ys = now hs i c.loop-h-test.true in
    let few = inv.few in
    elim c.if-has.branch [
      | then-has w ↦
          let there : has f h.0 ≡ true = sym c.has.ensures ∙ w.if-has.true in
          let items : w.push_reserved.new.self.items ≡ xs ++ h ∷ [] = w.push_reserved.ensures.items in
          let over : xs ++ drop i hs ≡ w.push_reserved.new.self.items ++ ys = goes-over xs ys (drop i hs) h first ∙ ap (λ ws. ws ++ ys) (sym items) in
          let len = w.push_reserved.ensures.len in
          rw (w.found-is, w.entries-is) (record {
            found = ap (λ ws. ws ++ those_in f ys) items ∙ goes-on xs ys (drop i hs) h first f hs inv.found there;
            few = omega arith;
            capacity = w.push_reserved.ensures.capacity ∙ inv.capacity;
            entries = subst (λ left. KeepsLeft f hs left c.args.entries.now c.loop-h.entries) over inv.entries;
          })
      | else-has w ↦
          let gone : has f h.0 ≡ false = sym c.has.ensures ∙ w.if-has.false in
          rw (w.found-is, w.entries-is) (record {
            found = goes-past xs ys (drop i hs) h first f hs inv.found gone;
            few = omega arith;
            capacity = inv.capacity;
            entries = left_gone f hs xs ys h c.args.entries.now c.loop-h.entries w.remove.new.self w.remove.result w.remove.ensures.value w.remove.ensures.removes w.remove.ensures.absent gone (subst (λ zs. KeepsLeft f hs (xs ++ zs) c.args.entries.now c.loop-h.entries) first inv.entries);
          })
    ]

pub returns-clause-kept : goal.returns-clause-kept
returns-clause-kept c =
    let f = c.args.tree.now.forest in
    let hs = c.args.listed.now in
    let inv = c.loop-h.invariant in
    let none_left : drop c.loop-h.h-index hs ≡ [] = drop_all c.loop-h.h-index hs c.loop-h-test.false in
    let xs = c.loop-h.found.items in
    let all : xs ++ drop c.loop-h.h-index hs ≡ those_in f hs =
    ap (λ zs. xs ++ zs) none_left ∙ (ap (λ zs. xs ++ those_in f zs) (sym none_left) ∙ inv.found) in
    left_all f hs (xs ++ drop c.loop-h.h-index hs) c.args.entries.now c.loop-h.entries all inv.entries
