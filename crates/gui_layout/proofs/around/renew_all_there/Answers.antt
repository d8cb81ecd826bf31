use Rattle.std.proofs.Common.{◌≡◌, ◌∙◌, ◌<◌, refl, sym, ap, subst, eqb, true, false, get_or, inl, inr, arith}
use Rattle.std.proofs.lemmas.Bool.{cases_Bool, eqb-true, false_from_ne_true}
use Rattle.gui_base.specs.Forest.{has, tree_at}
use Rattle.gui_boxes.specs.Around.{IsFlat}
use Rattle.gui_boxes.specs.Listing.{times}
use Rattle.gui_boxes.specs.Settled.{Layout}
use Rattle.gui_boxes.specs.Tables.{Listing, AreListed, told}
use Rattle.gui_boxes.specs.Views.{box_at}
use Rattle.gui_layout.proofs.Overs.{flat-stays, if-stays, if-still, reads-none, reads-then, still-before}
use Rattle.gui_boxes.proofs.Entered.{nothing, first-times, next-times, none-left}
use Rattle.gui_layout.proofs.around.renew_all_there.Goals as goal

pub loop-h-init : goal.loop-h-init
loop-h-init c = record { own = λ k some left there still. absurd (omega arith); reads = reads-none c.args.tree.now.forest (told c.args.entries.now); others = λ k off. refl; last = c.requires.last; listed = refl }

pub renew_there-requires-clause-listed : goal.renew_there-requires-clause-listed
renew_there-requires-clause-listed c there =
    let hs = c.args.marked.now in
    let i = c.loop-h.h-index in
    let h = get_or hs i nothing in
    subst (λ (ks : Listing). AreListed ks (tree_at c.args.tree.now.forest h.0)) (sym c.loop-h.invariant.listed) (c.requires.listed h.0 (first-times hs i c.loop-h-test.true) there)

pub renew_there-requires-clause-last : goal.renew_there-requires-clause-last
renew_there-requires-clause-last c =
    let inv = c.loop-h.invariant in
    if-still c.args.tree.now.forest (told c.args.entries.now) (told c.loop-h.entries) (told c.loop-h.entries) c.args.last
    (λ k still. ap (λ (l : Layout). (box_at l.boxes k).scrollable) (sym inv.reads.rest) ∙ still) inv.last

pub loop-h-preserved : goal.loop-h-preserved
loop-h-preserved c =
    let f = c.args.tree.now.forest in
    let hs = c.args.marked.now in
    let i = c.loop-h.h-index in
    let h = get_or hs i nothing in
    let inv = c.loop-h.invariant in
    let done = c.renew_there.ensures in
    let a = told c.args.entries.now in
    let b = told c.loop-h.entries in
    let d = told c.renew_there.new.entries in
    record {
      own = λ k some left there still. elim (cases_Bool (eqb h.0 k)) [
        | inl is ↦
            let same = eqb-true h.0 k is in
            subst (λ j. IsFlat f d j) same (done.own (subst (λ j. has f j ≡ true) (sym same) there) (still-before f a b h.0 inv.reads (subst (λ j. (box_at a.boxes j).scrollable ≡ false) (sym same) still)))
        | inr other ↦ flat-stays f b d k done.reads (inv.own k some (next-times hs i k c.loop-h-test.true other ∙ left) there still)
      ];
      reads = reads-then f a b d inv.reads done.reads;
      others = λ k off.
          let other : eqb h.0 k ≡ false = false_from_ne_true (eqb h.0 k) (λ is. let some : 0 < times hs k = subst (λ j. 0 < times hs j) (eqb-true h.0 k is) (first-times hs i c.loop-h-test.true) in absurd (omega arith)) in
          done.others k other ∙ inv.others k off;
      last = if-stays f a b d c.args.last done.reads inv.last;
      listed = done.listed ∙ inv.listed;
    }

pub returns-clause-own : goal.returns-clause-own
returns-clause-own c k some there still = c.loop-h.invariant.own k some (none-left c.args.marked.now c.loop-h.h-index k c.loop-h-test.false) there still
