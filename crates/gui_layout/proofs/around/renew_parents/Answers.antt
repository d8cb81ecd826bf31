use Rattle.std.proofs.Common.{◌≡◌, ◌∙◌, refl, sym, ap, subst, eqb, false, get_or, inl, inr, arith}
use Rattle.std.proofs.lemmas.Bool.{cases_Bool, eqb-true, both_ways, false_from_ne_true}
use Rattle.gui_base.specs.Forest.{parent_of, tree_at}
use Rattle.gui_boxes.specs.Settled.{Layout}
use Rattle.gui_boxes.specs.Views.{box_at}
use Rattle.gui_boxes.specs.Tables.{Listing, AreListed, told}
use Rattle.gui_layout.specs.Tops.{is_it, is_over}
use Rattle.gui_layout.proofs.Overs.{flat-stays, if-still, it-is, over-top, reads-none, reads-then, still-before}
use Rattle.gui_boxes.proofs.Entered.{nothing, first-times, next-times, none-left}
use Rattle.gui_layout.proofs.around.renew_parents.Goals as goal

pub loop-h-init : goal.loop-h-init
loop-h-init c = record { own = λ u q some left up still. absurd (omega arith); reads = reads-none c.args.tree.now.forest (told c.args.entries.now); others = λ k off. refl; last = tt; listed = refl }

pub renew_next-last-requires-clause-there : goal.renew_next-last-requires-clause-there
renew_next-last-requires-clause-there c =
    let hs = c.args.tops.now in
    let i = c.loop-h.h-index in
    c.requires.there (get_or hs i nothing).0 (first-times hs i c.loop-h-test.true)

pub renew_next-last-requires-clause-listed : goal.renew_next-last-requires-clause-listed
renew_next-last-requires-clause-listed c q up =
    let hs = c.args.tops.now in
    let i = c.loop-h.h-index in
    subst (λ (ks : Listing). AreListed ks (tree_at c.args.tree.now.forest q)) (sym c.loop-h.invariant.listed) (c.requires.listed (get_or hs i nothing).0 q (first-times hs i c.loop-h-test.true) up)

pub renew_next-last-requires-clause-last : goal.renew_next-last-requires-clause-last
renew_next-last-requires-clause-last c =
    let inv = c.loop-h.invariant in
    if-still c.args.tree.now.forest (told c.args.entries.now) (told c.loop-h.entries) (told c.loop-h.entries) c.loop-h.last
    (λ k still. ap (λ (l : Layout). (box_at l.boxes k).scrollable) (sym inv.reads.rest) ∙ still) inv.last

pub loop-h-preserved : goal.loop-h-preserved
loop-h-preserved c =
    let f = c.args.tree.now.forest in
    let hs = c.args.tops.now in
    let i = c.loop-h.h-index in
    let h = get_or hs i nothing in
    let inv = c.loop-h.invariant in
    let done = c.renew_next-last.ensures in
    let a = told c.args.entries.now in
    let b = told c.loop-h.entries in
    let d = told c.renew_next-last.new.entries in
    record {
      own = λ u q some left up still. elim (cases_Bool (eqb h.0 u)) [
        | inl is ↦ done.own q (ap (parent_of f) (eqb-true h.0 u is) ∙ up) (still-before f a b q inv.reads still)
        | inr other ↦ flat-stays f b d q done.reads (inv.own u q some (next-times hs i u c.loop-h-test.true other ∙ left) up still)
      ];
      reads = reads-then f a b d inv.reads done.reads;
      others = λ k off.
          let not_it : is_it k (parent_of f h.0) ≡ false = false_from_ne_true (is_it k (parent_of f h.0)) (λ is. both_ways (is_over f hs k) off (over-top f hs h.0 k (first-times hs i c.loop-h-test.true) (it-is k (parent_of f h.0) is))) in
          done.others k not_it ∙ inv.others k off;
      last = if-still f b a d c.renew_next-last.result (λ k still. still-before f a b k inv.reads still) done.last;
      listed = done.listed ∙ inv.listed;
    }

pub returns-clause-last : goal.returns-clause-last
returns-clause-last c = c.loop-h.invariant.last

pub returns-clause-own : goal.returns-clause-own
returns-clause-own c u q some up still = c.loop-h.invariant.own u q some (none-left c.args.tops.now c.loop-h.h-index u c.loop-h-test.false) up still
