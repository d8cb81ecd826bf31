use Rattle.std.proofs.Common.{◌≡◌, ◌∙◌, ◌<◌, refl, sym, subst, true, eqb, arith}
use Rattle.std.proofs.lemmas.Bool.{both_ways, eqb-true, false_from_ne_true}
use Rattle.gui_store.specs.Views.{scene_of}
use Rattle.gui_boxes.specs.Listing.{times}
use Rattle.gui_boxes.specs.Marks.{is_changed, is_marked, is_parent, solved_in}
use Rattle.gui_change.proofs.BarsStay.{scrolls-same}
use Rattle.gui_change.proofs.Edited.{other-kids}
use Rattle.gui_change.proofs.Unmoved.{beside-reordered, beside-told}
use Rattle.gui_change.proofs.edits.settle_beside.Goals as goal

pub settle_again-requires-clause-were : goal.settle_again-requires-clause-were
settle_again-requires-clause-were c =
    let marks = c.mark_beside.new.marks in
    let p = c.args.parent in
    let it = c.requires.was in
    beside-told c.args.places.now (scene_of c.args.store.now) p it.made it.concerned it.removed it.edited (is_changed marks) (is_parent marks)
    (λ k un none. false_from_ne_true (eqb k p.0) (λ e. both_ways (is_parent marks k) none (other-kids marks k (subst (λ j. is_marked marks j ≡ true) (sym (eqb-true k p.0 e)) c.mark_beside.ensures.parent) un)))

-- where it rests, nothing is solved
pub returns-then-rests-clause-settles : goal.returns-then-rests-clause-settles
returns-then-rests-clause-settles c =
    let scene = scene_of c.args.store.now in
    let it = c.requires.was in
    record {
      settled = c.rests.ensures.settled it.edited.was.before c.if-rests.true it.edited.was.settled
          (beside-reordered c.args.places.now scene c.args.parent it.made it.concerned it.removed it.edited);
      limits = refl;
      there = λ u some. let none : 0 < 0 = subst (λ us. 0 < times us u) c.solve_none.ensures.solved some in absurd (omega (arith, none));
      stays = λ k there out. refl;
    }

pub returns-then-rests-clause-scrolls : goal.returns-then-rests-clause-scrolls
returns-then-rests-clause-scrolls c k there other out scrolls = record { reach = refl; offset = refl }

pub returns-then-rests-clause-none : goal.returns-then-rests-clause-none
returns-then-rests-clause-none c = record {
  none = λ k. c.solve_none.ensures.marked k ∙ c.requires.none.none k;
  most = c.solve_none.ensures.most ∙ c.requires.none.most;
}

pub returns-clause-settles : goal.returns-clause-settles
returns-clause-settles c = record {
  settled = c.settle_again.ensures.settled;
  limits = c.settle_again.ensures.limits;
  there = c.settle_again.ensures.tops;
  stays = c.settle_again.ensures.stays;
}

pub returns-clause-none : goal.returns-clause-none
returns-clause-none c = record {
  none = c.settle_again.ensures.empty;
  most = c.settle_again.ensures.most ∙ (c.mark_beside.ensures.most ∙ c.requires.none.most);
}

pub returns-clause-scrolls : goal.returns-clause-scrolls
returns-clause-scrolls c k there other out =
    let marks = c.mark_beside.new.marks in
    scrolls-same c.args.places.now c.settle_again.new.self (scene_of c.args.store.now) (is_marked marks) (solved_in c.settle_again.new.marks) k c.settle_again.ensures.scrolls_stay there out (c.mark_beside.ensures.others k other)
