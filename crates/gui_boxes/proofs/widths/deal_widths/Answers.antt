use Rattle.std.proofs.Common.{◌∙◌, sym, ap, subst, ℕ, Bool, List, refl, drop, arith}
use Rattle.gui_base.specs.Forest.{Forest, children_of}
use Rattle.layout_defs.specs.Solving.{main_sizes}
use Rattle.gui_flex.specs.Items.{items_of}
use Rattle.gui_tree.proofs.Below.{begins_below, steps_below}
use Rattle.gui_boxes.proofs.Listed.{told_short}
use Rattle.gui_boxes.specs.Tables.{Listing, IsListed, listing_of, told, width_or}
use Rattle.gui_boxes.specs.Settled.{Layout, known_at, wide_of}
use Rattle.gui_boxes.specs.Views.{box_at}
use Rattle.gui_boxes.proofs.Kids.{kid_told}
use Rattle.gui_boxes.proofs.Dealt.{Deals, deals_first, wides}
use Rattle.gui_boxes.specs.Touched.{is_touched}
use Rattle.gui_boxes.proofs.Touched.{TouchesRoots, calm_then, roots_first, roots_none}
use Rattle.gui_boxes.proofs.widths.deal_widths.Goals as goal
use Rattle.gui_boxes.proofs.widths.deal_widths.Goals.{In-None, In-Some}

pub loop-child-init : goal.loop-child-init
loop-child-init c =
    let was = told c.args.entries.now in
    let begins = begins_below c.args.tree.now.forest c.args.h.0 _ (c.into_iter-child-iterator.ensures.into_iter_gives ∙ c.children-child-items.ensures.walk) in
    record {
      below = begins.is;
      within = omega arith;
      listed = refl;
      rest = refl;
      more = λ k is. is;
      calm = λ k none. refl;
      roots = λ (t : ℕ → Bool) rest. subst (TouchesRoots (is_touched was) t) begins.all rest;
      later = λ (u : List ℕ) rest. subst (λ (t : Forest ℕ). Deals was c.args.room was.widths u t (main_sizes (items_of c.args.items.now))) begins.all rest;
    }

still : (c : In-Some) → IsListed (listing_of c.loop-child.entries) c.in-Some.child.0
still c =
    let g = steps_below c.args.tree.now.forest c.args.h.0 _ _ _ c.loop-child.invariant.below c.in-Some.ensures.steps in
    subst (λ (ks : Listing). IsListed ks c.in-Some.child.0) (sym c.loop-child.invariant.listed) (c.requires.listed c.in-Some.child.0 g.own)

pub give_width-requires-clause-listed : goal.give_width-requires-clause-listed
give_width-requires-clause-listed c = still (goal.at.give_width-requires-clause-listed c).In-Some

pub entry_of-requires : goal.entry_of-requires
entry_of-requires c = still (goal.at.entry_of-requires c).In-Some

pub loop-child-preserved : goal.loop-child-preserved
loop-child-preserved c =
    let inv = c.loop-child.invariant in
    let was = told c.args.entries.now in
    let trees = c.next.new.self.left in
    let g = steps_below c.args.tree.now.forest c.args.h.0 _ _ _ inv.below c.in-Some.ensures.steps in
    let h = c.in-Some.child.0 in
    let width = c.dealt_width-width.result.0 in
    let a = (told c.loop-child.entries).widths in
    let b = told c.give_width.new.entries in
    let touches = c.give_width.ensures.touches in
    let shares = main_sizes (items_of (drop c.dealt_width-width.result.1 c.args.items.now)) in
    let kid = ap wide_of (kid_told (told c.loop-child.entries) h c.entry_of.result.now c.entry_of.ensures.told ∙ ap (λ (l : Layout). known_at (box_at l.boxes) l h) inv.rest) in
    let short = told_short width_or c.loop-child.entries h (still (goal.at.loop-child-preserved c).In-Some) in
    record {
      below = g.is;
      within = c.dealt_width-width.ensures.within;
      listed = c.give_width.ensures.listed ∙ inv.listed;
      rest = c.give_width.ensures.rest ∙ ap (λ (l : Layout). record l { widths = b.widths; touched = b.touched }) inv.rest;
      more = λ k is. touches.more k (inv.more k is);
      calm = calm_then 0 (is_touched (told c.loop-child.entries)) (is_touched b) was.widths a b.widths touches.more inv.calm touches.calm;
      roots = λ (t : ℕ → Bool) rest.
          inv.roots t
          (subst (TouchesRoots (is_touched (told c.loop-child.entries)) t) (sym g.left) (roots_first (is_touched (told c.loop-child.entries)) (is_touched b) t h g.children trees g.once touches.others rest));
      later = λ (u : List ℕ) rest.
          inv.later u
          (subst (λ (t : Forest ℕ). Deals was c.args.room a u t (main_sizes (items_of (drop c.loop-child.i c.args.items.now)))) (sym g.left)
          (deals_first was c.args.room a u h width g.children trees _ _ _ g.once short kid
          (c.dealt_width-width.ensures.value h (wides was c.args.room trees))
          (subst (λ (b : List ℕ). Deals was c.args.room b u trees shares) c.give_width.ensures.widths rest)));
    }

-- once all children are dealt theirs
module _ (c : In-None) where
  touched_roots : TouchesRoots (is_touched (told c.args.entries.now)) (is_touched (told c.loop-child.entries)) (children_of c.args.tree.now.forest c.args.h.0)
  touched_roots = c.loop-child.invariant.roots (is_touched (told c.loop-child.entries)) (rw c.in-None.ensures.steps.0 (roots_none (is_touched (told c.loop-child.entries))))

pub returns-clause-touches : goal.returns-clause-touches
returns-clause-touches c = record {
  more = c.loop-child.invariant.more;
  others = (touched_roots (goal.at.returns-clause-touches c).In-None).others;
  calm = c.loop-child.invariant.calm;
}

pub returns-clause-roots : goal.returns-clause-roots
returns-clause-roots c = (touched_roots (goal.at.returns-clause-roots c).In-None).roots
