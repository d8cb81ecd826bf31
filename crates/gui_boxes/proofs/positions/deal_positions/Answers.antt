use Rattle.std.proofs.Common.{◌∙◌, sym, ap, subst, ℕ, Bool, List, map, refl, drop, arith}
use Rattle.gui_base.specs.Forest.{Forest, children_of}
use Rattle.layout_defs.specs.Solving.{Slot, nowhere}
use Rattle.gui_tree.proofs.Below.{begins_below, steps_below}
use Rattle.gui_boxes.proofs.Listed.{told_short}
use Rattle.gui_boxes.specs.Tables.{Listing, IsListed, listing_of, slot_or, told}
use Rattle.gui_boxes.specs.Settled.{Layout, known_at, tall_of}
use Rattle.gui_boxes.specs.Views.{box_at}
use Rattle.gui_boxes.specs.Kids.{Deals}
use Rattle.gui_boxes.specs.Slots.{slot_of, room_in, item_slot}
use Rattle.gui_boxes.proofs.Flows.{slots_none, slots_first, talls}
use Rattle.gui_boxes.proofs.Kids.{kid_told}
use Rattle.gui_boxes.specs.Touched.{is_touched}
use Rattle.gui_boxes.proofs.Touched.{TouchesRoots, calm_then, roots_first, roots_none}
use Rattle.gui_boxes.proofs.positions.deal_positions.Goals as goal
use Rattle.gui_boxes.proofs.positions.deal_positions.Goals.{In-None, In-Some}

pub loop-child-init : goal.loop-child-init
loop-child-init c =
    let was = told c.args.entries.now in
    let room = room_in c.args.area.inside in
    let begins = begins_below c.args.tree.now.forest c.args.h.0 _ (c.into_iter-child-iterator.ensures.into_iter_gives ∙ c.children-child-items.ensures.walk) in
    record {
      below = begins.is;
      listed = refl;
      rest = refl;
      more = λ k is. is;
      calm = λ k none. refl;
      roots = λ (t : ℕ → Bool) rest. subst (TouchesRoots (is_touched was) t) begins.all rest;
      within = omega arith;
      later = λ (u : List Slot) rest. subst (λ (t : Forest ℕ). Deals was room was.slots u t (map (item_slot c.args.area.course room) c.args.items.now)) begins.all rest;
    }

still : (c : In-Some) → IsListed (listing_of c.loop-child.entries) c.in-Some.child.0
still c =
    let g = steps_below c.args.tree.now.forest c.args.h.0 _ _ _ c.loop-child.invariant.below c.in-Some.ensures.steps in
    subst (λ (ks : Listing). IsListed ks c.in-Some.child.0) (sym c.loop-child.invariant.listed) (c.requires.listed c.in-Some.child.0 g.own)

pub give_position-requires : goal.give_position-requires
give_position-requires c = still (goal.at.give_position-requires c).In-Some

pub entry_of-requires : goal.entry_of-requires
entry_of-requires c = still (goal.at.entry_of-requires c).In-Some

pub loop-child-preserved : goal.loop-child-preserved
loop-child-preserved c =
    let inv = c.loop-child.invariant in
    let was = told c.args.entries.now in
    let room = room_in c.args.area.inside in
    let made = item_slot c.args.area.course room in
    let trees = c.next.new.self.left in
    let g = steps_below c.args.tree.now.forest c.args.h.0 _ _ _ inv.below c.in-Some.ensures.steps in
    let h = c.in-Some.child.0 in
    let p = c.dealt_position-later.result.0 in
    let a = (told c.loop-child.entries).slots in
    let b = told c.give_position.new.entries in
    let touches = c.give_position.ensures.touches in
    let flow = map made (drop c.loop-child.i c.args.items.now) in
    let later = map made (drop c.dealt_position-later.result.1 c.args.items.now) in
    let short = told_short slot_or c.loop-child.entries h (still (goal.at.loop-child-preserved c).In-Some) in
    let kid = ap tall_of (kid_told (told c.loop-child.entries) h c.entry_of.result.now c.entry_of.ensures.told ∙ ap (λ (l : Layout). known_at (box_at l.boxes) l h) inv.rest) in
    record {
      below = g.is;
      listed = c.give_position.ensures.listed ∙ inv.listed;
      rest = c.give_position.ensures.rest ∙ ap (λ (l : Layout). record l { slots = b.slots; touched = b.touched }) inv.rest;
      more = λ k is. touches.more k (inv.more k is);
      calm = calm_then nowhere (is_touched (told c.loop-child.entries)) (is_touched b) was.slots a b.slots touches.more inv.calm touches.calm;
      roots = λ (t : ℕ → Bool) rest.
          inv.roots t
          (subst (TouchesRoots (is_touched (told c.loop-child.entries)) t) (sym g.left) (roots_first (is_touched (told c.loop-child.entries)) (is_touched b) t h g.children trees g.once touches.others rest));
      within = c.dealt_position-later.ensures.within;
      later = λ (u : List Slot) rest.
          inv.later u
          (subst (λ (t : Forest ℕ). Deals was room a u t flow) (sym g.left)
          (slots_first was room a u h (slot_of p) g.children trees _ flow later g.once short kid
          (c.dealt_position-later.ensures.value h (talls was room trees)) c.dealt_position-later.ensures.close
          (subst (λ (t : List Slot). Deals was room t u trees later) c.give_position.ensures.slots rest)));
    }

pub returns-clause-deals : goal.returns-clause-deals
returns-clause-deals c =
    let was = told c.args.entries.now in
    let room = room_in c.args.area.inside in
    let t = (told c.loop-child.entries).slots in
    let flow = map (item_slot c.args.area.course room) (drop c.loop-child.i c.args.items.now) in
    c.loop-child.invariant.later t (rw c.in-None.ensures.steps.0 (slots_none was room t flow))

-- once all children are dealt theirs
module _ (c : In-None) where
  touched_roots : TouchesRoots (is_touched (told c.args.entries.now)) (is_touched (told c.loop-child.entries)) (children_of c.args.tree.now.forest c.args.h.0)
  touched_roots = c.loop-child.invariant.roots (is_touched (told c.loop-child.entries)) (rw c.in-None.ensures.steps.0 (roots_none (is_touched (told c.loop-child.entries))))

pub returns-clause-touches : goal.returns-clause-touches
returns-clause-touches c = record {
  more = c.loop-child.invariant.more;
  others = (touched_roots (goal.at.returns-clause-touches c).In-None).others;
  calm = c.loop-child.invariant.calm;
}

pub returns-clause-roots : goal.returns-clause-roots
returns-clause-roots c = (touched_roots (goal.at.returns-clause-roots c).In-None).roots
