use Rattle.std.proofs.Common.{◌≡◌, ◌≤◌, ◌+◌, ◌∙◌, ◌++◌, ◌∷◌, ap, refl, map, take, append_assoc, arith}
use Rattle.gui_base.specs.Forest.{Tree, roots, size}
use Rattle.layout_defs.specs.Solving.{taking_part}
use Rattle.gui_flex.specs.Items.{items_of}
use Rattle.gui_tree.proofs.Below.{begins_below, steps_below}
use Rattle.gui_boxes.specs.Tables.{told}
use Rattle.gui_boxes.specs.Views.{box_at}
use Rattle.gui_boxes.specs.Settled.{Known, known}
use Rattle.gui_boxes.specs.Kids.{told_kids}
use Rattle.gui_boxes.specs.Sizings.{known_box, sized}
use Rattle.gui_boxes.proofs.Lists.{part_taken_by}
use Rattle.gui_boxes.proofs.Kids.{kid_told}
use Rattle.gui_boxes.proofs.items.fill_items.Goals as goal

pub loop-child-init : goal.loop-child-init
loop-child-init c =
    let begins = begins_below c.args.tree.now.forest c.args.h.0 _ (c.into_iter-child-iterator.ensures.into_iter_gives ∙ c.children-child-items.ensures.walk) in
    let few = begins.few in
    record { below = begins.is; few = omega arith; left = rw begins.all refl }

pub loop-child-preserved : goal.loop-child-preserved
loop-child-preserved c =
    let inv = c.loop-child.invariant in
    let l = told c.args.entries.now in
    let f = c.args.tree.now.forest in
    let trees = c.next.new.self.left in
    let g = steps_below f c.args.h.0 _ _ _ inv.below c.in-Some.ensures.steps in
    let h = c.in-Some.child.0 in
    let few : c.loop-child.count + size (Tree h g.children trees) ≤ size f = rw g.left at inv.few in
    let more = c.put_kid-count.ensures.most in
    let item = sized c.args.sizing in
    let all = known (box_at l.boxes) l in
    let now = items_of (take c.loop-child.count c.loop-child.items) in
    let left : now ++ map item (taking_part known_box (roots (all (Tree h g.children trees)))) ≡ map item (taking_part known_box (told_kids l f c.args.h.0)) = rw g.left at inv.left in
    let kid = kid_told l h c.entry_of.result.now c.entry_of.ensures.told in
    record {
      below = g.is;
      few = omega arith;
      left =
          rw (c.put_kid-count.ensures.items h, append_assoc)
          (ap (λ l. now ++ l) (part_taken_by known_box item _ (roots (all trees)) ∙ ap (λ (k : Known). map item (taking_part known_box (k ∷ roots (all trees)))) kid) ∙ left);
    }

pub entry_of-requires : goal.entry_of-requires
entry_of-requires c = c.requires.listed c.in-Some.child.0 (steps_below c.args.tree.now.forest c.args.h.0 _ _ _ c.loop-child.invariant.below c.in-Some.ensures.steps).own
