use Rattle.std.proofs.Common.{◌≡◌, ◌∙◌, ◌+◌, ◌*◌, sym, ap, subst, rules, ℕ, arith}
use Rattle.gui_base.specs.Corners.{rect_of}
use Rattle.gui_base.specs.Forest.{Forest, size, tree_by, children_of}
use Rattle.gui_tree.specs.Walks.{walk}
use Rattle.gui_tree.proofs.Below.{begins_below, steps_below}
use Rattle.scene_defs.specs.Scene.{handles_of, is_at}
use Rattle.gui_store.specs.Views.{scene_of}
use Rattle.gui_paint.specs.Walking.{PaintsMet, number_of, below_walk}
use Rattle.gui_paint.proofs.Waiting.{paints_none, paints_list, paints_first, paints_tree}
use Rattle.gui_paint.proofs.Walking.{size_at, size_below, trees_walk, walks_below}
use Rattle.gui_paint.proofs.paint.+paint_tree.Goals as goal

pub returns-in_default : goal.returns-in_default
returns-in_default g t c =
    let scene = scene_of c.args.shown.now.store.now in
    let few = c.in_default.ensures.steps in
    paints_list scene _ _ _ _ _ _ _ _ _ (sym c.in_default.ensures.met) (paints_none scene (number_of c.args.progress.now.start) c.args.buf.now (2 * size (tree_by (is_at c.args.h.0) scene.trees)) c.args.steps.now c.visit.new.steps (omega (arith, few)))

pub paint_next-requires-clause-stands : goal.paint_next-requires-clause-stands
paint_next-requires-clause-stands g t c = c.in-Some.ensures.met.stands

pub loop-child-init : goal.loop-child-init
loop-child-init g t c =
    let scene = scene_of c.args.shown.now.store.now in
    let clip = rect_of c.in-Some.seen.visible in
    let h = c.args.h.0 in
    let begins = begins_below (handles_of scene.trees) h _ (c.into_iter-child-iterator.ensures.into_iter_gives ∙ (c.children-child-items.ensures.walk ∙ ap (λ (f : Forest ℕ). walk f (children_of f h)) c.tree-tree.ensures.forest)) in
    record {
      below = begins.is;
      later = λ w buf to p.
          paints_list scene _ _ _ _ _ _ _ _ _ (sym (walks_below scene clip h c.tree-tree.ensures.valid))
          (subst (λ (t : Forest ℕ). PaintsMet scene (trees_walk scene clip t) (number_of c.paint_next.new.progress.start) w c.paint_next.new.buf buf (2 * size t) c.paint_next.new.steps to) begins.all p);
    }

pub paint_tree-requires : goal.paint_tree-requires
paint_tree-requires g t c κs within =
    let smaller = (steps_below (handles_of (scene_of c.args.shown.now.store.now).trees) c.args.h.0 _ _ _ c.loop-child.invariant.below c.in-Some-child.ensures.steps).fewer in
    (search rules, within)

pub loop-child-preserved : goal.loop-child-preserved
loop-child-preserved g t c =
    let scene = scene_of c.args.shown.now.store.now in
    let inv = c.loop-child.invariant in
    let h = c.in-Some-child.child.0 in
    let w = steps_below (handles_of scene.trees) c.args.h.0 _ _ _ inv.below c.in-Some-child.ensures.steps in
    let count : size (tree_by (is_at h) scene.trees) ≡ size w.children + 1 = omega (arith, size_at scene h, ap (λ (t : Forest ℕ). size t) w.tree) in
    record {
      below = w.is;
      later = λ v buf to p.
          inv.later v buf to (paints_first scene (rect_of c.in-Some.seen.visible) h w.children c.next.new.self.left c.loop-child.child-iterator.left _ _ _ _ _ _ _ _ _ w.left count c.paint_tree.ensures p);
    }

pub returns : goal.returns
returns g t c =
    let scene = scene_of c.args.shown.now.store.now in
    let clip = rect_of c.in-Some.seen.visible in
    let h = c.args.h.0 in
    let start = number_of c.loop-child.progress.start in
    let buf = c.loop-child.buf in
    let steps = c.loop-child.steps in
    let none : PaintsMet scene (trees_walk scene clip c.loop-child.child-iterator.left) start start buf buf (2 * size c.loop-child.child-iterator.left) steps steps =
    subst (λ (t : Forest ℕ). PaintsMet scene (trees_walk scene clip t) start start buf buf (2 * size t) steps steps) (sym c.in-None.ensures.steps.0) (paints_none scene start buf 0 steps steps (omega arith)) in
    let below = subst (λ (n : ℕ). PaintsMet scene (below_walk scene clip h) (number_of c.paint_next.new.progress.start) start c.paint_next.new.buf buf (2 * n) c.paint_next.new.steps steps) (size_below scene h) (c.loop-child.invariant.later start buf steps none) in
    paints_tree scene (rect_of c.args.clip) clip h _ _ _ _ _ _ _ c.args.steps.now c.visit.new.steps _ _ _ c.in-Some.ensures.met.walk c.in-Some.ensures.steps c.in-Some.ensures.met.small c.paint_next.ensures below c.paint_next_bars.ensures
