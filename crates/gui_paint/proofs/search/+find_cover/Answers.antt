use Rattle.std.proofs.Common.{◌≡◌, ◌∙◌, ◌+◌, ◌≤◌, sym, ap, rules, ℕ, List, fold, arith}
use Rattle.gui_base.specs.Corners.{rect_of}
use Rattle.gui_base.specs.Forest.{Forest, Tree, size, children_of}
use Rattle.gui_tree.specs.Walks.{walk}
use Rattle.gui_tree.proofs.Below.{begins_below, steps_below}
use Rattle.scene_defs.specs.Scene.{handles_of}
use Rattle.scene_defs.specs.Shown.{Seen}
use Rattle.cover_defs.specs.Walks.{remembered}
use Rattle.gui_store.specs.Views.{scene_of}
use Rattle.gui_paint.specs.Walking.{number_of, below_walk}
use Rattle.gui_paint.proofs.Searching.{searches_first, searches_tree}
use Rattle.gui_paint.proofs.Walking.{size_at, size_below, trees_walk, walks_below}
use Rattle.gui_paint.proofs.search.+find_cover.Goals as goal

pub returns-in_default-clause-last : goal.returns-in_default-clause-last
returns-in_default-clause-last g t c =
    let scene = scene_of c.args.shown.now.store.now in
    sym (ap (λ (l : List Seen). fold (remembered scene (rect_of c.args.part)) (number_of c.args.search.now.last) l) c.in_default.ensures.met)

pub returns-in_default-clause-steps : goal.returns-in_default-clause-steps
returns-in_default-clause-steps g t c = let few = c.in_default.ensures.steps in omega (arith, few)

pub remember-requires-clause-stands : goal.remember-requires-clause-stands
remember-requires-clause-stands g t c = c.in-Some.ensures.met.stands

pub loop-child-init : goal.loop-child-init
loop-child-init g t c =
    let scene = scene_of c.args.shown.now.store.now in
    let clip = rect_of c.in-Some.seen.visible in
    let h = c.args.h.0 in
    let begins = begins_below (handles_of scene.trees) h _ (c.into_iter-child-iterator.ensures.into_iter_gives ∙ (c.children-child-items.ensures.walk ∙ ap (λ (f : Forest ℕ). walk f (children_of f h)) c.tree-tree.ensures.forest)) in
    record {
      below = begins.is;
      last = ap (fold (remembered scene (rect_of c.args.part)) (number_of c.remember.new.search.last)) (ap (trees_walk scene clip) begins.all ∙ sym (walks_below scene clip h c.tree-tree.ensures.valid));
      steps = rw begins.all (omega arith);
    }

pub find_cover-requires : goal.find_cover-requires
find_cover-requires g t c κs within =
    let smaller = (steps_below (handles_of (scene_of c.args.shown.now.store.now).trees) c.args.h.0 _ _ _ c.loop-child.invariant.below c.in-Some-child.ensures.steps).fewer in
    (search rules, within)

pub loop-child-preserved : goal.loop-child-preserved
loop-child-preserved g t c =
    let scene = scene_of c.args.shown.now.store.now in
    let f = handles_of scene.trees in
    let inv = c.loop-child.invariant in
    let h = c.in-Some-child.child.0 in
    let later = c.next.new.self.left in
    let w = steps_below f c.args.h.0 _ _ _ inv.below c.in-Some-child.ensures.steps in
    let steps : c.loop-child.steps + size (Tree h w.children later) ≤ c.visit.new.steps + size (children_of f c.args.h.0) = rw w.left at inv.steps in
    let few = c.find_cover.ensures.steps in
    record {
      below = w.is;
      last =
          searches_first scene (rect_of c.args.part) (rect_of c.in-Some.seen.visible) h w.children later c.loop-child.child-iterator.left (number_of c.loop-child.search.last) (number_of c.find_cover.new.search.last) w.left c.find_cover.ensures.last
          ∙ inv.last;
      steps = omega (arith, steps, few, size_at scene h, ap (λ (t : Forest ℕ). size t) w.tree);
    }

pub returns-clause-last : goal.returns-clause-last
returns-clause-last g t c =
    let scene = scene_of c.args.shown.now.store.now in
    let part = rect_of c.args.part in
    let clip = rect_of c.in-Some.seen.visible in
    let below : number_of c.loop-child.search.last ≡ fold (remembered scene part) (number_of c.remember.new.search.last) (below_walk scene clip c.args.h.0) =
    ap (λ (t : Forest ℕ). fold (remembered scene part) (number_of c.loop-child.search.last) (trees_walk scene clip t)) (sym c.in-None.ensures.steps.0) ∙ c.loop-child.invariant.last in
    searches_tree scene part (rect_of c.args.clip) clip c.args.h.0 _ _ _ c.in-Some.ensures.met.walk c.remember.ensures below

pub returns-clause-steps : goal.returns-clause-steps
returns-clause-steps g t c =
    let few = c.in-Some.ensures.steps in
    let steps = c.loop-child.invariant.steps in
    omega (arith, few, steps, size_below (scene_of c.args.shown.now.store.now) c.args.h.0)
