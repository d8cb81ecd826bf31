use Rattle.std.proofs.Common.{◌∙◌, sym, ap, subst, refl}
use Rattle.gui_base.specs.Forest.{Empty, Tree, tree_at}
use Rattle.gui_tree.specs.Walks.{Walk}
use Rattle.gui_tree.proofs.Steps.{child_in}
use Rattle.gui_boxes.specs.Layouts.{KeepsRest}
use Rattle.gui_boxes.specs.Scrolls.{HoldsScrolls}
use Rattle.gui_boxes.specs.Settled.{Layout, known, AllFit}
use Rattle.gui_store.specs.Views.{scene_of}
use Rattle.gui_layout.specs.Scenes.{scene_box}
use Rattle.gui_layout.proofs.Renewals.{holds-still, renewed-in}
use Rattle.gui_boxes.specs.Tables.{Listing, IsListed, AreListed, told}
use Rattle.gui_boxes.proofs.InTrees.{tree-in}
use Rattle.gui_layout.proofs.Ready.{calm-touched}
use Rattle.gui_layout.proofs.Solves.{Solves, solves_none, solves_first}
use Rattle.gui_layout.proofs.all.solve_trees.Goals as goal
use Rattle.gui_layout.proofs.all.solve_trees.Goals.{In-None}

pub loop-root-init : goal.loop-root-init
loop-root-init c =
    let is = c.into_iter-root-iterator.ensures.into_iter_gives ∙ c.roots-root-items.ensures.walk in
    record {
      same = ap (λ (w : Walk). w.forest) is;
      boxes = c.requires.boxes;
      touched = c.requires.touched;
      listed = refl;
      later = λ (now : Layout) all.
          subst (Solves (scene_box (scene_of c.args.store.now)) c.args.width.pixels c.args.height.pixels (told c.args.entries.now) now) (ap (λ (w : Walk). w.left) is) all;
    }

pub solve_tree-requires-clause-boxes : goal.solve_tree-requires-clause-boxes
solve_tree-requires-clause-boxes c =
    let f = c.args.tree.now.forest in
    let inv = c.loop-root.invariant in
    renewed-in (scene_of c.args.store.now) c.loop-root.entries f c.in-Some.root.0 inv.boxes (subst (λ (ks : Listing). AreListed ks f) (sym inv.listed) c.requires.listed)

pub solve_tree-requires-clause-listed : goal.solve_tree-requires-clause-listed
solve_tree-requires-clause-listed c k i = subst (λ (ks : Listing). IsListed ks k) (sym c.loop-root.invariant.listed) (c.requires.listed k (tree-in c.in-Some.root.0 k c.args.tree.now.forest i))

pub solve_tree-requires-clause-once : goal.solve_tree-requires-clause-once
solve_tree-requires-clause-once c = c.roots-root-items.ensures.once

pub solve_tree-requires-clause-there : goal.solve_tree-requires-clause-there
solve_tree-requires-clause-there c = (child_in c.args.tree.now.forest _ _ _ c.loop-root.invariant.same c.in-Some.ensures.steps).there

pub solve_tree-requires-clause-own : goal.solve_tree-requires-clause-own
solve_tree-requires-clause-own c = c.loop-root.invariant.touched c.in-Some.root.0 (child_in c.args.tree.now.forest _ _ _ c.loop-root.invariant.same c.in-Some.ensures.steps).there

pub solve_tree-requires-clause-calm : goal.solve_tree-requires-clause-calm
solve_tree-requires-clause-calm c =
    let f = c.args.tree.now.forest in
    calm-touched (scene_box (scene_of c.args.store.now)) (told c.loop-root.entries) (tree_at f c.in-Some.root.0) (λ k i. c.loop-root.invariant.touched k (tree-in c.in-Some.root.0 k f i))

pub loop-root-preserved : goal.loop-root-preserved
loop-root-preserved c =
    let inv = c.loop-root.invariant in
    let box = scene_box (scene_of c.args.store.now) in
    let w = c.args.width.pixels in
    let n = c.args.height.pixels in
    let g = child_in c.args.tree.now.forest _ _ _ inv.same c.in-Some.ensures.steps in
    let h = c.in-Some.root.0 in
    let was = told c.loop-root.entries in
    let now = told c.solve_tree.new.entries in
    let done = c.solve_tree.ensures in
    let first : Solves box w n was now (Tree h g.children Empty) = record {
      settled = record {
        fit = subst (λ t. AllFit (known box now t)) g.tree done.fit;
        fill = (record { is_wide = done.stands.width; at_corner = done.stands.slot }, tt);
      };
      scrolled = subst (HoldsScrolls box now.widths now.natural_heights now.slots now.scrolls) g.tree done.scrolled;
      others = subst (KeepsRest was now) g.tree done.others;
    } in
    record {
      same = g.forest;
      boxes = holds-still (scene_of c.args.store.now) c.loop-root.entries c.solve_tree.new.entries inv.boxes done.boxes done.listed;
      touched = λ k i. done.moves.more k (inv.touched k i);
      listed = done.listed ∙ inv.listed;
      later = λ (last : Layout) all. inv.later last (subst (Solves box w n was last) (sym g.left) (solves_first box w n was now last h g.children _ g.once first all));
    }

all_solved : (c : In-None) → Solves (scene_box (scene_of c.args.store.now)) c.args.width.pixels c.args.height.pixels (told c.args.entries.now) (told c.loop-root.entries) c.args.tree.now.forest
all_solved c =
    let now = told c.loop-root.entries in
    c.loop-root.invariant.later now (rw c.in-None.ensures.steps.0 (solves_none (scene_box (scene_of c.args.store.now)) c.args.width.pixels c.args.height.pixels now))

pub returns-clause-settled : goal.returns-clause-settled
returns-clause-settled c = (all_solved (goal.at.returns-clause-settled c).In-None).settled

pub returns-clause-scrolled : goal.returns-clause-scrolled
returns-clause-scrolled c = (all_solved (goal.at.returns-clause-scrolled c).In-None).scrolled
