use Rattle.std.proofs.Common.{◌≡◌, ◌∙◌, sym, ap, subst, true, List, Option, rules}
use Rattle.std.proofs.lemmas.Bool.{false≢true}
use Rattle.gui_base.specs.Forest.{Empty, Tree, children_of, tree_at}
use Rattle.gui_store.specs.Views.{scene_of}
use Rattle.gui_tree.proofs.Below.{begins_below, steps_below, tree_is, own_tree}
use Rattle.gui_boxes.specs.declared.layout_box.LayoutBox.{LayoutBox}
use Rattle.gui_layout.specs.OwnHeights.{IsFixed, AreFixedIf, KeepsFixed}
use Rattle.gui_layout.specs.Scenes.{scene_box}
use Rattle.gui_boxes.specs.Settled.{Layout}
use Rattle.gui_boxes.specs.Tables.{Listing, IsListed, listing_of, told, AreListed}
use Rattle.gui_boxes.proofs.Each.{each_none, each_top, each_first}
use Rattle.gui_layout.specs.Renewed.{AreRenewed}
use Rattle.gui_boxes.specs.Touched.{is_touched, IsClosed}
use Rattle.gui_boxes.proofs.Touched.{closed_kids, calm_all}
use Rattle.gui_layout.proofs.own_heights.+set_own_heights.Goals as goal

pub set_own_height-requires-clause-boxes : goal.set_own_height-requires-clause-boxes
set_own_height-requires-clause-boxes t c = c.requires.boxes c.args.h.0 (own_tree c.args.tree.now.forest c.args.h.0 c.requires.there)

pub set_own_height-requires-clause-listed : goal.set_own_height-requires-clause-listed
set_own_height-requires-clause-listed t c = c.requires.listed c.args.h.0 (own_tree c.args.tree.now.forest c.args.h.0 c.requires.there)

pub loop-child-init : goal.loop-child-init
loop-child-init t c =
    let begins = begins_below c.args.tree.now.forest c.args.h.0 _ (c.into_iter-child-iterator.ensures.into_iter_gives ∙ c.children-child-items.ensures.walk) in
    let box = scene_box (scene_of c.args.store.now) in
    let w = (told c.args.entries.now).widths in
    let touched = is_touched (told c.args.entries.now) in
    record {
      below = begins.is;
      boxes = c.set_own_height.ensures.boxes;
      listed = c.set_own_height.ensures.listed;
      rest = c.set_own_height.ensures.rest;
      kept = c.set_own_height.ensures.kept;
      closed = rw begins.all (closed_kids touched c.args.tree.now.forest c.args.h.0 c.requires.there c.requires.closed);
      top = c.set_own_height.ensures.fixed;
      later = λ u kept fixed. subst (AreFixedIf touched box w u) begins.all fixed;
    }

pub set_own_heights-requires : goal.set_own_heights-requires
set_own_heights-requires t c =
    let inv = c.loop-child.invariant in
    let f = c.args.tree.now.forest in
    let g = steps_below f c.args.h.0 _ _ _ inv.below c.in-Some.ensures.steps in
    let fewer = g.fewer in
    let listed : AreListed (listing_of c.loop-child.entries) (tree_at f c.in-Some.child.0) = λ k i. subst (λ (ks : Listing). IsListed ks k) (sym inv.listed) (c.requires.listed k (g.inside k i)) in
    let renewed : AreRenewed (scene_of c.args.store.now) (told c.loop-child.entries).boxes (tree_at f c.in-Some.child.0) = λ k i. inv.boxes k (c.requires.boxes k (g.inside k i)) in
    let touched = is_touched (told c.args.entries.now) in
    let closed : IsClosed touched (Tree c.in-Some.child.0 g.children c.next.new.self.left) = subst (IsClosed touched) g.left inv.closed in
    let first : IsClosed (is_touched (told c.loop-child.entries)) (tree_at f c.in-Some.child.0) =
    subst (λ (l : Layout). IsClosed (is_touched l) (tree_at f c.in-Some.child.0)) (sym inv.rest) (subst (IsClosed touched) (sym g.tree) (closed.0, closed.1, tt)) in
    (search rules, (listed, (g.there, (renewed, first))))

pub loop-child-preserved : goal.loop-child-preserved
loop-child-preserved t c =
    let inv = c.loop-child.invariant in
    let done = c.set_own_heights.ensures in
    let box = scene_box (scene_of c.args.store.now) in
    let w = (told c.args.entries.now).widths in
    let touched = is_touched (told c.args.entries.now) in
    let g = steps_below c.args.tree.now.forest c.args.h.0 _ _ _ inv.below c.in-Some.ensures.steps in
    let h = c.in-Some.child.0 in
    let closed : IsClosed touched (Tree h g.children c.next.new.self.left) = subst (IsClosed touched) g.left inv.closed in
    let now = (told c.set_own_heights.new.entries).boxes in
    let first : AreFixedIf touched box w now (Tree h g.children Empty) = subst (λ (l : Layout). AreFixedIf touched box l.widths now (Tree h g.children Empty)) inv.rest (subst (AreFixedIf touched box (told c.loop-child.entries).widths now) g.tree (subst (λ (l : Layout). AreFixedIf (is_touched l) box (told c.loop-child.entries).widths now (tree_at c.args.tree.now.forest h)) inv.rest done.fixed)) in
    let keeps : KeepsFixed box w (told c.loop-child.entries).boxes now = subst (λ (l : Layout). KeepsFixed box l.widths (told c.loop-child.entries).boxes now) inv.rest done.kept in
    record {
      below = g.is;
      boxes = λ k was. done.boxes k (inv.boxes k was);
      listed = done.listed ∙ inv.listed;
      rest = done.rest ∙ ap (λ (l : Layout). record l { boxes = now }) inv.rest;
      kept = λ k is. keeps k (inv.kept k is);
      closed = closed.2;
      top = keeps c.args.h.0 inv.top;
      later = λ (u : List (Option LayoutBox)) kept fixed.
          inv.later u (λ k is. kept k (keeps k is))
          (subst (AreFixedIf touched box w u) (sym g.left) (each_first (λ k. touched k ≡ true → IsFixed box w u k) h g.children _ (λ k inside is. kept k (first k inside is)) fixed));
    }

pub returns-clause-fixed : goal.returns-clause-fixed
returns-clause-fixed t c =
    let f = c.args.tree.now.forest in
    let box = scene_box (scene_of c.args.store.now) in
    let w = (told c.args.entries.now).widths in
    let touched = is_touched (told c.args.entries.now) in
    let u = (told c.loop-child.entries).boxes in
    let inv = c.loop-child.invariant in
    let below = inv.later u (λ k is. is) (subst (AreFixedIf touched box w u) (sym c.in-None.ensures.steps.0) (each_none (λ k. touched k ≡ true → IsFixed box w u k))) in
    subst (AreFixedIf touched box w u) (sym (tree_is f c.args.h.0 c.requires.there)) (each_top (λ k. touched k ≡ true → IsFixed box w u k) c.args.h.0 (children_of f c.args.h.0) (λ is. inv.top) below)

-- an object that is not touched
pub is_touched-requires : goal.is_touched-requires
is_touched-requires t c = c.requires.listed c.args.h.0 (own_tree c.args.tree.now.forest c.args.h.0 c.requires.there)

pub returns-then-not-is_touched-clause-fixed : goal.returns-then-not-is_touched-clause-fixed
returns-then-not-is_touched-clause-fixed t c =
    let touched = is_touched (told c.args.entries.now) in
    λ k i is. absurd (false≢true (sym (calm_all touched c.args.tree.now.forest c.args.h.0 c.requires.there c.requires.closed (search rules) k i) ∙ is))
