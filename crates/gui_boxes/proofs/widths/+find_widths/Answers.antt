use Rattle.std.proofs.Common.{◌≡◌, ◌∙◌, [], refl, sym, ap, subst, ℕ, Bool, true, false, List, get_or, arith, rules}
use Rattle.std.proofs.lemmas.Bool.{false≢true, false_from_ne_true, both_ways}
use Rattle.gui_base.specs.Forest.{Forest, Empty, Tree, has, roots, children_of, tree_at}
use Rattle.gui_tree.proofs.Below.{begins_below, own_tree, steps_below, leaf_tree, whole_tree}
use Rattle.layout_defs.specs.declared.Course.{Course}
use Rattle.layout_defs.specs.declared.Course.TheVariants.{Free, Across, Down}
use Rattle.layout_defs.specs.Boxes.{Box, course_of, inner}
use Rattle.layout_defs.specs.Solving.{kid_widths, kid_widths_by}
use Rattle.layout_defs.specs.Tables.{KeepsOthers}
use Rattle.gui_boxes.specs.Kids.{told_trees, wide_kids}
use Rattle.gui_boxes.specs.Tables.{Listing, IsListed, listing_of, told, AreListed}
use Rattle.gui_boxes.specs.Settled.{Layout, EachKids, WidthsFit, wide_of, width_of}
use Rattle.gui_boxes.specs.Views.{box_at}
use Rattle.gui_boxes.proofs.Keeps.{keeps_same, keeps_then}
use Rattle.gui_boxes.proofs.Kids.{named}
use Rattle.gui_boxes.proofs.Passes.{lowers_top, trees_by, roots_read, widths_pass}
use Rattle.gui_boxes.specs.Touched.{is_touched, IfTouched, IsClosed}
use Rattle.gui_boxes.proofs.Lowered.{Lowered, lowered_none, lowered_first}
use Rattle.gui_boxes.proofs.Touched.{calm_at, calm_then, closed_agree, closed_kids, closed_roots, touched_pass, touches_same}
use Rattle.gui_boxes.proofs.widths.+find_widths.Goals as goal
use Rattle.gui_boxes.proofs.widths.+find_widths.Goals.{In-None}

pub is_touched-requires : goal.is_touched-requires
is_touched-requires t c = c.requires.listed c.args.h.0 (own_tree c.args.tree.now.forest c.args.h.0 c.requires.there)

pub loop-child-init : goal.loop-child-init
loop-child-init t c =
    let f = c.args.tree.now.forest in
    let was = told c.args.entries.now in
    let begun = told c.set_kid_widths.new.entries in
    let begins = begins_below f c.args.h.0 _ (c.into_iter-child-iterator.ensures.into_iter_gives ∙ c.children-child-items.ensures.walk) in
    let set_kids = c.set_kid_widths.ensures in
    record {
      below = begins.is;
      listed = set_kids.listed;
      rest = set_kids.rest;
      more = set_kids.touches.more;
      calm = set_kids.touches.calm;
      closed = rw begins.all (closed_roots (is_touched was) (is_touched begun) set_kids.touches.more (children_of f c.args.h.0) set_kids.roots (closed_kids (is_touched was) f c.args.h.0 c.requires.there c.requires.closed));
      later = λ (t : ℕ → Bool) (u : List ℕ) rest. subst (Lowered was (is_touched begun) t begun.widths u) begins.all rest;
    }

pub find_widths-requires : goal.find_widths-requires
find_widths-requires t c =
    let inv = c.loop-child.invariant in
    let f = c.args.tree.now.forest in
    let touched = is_touched (told c.loop-child.entries) in
    let g = steps_below f c.args.h.0 _ _ _ inv.below c.in-Some.ensures.steps in
    let fewer = g.fewer in
    let listed : AreListed (listing_of c.loop-child.entries) (tree_at f c.in-Some.child.0) = λ k i. subst (λ (ks : Listing). IsListed ks k) (sym inv.listed) (c.requires.listed k (g.inside k i)) in
    let room = c.requires.enough in
    let closed : IsClosed touched (Tree c.in-Some.child.0 g.children c.next.new.self.left) = subst (IsClosed touched) g.left inv.closed in
    (search rules, (listed, (c.requires.few, (g.there, (omega arith, subst (IsClosed touched) (sym g.tree) (closed.0, closed.1, tt))))))

pub loop-child-preserved : goal.loop-child-preserved
loop-child-preserved t c =
    let inv = c.loop-child.invariant in
    let was = told c.args.entries.now in
    let trees = c.next.new.self.left in
    let g = steps_below c.args.tree.now.forest c.args.h.0 _ _ _ inv.below c.in-Some.ensures.steps in
    let h = c.in-Some.child.0 in
    let done = c.find_widths.ensures in
    let before = told c.loop-child.entries in
    let now = told c.find_widths.new.entries in
    let rest : now ≡ record was { widths = now.widths; touched = now.touched } = done.rest ∙ ap (λ (l : Layout). record l { widths = now.widths; touched = now.touched }) inv.rest in
    let found : EachKids (IfTouched (is_touched now) WidthsFit) (trees_by (widths_pass was) now.widths (Tree h g.children Empty)) =
    subst (λ (l : Layout). EachKids (IfTouched (is_touched now) WidthsFit) (told_trees l (Tree h g.children Empty))) rest
    (subst (λ (t : Forest ℕ). EachKids (IfTouched (is_touched now) WidthsFit) (told_trees now t)) g.tree done.found) in
    let closed : IsClosed (is_touched now) (Tree h g.children Empty) = subst (IsClosed (is_touched now)) g.tree done.closed in
    let others = subst (KeepsOthers 0 before.widths now.widths) g.below done.others in
    let touches : (k : ℕ) → has g.children k ≡ false → is_touched now k ≡ is_touched before k = λ k out. done.touches.others k (ap (λ (t : Forest ℕ). has t k) g.below ∙ out) in
    let ahead : IsClosed (is_touched before) (Tree h g.children trees) = subst (IsClosed (is_touched before)) g.left inv.closed in
    record {
      below = g.is;
      listed = done.listed ∙ inv.listed;
      rest = rest;
      more = λ k is. done.touches.more k (inv.more k is);
      calm = calm_then 0 (is_touched before) (is_touched now) was.widths before.widths now.widths done.touches.more inv.calm done.touches.calm;
      closed = closed_agree (is_touched before) (is_touched now) trees (λ k i. touches k (false_from_ne_true (has g.children k) (λ j. both_ways _ (g.once.0 k j) i))) ahead.2;
      later = λ (t : ℕ → Bool) (u : List ℕ) later.
          inv.later t u (subst (Lowered was (is_touched before) t before.widths u) (sym g.left) (lowered_first was (is_touched before) (is_touched now) t before.widths now.widths u h g.children trees g.once found closed others touches later));
    }

-- an object with children
module _ (t : ℕ) (c : In-None t) where
  abbrev f : Forest ℕ
  f = c.args.tree.now.forest

  abbrev h : ℕ
  h = c.args.h.0

  abbrev cs : Forest ℕ
  cs = children_of f h

  abbrev was : Layout
  was = told c.args.entries.now

  abbrev now : Layout
  now = told c.loop-child.entries

  abbrev touched : ℕ → Bool
  touched = is_touched now

  abbrev begun : Layout
  begun = told c.set_kid_widths.new.entries

  lower : Lowered was (is_touched begun) touched begun.widths now.widths cs
  lower = c.loop-child.invariant.later touched now.widths (rw c.in-None.ensures.steps.0 (lowered_none was touched now.widths))

  fits : WidthsFit ((widths_pass was).by begun.widths h) (roots (trees_by (widths_pass was) begun.widths cs))
  fits =
      let by = (widths_pass was).by in
      let out = (whole_tree f h c.children-child-items.ensures.once c.requires.there).out in
      roots_read width_of (by begun.widths) cs
      ∙ (c.set_kid_widths.ensures.kids
      ∙ (ap (λ (own : Box). kid_widths own (get_or was.widths h 0) (wide_kids was f h)) (sym (named was.boxes h))
      ∙ (ap (λ w. kid_widths (by begun.widths h).box w (wide_kids was f h)) (sym (c.set_kid_widths.ensures.others.others h out))
      ∙ ap (kid_widths (by begun.widths h).box (get_or begun.widths h 0)) (roots_read wide_of (by was.widths) cs ∙ sym (roots_read wide_of (by begun.widths) cs)))))

pub returns-clause-found : goal.returns-clause-found
returns-clause-found t c =
    let d = (goal.at.returns-clause-found t c).In-None in
    let whole = whole_tree (f t d) (h t d) c.children-child-items.ensures.once c.requires.there in
    subst (EachKids (IfTouched (touched t d) WidthsFit)) (sym (ap (told_trees (now t d)) whole.tree))
    (subst (λ (l : Layout). EachKids (IfTouched (touched t d) WidthsFit) (told_trees l (Tree (h t d) (cs t d) Empty))) (sym c.loop-child.invariant.rest)
    (lowers_top (touched_pass (touched t d) (widths_pass (was t d))) (begun t d).widths (now t d).widths (h t d) (cs t d) whole.out (λ is. fits t d) (lower t d).lowers))

pub returns-clause-others : goal.returns-clause-others
returns-clause-others t c =
    let d = (goal.at.returns-clause-others t c).In-None in
    keeps_then 0 (was t d).widths (begun t d).widths (now t d).widths (cs t d) c.set_kid_widths.ensures.others (lower t d).lowers.finds.others

-- the object itself is touched
pub returns-clause-closed : goal.returns-clause-closed
returns-clause-closed t c =
    let d = (goal.at.returns-clause-closed t c).In-None in
    let whole = whole_tree (f t d) (h t d) c.children-child-items.ensures.once c.requires.there in
    let is : is_touched (was t d) (h t d) ≡ true = search rules in
    let own : touched t d (h t d) ≡ true = c.loop-child.invariant.more (h t d) is in
    subst (IsClosed (touched t d)) (sym whole.tree) (λ none. absurd (false≢true (sym none ∙ own)), (lower t d).closed, tt)

pub returns-clause-touches : goal.returns-clause-touches
returns-clause-touches t c =
    let d = (goal.at.returns-clause-touches t c).In-None in
    record {
      more = c.loop-child.invariant.more;
      others = λ k out. (lower t d).others k out ∙ c.set_kid_widths.ensures.touches.others k out;
      calm = c.loop-child.invariant.calm;
    }

-- an object without children
none_wide : (course : Course) (box : Box) (room : ℕ) → [] ≡ kid_widths_by course box room []
none_wide Free box room = refl
none_wide Across box room = refl
none_wide Down box room = refl

pub returns-then-is_none-clause-found : goal.returns-then-is_none-clause-found
returns-then-is_none-clause-found t c =
    let l = told c.args.entries.now in
    let h = c.args.h.0 in
    let own = record (box_at l.boxes h) { handle = h } in
    let is = leaf_tree c.args.tree.now.forest h c.first_child.result c.is_none.result c.requires.there c.first_child.ensures c.is_none.ensures c.if-is_none.true in
    subst (EachKids (IfTouched (is_touched l) WidthsFit)) (sym (ap (told_trees l) is)) (λ is. none_wide (course_of own.flow) own (inner own.across (get_or l.widths h 0)), tt, tt)

pub returns-then-is_none-clause-others : goal.returns-then-is_none-clause-others
returns-then-is_none-clause-others t c = keeps_same 0 (told c.args.entries.now).widths (children_of c.args.tree.now.forest c.args.h.0)

pub returns-then-is_none-clause-touches : goal.returns-then-is_none-clause-touches
returns-then-is_none-clause-touches t c = touches_same 0 (is_touched (told c.args.entries.now)) (told c.args.entries.now).widths (children_of c.args.tree.now.forest c.args.h.0)

-- an object that is not touched
pub returns-then-not-is_touched-clause-found : goal.returns-then-not-is_touched-clause-found
returns-then-not-is_touched-clause-found t c =
    let l = told c.args.entries.now in
    calm_at (is_touched l) c.args.tree.now.forest c.args.h.0 c.requires.there c.requires.closed WidthsFit l (search rules)

pub returns-then-not-is_touched-clause-others : goal.returns-then-not-is_touched-clause-others
returns-then-not-is_touched-clause-others t c = keeps_same 0 (told c.args.entries.now).widths (children_of c.args.tree.now.forest c.args.h.0)

pub returns-then-not-is_touched-clause-touches : goal.returns-then-not-is_touched-clause-touches
returns-then-not-is_touched-clause-touches t c = touches_same 0 (is_touched (told c.args.entries.now)) (told c.args.entries.now).widths (children_of c.args.tree.now.forest c.args.h.0)
