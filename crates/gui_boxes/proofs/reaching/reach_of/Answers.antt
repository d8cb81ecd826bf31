use Rattle.std.proofs.Common.{◌≡◌, ◌∙◌, sym, ap, subst, ℕ, ℤ, pos, ◌+ℤ◌, List, map, max, cond, w32, to_z, of_z, refl, arith}
use Rattle.std.proofs.lemmas.Int.{ints, to_z-of_z}
use Rattle.gui_base.specs.Forest.{Forest, Empty, roots, children_of}
use Rattle.gui_tree.proofs.Below.{begins_below, steps_below, own_tree}
use Rattle.layout_defs.specs.Solving.{Tall, far_end, end_across, end_down, reach_in, room_of}
use Rattle.gui_boxes.specs.Kids.{tall_kids, told_trees}
use Rattle.gui_boxes.specs.Scrolls.{at_corner}
use Rattle.gui_boxes.specs.Tables.{told}
use Rattle.gui_boxes.specs.Views.{box_at}
use Rattle.gui_boxes.specs.Settled.{Known, known_at, tall_of}
use Rattle.gui_boxes.specs.Slots.{at_roots}
use Rattle.gui_boxes.proofs.Farthest.{far_step}
use Rattle.gui_boxes.proofs.Kids.{kid_told}
use Rattle.gui_boxes.proofs.reaching.reach_of.Goals as goal

-- a coordinate as it is read
abbrev kept : ℤ → ℤ
kept z = to_z w32 (of_z w32 z)

pub loop-child-init : goal.loop-child-init
loop-child-init c =
    let f = c.args.tree.now.forest in
    let l = told c.args.entries.now in
    let room = at_corner (kept c.inner_corner-x.result) (kept c.inner_corner-y.result) in
    let begins = begins_below f c.args.h.0 _ (c.into_iter-child-iterator.ensures.into_iter_gives ∙ c.children-child-items.ensures.walk) in
    record {
      below = begins.is;
      across = ap (λ (t : Forest ℕ). max 0 (far_end (end_across room) (map tall_of (roots (told_trees l t))) (at_roots l.slots t))) begins.all ∙ omega arith;
      down = ap (λ (t : Forest ℕ). max 0 (far_end (end_down room) (map tall_of (roots (told_trees l t))) (at_roots l.slots t))) begins.all ∙ omega arith;
    }

pub entry_of-own-requires : goal.entry_of-own-requires
entry_of-own-requires c = c.requires.listed c.args.h.0 (own_tree c.args.tree.now.forest c.args.h.0 c.requires.there)

pub entry_of-requires : goal.entry_of-requires
entry_of-requires c = c.requires.listed c.in-Some.child.0 (steps_below c.args.tree.now.forest c.args.h.0 _ _ _ c.loop-child.invariant.below c.in-Some.ensures.steps).own

all_had : (had far : ℕ) → max had 0 ≡ far → had ≡ far
all_had had far is = omega (arith, is)

pub loop-child-preserved : goal.loop-child-preserved
loop-child-preserved c =
    let inv = c.loop-child.invariant in
    let f = c.args.tree.now.forest in
    let l = told c.args.entries.now in
    let room = at_corner (kept c.inner_corner-x.result) (kept c.inner_corner-y.result) in
    let trees = c.next.new.self.left in
    let g = steps_below f c.args.h.0 _ _ _ inv.below c.in-Some.ensures.steps in
    let h = c.in-Some.child.0 in
    let kid = c.entry_of.result.now in
    let is = kid_told l h kid c.entry_of.ensures.told in
    let talls : Forest ℕ → List Tall = λ t. map tall_of (roots (told_trees l t)) in
    let told = known_at (box_at l.boxes) l h in
    let had = c.loop-child.ends in
    let far_across = subst (λ (k : Known). c.farther-ends.result.across ≡ cond k.box.hidden had.across (max had.across (end_across room (tall_of k) k.slot))) is (c.farther-ends.ensures.across h) in
    let far_down = subst (λ (k : Known). c.farther-ends.result.down ≡ cond k.box.hidden had.down (max had.down (end_down room (tall_of k) k.slot))) is (c.farther-ends.ensures.down h) in
    record {
      below = g.is;
      across =
          far_step (end_across room) (tall_of told) (talls trees) told.slot (at_roots l.slots trees) had.across c.farther-ends.result.across far_across
          ∙ (ap (λ (t : Forest ℕ). max had.across (far_end (end_across room) (talls t) (at_roots l.slots t))) (sym g.left) ∙ inv.across);
      down =
          far_step (end_down room) (tall_of told) (talls trees) told.slot (at_roots l.slots trees) had.down c.farther-ends.result.down far_down
          ∙ (ap (λ (t : Forest ℕ). max had.down (far_end (end_down room) (talls t) (at_roots l.slots t))) (sym g.left) ∙ inv.down);
    }

pub returns : goal.returns
returns c =
    let f = c.args.tree.now.forest in
    let h = c.args.h.0 in
    let l = told c.args.entries.now in
    let room = at_corner (kept c.inner_corner-x.result) (kept c.inner_corner-y.result) in
    let inv = c.loop-child.invariant in
    let own = c.entry_of-own.result.now in
    let kids = tall_kids l f h in
    let at = at_roots l.slots (children_of f h) in
    let none : c.loop-child.child-iterator.left ≡ Empty = c.in-None.ensures.steps.0 in
    let across = all_had c.loop-child.ends.across (far_end (end_across room) kids at)
    (ap (λ (t : Forest ℕ). max c.loop-child.ends.across (far_end (end_across room) (map tall_of (roots (told_trees l t))) (at_roots l.slots t))) (sym none) ∙ inv.across) in
    let down = all_had c.loop-child.ends.down (far_end (end_down room) kids at)
    (ap (λ (t : Forest ℕ). max c.loop-child.ends.down (far_end (end_down room) (map tall_of (roots (told_trees l t))) (at_roots l.slots t))) (sym none) ∙ inv.down) in
    let cx = c.inner_corner-x.ensures in
    let cy = c.inner_corner-y.ensures in
    let px : kept own.position.x ≡ own.position.x = let a = own.position.x_fits.0 in let b = own.position.x_fits.1 in to_z-of_z w32 own.position.x (omega (arith, ints)) in
    let py : kept own.position.y ≡ own.position.y = let a = own.position.y_fits.0 in let b = own.position.y_fits.1 in to_z-of_z w32 own.position.y (omega (arith, ints)) in
    let x : kept c.inner_corner-x.result ≡ own.position.x +ℤ pos own.wanted.across.before =
    (let a = cx.least in let b = cx.most in to_z-of_z w32 c.inner_corner-x.result (omega (arith, ints))) ∙ (cx.value ∙ ap (λ z. z +ℤ pos own.wanted.across.before) px) in
    let y : kept c.inner_corner-y.result ≡ own.position.y +ℤ pos own.wanted.down.before =
    (let a = cy.least in let b = cy.most in to_z-of_z w32 c.inner_corner-y.result (omega (arith, ints))) ∙ (cy.value ∙ ap (λ z. z +ℤ pos own.wanted.down.before) py) in
    subst (λ (k : Known). record { across = c.saturating_sub.result; down = c.saturating_sub-2.result } ≡ reach_in (room_of (tall_of k) k.slot) kids at) (kid_told l h own c.entry_of-own.ensures.told)
    (rw (c.saturating_sub.ensures, c.saturating_sub-2.ensures, across, down, x, y, c.inner-wide.ensures.value, c.inner-high.ensures.value) refl)
