use Rattle.std.proofs.Common.{◌≡◌, ◌∙◌, sym, ap, subst, ℕ, List, ◌∷◌, map, max, cond, drop, refl, arith}
use Rattle.gui_base.specs.Forest.{Forest, Empty, children_of}
use Rattle.gui_tree.proofs.Below.{begins_below, steps_below}
use Rattle.layout_defs.specs.Solving.{Slot, Tall, dealt, far_end, end_across, end_down, own_slot, tall_box}
use Rattle.gui_boxes.specs.Settled.{Known, known_at, tall_of}
use Rattle.gui_boxes.specs.Slots.{item_slot, room_in, slot_of}
use Rattle.gui_boxes.specs.Tables.{told}
use Rattle.gui_boxes.specs.Views.{box_at}
use Rattle.gui_boxes.proofs.Farthest.{far_step}
use Rattle.gui_boxes.proofs.Flows.{talls}
use Rattle.gui_boxes.proofs.Kids.{kid_told}
use Rattle.gui_boxes.proofs.positions.flat_reach.Goals as goal

pub loop-child-init : goal.loop-child-init
loop-child-init c =
    let l = told c.args.entries.now in
    let room = room_in c.args.area.inside in
    let flow = map (item_slot c.args.area.course room) c.args.items.now in
    let far : (Tall → Slot → ℕ) → Forest ℕ → ℕ = λ end trees. far_end end (talls l room trees) (dealt tall_box (own_slot room) (talls l room trees) flow) in
    let begins = begins_below c.args.tree.now.forest c.args.h.0 _ (c.into_iter-child-iterator.ensures.into_iter_gives ∙ c.children-child-items.ensures.walk) in
    record {
      below = begins.is;
      within = omega arith;
      across = ap (λ (t : Forest ℕ). max 0 (far (end_across room) t)) begins.all ∙ omega arith;
      down = ap (λ (t : Forest ℕ). max 0 (far (end_down room) t)) begins.all ∙ omega arith;
    }

pub entry_of-kid-requires : goal.entry_of-kid-requires
entry_of-kid-requires c = c.requires.listed c.in-Some.child.0 (steps_below c.args.tree.now.forest c.args.h.0 _ _ _ c.loop-child.invariant.below c.in-Some.ensures.steps).own

all_had : (had far : ℕ) → max had 0 ≡ far → had ≡ far
all_had had far is = omega (arith, is)

pub loop-child-preserved : goal.loop-child-preserved
loop-child-preserved c =
    let inv = c.loop-child.invariant in
    let l = told c.args.entries.now in
    let room = room_in c.args.area.inside in
    let made = item_slot c.args.area.course room in
    let trees = c.next.new.self.left in
    let g = steps_below c.args.tree.now.forest c.args.h.0 _ _ _ inv.below c.in-Some.ensures.steps in
    let h = c.in-Some.child.0 in
    let kid = c.entry_of-kid.result.now in
    let is = kid_told l h kid c.entry_of-kid.ensures.told in
    let told_kid = known_at (box_at l.boxes) l h in
    let slot = slot_of c.dealt_position-later.result.0 in
    let flow = map made (drop c.loop-child.i c.args.items.now) in
    let later = map made (drop c.dealt_position-later.result.1 c.args.items.now) in
    let slots = dealt tall_box (own_slot room) (talls l room trees) later in
    let had = c.loop-child.ends in
    let dealt_is : dealt tall_box (own_slot room) (tall_of told_kid ∷ talls l room trees) flow ≡ slot ∷ slots =
    subst (λ (k : Known). dealt tall_box (own_slot room) (tall_of k ∷ talls l room trees) flow ≡ slot ∷ slots) is (c.dealt_position-later.ensures.value h (talls l room trees)) in
    let far : (Tall → Slot → ℕ) → Forest ℕ → ℕ = λ end t. far_end end (talls l room t) (dealt tall_box (own_slot room) (talls l room t) flow) in
    let far_across = subst (λ (k : Known). c.farther_at-ends.result.across ≡ cond k.box.hidden had.across (max had.across (end_across room (tall_of k) slot))) is (c.farther_at-ends.ensures.across h) in
    let far_down = subst (λ (k : Known). c.farther_at-ends.result.down ≡ cond k.box.hidden had.down (max had.down (end_down room (tall_of k) slot))) is (c.farther_at-ends.ensures.down h) in
    record {
      below = g.is;
      within = c.dealt_position-later.ensures.within;
      across =
          far_step (end_across room) (tall_of told_kid) (talls l room trees) slot slots had.across c.farther_at-ends.result.across far_across
          ∙ (ap (λ (ss : List Slot). max had.across (far_end (end_across room) (tall_of told_kid ∷ talls l room trees) ss)) (sym dealt_is)
          ∙ (ap (λ (t : Forest ℕ). max had.across (far (end_across room) t)) (sym g.left) ∙ inv.across));
      down =
          far_step (end_down room) (tall_of told_kid) (talls l room trees) slot slots had.down c.farther_at-ends.result.down far_down
          ∙ (ap (λ (ss : List Slot). max had.down (far_end (end_down room) (tall_of told_kid ∷ talls l room trees) ss)) (sym dealt_is)
          ∙ (ap (λ (t : Forest ℕ). max had.down (far (end_down room) t)) (sym g.left) ∙ inv.down));
    }

pub returns : goal.returns
returns c =
    let inv = c.loop-child.invariant in
    let l = told c.args.entries.now in
    let room = room_in c.args.area.inside in
    let made = item_slot c.args.area.course room in
    let had = c.loop-child.ends in
    let cs = children_of c.args.tree.now.forest c.args.h.0 in
    let all = map made c.args.items.now in
    let flow = map made (drop c.loop-child.i c.args.items.now) in
    let far : (Tall → Slot → ℕ) → Forest ℕ → List Slot → ℕ = λ end t ys. far_end end (talls l room t) (dealt tall_box (own_slot room) (talls l room t) ys) in
    let none : c.loop-child.child-iterator.left ≡ Empty = c.in-None.ensures.steps.0 in
    let across = all_had had.across (far (end_across room) cs all) (ap (λ (t : Forest ℕ). max had.across (far (end_across room) t flow)) (sym none) ∙ inv.across) in
    let down = all_had had.down (far (end_down room) cs all) (ap (λ (t : Forest ℕ). max had.down (far (end_down room) t flow)) (sym none) ∙ inv.down) in
    rw (c.saturating_sub.ensures, c.saturating_sub-2.ensures, across, down) refl
