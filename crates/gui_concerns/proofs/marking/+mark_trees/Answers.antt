use Rattle.std.proofs.Common.{◌≡◌, ◌<◌, ◌≤◌, ◌∙◌, sym, ap, refl, ℕ, Bool, eqb, ◌||◌, arith, rules}
use Rattle.gui_base.specs.Forest.{Forest, Tree, has, size}
use Rattle.gui_tree.specs.Walks.{Walk}
use Rattle.gui_tree.proofs.Steps.{IsChild, child_in}
use Rattle.gui_boxes.specs.Marks.{is_changed}
use Rattle.gui_concerns.specs.Marking.{AlsoMarks}
use Rattle.gui_concerns.proofs.Marked.{still-one}
use Rattle.gui_concerns.proofs.Marks.{also-mark, or-false, or-three, room}
use Rattle.gui_concerns.proofs.marking.+mark_trees.Goals as goal
use Rattle.gui_concerns.proofs.marking.+mark_trees.Goals.{In-Some, After-mark}

pub loop-h-init : goal.loop-h-init
loop-h-init t c =
    let is = c.into_iter-h-iterator.ensures.into_iter_gives in
    record {
      same = ap (λ (w : Walk). w.forest) is ∙ c.requires.same;
      fewer = rw is (omega arith);
      room = c.requires.room;
      changed = λ k. ap (λ (w : Walk). is_changed c.args.marks.now k || has w.left k) is;
      most = refl;
      parents = λ k is. is;
    }

child : (t : ℕ) (c : In-Some t) → IsChild c.args.tree.now.forest c.loop-h.h-iterator c.in-Some.h.0 c.next.new.self
child t c = child_in c.args.tree.now.forest c.loop-h.h-iterator c.next.new.self c.in-Some.h.0 c.loop-h.invariant.same c.in-Some.ensures.steps

pub mark-requires : goal.mark-requires
mark-requires t c = record { room = room c.loop-h.marks c.args.tree.now.forest c.in-Some.h c.loop-h.invariant.room (child t (goal.at.mark-requires t c).In-Some).there }

-- the object itself is marked
own : (t : ℕ) (c : After-mark t) → AlsoMarks c.loop-h.marks c.mark.new.self (λ k. eqb c.in-Some.h.0 k)
own t c = also-mark c.loop-h.marks c.mark.new.self c.in-Some.h.0 c.mark.ensures.own c.mark.ensures.others c.mark.ensures.parents

pub mark_trees-requires : goal.mark_trees-requires
mark_trees-requires t c =
    let d = (goal.at.mark_trees-requires t c).In-Some in
    let f = c.args.tree.now.forest in
    let inv = c.loop-h.invariant in
    let g = child t d in
    let below : c.children.result.left ≡ g.children = ap (λ (w : Walk). w.left) c.children.ensures.walk ∙ g.below in
    let fewer : size (Tree c.in-Some.h.0 g.children c.next.new.self.left) ≤ size c.args.trees.left = rw g.left at inv.fewer in
    let smaller : size c.children.result.left < size c.args.trees.left = rw below (omega arith) in
    let still = still-one c.loop-h.marks c.mark.new.self f c.in-Some.h.0 inv.room g.there (own t (goal.at.mark_trees-requires t c).After-mark) c.mark.ensures.most in
    (search rules, (ap (λ (w : Walk). w.forest) c.children.ensures.walk, still))

pub loop-h-preserved : goal.loop-h-preserved
loop-h-preserved t c =
    let inv = c.loop-h.invariant in
    let g = child t (goal.at.loop-h-preserved t c).In-Some in
    let h = c.in-Some.h.0 in
    let later = c.next.new.self.left in
    let one = own t (goal.at.loop-h-preserved t c).After-mark in
    let done = c.mark_trees.ensures in
    let below : c.children.result.left ≡ g.children = ap (λ (w : Walk). w.left) c.children.ensures.walk ∙ g.below in
    let fewer : size (Tree h g.children later) ≤ size c.args.trees.left = rw g.left at inv.fewer in
    record {
      same = g.forest;
      fewer = omega arith;
      room = done.room;
      changed = λ k.
          let low : is_changed c.mark_trees.new.marks k ≡ ((is_changed c.loop-h.marks k || eqb h k) || has g.children k) =
          done.marks.changed k ∙ (ap (λ (t : Forest ℕ). is_changed c.mark.new.self k || has t k) below ∙ ap (λ (b : Bool). b || has g.children k) (one.changed k)) in
          ap (λ (b : Bool). b || has later k) low
          ∙ (or-three (is_changed c.loop-h.marks k || eqb h k) (has g.children k) (has later k)
          ∙ (or-three (is_changed c.loop-h.marks k) (eqb h k) (has g.children k || has later k)
          ∙ (ap (λ (t : Forest ℕ). is_changed c.loop-h.marks k || has t k) (sym g.left) ∙ inv.changed k)));
      most = done.most ∙ (c.mark.ensures.most ∙ inv.most);
      parents = λ k is. inv.parents k (one.parents k (done.marks.parents k is));
    }

pub returns-clause-marks : goal.returns-clause-marks
returns-clause-marks t c = record {
  changed = λ k. or-false (is_changed c.loop-h.marks k) ∙ (ap (λ (t : Forest ℕ). is_changed c.loop-h.marks k || has t k) (sym c.in-None.ensures.steps.0) ∙ c.loop-h.invariant.changed k);
  parents = c.loop-h.invariant.parents;
}
