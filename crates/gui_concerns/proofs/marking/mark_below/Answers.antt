use Rattle.std.proofs.Common.{◌≡◌, ◌∙◌, sym, ap, ℕ, Bool, false, eqb, ◌||◌}
use Rattle.std.proofs.lemmas.Bool.{both_ways, false_from_ne_true}
use Rattle.gui_base.specs.Forest.{Forest, has, children_of, tree_at}
use Rattle.gui_boxes.specs.Marks.{is_changed}
use Rattle.gui_tree.specs.Walks.{Walk}
use Rattle.gui_tree.proofs.Below.{tree_is}
use Rattle.gui_boxes.proofs.InTrees.{tree-there}
use Rattle.gui_concerns.specs.Marking.{AlsoMarks}
use Rattle.gui_concerns.proofs.Marked.{still-one}
use Rattle.gui_concerns.proofs.Marks.{also-alike, also-both, also-mark, or-false, room}
use Rattle.gui_concerns.proofs.marking.mark_below.Goals as goal
use Rattle.gui_concerns.proofs.marking.mark_below.Goals.{After-mark}

-- An object that is not there has nothing below it.
pub returns-then-not-has-clause-marks : goal.returns-then-not-has-clause-marks
returns-then-not-has-clause-marks c =
    let f = c.args.tree.now.forest in
    let h = c.args.h.0 in
    let gone : has f h ≡ false = sym c.has.ensures ∙ c.if-not-has.true in
    record {
      changed = λ k.
          let none : has (tree_at f h) k ≡ false = false_from_ne_true (has (tree_at f h) k) (λ i. both_ways (has f h) gone (tree-there h k f i)) in
          rw none (or-false (is_changed c.args.marks.now k));
      parents = λ k is. is;
    }

own : (c : After-mark) → AlsoMarks c.args.marks.now c.mark.new.self (λ k. eqb c.args.h.0 k)
own c = also-mark c.args.marks.now c.mark.new.self c.args.h.0 c.mark.ensures.own c.mark.ensures.others c.mark.ensures.parents

pub mark-requires : goal.mark-requires
mark-requires c = record { room = room c.args.marks.now c.args.tree.now.forest c.args.h c.requires.room (sym c.has.ensures ∙ c.if-not-has.false) }

pub mark_trees-requires : goal.mark_trees-requires
mark_trees-requires c =
    let d = (goal.at.mark_trees-requires c).After-mark in
    record {
      same = ap (λ (w : Walk). w.forest) c.children.ensures.walk;
      room = still-one c.args.marks.now c.mark.new.self c.args.tree.now.forest c.args.h.0 c.requires.room (sym c.has.ensures ∙ c.if-not-has.false) (own d) c.mark.ensures.most;
    }

pub returns-clause-marks : goal.returns-clause-marks
returns-clause-marks c =
    let d = (goal.at.returns-clause-marks c).After-mark in
    let f = c.args.tree.now.forest in
    let h = c.args.h.0 in
    let kids = c.children.result.left in
    also-alike c.args.marks.now c.mark_trees.new.marks (λ k. eqb h k || has kids k) (λ k. has (tree_at f h) k)
    (also-both c.args.marks.now c.mark.new.self c.mark_trees.new.marks (λ k. eqb h k) (λ k. has kids k) (own d) c.mark_trees.ensures.marks)
    (λ k.
    ap (λ (w : Walk). eqb h k || has w.left k) c.children.ensures.walk
    ∙ (ap (λ (b : Bool). eqb h k || b) (or-false (has (children_of f h) k)) ∙ ap (λ (t : Forest ℕ). has t k) (sym (tree_is f h (sym c.has.ensures ∙ c.if-not-has.false)))))
