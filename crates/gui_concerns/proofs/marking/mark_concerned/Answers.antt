use Rattle.std.proofs.Common.{◌≡◌, ◌∙◌, sym, ap, refl, ℕ, Bool, true, false, eqb, ◌&&◌, ◌||◌}
use Rattle.gui_base.specs.Forest.{Forest, has, tree_at}
use Rattle.gui_store.specs.Views.{scene_of}
use Rattle.scene_defs.specs.Scene.{is_there}
use Rattle.gui_concerns.specs.Concerned.{is_below, may_be}
use Rattle.gui_concerns.specs.declared.concerned.Concerned.{Concerned}
use Rattle.gui_concerns.proofs.Marked.{in-tree}
use Rattle.gui_concerns.proofs.Marks.{also-alike, also-both, flip-eqb}
use Rattle.gui_concerns.proofs.marking.mark_concerned.Goals as goal

pub returns-in-Below-clause-marks : goal.returns-in-Below-clause-marks
returns-in-Below-clause-marks c =
    let scene = scene_of c.args.store.now in
    let h = c.in-Below.h in
    also-alike c.args.marks.now c.mark_below.new.marks (λ k. has (tree_at c.tree-tree.result.now.forest h.0) k) (λ k. is_there scene k && may_be scene c.args.concerned k) c.mark_below.ensures.marks
    (λ k. ap (λ (f : Forest ℕ). has (tree_at f h.0) k) c.tree-tree.ensures.forest
    ∙ (in-tree scene c.tree-tree.ensures.valid k h ∙ ap (λ (d : Concerned). is_there scene k && may_be scene d k) (sym c.in-Below.is)))

-- a tree, and two that may lie elsewhere
besides : (t w a b : Bool) → (((t && w) || (a && t)) || (b && t)) ≡ (t && ((a || b) || w))
besides true true true b = refl
besides true true false true = refl
besides true true false false = refl
besides true false true b = refl
besides true false false true = refl
besides true false false false = refl
besides false w true true = refl
besides false w true false = refl
besides false w false true = refl
besides false w false false = refl

pub returns-in-Moved-clause-marks : goal.returns-in-Moved-clause-marks
returns-in-Moved-clause-marks c =
    let scene = scene_of c.args.store.now in
    let trees = c.tree-tree.result.now.forest in
    let h = c.in-Moved.h in
    let p = c.in-Moved.p.0 in
    let q = c.in-Moved.q.0 in
    let below = λ (k : ℕ). has (tree_at trees h.0) k in
    let before = λ (k : ℕ). eqb p k && has trees k in
    let after = λ (k : ℕ). eqb q k && has trees k in
    let one = c.mark_below-in-Moved.new.marks in
    let two = c.mark_there-in-Moved.new.marks in
    let three = c.mark_there-in-Moved-2.new.marks in
    also-alike c.args.marks.now three (λ k. (below k || before k) || after k) (λ k. is_there scene k && may_be scene c.args.concerned k)
    (also-both c.args.marks.now two three (λ k. below k || before k) after
    (also-both c.args.marks.now one two below before c.mark_below-in-Moved.ensures.marks c.mark_there-in-Moved.ensures.marks) c.mark_there-in-Moved-2.ensures.marks)
    (λ k.
    ap (λ (f : Forest ℕ). (has (tree_at f h.0) k || (eqb p k && has f k)) || (eqb q k && has f k)) c.tree-tree.ensures.forest
    ∙ (ap (λ (b : Bool). (b || (eqb p k && is_there scene k)) || (eqb q k && is_there scene k)) (in-tree scene c.tree-tree.ensures.valid k h)
    ∙ (besides (is_there scene k) (is_below scene h.0 k) (eqb p k) (eqb q k)
    ∙ (ap (λ (b : Bool). is_there scene k && ((b || eqb q k) || is_below scene h.0 k)) (flip-eqb p k)
    ∙ (ap (λ (b : Bool). is_there scene k && ((eqb k p || b) || is_below scene h.0 k)) (flip-eqb q k)
    ∙ ap (λ (d : Concerned). is_there scene k && may_be scene d k) (sym c.in-Moved.is))))))
