use Rattle.std.proofs.Common.{◌≡◌, ◌∙◌, ap, sym, subst, ℕ, Bool, true, false, eqb, ◌||◌, inl, inr, arith}
use Rattle.std.proofs.lemmas.Bool.{cases_Bool, eqb-true}
use Rattle.gui_base.specs.Forest.{Forest, has, tree_at}
use Rattle.gui_pool.specs.Table.{value_at}
use Rattle.gui_store.specs.Views.{scene_of}
use Rattle.scene_defs.specs.Scene.{handles_of}
use Rattle.gui_boxes.specs.Marks.{is_changed, is_parent, most_marks}
use Rattle.gui_boxes.specs.declared.marks.Marks.{Marks}
use Rattle.gui_boxes.proofs.Pendings.{all-any, any-part, part-any}
use Rattle.gui_concerns.specs.Marking.{AreMarked}
use Rattle.gui_concerns.proofs.Marks.{none-changed, none-there, room, unmarked-by}
use Rattle.gui_concerns.proofs.marking.mark_reparented.Goals as goal
use Rattle.gui_concerns.proofs.marking.mark_reparented.Goals.{After-mark_below}

-- What is marked still lies in these trees after the children of one of theirs are marked as others.
still-parent : (old new : Marks) (f : Forest ℕ) (p : ℕ) → AreMarked old f → has f p ≡ true → ((k : ℕ) → is_changed new k ≡ is_changed old k) → ((k : ℕ) → eqb k p ≡ false → is_parent new k ≡ is_parent old k) →
    most_marks new ≡ most_marks old → AreMarked new f
still-parent old new f p was there all parents most = record {
  there = λ k is. elim (cases_Bool (eqb k p)) [
    | inl own ↦ subst (λ j. has f j ≡ true) (sym (eqb-true k p own)) there
    | inr other ↦ elim (cases_Bool (is_changed new k)) [
      | inl changed ↦ was.there k (all-any (value_at old.pending k) (sym (all k) ∙ changed))
      | inr off ↦ was.there k (part-any (value_at old.pending k) (sym (parents k other) ∙ any-part (value_at new.pending k) is off))
    ]
  ];
  room = let fit = was.room in omega arith;
}

pub mark_below-requires : goal.mark_below-requires
mark_below-requires c = record {
  room = subst (λ (f : Forest ℕ). AreMarked c.args.marks.now f) (sym c.tree.ensures.forest) (none-there c.args.marks.now (scene_of c.args.store.now) c.tree.ensures.valid c.requires.none);
}

marked : (c : After-mark_below) → AreMarked c.mark_below.new.marks (handles_of (scene_of c.args.store.now).trees)
marked c = subst (λ (f : Forest ℕ). AreMarked c.mark_below.new.marks f) c.tree.ensures.forest c.mark_below.ensures.room

pub mark_children-requires : goal.mark_children-requires
mark_children-requires c =
    record { room = room c.mark_below.new.marks (handles_of (scene_of c.args.store.now).trees) c.args.new (marked (goal.at.mark_children-requires c).After-mark_below) c.requires.new }

pub mark_children-requires-in-Some : goal.mark_children-requires-in-Some
mark_children-requires-in-Some c =
    let f = handles_of (scene_of c.args.store.now).trees in
    let still =
    still-parent c.mark_below.new.marks c.mark_children.new.self f c.args.new.0 (marked (goal.at.mark_children-requires-in-Some c).After-mark_below) c.requires.new c.mark_children.ensures.changed c.mark_children.ensures.others c.mark_children.ensures.most in
    record { room = room c.mark_children.new.self f c.in-Some.old still (c.requires.old c.in-Some.old c.in-Some.is) }

-- what is not below the object has not changed
unchanged : (c : After-mark_below) (k : ℕ) → has (tree_at (handles_of (scene_of c.args.store.now).trees) c.args.h.0) k ≡ false → is_changed c.mark_below.new.marks k ≡ false
unchanged c k out =
    c.mark_below.ensures.marks.changed k
    ∙ (ap (λ (b : Bool). b || has (tree_at c.tree.result.now.forest c.args.h.0) k) (none-changed c.args.marks.now k (c.requires.none.none k))
    ∙ subst (λ (f : Forest ℕ). has (tree_at f c.args.h.0) k ≡ false) (sym c.tree.ensures.forest) out)

pub returns-in_default-clause-others : goal.returns-in_default-clause-others
returns-in_default-clause-others c k out own above =
    unmarked-by c.args.marks.now c.mark_children.new.self k (c.requires.none.none k)
    (c.mark_children.ensures.changed k ∙ unchanged (goal.at.returns-in_default-clause-others c).After-mark_below k out)
    (λ part. c.mark_below.ensures.marks.parents k (sym (c.mark_children.ensures.others k own) ∙ part))

pub returns-in-Some-clause-others : goal.returns-in-Some-clause-others
returns-in-Some-clause-others c k out own above =
    let last = c.mark_children-in-Some.ensures in
    unmarked-by c.args.marks.now c.mark_children-in-Some.new.self k (c.requires.none.none k)
    (last.changed k ∙ (c.mark_children.ensures.changed k ∙ unchanged (goal.at.returns-in-Some-clause-others c).After-mark_below k out))
    (λ part. c.mark_below.ensures.marks.parents k (sym (last.others k (above c.in-Some.old c.in-Some.is) ∙ c.mark_children.ensures.others k own) ∙ part))
