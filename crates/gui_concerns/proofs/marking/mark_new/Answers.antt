use Rattle.std.proofs.Common.{◌≡◌, ◌∙◌, refl, subst, Bool, true, false, eqb, not, ◌&&◌}
use Rattle.std.proofs.lemmas.Bool.{eqb-true}
use Rattle.gui_base.specs.Forest.{has}
use Rattle.gui_store.specs.Views.{scene_of}
use Rattle.scene_defs.specs.Scene.{handles_of}
use Rattle.gui_boxes.specs.Marks.{is_parent}
use Rattle.gui_concerns.proofs.Marks.{also-mark, none-changed, none-there, room, there-still, unmarked-still}
use Rattle.gui_concerns.proofs.marking.mark_new.Goals as goal

pub mark-requires : goal.mark-requires
mark-requires c =
    let scene = scene_of c.args.store.now in
    record { room = room c.args.marks.now (handles_of scene.trees) c.args.child (none-there c.args.marks.now scene c.tree-tree.ensures.valid c.requires.none) c.requires.own }

pub mark_children-requires : goal.mark_children-requires
mark_children-requires c =
    let scene = scene_of c.args.store.now in
    let f = handles_of scene.trees in
    let h = c.args.child.0 in
    let marked =
    there-still c.args.marks.now c.mark.new.self f (λ k. eqb h k) (none-there c.args.marks.now scene c.tree-tree.ensures.valid c.requires.none)
    (also-mark c.args.marks.now c.mark.new.self h c.mark.ensures.own c.mark.ensures.others c.mark.ensures.parents) (λ k is. subst (λ j. has f j ≡ true) (eqb-true h k is) c.requires.own) c.mark.ensures.most in
    record { room = room c.mark.new.self f c.args.parent marked c.requires.above }

pub returns-clause-own : goal.returns-clause-own
returns-clause-own c = c.mark_children.ensures.changed c.args.child.0 ∙ c.mark.ensures.own

pub returns-clause-changed : goal.returns-clause-changed
returns-clause-changed c k other = c.mark_children.ensures.changed k ∙ (c.mark.ensures.others k other ∙ none-changed c.args.marks.now k (c.requires.none.none k))

kept : (b c : Bool) → c ≡ false → (b && not c) ≡ b
kept true c off = rw off refl
kept false c off = refl

pub returns-clause-others : goal.returns-clause-others
returns-clause-others c k own above =
    let old = c.args.marks.now in
    unmarked-still old c.mark_children.new.self k (c.requires.none.none k) (c.mark_children.ensures.changed k ∙ c.mark.ensures.others k own)
    (c.mark_children.ensures.others k above ∙ (c.mark.ensures.parents k ∙ kept (is_parent old k) (eqb k c.args.child.0) own))
