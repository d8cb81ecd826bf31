use Rattle.gui_store.proofs.Common.{◌≡◌, ◌∙◌, sym, refl, true, Ok, arith, nat_tests, NEW_HANDLE, with_child, parts_of}
use Rattle.std.proofs.lemmas.Bool.{and_parts}
use Rattle.gui_base.specs.Intervals.{is_counted}
use Rattle.scene_defs.specs.declared.Change.TheVariants as change
use Rattle.gui_store.proofs.Edits.{object-answer, fine-object}
use Rattle.gui_store.proofs.Kept.{Left, failed, grown}
use Rattle.gui_store.proofs.store.Store.add_object.Goals as goal
use Rattle.gui_store.proofs.store.Store.add_object.Goals.{After-insert_new}

added : (c : After-insert_new) →
    Left (parts_of c.args.self.now) (change.New c.args.n c.args.parent c.args.kind) (record (parts_of c.args.self.now) { tree = c.add.new.self; rows = c.insert_new.new.self.rows; spare_texts = c.insert_new.new.self.spare_texts }) (Ok tt)
added c =
    let p = parts_of c.args.self.now in
    let new : is_counted NEW_HANDLE c.args.n.0 ≡ true = (and_parts _ _ c.requires.in_range).0 in
    let answer = object-answer p c.args.self.now.kept c.args.n c.args.parent c.args.kind ∙ sym c.add.ensures.answer in
    grown p c.args.self.now.kept (change.New c.args.n c.args.parent c.args.kind) c.requires.in_range c.requires.plain c.add.new.self (with_child p.tree c.args.parent.0 c.args.n.0) c.add.result _ _ _ _ _
    answer c.in_ok-add.was c.add.ensures.ok c.insert_new.ensures refl
    (fine-object p c.args.self.now.kept c.args.n c.args.parent c.args.kind (grind (arith, nat_tests, new)))

pub returns-in_err-add : goal.returns-in_err-add
returns-in_err-add c =
    let p = parts_of c.args.self.now in
    failed p c.args.self.now.kept (change.New c.args.n c.args.parent c.args.kind) c.add.new.self _ c.add.result c.from_residual.result
    (object-answer p c.args.self.now.kept c.args.n c.args.parent c.args.kind ∙ sym c.add.ensures.answer) c.in_err-add.was c.add.ensures.refused c.from_residual.ensures.1

pub invariant_of-self-2 : goal.invariant_of-self-2
invariant_of-self-2 c = record { kept = (added (goal.at.invariant_of-self-2 c).After-insert_new).kept }

pub returns : goal.returns
returns c = (added (goal.at.returns c).After-insert_new).is
