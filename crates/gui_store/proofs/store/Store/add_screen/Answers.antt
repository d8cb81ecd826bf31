use Rattle.gui_store.proofs.Common.{◌∙◌, sym, refl, Ok, arith, nat_tests, with_root, parts_of}
use Rattle.scene_defs.specs.declared.Change.TheVariants as change
use Rattle.gui_store.proofs.Edits.{screen-answer, fine-screen}
use Rattle.gui_store.proofs.Kept.{Left, failed, grown}
use Rattle.gui_store.proofs.store.Store.add_screen.Goals as goal
use Rattle.gui_store.proofs.store.Store.add_screen.Goals.{After-insert_new}

added : (c : After-insert_new) →
    Left (parts_of c.args.self.now) (change.Screen c.args.n) (record (parts_of c.args.self.now) { tree = c.add_root.new.self; rows = c.insert_new.new.self.rows; spare_texts = c.insert_new.new.self.spare_texts }) (Ok tt)
added c =
    let p = parts_of c.args.self.now in
    let answer = screen-answer p c.args.self.now.kept c.args.n ∙ sym c.add_root.ensures.answer in
    grown p c.args.self.now.kept (change.Screen c.args.n) c.requires tt c.add_root.new.self (with_root p.tree c.args.n.0) c.add_root.result _ _ _ _ _
    answer c.in_ok-add_root.was c.add_root.ensures.ok c.insert_new.ensures refl
    (fine-screen p c.args.self.now.kept c.args.n (grind (arith, nat_tests, c.requires)))

pub returns-in_err-add_root : goal.returns-in_err-add_root
returns-in_err-add_root c =
    let p = parts_of c.args.self.now in
    failed p c.args.self.now.kept (change.Screen c.args.n) c.add_root.new.self _ c.add_root.result c.from_residual.result
    (screen-answer p c.args.self.now.kept c.args.n ∙ sym c.add_root.ensures.answer) c.in_err-add_root.was c.add_root.ensures.refused c.from_residual.ensures.1

pub invariant_of-self-2 : goal.invariant_of-self-2
invariant_of-self-2 c = record { kept = (added (goal.at.invariant_of-self-2 c).After-insert_new).kept }

pub returns : goal.returns
returns c = (added (goal.at.returns c).After-insert_new).is
