use Rattle.gui_store.proofs.Common.{◌≡◌, ◌∙◌, sym, ap, Ok, preorder, tree_at, numbers, Trees, without, parts_of}
use Rattle.gui_base.specs.declared.refusal.Refusal.TheVariants.{Place}
use Rattle.scene_defs.specs.declared.Change.TheVariants as change
use Rattle.gui_store.proofs.Edits.{delete-answer, delete-active, listed-rows, fine-delete}
use Rattle.gui_store.proofs.Kept.{Left, refused, failed, grown}
use Rattle.gui_store.proofs.store.Store.delete.Goals as goal
use Rattle.gui_store.proofs.store.Store.delete.Goals.{In_ok-remove, After-forget_all}

-- what is listed
listed : (c : In_ok-remove) → c.remove.new.self.removed ≡ preorder (tree_at c.args.self.now.tree.forest c.args.h.0)
listed c =
    let is : c.remove.new.self ≡ without c.args.self.now.tree c.args.h.0 = rw c.in_ok-remove.was at c.remove.ensures.ok in
    ap (λ (t : Trees). t.removed) is

deleted : (c : After-forget_all) → numbers c.last_removed-removed.result.now ≡ preorder (tree_at c.args.self.now.tree.forest c.args.h.0) →
    Left (parts_of c.args.self.now) (change.Delete c.args.h) (record (parts_of c.args.self.now) {
      tree = c.remove.new.self;
      rows = c.remove_rows.new.rows.rows;
      spare_texts = c.remove_rows.new.rows.spare_texts;
      styles = c.forget_all.new.self;
    }) (Ok tt)
deleted c list =
    let p = parts_of c.args.self.now in
    let k = c.args.self.now.kept in
    let answer = delete-answer p k c.args.h (sym c.eq.ensures ∙ c.if-eq.false) ∙ sym c.remove.ensures.answer in
    grown p k (change.Delete c.args.h) c.requires tt c.remove.new.self (without p.tree c.args.h.0) c.remove.result _ _ _ _ _
    answer c.in_ok-remove.was c.remove.ensures.ok c.remove_rows.ensures c.forget_all.ensures (λ e. fine-delete p k c.last_removed-removed.result.now c.args.h list)

pub returns-then-eq : goal.returns-then-eq
returns-then-eq c =
    refused (parts_of c.args.self.now) c.args.self.now.kept (change.Delete c.args.h) Place (delete-active (parts_of c.args.self.now) c.args.self.now.kept c.args.h (sym c.eq.ensures ∙ c.if-eq.true))

pub returns-in_err-remove : goal.returns-in_err-remove
returns-in_err-remove c =
    let p = parts_of c.args.self.now in
    let answer = delete-answer p c.args.self.now.kept c.args.h (sym c.eq.ensures ∙ c.if-eq.false) ∙ sym c.remove.ensures.answer in
    failed p c.args.self.now.kept (change.Delete c.args.h) c.remove.new.self _ c.remove.result c.from_residual.result
    answer c.in_err-remove.was c.remove.ensures.refused c.from_residual.ensures.1

pub remove_rows-requires : goal.remove_rows-requires
remove_rows-requires c =
    listed-rows (parts_of c.args.self.now) c.args.self.now.kept c.last_removed-removed.result.now c.args.h (c.last_removed-removed.ensures ∙ listed (goal.at.remove_rows-requires c).In_ok-remove)

pub invariant_of-self-2 : goal.invariant_of-self-2
invariant_of-self-2 c = let at = goal.at.invariant_of-self-2 c in record { kept = (deleted at.After-forget_all (c.last_removed-removed.ensures ∙ listed at.In_ok-remove)).kept }

pub returns : goal.returns
returns c = let at = goal.at.returns c in (deleted at.After-forget_all (c.last_removed-removed.ensures ∙ listed at.In_ok-remove)).is
