use Rattle.gui_store.proofs.Common.{refl, arith, parts_of}
use Rattle.scene_defs.specs.declared.Change.TheVariants as change
use Rattle.gui_store.proofs.Edits.{moved_beside, moved_below_other, last-after}
use Rattle.gui_store.proofs.Kept.{Left}
use Rattle.gui_store.proofs.store.Store.carry_out.Goals as goal
use Rattle.gui_store.proofs.store.Store.carry_out.Goals.{After-set_parent, After-move_to_index, After-move_to_index-in-Front, After-move_to_index-in-Back}

parent_done : (c : After-set_parent) →
    Left (parts_of c.args.self.now) c.args.change.now (record (parts_of c.args.self.now) { tree = c.set_parent.new.self }) c.set_parent.result
parent_done c =
    let e = c.set_parent.ensures in
    rw c.in-Parent.is (moved_below_other _ c.args.self.now.kept c.in-Parent.h c.in-Parent.parent (rw c.in-Parent.is at c.requires.in_range) _ _ e.refused e.answer e.ok)

pub invariant_of-self : goal.invariant_of-self
invariant_of-self c = record { kept = (parent_done c).kept }

pub returns-in-Parent : goal.returns-in-Parent
returns-in-Parent c = (parent_done (goal.at.returns-in-Parent c).After-set_parent).is

index_done : (c : After-move_to_index) →
    Left (parts_of c.args.self.now) c.args.change.now (record (parts_of c.args.self.now) { tree = c.move_to_index.new.self }) c.move_to_index.result
index_done c =
    let e = c.move_to_index.ensures in
    rw c.in-Index.is (moved_beside _ c.args.self.now.kept (change.Index c.in-Index.h c.in-Index.index) (rw c.in-Index.is at c.requires.in_range) tt (λ w. refl) (λ q. (refl, refl)) refl _ _ e.refused c.in-Index.h.0 c.in-Index.index refl refl e.answer e.ok)

pub invariant_of-self-in-Index : goal.invariant_of-self-in-Index
invariant_of-self-in-Index c = record { kept = (index_done c).kept }

pub returns-in-Index : goal.returns-in-Index
returns-in-Index c = (index_done (goal.at.returns-in-Index c).After-move_to_index).is

front_done : (c : After-move_to_index-in-Front) →
    Left (parts_of c.args.self.now) c.args.change.now (record (parts_of c.args.self.now) { tree = c.move_to_index-in-Front.new.self }) c.move_to_index-in-Front.result
front_done c =
    let e = c.move_to_index-in-Front.ensures in
    rw c.in-Front.is (moved_beside _ c.args.self.now.kept (change.Front c.in-Front.h) (rw c.in-Front.is at c.requires.in_range) tt (λ w. refl) (λ q. (refl, refl)) refl _ _ e.refused c.in-Front.h.0 65535 refl (last-after _ c.args.self.now.kept c.in-Front.h 65535 (omega (arith, c.args.self.now.limits.scene.most_objects))) e.answer e.ok)

pub invariant_of-self-in-Front : goal.invariant_of-self-in-Front
invariant_of-self-in-Front c = record { kept = (front_done c).kept }

pub returns-in-Front : goal.returns-in-Front
returns-in-Front c = (front_done (goal.at.returns-in-Front c).After-move_to_index-in-Front).is

back_done : (c : After-move_to_index-in-Back) →
    Left (parts_of c.args.self.now) c.args.change.now (record (parts_of c.args.self.now) { tree = c.move_to_index-in-Back.new.self }) c.move_to_index-in-Back.result
back_done c =
    let e = c.move_to_index-in-Back.ensures in
    rw c.in-Back.is (moved_beside _ c.args.self.now.kept (change.Back c.in-Back.h) (rw c.in-Back.is at c.requires.in_range) tt (λ w. refl) (λ q. (refl, refl)) refl _ _ e.refused c.in-Back.h.0 0 refl refl e.answer e.ok)

pub invariant_of-self-in-Back : goal.invariant_of-self-in-Back
invariant_of-self-in-Back c = record { kept = (back_done c).kept }

pub returns-in-Back : goal.returns-in-Back
returns-in-Back c = (back_done (goal.at.returns-in-Back c).After-move_to_index-in-Back).is
