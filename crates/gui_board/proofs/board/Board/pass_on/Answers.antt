use Rattle.std.proofs.Common.{◌≡◌, ◌∙◌, ap, refl, Some}
use Rattle.gui_event.specs.Groups.{FocusGroups, with_focused}
use Rattle.play_defs.specs.Focus as focus
use Rattle.run_defs.specs.Machine.{Machine}
use Rattle.gui_board.specs.Boards.{machine_of, stage}
use Rattle.gui_board.proofs.Boards.{played_with}
use Rattle.gui_board.proofs.Groups.{has_left, passed_to, passed_to_none}
use Rattle.gui_board.proofs.Writes.{writes_nothing}
use Rattle.gui_board.proofs.board.Board.pass_on.Goals as goal
use Rattle.gui_board.proofs.board.Board.pass_on.Goals.{After-leave}

gone : (c : After-leave) → c.leave.new.self ≡ record c.args.self.now.groups { all = focus.left c.args.self.now.groups.all c.args.id c.args.h }
gone c = has_left c.args.self.now.groups c.leave.new.self c.args.id c.args.h c.leave.result c.requires c.leave.ensures.answer c.leave.ensures.ok

pub returns-in-Some-clause-done : goal.returns-in-Some-clause-done
returns-in-Some-clause-done c = λ log.
    let now = c.args.self.now in
    let same = c.set_focused.ensures ∙ ap (λ (s : FocusGroups). with_focused s c.args.id (Some c.in-Some.k)) (gone (goal.at.returns-in-Some-clause-done c).After-leave) in
    passed_to (stage now log) _ _ c.args.id c.args.h c.in-Some.k c.args.heir c.in-Some.is (c.put_state.ensures.done log)
    (played_with _ _ (λ (m : Machine). record m { groups = focus.with_focused (focus.left m.groups c.args.id c.args.h) c.args.id (Some c.in-Some.k) })
    (ap (λ (s : FocusGroups). record (machine_of now) { groups = s.all }) same) refl refl (writes_nothing now.scribe.cut log) refl)

pub returns-in_default-clause-done : goal.returns-in_default-clause-done
returns-in_default-clause-done c = λ log.
    let now = c.args.self.now in
    passed_to_none (stage now log) _ c.args.id c.args.h c.args.heir c.in_default.is
    (played_with _ _ (λ (m : Machine). record m { groups = focus.left m.groups c.args.id c.args.h })
    (ap (λ (s : FocusGroups). record (machine_of now) { groups = s.all }) (gone (goal.at.returns-in_default-clause-done c).After-leave)) refl refl (writes_nothing now.scribe.cut log) refl)
