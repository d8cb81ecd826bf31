use Rattle.std.proofs.Common.{◌∙◌, ap, subst, Bool}
use Rattle.run_defs.specs.Reactions.{differs, tell_after, tell_change}
use Rattle.run_defs.specs.declared.ControlValue.{ControlValue}
use Rattle.gui_board.specs.Boards.{Plays}
use Rattle.gui_board.proofs.Plays.{played_then}
use Rattle.gui_play.proofs.reactions.tell_after.Goals as goal

pub returns : goal.returns
unfolding tell_after
returns g c =
    let P : Bool → Type 0 = λ changed. Plays c.send.new.self c.tell_change.new.board (g.S.Sink.state c.send.new.log) (g.S.Sink.state c.tell_change.new.log) (tell_change changed c.args.h) in
    played_then _ _ _ _ _ c.send.ensures
    (subst P (c.differs-changed.ensures ∙ ap (λ (after : ControlValue). differs c.args.before after) c.control_value.ensures) c.tell_change.ensures)
