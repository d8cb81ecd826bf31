use Rattle.std.proofs.Common.{◌≡◌, ◌⊎◌, ◌<◌, true, length, inl, inr, sym, subst, ◌∙◌, arith}
use Rattle.play_defs.specs.Animation.{is_moved}
use Rattle.gui_anim.specs.Anims.{Anims}
use Rattle.gui_anim.proofs.Lists.{room_left}
use Rattle.gui_anim.proofs.anims.Anims.make_room.Goals.{else-spare-eq0-via-then-spare-eq0+else-not-is_moved, else-spare-eq0-via-else-spare-eq0}
use Rattle.gui_anim.proofs.anims.Anims.make_room.Goals as goal

pub returns-clause-room : goal.returns-clause-room
returns-clause-room c =
    let chance : (0 < c.spare.result) ⊎ (is_moved c.args.h.0 c.args.var c.args.self.now.running ≡ true) = elim c.else-spare-eq0.branch [
      | else-spare-eq0-via-then-spare-eq0+else-not-is_moved w ↦ inr (sym w.is_moved.ensures ∙ w.if-not-is_moved.false)
      | else-spare-eq0-via-else-spare-eq0 w ↦ inl (omega (arith, w.if-spare-eq0.false))
    ] in
    subst (λ (s : Anims). length s.running < s.size) (sym c.drop_moving.ensures) (room_left c.args.h.0 c.args.var c.args.self.now c.spare.result c.spare.ensures.sum chance)
