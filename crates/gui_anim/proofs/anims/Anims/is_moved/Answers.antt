use Rattle.std.proofs.Common.{ap, ◌∙◌, List}
use Rattle.std.specs.List.{list_any}
use Rattle.gui_anim.specs.declared.running.Running.{Running}
use Rattle.play_defs.specs.Animation.{moves, is_moved}
use Rattle.gui_anim.specs.Anims.{Anims}
use Rattle.gui_anim.specs.Kept.{anim_in}
use Rattle.gui_anim.proofs.Lists.{any-map}
use Rattle.gui_anim.proofs.anims.Anims.is_moved.Goals as goal

pub returns : goal.returns
returns c =
    c.any_moves.ensures
    ∙ ap (λ (xs : List Running). list_any (λ x. moves c.args.h.0 c.args.var (anim_in x)) xs) c.deref.ensures.value
    ∙ any-map anim_in (moves c.args.h.0 c.args.var) c.self.inside.running.items
    ∙ ap (λ (s : Anims). is_moved c.args.h.0 c.args.var s.running) c.self.view_is
