use Rattle.std.proofs.Common.{ap, ◌∙◌, sym, Option}
use Rattle.gui_base.specs.declared.Handle.{Handle}
use Rattle.play_defs.specs.Focus.{members_of, turned}
use Rattle.gui_event.proofs.Turns.{turned_at, turned_nowhere, same_parts}
use Rattle.gui_event.proofs.members.around.Goals as goal

pub returns-in-None : goal.returns-in-None
returns-in-None c =
    let id = c.args.id in
    let parts = c.split_at-in-None.ensures in
    ap (λ (f : Option Handle). turned f (members_of id c.args.members.now)) c.in-Some.is
    ∙ turned_nowhere id c.in-Some.h c.args.members.now (sym c.place_of.ensures ∙ c.in-None.is)
    ∙ same_parts id c.split_at-in-None.result.1.now c.split_at-in-None.result.0.now _ _ parts.back parts.front

pub returns-in-Some-place_of : goal.returns-in-Some-place_of
returns-in-Some-place_of c =
    let id = c.args.id in
    ap (λ (f : Option Handle). turned f (members_of id c.args.members.now)) c.in-Some.is
    ∙ turned_at id c.in-Some.h c.args.members.now c.in-Some-place_of.place (sym c.place_of.ensures ∙ c.in-Some-place_of.is)
    ∙ same_parts id c.split_at-in-Some-place_of-2.result.1.now c.split_at-in-Some-place_of.result.0.now _ _ c.split_at-in-Some-place_of-2.ensures.back c.split_at-in-Some-place_of.ensures.front
