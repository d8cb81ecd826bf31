use Rattle.std.proofs.Common.{List, reverse, ap, ◌∙◌}
use Rattle.std.proofs.lemmas.List.{reverse-append}
use Rattle.gui_base.specs.declared.Handle.{Handle}
use Rattle.gui_event.specs.Groups.{FocusGroups}
use Rattle.play_defs.specs.Focus.{members_of}
use Rattle.gui_event.proofs.Turns.{in_turn, found_first, found_second}
use Rattle.gui_event.proofs.groups.Groups.focus_prev.Goals as goal

pub returns-in-Some : goal.returns-in-Some
returns-in-Some g c test tells =
    let order = in_turn c.args.self.now.all c.args.id c.focused.result c.deref.result.now c.around.result.1.now c.around.result.0.now c.focused.ensures (c.deref.ensures.value ∙ ap (λ (s : FocusGroups). s.all.members) c.self.view_is) c.around.ensures in
    found_first test _ _ _ (ap (λ (hs : List Handle). reverse hs) order ∙ reverse-append (members_of c.args.id c.around.result.1.now) (members_of c.args.id c.around.result.0.now)) c.in-Some.h (c.in-Some.ensures test tells)

pub returns : goal.returns
returns g c test tells =
    let order = in_turn c.args.self.now.all c.args.id c.focused.result c.deref.result.now c.around.result.1.now c.around.result.0.now c.focused.ensures (c.deref.ensures.value ∙ ap (λ (s : FocusGroups). s.all.members) c.self.view_is) c.around.ensures in
    found_second test _ _ _ (ap (λ (hs : List Handle). reverse hs) order ∙ reverse-append (members_of c.args.id c.around.result.1.now) (members_of c.args.id c.around.result.0.now)) c.last_usable-in-None.result (c.in-None.ensures test tells) (c.last_usable-in-None.ensures test tells)
