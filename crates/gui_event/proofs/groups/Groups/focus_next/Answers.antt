use Rattle.std.proofs.Common.{ap, ◌∙◌}
use Rattle.gui_event.specs.Groups.{FocusGroups}
use Rattle.gui_event.proofs.Turns.{in_turn, found_first, found_second}
use Rattle.gui_event.proofs.groups.Groups.focus_next.Goals as goal

pub returns-in-Some : goal.returns-in-Some
returns-in-Some g c test tells =
    let order = in_turn c.args.self.now.all c.args.id c.focused.result c.deref.result.now c.around.result.1.now c.around.result.0.now c.focused.ensures (c.deref.ensures.value ∙ ap (λ (s : FocusGroups). s.all.members) c.self.view_is) c.around.ensures in
    found_first test _ _ _ order c.in-Some.h (c.in-Some.ensures test tells)

pub returns : goal.returns
returns g c test tells =
    let order = in_turn c.args.self.now.all c.args.id c.focused.result c.deref.result.now c.around.result.1.now c.around.result.0.now c.focused.ensures (c.deref.ensures.value ∙ ap (λ (s : FocusGroups). s.all.members) c.self.view_is) c.around.ensures in
    found_second test _ _ _ order c.first_usable-in-None.result (c.in-None.ensures test tells) (c.first_usable-in-None.ensures test tells)
