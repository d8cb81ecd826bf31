use Rattle.std.proofs.Common.{List, rules, ap}
use Rattle.std.proofs.lemmas.Fn.{filter_same}
use Rattle.play_defs.specs.declared.Member.{Member}
use Rattle.gui_event.specs.Kept.{groups_in}
use Rattle.gui_event.proofs.groups.Groups.drop_member.Goals as goal

pub returns : goal.returns
returns c =
    let s = c.self.inside in
    rw (← c.self.view_is) (ap (λ (ms : List Member). groups_in s.groups.items ms s.size s.objects) (filter_same _ _ _ (λ x b f' k. search rules) _ _ c.retain.ensures.filtered))
