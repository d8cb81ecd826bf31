use Rattle.std.proofs.Common.{ap, ◌∙◌}
use Rattle.gui_pool.specs.Lists.{pushed}
use Rattle.gui_style.proofs.ByProp.{is_own, pushed_filed}
use Rattle.gui_style.proofs.entries.Entries.push.Goals as goal

pub invariant_of-self-2 : goal.invariant_of-self-2
invariant_of-self-2 c =
    let s = c.self.inside in let v = c.args.entry in let is = c.key_of.ensures.value in
    let within = rw (← c.self.view_is) at c.requires in
    let at = rw is at c.key_of.ensures.within in
    rw (c.in-Ok.ensures.added, c.in-Ok-push.ensures.added ∙ ap (λ k. pushed s.by_prop k v) is) (pushed_filed s.all s.by_prop c.self.invariant c.args.owner within v.prop at v (is_own v))
