use Rattle.std.proofs.Common.{◌<◌, length, rules, sym, ◌∙◌}
use Rattle.gui_style.proofs.Users.{has_user, user_within, removed_users}
use Rattle.gui_style.proofs.uses.Uses.remove.Goals as goal

pub unreachable-requires : goal.unreachable-requires
unreachable-requires c =
    let s = c.self.inside in let x = c.remove-used.result in
    let requires = rw (← c.self.view_is) at c.requires in
    has_user s.all s.users c.self.invariant c.args.h.0 c.args.n requires.within x (sym c.remove-used.ensures.value) (sym c.in_default.is ∙ c.place_of.ensures)

pub remove-requires-clause-there : goal.remove-requires-clause-there
remove-requires-clause-there c =
    let s = c.self.inside in let x = c.remove-used.result in
    let requires = rw (← c.self.view_is) at c.requires in
    user_within s.all s.users c.self.invariant c.args.h.0 c.args.n requires.within x (sym c.remove-used.ensures.value) c.in-Some.place (sym c.in-Some.is ∙ c.place_of.ensures)

pub invariant_of-self : goal.invariant_of-self
invariant_of-self c =
    let s = c.self.inside in let x = c.remove-used.result in
    let requires = rw (← c.self.view_is) at c.requires in
    let at : c.remove-used.result.style < length c.self.inside.users.lists = search rules in
    rw (c.remove.ensures.removed, c.remove-used.ensures.removed)
    (removed_users s.all s.users c.self.invariant c.args.h.0 c.args.n requires.within x (sym c.remove-used.ensures.value) at c.in-Some.place (sym c.in-Some.is ∙ c.place_of.ensures))
