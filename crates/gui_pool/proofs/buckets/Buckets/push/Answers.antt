use Rattle.std.proofs.Common.{◌≡◌, ◌-◌, [], ◌∷◌, map, get_or, length-append, arith}
use Rattle.gui_pool.specs.Runs.{run_from}
use Rattle.gui_pool.proofs.Calls.{pushes}
use Rattle.gui_pool.proofs.buckets.Buckets.push.Goals as goal

pub link-requires-clause-held : goal.link-requires-clause-held
link-requires-clause-held g c =
    let s = c.self.inside in
    let p = pushes s.slots s.firsts.items c.args.bucket c.in-Ok.slot c.len-count.result c.args.value c.self.invariant (rw (← c.self.view_is) at c.requires) (rw (← c.self.view_is) at c.len-count.ensures) c.in-Ok.ensures.was_vacant c.in-Ok.ensures.within (λ e. let bad = c.in-Ok.ensures.full.1 e in cc) in
    rw c.in-Ok.ensures.inserts p.held

pub invariant_of-self : goal.invariant_of-self
invariant_of-self g c =
    let s = c.self.inside in
    let p = pushes s.slots s.firsts.items c.args.bucket c.in-Ok.slot c.len-count.result c.args.value c.self.invariant (rw (← c.self.view_is) at c.requires) (rw (← c.self.view_is) at c.len-count.ensures) c.in-Ok.ensures.was_vacant c.in-Ok.ensures.within (λ e. let bad = c.in-Ok.ensures.full.1 e in cc) in
    rw (c.link.ensures.slots, c.link.ensures.firsts, c.in-Ok.ensures.inserts) p.left.sound

pub returns-in-Ok-clause-added : goal.returns-in-Ok-clause-added
returns-in-Ok-clause-added g c =
    let s = c.self.inside in
    let p = pushes s.slots s.firsts.items c.args.bucket c.in-Ok.slot c.len-count.result c.args.value c.self.invariant (rw (← c.self.view_is) at c.requires) (rw (← c.self.view_is) at c.len-count.ensures) c.in-Ok.ensures.was_vacant c.in-Ok.ensures.within (λ e. let bad = c.in-Ok.ensures.full.1 e in cc) in
    let l = p.left in
    let spare : _ ≡ s.slots.spare - 1 = (let count = l.count in let long = length-append (get_or (map (run_from s.slots.slots) s.firsts.items) c.args.bucket []) (c.args.value ∷ []) in omega arith) in
    rw (c.link.ensures.slots, c.link.ensures.firsts, c.in-Ok.ensures.inserts, ← c.self.view_is) (λ i. record { lists = l.lists i; spare = spare i; size = l.long i })
