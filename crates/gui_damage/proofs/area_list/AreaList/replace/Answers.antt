use Rattle.std.proofs.Common.{◌≡◌, ◌∙◌, sym, ap, subst, ◌<◌, true, length, set, remove, List}
use Rattle.std.proofs.lemmas.List.{length-set}
use Rattle.gui_base.specs.Area.{Rect, is_within}
use Rattle.gui_base.specs.Corners.{rect_of}
use Rattle.gui_base.specs.declared.area.Area.{Area}
use Rattle.gui_damage.specs.Damage.{rects_of}
use Rattle.gui_damage.specs.Joining.{joined_at}
use Rattle.gui_damage.specs.Pending.{Pending, IsPending}
use Rattle.gui_damage.proofs.Joins.{rects-joined_at}
use Rattle.gui_damage.proofs.Replacing.{pending_joined}
use Rattle.gui_damage.proofs.Slices.{refill_all}
use Rattle.gui_damage.proofs.area_list.AreaList.replace.Goals as goal
use Rattle.gui_damage.proofs.area_list.AreaList.replace.Goals.{After-remove}

-- what is listed now
now_is : (c : After-remove) → rects_of c.remove.new.self.items ≡ joined_at (rects_of c.self.inside.listed.items) c.args.i c.args.j (rect_of c.args.area)
now_is c =
    let items = c.self.inside.listed.items in
    let written = set c.deref_mut.result.now c.args.i c.args.area in
    let same = refill_all items written (length-set c.deref_mut.result.now c.args.i c.args.area ∙ ap length c.deref_mut.ensures.value)
    ∙ ap (λ (xs : List Area). set xs c.args.i c.args.area) c.deref_mut.ensures.value in
    ap rects_of (c.remove.ensures.items ∙ ap (λ (xs : List Area). remove xs c.args.j) same) ∙ rects-joined_at items c.args.i c.args.j c.args.area

pub invariant_of-self : goal.invariant_of-self
invariant_of-self c =
    let d = (goal.at.invariant_of-self c).After-remove in
    let p : Pending = record { panel = rect_of c.self.inside.panel; areas = rects_of c.self.inside.listed.items } in
    let below = subst (λ (q : Pending). c.args.j < length q.areas) (sym c.self.view_is) c.requires.within in
    let inside = subst (λ (q : Pending). is_within q.panel (rect_of c.args.area) ≡ true) (sym c.self.view_is) c.requires.area in
    subst (λ (xs : List Rect). IsPending (record { panel = rect_of c.self.inside.panel; areas = xs })) (sym (now_is d)) (pending_joined p c.args.i c.args.j (rect_of c.args.area) c.self.invariant c.requires.later below inside)

pub returns : goal.returns
returns c =
    let d = (goal.at.returns c).After-remove in
    ap (λ (xs : List Rect). record { panel = rect_of c.self.inside.panel; areas = xs }) (now_is d)
    ∙ ap (λ (p : Pending). record p { areas = joined_at p.areas c.args.i c.args.j (rect_of c.args.area) }) c.self.view_is
