use Rattle.std.proofs.Common.{◌≡◌, ◌∙◌, ap, pos, ◌+ℤ◌, ◌-ℤ◌, ℤ, subst, sym, w32, to_z, of_z}
use Rattle.gui_base.specs.Area.{area_at, common}
use Rattle.gui_base.specs.Corners.{rect_of}
use Rattle.gui_widgets.specs.Nears.{Reaches}
use Rattle.gui_widgets.proofs.Spreads.{read, read-before, read-moved, start-reaches, rest-reaches}
use Rattle.gui_widgets.proofs.scrollbars.right_part.Goals as goal
use Rattle.gui_widgets.proofs.scrollbars.right_part.Goals.{After-moved}

pub moved-requires : goal.moved-requires
moved-requires c =
    let p = c.args.place in
    subst (λ (z : ℤ). Reaches z c.args.start) (sym (read p.y1 c.requires.place.y1))
    (start-reaches p.y1 p.y2 c.requires.place.y1 c.requires.place.y2 c.args.start c.args.length c.requires.within)

-- where it starts, as it is read
start-is : (c : After-moved) → to_z w32 (of_z w32 c.moved.result) ≡ c.args.place.y1 +ℤ pos c.args.start
start-is c =
    let p = c.args.place in
    ap (λ (z : ℤ). to_z w32 (of_z w32 z)) (c.moved.ensures ∙ ap (λ (z : ℤ). z +ℤ pos c.args.start) (read p.y1 c.requires.place.y1))
    ∙ read-moved p.y1 c.args.start (start-reaches p.y1 p.y2 c.requires.place.y1 c.requires.place.y2 c.args.start c.args.length c.requires.within)

before-is : (c : After-moved) → to_z w32 (of_z w32 c.before-2.result) ≡ c.args.place.x2 -ℤ pos 3
before-is c =
    let p = c.args.place in
    ap (λ (z : ℤ). to_z w32 (of_z w32 z)) (c.before-2.ensures.value ∙ ap (λ (z : ℤ). z -ℤ pos 3) (read p.x2 c.requires.place.x2))
    ∙ read-before p.x2 c.requires.place.x2

pub area_from-requires-clause-down : goal.area_from-requires-clause-down
area_from-requires-clause-down c =
    let p = c.args.place in
    subst (λ (z : ℤ). Reaches z c.args.length) (sym (start-is (goal.at.area_from-requires-clause-down c).After-moved))
    (rest-reaches p.y1 p.y2 c.requires.place.y1 c.requires.place.y2 c.args.start c.args.length c.requires.within)

pub returns : goal.returns
returns c =
    let p = c.args.place in
    let d = (goal.at.returns c).After-moved in
    c.meet.ensures.corners
    ∙ ap (common (rect_of p))
    (c.area_from.ensures
    ∙ (ap (λ (z : ℤ). area_at z (to_z w32 (of_z w32 c.moved.result)) 4 c.args.length) (before-is d) ∙ ap (λ (z : ℤ). area_at (p.x2 -ℤ pos 3) z 4 c.args.length) (start-is d)))
