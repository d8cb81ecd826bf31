use Rattle.std.proofs.Common.{◌≡◌, ◌∙◌, ap, pos, ◌+ℤ◌, ◌-ℤ◌, ℤ, subst, sym, w32, to_z, of_z}
use Rattle.gui_base.specs.Area.{area_at, common}
use Rattle.gui_base.specs.Corners.{rect_of}
use Rattle.gui_widgets.specs.Nears.{Reaches}
use Rattle.gui_widgets.proofs.Spreads.{read, read-before, read-moved, start-reaches, rest-reaches}
use Rattle.gui_widgets.proofs.scrollbars.bottom_part.Goals as goal
use Rattle.gui_widgets.proofs.scrollbars.bottom_part.Goals.{After-before-2}

pub moved-requires : goal.moved-requires
moved-requires c =
    let p = c.args.place in
    subst (λ (z : ℤ). Reaches z c.args.start) (sym (read p.x1 c.requires.place.x1))
    (start-reaches p.x1 p.x2 c.requires.place.x1 c.requires.place.x2 c.args.start c.args.length c.requires.within)

-- where it starts, as it is read
start-is : (c : After-before-2) → to_z w32 (of_z w32 c.moved.result) ≡ c.args.place.x1 +ℤ pos c.args.start
start-is c =
    let p = c.args.place in
    ap (λ (z : ℤ). to_z w32 (of_z w32 z)) (c.moved.ensures ∙ ap (λ (z : ℤ). z +ℤ pos c.args.start) (read p.x1 c.requires.place.x1))
    ∙ read-moved p.x1 c.args.start (start-reaches p.x1 p.x2 c.requires.place.x1 c.requires.place.x2 c.args.start c.args.length c.requires.within)

before-is : (c : After-before-2) → to_z w32 (of_z w32 c.before-2.result) ≡ c.args.place.y2 -ℤ pos 3
before-is c =
    let p = c.args.place in
    ap (λ (z : ℤ). to_z w32 (of_z w32 z)) (c.before-2.ensures.value ∙ ap (λ (z : ℤ). z -ℤ pos 3) (read p.y2 c.requires.place.y2))
    ∙ read-before p.y2 c.requires.place.y2

pub area_from-requires-clause-across : goal.area_from-requires-clause-across
area_from-requires-clause-across c =
    let p = c.args.place in
    subst (λ (z : ℤ). Reaches z c.args.length) (sym (start-is (goal.at.area_from-requires-clause-across c).After-before-2))
    (rest-reaches p.x1 p.x2 c.requires.place.x1 c.requires.place.x2 c.args.start c.args.length c.requires.within)

pub returns : goal.returns
returns c =
    let p = c.args.place in
    let d = (goal.at.returns c).After-before-2 in
    c.meet.ensures.corners
    ∙ ap (common (rect_of p))
    (c.area_from.ensures
    ∙ (ap (λ (z : ℤ). area_at (to_z w32 (of_z w32 c.moved.result)) z c.args.length 4) (before-is d) ∙ ap (λ (z : ℤ). area_at z (p.y2 -ℤ pos 3) c.args.length 4) (start-is d)))
