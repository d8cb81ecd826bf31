use Rattle.std.proofs.Common.{◌≡◌, ◌∙◌, sym, ap}
use Rattle.std.proofs.lemmas.Bool.{eqb-true}
use Rattle.layout_defs.specs.Boxes.{Axis, Box, inner, inset}
use Rattle.layout_defs.specs.OwnHeights.{but_height}
use Rattle.layout_defs.specs.Solving.{natural_size}
use Rattle.gui_store.specs.Views.{scene_of}
use Rattle.gui_boxes.specs.Views.{axis_of, box_of}
use Rattle.gui_layout.specs.Scenes.{scene_box}
use Rattle.gui_layout.proofs.keeping.is_same.Goals as goal

pub returns-clause-wanted : goal.returns-clause-wanted
returns-clause-wanted c is = c.are_same_boxes.ensures c.if-not-are_same_boxes.false c.args.h.0 ∙ c.box_in-wanted.ensures

pub returns-clause-height : goal.returns-clause-height
returns-clause-height c is =
    let h = c.args.h.0 in
    let own = c.args.own.now in
    let box = scene_box (scene_of c.args.store.now) h in
    let n = c.own_height_of-own_height.result in
    let same : but_height (box_of h own.wanted) ≡ but_height box = c.are_same_boxes.ensures c.if-not-are_same_boxes.false h ∙ c.box_in-wanted.ensures in
    let down : axis_of c.box_in-wanted.result.down ≡ box.down = ap (λ (b : Box). b.down) c.box_in-wanted.ensures in
    let high : n ≡ box.own_height (inner box.across own.width.pixels) =
    c.own_height_of-own_height.ensures.value ∙ ap (λ (b : Box). box.own_height (inner b.across own.width.pixels)) same in
    sym (eqb-true c.natural_size.result own.natural_height.pixels is)
    ∙ (c.natural_size.ensures.value ∙ (ap (λ (a : Axis). natural_size a.size (inset a) n) down ∙ ap (natural_size box.down.size (inset box.down)) high))
