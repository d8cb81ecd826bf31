use Rattle.std.proofs.Common.{◌≤◌, ◌∷◌, [], ◌∙◌, sym, ap, map, drop, length, arith}
use Rattle.std.proofs.lemmas.List.{drop_all}
use Rattle.layout_defs.specs.Solving.{Slot, tall_box, dealt, own_slot}
use Rattle.gui_boxes.specs.Slots.{room_in, item_slot}
use Rattle.gui_boxes.proofs.Lists.{dealt-hidden}
use Rattle.gui_boxes.specs.Settled.{tall_of}
use Rattle.gui_boxes.specs.Sizings.{kid_by}
use Rattle.gui_boxes.proofs.positions.dealt_position.Goals as goal

pub returns-then-kid-clause-value : goal.returns-then-kid-clause-value
returns-then-kid-clause-value c h kids =
    let f = item_slot c.args.area.course (room_in c.args.area.inside) in
    let ys = map f (drop c.args.i c.args.items.now) in
    dealt-hidden tall_box (own_slot (room_in c.args.area.inside)) (tall_of (kid_by h c.args.kid.now)) kids ys c.if-kid.true
    ∙ ap (λ (s : Slot). s ∷ dealt tall_box (own_slot (room_in c.args.area.inside)) kids ys) (sym (c.own_position.ensures.value h))

pub returns-then-i-items-clause-value : goal.returns-then-i-items-clause-value
returns-then-i-items-clause-value c h kids =
    let f = item_slot c.args.area.course (room_in c.args.area.inside) in
    let past : length c.args.items.now ≤ c.args.i = omega arith in
    let none = drop_all c.args.i c.args.items.now past in
    rw none (ap (λ (s : Slot). s ∷ dealt tall_box (own_slot (room_in c.args.area.inside)) kids []) (sym (c.own_position-then-i-items.ensures.value h)))
