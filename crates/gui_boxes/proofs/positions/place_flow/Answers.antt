use Rattle.std.proofs.Common.{◌≡◌, ◌∙◌, sym, ap, subst, Bool, map, take}
use Rattle.layout_defs.specs.declared.Course.{Course}
use Rattle.layout_defs.specs.declared.Course.TheVariants.{Free, Across, Down}
use Rattle.layout_defs.specs.Boxes.{course_of, is_reversed}
use Rattle.layout_defs.specs.Solving.{tall_box, taking_part, in_order, ordered_slots}
use Rattle.gui_flex.specs.Items.{items_of}
use Rattle.gui_boxes.specs.Kids.{tall_kids, told_kids}
use Rattle.gui_boxes.specs.Settled.{tall_of}
use Rattle.gui_boxes.specs.Tables.{told}
use Rattle.gui_boxes.specs.Views.{box_of}
use Rattle.gui_boxes.specs.Slots.{flow_item, room_in, item_slot, arranged}
use Rattle.gui_boxes.proofs.Lists.{part_mapped, part_now}
use Rattle.gui_boxes.proofs.Flows.{flow_is}
use Rattle.gui_boxes.proofs.positions.place_flow.Goals as goal

pub returns-in-Across-clause-slots : goal.returns-in-Across-clause-slots
returns-in-Across-clause-slots c =
    let box = box_of c.args.h.0 c.args.own.now in
    let room = room_in c.args.inside in
    let kids = taking_part tall_box (tall_kids (told c.args.entries.now) c.args.tree.now.forest c.args.h.0) in
    let course = c.course_of-course.result in
    let back = c.is_reversed-back.result in
    let turned = c.turn.new.items in
    let placed = c.place_row.new.items in
    let final = c.turn-in-Across.new.items in
    let places : map (item_slot course room) placed ≡ arranged course box room (items_of turned) =
    subst (λ (k : Course). map (item_slot k room) placed ≡ arranged k box room (items_of turned)) (sym c.in-Across.is) (c.place_row.ensures.items c.args.h.0) in
    let other : course ≡ Free → ⊥ = λ e. let clash : Across ≡ Free = sym c.in-Across.is ∙ e in cc in
    let all = flow_is course box room back kids (take c.fill_items-count.result c.fill_items-count.new.items) turned placed final other (c.fill_items-count.ensures.items ∙ part_mapped tall_of tall_box (flow_item course room.height) (told_kids (told c.args.entries.now) c.args.tree.now.forest c.args.h.0)) c.turn.ensures.turned places c.turn-in-Across.ensures.turned in
    ap (map (item_slot (course_of c.args.own.now.flow) room)) (part_now c.fill_items-count.result c.fill_items-count.new.items final _ c.fill_items-count.ensures.within (c.turn-in-Across.auto.items ∙ (c.place_row.auto.items ∙ c.turn.auto.items)))
    ∙ subst (λ (k : Course). map (item_slot k room) final ≡ in_order (is_reversed c.args.own.now.flow) (ordered_slots k box room (in_order (is_reversed c.args.own.now.flow) kids))) c.course_of-course.ensures
    (subst (λ (b : Bool). map (item_slot course room) final ≡ in_order b (ordered_slots course box room (in_order b kids))) c.is_reversed-back.ensures all)

pub returns-in-Down-clause-slots : goal.returns-in-Down-clause-slots
returns-in-Down-clause-slots c =
    let box = box_of c.args.h.0 c.args.own.now in
    let room = room_in c.args.inside in
    let kids = taking_part tall_box (tall_kids (told c.args.entries.now) c.args.tree.now.forest c.args.h.0) in
    let course = c.course_of-course.result in
    let back = c.is_reversed-back.result in
    let turned = c.turn-in-Down.new.items in
    let placed = c.place_column.new.items in
    let final = c.turn-in-Down-2.new.items in
    let places : map (item_slot course room) placed ≡ arranged course box room (items_of turned) =
    subst (λ (k : Course). map (item_slot k room) placed ≡ arranged k box room (items_of turned)) (sym c.in-Down.is) (c.place_column.ensures.items c.args.h.0) in
    let other : course ≡ Free → ⊥ = λ e. let clash : Down ≡ Free = sym c.in-Down.is ∙ e in cc in
    let all = flow_is course box room back kids (take c.fill_items-count-in-Down.result c.fill_items-count-in-Down.new.items) turned placed final other (c.fill_items-count-in-Down.ensures.items ∙ part_mapped tall_of tall_box (flow_item course room.height) (told_kids (told c.args.entries.now) c.args.tree.now.forest c.args.h.0)) c.turn-in-Down.ensures.turned places c.turn-in-Down-2.ensures.turned in
    ap (map (item_slot (course_of c.args.own.now.flow) room)) (part_now c.fill_items-count-in-Down.result c.fill_items-count-in-Down.new.items final _ c.fill_items-count-in-Down.ensures.within (c.turn-in-Down-2.auto.items ∙ (c.place_column.auto.items ∙ c.turn-in-Down.auto.items)))
    ∙ subst (λ (k : Course). map (item_slot k room) final ≡ in_order (is_reversed c.args.own.now.flow) (ordered_slots k box room (in_order (is_reversed c.args.own.now.flow) kids))) c.course_of-course.ensures
    (subst (λ (b : Bool). map (item_slot course room) final ≡ in_order b (ordered_slots course box room (in_order b kids))) c.is_reversed-back.ensures all)
