use Rattle.std.proofs.Common.{◌∙◌, ap, subst, ℕ, get_or}
use Rattle.layout_defs.specs.Boxes.{Box}
use Rattle.layout_defs.specs.Solving.{Slot, room_of}
use Rattle.gui_boxes.specs.Settled.{IsSteady}
use Rattle.gui_boxes.specs.Slots.{slot_of}
use Rattle.gui_boxes.specs.Tables.{told}
use Rattle.gui_boxes.specs.Views.{box_at}
use Rattle.gui_layout.proofs.places.Places.steady_inside.Goals as goal

pub returns-then-is_nearby-clause-steady : goal.returns-then-is_nearby-clause-steady
returns-then-is_nearby-clause-steady c = subst (λ (b : Box). IsSteady b) c.entry_of-own.ensures.told.wanted (c.is_steady.ensures.steady c.if-is_steady.true c.args.h.0)

pub returns-then-is_nearby-clause-room : goal.returns-then-is_nearby-clause-room
returns-then-is_nearby-clause-room c =
    let l = told c.args.self.now.entries in
    let h = c.args.h.0 in
    let natural = get_or l.natural_heights h 0 in
    let width = get_or l.widths h 0 in
    let own = c.entry_of-own.result.now in
    let entry = c.entry_of-own.ensures.told in
    c.inside_of.ensures.value h natural
    ∙ (ap (λ (b : Box). room_of (record { box = b; width = own.width.pixels; natural_height = natural }) (slot_of own.position)) entry.wanted
    ∙ (ap (λ (w : ℕ). room_of (record { box = box_at l.boxes h; width = w; natural_height = natural }) (slot_of own.position)) entry.width
    ∙ ap (λ (s : Slot). room_of (record { box = box_at l.boxes h; width = width; natural_height = natural }) s) entry.slot))
