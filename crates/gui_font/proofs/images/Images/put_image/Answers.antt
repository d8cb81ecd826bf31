use Rattle.std.proofs.Common.{◌≡◌, ◌∙◌, ap, refl, arith, ◌-◌, ◌≤◌, length}
use Rattle.std.specs.Prelude.{vec_len, vec_capacity}
use Rattle.gui_pool.specs.Table.{value_inserted}
use Rattle.gui_font.proofs.Storing.{no_place, stored_more, images_begun}
use Rattle.gui_font.proofs.images.Images.put_image.Goals as goal
use Rattle.gui_font.proofs.images.Images.put_image.Goals.{After-append_zeros}

pub insert-requires-clause-vacant : goal.insert-requires-clause-vacant
insert-requires-clause-vacant c =
    let i = c.self.inside in
    c.self.invariant.placed.places c.args.id (omega arith) ∙ no_place i.slots.items i.bytes.items c.args.id (rw (← c.self.view_is) at c.requires.new)

index_is : (c : After-append_zeros) → c.insert.new.self ≡ value_inserted c.self.inside.index c.args.id (length c.self.inside.slots.items)
index_is c = c.in-Ok.ensures.inserts ∙ ap (value_inserted c.self.inside.index c.args.id) (omega arith)

pub invariant_of-self : goal.invariant_of-self
invariant_of-self c =
    let i = c.self.inside in
    let none = no_place i.slots.items i.bytes.items c.args.id (rw (← c.self.view_is) at c.requires.new) in
    let spare : 1 ≤ i.index.spare = rw (← c.self.view_is) at c.requires.images in
    rw (c.push_reserved.ensures.items, c.append_zeros.ensures.items, c.bytes_for.ensures.value, c.as_slice.ensures.value, index_is c, c.push_reserved.ensures.capacity)
    (stored_more i.index i.slots.items i.bytes.items _ (record { name = c.args.id; format = c.args.format; width = c.args.w; height = c.args.h; start = length i.bytes.items; given = 0 }) c.self.invariant (omega arith) none refl refl spare)

pub returns : goal.returns
returns c =
    let i = c.self.inside in
    let a = c.append_zeros.ensures in
    let room : vec_capacity c.append_zeros.new.bytes - vec_len c.append_zeros.new.bytes ≡ vec_capacity i.bytes - vec_len i.bytes - c.bytes_for.result = omega (arith, a.capacity, a.len) in
    rw (
      ← c.self.view_is,
      c.push_reserved.ensures.items,
      a.items,
      index_is c,
      room,
      c.bytes_for.ensures.value,
      c.as_slice.ensures.value,
      images_begun i.slots.items i.bytes.items _ (record { name = c.args.id; format = c.args.format; width = c.args.w; height = c.args.h; start = length i.bytes.items; given = 0 }) c.self.invariant.laid refl,
    ) refl
