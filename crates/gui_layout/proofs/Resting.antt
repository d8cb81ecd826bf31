-- Objects that go by none of their children.
use Rattle.std.proofs.Common.{◌≡◌, ℕ, true, ◌&&◌, is_some}
use Rattle.std.proofs.lemmas.Bool.{and_parts}
use Rattle.gui_base.specs.Forest.{Forest, has}
use Rattle.gui_pool.specs.Table.{Table, value_at}
use Rattle.gui_boxes.specs.declared.entry.Entry.{Entry}
use Rattle.gui_layout.specs.Raised.{Rests, rests}
use Rattle.gui_boxes.specs.Settled.{is_steady}
use Rattle.gui_boxes.specs.Tables.{told}
use Rattle.gui_boxes.specs.Views.{box_at}

pub it-rests : (f : Forest ℕ) (entries : Table Entry) (k : ℕ) → rests f entries k ≡ true → Rests f entries k
it-rests f entries k is =
    let first = and_parts (has f k) (is_some (value_at entries k) && is_steady (box_at (told entries).boxes k)) is in
    let second = and_parts (is_some (value_at entries k)) (is_steady (box_at (told entries).boxes k)) first.1 in
    record { there = first.0; some = second.0; steady = second.1 }
