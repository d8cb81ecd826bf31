use Rattle.std.proofs.Common.{◌≡◌, ◌<◌, ℕ, true, false, drop}
use Rattle.std.specs.Prelude.{is_some}
use Rattle.gui_base.specs.Forest.{has}
use Rattle.gui_pool.specs.Table.{value_at}
use Rattle.gui_store.specs.Views.{scene_of}
use Rattle.scene_defs.specs.Scene.{handles_of}
use Rattle.gui_boxes.specs.Listing.{SameValue, times}
use Rattle.gui_boxes.specs.Tables.{touched_or}
use Rattle.gui_layout.specs.Solved.{limits_of}
use Rattle.gui_layout.proofs.places.Places.enter_marked.Given as goal

abbrev pub invariant-loop-h : goal.invariant-loop-h
invariant-loop-h l =
    let f = handles_of (scene_of l.store).trees in
    record {
      own : (k : ℕ) → 0 < times l.marked k → times (drop l.h-index l.marked) k ≡ 0 → has f k ≡ true → is_some (value_at l.self.entries k) ≡ true;
      kept : (k : ℕ) → has f k ≡ true → is_some (value_at l.fn.self.entries k) ≡ true → SameValue k l.fn.self.entries l.self.entries;
      others : (k : ℕ) → has f k ≡ true → times l.marked k ≡ 0 → SameValue k l.fn.self.entries l.self.entries;
      calm : (k : ℕ) → has f k ≡ true → touched_or (value_at l.fn.self.entries k) ≡ false → touched_or (value_at l.self.entries k) ≡ false;
      none : (k : ℕ) → has f k ≡ false → is_some (value_at l.fn.self.entries k) ≡ false → is_some (value_at l.self.entries k) ≡ false;
      limits : limits_of l.self ≡ limits_of l.fn.self;
    }
