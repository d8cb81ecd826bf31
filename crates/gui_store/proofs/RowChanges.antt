-- A change of a row leaves the name of its text, and changes the row that is shown alike. In each lemma the last
-- line stands for each change but the first.
use Rattle.std.proofs.Common.{◌≡◌, refl}
use Rattle.scene_defs.specs.Deeds.{row_after}
use Rattle.scene_defs.specs.Row.{shown_row}
use Rattle.scene_defs.specs.declared.Change.{Change}
use Rattle.scene_defs.specs.declared.Row.{Row}
use Rattle.scene_defs.specs.declared.Change.TheVariants as change

pub text-after : (c : Change) (row : Row) → (row_after c row).text ≡ row.text
text-after (change.Flag h flag on) row = refl
text-after c row = refl

pub shown-after : (c : Change) (row : Row) → shown_row (row_after c row) ≡ row_after c (shown_row row)
shown-after (change.Flag h flag on) row = refl
shown-after c row = refl
