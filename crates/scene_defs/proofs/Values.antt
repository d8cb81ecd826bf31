-- The values of the properties of a scene's objects lie in their intervals.
use Rattle.std.proofs.Common.{ℕ, [], map}
use Rattle.std.specs.List.{All}
use Rattle.std.proofs.lemmas.List.Elements.{All-nil, All-map}
use Rattle.style_defs.specs.InOrder.{IsEntry}
use Rattle.style_defs.proofs.Ranges.{values_in_range as all_in_range}
use Rattle.style_defs.specs.Value.{Styled}
use Rattle.scene_defs.specs.Scene.{styled_of, path_at}
use Rattle.scene_defs.specs.Values.{ValuesInRange}
use Rattle.scene_defs.proofs.Ready.{held_at}
use Rattle.std.specs.Prelude.{slice_index_or}

pub values_in_range : ValuesInRange
values_in_range scene h part prop valid =
    let objects = path_at scene h in
    let fit = λ (k : ℕ). held_at (All IsEntry) scene.book.locals k [] (All-nil IsEntry) valid.book.locals in
    let locals = All-map (λ (o : Styled). All IsEntry o.locals) (styled_of scene.book) objects (λ k d within. fit (slice_index_or objects k d).handle) in
    all_in_range scene.book.styles (map (styled_of scene.book) objects) part prop (record { settings = valid.book.settings; locals = locals })
