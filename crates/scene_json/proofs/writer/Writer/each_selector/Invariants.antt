use Rattle.std.proofs.Common.{◌≡◌}
use Rattle.serde_json.specs.View.{members_view}
use Rattle.scene_json.specs.Scenes.{prop_lines}
use Rattle.scene_json.specs.Writing.{each_member}
use Rattle.scene_json.proofs.writer.Writer.each_selector.Given as goal

abbrev pub invariant-loop-selector : goal.invariant-loop-selector
invariant-loop-selector l =
    each_member (prop_lines l.id) (members_view l.selector-iterator) l.self
    ≡ each_member (prop_lines l.id) (members_view l.local.entries) l.initial.self
