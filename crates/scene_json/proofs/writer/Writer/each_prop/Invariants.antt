use Rattle.std.proofs.Common.{◌≡◌}
use Rattle.serde_json.specs.View.{members_view}
use Rattle.scene_json.specs.Scenes.{put_prop}
use Rattle.scene_json.specs.Words.{prop_named}
use Rattle.scene_json.specs.Writing.{each_member}
use Rattle.scene_json.proofs.writer.Writer.each_prop.Given as goal

-- the properties to come make of what is written what all of them make of what was
abbrev pub invariant-loop-name : goal.invariant-loop-name
invariant-loop-name l =
    each_member (λ name value. put_prop l.id l.selector name (prop_named name) value) (members_view l.name-iterator) l.self
    ≡ each_member (λ name value. put_prop l.id l.selector name (prop_named name) value) (members_view l.props.entries) l.initial.self
