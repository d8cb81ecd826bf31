use Rattle.std.proofs.Common.{◌≡◌}
use Rattle.serde_json.specs.View.{members_view}
use Rattle.scene_json.specs.Scenes.{all_keys, is_node_key}
use Rattle.scene_json.proofs.members.are_node_keys.Given as goal

abbrev pub invariant-loop-key : goal.invariant-loop-key
invariant-loop-key l = all_keys is_node_key (members_view l.key-iterator) ≡ all_keys is_node_key (members_view l.members.entries)
