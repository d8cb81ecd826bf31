use Rattle.std.proofs.Common.{◌≡◌, drop}
use Rattle.serde_json.specs.View.{items_view}
use Rattle.scene_json.specs.Scenes.{put_flag}
use Rattle.scene_json.specs.Words.{string_word}
use Rattle.scene_json.specs.Writing.{each}
use Rattle.scene_json.proofs.writer.Writer.each_flag.Given as goal

-- the flags to come make of what is written what all of them make of what was
abbrev pub invariant-loop-flag : goal.invariant-loop-flag
invariant-loop-flag l =
    each (λ flag. put_flag l.id (string_word flag)) (items_view (drop l.flag-index l.flags)) l.self
    ≡ each (λ flag. put_flag l.id (string_word flag)) (items_view l.flags) l.initial.self
