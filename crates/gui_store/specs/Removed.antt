-- The handles that were removed last.
use Rattle.std.specs.Prelude.{ℕ, if◌then◌else◌, List, Some, None, is_some}
use Rattle.std.specs.declared.option.Option.{Option}
use Rattle.gui_base.specs.declared.Handle.{Handle}
use Rattle.gui_base.specs.declared.refusal.Refusal.{Refusal}
use Rattle.gui_base.specs.Forest.{preorder}
use Rattle.scene_defs.specs.declared.Change.{Change}
use Rattle.scene_defs.specs.Deeds.{deleted}
use Rattle.scene_defs.specs.Edits.{tree_below}
use Rattle.scene_defs.specs.Scene.{Scene, handles_of}

-- once an object is deleted, if one is: it and all below it, each before those below it
abbrev pub removed_with : List ℕ → Scene → Option Handle → List ℕ
removed_with before scene None = before
removed_with before scene (Some h) = preorder (handles_of (tree_below scene h.0))

-- after a change that is done
abbrev pub removed_after : List ℕ → Scene → Change → List ℕ
removed_after before scene change = removed_with before scene (deleted change)

-- after a change with this answer: a refusal leaves them
abbrev pub removed_by : Option Refusal → List ℕ → Scene → Change → List ℕ
removed_by refusal before scene change = if is_some refusal then before else removed_after before scene change
