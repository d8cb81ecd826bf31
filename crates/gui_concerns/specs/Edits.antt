-- What changes do to the trees, as far as places go by it.
use Rattle.std.specs.Prelude.{Bool, true, false, Some, None, option_map}
use Rattle.std.specs.declared.option.Option.{Option}
use Rattle.gui_base.specs.Forest.{parent_of}
use Rattle.gui_base.specs.declared.Handle.{Handle}
use Rattle.gui_tree.specs.Handles.{as_handle}
use Rattle.scene_defs.specs.declared.Change.{Change}
use Rattle.debt_defs.specs.declared.subject.Subject.{Subject}
use Rattle.debt_defs.specs.declared.subject.Subject.TheVariants.{Own, Spread, Styled, Shared, Made as OfMade, Comes}
use Rattle.debt_defs.specs.declared.subject.Subject.TheVariants.{Goes, Moves, Among, Loads, Nobody}
use Rattle.scene_defs.specs.Scene.{Scene, handles_of}
use Rattle.debt_defs.specs.Subject.{subject_of}
use Rattle.gui_concerns.specs.declared.edit.Edit.{Edit}
use Rattle.gui_concerns.specs.declared.edit.Edit.TheVariants.{Beside, Gone, New, Other, Reparented, Same}

-- a tree with this parent, if it has one, goes elsewhere among its siblings
abbrev pub beside : Option Handle → Edit
beside (Some parent) = Beside parent
beside None = Other

-- what a change that is about this does to the trees
abbrev pub edits : Scene → Subject → Edit
edits scene (Own h) = Same
edits scene (Spread h) = Same
edits scene (Styled h reach) = Same
edits scene (Shared s prop) = Same
edits scene (OfMade n) = Other
edits scene (Comes n p) = New n p
edits scene (Goes h) = Gone (option_map as_handle (parent_of (handles_of scene.trees) h.0))
edits scene (Moves h p) = Reparented h (option_map as_handle (parent_of (handles_of scene.trees) h.0)) p
edits scene (Among h) = beside (option_map as_handle (parent_of (handles_of scene.trees) h.0))
edits scene (Loads h) = Other
edits scene Nobody = Same

abbrev pub edit_of : Scene → Change → Edit
edit_of scene change = edits scene (subject_of change)

-- whether objects go
abbrev pub is_gone : Edit → Bool
is_gone (Gone parent) = true
is_gone edit = false
