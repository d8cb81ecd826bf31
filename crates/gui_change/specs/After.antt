-- A scene after a change.
use Rattle.scene_defs.specs.Scene.{Scene}
use Rattle.gui_store.specs.Views.{scene_of}
use Rattle.gui_change.specs.declared.after.After.{After}

abbrev pub scene_after : After → Scene
scene_after after = scene_of after.store.now
