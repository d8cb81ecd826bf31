-- The trees of scenes that were worked out by hand.
use Rattle.std.specs.Prelude.{◌≡◌, codes, ◌++◌}
use Rattle.gui_base.specs.Forest.{Empty, Tree}
use Rattle.gui_base.specs.declared.words.Kind.TheVariants.{Obj, Label, Button, Bar}
use Rattle.scene_check.specs.Nodes.{trees_of}

pub record TreesAreWorked : Type 0 where
  pub label : trees_of (codes "{\"children\":[{\"id\":10,\"kind\":\"label\",\"text\":\"a\\\"b\",\"pos\":[1,2]}]}")
      ≡ Tree (10, Label) Empty Empty
  pub nothing : trees_of (codes "{\"children\":[]}") ≡ Empty
  -- objects in the order of their lists, and those below an object below it
  pub nested : trees_of (codes "{\"children\":[{\"children\":[{\"id\":30,\"kind\":\"bar\"},{\"id\":12,\"kind\":\"obj\"}],"
      ++ codes "\"id\":11,\"kind\":\"button\"},{\"id\":10,\"kind\":\"label\"}]}")
      ≡ Tree (11, Button) (Tree (30, Bar) Empty (Tree (12, Obj) Empty Empty)) (Tree (10, Label) Empty Empty)
