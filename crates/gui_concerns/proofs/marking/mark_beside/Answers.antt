use Rattle.std.proofs.Common.{◌∙◌, ◌<◌, arith}
use Rattle.gui_base.specs.Forest.{size}
use Rattle.gui_base.proofs.Forests.{map-size}
use Rattle.gui_store.specs.Views.{scene_of}
use Rattle.scene_defs.specs.Scene.{handle_of, handles_of}
use Rattle.scene_defs.proofs.Handles.{has-handles}
use Rattle.scene_defs.proofs.RowKinds.{root_there}
use Rattle.gui_concerns.proofs.Lists.{some-size}
use Rattle.gui_concerns.proofs.Marks.{count-none, none-changed, unmarked-still}
use Rattle.gui_concerns.proofs.marking.mark_beside.Goals as goal

pub mark_children-requires : goal.mark_children-requires
mark_children-requires c =
    let scene = scene_of c.args.store.now in
    let valid = c.tree-tree.ensures.valid in
    let count = count-none c.args.marks.now c.requires.none.none in
    let most = c.requires.none.most in
    let fit = valid.pools.objects in
    let some : 0 < size (handles_of scene.trees) = some-size 1 (handles_of scene.trees) (has-handles scene.trees 1 ∙ root_there scene.trees 1 valid.trees.top_layer) in
    record { room = λ none. omega (arith, map-size handle_of scene.trees) }

pub returns-clause-changed : goal.returns-clause-changed
returns-clause-changed c k = c.mark_children.ensures.changed k ∙ none-changed c.args.marks.now k (c.requires.none.none k)

pub returns-clause-others : goal.returns-clause-others
returns-clause-others c k other = unmarked-still c.args.marks.now c.mark_children.new.self k (c.requires.none.none k) (c.mark_children.ensures.changed k) (c.mark_children.ensures.others k other)
