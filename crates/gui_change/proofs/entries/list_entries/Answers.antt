use Rattle.std.proofs.Common.{◌≡◌, ◌∙◌, ◌+◌, ◌*◌, ◌≤◌, ◌++◌, sym, vec_len, append_assoc, arith}
use Rattle.gui_base.specs.Forest.{size, tree_at}
use Rattle.scene_defs.specs.Scene.{handles_of}
use Rattle.scene_defs.specs.Shown.{entries_in}
use Rattle.gui_store.specs.Views.{scene_of}
use Rattle.gui_change.specs.Entries.{all_entries}
use Rattle.gui_change.proofs.Entering.{entries_are}
use Rattle.gui_change.proofs.Orders.{root_there, three_fit}
use Rattle.gui_change.proofs.entries.list_entries.Goals as goal

pub list_tree-requires-clause-there : goal.list_tree-requires-clause-there
list_tree-requires-clause-there c =
    let scene = scene_of c.args.store.now in
    let valid = c.tree-tree.ensures.valid in
    rw (c.tree-tree.ensures.forest, c.active.ensures.screen) (root_there scene valid scene.active valid.trees.active)

pub list_tree-requires-clause-room : goal.list_tree-requires-clause-room
list_tree-requires-clause-room c =
    let scene = scene_of c.args.store.now in
    let valid = c.tree-tree.ensures.valid in
    let f = handles_of scene.trees in
    let all : size (tree_at f scene.active) + (size (tree_at f 1) + size (tree_at f 2)) ≤ scene.limits.objects = three_fit scene valid in
    let room = c.requires.room in
    let none = c.requires.len in
    rw (c.tree-tree.ensures.forest, c.active.ensures.screen) (omega arith)

pub list_tree-requires-2-clause-there : goal.list_tree-requires-2-clause-there
list_tree-requires-2-clause-there c =
    let scene = scene_of c.args.store.now in
    let valid = c.tree-tree.ensures.valid in
    rw c.tree-tree.ensures.forest (root_there scene valid 1 valid.trees.top_layer)

pub list_tree-requires-2-clause-room : goal.list_tree-requires-2-clause-room
list_tree-requires-2-clause-room c =
    let scene = scene_of c.args.store.now in
    let valid = c.tree-tree.ensures.valid in
    let f = handles_of scene.trees in
    let all : size (tree_at f scene.active) + (size (tree_at f 1) + size (tree_at f 2)) ≤ scene.limits.objects = three_fit scene valid in
    let room = c.requires.room in
    let none = c.requires.len in
    let first : vec_len c.list_tree.new.listed ≡ vec_len c.args.listed.now + 2 * size (tree_at f scene.active) = rw (c.tree-tree.ensures.forest, c.active.ensures.screen) at c.list_tree.ensures.len in
    let same = c.list_tree.ensures.capacity in
    rw c.tree-tree.ensures.forest (omega arith)

pub list_tree-requires-3-clause-there : goal.list_tree-requires-3-clause-there
list_tree-requires-3-clause-there c =
    let scene = scene_of c.args.store.now in
    let valid = c.tree-tree.ensures.valid in
    rw c.tree-tree.ensures.forest (root_there scene valid 2 valid.trees.system_layer)

pub list_tree-requires-3-clause-room : goal.list_tree-requires-3-clause-room
list_tree-requires-3-clause-room c =
    let scene = scene_of c.args.store.now in
    let valid = c.tree-tree.ensures.valid in
    let f = handles_of scene.trees in
    let all : size (tree_at f scene.active) + (size (tree_at f 1) + size (tree_at f 2)) ≤ scene.limits.objects = three_fit scene valid in
    let room = c.requires.room in
    let none = c.requires.len in
    let first : vec_len c.list_tree.new.listed ≡ vec_len c.args.listed.now + 2 * size (tree_at f scene.active) = rw (c.tree-tree.ensures.forest, c.active.ensures.screen) at c.list_tree.ensures.len in
    let second : vec_len c.list_tree-2.new.listed ≡ vec_len c.list_tree.new.listed + 2 * size (tree_at f 1) = rw c.tree-tree.ensures.forest at c.list_tree-2.ensures.len in
    let same = c.list_tree.ensures.capacity in
    let same_again = c.list_tree-2.ensures.capacity in
    rw c.tree-tree.ensures.forest (omega arith)

pub returns-clause-entries : goal.returns-clause-entries
returns-clause-entries c =
    let scene = scene_of c.args.store.now in
    let valid = c.tree-tree.ensures.valid in
    let f = handles_of scene.trees in
    let top = entries_in (tree_at f 1) in
    let system = entries_in (tree_at f 2) in
    let screen = entries_in (tree_at f scene.active) in
    let first : all_entries c.list_tree.new.listed.items ≡ screen =
    rw (c.tree-tree.ensures.forest, c.active.ensures.screen, c.requires.empty) at c.list_tree.ensures.listed in
    let second : all_entries c.list_tree-2.new.listed.items ≡ screen ++ top = rw (c.tree-tree.ensures.forest, first) at c.list_tree-2.ensures.listed in
    let third : all_entries c.list_tree-3.new.listed.items ≡ (screen ++ top) ++ system = rw (c.tree-tree.ensures.forest, second) at c.list_tree-3.ensures.listed in
    third ∙ (append_assoc screen top system ∙ sym (entries_are scene valid))
