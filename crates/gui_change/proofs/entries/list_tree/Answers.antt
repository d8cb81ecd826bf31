use Rattle.std.proofs.Common.{◌≡◌, ◌+◌, ◌*◌, ◌∙◌, ◌++◌, ◌∷◌, [], sym, ap, ℕ, vec_len, arith}
use Rattle.std.proofs.lemmas.List.{map-append, append-nil}
use Rattle.gui_base.specs.Forest.{Forest, size, children_of}
use Rattle.gui_tree.specs.Walks.{Walk}
use Rattle.gui_tree.proofs.Below.{tree_is}
use Rattle.scene_defs.specs.Shown.{bars_over, entries_in, own}
use Rattle.gui_change.specs.Entries.{all_entries, entry_in}
use Rattle.gui_change.proofs.Entering.{entries_turn}
use Rattle.gui_change.proofs.entries.list_tree.Goals as goal

pub push_reserved-requires : goal.push_reserved-requires
push_reserved-requires c =
    let room = rw (tree_is c.args.tree.now.forest c.args.h.0 c.requires.there) at c.requires.room in
    omega (arith, room)

pub list_trees-requires-clause-same : goal.list_trees-requires-clause-same
list_trees-requires-clause-same c = ap (λ (w : Walk). w.forest) c.children.ensures.walk

pub list_trees-requires-clause-room : goal.list_trees-requires-clause-room
list_trees-requires-clause-room c =
    let room = rw (tree_is c.args.tree.now.forest c.args.h.0 c.requires.there) at c.requires.room in
    let one = c.push_reserved.ensures.len in
    let same = c.push_reserved.ensures.capacity in
    rw c.children.ensures.walk (omega (arith, room))

pub push_reserved-requires-2 : goal.push_reserved-requires-2
push_reserved-requires-2 c =
    let room = rw (tree_is c.args.tree.now.forest c.args.h.0 c.requires.there) at c.requires.room in
    let one = c.push_reserved.ensures.len in
    let same = c.push_reserved.ensures.capacity in
    let same_again = c.list_trees.ensures.capacity in
    let more : vec_len c.list_trees.new.listed ≡ vec_len c.push_reserved.new.self + 2 * size (children_of c.args.tree.now.forest c.args.h.0) =
    c.list_trees.ensures.len ∙ ap (λ (w : Walk). vec_len c.push_reserved.new.self + 2 * size w.left) c.children.ensures.walk in
    omega (arith, room, one, same, same_again, more)

pub returns-clause-listed : goal.returns-clause-listed
returns-clause-listed c =
    let f = c.args.tree.now.forest in
    let h = c.args.h.0 in
    let old = all_entries c.args.listed.now.items in
    let kids = entries_in (children_of f h) in
    let pushed : all_entries c.push_reserved.new.self.items ≡ old ++ own h ∷ [] = ap all_entries c.push_reserved.ensures.items ∙ map-append entry_in c.args.listed.now.items _ in
    let lower : all_entries c.list_trees.new.listed.items ≡ (old ++ own h ∷ []) ++ kids =
    c.list_trees.ensures.listed
    ∙ (ap (λ xs. xs ++ entries_in c.children.result.left) pushed
    ∙ ap (λ (w : Walk). (old ++ own h ∷ []) ++ entries_in w.left) c.children.ensures.walk) in
    let last : all_entries c.push_reserved-2.new.self.items ≡ ((old ++ own h ∷ []) ++ kids) ++ bars_over h ∷ [] =
    ap all_entries c.push_reserved-2.ensures.items ∙ (map-append entry_in c.list_trees.new.listed.items _ ∙ ap (λ xs. xs ++ bars_over h ∷ []) lower) in
    last
    ∙ (sym (append-nil _)
    ∙ (entries_turn old kids [] (own h) (bars_over h)
    ∙ ap (λ (t : Forest ℕ). old ++ entries_in t) (sym (tree_is f h c.requires.there))))

pub returns-clause-len : goal.returns-clause-len
returns-clause-len c =
    let one = c.push_reserved.ensures.len in
    let two = c.push_reserved-2.ensures.len in
    let more : vec_len c.list_trees.new.listed ≡ vec_len c.push_reserved.new.self + 2 * size (children_of c.args.tree.now.forest c.args.h.0) =
    c.list_trees.ensures.len ∙ ap (λ (w : Walk). vec_len c.push_reserved.new.self + 2 * size w.left) c.children.ensures.walk in
    rw (tree_is c.args.tree.now.forest c.args.h.0 c.requires.there) (omega arith)
