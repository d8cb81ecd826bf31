use Rattle.std.proofs.Common.{◌≡◌, ◌<◌, ◌≤◌, ◌+◌, ◌*◌, ◌∙◌, ◌++◌, ◌∷◌, [], sym, ap, ℕ, vec_len, arith, rules}
use Rattle.std.proofs.lemmas.List.{map-append, append-nil}
use Rattle.gui_base.specs.Forest.{Forest, Tree, size}
use Rattle.gui_tree.specs.Walks.{Walk}
use Rattle.gui_tree.proofs.Steps.{IsChild, child_in}
use Rattle.scene_defs.specs.Shown.{bars_over, entries_in, own}
use Rattle.gui_change.specs.Entries.{all_entries, entry_in}
use Rattle.gui_change.proofs.Entering.{entries_turn}
use Rattle.gui_change.proofs.entries.+list_trees.Goals as goal
use Rattle.gui_change.proofs.entries.+list_trees.Goals.{In-Some}

child : (t : ℕ) (c : In-Some t) → IsChild c.args.tree.now.forest c.loop-h.h-iterator c.in-Some.h.0 c.next.new.self
child t c = child_in c.args.tree.now.forest c.loop-h.h-iterator c.next.new.self c.in-Some.h.0 c.loop-h.invariant.same c.in-Some.ensures.steps

pub push_reserved-requires : goal.push_reserved-requires
push_reserved-requires t c =
    let g = child t (goal.at.push_reserved-requires t c).In-Some in
    let inv = c.loop-h.invariant in
    let len : vec_len c.loop-h.listed + 2 * size (Tree c.in-Some.h.0 g.children c.next.new.self.left) ≡ vec_len c.args.listed.now + 2 * size c.args.trees.left = rw g.left at inv.len in
    let was = inv.capacity in
    let room = c.requires.room in
    omega (arith, len, was, room)

pub list_trees-requires : goal.list_trees-requires
list_trees-requires t c =
    let g = child t (goal.at.list_trees-requires t c).In-Some in
    let h = c.in-Some.h.0 in
    let inv = c.loop-h.invariant in
    let later = c.next.new.self.left in
    let below : c.children.result.left ≡ g.children = ap (λ (w : Walk). w.left) c.children.ensures.walk ∙ g.below in
    let fewer : size (Tree h g.children later) ≤ size c.args.trees.left = rw g.left at inv.fewer in
    let smaller : size c.children.result.left < size c.args.trees.left = rw below (omega arith) in
    let len : vec_len c.loop-h.listed + 2 * size (Tree h g.children later) ≡ vec_len c.args.listed.now + 2 * size c.args.trees.left = rw g.left at inv.len in
    let pushed = c.push_reserved.ensures.len in
    let same = c.push_reserved.ensures.capacity in
    let was = inv.capacity in
    let room = c.requires.room in
    (search rules, (ap (λ (w : Walk). w.forest) c.children.ensures.walk, rw below (omega arith)))

pub push_reserved-requires-in-loop-h : goal.push_reserved-requires-in-loop-h
push_reserved-requires-in-loop-h t c =
    let g = child t (goal.at.push_reserved-requires-in-loop-h t c).In-Some in
    let inv = c.loop-h.invariant in
    let below : c.children.result.left ≡ g.children = ap (λ (w : Walk). w.left) c.children.ensures.walk ∙ g.below in
    let len : vec_len c.loop-h.listed + 2 * size (Tree c.in-Some.h.0 g.children c.next.new.self.left) ≡ vec_len c.args.listed.now + 2 * size c.args.trees.left = rw g.left at inv.len in
    let more : vec_len c.list_trees.new.listed ≡ vec_len c.push_reserved.new.self + 2 * size g.children =
    c.list_trees.ensures.len ∙ ap (λ (t : Forest ℕ). vec_len c.push_reserved.new.self + 2 * size t) below in
    let pushed = c.push_reserved.ensures.len in
    let same = c.push_reserved.ensures.capacity in
    let same_again = c.list_trees.ensures.capacity in
    let was = inv.capacity in
    let room = c.requires.room in
    omega (arith, len, more, pushed, same, same_again, was, room)

pub loop-h-preserved : goal.loop-h-preserved
loop-h-preserved t c =
    let inv = c.loop-h.invariant in
    let g = child t (goal.at.loop-h-preserved t c).In-Some in
    let h = c.in-Some.h.0 in
    let later = c.next.new.self.left in
    let old = all_entries c.loop-h.listed.items in
    let below : c.children.result.left ≡ g.children = ap (λ (w : Walk). w.left) c.children.ensures.walk ∙ g.below in
    let pushed : all_entries c.push_reserved.new.self.items ≡ old ++ own h ∷ [] = ap all_entries c.push_reserved.ensures.items ∙ map-append entry_in c.loop-h.listed.items _ in
    let lower : all_entries c.list_trees.new.listed.items ≡ (old ++ own h ∷ []) ++ entries_in g.children =
    c.list_trees.ensures.listed ∙ (ap (λ xs. xs ++ entries_in c.children.result.left) pushed ∙ ap (λ (t : Forest ℕ). (old ++ own h ∷ []) ++ entries_in t) below) in
    let last : all_entries c.push_reserved-in-loop-h.new.self.items ≡ ((old ++ own h ∷ []) ++ entries_in g.children) ++ bars_over h ∷ [] =
    ap all_entries c.push_reserved-in-loop-h.ensures.items ∙ (map-append entry_in c.list_trees.new.listed.items _ ∙ ap (λ xs. xs ++ bars_over h ∷ []) lower) in
    let fewer : size (Tree h g.children later) ≤ size c.args.trees.left = rw g.left at inv.fewer in
    let len : vec_len c.loop-h.listed + 2 * size (Tree h g.children later) ≡ vec_len c.args.listed.now + 2 * size c.args.trees.left = rw g.left at inv.len in
    let one = c.push_reserved.ensures.len in
    let two = c.push_reserved-in-loop-h.ensures.len in
    let more : vec_len c.list_trees.new.listed ≡ vec_len c.push_reserved.new.self + 2 * size g.children =
    c.list_trees.ensures.len ∙ ap (λ (t : Forest ℕ). vec_len c.push_reserved.new.self + 2 * size t) below in
    record {
      same = g.forest;
      fewer = omega arith;
      len = omega arith;
      capacity = c.push_reserved-in-loop-h.ensures.capacity ∙ (c.list_trees.ensures.capacity ∙ (c.push_reserved.ensures.capacity ∙ inv.capacity));
      left =
          ap (λ xs. xs ++ entries_in later) last
          ∙ (entries_turn old (entries_in g.children) (entries_in later) (own h) (bars_over h)
          ∙ (ap (λ (t : Forest ℕ). old ++ entries_in t) (sym g.left) ∙ inv.left));
    }

pub returns-clause-listed : goal.returns-clause-listed
returns-clause-listed t c =
    let all = all_entries c.loop-h.listed.items in
    sym (append-nil all) ∙ (ap (λ (t : Forest ℕ). all ++ entries_in t) (sym c.in-None.ensures.steps.0) ∙ c.loop-h.invariant.left)

pub returns-clause-len : goal.returns-clause-len
returns-clause-len t c =
    let none : size c.loop-h.h-iterator.left ≡ 0 = ap (λ (t : Forest ℕ). size t) c.in-None.ensures.steps.0 in
    let len = c.loop-h.invariant.len in
    omega (arith, none, len)
