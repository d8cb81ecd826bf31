-- The links of each handle.
use Rattle.std.specs.Prelude.{ℕ, ◌+◌, ◌-◌, List, Option, None, Some, slice_index_or, slice_set}
use Rattle.gui_tree.specs.declared.nodes.Links.{Links}

-- the links of each handle, from 0 on; how many more handles fit; and how many fit in all
pub record Nodes : Type 0 where
  pub links : List (Option Links)
  pub spare : ℕ
  pub total : ℕ

-- the links of a handle
abbrev pub at : Nodes → ℕ → Option Links
at t h = slice_index_or t.links h None

-- other links for a handle that had some
abbrev pub with_links : Nodes → ℕ → Links → Nodes
with_links t h l = record t { links = slice_set t.links h (Some l) }

-- links for a handle that had none
abbrev pub with_node : Nodes → ℕ → Links → Nodes
with_node t h l = record t { links = slice_set t.links h (Some l); spare = t.spare - 1 }

-- no links for a handle that had some
abbrev pub without_node : Nodes → ℕ → Nodes
without_node t h = record t { links = slice_set t.links h None; spare = t.spare + 1 }
