use Rattle.std.proofs.Common.{◌≡◌, ◌+◌, ◌-◌, ◌<◌, ◌++◌, length, set}
use Rattle.gui_pool.specs.Lists.{list_of}
use Rattle.gui_pool.specs.Pieces.{pieces}
use Rattle.gui_pool.specs.Texts.{chunk_count}
use Rattle.gui_pool.proofs.chains.fill.Given as goal

abbrev pub invariant-pieces : goal.invariant-pieces
invariant-pieces l = record {
  whole : list_of l.chunks l.owner ++ pieces (chunk_count (length l.fn.text) - l._i) l.rest ≡ pieces (chunk_count (length l.fn.text)) l.fn.text;
  others : l.chunks.lists ≡ set l.initial.chunks.lists l.owner (list_of l.chunks l.owner);
  within : l.owner < length l.chunks.lists;
  spare : l.chunks.spare + l._i ≡ l.initial.chunks.spare;
  size : l.chunks.size ≡ l.initial.chunks.size;
}
