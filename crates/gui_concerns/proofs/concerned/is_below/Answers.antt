use Rattle.std.proofs.Common.{◌∙◌, sym, ap, eqb, ℕ, List}
use Rattle.std.specs.List.{list_any}
use Rattle.gui_base.specs.Forest.{Forest}
use Rattle.gui_store.specs.Views.{scene_of}
use Rattle.gui_tree.specs.Walks.{line_of}
use Rattle.gui_concerns.proofs.Below.{below_met}
use Rattle.gui_concerns.proofs.concerned.is_below.Goals as goal

pub loop-above-init : goal.loop-above-init
loop-above-init c =
    let line = c.into_iter-above-iterator.ensures.into_iter_gives ∙ (c.ancestors-above-items.ensures ∙ ap (λ (f : Forest ℕ). line_of f c.args.k.0) c.tree-tree.ensures.forest) in
    sym (below_met (scene_of c.args.store.now) c.args.h.0 c.args.k.0 c.tree-tree.ensures.valid.trees.once) ∙ ap (λ (hs : List ℕ). list_any (λ j. eqb j c.args.h.0) hs) (sym line)
