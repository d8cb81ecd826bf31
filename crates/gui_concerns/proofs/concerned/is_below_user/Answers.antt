use Rattle.std.proofs.Common.{◌∙◌, sym, ap, ℕ, List}
use Rattle.std.specs.List.{list_any}
use Rattle.gui_base.specs.Forest.{Forest}
use Rattle.gui_style.specs.Styles.{uses_style}
use Rattle.gui_store.specs.Views.{scene_of}
use Rattle.gui_tree.specs.Walks.{line_of}
use Rattle.gui_concerns.proofs.Below.{user_met}
use Rattle.gui_concerns.proofs.concerned.is_below_user.Goals as goal

pub loop-above-init : goal.loop-above-init
loop-above-init c =
    let line = c.into_iter-above-iterator.ensures.into_iter_gives ∙ (c.ancestors-above-items.ensures ∙ ap (λ (f : Forest ℕ). line_of f c.args.k.0) c.tree-tree.ensures.forest) in
    sym (user_met (scene_of c.args.store.now) c.args.style c.args.k.0 c.tree-tree.ensures.valid.trees.once)
    ∙ ap (λ (hs : List ℕ). list_any (λ j. uses_style (scene_of c.args.store.now).book j c.args.style) hs) (sym line)
