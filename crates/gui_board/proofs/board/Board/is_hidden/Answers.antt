use Rattle.std.proofs.Common.{◌≡◌, ◌∙◌, ◌||◌, sym, ap, ℕ, Bool, true, List}
use Rattle.std.specs.List.{list_any}
use Rattle.gui_base.specs.Forest.{Forest}
use Rattle.gui_change.specs.Canvas.{scene_in}
use Rattle.gui_tree.specs.Walks.{line_of}
use Rattle.run_defs.specs.Making.{is_hidden}
use Rattle.scene_defs.specs.Scene.{Scene, handles_of, path_at, row_at}
use Rattle.scene_defs.specs.Valid.{IsValid}
use Rattle.gui_board.specs.Hiding.{hides}
use Rattle.gui_board.proofs.Shown.{hidden_line}
use Rattle.gui_board.proofs.board.Board.is_hidden.Goals as goal
use Rattle.gui_board.proofs.board.Board.is_hidden.Goals.{In-Some}

pub loop-k-init : goal.loop-k-init
loop-k-init c =
    let scene = scene_in c.args.self.now.canvas in
    let valid : IsValid scene = rw c.store.ensures.scene at c.tree.ensures.valid in
    let trees = c.tree.ensures.forest ∙ ap (λ (s : Scene). handles_of s.trees) c.store.ensures.scene in
    let line = c.into_iter-k-iterator.ensures.into_iter_gives ∙ (c.ancestors-k-items.ensures ∙ ap (λ (f : Forest ℕ). line_of f c.args.h.0) trees) in
    hidden_line scene c.args.h.0 valid ∙ ap (λ (hs : List ℕ). list_any (λ j. hides (row_at scene j)) hs) (sym line)

-- the nearest that is left, or else those above it
nearest : (c : In-Some) → list_any is_hidden (path_at (scene_in c.args.self.now.canvas) c.args.h.0) ≡ (hides (row_at (scene_in c.args.self.now.canvas) c.in-Some.k.0) || list_any (λ j. hides (row_at (scene_in c.args.self.now.canvas) j)) c.next.new.self)
nearest c = c.loop-k.invariant ∙ ap (λ (hs : List ℕ). list_any (λ j. hides (row_at (scene_in c.args.self.now.canvas) j)) hs) c.in-Some.ensures.steps

pub returns-then-hides : goal.returns-then-hides
returns-then-hides c =
    let scene = scene_in c.args.self.now.canvas in
    sym (nearest (goal.at.returns-then-hides c).In-Some ∙ ap (λ (b : Bool). b || list_any (λ j. hides (row_at scene j)) c.next.new.self) (sym c.hides.ensures ∙ c.if-hides.true))

pub loop-k-preserved : goal.loop-k-preserved
loop-k-preserved c =
    let scene = scene_in c.args.self.now.canvas in
    nearest (goal.at.loop-k-preserved c).In-Some ∙ ap (λ (b : Bool). b || list_any (λ j. hides (row_at scene j)) c.next.new.self) (sym c.hides.ensures ∙ c.if-hides.false)

pub returns : goal.returns
returns c = sym (c.loop-k.invariant ∙ ap (λ (hs : List ℕ). list_any (λ j. hides (row_at (scene_in c.args.self.now.canvas) j)) hs) c.in-None.ensures.steps.0)
