-- Downward passes that visit touched objects alone and touch more.
use Rattle.std.proofs.Common.{◌≡◌, ◌∙◌, refl, ℕ, Bool, true, false, eqb, ◌||◌, List}
use Rattle.std.proofs.lemmas.Bool.{false_from_ne_true, or_parts}
use Rattle.gui_base.specs.Forest.{Forest, Empty, Tree, has}
use Rattle.layout_defs.specs.Tables.{KeepsOthers}
use Rattle.gui_tree.proofs.Parts.{IsDistinct}
use Rattle.gui_boxes.specs.Settled.{Layout, EachKids, WidthsFit}
use Rattle.gui_boxes.specs.Touched.{IfTouched, IsClosed}
use Rattle.gui_boxes.proofs.Keeps.{elsewhere}
use Rattle.gui_boxes.proofs.Passes.{Lowers, lowers_none, lowers_first, trees_by, widths_pass}
use Rattle.gui_boxes.proofs.Touched.{touched_pass, closed_agree, fit_agree}

-- More is touched in these trees, told by u in place of t, and the pass has seen to all that is.
pub record Lowered (was : Layout) (t u : ℕ → Bool) (old new : List ℕ) (f : Forest ℕ) : Type 0 where
  pub lowers : Lowers (touched_pass u (widths_pass was)) old new f
  pub closed : IsClosed u f
  pub others : (k : ℕ) → has f k ≡ false → u k ≡ t k

pub lowered_none : (was : Layout) (t : ℕ → Bool) (old : List ℕ) → Lowered was t t old old Empty
lowered_none was t old = record { lowers = lowers_none (touched_pass t (widths_pass was)) old; closed = tt; others = λ k out. refl }

pub lowered_first : (was : Layout) (a b u : ℕ → Bool) (x y z : List ℕ) (h : ℕ) (cs rest : Forest ℕ) → IsDistinct (Tree h cs rest) → EachKids (IfTouched b WidthsFit) (trees_by (widths_pass was) y (Tree h cs Empty)) → IsClosed b (Tree h cs Empty) →
    KeepsOthers 0 x y cs → ((k : ℕ) → has cs k ≡ false → b k ≡ a k) → Lowered was b u y z rest → Lowered was a u x z (Tree h cs rest)
lowered_first was a b u x y z h cs rest distinct found closed others touches later =
    let agree : (k : ℕ) → has (Tree h cs Empty) k ≡ true → u k ≡ b k = λ k i. later.others k (false_from_ne_true (has rest k) (elsewhere h cs rest distinct k i)) in
    let seen = fit_agree b u WidthsFit (record was { widths = y }) (Tree h cs Empty) agree found in
    let shut = closed_agree b u (Tree h cs Empty) agree closed in
    record {
      lowers = lowers_first (touched_pass u (widths_pass was)) x y z h cs rest distinct seen others later.lowers;
      closed = (shut.0, shut.1, later.closed);
      others = λ k out.
          let p : (eqb h k ≡ false) × ((has cs k || has rest k) ≡ false) = or_parts _ _ out in
          let q : (has cs k ≡ false) × (has rest k ≡ false) = or_parts _ _ p.1 in
          later.others k q.1 ∙ touches k q.0;
    }
