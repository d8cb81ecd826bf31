-- Marks of the second grade, before the first tree is solved.
use Rattle.std.proofs.Common.{◌≡◌, ◌∙◌, sym, ap, ℕ, Bool, true, false}
use Rattle.std.proofs.lemmas.Bool.{both_ways, false_from_ne_true}
use Rattle.layout_defs.specs.Boxes.{Box}
use Rattle.layout_defs.specs.OwnHeights.{but_height}
use Rattle.scene_defs.specs.Scene.{Scene, handles_of}
use Rattle.gui_layout.specs.declared.places.Places.{Places}
use Rattle.gui_layout.specs.Raised.{Rests}
use Rattle.gui_layout.specs.Scenes.{scene_box}
use Rattle.gui_boxes.specs.Settled.{is_steady}
use Rattle.gui_layout.specs.SettledBut.{AreRightBut, AreRightButChanged, AreScrolledBut, AreSettledButChanged, AreSettledButMarks, anyone, nobody}
use Rattle.gui_layout.specs.Settles.{known_in}
use Rattle.gui_layout.specs.Solved.{layout_of}
use Rattle.gui_base.specs.Forest.{has}
use Rattle.gui_boxes.specs.Touched.{IsAtRest}
use Rattle.gui_boxes.specs.Views.{box_at}
use Rattle.gui_layout.proofs.Marking.{all-both, all-fewer, all-graded, fill-fewer}

-- a box is steady whatever its own height
pub steady-but : (b c : Box) → but_height b ≡ but_height c → is_steady b ≡ true → is_steady c ≡ true
steady-but b c same is = let both : is_steady (but_height b) ≡ is_steady (but_height c) = ap is_steady same in sym both ∙ is

-- where fewer are looked at
pub narrowed : (p : Places) (scene : Scene) (s t m : ℕ → Bool) → ((k : ℕ) → t k ≡ true → s k ≡ true) → AreRightButChanged p scene s m → AreRightButChanged p scene t m
narrowed p scene s t m fewer was = record {
  boxes = λ k there looked un. was.boxes k there (fewer k looked) un;
  placed = λ k there looked un. was.placed k there (fewer k looked) un;
  fit = all-fewer s t m (known_in p scene) (handles_of scene.trees) fewer was.fit;
  fill = fill-fewer s t m m scene.limits.width scene.limits.height (known_in p scene) (handles_of scene.trees) fewer (λ k un. un) was.fill;
}

-- with no marks both say the same
pub right-both : (p : Places) (scene : Scene) (s : ℕ → Bool) → AreRightButChanged p scene s nobody → AreScrolledBut p scene s nobody nobody → ((k : ℕ) → has (handles_of scene.trees) k ≡ true → s k ≡ true → IsAtRest (layout_of p) k) → AreRightBut p scene s nobody nobody
right-both p scene s was scrolled calm = record {
  boxes = was.boxes;
  placed = was.placed;
  fit = all-both s nobody nobody (known_in p scene) (handles_of scene.trees) was.fit;
  fill = was.fill;
  scrolled = scrolled;
  calm = calm;
}

-- where marks of the second grade are left out of objects that rest alone, the others tell all
module _ (p : Places) (scene : Scene) (m c n : ℕ → Bool) (more : (k : ℕ) → m k ≡ true → n k ≡ true)
    (rests : (k : ℕ) → c k ≡ true → n k ≡ false → Rests (handles_of scene.trees) p.entries k) where
  unchanged : (k : ℕ) → n k ≡ false → m k ≡ false
  unchanged k none = false_from_ne_true (m k) (λ is. both_ways (n k) none (more k is))

  pub right-raised : (s : ℕ → Bool) → AreRightBut p scene s m c → AreRightButChanged p scene s n
  right-raised s was = record {
    boxes = λ k there looked none. was.boxes k there looked (unchanged k none);
    placed = λ k there looked none. was.placed k there looked (unchanged k none);
    fit = all-graded s m c n (known_in p scene) more
        (λ k looked on none.
        let rest = rests k on none in
        steady-but (box_at (layout_of p).boxes k) (scene_box scene k) (was.boxes k rest.there looked (unchanged k none)) rest.steady)
        (handles_of scene.trees) was.fit;
    fill = fill-fewer s s m n scene.limits.width scene.limits.height (known_in p scene) (handles_of scene.trees) (λ k looked. looked) unchanged was.fill;
  }

  pub settled-raised : AreSettledButMarks p scene m c → AreSettledButChanged p scene n
  settled-raised was = record {
    right = right-raised anyone was.right;
    there = λ k none. was.there k (unchanged k none);
  }
