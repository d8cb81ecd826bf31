-- Trees that are solved one after another, told by the objects at their tops.
use Rattle.std.proofs.Common.{◌≡◌, ◌∙◌, ◌<◌, ◌≤◌, ◌+◌, refl, sym, ap, subst, ℕ, zero, suc, Bool, true, false, eqb, cond, List, [], ◌∷◌, ◌++◌, ◌⊎◌, inl, inr, length, Option, Some, None, arith}
use Rattle.std.specs.Option.{option_to_list}
use Rattle.std.proofs.lemmas.Bool.{cases_Bool, eqb-true, both_ways, false_from_ne_true, or_cases, or_left, or_right, or_parts, false≢true}
use Rattle.std.proofs.lemmas.List.{length-append}
use Rattle.gui_base.specs.Forest.{Forest, has, tree_at}
use Rattle.gui_base.specs.declared.Handle.{Handle}
use Rattle.scene_defs.specs.Scene.{Scene, handles_of}
use Rattle.gui_layout.specs.declared.places.Places.{Places}
use Rattle.gui_boxes.specs.Listing.{times}
use Rattle.gui_layout.specs.Scenes.{scene_box}
use Rattle.gui_layout.specs.Settles.{SolvesTree}
use Rattle.gui_layout.specs.Solved.{layout_of}
use Rattle.gui_layout.specs.Tops.{SolvesAt, in_trees_at}
use Rattle.gui_boxes.proofs.Leaving.{times-both}
use Rattle.gui_layout.proofs.Solves.{rest_same}

-- what is listed in two lists is listed in one of them
some-either : (a b : ℕ) → 0 < a + b → 0 < a ⊎ 0 < b
some-either zero b some = inr (omega arith)
some-either (suc a) b some = inl (omega arith)

pub listed-either : (us vs : List Handle) (u : ℕ) → 0 < times (us ++ vs) u → 0 < times us u ⊎ 0 < times vs u
listed-either us vs u some = let both = times-both us vs u in some-either (times us u) (times vs u) (omega arith)

-- no more than one is listed
pub one-listed : (us : List Handle) (u : Option Handle) → length (us ++ option_to_list u) ≤ length us + 1
one-listed us None = rw (length-append us []) (omega arith)
one-listed us (Some u) = rw (length-append us (u ∷ [])) (omega arith)

-- what lies in trees of one of them lies in trees of both
pub in-first : (f : Forest ℕ) (us vs : List Handle) (k : ℕ) → in_trees_at f us k ≡ true → in_trees_at f (us ++ vs) k ≡ true
in-first f [] vs k is = absurd (false≢true is)
in-first f (u ∷ us) vs k is = elim (or_cases (has (tree_at f u.0) k) (in_trees_at f us k) is) [
  | inl i ↦ or_left (has (tree_at f u.0) k) (in_trees_at f (us ++ vs) k) i
  | inr i ↦ or_right (has (tree_at f u.0) k) (in_trees_at f (us ++ vs) k) (in-first f us vs k i)
]

pub in-second : (f : Forest ℕ) (us vs : List Handle) (k : ℕ) → in_trees_at f vs k ≡ true → in_trees_at f (us ++ vs) k ≡ true
in-second f [] vs k is = is
in-second f (u ∷ us) vs k is = or_right (has (tree_at f u.0) k) (in_trees_at f (us ++ vs) k) (in-second f us vs k is)

-- a list of one
pub only-top : (u : Handle) (j : ℕ) → 0 < times (u ∷ []) j → u.0 ≡ j
only-top u j some = elim (cases_Bool (eqb u.0 j)) [
  | inl is ↦ eqb-true u.0 j is
  | inr isnt ↦ absurd (let none : times (u ∷ []) j ≡ 0 = ap (λ b. cond b 1 0 + 0) isnt in omega arith)
]

module _ (scene : Scene) where
  abbrev f : Forest ℕ
  f = handles_of scene.trees

  -- nothing is solved
  pub solves-none : (p : Places) (m : ℕ → Bool) → SolvesAt p p scene m m []
  solves-none p m = record {
    tops = λ u some. absurd (omega arith);
    whole = λ k there is gone. absurd (both_ways (m k) gone is);
    stays = λ k there out. refl;
  }

  -- one tree is
  pub solves-one : (a b : Places) (m n : ℕ → Bool) (h : ℕ) (u : Handle) → SolvesTree a b scene h u.0 → ((k : ℕ) → has (tree_at f u.0) k ≡ false → n k ≡ m k) → SolvesAt a b scene m n (u ∷ [])
  solves-one a b m n h u tree left = record {
    tops = λ j some. subst (λ i. has f i ≡ true) (only-top u j some) tree.there;
    whole = λ k there is gone. elim (cases_Bool (has (tree_at f u.0) k)) [
      | inl i ↦ or_left (has (tree_at f u.0) k) false i
      | inr out ↦ absurd (both_ways (m k) (sym (left k out) ∙ gone) is)
    ];
    stays = λ k there out.
        let parts : (has (tree_at f u.0) k ≡ false) × (false ≡ false) = or_parts (has (tree_at f u.0) k) false out in
        rest_same (scene_box scene) (layout_of a) (layout_of b) (tree_at f u.0) k tree.keeps parts.0;
  }

  -- and then others are
  pub solves-then : (a b c : Places) (m n o : ℕ → Bool) (us vs : List Handle) → SolvesAt a b scene m n us → SolvesAt b c scene n o vs → SolvesAt a c scene m o (us ++ vs)
  solves-then a b c m n o us vs first later = record {
    tops = λ u some. elim (listed-either us vs u some) [ inl i ↦ first.tops u i | inr i ↦ later.tops u i ];
    whole = λ k there is gone. elim (cases_Bool (n k)) [
      | inl still ↦ in-second f us vs k (later.whole k there still gone)
      | inr settled ↦ in-first f us vs k (first.whole k there is settled)
    ];
    stays = λ k there out.
        let before : in_trees_at f us k ≡ false = false_from_ne_true (in_trees_at f us k) (λ i. both_ways (in_trees_at f (us ++ vs) k) out (in-first f us vs k i)) in
        let after : in_trees_at f vs k ≡ false = false_from_ne_true (in_trees_at f vs k) (λ i. both_ways (in_trees_at f (us ++ vs) k) out (in-second f us vs k i)) in
        later.stays k there after ∙ first.stays k there before;
  }
