-- What a pass finds, tree by tree.
use Rattle.std.proofs.Common.{◌≡◌, ◌∙◌, refl, sym, ap, subst, ℕ, true, false, List, ◌∷◌, get_or, set, map}
use Rattle.std.proofs.lemmas.List.{get_or-set_other, length-set}
use Rattle.std.proofs.lemmas.Bool.{both_ways, false_from_ne_true}
use Rattle.std.proofs.lemmas.Simd.{map-map}
use Rattle.gui_base.specs.Forest.{Forest, Empty, Tree, has, roots, map_forest}
use Rattle.gui_base.proofs.Forests.{map-agree}
use Rattle.layout_defs.specs.Solving.{Slot, nowhere}
use Rattle.layout_defs.specs.Tables.{KeepsOthers}
use Rattle.layout_defs.proofs.OwnHeights.{roots-map}
use Rattle.gui_boxes.specs.declared.measuring.Run.{Run}
use Rattle.gui_boxes.specs.Totals.{Sum, Kid, with_kid, with_kids, sum_of}
use Rattle.gui_boxes.specs.Settled.{Known, Layout, known_at, EachKids, NaturalWidthFits, WidthsFit, NaturalHeightFits, SlotsFit}
use Rattle.gui_boxes.specs.Views.{box_at}
use Rattle.gui_tree.proofs.Parts.{IsDistinct}
use Rattle.gui_boxes.proofs.Keeps.{keeps_none, keeps_first, keeps_top, keeps_wider, apart, elsewhere}

-- A pass over one table: what is known of an object by the table, and what the pass sees to.
pub record Pass (V : Type 0) : Type 1 where
  pub none : V
  pub by : List V → ℕ → Known
  pub reads : (t u : List V) (k : ℕ) → get_or u k none ≡ get_or t k none → by u k ≡ by t k
  pub fit : Known → List Known → Type 0

module _ {V : Type 0} (p : Pass V) where
  abbrev pub trees_by : List V → Forest ℕ → Forest Known
  trees_by t f = map_forest (p.by t) f

  -- all of these trees fit, and nothing else changes
  pub record Finds (old new : List V) (f : Forest ℕ) : Type 0 where
    pub found : EachKids p.fit (trees_by new f)
    pub others : KeepsOthers p.none old new f

  same_trees : (t u : List V) (f : Forest ℕ) → ((k : ℕ) → has f k ≡ true → get_or u k p.none ≡ get_or t k p.none) → trees_by t f ≡ trees_by u f
  same_trees t u f same = map-agree (p.by t) (p.by u) f (λ k i. sym (p.reads t u k (same k i)))

  pub finds_none : (t : List V) → Finds t t Empty
  finds_none t = record { found = tt; others = keeps_none p.none t }

  -- the first tree, and then the others
  pub finds_first : (a b c : List V) (h : ℕ) (cs rest : Forest ℕ) → IsDistinct (Tree h cs rest) → Finds a b (Tree h cs Empty) → Finds b c rest → Finds a c (Tree h cs rest)
  finds_first a b c h cs rest distinct first later =
      let found : EachKids p.fit (trees_by c (Tree h cs Empty)) = subst (EachKids p.fit) (same_trees b c (Tree h cs Empty) (apart p.none b c h cs rest distinct later.others)) first.found in
      record { found = (found.0, found.1, later.found); others = keeps_first p.none a b c h cs rest first.others later.others }

  -- an object, once all below it are found
  pub finds_top : (a b : List V) (h : ℕ) (v : V) (cs : Forest ℕ) → has cs h ≡ false → p.fit (p.by (set b h v) h) (roots (trees_by b cs)) → Finds a b cs → Finds a (set b h v) (Tree h cs Empty)
  finds_top a b h v cs out fits below =
      let same = same_trees b (set b h v) cs (λ k i. get_or-set_other b h k v p.none (λ e. both_ways _ out (subst (λ m. has cs m ≡ true) e i))) in
      record {
        found = subst (λ (t : Forest Known). p.fit (p.by (set b h v) h) (roots t) × EachKids p.fit t × Unit {0}) same (fits, below.found, tt);
        others = keeps_top p.none a b h cs v below.others (length-set b h v);
      }

  -- Upward, over the children of an object: what is found of all once the rest is, and how large all are together.
  module _ {A : Type 0} (read : Known → A) (counts : A → Kid) (run : Run) (start : List V) (all : Forest ℕ) where
    pub record Gathers (now : List V) (row : Sum) (trees : Forest ℕ) : Type 0 where
      pub found : (u : List V) → Finds now u trees → Finds start u all
      pub sums : (u : List V) → Finds now u trees → with_kids counts run row (map read (roots (trees_by u trees))) ≡ sum_of counts run (map read (roots (trees_by u all)))

    pub gathers_none : (row : Sum) → row ≡ record { size = 0; count = 0 } → Gathers start row all
    gathers_none row none = record { found = λ u is. is; sums = λ u is. ap (λ (s : Sum). with_kids counts run s (map read (roots (trees_by u all)))) none }

    pub gathers_more : (a b : List V) (row more : Sum) (h : ℕ) (cs rest : Forest ℕ) → IsDistinct (Tree h cs rest) → Finds a b (Tree h cs Empty) → more ≡ with_kid run row (counts (read (p.by b h))) → Gathers a row (Tree h cs rest) → Gathers b more rest
    gathers_more a b row more h cs rest distinct first is was = record {
      found = λ u later. was.found u (finds_first a b u h cs rest distinct first later);
      sums = λ u later.
          let now = is ∙ ap (λ (k : Known). with_kid run row (counts (read k))) (sym (p.reads b u h (later.others.others h distinct.2))) in
          ap (λ (s : Sum). with_kids counts run s (map read (roots (trees_by u rest)))) now ∙ was.sums u (finds_first a b u h cs rest distinct first later);
    }

  -- Downward: the roots of these trees stay besides.
  pub record Lowers (old new : List V) (f : Forest ℕ) : Type 0 where
    pub finds : Finds old new f
    pub stay : roots (trees_by new f) ≡ roots (trees_by old f)

  pub lowers_none : (t : List V) → Lowers t t Empty
  lowers_none t = record { finds = finds_none t; stay = refl }

  -- what stands beside the first tree stays where that changes
  pub beside_same : (a b : List V) (h : ℕ) (cs rest : Forest ℕ) → IsDistinct (Tree h cs rest) → KeepsOthers p.none a b cs → trees_by a rest ≡ trees_by b rest
  beside_same a b h cs rest distinct others =
      same_trees a b rest (λ k i. (keeps_wider p.none a b h cs others).others k (false_from_ne_true _ (λ j. elsewhere h cs rest distinct k j i)))

  pub lowers_first : (a b c : List V) (h : ℕ) (cs rest : Forest ℕ) → IsDistinct (Tree h cs rest) → EachKids p.fit (trees_by b (Tree h cs Empty)) → KeepsOthers p.none a b cs → Lowers b c rest → Lowers a c (Tree h cs rest)
  lowers_first a b c h cs rest distinct found others later =
      let own = p.reads a c h (later.finds.others.others h distinct.2 ∙ others.others h distinct.1) in
      record {
        finds = finds_first a b c h cs rest distinct (record { found = found; others = keeps_wider p.none a b h cs others }) later.finds;
        stay =
            ap (λ (k : Known). k ∷ roots (trees_by c rest)) own
            ∙ ap (λ (ks : List Known). p.by a h ∷ ks) (later.stay ∙ ap (λ (t : Forest Known). roots t) (sym (beside_same a b h cs rest distinct others)));
      }

  -- an object whose children are set, once all below them are found
  pub lowers_top : (a b : List V) (h : ℕ) (cs : Forest ℕ) → has cs h ≡ false → p.fit (p.by a h) (roots (trees_by a cs)) → Lowers a b cs → EachKids p.fit (trees_by b (Tree h cs Empty))
  lowers_top a b h cs out fits lower = (
    subst (λ (k : Known). p.fit k (roots (trees_by b cs))) (sym (p.reads a b h (lower.finds.others.others h out))) (subst (p.fit (p.by a h)) (sym lower.stay) fits),
    lower.finds.found,
    tt,
  )

-- The four passes.
abbrev pub naturals_pass : Layout → Pass ℕ
naturals_pass l = record {
  none = 0;
  by = λ t h. known_at (box_at l.boxes) (record l { natural_widths = t }) h;
  reads = λ t u k e. ap (λ n. record (known_at (box_at l.boxes) l k) { natural_width = n }) e;
  fit = NaturalWidthFits;
}

abbrev pub widths_pass : Layout → Pass ℕ
widths_pass l = record {
  none = 0;
  by = λ t h. known_at (box_at l.boxes) (record l { widths = t }) h;
  reads = λ t u k e. ap (λ n. record (known_at (box_at l.boxes) l k) { width = n }) e;
  fit = WidthsFit;
}

abbrev pub heights_pass : Layout → Pass ℕ
heights_pass l = record {
  none = 0;
  by = λ t h. known_at (box_at l.boxes) (record l { natural_heights = t }) h;
  reads = λ t u k e. ap (λ n. record (known_at (box_at l.boxes) l k) { natural_height = n }) e;
  fit = NaturalHeightFits;
}

abbrev pub slots_pass : Layout → Pass Slot
slots_pass l = record {
  none = nowhere;
  by = λ t h. known_at (box_at l.boxes) (record l { slots = t }) h;
  reads = λ t u k e. ap (λ (s : Slot). record (known_at (box_at l.boxes) l k) { slot = s }) e;
  fit = SlotsFit;
}

-- what is read of the roots
pub roots_read : {A : Type 0} (g : Known → A) (k : ℕ → Known) (f : Forest ℕ) → map g (roots (map_forest k f)) ≡ map (λ h. g (k h)) (roots f)
roots_read g k f = ap (map g) (roots-map k f) ∙ map-map g k (roots f)

pub roots_known : {A : Type 0} (g : Known → A) (k : ℕ → Known) (f : Forest ℕ) → roots (map_forest (λ h. g (k h)) f) ≡ map g (roots (map_forest k f))
roots_known g k f = roots-map (λ h. g (k h)) f ∙ sym (roots_read g k f)
