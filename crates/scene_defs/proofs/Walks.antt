-- One walk down the trees meets what is shown.
use Rattle.std.proofs.Common.{◌≡◌, ◌∙◌, sym, ap, ℕ, Bool, true, false, Option, Some, None, is_some, List, ◌∷◌, ◌++◌, map, refl, arith}
use Rattle.std.specs.List.{filter, All}
use Rattle.std.specs.Option.{IfSome, IsSomeAnd}
use Rattle.std.proofs.lemmas.List.{map-append}
use Rattle.std.proofs.lemmas.List.Elements.{filter-append, filter_passes, All-append, All-filter, All-map, All-nil, All-cons}
use Rattle.std.proofs.lemmas.Option.{IfSome_then}
use Rattle.std.proofs.lemmas.Bool.{cond_both, and_parts}
use Rattle.std.proofs.lemmas.Bool.Decides.{nat_tests}
use Rattle.gui_base.specs.declared.words.Flag.TheVariants.{Hidden}
use Rattle.gui_base.specs.Area.{Rect, is_empty, common, Covers}
use Rattle.gui_base.specs.Forest.{Forest, Empty, Tree}
use Rattle.gui_base.proofs.Areas.{has-common}
use Rattle.scene_defs.specs.Row.{is_on}
use Rattle.scene_defs.specs.Scene.{Object, is_at, handles_of}
use Rattle.scene_defs.specs.Place.{panel_of, place}
use Rattle.scene_defs.specs.Visible.{met, seen_of, visible_in, visible, shown_trees}
use Rattle.gui_base.specs.Coats.{Coat}
use Rattle.scene_defs.specs.Shown.{Entry, Seen, bars_over, entries_in, entry_coats, order, own, seen, seen_as, shown}
use Rattle.std.specs.Prelude.{slice_index_or}
use Rattle.scene_defs.specs.Walk.{seen_alone, walked, ShownByWalk, NothingBelowNothing, IsSeenInside, WalkedInside, ShownInside}
use Rattle.scene_defs.proofs.Distinct.{there, IsDistinct, distinct-three}

pub nothing_below_nothing : NothingBelowNothing
nothing_below_nothing place lays Empty = refl
nothing_below_nothing place lays (Tree object cs rest) = grind (arith, nothing_below_nothing place lays cs, nothing_below_nothing place lays rest)

-- an entry as it is found by its object's handle
abbrev found : (ℕ → Option Rect) → (Entry → List Coat) → Entry → Seen
found area lays e = seen_as lays (area e.handle) e

abbrev is_seen : Seen → Bool
is_seen s = is_some s.visible

-- one that is seen so, and more
first_seen : (lays : Entry → List Coat) (area : Option Rect) (e : Entry) (more : List Seen) → filter is_seen (seen_as lays area e ∷ more) ≡ seen_alone lays area e ++ filter is_seen more
first_seen lays None e more = refl
first_seen lays (Some v) e more = refl

module _ (place : ℕ → Option Rect) (lays : Entry → List Coat) (area : ℕ → Option Rect) where
  abbrev seens : List Entry → List Seen
  seens es = filter is_seen (map (found area lays) es)

  seens-append : (as' bs : List Entry) → seens (as' ++ bs) ≡ seens as' ++ seens bs
  seens-append as' bs = simp (map-append, filter-append) refl

  found_by_walk : (clip : Option Rect) (f : Forest Object) → IsDistinct f → ((k : ℕ) → there f k ≡ true → area k ≡ visible_in place clip f k) →
      seens (entries_in (handles_of f)) ≡ walked place lays clip f
  found_by_walk clip Empty d agrees = refl
  found_by_walk clip (Tree object cs rest) d agrees =
      let v = seen_of place clip object in
      let h = object.handle in
      let here : area h ≡ v = grind (arith, nat_tests, agrees object.handle) in
      let inner = found_by_walk v cs d.3 (λ k i. grind (arith, nat_tests, i, agrees k, d.1)) in
      let later = found_by_walk clip rest d.4 (λ k i. grind (arith, nat_tests, i, agrees k, d.0 k, d.2)) in
      let below = entries_in (handles_of cs) in
      let beside = entries_in (handles_of rest) in
      first_seen lays (area h) (own h) (map (found area lays) (below ++ (bars_over h ∷ beside)))
      ∙ ap (λ l. seen_alone lays (area h) (own h) ++ l) (seens-append below (bars_over h ∷ beside)
      ∙ (ap (λ l. l ++ seens (bars_over h ∷ beside)) inner
      ∙ ap (λ l. walked place lays v cs ++ l) (first_seen lays (area h) (bars_over h) (map (found area lays) beside)
      ∙ ap (λ l. seen_alone lays (area h) (bars_over h) ++ l) later)))
      ∙ ap (λ w. seen_alone lays w (own h) ++ (walked place lays v cs ++ (seen_alone lays w (bars_over h) ++ walked place lays clip rest))) here

pub shown_by_walk : ShownByWalk
shown_by_walk scene showable =
    found_by_walk (place scene) (entry_coats scene) (visible scene) (Some (panel_of scene)) (shown_trees scene)
    (distinct-three scene.trees scene.active showable.once showable.above_top showable.above_system) (λ k i. refl)

-- What is seen lies inside the clip.
module _ (area : Rect) where
  abbrev LiesIn : Rect → Type 0
  LiesIn v = (is_empty v ≡ false) × Covers area v

  abbrev Inside : Option Rect → Type 0
  Inside v = IfSome v LiesIn

  met_inside : (clip place : Option Rect) → IfSome clip (Covers area) → Inside (met clip place)
  met_inside None place covers = tt
  met_inside (Some clip) None covers = tt
  met_inside (Some clip) (Some place) covers =
      cond_both (is_empty (common clip place)) None (Some (common clip place)) Inside (λ e. tt)
      (λ some. (some, λ x y i. covers x y (and_parts _ _ (sym (has-common clip place x y) ∙ i)).0))

  seen_inside : (at : ℕ → Option Rect) (clip : Option Rect) (object : Object) → IfSome clip (Covers area) → Inside (seen_of at clip object)
  seen_inside at clip object covers = cond_both (is_on object.row.flags Hidden) _ _ Inside (λ e. tt) (λ e. met_inside clip (at object.handle) covers)

  visible_inside : (at : ℕ → Option Rect) (clip : Option Rect) (f : Forest Object) (k : ℕ) → IfSome clip (Covers area) → Inside (visible_in at clip f k)
  visible_inside at clip Empty k covers = tt
  visible_inside at clip (Tree object cs rest) k covers =
      let inside = seen_inside at clip object covers in
      let below = visible_inside at (seen_of at clip object) cs k (IfSome_then (seen_of at clip object) inside (λ v lies. lies.1)) in
      cond_both (is_at k object) _ _ Inside (λ e. inside) (λ e. cond_both (there cs k) _ _ Inside (λ e. below) (λ e. visible_inside at clip rest k covers))

  walk_inside : (at : ℕ → Option Rect) (lays : Entry → List Coat) (clip : Option Rect) (f : Forest Object) → IfSome clip (Covers area) →
      All (IsSeenInside area) (walked at lays clip f)
  walk_inside at lays clip Empty covers = All-nil (IsSeenInside area)
  walk_inside at lays clip (Tree object cs rest) covers =
      let v = seen_of at clip object in
      let inside = seen_inside at clip object covers in
      let below = walk_inside at lays v cs (IfSome_then v inside (λ v lies. lies.1)) in
      let after = by v (bars_over object.handle) inside (walked at lays clip rest) (walk_inside at lays clip rest covers) in
      by v (own object.handle) inside _ (All-append (IsSeenInside area) (walked at lays v cs) (seen_alone lays v (bars_over object.handle) ++ walked at lays clip rest) below after) where
        by : (v : Option Rect) (e : Entry) → Inside v → (more : List Seen) → All (IsSeenInside area) more → All (IsSeenInside area) (seen_alone lays v e ++ more)
        by None e inside more later = later
        by (Some v) e inside more later = All-cons (IsSeenInside area) _ more inside later

pub walked_inside : WalkedInside
walked_inside place lays clip trees = walk_inside clip place lays (Some clip) trees (λ x y i. i)

pub shown_inside : ShownInside
shown_inside scene k d lt =
    let panel = panel_of scene in
    let all = map (seen scene) (order scene) in
    let inside = λ (k : ℕ). visible_inside panel (place scene) (Some panel) (shown_trees scene) k (λ x y i. i) in
    let lies = All-map (λ s. Inside panel s.visible) (seen scene) (order scene) (λ k d lt. inside (slice_index_or (order scene) k d)) in
    by (slice_index_or (shown scene) k d).visible (filter_passes is_seen all k d lt) (All-filter is_seen (λ s. Inside panel s.visible) all lies k d lt) where
      by : (v : Option Rect) → is_some v ≡ true → Inside (panel_of scene) v → IsSomeAnd v (LiesIn (panel_of scene))
      by None some inside = cc
      by (Some v) some inside = inside
