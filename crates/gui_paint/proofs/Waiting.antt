-- Painting from an object on that a walk waits for.
use Rattle.std.proofs.Common.{◌≡◌, ◌∙◌, ◌≤◌, ◌<◌, ◌+◌, ◌*◌, refl, sym, ap, subst, ℕ, ℤ, Bool, true, false, ◌&&◌, if◌then◌else◌, Option, Some, None, is_some, List, [], ◌∷◌, ◌++◌, fold, sum_by, arith}
use Rattle.std.proofs.lemmas.Int.{ints}
use Rattle.std.proofs.lemmas.List.Sums.{fold-append, sum_by-append}
use Rattle.gui_base.specs.Area.{Rect, has, is_empty, size_of}
use Rattle.gui_base.specs.Color.{black}
use Rattle.gui_base.specs.declared.color.Rgb565.{Rgb565}
use Rattle.gui_base.specs.declared.Handle.{Handle}
use Rattle.gui_base.specs.Forest.{Forest, Tree, size, tree_by, children_by}
use Rattle.scene_defs.specs.Valid.{IsValid}
use Rattle.scene_defs.specs.Walk.{IsShowable}
use Rattle.gui_color.specs.Buffer.{Buffer, IsBlack}
use Rattle.gui_draw.specs.Drawing.{ShowsColors}
use Rattle.scene_defs.specs.Picture.{paint, paint_seen}
use Rattle.scene_defs.specs.Scene.{Scene, is_at}
use Rattle.scene_defs.specs.Place.{panel_of}
use Rattle.scene_defs.specs.Shown.{Seen, painted}
use Rattle.cover_defs.specs.Cover.{uncovered}
use Rattle.cover_defs.specs.Steps.{bar_steps, object_count, object_steps, slice_steps, steps_of}
use Rattle.cover_defs.specs.Walks.{is_own, from_handle, waits_on}
use Rattle.cover_defs.proofs.Counts.{uncovered_steps}
use Rattle.cover_defs.proofs.Covers.{cover_hides_all}
use Rattle.gui_paint.specs.Painting.{Paints, painted_bars, painted_object}
use Rattle.gui_paint.specs.Walking.{PaintsMet, is_awaited, number_of, painted_each, seen_so, bars_so, tree_walk, below_walk}
use Rattle.gui_paint.proofs.Walking.{trees_walk, three_walks, three_sizes}

-- the list from the awaited object on, of two lists
waits-append : (w : Option ℕ) (xs ys : List Seen) → waits_on w (xs ++ ys) ≡ waits_on (waits_on w xs) ys
waits-append None xs ys = refl
waits-append (Some h) [] ys = refl
waits-append (Some h) (s ∷ xs) ys = go (is_own h s) refl (waits-append (Some h) xs ys) where
  go : (b : Bool) → is_own h s ≡ b → waits_on (Some h) (xs ++ ys) ≡ waits_on (waits_on (Some h) xs) ys → waits_on (Some h) ((s ∷ xs) ++ ys) ≡ waits_on (waits_on (Some h) (s ∷ xs)) ys
  go true is later = rw is refl
  go false isnt later = rw isnt later

from-append : (w : Option ℕ) (xs ys : List Seen) → from_handle w (xs ++ ys) ≡ from_handle w xs ++ from_handle (waits_on w xs) ys
from-append None xs ys = refl
from-append (Some h) [] ys = refl
from-append (Some h) (s ∷ xs) ys = go (is_own h s) refl (from-append (Some h) xs ys) where
  go : (b : Bool) → is_own h s ≡ b → from_handle (Some h) (xs ++ ys) ≡ from_handle (Some h) xs ++ from_handle (waits_on (Some h) xs) ys →
      from_handle (Some h) ((s ∷ xs) ++ ys) ≡ from_handle (Some h) (s ∷ xs) ++ from_handle (waits_on (Some h) (s ∷ xs)) ys
  go true is later = rw is refl
  go false isnt later = rw isnt later

-- nothing is met
pub paints_none : (scene : Scene) (w : Option ℕ) (buf : Buffer) (visits from to : ℕ) → to ≤ from + visits → PaintsMet scene [] w w buf buf visits from to
paints_none scene w buf visits from to few = go w where
  none : (w : Option ℕ) → (waits_on w [] ≡ w) × (from_handle w [] ≡ [])
  none None = (refl, refl)
  none (Some h) = (refl, refl)

  go : (w : Option ℕ) → PaintsMet scene [] w w buf buf visits from to
  go w = record {
    waits = sym (none w).0;
    painted = rw (none w).1 (record { area_stays = refl; limit_stays = refl; pixels = λ x y i. refl });
    steps = rw (none w).1 (omega (arith, few));
  }

-- some are met, and then others
pub paints_then : (scene : Scene) (xs ys : List Seen) (w mid_w after_w : Option ℕ) (old mid new : Buffer) (first second from half to : ℕ) → PaintsMet scene xs w mid_w old mid first from half → PaintsMet scene ys mid_w after_w mid new second half to →
    PaintsMet scene (xs ++ ys) w after_w old new (first + second) from to
paints_then scene xs ys w mid_w after_w old mid new first second from half to p q =
    let own = from_handle w xs in
    let later = from_handle mid_w ys in
    let list : from_handle w (xs ++ ys) ≡ own ++ later = from-append w xs ys ∙ ap (λ (v : Option ℕ). own ++ from_handle v ys) (sym p.waits) in
    let same : sum_by (steps_of scene (size_of mid.area)) later ≡ sum_by (steps_of scene (size_of old.area)) later = ap (λ (area : Rect). sum_by (steps_of scene (size_of area)) later) p.painted.area_stays in
    record {
      waits = q.waits ∙ (ap (λ (v : Option ℕ). waits_on v ys) p.waits ∙ sym (waits-append w xs ys));
      painted = record {
        area_stays = q.painted.area_stays ∙ p.painted.area_stays;
        limit_stays = q.painted.limit_stays ∙ p.painted.limit_stays;
        pixels = λ x y i.
            q.painted.pixels x y (subst (λ (area : Rect). has area x y ≡ true) (sym p.painted.area_stays) i)
            ∙ (ap (λ (under : Rgb565). fold (paint_seen x y) under later) (p.painted.pixels x y i)
            ∙ (sym (fold-append (paint_seen x y) _ own later) ∙ ap (fold (paint_seen x y) _) (sym list)));
      };
      steps = rw list (omega (arith, p.steps, q.steps, same, sum_by-append (steps_of scene (size_of old.area)) own later));
    }

-- an object is visited, and then met with all below it, in no more visits
pub paints_visited : (scene : Scene) (list : List Seen) (w after_w : Option ℕ) (old new : Buffer) (below all from half to : ℕ) → half + below ≤ from + all → PaintsMet scene list w after_w old new below half to → PaintsMet scene list w after_w old new all from to
paints_visited scene list w after_w old new below all from half to visited p =
    let steps = p.steps in
    record { waits = p.waits; painted = p.painted; steps = omega (arith, steps, visited) }

pub paints_list : (scene : Scene) (xs ys : List Seen) (w after_w : Option ℕ) (old new : Buffer) (visits from to : ℕ) → xs ≡ ys → PaintsMet scene xs w after_w old new visits from to → PaintsMet scene ys w after_w old new visits from to
paints_list scene xs ys w after_w old new visits from to same = subst (λ (l : List Seen). PaintsMet scene l w after_w old new visits from to) same

-- One object.
module _ (scene : Scene) (visible : Rect) (h : ℕ) where
  one : List Seen
  one = seen_so scene visible h ∷ []

  pub still_waits : (w : Option ℕ) (buf : Buffer) (steps : ℕ) (after_w : Option ℕ) → is_awaited w h ≡ false → after_w ≡ (if is_awaited w h then None else w) → PaintsMet scene (seen_so scene visible h ∷ []) w after_w buf buf 0 steps steps
  still_waits None buf steps after_w isnt waits = cc
  still_waits (Some k) buf steps after_w isnt waits =
      record {
        waits = waits ∙ rw isnt refl;
        painted = rw isnt (record { area_stays = refl; limit_stays = refl; pixels = λ x y i. refl });
        steps = rw isnt (omega arith);
      }

  begun_list : (w : Option ℕ) → is_awaited w h ≡ true → (waits_on w (seen_so scene visible h ∷ []) ≡ None) × (from_handle w (seen_so scene visible h ∷ []) ≡ seen_so scene visible h ∷ [])
  begun_list None is = (refl, refl)
  begun_list (Some k) is = (rw is refl, rw is refl)

  pub has_met : (w : Option ℕ) (old new : Buffer) (from to : ℕ) (after_w : Option ℕ) → is_awaited w h ≡ true → after_w ≡ (if is_awaited w h then None else w) → Paints old new (painted_object scene visible h) → to ≤ from + object_steps scene (size_of old.area) h →
      PaintsMet scene (seen_so scene visible h ∷ []) w after_w old new 0 from to
  has_met w old new from to after_w is waits paints few =
      let list = begun_list w is in
      record {
        waits = waits ∙ (ap (λ (b : Bool). if b then None else w) is ∙ sym list.0);
        painted = rw list.1 (record { area_stays = paints.area_stays; limit_stays = paints.limit_stays; pixels = paints.pixels });
        steps = rw list.1 (omega (arith, few));
      }

-- Its bars.
module _ (scene : Scene) (visible : Rect) (h : ℕ) where
  pub bars_wait : (start : Option Handle) (buf : Buffer) (from to : ℕ) → is_some start ≡ true → to ≤ from + 1 → PaintsMet scene (bars_so scene visible h ∷ []) (number_of start) (number_of start) buf buf 1 from to
  bars_wait None buf from to some few = cc
  bars_wait (Some k) buf from to some few =
      record {
        waits = refl;
        painted = record { area_stays = refl; limit_stays = refl; pixels = λ x y i. refl };
        steps = omega (arith, few);
      }

  pub bars_met : (start : Option Handle) (old new : Buffer) (from half to : ℕ) → is_some start ≡ false → Paints old new (painted_bars scene visible h) → half ≤ from + 1 → to ≤ half + bar_steps scene (size_of old.area) h →
      PaintsMet scene (bars_so scene visible h ∷ []) (number_of start) (number_of start) old new 1 from to
  bars_met None old new from half to none paints visited few =
      record {
        waits = refl;
        painted = record { area_stays = paints.area_stays; limit_stays = paints.limit_stays; pixels = paints.pixels };
        steps = omega (arith, visited, few);
      }
  bars_met (Some k) old new from half to none paints visited few = cc

not_both : (a b : Bool) → (a && b) ≡ false → b ≡ true → a ≡ false
not_both true b neither is = absurd (grind (arith, neither, is))
not_both false b neither is = refl

empty_has : (area : Rect) (x y : ℤ) → is_empty area ≡ true → has area x y ≡ false
empty_has area x y none = grind (arith, ints)

-- where an area and the buffer's have no pixel together
pub apart : (buf : Buffer) (area both : Rect) → is_empty both ≡ true → ((x y : ℤ) → has both x y ≡ (has area x y && has buf.area x y)) → (x y : ℤ) → has buf.area x y ≡ true → has area x y ≡ false
apart buf area both none pixels x y i = not_both _ _ (sym (pixels x y) ∙ empty_has both x y none) i

-- an object that is seen elsewhere leaves the buffer as it is
pub paints_elsewhere : (scene : Scene) (visible : Rect) (h : ℕ) (buf : Buffer) → ((x y : ℤ) → has buf.area x y ≡ true → has visible x y ≡ false) → Paints buf buf (painted_object scene visible h)
paints_elsewhere scene visible h buf off = record { area_stays = refl; limit_stays = refl; pixels = λ x y i. sym (rw (off x y i) refl) }

-- so do bars
pub bars_elsewhere : (scene : Scene) (visible : Rect) (h : ℕ) (buf : Buffer) → ((x y : ℤ) → has buf.area x y ≡ true → has visible x y ≡ false) → Paints buf buf (painted_bars scene visible h)
bars_elsewhere scene visible h buf off = record { area_stays = refl; limit_stays = refl; pixels = λ x y i. sym (rw (off x y i) refl) }

-- what is painted over black from the cover on is the picture
pub shows_uncovered : (old new : Buffer) (scene : Scene) (list : List Seen) → IsBlack old → list ≡ uncovered scene old.area → Paints old new (painted_each list) → ShowsColors old new (paint scene)
shows_uncovered old new scene list black_before is paints = record {
  area_stays = paints.area_stays;
  limit_stays = paints.limit_stays;
  pixels = λ x y i.
      paints.pixels x y i
      ∙ (ap (λ (under : Rgb565). fold (paint_seen x y) under list) (black_before x y i)
      ∙ (ap (fold (paint_seen x y) black) is ∙ cover_hides_all scene old.area x y i));
}

-- the first of trees that stand side by side, and then the others
pub paints_first : (scene : Scene) (clip : Rect) (child : ℕ) (below later left : Forest ℕ) (w mid_w after_w : Option ℕ) (old mid new : Buffer) (from half to : ℕ) → left ≡ Tree child below later → size (tree_by (is_at child) scene.trees) ≡ size below + 1 →
    PaintsMet scene (tree_walk scene clip child) w mid_w old mid (2 * size (tree_by (is_at child) scene.trees)) from half → PaintsMet scene (trees_walk scene clip later) mid_w after_w mid new (2 * size later) half to →
    PaintsMet scene (trees_walk scene clip left) w after_w old new (2 * size left) from to
paints_first scene clip child below later left w mid_w after_w old mid new from half to is count first others =
    let list = tree_walk scene clip child ++ trees_walk scene clip later in
    let visits = 2 * size (tree_by (is_at child) scene.trees) in
    rw is (paints_visited scene list w after_w old new (visits + 2 * size later) (2 * size (Tree child below later)) from from to (omega (arith, count))
    (paints_then scene (tree_walk scene clip child) (trees_walk scene clip later) w mid_w after_w old mid new visits (2 * size later) from half to first others))

-- an object, all below it, and its bars
pub paints_tree : (scene : Scene) (clip visible : Rect) (h : ℕ) (w mid_w after_w : Option ℕ) (old mid under new : Buffer) (from visited half third to : ℕ) →
    tree_walk scene clip h ≡ seen_so scene visible h ∷ (below_walk scene visible h ++ bars_so scene visible h ∷ []) →
    visited + size (children_by (is_at h) scene.trees) ≤ from + size (tree_by (is_at h) scene.trees) → size (children_by (is_at h) scene.trees) < size (tree_by (is_at h) scene.trees) →
    PaintsMet scene (seen_so scene visible h ∷ []) w mid_w old mid 0 visited half → PaintsMet scene (below_walk scene visible h) mid_w after_w mid under (2 * size (children_by (is_at h) scene.trees)) half third →
    PaintsMet scene (bars_so scene visible h ∷ []) after_w after_w under new 1 third to →
    PaintsMet scene (tree_walk scene clip h) w after_w old new (2 * size (tree_by (is_at h) scene.trees)) from to
paints_tree scene clip visible h w mid_w after_w old mid under new from visited half third to walk few small own below bars =
    let object = seen_so scene visible h in
    let over = bars_so scene visible h in
    let lower = below_walk scene visible h in
    let visits = 2 * size (children_by (is_at h) scene.trees) in
    let count = 2 * size (tree_by (is_at h) scene.trees) in
    let later = paints_then scene lower (over ∷ []) mid_w after_w after_w mid under new visits 1 half third to below bars in
    paints_list scene (object ∷ (lower ++ over ∷ [])) (tree_walk scene clip h) w after_w old new count from to (sym walk)
    (paints_visited scene (object ∷ (lower ++ over ∷ [])) w after_w old new (0 + (visits + 1)) count from visited to (omega (arith, few, small))
    (paints_then scene (object ∷ []) (lower ++ over ∷ []) w mid_w after_w old mid new 0 (visits + 1) visited half to own later))

-- all that is painted, by the trees of the active screen and of the two layers
pub paints_three : (scene : Scene) (valid : IsValid scene) (w w1 w2 w3 : Option ℕ) (old a b new : Buffer) (from s1 s2 to : ℕ) →
    PaintsMet scene (tree_walk scene (panel_of scene) scene.active) w w1 old a (2 * size (tree_by (is_at scene.active) scene.trees)) from s1 → PaintsMet scene (tree_walk scene (panel_of scene) 1) w1 w2 a b (2 * size (tree_by (is_at 1) scene.trees)) s1 s2 →
    PaintsMet scene (tree_walk scene (panel_of scene) 2) w2 w3 b new (2 * size (tree_by (is_at 2) scene.trees)) s2 to → PaintsMet scene (painted scene) w w3 old new (2 * object_count scene) from to
paints_three scene valid w w1 w2 w3 old a b new from s1 s2 to first second third =
    let walk = tree_walk scene (panel_of scene) in
    let count = λ (h : ℕ). 2 * size (tree_by (is_at h) scene.trees) in
    let layers = paints_then scene (walk 1) (walk 2) w1 w2 w3 a b new (count 1) (count 2) s1 s2 to second third in
    let all = paints_then scene (walk scene.active) (walk 1 ++ walk 2) w w1 w3 old a new (count scene.active) (count 1 + count 2) from s1 to first layers in
    paints_list scene (walk scene.active ++ (walk 1 ++ walk 2)) (painted scene) w w3 old new (2 * object_count scene) from to (three_walks scene valid)
    (paints_visited scene (walk scene.active ++ (walk 1 ++ walk 2)) w w3 old new (count scene.active + (count 1 + count 2)) (2 * object_count scene) from from to (omega (arith, three_sizes scene valid)) all)

-- within the steps of a slice
pub slice_from : (scene : Scene) (part : Rect) → IsShowable scene → (list : List Seen) (from mid to : ℕ) → list ≡ uncovered scene part → mid ≤ from + object_count scene →
    to ≤ mid + (2 * object_count scene + sum_by (steps_of scene (size_of part)) list) → to ≤ from + slice_steps scene part
slice_from scene part showable list from mid to is search paint =
    let same = ap (λ (l : List Seen). sum_by (steps_of scene (size_of part)) l) is in
    uncovered_steps scene part from mid (2 * object_count scene) to showable search (omega arith) (omega (arith, paint, same))
