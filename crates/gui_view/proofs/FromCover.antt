-- Painting from a cover on.
use Rattle.std.proofs.Common.{◌≡◌, ◌∙◌, refl, sym, ap, subst, ℕ, ◌+◌, ◌*◌, ◌-◌, ◌<◌, ◌≤◌, Bool, true, false, ◌||◌, if◌then◌else◌, Option, Some, None, is_some, List, [], ◌∷◌, ◌++◌, fold, map, take, drop, length, get_or, sum_by, arith, add-one, drop-cons}
use Rattle.std.specs.List.{filter, list_any}
use Rattle.std.proofs.lemmas.List.{map-append, take-append-drop, length-drop}
use Rattle.std.proofs.lemmas.List.Sums.{sum_by-cons, sum_by-append}
use Rattle.gui_base.specs.Area.{Rect, size_of}
use Rattle.gui_base.specs.Color.{black}
use Rattle.gui_color.specs.Buffer.{Buffer, IsBlack}
use Rattle.gui_draw.specs.Drawing.{ShowsColors}
use Rattle.gui_paint.specs.Painting.{Painting, Leaves, Paints}
use Rattle.gui_paint.proofs.Trees.{leaves_then, leaves_less}
use Rattle.scene_defs.specs.Picture.{paint, paint_seen}
use Rattle.scene_defs.specs.Scene.{Scene, handles_of}
use Rattle.scene_defs.specs.Shown.{Entry, Seen, entries, order, own, seen_entry}
use Rattle.scene_defs.specs.Visible.{shown_trees, visible}
use Rattle.scene_defs.specs.Walk.{IsShowable}
use Rattle.cover_defs.specs.Cover.{is_cover, from_last, uncovered}
use Rattle.cover_defs.specs.Steps.{handles, object_count, steps_of, slice_steps}
use Rattle.cover_defs.proofs.Covers.{from_last-found, painted_same, seen_alone, uncovered_is}
use Rattle.cover_defs.proofs.Counts.{each_is_counted, entries_own, entries_twice, uncovered_steps}
use Rattle.gui_view.specs.Painted.{painted_entry, painted_all, entry_steps, visit_steps, asked_steps}

-- the element at a place, and those after it
pub drop_at : {A : Type 0} (xs : List A) (n : ℕ) (d : A) → n < length xs → drop n xs ≡ get_or xs n d ∷ drop (n + 1) xs
drop_at xs n d h = rw (add-one, drop-cons xs n d) refl

-- the entry at a place
abbrev pub entry_at : List Entry → ℕ → Entry
entry_at es n = get_or es n (own 0)

module _ (scene : Scene) (part : Rect) where
  abbrev test : Seen → Bool
  test s = is_cover scene part s

  abbrev list : List Entry → List Seen
  list es = map (seen_entry scene) es

  -- the entry at a place covers the area, and none after it does
  pub found_at : (es : List Entry) (n : ℕ) → n < length es → test (seen_entry scene (entry_at es n)) ≡ true → list_any test (list (drop (n + 1) es)) ≡ false → list (drop n es) ≡ from_last test (list es)
  found_at es n within is none =
      let first : drop n es ≡ entry_at es n ∷ drop (n + 1) es = drop_at es n (own 0) within in
      let whole : list es ≡ list (take n es) ++ list (drop n es) =
      ap (map (seen_entry scene)) (sym (take-append-drop n es)) ∙ map-append (seen_entry scene) (take n es) (drop n es) in
      let found = from_last-found test (list (take n es)) (seen_entry scene (entry_at es n)) (list (drop (n + 1) es)) is none in
      ap (map (seen_entry scene)) first
      ∙ sym (ap (from_last test) (whole ∙ ap (λ (l : List Entry). list (take n es) ++ list l) first) ∙ found)

  -- nor does it
  pub none_at : (es : List Entry) (n : ℕ) → n < length es → test (seen_entry scene (entry_at es n)) ≡ false → list_any test (list (drop (n + 1) es)) ≡ false → list_any test (list (drop n es)) ≡ false
  none_at es n within isnt none =
      ap (λ (l : List Entry). list_any test (list l)) (drop_at es n (own 0) within)
      ∙ both_false (test (seen_entry scene (entry_at es n))) (list_any test (list (drop (n + 1) es))) isnt none where
        both_false : (a b : Bool) → a ≡ false → b ≡ false → (a || b) ≡ false
        both_false true b p q = cc
        both_false false b p q = q

  -- one step backwards
  pub back : (es : List Entry) (n : ℕ) (found : Bool) → 0 < n → n ≤ length es → found ≡ test (seen_entry scene (entry_at es (n - 1))) → list_any test (list (drop n es)) ≡ false →
      (found ≡ false → list_any test (list (drop (n - 1) es)) ≡ false) × (found ≡ true → list (drop (n - 1) es) ≡ from_last test (list es))
  back es n found some within is none =
      let same : n - 1 + 1 ≡ n = omega arith in
      let after : list_any test (list (drop (n - 1 + 1) es)) ≡ false = subst (λ (k : ℕ). list_any test (list (drop k es)) ≡ false) (sym same) none in
      (λ isnt. none_at es (n - 1) (omega arith) (sym is ∙ isnt) after, λ yes. found_at es (n - 1) (omega arith) (sym is ∙ yes) after)

-- and one entry more is asked
pub asked_back : (es : List Entry) (n begun now next : ℕ) → 0 < n → n ≤ length es → now ≤ begun + sum_by asked_steps (drop n es) → next ≤ now + asked_steps (entry_at es (n - 1)) → next ≤ begun + sum_by asked_steps (drop (n - 1) es)
asked_back es n begun now next some within few one =
    let same : n - 1 + 1 ≡ n = omega arith in
    let first : drop (n - 1) es ≡ entry_at es (n - 1) ∷ drop n es = drop_at es (n - 1) (own 0) (omega arith) ∙ ap (λ (k : ℕ). entry_at es (n - 1) ∷ drop k es) same in
    let sums : sum_by asked_steps (drop (n - 1) es) ≡ asked_steps (entry_at es (n - 1)) + sum_by asked_steps (drop n es) =
    ap (sum_by asked_steps) first ∙ sum_by-cons asked_steps (entry_at es (n - 1)) (drop n es) in
    omega (arith, sums, few, one)

-- one entry more is painted
pub paints_next : (old mid new : Buffer) (scene : Scene) (es : List Entry) (n : ℕ) (e : Entry) (all : Painting) → n < length es → get_or es n e ≡ e → Leaves old mid all (painted_all scene (drop n es)) → Paints mid new (painted_entry scene e) →
    Leaves old new all (painted_all scene (drop (n + 1) es))
paints_next old mid new scene es n e all within is left own =
    let first : drop n es ≡ e ∷ drop (n + 1) es = drop_at es n e within ∙ ap (λ (k : Entry). k ∷ drop (n + 1) es) is in
    leaves_then old mid new all (painted_all scene (e ∷ drop (n + 1) es)) (painted_all scene (drop (n + 1) es))
    (subst (λ (l : List Entry). Leaves old mid all (painted_all scene l)) first left)
    (leaves_less mid new (painted_entry scene e) (painted_all scene (drop (n + 1) es)) own)

-- and fewer steps are left
pub steps_next : (scene : Scene) (size : ℕ) (es : List Entry) (n : ℕ) (e : Entry) (begun now next : ℕ) → n < length es → get_or es n e ≡ e → now + sum_by (visit_steps scene size) (drop n es) ≤ begun → next ≤ (now + 1) + entry_steps scene size e →
    next + sum_by (visit_steps scene size) (drop (n + 1) es) ≤ begun
steps_next scene size es n e begun now next within is left few =
    let first : drop n es ≡ e ∷ drop (n + 1) es = drop_at es n e within ∙ ap (λ (k : Entry). k ∷ drop (n + 1) es) is in
    let sums : sum_by (visit_steps scene size) (drop n es) ≡ visit_steps scene size e + sum_by (visit_steps scene size) (drop (n + 1) es) =
    ap (sum_by (visit_steps scene size)) first ∙ sum_by-cons (visit_steps scene size) e (drop (n + 1) es) in
    omega (arith, sums, left, few)

-- what is painted from there on over black is the picture
pub shows_from : (old new : Buffer) (scene : Scene) (es : List Entry) → IsBlack old → map (seen_entry scene) es ≡ from_last (is_cover scene old.area) (map (seen_entry scene) (entries scene)) → Paints old new (painted_all scene es) → ShowsColors old new (paint scene)
shows_from old new scene es black_before from paints = record {
  area_stays = paints.area_stays;
  limit_stays = paints.limit_stays;
  pixels = λ x y i.
      paints.pixels x y i
      ∙ (ap (λ (under : _). fold (paint_seen x y) under (map (seen_entry scene) es)) (black_before x y i)
      ∙ (ap (fold (paint_seen x y) black) from
      ∙ (painted_same scene old.area (entries scene) x y black i
      ∙ sym (seen_alone x y (map (seen_entry scene) (entries scene)) black))));
}

-- The steps that are left, by what is seen.
module _ (scene : Scene) (size : ℕ) where
  abbrev seen_in : List Entry → List Seen
  seen_in es = filter (λ s. is_some s.visible) (map (seen_entry scene) es)

  abbrev one_steps : Entry → ℕ
  one_steps e = steps_of scene size (seen_entry scene e)

  visit_next : (e : Entry) (es : List Entry) (v : Option Rect) → visible scene e.handle ≡ v → sum_by (visit_steps scene size) es ≡ length es + sum_by (steps_of scene size) (seen_in es) →
      sum_by (visit_steps scene size) (e ∷ es) ≡ length (e ∷ es) + sum_by (steps_of scene size) (seen_in (e ∷ es))
  visit_next e es None is later =
      let own : visit_steps scene size e ≡ 1 = ap (λ (v : Option Rect). 1 + (if is_some v then one_steps e else 0)) is in
      let list : sum_by (steps_of scene size) (seen_in (e ∷ es)) ≡ sum_by (steps_of scene size) (seen_in es) =
      ap (λ (v : Option Rect). sum_by (steps_of scene size) (if is_some v then seen_entry scene e ∷ seen_in es else seen_in es)) is in
      omega (arith, later, own, list, sum_by-cons (visit_steps scene size) e es)
  visit_next e es (Some area) is later =
      let own : visit_steps scene size e ≡ 1 + one_steps e = ap (λ (v : Option Rect). 1 + (if is_some v then one_steps e else 0)) is in
      let list : sum_by (steps_of scene size) (seen_in (e ∷ es)) ≡ one_steps e + sum_by (steps_of scene size) (seen_in es) =
      ap (λ (v : Option Rect). sum_by (steps_of scene size) (if is_some v then seen_entry scene e ∷ seen_in es else seen_in es)) is
      ∙ sum_by-cons (steps_of scene size) (seen_entry scene e) (seen_in es) in
      omega (arith, later, own, list, sum_by-cons (visit_steps scene size) e es)

  visits_are : (es : List Entry) → sum_by (visit_steps scene size) es ≡ length es + sum_by (steps_of scene size) (seen_in es)
  visits_are [] = refl
  visits_are (e ∷ es) = visit_next e es (visible scene e.handle) refl (visits_are es)

sum_ones : (xs : List ℕ) → sum_by (λ (h : ℕ). 1) xs ≡ length xs
sum_ones [] = refl
sum_ones (x ∷ xs) = omega (arith, sum_ones xs, sum_by-cons (λ (h : ℕ). 1) x xs)

-- each object is asked once at most
asked_few : (scene : Scene) (n : ℕ) → sum_by asked_steps (drop n (entries scene)) ≤ length (order scene)
asked_few scene n =
    let es = entries scene in
    let parts : sum_by asked_steps es ≡ sum_by asked_steps (take n es) + sum_by asked_steps (drop n es) =
    ap (sum_by asked_steps) (sym (take-append-drop n es)) ∙ sum_by-append asked_steps (take n es) (drop n es) in
    let all : sum_by asked_steps es ≡ sum_by (λ (h : ℕ). 1) (order scene) = entries_own (λ (h : ℕ). 1) (handles_of (shown_trees scene)) in
    omega (arith, parts, all, sum_ones (order scene))

-- the steps of a slice
pub steps_from : (scene : Scene) (part : Rect) (n from mid to : ℕ) → IsShowable scene → n ≤ length (entries scene) → map (seen_entry scene) (drop n (entries scene)) ≡ from_last (is_cover scene part) (map (seen_entry scene) (entries scene)) →
    mid ≤ from + sum_by asked_steps (drop n (entries scene)) → to ≤ mid + sum_by (visit_steps scene (size_of part)) (drop n (entries scene)) → to ≤ from + slice_steps scene part
steps_from scene part n from mid to showable within is search paint =
    let es = drop n (entries scene) in
    let visits = visits_are scene (size_of part) es in
    let steps : sum_by (steps_of scene (size_of part)) (seen_in scene (size_of part) es) ≡ sum_by (steps_of scene (size_of part)) (uncovered scene part) =
    ap (λ (l : List Seen). sum_by (steps_of scene (size_of part)) (filter (λ s. is_some s.visible) l)) is ∙ ap (sum_by (steps_of scene (size_of part))) (sym (uncovered_is scene part)) in
    let objects : length (order scene) ≤ object_count scene = omega (arith, each_is_counted scene (λ (h : ℕ). 1) showable, sum_ones (order scene), sum_ones (handles scene)) in
    let twice : length (entries scene) ≡ 2 * length (order scene) = entries_twice (handles_of (shown_trees scene)) in
    let fewer : length es ≤ length (entries scene) = omega (arith, length-drop n (entries scene)) in
    uncovered_steps scene part from mid (length es) to showable (omega (arith, search, asked_few scene n, objects)) (omega (arith, fewer, twice, objects)) (omega (arith, paint, visits, steps))
