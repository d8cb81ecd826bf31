-- A change keeps a scene in order, and its slots add up.
use Rattle.std.proofs.Common.{◌≡◌, ◌<◌, ◌≤◌, ◌∙◌, sym, ap, subst, ℕ, List, [], ◌∷◌, length, length-append, ◌+◌, ◌-◌, suc, Bool, true, false, cond, eqb, Option, Some, None, is_some, refl, arith, rules, inl, inr}
use Rattle.std.specs.List.{list_any}
use Rattle.std.specs.Prelude.{not, ◌&&◌, ◌||◌, ◌==◌, nat_le}
use Rattle.std.proofs.lemmas.Bool.{cases_Bool, not-false, ltb-false, and_parts, and_from}
use Rattle.std.proofs.lemmas.List.Folds.{list_any-append}
use Rattle.std.proofs.lemmas.Bool.Decides.{nat_tests}
use Rattle.std.proofs.lemmas.Str.{is_utf8-from_IsUtf8}
use Rattle.std.proofs.lemmas.List.{length-map, map-append}
use Rattle.std.proofs.lemmas.List.Sums.{sum_by_push}
use Rattle.gui_base.specs.declared.Handle.{Handle}
use Rattle.gui_base.specs.declared.intervals.TheConstants.{NEW_HANDLE, MAX_DEPTH}
use Rattle.gui_base.specs.declared.limits.Pool.{Pool}
use Rattle.gui_base.specs.declared.limits.Pool.TheVariants.{Objects, Styles, Entries, Uses, Texts, Fonts, Glyphs, Ink, Images, Pixels, Handlers, Groups, Anims}
use Rattle.gui_base.specs.declared.words.Kind.{Kind}
use Rattle.gui_base.specs.declared.words.Kind.TheVariants.{Screen}
use Rattle.std.specs.Str.{is_utf8}
use Rattle.gui_base.specs.Forest.{all_by, Forest, Empty, Tree, and_then, leaf, size, count, StandsOnce, depth_by, height, with_children_by, with_row_by, has, parent_of, preorder}
use Rattle.gui_base.proofs.Visits.{count-has, count-off as absent_count}
use Rattle.gui_base.specs.Intervals.{is_counted}
use Rattle.gui_base.specs.Limits.{Bounds, slots}
use Rattle.scene_defs.specs.declared.Change.{Change}
use Rattle.scene_defs.specs.declared.Change.TheVariants as change
use Rattle.scene_defs.specs.declared.Row.{Row}
use Rattle.scene_defs.specs.Row.{is_root, is_row, new_row}
use Rattle.scene_defs.specs.Deeds.{row_after, row_set, is_in_range}
use Rattle.scene_defs.specs.Texts.{is_text, is_short, is_shown_image}
use Rattle.gui_pool.specs.Texts.{need_of as chunks_of}
use Rattle.scene_defs.specs.Scene.{Object, Scene, is_at, handles_of, first_trees, is_there, object_by, used, spare, new_object, chunks_in, glyph_count, ink_of, ink_count, pixel_count}
use Rattle.scene_defs.specs.Change.{tests, answer_of, answer_in_range, need_of, freed_by, scene_after}
use Rattle.scene_defs.specs.Edits.{tree_below, below, parent_object, is_screen_kind, text_at, text_of, with_screen, with_object, without, last_below, at_index_below}
use Rattle.text_defs.specs.Building.{given, done, new_font, with_finished}
use Rattle.text_defs.specs.Fonts.{Font}
use Rattle.text_defs.specs.Images.{Image, with_row as with_image_row}
use Rattle.scene_defs.specs.Assets.{glyph_in}
use Rattle.scene_defs.specs.Laws.{SlotsAddUp}
use Rattle.style_defs.specs.Book.{Book, a_setting, a_use, an_entry}
use Rattle.style_defs.specs.InOrder.{IsBook, IsBare}
use Rattle.style_defs.proofs.Empty.{empty_in_order, empty_bare, no_entries, no_uses}
use Rattle.style_defs.proofs.Changing.{Becomes, nobody, style_becomes, prop_becomes, unset_becomes, use_becomes, unuse_becomes, local_becomes, unlocal_becomes, all_forgets}
use Rattle.scene_defs.specs.Valid.{have_kinds, in_order, is_root_object, is_plain, is_root_at, AreTrees, AreRows, AreAssets, is_among, is_font, is_image, font_names, image_names, FitPools, HasWholeBlocks, IsValid, IsChange, FirstIsValid, ChangeKeepsValid, ValidIsShowable}
use Rattle.scene_defs.proofs.Changes.{Fail, changed-by, passed, range_done, room_in_range, after_keeps, sets_row_alone}
use Rattle.scene_defs.proofs.Distinct.{there, IsDistinct, distinct_once}
use Rattle.scene_defs.proofs.Handles.{has-handles, depth-handles, parent-handles, below-handles, height-handles}
use Rattle.scene_defs.proofs.InRange.{row_in_range}
use Rattle.scene_defs.proofs.Finished.{shown-after}
use Rattle.scene_defs.proofs.Ready.{first_ready, ready-after}
use Rattle.scene_defs.proofs.Assets.{once-append, all-append, font-among, image-among, fonts-given, sum-given, map-kept, map-rowed, sum-kept, all-kept}
use Rattle.scene_defs.proofs.RowKinds.{all_still, is_top, fault, faults, root_at, roots-weight, roots-tree, too_low, low-height, screen_root, depths, depth-below, depth-cut, parent-depth, parent-left}
use Rattle.scene_defs.proofs.Totals.{total, total-cut, one, one_at, chunks, chunks-total, size-total, count-total, Weighing, weight, Joins, weight-total, weight-below, weight-and_then, weight-put_at, weight-cut, weight-with_children, weight-with_row}

-- a new row is in range, and the empty text is one
new_row-in : (kind : Kind) → is_row (new_row kind) ≡ true
new_row-in Screen = refl
new_row-in kind = refl

no_text-in : is_text [] ≡ true
no_text-in = and_from (is_utf8 []) (is_short []) (is_utf8-from_IsUtf8 [] ([], (refl, refl))) refl

-- whether an object of a kind may stand at a depth, where it is new: a new screen, or an object below another
abbrev fits_at : ℕ → Kind → Bool
fits_at d kind = cond (is_top d) (is_screen_kind kind) (not (is_root kind))

new_object-in : (images : List Image) (n d : ℕ) (kind : Kind) → is_counted NEW_HANDLE n ≡ true → fits_at d kind ≡ true → fault images d (new_object n kind) ≡ 0
new_object-in images n d kind new e = grind (arith, nat_tests, new, e, new_row-in kind, no_text-in)

-- the roots that each change leaves
abbrev stays : Scene → ℕ → Bool
stays scene k = nat_le 1 k && nat_le k 3 || k == scene.active

-- the sum over the objects that a change adds, and over those that it removes
abbrev pub added_sum : Scene → Change → (Object → ℕ) → ℕ
added_sum scene (change.Screen n) = λ w. w (new_object n.0 Screen)
added_sum scene (change.New n p kind) = λ w. w (new_object n.0 kind)
added_sum scene change = λ w. 0

abbrev pub removed_sum : Scene → Change → (Object → ℕ) → ℕ
removed_sum scene (change.Delete h) = λ w. total w (tree_below scene h.0)
removed_sum scene change = λ w. 0

-- What the objects weigh that a change takes away, and those that it brings, and why the trees stay in order.
record Edit (scene : Scene) (change : Change) (g : Forest Object) (gone come : Weighing → ℕ) : Type 0 where
  sums : (w : Weighing) → weight w 0 g + gone w ≡ come w + weight w 0 scene.trees
  once : (k : ℕ) → come (λ d. one_at k) + total (one_at k) scene.trees ≤ gone (λ d. one_at k) + 1
  roots : (k : ℕ) → stays scene k ≡ true → gone (root_at k) ≤ come (root_at k)
  faults : come (fault scene.images) ≤ gone (fault scene.images)
  low : come (too_low MAX_DEPTH) ≤ gone (too_low MAX_DEPTH)
  handles : (k : ℕ) → gone (λ d. one_at k) + added_sum scene change (one_at k) ≡ come (λ d. one_at k) + removed_sum scene change (one_at k)
  objects : gone (λ d. one) + need_of scene change Objects ≡ come (λ d. one) + freed_by scene change Objects
  texts : gone (λ d. chunks) + need_of scene change Texts ≡ come (λ d. chunks) + freed_by scene change Texts

-- a change that adds and removes no object, and takes as many slots of objects and of texts as it frees
abbrev IsEven : Scene → Change → Type 0
IsEven scene change = ((w : Object → ℕ) → added_sum scene change w ≡ removed_sum scene change w) × (need_of scene change Objects ≡ freed_by scene change Objects) ×
    (need_of scene change Texts ≡ freed_by scene change Texts)

-- what a change that is done leaves, and how many slots it takes and frees
pub record Leaves (scene : Scene) (change : Change) (after : Scene) : Type 0 where
  pub trees : AreTrees after.trees after.active
  pub rows : AreRows after.images after.trees
  pub objects : size after.trees + freed_by scene change Objects ≡ need_of scene change Objects + size scene.trees
  pub texts : chunks_in after.trees + freed_by scene change Texts ≡ need_of scene change Texts + chunks_in scene.trees
  -- how often a handle stands
  pub handles : (k : ℕ) →
      count (handles_of after.trees) k + removed_sum scene change (one_at k) ≡ added_sum scene change (one_at k) + count (handles_of scene.trees) k

-- the value of an option that has one
found : {A : Type 0} (o : Option A) → is_some o ≡ true → (a : A) × (o ≡ Some a)
found None i = cc
found (Some a) i = (a, refl)

module _ (scene : Scene) (change : Change) (v : IsValid scene) where
  distinct : IsDistinct scene.trees
  distinct = distinct_once scene.trees v.trees.once

  once_at : (k : ℕ) → total (one_at k) scene.trees ≤ 1
  once_at k = omega (arith, v.trees.once k, count-total scene.trees k)

  module _ (g : Forest Object) (book : Book) (gone come : Weighing → ℕ) (e : Edit scene change g gone come) where
    sum_after : (w : Object → ℕ) → total w g + gone (λ d. w) ≡ come (λ d. w) + total w scene.trees
    sum_after w = omega (arith, e.sums (λ d. w), weight-total w 0 g, weight-total w 0 scene.trees)

    root_after : (k : ℕ) → stays scene k ≡ true → is_root_at scene.trees k ≡ true → is_root_at g k ≡ true
    root_after k stay root = grind (arith, nat_tests, e.sums (root_at k), e.roots k stay, roots-weight k 0 scene.trees, roots-weight k 0 g)

    edited : Leaves scene change (record scene { trees = g; book = book })
    edited =
        let f = scene.trees in
        let once : StandsOnce (handles_of g) = λ k. omega (arith, sum_after (one_at k), e.once k, count-total g k) in
        let active = root_after scene.active (grind (arith, nat_tests)) v.trees.active in
        let heights = low-height MAX_DEPTH 0 in
        let low : height g ≤ MAX_DEPTH = grind (arith, nat_tests, e.sums (too_low MAX_DEPTH), e.low, heights f, heights g, v.trees.low) in
        let wrong = fault scene.images in
        let none : eqb (weight wrong 0 g) 0 ≡ true = grind (arith, nat_tests, faults scene.images 0 f, e.sums wrong, e.faults, v.rows.kinds, v.rows.numbers) in
        let sound = and_parts (have_kinds g) (all_by (in_order scene.images) g) (sym (faults scene.images 0 g) ∙ none) in
        let handles : (k : ℕ) → count (handles_of g) k + removed_sum scene change (one_at k) ≡ added_sum scene change (one_at k) + count (handles_of f) k =
        λ k. omega (arith, sum_after (one_at k), e.handles k, count-total g k, count-total f k) in
        search (rules, root_after, v.trees, sound, handles, sum_after one, sum_after chunks, size-total f, size-total g, chunks-total f, chunks-total g)

  -- one object more, at a depth
  added : (g : Forest Object) (n d : ℕ) (kind : Kind) → ((w : Weighing) → weight w 0 g ≡ weight w d (leaf (new_object n kind)) + weight w 0 scene.trees) →
      is_counted NEW_HANDLE n ≡ true → fits_at d kind ≡ true → has (handles_of scene.trees) n ≡ false → d < MAX_DEPTH →
      ((w : Object → ℕ) → added_sum scene change w ≡ w (new_object n kind) + removed_sum scene change w) →
      need_of scene change Objects ≡ freed_by scene change Objects + 1 → need_of scene change Texts ≡ freed_by scene change Texts →
      Leaves scene change (record scene { trees = g })
  added g n d kind sums fits new off low rows objects texts =
      let absent = absent_count (handles_of scene.trees) n off in
      let once : (k : ℕ) → one_at k (new_object n kind) + total (one_at k) scene.trees ≤ 0 + 1 =
      λ k. grind (arith, nat_tests, absent, count-total scene.trees k, once_at k) in
      let sound = new_object-in scene.images n d kind fits new in
      let shallow : too_low MAX_DEPTH d (new_object n kind) ≡ 0 = grind (arith, nat_tests, low) in
      edited g scene.book (λ w. 0) (λ w. w d (new_object n kind)) (search rules)

  -- the tree at h below p
  moved : (h p : ℕ) (g : Forest Object → Forest Object) → Joins (tree_below scene h) g → is_some (parent_object scene h) ≡ true →
      there (without scene.trees h) p ≡ true → depth_by (is_at p) scene.trees + height (tree_below scene h) ≤ MAX_DEPTH → IsEven scene change →
      Leaves scene change (record scene { trees = with_children_by (is_at p) g (without scene.trees h) })
  moved h p g joins up on deep even =
      let f = scene.trees in
      let t = tree_below scene h in
      let left = without f h in
      let left_once = distinct_once left (λ k. omega (arith, count-total left k, total-cut (one_at k) (is_at h) f, once_at k)) in
      let old = depth_by (is_at h) f - 2 in
      let new = depth_by (is_at p) left - 1 in
      let old-is : depth_by (is_at h) f ≡ suc (suc old) = omega (arith, depth-below h f up) in
      let new-is : depth_by (is_at p) left ≡ suc new = omega (arith, (depths left p).2 on) in
      let out = λ (w : Weighing). weight-cut w 0 (suc old) h f distinct (omega arith) in
      let put = λ (w : Weighing). weight-with_children w t g joins 0 (suc new) p left left_once on (omega arith) in
      let same = λ (w : Weighing) (flat : (d : ℕ) (object : Object) → w (suc d) object ≡ w 1 object).
      weight-below w flat old t ∙ sym (weight-below w flat new t) in
      let level = λ (w : Object → ℕ). same (λ d. w) (λ d object. refl) in
      let roots = λ (k : ℕ). same (root_at k) (λ d object. refl) in
      let faults = same (fault scene.images) (λ d object. refl) in
      let above = (depth-cut h f p distinct).1 in
      let low : weight (too_low MAX_DEPTH) (suc new) t ≡ 0 = grind (arith, nat_tests, low-height MAX_DEPTH (suc new) t, above, new-is, deep) in
      edited (with_children_by (is_at p) g left) scene.book (λ w. weight w (suc old) t) (λ w. weight w (suc new) t)
      (search (rules, once_at, level one, level chunks, even.0))

  -- the tree at h elsewhere below its own parent, where it has room
  moved_beside : (h : ℕ) (g : Forest Object → Forest Object) (after : Option Object → Forest Object) → Joins (tree_below scene h) g →
      ((p : Object) → after (Some p) ≡ with_children_by (is_at p.handle) g (without scene.trees h)) →
      not (is_some (parent_of (handles_of scene.trees) h)) ≡ false → IsEven scene change →
      Leaves scene change (record scene { trees = after (parent_object scene h) })
  moved_beside h g after joins each below_row even =
      let up = sym (parent-handles scene.trees h) ∙ not-false _ below_row in
      let p = found (parent_object scene h) up in
      let below : depth_by (is_at p.0.handle) scene.trees + height (tree_below scene h) ≤ height scene.trees =
      grind (arith, parent-depth h None p.0 scene.trees distinct p.1) in
      rw (p.1, each p.0) (moved h p.0.handle g joins up (parent-left scene.trees h p.0 p.1) (omega (arith, v.trees.low, below)) even)

-- One row.
-- it adds no object and removes none
pub set_sums : (scene : Scene) (change : Change) (h : Handle) (w : Object → ℕ) → row_set change ≡ Some h →
    (added_sum scene change w ≡ 0) × (removed_sum scene change w ≡ 0)
set_sums scene (change.Screen n) h w set = (cc, cc)
set_sums scene change h w set = (cc, cc)

object_there : (f : Forest Object) (h : ℕ) → there f h ≡ true → is_some (object_by (is_at h) f) ≡ true
object_there Empty h i = cc
object_there (Tree object cs rest) h i = grind (arith, nat_tests, object_there cs h, object_there rest h)

no_worse : (kind old new : Bool) → (old ≡ true → new ≡ true) → cond (kind && new) 0 1 ≤ cond (kind && old) 0 1
no_worse kind old new kept = grind (arith, nat_tests, kept)

-- another row or text of an object that is there
replaced : (scene : Scene) (change : Change) (h : ℕ) (row : Object → Row) (text : Object → List ℕ) → IsValid scene → there scene.trees h ≡ true →
    let new : Object → Object = λ object. record { handle = object.handle; row = row object; text = text object } in
    ((object : Object) → ((row object).kind ≡ object.row.kind) × (is_row object.row ≡ true → is_row (row object) ≡ true) ×
    (is_text object.text ≡ true → is_text (text object) ≡ true) ×
    (is_shown_image scene.images object.row.image ≡ true → is_shown_image scene.images (row object).image ≡ true)) →
    ((w : Object → ℕ) → added_sum scene change w ≡ removed_sum scene change w) → need_of scene change Objects ≡ freed_by scene change Objects →
    ((object : Object) → object_by (is_at h) scene.trees ≡ Some object → chunks object + need_of scene change Texts ≡ chunks (new object) + freed_by scene change Texts) →
    Leaves scene change (record scene { trees = with_row_by (is_at h) new scene.trees })
replaced scene change h row text v on keeps rows objects texts =
    let f = scene.trees in
    let new : Object → Object = λ object. record { handle = object.handle; row = row object; text = text object } in
    let e = depth_by (is_at h) f - 1 in
    let r = found (object_by (is_at h) f) (object_there f h on) in
    let sums = λ (w : Weighing). weight-with_row w 0 e h new r.0 f (distinct_once f v.trees.once) r.1 (omega (arith, (depths f h).2 on)) in
    let once = once_at scene change v in
    let k = keeps r.0 in
    let still : in_order scene.images r.0 ≡ true → in_order scene.images (new r.0) ≡ true = λ is. search (rules, and_parts, and_from, k.1, k.2, k.3) in
    let kept : fault scene.images e (new r.0) ≤ fault scene.images e r.0 = rw k.0 (no_worse (cond (is_top e) (is_root_object r.0) (is_plain r.0)) _ _ still) in
    edited scene change v _ scene.book (λ w. w e r.0) (λ w. w e (new r.0)) (search (rules, kept, rows, texts r.0 r.1))

-- the object is there and keeps its kind; it shows a finished image where it did, or where the image that is set is finished
set_keeps : (scene : Scene) (change : Change) (h : Handle) (row : Row) → row_set change ≡ Some h → Fail (tests scene change) →
    (there scene.trees h.0 ≡ true) × ((row_after change row).kind ≡ row.kind) ×
    (is_shown_image scene.images row.image ≡ true → is_shown_image scene.images (row_after change row).image ≡ true)
set_keeps scene (change.Source h i) k row set t = (grind (arith, nat_tests, has-handles scene.trees k.0), refl, λ shown. not-false _ t.1.1.1.0)
set_keeps scene change h row set t = (grind (arith, nat_tests, has-handles scene.trees h.0), refl, λ shown. shown)

row_left : (scene : Scene) (change : Change) → IsValid scene → is_in_range change ≡ true → Fail (tests scene change) → is_some (row_set change) ≡ true →
    IsEven scene change → Leaves scene change (scene_after scene change)
row_left scene change v fits t some even =
    let s = found (row_set change) some in
    let keeps = λ (object : Object). set_keeps scene change s.0 object.row s.1 t in
    subst (Leaves scene change) (sym (sets_row_alone scene change s.0 s.1))
    (replaced scene change s.0.0 (λ object. row_after change object.row) (λ object. object.text) v (keeps (new_object 0 Screen)).0
    (λ object. ((keeps object).1, row_in_range change object.row fits, λ i. i, (keeps object).2)) even.0 even.1 (λ object is. omega (arith, even)))

-- a change that leaves the trees
trees_stay : (scene : Scene) (change : Change) → IsValid scene → answer_of scene change ≡ None → (scene_after scene change).trees ≡ scene.trees →
    (scene_after scene change).active ≡ scene.active → IsEven scene change → Leaves scene change (scene_after scene change)
trees_stay scene change v none same active even =
    let images = (scene_after scene change).images in
    let still : (object : Object) → in_order scene.images object ≡ true → in_order images object ≡ true =
    λ object is. search (rules, and_parts, and_from, shown-after scene change object.row.image v none) in
    let rows : AreRows images scene.trees = search (rules, v.rows, all_still (in_order scene.images) (in_order images) still scene.trees) in
    search (rules, same, active, v.trees, rows, even.0, even)

leaves : (scene : Scene) (change : Change) → IsValid scene → is_in_range change ≡ true → IsChange change → Fail (tests scene change) → answer_of scene change ≡ None →
    Leaves scene change (scene_after scene change)
leaves scene (change.Screen n) v fits c t none =
    let sums = λ (w : Weighing). weight-and_then w (leaf (new_object n.0 Screen)) 0 scene.trees in
    added scene (change.Screen n) v (with_screen scene.trees n.0) n.0 0 Screen sums fits refl t.0 (omega arith) (λ w. omega arith) refl refl
leaves scene (change.New n p kind) v fits c t none =
    let f = scene.trees in
    let new = leaf (new_object n.0 kind) in
    let d = depth_by (is_at p.0) f - 1 in
    let on = sym (has-handles f p.0) ∙ not-false _ t.0 in
    let at : depth_by (is_at p.0) f ≡ suc d = omega (arith, (depths f p.0).2 on) in
    let low : suc d < MAX_DEPTH = grind (arith, nat_tests, t.1.1.0, at, depth-handles f p.0, depths f p.0, v.trees.low) in
    added scene (change.New n p kind) v (with_object f n.0 p.0 kind) n.0 (suc d) kind
    (λ w. weight-with_children w new _ (λ w. weight-and_then w new) 0 (suc d) p.0 f (distinct_once f v.trees.once) on (omega arith))
    (and_parts _ _ fits).0 (ap not c) t.1.0 low (λ w. omega arith) refl refl
leaves scene (change.Delete h) v fits c t none =
    let f = scene.trees in
    let tree = tree_below scene h.0 in
    let on = sym (has-handles f h.0) ∙ not-false _ t.0 in
    let e = depth_by (is_at h.0) f - 1 in
    let cut = λ (w : Weighing). weight-cut w 0 e h.0 f (distinct_once f v.trees.once) (omega (arith, (depths f h.0).2 on)) in
    let once = once_at scene (change.Delete h) v in
    let roots = λ (k : ℕ) (stay : stays scene k ≡ true). roots-tree h.0 k e f (grind (arith, nat_tests, t.1.0, t.1.1.0, stay)) in
    let sums = λ (w : Object → ℕ). weight-total w e tree in
    edited scene (change.Delete h) v _ _ (λ w. weight w e tree) (λ w. 0) (record {
      sums = λ w. omega (arith, cut w);
      once = λ k. omega (arith, once k);
      roots = λ k stay. omega (arith, roots k stay);
      faults = omega arith;
      low = omega arith;
      handles = λ k. omega (arith, sums (one_at k));
      objects = omega (arith, sums one, size-total tree);
      texts = omega (arith, sums chunks, chunks-total tree);
    })
leaves scene (change.Parent h p) v fits c t none =
    let f = scene.trees in
    let tree = tree_below scene h.0 in
    let d = distinct_once f v.trees.once in
    let on = sym (has-handles f p.0) ∙ not-false _ t.1.0 in
    let up = sym (parent-handles f h.0) ∙ not-false _ t.1.1.0 in
    let out = sym (below-handles f h.0 p.0) ∙ t.1.1.1.0 in
    moved scene (change.Parent h p) v h.0 p.0 (λ cs. and_then cs tree) (λ w. weight-and_then w tree) up ((depth-cut h.0 f p.0 d).2 on out)
    (omega (arith, ltb-false _ _ t.1.1.1.1.0, depth-handles f p.0, height-handles f h.0)) (λ w. refl, refl, refl)
leaves scene (change.Index h n) v fits c t none =
    moved_beside scene (change.Index h n) v h.0 _ (λ p. at_index_below p scene.trees h.0 n) (λ w. weight-put_at w n _) (λ p. refl) t.1.0 (λ w. refl, refl, refl)
leaves scene (change.Front h) v fits c t none =
    moved_beside scene (change.Front h) v h.0 _ (λ p. last_below p scene.trees h.0) (λ w. weight-and_then w _) (λ p. refl) t.1.0 (λ w. refl, refl, refl)
leaves scene (change.Back h) v fits c t none =
    moved_beside scene (change.Back h) v h.0 _ (λ p. at_index_below p scene.trees h.0 0) (λ w. weight-put_at w 0 _) (λ p. refl) t.1.0 (λ w. refl, refl, refl)
leaves scene (change.Load h) v fits c t none =
    let root = screen_root h.0 scene.trees v.rows.kinds (not-false _ t.1.0) in search (rules, v, root)
leaves scene (change.Text h text) v fits c t none =
    let is = (and_parts _ _ fits).1 in
    replaced scene (change.Text h text) h.0 (λ object. object.row) (λ object. text) v (sym (has-handles scene.trees h.0) ∙ not-false _ t.0)
    (λ object. (refl, λ i. i, λ i. is, λ i. i)) (λ w. refl) refl
    (λ object at. let old : chunks_of (text_at scene h.0) ≡ chunks object = ap (λ o. chunks_of (text_of o)) at in omega (arith, old))
leaves scene change v fits c t none = search (rules, trees_stay scene change v none, row_left scene change v fits t)

-- how many slots of a pool a change leaves in use
abbrev AddsUp : Scene → Change → Scene → Pool → Type 0
AddsUp scene change after pool = used after pool + freed_by scene change pool ≡ need_of scene change pool + used scene pool

-- The styles of a scene that a change leaves, and the slots of their pools.
record LeavesBook (scene : Scene) (change : Change) (after : Scene) : Type 0 where
  book : IsBook after.book
  bare : (k : ℕ) → is_there after k ≡ false → IsBare after.book k
  slots : AddsUp scene change after Styles × AddsUp scene change after Entries × AddsUp scene change after Uses

-- who is not there has nothing, where it is not removed
stays_bare : (scene after : Scene) (change : Change) → IsValid scene → Leaves scene change after → (k : ℕ) → removed_sum scene change (one_at k) ≡ 0 →
    is_there after k ≡ false → IsBare scene.book k
stays_bare scene after change v l k none off = elim (cases_Bool (is_there scene k)) [
  | inl on ↦ absurd (omega (arith, l.handles k, none, count-has (handles_of scene.trees) k on, absent_count (handles_of after.trees) k off))
  | inr out ↦ v.bare k out
]

-- a handle is listed where it is
listed : (f : Forest Object) (k : ℕ) → list_any (λ h. eqb h k) (preorder (handles_of f)) ≡ there f k
listed Empty k = refl
listed (Tree object cs rest) k = simp (list_any-append, listed cs k, listed rest k)

-- a change of the book
book_becomes : (scene : Scene) (change : Change) (book : Book) (named : ℕ → Bool) → IsValid scene →
    Becomes scene.book book named (need_of scene change Styles) (need_of scene change Entries) (need_of scene change Uses)
    (freed_by scene change Entries) (freed_by scene change Uses) → freed_by scene change Styles ≡ 0 →
    ((k : ℕ) → is_there scene k ≡ false → named k ≡ false) → LeavesBook scene change (record scene { book = book })
book_becomes scene change book named v b none off =
    let bare = λ (k : ℕ) (out : is_there scene k ≡ false). b.bare k (off k out) (v.bare k out) in search (rules, b, none, bare)

-- who is not there is not the object that is
another : (scene : Scene) (h : Handle) (k : ℕ) → not (is_there scene h.0) ≡ false → is_there scene k ≡ false → eqb k h.0 ≡ false
another scene h k on off = grind (arith, nat_tests, on, off)

leaves_book : (scene : Scene) (change : Change) → IsValid scene → is_in_range change ≡ true → Fail (tests scene change) → Leaves scene change (scene_after scene change) →
    LeavesBook scene change (scene_after scene change)
leaves_book scene (change.Delete h) v fits t l =
    let f = all_forgets (below scene h.0) scene.book in
    let tree = tree_below scene h.0 in
    let after = scene_after scene (change.Delete h) in
    let bare : (k : ℕ) → is_there after k ≡ false → IsBare after.book k = λ k off. elim (cases_Bool (there tree k)) [
      | inl on ↦ f.gone k (listed tree k ∙ on)
      | inr out ↦ f.stays k (stays_bare scene _ (change.Delete h) v l k (sym (count-total tree k) ∙ absent_count (handles_of tree) k (has-handles tree k ∙ out)) off)
    ] in search (rules, f, f.in_order v.book, bare)
leaves_book scene (change.Style s) v fits t l = book_becomes scene (change.Style s) _ nobody v (style_becomes scene.book v.book s t.0) refl (λ k off. refl)
leaves_book scene (change.Set s prop value) v fits t l =
    let b = prop_becomes scene.book v.book s (a_setting prop value) (not-false _ t.0) (and_parts _ _ fits).1 in
    book_becomes scene (change.Set s prop value) _ nobody v b refl (λ k off. refl)
leaves_book scene (change.Unset s prop) v fits t l =
    book_becomes scene (change.Unset s prop) _ nobody v (unset_becomes scene.book v.book s prop (not-false _ t.0)) refl (λ k off. refl)
leaves_book scene (change.Use h s selector) v fits t l =
    let b = use_becomes scene.book v.book h.0 (a_use s selector) (grind (arith, nat_tests, fits)) (not-false _ t.1.0) in
    book_becomes scene (change.Use h s selector) _ (λ k. eqb k h.0) v b refl (λ k off. another scene h k t.0 off)
leaves_book scene (change.Unuse h s selector) v fits t l =
    let b = unuse_becomes scene.book v.book h.0 (a_use s selector) (grind (arith, nat_tests, fits)) (not-false _ t.1.0) in
    book_becomes scene (change.Unuse h s selector) _ (λ k. eqb k h.0) v b refl (λ k off. another scene h k t.0 off)
leaves_book scene (change.Local h selector prop value) v fits t l =
    let b = local_becomes scene.book v.book h.0 (an_entry selector prop value) (grind (arith, nat_tests, fits)) (and_parts _ _ fits).1 in
    book_becomes scene (change.Local h selector prop value) _ (λ k. eqb k h.0) v b refl (λ k off. another scene h k t.0 off)
leaves_book scene (change.Unlocal h selector prop) v fits t l =
    let b = unlocal_becomes scene.book v.book h.0 selector prop (grind (arith, nat_tests, fits)) (not-false _ t.1.0) in
    book_becomes scene (change.Unlocal h selector prop) _ (λ k. eqb k h.0) v b refl (λ k off. another scene h k t.0 off)
leaves_book scene change v fits t l = let bare = λ (k : ℕ). stays_bare scene (scene_after scene change) change v l k refl in search (rules, v, bare)

-- The fonts and images of a scene that a change leaves, and the slots of their pools and of those that no change takes.
record LeavesAssets (scene : Scene) (change : Change) (after : Scene) : Type 0 where
  assets : AreAssets after.fonts after.images
  fonts : AddsUp scene change after Fonts × AddsUp scene change after Glyphs × AddsUp scene change after Ink
  images : AddsUp scene change after Images × AddsUp scene change after Pixels
  others : AddsUp scene change after Handlers × AddsUp scene change after Groups × AddsUp scene change after Anims

leaves_assets : (scene : Scene) (change : Change) → AreAssets scene.fonts scene.images → is_in_range change ≡ true → Fail (tests scene change) →
    LeavesAssets scene change (scene_after scene change)
leaves_assets scene (change.Font f height advance) l fits t =
    let new = new_font f height advance in
    let off : is_among (font_names scene.fonts) f ≡ false = grind (arith, nat_tests, t.0, font-among scene.fonts f) in
    let fit = all-append is_font scene.fonts new l.fonts_fit (grind (arith, nat_tests, fits)) in
    let once = once-append (font_names scene.fonts) f off l.fonts_once in
    let names = map-append (λ (f : Font). f.name) scene.fonts (new ∷ []) in
    let sums = λ (w : Font → ℕ). sum_by_push w scene.fonts new in
    search (rules, l, fit, once, names, length-append scene.fonts (new ∷ []), sums glyph_count, sums ink_count)
leaves_assets scene (change.Glyph f code shape bytes) l fits t =
    let g = glyph_in code shape bytes in
    let on : is_among (font_names scene.fonts) f ≡ true = grind (arith, nat_tests, fits, t.0, font-among scene.fonts f) in
    let fit = fonts-given f g scene.fonts (grind (arith, nat_tests, fits, t.1.1.1.0)) l.fonts_fit in
    let names = map-kept (λ (f : Font). f.name) (given f g) (λ font. grind (arith, nat_tests)) scene.fonts in
    let glyphs = sum-given f g glyph_count 1 (λ font. grind (arith, nat_tests, length-append font.glyphs (g ∷ []))) scene.fonts l.fonts_once in
    let ink = sum-given f g ink_count (length bytes) (λ font. grind (arith, nat_tests, sum_by_push ink_of font.glyphs g)) scene.fonts l.fonts_once in
    search (rules, l, fit, names, length-map scene.fonts (given f g), rw on at glyphs, rw on at ink)
leaves_assets scene (change.EndFont f) l fits t =
    let after = with_finished scene.fonts f in
    let names = map-kept (λ (f : Font). f.name) (done f) (λ font. grind (arith, nat_tests)) scene.fonts in
    let fit = all-kept is_font after scene.fonts (map-kept is_font (done f) (λ font. grind (arith, nat_tests)) scene.fonts) in
    let glyphs = sum-kept glyph_count after scene.fonts (map-kept glyph_count (done f) (λ font. grind (arith, nat_tests)) scene.fonts) in
    let ink = sum-kept ink_count after scene.fonts (map-kept ink_count (done f) (λ font. grind (arith, nat_tests)) scene.fonts) in
    search (rules, l, names, fit, length-map scene.fonts (done f), glyphs, ink)
leaves_assets scene (change.Image i format w h) l fits t =
    let new : Image = record { name = i; format = format; width = w; height = h; bytes = [] } in
    let off : is_among (image_names scene.images) i ≡ false = sym (image-among scene.images i) ∙ t.0 in
    let fit = all-append is_image scene.images new l.images_fit (grind (arith, nat_tests, fits)) in
    let once = once-append (image_names scene.images) i off l.images_once in
    let names = map-append (λ (i : Image). i.name) scene.images (new ∷ []) in
    search (rules, l, fit, once, names, length-append scene.images (new ∷ []), sum_by_push pixel_count scene.images new)
leaves_assets scene (change.ImageRow i y bytes) l fits t =
    let after = with_image_row scene.images i bytes in
    let names = map-rowed (λ (i : Image). i.name) (λ image bytes. refl) scene.images i bytes in
    let fit = all-kept is_image after scene.images (map-rowed is_image (λ image bytes. refl) scene.images i bytes) in
    let pixels = sum-kept pixel_count after scene.images (map-rowed pixel_count (λ image bytes. refl) scene.images i bytes) in
    let count = ap (λ (ns : List ℕ). length ns) names in
    search (rules, l, names, fit, pixels, count, length-map scene.images (λ (i : Image). i.name), length-map after (λ (i : Image). i.name))
leaves_assets scene change l fits t = search (rules, l)

fit_used : (scene : Scene) (pool : Pool) → FitPools scene → used scene pool ≤ slots scene.limits pool
fit_used scene Objects fit = fit.objects
fit_used scene pool fit = omega (arith, fit)

module _ (scene : Scene) (change : Change) (fits : is_in_range change ≡ true) (c : IsChange change) (e : answer_in_range scene change ≡ None) (v : IsValid scene) where
  pub after_leaves : Leaves scene change (scene_after scene change)
  after_leaves = leaves scene change v fits c (passed scene change (rw fits e)) (rw fits e)

  after_book : LeavesBook scene change (scene_after scene change)
  after_book = leaves_book scene change v fits (passed scene change (rw fits e)) after_leaves

  after_assets : LeavesAssets scene change (scene_after scene change)
  after_assets = leaves_assets scene change v.assets fits (passed scene change (rw fits e))

  slots_after : (pool : Pool) → AddsUp scene change (scene_after scene change) pool
  slots_after Objects = after_leaves.objects
  slots_after pool = omega (arith, after_leaves, after_book, after_assets)

  -- pools that are not over their counts before are not over them after, and have as many slots to spare as are left
  pools_after : (pool : Pool) → (used (scene_after scene change) pool ≤ slots (scene_after scene change).limits pool) ×
      (spare (scene_after scene change) pool + need_of scene change pool ≡ spare scene pool + freed_by scene change pool)
  pools_after pool =
      let same = ap (λ (b : Bounds). slots b pool) (after_keeps scene change) in
      omega (arith, same, slots_after pool, fit_used scene pool v.pools, room_in_range scene change pool e)

  pub after_valid : IsValid (scene_after scene change)
  after_valid =
      let named = ready-after scene change (rw fits e) (passed scene change (rw fits e)) v.named in
      let fit = λ (pool : Pool). (pools_after pool).0 in
      let pools : FitPools (scene_after scene change) =
      search (rules, fit Objects, fit Styles, fit Entries, fit Uses, fit Texts, fit Fonts, fit Glyphs, fit Ink, fit Images, fit Pixels) in
      let blocks = subst HasWholeBlocks (sym (after_keeps scene change)) v.blocks in
      search (rules, after_leaves, after_book, after_assets, named, pools, blocks)

pub change_keeps_valid : ChangeKeepsValid
change_keeps_valid scene change v c = changed-by scene change IsValid v (λ e. let a = range_done _ _ e in after_valid scene change a.0 c a.1 v)

pub slots_add_up : SlotsAddUp
slots_add_up scene change pool v c e =
    let a = range_done (is_in_range change) (answer_in_range scene change) e in rw e (pools_after scene change a.0 c a.1 v pool).1

pub first_is_valid : FirstIsValid
first_is_valid limits room blocks =
    let once : StandsOnce (handles_of first_trees) = λ h. grind (arith, nat_tests) in
    search (rules, nat_tests, once, no_text-in, empty_in_order, empty_bare, first_ready [], room, blocks, no_entries, no_uses)

pub valid_is_showable : ValidIsShowable
valid_is_showable scene v = assumption v.trees
