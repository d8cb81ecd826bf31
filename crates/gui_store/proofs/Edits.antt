-- The parts of a store after each change that is done.
use Rattle.gui_store.proofs.Common.{Ok, Err, ◌≡◌, ◌<◌, ◌≤◌, ◌∙◌, sym, ap, subst, ℕ, zero, suc, ◌+◌, ◌-◌, Bool, true, false, length, slice_set, List, Option, Some, None, is_some, option_map, refl, arith, length-set, nat_eq, eqb-true, ◌++◌, [], ◌∷◌, cond, eqb, if◌then◌else◌, OnOk, OnErr, nat_tests, get_or-set_same, POOLS, Handle, Objects, StyleSlots, Entries, Uses, AreAssetSlots, IsBuilt, AreBuilt, full_for_assets, AssetChange, asset_change_of, FontSet, ImageSet, no_fonts, no_images, FontSlots, Glyphs, Ink, ImageSlots, Pixels, Full, Refusal, Forest, Empty, Tree, and_then, leaf, put_at, has, size, count, preorder, cut, cut_by, tree_at, parent_of, with_children_by, Bounds, Test, first_of, result_of, root_tests, child_tests, removal_tests, move_tests, parent_tests, map-and_then, map-size, map-cut_by, map-tree_by, map-parent_by, map-added_by, map-moved_by, map-moved_last_by, count-has, Table, value_at, value_inserted, value_replaced, numbers, Answer, full_answer, Trees, opened, add_root_answer, add_answer, remove_answer, move_answer, set_parent_answer, with_root, with_child, at_index, below, moved_below, without_tree, Change, is_in_range, is_there, Object, Scene, is_at, handles_of, spare, new_object, first_scene, is_screen_kind, answer_in_range, tests, first_short, scene_after, tree_below, all_below, parent_object, at_index_below, last_below, row_after, over_row, row_set, setter_of, need_of, freed_by, IsValid, IsChange, is_root_at, tests-fail, room_in_range, none_short, first-then, first-some, sets_row_alone, total, total-cut, total-parts, one, one_at, size-total, added_sum, removed_sum, first_is_valid, set_sums, Row, KeptRow, RowSet, chunks_at, chunks_of, inl, inr, ◌⊎◌, one_short, new_kept, kept_in, row_in, row_shown, object_of, object_in, HaveRows, set_without, Texts, unwrap_or, removed_after, Styles, Styling, styling_of, AreSlots, IsStyled, full_for, Book, entries_in, uses_in, Parts, scene_in, AreKept, on_ok_weaker, on_err_weaker, locals_of, uses_of, no_lists, empty_book, ext_get_or, all_forgotten, book_without, object_tests, need_by, freed_by_styling, named_by, IsRestyled, Place, refusal_of}
use Rattle.gui_base.specs.declared.limits.Pool.{Pool}
use Rattle.style_defs.specs.Book as book
use Rattle.style_defs.proofs.Empty.{empty_in_order, empty_bare, no_entries, no_uses}
use Rattle.style_defs.proofs.Changing.{all_forgets}
use Rattle.gui_store.proofs.Calls.{forgets}
use Rattle.gui_base.specs.declared.refusal.Refusal.TheVariants as refusal
use Rattle.gui_base.specs.declared.words.Kind.{Kind}
use Rattle.gui_base.specs.declared.words.Kind.TheVariants.{Screen, Layer, Obj}
use Rattle.scene_defs.specs.Scene.{chunks_in}
use Rattle.gui_pool.specs.Texts.{need_of as need_of_text}
use Rattle.gui_store.specs.RowSets.{with_text}
use Rattle.scene_defs.specs.declared.Feature.TheVariants.{Text}
use Rattle.scene_defs.specs.Row.{has_feature}
use Rattle.scene_defs.specs.Change.{lacks}
use Rattle.scene_defs.specs.Edits.{text_at, text_of, over_text}
use Rattle.scene_defs.specs.declared.Change.TheVariants as change
use Rattle.scene_defs.proofs.Handles.{has-handles}
use Rattle.scene_defs.proofs.RowKinds.{root_there}
use Rattle.scene_defs.proofs.Distinct.{distinct_once}
use Rattle.gui_store.proofs.Rows.{row_count, times, times-preorder, length-preorder, value-set, inserted-count, replaced-count, have-rows, without-count, without-spare, without-handles, without-set, without-texts, listed-forest}
use Rattle.gui_store.proofs.Shown.{shown, shown-handles, shown-count, shown-aside, shown-set, shown-without}
use Rattle.gui_store.proofs.Kept.{read-on, read-off, Left, answered, done, there-is, object-is, read-at, within, vacant, counted, tree-answer, Fine}
use Rattle.scene_defs.specs.Valid.{HasWholeBlocks}

-- where no slots are taken and none are freed
stay : (s : Styles) (need freed : Pool → ℕ) → ((q : Pool) → (need q ≡ 0) × (freed q ≡ 0)) → AreSlots s s need freed
stay s need freed none = record { styles = omega (arith, none StyleSlots); entries = omega (arith, none Entries); uses = omega (arith, none Uses) }

assets_stay : (fonts : FontSet) (images : ImageSet) (need freed : Pool → ℕ) → ((q : Pool) → (need q ≡ 0) × (freed q ≡ 0)) → AreAssetSlots fonts fonts images images need freed
assets_stay fonts images need freed none = record {
  fonts_left = omega (arith, none FontSlots);
  glyphs_left = omega (arith, none Glyphs);
  ink_left = omega (arith, none Ink);
  images_left = omega (arith, none ImageSlots);
  pixels_left = omega (arith, none Pixels);
}

-- the first test that holds of some and then others
first-both : (ts us : List Test) (later : Option Refusal) → first_of (ts ++ us) later ≡ first_of ts (first_of us later)
first-both [] us later = refl
first-both (t ∷ ts) us later = ap (λ (o : Option Refusal). if t.0 then Some (refusal_of t.1) else o) (first-both ts us later)

-- With an index past the last tree, it is put last.
put_at-last : {A : Type 0} (n : ℕ) (t f : Forest A) → size f ≤ n → put_at n t f ≡ and_then f t
put_at-last zero t Empty few = nothing_after t where
  nothing_after : {A : Type 0} (t : Forest A) → and_then t Empty ≡ t
  nothing_after Empty = refl
  nothing_after (Tree row cs rest) = rw (nothing_after rest) refl
put_at-last (suc n) t Empty few = refl
put_at-last zero t (Tree row cs rest) few = absurd (omega arith)
put_at-last (suc n) t (Tree row cs rest) few = let less : size rest ≤ n = omega arith in rw (put_at-last n t rest less) refl

last-alike : {A : Type 0} (test : A → Bool) (n : ℕ) (t f : Forest A) → size f ≤ n → with_children_by test (put_at n t) f ≡ with_children_by test (λ cs. and_then cs t) f
last-alike test n t Empty few = refl
last-alike test n t (Tree row cs rest) few =
    let a = last-alike test n t cs (omega arith) in
    let b = last-alike test n t rest (omega arith) in rw (a, b, put_at-last n t cs (omega arith)) refl

-- the rows and texts of the parts
abbrev pub set_of : Parts → RowSet
set_of p = record { rows = p.rows; spare_texts = p.spare_texts }

module _ (p : Parts) (k : AreKept p) where
  -- what each edit of the tree answers
  pub screen-answer : (n : Handle) → result_of (answer_in_range (scene_in p) (change.Screen n)) ≡ add_root_answer p.tree n.0
  screen-answer n = tree-answer p k (change.Screen n) (λ f. root_tests f n.0) (full_answer p.tree) refl (grind (arith, nat_tests, k.objects))

  pub object-answer : (n q : Handle) (kind : Kind) → result_of (answer_in_range (scene_in p) (change.New n q kind)) ≡ add_answer p.tree n.0 q.0
  object-answer n q kind = tree-answer p k (change.New n q kind) (λ f. child_tests f n.0 q.0) (full_answer p.tree) refl (grind (arith, nat_tests, k.objects))

  pub delete-answer : (h : Handle) → nat_eq h.0 p.active ≡ false →
      result_of (answer_in_range (scene_in p) (change.Delete h)) ≡ remove_answer p.tree h.0
  delete-answer h other =
      tree-answer p k (change.Delete h) (λ f. removal_tests f h.0 ++ (nat_eq h.0 p.active, Place) ∷ []) None refl (grind (arith, nat_tests))
      ∙ rw other refl

  pub delete-active : (h : Handle) → nat_eq h.0 p.active ≡ true → answer_in_range (scene_in p) (change.Delete h) ≡ Some refusal.Place
  delete-active h same =
      let root = ap (is_root_at (scene_in p).trees) (eqb-true _ _ same) ∙ k.valid.trees.active in
      let on = has-handles (scene_in p).trees h.0 ∙ root_there (scene_in p).trees h.0 root in rw (on, same) (grind arith)

  -- a load of what is not there, and of a row that is read
  pub load-absent : (h : Handle) → None ≡ row_shown p.rows h.0 → answer_in_range (scene_in p) (change.Load h) ≡ Some refusal.Unknown
  load-absent h e = rw (there-is p h.0 ∙ read-off p k h.0 e) refl

  pub load-answer : (h : Handle) (row : Row) (b : Bool) → Some row ≡ row_shown p.rows h.0 → is_screen_kind row.kind ≡ b →
      answer_in_range (scene_in p) (change.Load h) ≡ (if b then None else Some refusal.Kind)
  load-answer h row b read is =
      let none = none_short (scene_in p) (change.Load h) POOLS (λ q. refl) in
      let on = read-on p k h.0 row read in
      let kind = ap (λ (r : Row). r.kind) (sym (read-at p k h.0 row read)) in
      rw (there-is p h.0 ∙ on, object-is p h.0 on, kind, is) (grind (arith, none))

  with_trees : {f g : Forest Object} → f ≡ g → record (scene_in p) { trees = f } ≡ record (scene_in p) { trees = g }
  with_trees e = ap (λ (t : Forest Object). record (scene_in p) { trees = t }) e

  -- one object more, whose handle may be given a row
  grown_by : (change : Change) (n : ℕ) (kind : Kind) (g : Forest ℕ) → answer_in_range (scene_in p) change ≡ None →
      n < 10000 → is_there (scene_in p) n ≡ false →
      ((rows : Table KeptRow) → shown rows p.tree.forest ≡ (scene_in p).trees → object_in rows n ≡ new_object n kind →
      record (scene_in p) { trees = shown rows g } ≡ scene_after (scene_in p) change) →
      ((w : Object → ℕ) → added_sum (scene_in p) change w ≡ w (new_object n kind) + removed_sum (scene_in p) change w) →
      need_of (scene_in p) change Objects ≡ freed_by (scene_in p) change Objects + 1 →
      need_of (scene_in p) change Texts ≡ freed_by (scene_in p) change Texts →
      AreSlots p.styles p.styles (need_of (scene_in p) change) (freed_by (scene_in p) change) →
      AreAssetSlots p.fonts p.fonts p.images p.images (need_of (scene_in p) change) (freed_by (scene_in p) change) →
      p.tree.removed ≡ removed_after p.tree.removed (scene_in p) change →
      Fine p change (record p { tree = record p.tree { forest = g; spare = p.tree.spare - 1 }; rows = value_inserted p.rows n (new_kept kind) })
  grown_by change n kind g e fits absent shows sums objects texts styles assets removed =
      let row = new_kept kind in
      let off = sym (there-is p n) ∙ absent in
      let within : n < length p.rows.values = omega (arith, fits, k.handles) in
      let new : object_in (value_inserted p.rows n row) n ≡ new_object n kind = ap (object_of n) (ap (λ (o : Option KeptRow). unwrap_or o (new_kept Obj)) (get_or-set_same p.rows.values n (Some row) None within)) in
      record {
        shows = shows (value_inserted p.rows n row) (shown-aside p.rows p.tree.forest n row off) new;
        handles = length-set p.rows.values n (Some row) ∙ k.handles;
        rows = λ h. omega (arith, sums (one_at h), inserted-count p.rows n h row within (vacant p k n off));
        room = omega (arith, k.room);
        objects = omega (arith, objects, room_in_range (scene_in p) change Objects e, k.objects);
        texts = omega (arith, texts);
        styles = styles;
        assets = assets;
        removed = removed;
      }

  pub fine-screen : (n : Handle) → n.0 < 10000 → answer_in_range (scene_in p) (change.Screen n) ≡ None →
      Fine p (change.Screen n) (record p { tree = with_root p.tree n.0; rows = value_inserted p.rows n.0 (new_kept Screen) })
  fine-screen n fits e =
      let t = tests-fail (tests (scene_in p) (change.Screen n)) (first_short (scene_in p) (change.Screen n) POOLS) e in
      let shows = λ (rows : Table KeptRow). map-and_then (object_in rows) p.tree.forest (leaf n.0) in
      grown_by (change.Screen n) n.0 Screen (with_root p.tree n.0).forest e fits t.0
      (λ rows same new. rw (shows rows, same, new) refl) (λ w. omega arith) refl refl (record { styles = refl; entries = refl; uses = refl }) (record { fonts_left = refl; glyphs_left = refl; ink_left = refl; images_left = refl; pixels_left = refl }) refl

  pub fine-object : (n q : Handle) (kind : Kind) → n.0 < 10000 → answer_in_range (scene_in p) (change.New n q kind) ≡ None →
      Fine p (change.New n q kind) (record p { tree = with_child p.tree q.0 n.0; rows = value_inserted p.rows n.0 (new_kept kind) })
  fine-object n q kind fits e =
      let t = tests-fail (tests (scene_in p) (change.New n q kind)) (first_short (scene_in p) (change.New n q kind) POOLS) e in
      let shows = λ (rows : Table KeptRow). map-added_by (object_in rows) (is_at q.0) (is_at q.0) n.0 p.tree.forest in
      grown_by (change.New n q kind) n.0 kind (with_child p.tree q.0 n.0).forest e fits t.1.0
      (λ rows same new. rw (shows rows, same, new) refl) (λ w. omega arith) refl refl (record { styles = refl; entries = refl; uses = refl }) (record { fonts_left = refl; glyphs_left = refl; ink_left = refl; images_left = refl; pixels_left = refl }) refl

  tree-is : (h : ℕ) → shown p.rows (tree_at p.tree.forest h) ≡ tree_below (scene_in p) h
  tree-is h = map-tree_by (object_in p.rows) (is_at h) p.tree.forest

  -- The handles that a removal lists.
  module _ (hs : List Handle) (h : Handle) (listed : numbers hs ≡ preorder (tree_at p.tree.forest h.0)) where
    listed-times : (j : ℕ) → times (numbers hs) j ≡ total (one_at j) (tree_below (scene_in p) h.0)
    listed-times j = rw (listed, times-preorder (tree_at p.tree.forest h.0) j, ← tree-is h.0) (shown-count p.rows (tree_at p.tree.forest h.0) j)

    -- those that are left and those that are listed
    parts : (j : ℕ) → count (cut p.tree.forest h.0) j + times (numbers hs) j ≡ row_count p.rows j
    parts j =
        let cut-is = ap (total (one_at j)) (map-cut_by (object_in p.rows) (is_at h.0) p.tree.forest) in
        let all = total-parts (one_at j) (scene_in p).trees h.0 (distinct_once (scene_in p).trees k.valid.trees.once) in
        omega (arith, cut-is, all, shown-count p.rows (cut p.tree.forest h.0) j, shown-count p.rows p.tree.forest j, listed-times j, counted p k j)

    pub listed-rows : HaveRows p.rows hs
    listed-rows = have-rows p.rows hs (λ j. omega (arith, parts j))

    -- what is left has its rows
    aside : (j : ℕ) → has (cut p.tree.forest h.0) j ≡ true → times (numbers hs) j ≡ 0
    aside j on = grind (arith, nat_tests, parts j, count-has (cut p.tree.forest h.0) j on)

    -- they are those below h
    listed-below : numbers hs ≡ all_below (scene_in p) h.0
    listed-below = listed ∙ ap preorder (sym (ap handles_of (sym (tree-is h.0)) ∙ shown-handles p.rows (tree_at p.tree.forest h.0)))

    pub fine-delete : Fine p (change.Delete h) (record p { tree = without_tree p.tree h.0; rows = (set_without (set_of p) hs).rows; spare_texts = (set_without (set_of p) hs).spare_texts; styles = all_forgotten p.styles hs })
    fine-delete =
        let f = forgets hs p.styles in
        let left : (all_forgotten p.styles hs).book ≡ book_without (scene_in p) h.0 = f.book ∙ ap (book.all_forgotten p.styles.book) listed-below in
        let fewer = all_forgets (all_below (scene_in p) h.0) p.styles.book in
        let rows = without-set (set_of p) hs in
        let trees = ap (λ (t : Table KeptRow). shown t (cut p.tree.forest h.0)) rows ∙ shown-without p.rows (cut p.tree.forest h.0) hs aside ∙ map-cut_by (object_in p.rows) (is_at h.0) p.tree.forest in record {
          shows = λ i. record (scene_in p) { trees = trees i; book = left i };
          handles = ap (λ (t : Table KeptRow). length t.values) rows ∙ without-handles p.rows hs ∙ k.handles;
          rows = λ j. omega (arith, ap (λ (t : Table KeptRow). row_count t j) rows, without-count p.rows hs j listed-rows, listed-times j);
          texts = let a = without-texts (set_of p) hs listed-rows in let b = listed-forest p.rows hs (tree_at p.tree.forest h.0) listed in let c = ap chunks_in (tree-is h.0) in omega (arith, a, b, c);
          room = let a = ap (λ (xs : List ℕ). length xs) listed in omega (arith, ap (λ (t : Table KeptRow). t.spare) rows, without-spare p.rows hs, a, length-preorder (tree_at p.tree.forest h.0), k.room);
          objects = let a = map-size (object_in p.rows) (tree_at p.tree.forest h.0) in let b = ap size (tree-is h.0) in omega arith;
          styles = record {
            styles = omega (arith, f.styles);
            entries = omega (arith, f.entries, ap entries_in left, fewer.entries_left);
            uses = omega (arith, f.uses, ap uses_in left, fewer.uses_left);
          };
          assets = record { fonts_left = refl; glyphs_left = refl; ink_left = refl; images_left = refl; pixels_left = refl };
          removed = sym listed ∙ listed-below;
        }

  -- a tree that goes to an index below the same parent
  index-shows : (h n : ℕ) → shown p.rows (moved_below (parent_of p.tree.forest h) p.tree.forest h n) ≡ at_index_below (parent_object (scene_in p) h) (scene_in p).trees h n
  index-shows h n = by (parent_of p.tree.forest h) ∙ ap (λ (o : Option Object). at_index_below o (scene_in p).trees h n) (map-parent_by (object_in p.rows) (is_at h) None p.tree.forest) where
    by : (o : Option ℕ) → shown p.rows (moved_below o p.tree.forest h n) ≡ at_index_below (option_map (object_in p.rows) o) (scene_in p).trees h n
    by None = refl
    by (Some q) = map-moved_by (object_in p.rows) (is_at h) (is_at q) n p.tree.forest

  -- an index past so many is the last
  last-shows : (h n : ℕ) → p.limits.objects ≤ n → (o : Option Object) → at_index_below o (scene_in p).trees h n ≡ last_below o (scene_in p).trees h
  last-shows h n few None = refl
  last-shows h n few (Some q) =
      let bare = cut_by (is_at h) (scene_in p).trees in
      let a = total-cut one (is_at h) (scene_in p).trees in
      last-alike (is_at q.handle) n (tree_below (scene_in p) h) bare (omega (arith, few, a, size-total bare, size-total (scene_in p).trees, k.valid.pools.objects))

  -- A change that moves a tree, as a call of the tree does.
  module _ (change : Change) (fits : is_in_range change ≡ true) (plain : IsChange change)
      (sums : (w : Object → ℕ) → removed_sum (scene_in p) change w ≡ added_sum (scene_in p) change w)
      (none : (q : Pool) → (need_of (scene_in p) change q ≡ 0) × (freed_by (scene_in p) change q ≡ 0))
      (removed : p.tree.removed ≡ removed_after p.tree.removed (scene_in p) change) (t : Trees) (r : Answer) (err : OnErr r (t ≡ p.tree)) where
    moved : (ts : Forest ℕ → List Test) (g : Forest ℕ) → tests (scene_in p) change ≡ ts (handles_of (scene_in p).trees) →
        record (scene_in p) { trees = shown p.rows g } ≡ scene_after (scene_in p) change → r ≡ result_of (first_of (ts p.tree.forest) None) →
        OnOk r (t ≡ record p.tree { forest = g }) → Left p change (record p { tree = t }) r
    moved ts g e shows a ok =
        let same = tree-answer p k change ts None e (ap (option_map Full) (none_short (scene_in p) change POOLS (λ q. (none q).0))) ∙ sym a in
        let fine : Fine p change (record p { tree = record p.tree { forest = g } }) = record {
          shows = shows;
          handles = k.handles;
          rows = λ h. omega (arith, sums (one_at h));
          room = k.room;
          objects = omega (arith, none Objects);
          texts = omega (arith, none Texts);
          styles = stay p.styles _ _ none;
          assets = assets_stay p.fonts p.images _ _ none;
          removed = removed;
        } in
        answered p k change fits plain (record p { tree = t }) r same
        (on_ok_weaker r (λ is. λ done. subst (λ (u : Trees). Fine p change (record p { tree = u })) (sym is) fine) ok)
        (on_err_weaker r (λ is. ap (λ (u : Trees). record p { tree = u }) is) err)

    pub moved_beside : (h n : ℕ) → tests (scene_in p) change ≡ move_tests (handles_of (scene_in p).trees) h →
        record (scene_in p) { trees = at_index_below (parent_object (scene_in p) h) (scene_in p).trees h n } ≡ scene_after (scene_in p) change →
        r ≡ move_answer p.tree h → OnOk r (t ≡ at_index p.tree h n) → Left p change (record p { tree = t }) r
    moved_beside h n e after = moved (λ f. move_tests f h) (at_index p.tree h n).forest e (with_trees (index-shows h n) ∙ after)

  pub moved_below_other : (h q : Handle) → is_in_range (change.Parent h q) ≡ true → (t : Trees) (r : Answer) → OnErr r (t ≡ p.tree) →
      r ≡ set_parent_answer p.tree h.0 q.0 → OnOk r (t ≡ below p.tree h.0 q.0) → Left p (change.Parent h q) (record p { tree = t }) r
  moved_below_other h q fits t r err =
      let shows = map-moved_last_by (object_in p.rows) (is_at h.0) (is_at q.0) p.tree.forest in
      moved (change.Parent h q) fits tt (λ w. refl) (λ q. (refl, refl)) refl t r err
      (λ f. parent_tests f h.0 q.0) (below p.tree h.0 q.0).forest refl (with_trees shows)

  pub last-after : (h : Handle) (n : ℕ) → p.limits.objects ≤ n →
      record (scene_in p) { trees = at_index_below (parent_object (scene_in p) h.0) (scene_in p).trees h.0 n } ≡ scene_after (scene_in p) (change.Front h)
  last-after h n few = with_trees (last-shows h.0 n few (parent_object (scene_in p) h.0))

  pub fine-load : (h : Handle) → Fine p (change.Load h) (record p { active = h.0 })
  fine-load h = record { shows = refl; handles = k.handles; rows = λ j. omega arith; room = k.room; objects = refl; texts = refl; styles = (record { styles = refl; entries = refl; uses = refl }); assets = record { fonts_left = refl; glyphs_left = refl; ink_left = refl; images_left = refl; pixels_left = refl }; removed = refl }

  -- what is not there is unknown
  pub row-absent : (change : Change) (h : Handle) → row_set change ≡ Some h → is_there (scene_in p) h.0 ≡ false →
      answer_in_range (scene_in p) change ≡ Some refusal.Unknown
  row-absent (change.Pos a x y) h set off = grind (arith, set, off)
  row-absent change h set off = grind (arith, set, off)

  -- a change of one row takes and frees no slots
  none-set : (change : Change) (h : Handle) → row_set change ≡ Some h → (q : Pool) → (need_of (scene_in p) change q ≡ 0) × (freed_by (scene_in p) change q ≡ 0)
  none-set (change.Screen n) h set q = (cc, cc)
  none-set change h set q = (cc, cc)

  -- Another row at h, which no test refuses.
  module _ (change : Change) (h : Handle) (fits : is_in_range change ≡ true) (plain : IsChange change) (set : row_set change ≡ Some h)
      (passed : first_of (tests (scene_in p) change) None ≡ None) (on : has p.tree.forest h.0 ≡ true) where
    row-answer : answer_in_range (scene_in p) change ≡ None
    row-answer =
        first-then (tests (scene_in p) change) (option_map Full (first_short (scene_in p) change POOLS)) passed
        ∙ ap (option_map Full) (none_short (scene_in p) change POOLS (λ q. (none-set change h set q).0))

    -- the row that is set, beside the text
    abbrev pub kept_after : KeptRow
    kept_after = record (kept_in p.rows h.0) { row = row_after change (row_in p.rows h.0) }

    pub row-done : (rows : RowSet) → rows ≡ record (set_of p) { rows = value_replaced p.rows h.0 kept_after } → Left p change (record p { rows = rows.rows; spare_texts = rows.spare_texts }) (Ok tt)
    row-done rows written = rw written (done p k change fits plain (record p { rows = value_replaced p.rows h.0 kept_after }) row-answer (record {
      shows = with_trees (shown-set p.rows p.tree.forest h.0 kept_after (over_row (row_after change)) (within p k h.0 on) refl) ∙ sym (sets_row_alone (scene_in p) change h set);
      handles = length-set p.rows.values h.0 (Some kept_after) ∙ k.handles;
      rows = λ j. omega (arith, replaced-count p.rows h.0 j kept_after (k.rows h.0 ∙ on), set_sums (scene_in p) change h (one_at j) set);
      room = k.room;
      objects = omega (arith, none-set change h set Objects);
      texts = omega (arith, none-set change h set Texts);
      styles = stay p.styles _ _ (none-set change h set);
      assets = assets_stay p.fonts p.images _ _ (none-set change h set);
      removed = grind (arith, set);
    }))

  -- Another text of h.
  pub found-kept : (h : ℕ) → has p.tree.forest h ≡ true → value_at p.rows h ≡ Some (kept_in p.rows h)
  found-kept h on = by (value_at p.rows h) (k.rows h ∙ on) where
    by : (o : Option KeptRow) → is_some o ≡ true → o ≡ Some (unwrap_or o (new_kept Obj))
    by None some = cc
    by (Some kept) some = refl

  pub text-absent : (h : Handle) (text : List ℕ) → has p.tree.forest h.0 ≡ false → answer_in_range (scene_in p) (change.Text h text) ≡ Some refusal.Unknown
  text-absent h text off = rw (there-is p h.0 ∙ off) refl

  pub text-kind : (h : Handle) (text : List ℕ) → has p.tree.forest h.0 ≡ true → has_feature Text (row_in p.rows h.0).kind ≡ false →
      answer_in_range (scene_in p) (change.Text h text) ≡ Some refusal.Kind
  text-kind h text on other = rw (there-is p h.0 ∙ on, object-is p h.0 on, other) refl

  module _ (h : Handle) (text : List ℕ) (on : has p.tree.forest h.0 ≡ true) (kind : has_feature Text (row_in p.rows h.0).kind ≡ true) where
    text-at : text_at (scene_in p) h.0 ≡ (kept_in p.rows h.0).text
    text-at = ap text_of (object-is p h.0 on)

    old-chunks : need_of_text (text_at (scene_in p) h.0) ≡ chunks_at (set_of p) h.0
    old-chunks = ap need_of_text text-at ∙ sym (ap chunks_of (found-kept h.0 on))

    text-need : (q : Pool) → (q ≡ Texts) ⊎ (need_of (scene_in p) (change.Text h text) q ≡ 0)
    text-need Texts = inl refl
    text-need q = inr refl

    text-passed : first_of (tests (scene_in p) (change.Text h text)) None ≡ None
    text-passed = rw (there-is p h.0 ∙ on, object-is p h.0 on, kind) refl

    text-answer : answer_in_range (scene_in p) (change.Text h text)
        ≡ option_map Full (if lacks (scene_in p) Texts (need_of (scene_in p) (change.Text h text) Texts) then Some Texts else None)
    text-answer =
        first-then (tests (scene_in p) (change.Text h text)) (option_map Full (first_short (scene_in p) (change.Text h text) POOLS)) text-passed
        ∙ ap (option_map Full) (one_short (scene_in p) (change.Text h text) Texts text-need)

    pub text-full : p.spare_texts + chunks_at (set_of p) h.0 < need_of_text text → answer_in_range (scene_in p) (change.Text h text) ≡ Some (Full Texts)
    text-full few =
        let lacking : lacks (scene_in p) Texts (need_of (scene_in p) (change.Text h text) Texts) ≡ true = grind (arith, nat_tests, k.texts, old-chunks, few) in
        text-answer ∙ rw lacking refl

    pub text-done : is_in_range (change.Text h text) ≡ true → IsChange (change.Text h text) → need_of_text text ≤ p.spare_texts + chunks_at (set_of p) h.0 → (rows : RowSet) → rows ≡ with_text (set_of p) h.0 text →
        Left p (change.Text h text) (record p { rows = rows.rows; spare_texts = rows.spare_texts }) (Ok tt)
    text-done fits plain room rows written =
        let change = change.Text h text in
        let kept : KeptRow = record (kept_in p.rows h.0) { text = text } in
        let lacking : lacks (scene_in p) Texts (need_of (scene_in p) change Texts) ≡ false = grind (arith, nat_tests, k.texts, old-chunks, room) in
        let told : with_text (set_of p) h.0 text ≡ record { rows = value_replaced p.rows h.0 kept; spare_texts = (p.spare_texts + chunks_at (set_of p) h.0) - need_of_text text } =
        rw (found-kept h.0 on) refl in
        rw (written ∙ told) (done p k change fits plain (record p { rows = value_replaced p.rows h.0 kept; spare_texts = (p.spare_texts + chunks_at (set_of p) h.0) - need_of_text text }) (text-answer ∙ rw lacking refl) (record {
          shows = with_trees (shown-set p.rows p.tree.forest h.0 kept (over_text text) (within p k h.0 on) refl);
          handles = length-set p.rows.values h.0 (Some kept) ∙ k.handles;
          rows = λ j. omega (arith, replaced-count p.rows h.0 j kept (k.rows h.0 ∙ on));
          room = k.room;
          objects = refl;
          texts = omega (arith, old-chunks, room);
          styles = record { styles = refl; entries = refl; uses = refl };
          assets = record { fonts_left = refl; glyphs_left = refl; ink_left = refl; images_left = refl; pixels_left = refl };
          removed = refl;
        }))

  -- A change of styles adds and removes no object, and takes slots of styles alone.
  record IsQuiet (change : Change) (styling : Styling) : Type 0 where
    setter : setter_of change ≡ None
    sums : (w : Object → ℕ) → (added_sum (scene_in p) change w ≡ 0) × (removed_sum (scene_in p) change w ≡ 0)
    objects : (need_of (scene_in p) change Objects ≡ 0) × (freed_by (scene_in p) change Objects ≡ 0)
    texts : (need_of (scene_in p) change Texts ≡ 0) × (freed_by (scene_in p) change Texts ≡ 0)
    full : option_map Full (first_short (scene_in p) change POOLS) ≡ full_for p.styles styling.need
    assets : AreAssetSlots p.fonts p.fonts p.images p.images (need_of (scene_in p) change) (freed_by (scene_in p) change)
    removed : p.tree.removed ≡ removed_after p.tree.removed (scene_in p) change

  quiet : (change : Change) (styling : Styling) → styling_of p.fonts.fonts p.styles.book change ≡ Some styling → IsQuiet change styling
  quiet (change.Screen n) styling e = absurd (cc)
  quiet change styling e = record {
    setter = cc;
    sums = λ w. (cc, cc);
    objects = (cc, cc);
    texts = (cc, cc);
    full = grind (arith, nat_tests, e, k.styles, k.entries, k.uses);
    assets = record { fonts_left = cc; glyphs_left = cc; ink_left = cc; images_left = cc; pixels_left = cc };
    removed = cc;
  }

  -- whether the object that is named is unknown
  abbrev pub named_test : Option Styling → Option Refusal
  named_test o = first_of (object_tests (handles_of (scene_in p).trees) (named_by o)) None

  pub unnamed : (change : Change) (o : Option Styling) → styling_of p.fonts.fonts p.styles.book change ≡ o → is_some o ≡ true → named_test o ≡ Some refusal.Unknown →
      answer_in_range (scene_in p) change ≡ Some refusal.Unknown
  unnamed change None is some absent = cc
  unnamed change (Some styling) is some absent =
      let s = quiet change styling is in
      let named = object_tests (handles_of (scene_in p).trees) styling.object in rw (s.setter, is) (first-both named styling.tests _ ∙ first-some named _ refusal.Unknown absent)

  -- as the call of the styles does it
  pub restyled : (change : Change) (t : Styles) (r : Answer) (o : Option Styling) → is_in_range change ≡ true → IsChange change → styling_of p.fonts.fonts p.styles.book change ≡ o → is_some o ≡ true →
      named_test o ≡ None → IsRestyled p.styles t o r → Left p change (record p { styles = t }) r
  restyled change t r None fits plain is some there a = cc
  restyled change t r (Some styling) fits plain is some there a =
      let s = quiet change styling is in
      let answer : answer_in_range (scene_in p) change ≡ first_of styling.tests (full_for p.styles styling.need) =
      let named = object_tests (handles_of (scene_in p).trees) styling.object in rw (s.full, s.setter, is) (first-both named styling.tests _ ∙ first-then named _ there) in
      let fine : IsStyled p.styles t styling → answer_in_range (scene_in p) change ≡ None → Fine p change (record p { styles = t }) = λ done none. record {
        shows = rw (s.setter, is) (ap (λ (b : Book). record (scene_in p) { book = b }) done.book);
        handles = k.handles;
        rows = λ h. omega (arith, s.sums (one_at h));
        room = k.room;
        objects = omega (arith, s.objects);
        texts = omega (arith, s.texts);
        styles = subst (λ (o : Option Styling). AreSlots p.styles t (need_by o (asset_change_of p.fonts.fonts p.images.images change) (scene_in p) change) (freed_by_styling o (scene_in p) change)) (sym is) done.slots;
        assets = s.assets;
        removed = s.removed;
      } in
      answered p k change fits plain (record p { styles = t }) r (ap result_of answer ∙ sym a.answer_is) (on_ok_weaker r fine a.done) (on_err_weaker r (λ same. ap (λ (x : Styles). record p { styles = x }) same) a.refused)

  -- A change of fonts and images adds and removes no object, and takes slots of their pools alone.
  record IsAside (change : Change) (assets : AssetChange) : Type 0 where
    answer : answer_in_range (scene_in p) change ≡ first_of assets.tests (full_for_assets p.fonts p.images assets.need)
    after : scene_after (scene_in p) change ≡ record (scene_in p) { fonts = assets.fonts; images = assets.images }
    sums : (w : Object → ℕ) → (added_sum (scene_in p) change w ≡ 0) × (removed_sum (scene_in p) change w ≡ 0)
    need : (q : Pool) → need_of (scene_in p) change q ≡ assets.need q
    freed : (q : Pool) → freed_by (scene_in p) change q ≡ 0
    objects : need_of (scene_in p) change Objects ≡ 0
    texts : need_of (scene_in p) change Texts ≡ 0
    styles : (need_of (scene_in p) change StyleSlots ≡ 0) × (need_of (scene_in p) change Entries ≡ 0) × (need_of (scene_in p) change Uses ≡ 0)
    removed : p.tree.removed ≡ removed_after p.tree.removed (scene_in p) change

  needs : (change : Change) (assets : AssetChange) → asset_change_of p.fonts.fonts p.images.images change ≡ Some assets → (q : Pool) → need_of (scene_in p) change q ≡ assets.need q
  needs (change.EndFont f) assets e q = ap (λ (o : Option AssetChange). need_by None o (scene_in p) (change.EndFont f) q) e
  needs (change.ImageRow i y bytes) assets e q = ap (λ (o : Option AssetChange). need_by None o (scene_in p) (change.ImageRow i y bytes) q) e
  needs change assets e q = cc

  apart : (change : Change) (assets : AssetChange) → asset_change_of p.fonts.fonts p.images.images change ≡ Some assets → IsAside change assets
  apart (change.Screen n) assets e = absurd (cc)
  apart change assets e = record {
    answer = grind (arith, nat_tests, e, k.fonts, k.glyphs, k.ink, k.images, k.pixels);
    after = cc;
    sums = λ w. (cc, cc);
    need = needs change assets e;
    freed = λ q. cc;
    objects = cc;
    texts = cc;
    styles = (cc, cc, cc);
    removed = cc;
  }

  -- as the calls of the fonts and the images do it
  pub built : (change : Change) (t : FontSet) (u : ImageSet) (r : Answer) (o : Option AssetChange) → is_in_range change ≡ true → IsChange change →
      asset_change_of p.fonts.fonts p.images.images change ≡ o → is_some o ≡ true → AreBuilt p.fonts t p.images u o r →
      Left p change (record p { fonts = t; images = u }) r
  built change t u r None fits plain is some a = cc
  built change t u r (Some assets) fits plain is some a =
      let s = apart change assets is in
      let fine : IsBuilt p.fonts t p.images u assets → answer_in_range (scene_in p) change ≡ None → Fine p change (record p { fonts = t; images = u }) = λ done none. record {
        shows = rw (done.fonts_are, done.images_are) (sym s.after);
        handles = k.handles;
        rows = λ h. omega (arith, s.sums (one_at h));
        room = k.room;
        objects = omega (arith, s.freed Objects, s.objects);
        texts = omega (arith, s.freed Texts, s.texts);
        styles = record { styles = omega (arith, s.freed StyleSlots, s.styles); entries = omega (arith, s.freed Entries, s.styles); uses = omega (arith, s.freed Uses, s.styles) };
        assets = record {
          fonts_left = omega (arith, s.need FontSlots, s.freed FontSlots, done.slots.fonts_left);
          glyphs_left = omega (arith, s.need Glyphs, s.freed Glyphs, done.slots.glyphs_left);
          ink_left = omega (arith, s.need Ink, s.freed Ink, done.slots.ink_left);
          images_left = omega (arith, s.need ImageSlots, s.freed ImageSlots, done.slots.images_left);
          pixels_left = omega (arith, s.need Pixels, s.freed Pixels, done.slots.pixels_left);
        };
        removed = s.removed;
      } in
      same p k change fits plain t u r (ap result_of s.answer ∙ sym a.answer_is) (on_ok_weaker r fine a.done) a.same_fonts a.same_images where
        same : (p : Parts) (k : AreKept p) (change : Change) (fits : is_in_range change ≡ true) (plain : IsChange change) (t : FontSet) (u : ImageSet) (r : Answer) →
            result_of (answer_in_range (scene_in p) change) ≡ r → OnOk r (answer_in_range (scene_in p) change ≡ None → Fine p change (record p { fonts = t; images = u })) →
            OnErr r (t ≡ p.fonts) → OnErr r (u ≡ p.images) → Left p change (record p { fonts = t; images = u }) r
        same p k change fits plain t u (Ok v) a ok err other = answered p k change fits plain (record p { fonts = t; images = u }) (Ok v) a ok tt
        same p k change fits plain t u (Err x) a ok err other = answered p k change fits plain (record p { fonts = t; images = u }) (Err x) a tt (rw (err, other) refl)

-- What `Styles` opens: nothing is set, in a place for each number.
pub record AreNew (s : Styles) (limits : Bounds) : Type 0 where
  pub no_styles : s.book.styles ≡ []
  pub no_locals : (h : ℕ) → locals_of s.book h ≡ []
  pub no_uses : (h : ℕ) → uses_of s.book h ≡ []
  pub spare_styles : s.spare_styles ≡ limits.styles
  pub spare_entries : s.spare_entries ≡ limits.entries
  pub spare_uses : s.spare_uses ≡ limits.uses
  pub locals : length s.book.locals ≡ 65536
  pub uses : length s.book.uses ≡ 65536

-- The first rows.
module _ (tree : Trees) (limits : Bounds) (room : 3 ≤ limits.objects) (blocks : HasWholeBlocks limits) (new : tree ≡ opened limits.objects) (t : Table KeptRow) (texts : ℕ) (keys : length t.values ≡ 10000) (empty : (h : ℕ) → value_at t h ≡ None) (free : t.spare ≡ limits.objects) (chunks_free : texts ≡ limits.texts) (styles : Styles) (bare : AreNew styles limits) (fonts : FontSet) (images : ImageSet) (letters : fonts ≡ no_fonts limits.fonts limits.glyphs limits.ink) (pictures : images ≡ no_images limits.images limits.pixels) where
  abbrev a : KeptRow
  a = new_kept Layer

  abbrev c : KeptRow
  c = new_kept Screen

  abbrev first_rows : Table KeptRow
  first_rows = value_inserted (value_inserted (value_inserted t 1 a) 2 a) 3 c

  abbrev first_parts : Parts
  first_parts = record { tree = tree; rows = first_rows; spare_texts = texts; styles = styles; fonts = fonts; images = images; active = 3; limits = limits }

  first-value : (h : ℕ) → value_at first_rows h ≡ cond (eqb 3 h) (Some c) (cond (eqb 2 h) (Some a) (cond (eqb 1 h) (Some a) None))
  first-value h =
      let one = length-set t.values 1 (Some a) in
      let two = length-set (slice_set t.values 1 (Some a)) 2 (Some a) in
      let third = value-set (slice_set (slice_set t.values 1 (Some a)) 2 (Some a)) 3 h (Some c) (omega (arith, keys, one, two)) in
      let second = value-set (slice_set t.values 1 (Some a)) 2 h (Some a) (omega (arith, keys, one)) in
      let first = value-set t.values 1 h (Some a) (omega (arith, keys)) in rw (third, second, first, empty h) refl

  first-book : styles.book ≡ empty_book
  first-book =
      let locals = ext_get_or [] styles.book.locals no_lists (bare.locals ∙ sym empty_in_order.local_places) (λ h less. bare.no_locals h ∙ sym (empty_bare h).locals) in
      let uses = ext_get_or [] styles.book.uses no_lists (bare.uses ∙ sym empty_in_order.use_places) (λ h less. bare.no_uses h ∙ sym (empty_bare h).uses) in
      λ i. record { styles = bare.no_styles i; locals = locals i; uses = uses i }

  first-shows : scene_in first_parts ≡ first_scene limits
  first-shows = rw (new, first-value 1, first-value 2, first-value 3, first-book, letters, pictures) refl

  first-spare : (pool : Pool) → spare (scene_in first_parts) pool ≡ spare (first_scene limits) pool
  first-spare pool = ap (λ (s : Scene). spare s pool) first-shows

  pub first-kept : AreKept first_parts × (scene_in first_parts ≡ first_scene limits)
  first-kept = (
    record {
      valid = subst (λ (s : Scene). IsValid s) (sym first-shows) (first_is_valid limits room blocks);
      handles = simp length-set keys;
      rows = λ h. rw (new, first-value h) (grind (arith, nat_tests));
      room = let e = ap (λ (x : Trees). x.spare) new in omega (arith, e, free);
      objects = ap (λ (t : Trees). t.spare) new ∙ sym (first-spare Objects);
      styles = omega (arith, first-spare StyleSlots, bare.spare_styles);
      entries = omega (arith, first-spare Entries, bare.spare_entries, no_entries);
      uses = omega (arith, first-spare Uses, bare.spare_uses, no_uses);
      texts = omega (arith, chunks_free, first-spare Texts);
      fonts = let e : fonts.spare_fonts ≡ limits.fonts = ap (λ (s : FontSet). s.spare_fonts) letters in omega (arith, e, first-spare FontSlots);
      glyphs = let e : fonts.spare_glyphs ≡ limits.glyphs = ap (λ (s : FontSet). s.spare_glyphs) letters in omega (arith, e, first-spare Glyphs);
      ink = let e : fonts.spare_ink ≡ limits.ink = ap (λ (s : FontSet). s.spare_ink) letters in omega (arith, e, first-spare Ink);
      images = let e : images.spare_images ≡ limits.images = ap (λ (s : ImageSet). s.spare_images) pictures in omega (arith, e, first-spare ImageSlots);
      pixels = let e : images.spare_pixels ≡ limits.pixels = ap (λ (s : ImageSet). s.spare_pixels) pictures in omega (arith, e, first-spare Pixels);
    },
    first-shows,
  )
