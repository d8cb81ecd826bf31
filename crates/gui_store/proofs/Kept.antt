-- What the parts of a store answer, and that a change keeps them in order.
use Rattle.gui_store.proofs.Common.{◌≡◌, ◌<◌, ◌∙◌, sym, ap, subst, ℕ, ◌+◌, true, false, length, Option, unwrap_or, Some, None, is_some, option_map, Ok, Err, List, refl, arith, OnOk, OnErr, IsErrAnd, err_from_is_err_and, POOLS, HANDLE, Objects, StyleSlots, Entries, Uses, FontSlots, Glyphs, Ink, ImageSlots, Pixels, AreAssetSlots, Refusal, Full, Forest, has, count, Test, first_of, result_of, value_at, Trees, Answer, Change, is_in_range, Scene, is_there, handles_of, object_at, row_at, spare, answer_in_range, answer_of, scene_after, scene_by, tests, first_short, need_of, freed_by, IsValid, IsChange, IsRow, in_order, one_at, added_sum, removed_sum, after_leaves, after_valid, slots_add_up, Row, KeptRow, RowSet, Texts, new_kept, kept_in, row_of, row_shown, Styles, AreSlots, Parts, scene_in, AreKept, removed_after, row_in, object_in, StandsOnce}
use Rattle.std.proofs.lemmas.Bool.{and_parts}
use Rattle.gui_base.specs.declared.limits.Pool.{Pool}
use Rattle.gui_base.specs.Intervals.{is_counted}
use Rattle.gui_base.specs.declared.words.Kind.TheVariants.{Obj}
use Rattle.scene_defs.specs.Texts.{is_text}
use Rattle.gui_store.specs.Changed.{IsChanged}
use Rattle.gui_store.proofs.Rows.{row_count, within_of, told-count, count-told}
use Rattle.gui_store.proofs.Shown.{shown-handles, shown-object, shown-all}

-- What is found of h.
module _ (p : Parts) where
  pub forest-is : handles_of (scene_in p).trees ≡ p.tree.forest
  forest-is = shown-handles p.rows p.tree.forest

  pub there-is : (h : ℕ) → is_there (scene_in p) h ≡ has p.tree.forest h
  there-is h = ap (λ (f : Forest ℕ). has f h) forest-is

  pub object-is : (h : ℕ) → has p.tree.forest h ≡ true → object_at (scene_in p) h ≡ Some (object_in p.rows h)
  object-is h on = shown-object p.rows p.tree.forest h ∙ rw on refl

-- a row is told where there is one
some-row : (o : Option KeptRow) → is_some (option_map row_of o) ≡ is_some o
some-row None = refl
some-row (Some kept) = refl

module _ (p : Parts) (k : AreKept p) where
  pub once : StandsOnce p.tree.forest
  once = subst StandsOnce (forest-is p) k.valid.trees.once

  object_fits : (h : ℕ) → has p.tree.forest h ≡ true → in_order p.images.images (object_in p.rows h) ≡ true
  object_fits h on = shown-all p.rows (in_order p.images.images) p.tree.forest h k.valid.rows.numbers on

  pub named : (h : ℕ) → has p.tree.forest h ≡ true → is_counted HANDLE h ≡ true
  named h on = (and_parts _ _ (object_fits h on)).0

  pub in_range : (h : ℕ) → has p.tree.forest h ≡ true → IsRow (row_in p.rows h)
  in_range h on = (and_parts _ _ (and_parts _ _ (object_fits h on)).1).0

  pub text_fits : (h : ℕ) → has p.tree.forest h ≡ true → is_text (kept_in p.rows h).text ≡ true
  text_fits h on = (and_parts _ _ (and_parts _ _ (and_parts _ _ (object_fits h on)).1).1).0

  pub within : (h : ℕ) → has p.tree.forest h ≡ true → h < length p.rows.values
  within h on = within_of p.rows h (k.rows h ∙ on)

  -- what a read gives
  pub read-on : (h : ℕ) (row : Row) → Some row ≡ row_shown p.rows h → has p.tree.forest h ≡ true
  read-on h row e = sym (k.rows h) ∙ (sym (some-row (value_at p.rows h)) ∙ ap is_some (sym e))

  pub read-off : (h : ℕ) → None ≡ row_shown p.rows h → has p.tree.forest h ≡ false
  read-off h e = sym (k.rows h) ∙ (sym (some-row (value_at p.rows h)) ∙ ap is_some (sym e))

  pub read-at : (h : ℕ) (row : Row) → Some row ≡ row_shown p.rows h → row ≡ row_in p.rows h
  read-at h row e = by (value_at p.rows h) e where
    by : (o : Option KeptRow) → Some row ≡ option_map row_of o → row ≡ (unwrap_or o (new_kept Obj)).row
    by None f = cc
    by (Some kept) f = cc

  pub read-row : (h : ℕ) (o : Option Row) → o ≡ row_shown p.rows h → o ≡ row_at (scene_in p) h
  read-row h o e = e ∙ by (value_at p.rows h) refl where
    by : (v : Option KeptRow) → value_at p.rows h ≡ v → option_map row_of v ≡ row_at (scene_in p) h
    by None is = let off = sym (k.rows h) ∙ ap is_some is in sym (rw (shown-object p.rows p.tree.forest h, off) refl)
    by (Some kept) is = let on = sym (k.rows h) ∙ ap is_some is in sym (rw (shown-object p.rows p.tree.forest h, on, is) refl)

  -- a row where the forest has its handle
  pub vacant : (h : ℕ) → has p.tree.forest h ≡ false → value_at p.rows h ≡ None
  vacant h off = grind (arith, off, k.rows h)

  pub counted : (h : ℕ) → row_count p.rows h ≡ count p.tree.forest h
  counted h = let once = ap (λ (f : Forest ℕ). count f h) (forest-is p) in told-count p.tree.forest h (value_at p.rows h) (omega (arith, once, k.valid.trees.once h)) (k.rows h)

  -- an edit of the tree answers what the tree does
  pub tree-answer : (change : Change) (ts : Forest ℕ → List Test) (later : Option Refusal) → tests (scene_in p) change ≡ ts (handles_of (scene_in p).trees) →
      option_map Full (first_short (scene_in p) change POOLS) ≡ later → result_of (answer_in_range (scene_in p) change) ≡ result_of (first_of (ts p.tree.forest) later)
  tree-answer change ts later e short = rw (e, forest-is p, short) refl

pub err-some : (o : Option Refusal) (x : Refusal) → result_of o ≡ Err x → o ≡ Some x
err-some o x e = grind (arith, e)

-- what is done has no refusal
pub ok-none : (o : Option Refusal) (u : Unit {0}) → result_of o ≡ Ok u → o ≡ None
ok-none o u e = grind (arith, e)

-- what has to be shown of a change that is done
pub record Fine (p : Parts) (change : Change) (q : Parts) : Type 0 where
  pub shows : scene_in q ≡ scene_after (scene_in p) change
  pub handles : length q.rows.values ≡ HANDLE.high + 1
  pub rows : (h : ℕ) → row_count q.rows h + removed_sum (scene_in p) change (one_at h) ≡ added_sum (scene_in p) change (one_at h) + row_count p.rows h
  pub room : q.rows.spare ≡ q.tree.spare
  pub objects : q.tree.spare + need_of (scene_in p) change Objects ≡ p.tree.spare + freed_by (scene_in p) change Objects
  pub texts : q.spare_texts + need_of (scene_in p) change Texts ≡ p.spare_texts + freed_by (scene_in p) change Texts
  pub styles : AreSlots p.styles q.styles (need_of (scene_in p) change) (freed_by (scene_in p) change)
  pub assets : AreAssetSlots p.fonts q.fonts p.images q.images (need_of (scene_in p) change) (freed_by (scene_in p) change)
  pub removed : q.tree.removed ≡ removed_after p.tree.removed (scene_in p) change

-- the parts are in order after a change, or as they were where it is refused
pub record Left (p : Parts) (change : Change) (q : Parts) (r : Answer) : Type 0 where
  pub kept : AreKept q
  pub is : IsChanged p q change r

module _ (p : Parts) (k : AreKept p) (change : Change) where
  pub refused : (x : Refusal) → answer_in_range (scene_in p) change ≡ Some x → IsChanged p p change (Err x)
  refused x e = record { answer_is = rw e refl; scene = rw e refl; removed = rw e refl }

  -- a call of the tree that answers a refusal, which is handed on
  pub failed : (t : Trees) (x : Refusal) (r s : Answer) → result_of (answer_in_range (scene_in p) change) ≡ r → r ≡ Err x → OnErr r (t ≡ p.tree) →
      IsErrAnd s (λ y. y ≡ x) → IsChanged p (record p { tree = t }) change s
  failed t x r s a e err handed =
      let is : t ≡ p.tree = rw e at err in
      let h = err_from_is_err_and s handed in rw (is, h.1, h.2) (refused x (err-some (answer_in_range (scene_in p) change) x (a ∙ e)))

  module _ (fits : is_in_range change ≡ true) (c : IsChange change) where
    pub done : (q : Parts) → answer_in_range (scene_in p) change ≡ None → Fine p change q → Left p change q (Ok tt)
    done q e fine =
        let s = scene_in p in
        let l = after_leaves s change fits c e k.valid in
        let valid = subst (λ (s : Scene). IsValid s) (sym fine.shows) (after_valid s change fits c e k.valid) in
        let rows = λ (h : ℕ).
        let a = ap (λ (f : Forest ℕ). count f h) (forest-is p) in
        let b = ap (λ (f : Forest ℕ). count f h) (forest-is q) in
        let c = ap (λ (s : Scene). count (handles_of s.trees) h) fine.shows in
        count-told q.tree.forest h (value_at q.rows h) (omega (arith, a, b, c, l.handles h, fine.rows h, counted p k h)) in
        let done : answer_of s change ≡ None = rw fits e in
        let slots = λ (pool : Pool).
        ap (λ (t : Scene). spare t pool + need_of s change pool) fine.shows ∙ ap (λ (o : Option Refusal). spare (scene_by o s change) pool + need_of s change pool) (sym done)
        ∙ slots_add_up s change pool k.valid c done in
        record {
          kept = record {
            valid = valid;
            handles = fine.handles;
            rows = rows;
            room = fine.room;
            objects = omega (arith, slots Objects, fine.objects, k.objects);
            styles = omega (arith, slots StyleSlots, fine.styles.styles, k.styles);
            entries = omega (arith, slots Entries, fine.styles.entries, k.entries);
            uses = omega (arith, slots Uses, fine.styles.uses, k.uses);
            texts = omega (arith, slots Texts, fine.texts, k.texts);
            fonts = omega (arith, slots FontSlots, fine.assets.fonts_left, k.fonts);
            glyphs = omega (arith, slots Glyphs, fine.assets.glyphs_left, k.glyphs);
            ink = omega (arith, slots Ink, fine.assets.ink_left, k.ink);
            images = omega (arith, slots ImageSlots, fine.assets.images_left, k.images);
            pixels = omega (arith, slots Pixels, fine.assets.pixels_left, k.pixels);
          };
          is = record { answer_is = rw e refl; scene = rw e fine.shows; removed = rw e fine.removed };
        }

    -- a call that answers as the change does
    pub answered : (q : Parts) (r : Answer) → result_of (answer_in_range (scene_in p) change) ≡ r → OnOk r (answer_in_range (scene_in p) change ≡ None → Fine p change q) → OnErr r (q ≡ p) → Left p change q r
    answered q (Ok v) a ok err = let none = ok-none (answer_in_range (scene_in p) change) v a in done q none (ok none)
    answered q (Err x) a ok err = rw err (record { kept = k; is = refused x (err-some (answer_in_range (scene_in p) change) x a) })

    -- a call of the tree that is done, and rows that are written then
    pub grown : (t u : Trees) (r : Answer) (rows new : RowSet) (styles after : Styles) (v : Unit {0}) → result_of (answer_in_range (scene_in p) change) ≡ r →
        r ≡ Ok v → OnOk r (t ≡ u) → new ≡ rows → after ≡ styles →
        (answer_in_range (scene_in p) change ≡ None → Fine p change (record p { tree = u; rows = rows.rows; spare_texts = rows.spare_texts; styles = styles })) →
        Left p change (record p { tree = t; rows = new.rows; spare_texts = new.spare_texts; styles = after }) (Ok tt)
    grown t u r rows new styles after v a e ok written styled fine =
        let is : t ≡ u = rw e at ok in
        let none = ok-none (answer_in_range (scene_in p) change) v (a ∙ e) in rw (is, written, styled) (done _ none (fine none))
