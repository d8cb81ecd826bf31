-- What is seen of an object, from what is seen of its parent.
use Rattle.std.proofs.Common.{◌≡◌, ◌∙◌, refl, sym, ap, subst, ℕ, Bool, true, false, eqb, eq-eqb, ◌||◌, List, [], ◌∷◌, length, ◌<◌, inl, inr, arith}
use Rattle.std.specs.Prelude.{Option, Some, None, is_some, option_map, if◌then◌else◌, ◌==◌}
use Rattle.std.proofs.lemmas.Bool.{cases_Bool, or_left, or_right, or_parts, or_from, both_ways, false_from_ne_true, false≢true, eqb-true}
use Rattle.gui_base.specs.declared.words.Flag.TheVariants.{Hidden}
use Rattle.gui_base.specs.Area.{Rect}
use Rattle.gui_base.specs.Forest.{Forest, Empty, Tree, has_by, and_then, parent_by, parent_of, path_of}
use Rattle.gui_base.proofs.Visits.{IsDistinct, distinct_once}
use Rattle.gui_base.proofs.Forests.{map-parent_by}
use Rattle.gui_base.specs.declared.Handle.{Handle}
use Rattle.gui_tree.specs.Handles.{as_handle}
use Rattle.gui_tree.proofs.Paths.{goes_up, path_from}
use Rattle.scene_defs.specs.declared.Row.{Row}
use Rattle.scene_defs.specs.Place.{panel_of, place}
use Rattle.scene_defs.specs.Valid.{IsValid}
use Rattle.gui_layout.specs.Scenes.{shown_panel}
use Rattle.gui_layout.proofs.SceneBoxes.{named, found_there, object_some, row_found}
use Rattle.scene_defs.specs.Row.{is_on}
use Rattle.scene_defs.specs.Scene.{Object, Scene, handle_of, handles_of, row_of, is_at, object_by, object_at, row_at}
use Rattle.scene_defs.specs.Visible.{seen_of, met, visible_in, visible, root_tree}

abbrev there : Forest Object → ℕ → Bool
there f h = has_by (is_at h) f

self_at : (a : Object) → is_at a.handle a ≡ true
self_at a = eq-eqb a.handle a.handle refl

-- an object that is not h, where h is not among trees that have it
other : (f : Forest Object) (a : Object) (h : ℕ) → there f a.handle ≡ false → there f h ≡ true → is_at h a ≡ false
other f a h out i = false_from_ne_true _ (λ e. both_ways _ (subst (λ m. there f m ≡ false) (eqb-true a.handle h e) out) i)

-- The trees of some roots.
abbrev trees_of : List ℕ → Forest Object → Forest Object
trees_of [] f = Empty
trees_of (r ∷ rs) f = and_then (root_tree f r) (trees_of rs f)

abbrev among : List ℕ → ℕ → Bool
among [] k = false
among (r ∷ rs) k = (k == r) || among rs k

root_out : (f : Forest Object) (r h : ℕ) → there f h ≡ false → there (root_tree f r) h ≡ false
root_out Empty r h out = refl
root_out (Tree a cs rest) r h out =
    let here : (is_at h a ≡ false) × ((there cs h || there rest h) ≡ false) = or_parts _ _ out in
    let below : (there cs h ≡ false) × (there rest h ≡ false) = or_parts _ _ here.1 in
    elim (cases_Bool (is_at r a)) [
      | inl is ↦ rw is (or_from _ _ here.0 (or_from _ _ below.0 refl))
      | inr isnt ↦ rw isnt (root_out rest r h below.1)
    ]

root_none : (f : Forest Object) (r : ℕ) → there f r ≡ false → root_tree f r ≡ Empty
root_none Empty r out = refl
root_none (Tree a cs rest) r out =
    let here : (is_at r a ≡ false) × ((there cs r || there rest r) ≡ false) = or_parts _ _ out in
    let below : (there cs r ≡ false) × (there rest r ≡ false) = or_parts _ _ here.1 in
    rw here.0 (root_none rest r below.1)

module _ (place : ℕ → Option Rect) where
  -- what is seen of h, where each root has its own clip
  abbrev pub seen_by : (Object → Option Rect) → Forest Object → ℕ → Option Rect
  seen_by clip Empty h = None
  seen_by clip (Tree a cs rest) h =
      if is_at h a then seen_of place (clip a) a
      else (if has_by (is_at h) cs then visible_in place (seen_of place (clip a) a) cs h else seen_by clip rest h)

  seen_same : (clip : Option Rect) (f : Forest Object) (h : ℕ) → seen_by (λ _. clip) f h ≡ visible_in place clip f h
  seen_same clip Empty h = refl
  seen_same clip (Tree a cs rest) h = rw (seen_same clip rest h) refl

  hidden_none : (b : Bool) (none : Option Rect) → (if b then none else none) ≡ none
  hidden_none true none = refl
  hidden_none false none = refl

  seen_none : (a : Object) → seen_of place None a ≡ None
  seen_none a = hidden_none (is_on a.row.flags Hidden) None

  -- nothing is seen through no clip, and nothing of what is not there
  visible_none : (f : Forest Object) (h : ℕ) → visible_in place None f h ≡ None
  visible_none Empty h = refl
  visible_none (Tree a cs rest) h =
      elim (cases_Bool (is_at h a)) [
        | inl is ↦ rw is (seen_none a)
        | inr isnt ↦ elim (cases_Bool (there cs h)) [
          | inl inner ↦ rw (isnt, inner) (ap (λ clip. visible_in place clip cs h) (seen_none a) ∙ visible_none cs h)
          | inr outer ↦ rw (isnt, outer) (visible_none rest h)
        ]
      ]

  pub absent : (clip : Object → Option Rect) (f : Forest Object) (h : ℕ) → there f h ≡ false → seen_by clip f h ≡ None
  absent clip Empty h out = refl
  absent clip (Tree a cs rest) h out =
      let here : (is_at h a ≡ false) × ((there cs h || there rest h) ≡ false) = or_parts _ _ out in
      let below : (there cs h ≡ false) × (there rest h ≡ false) = or_parts _ _ here.1 in
      rw (here.0, below.0) (absent clip rest h below.1)

  -- trees that do not have h are passed over
  passed : (clip : Option Rect) (f g : Forest Object) (h : ℕ) → there f h ≡ false → visible_in place clip (and_then f g) h ≡ visible_in place clip g h
  passed clip Empty g h out = refl
  passed clip (Tree a cs rest) g h out =
      let here : (is_at h a ≡ false) × ((there cs h || there rest h) ≡ false) = or_parts _ _ out in
      let below : (there cs h ≡ false) × (there rest h ≡ false) = or_parts _ _ here.1 in
      rw (here.0, below.0) (passed clip rest g h below.1)

  later_same : (clip : Option Rect) (f g g' : Forest Object) (h : ℕ) → visible_in place clip g h ≡ visible_in place clip g' h → visible_in place clip (and_then f g) h ≡ visible_in place clip (and_then f g') h
  later_same clip Empty g g' h same = same
  later_same clip (Tree a cs rest) g g' h same = rw (later_same clip rest g g' h same) refl

  none_of : (clip : Option Rect) (f : Forest Object) (h : ℕ) → there f h ≡ false → (rs : List ℕ) → visible_in place clip (trees_of rs f) h ≡ None
  none_of clip f h out [] = refl
  none_of clip f h out (r ∷ rs) = passed clip (root_tree f r) (trees_of rs f) h (root_out f r h out) ∙ none_of clip f h out rs

  module _ (clip : Option Rect) (a : Object) (cs rest : Forest Object) (h : ℕ) (distinct : IsDistinct handle_of (Tree a cs rest)) where
    -- h in the first tree
    first_tree : there rest h ≡ false → (is_at h a || there cs h) ≡ true → (rs : List ℕ) →
        visible_in place clip (trees_of rs (Tree a cs rest)) h ≡ visible_in place (if among rs a.handle then clip else None) (Tree a cs Empty) h
    first_tree out i [] = sym (visible_none (Tree a cs Empty) h)
    first_tree out i (r ∷ rs) =
        elim (cases_Bool (is_at r a)) [
          | inl is ↦ rw is (shown_first (trees_of rs (Tree a cs rest)))
          | inr isnt ↦ rw isnt (passed clip (root_tree rest r) (trees_of rs (Tree a cs rest)) h (root_out rest r h out) ∙ first_tree out i rs)
        ]
      where
        shown_first : (g : Forest Object) → visible_in place clip (Tree a cs g) h ≡ visible_in place clip (Tree a cs Empty) h
        shown_first g = elim (cases_Bool (is_at h a)) [
          | inl is ↦ rw is refl
          | inr isnt ↦ let inner : there cs h ≡ true = rw isnt at i in rw (isnt, inner) refl
        ]

    -- h in the others
    other_trees : (is_at h a || there cs h) ≡ false → (rs : List ℕ) → visible_in place clip (trees_of rs (Tree a cs rest)) h ≡ visible_in place clip (trees_of rs rest) h
    other_trees out [] = refl
    other_trees out (r ∷ rs) =
        let parts : (is_at h a ≡ false) × (there cs h ≡ false) = or_parts _ _ out in
        elim (cases_Bool (is_at r a)) [
          | inl is ↦
              let gone : there rest r ≡ false = subst (λ m. there rest m ≡ false) (eqb-true a.handle r is) distinct.2 in
              rw (is, root_none rest r gone, parts.0, parts.1) (other_trees out rs)
          | inr isnt ↦ rw isnt (later_same clip (root_tree rest r) (trees_of rs (Tree a cs rest)) (trees_of rs rest) h (other_trees out rs))
        ]

  -- the trees of these roots show what all trees show where the other roots have no clip
  pub shown_by : (clip : Option Rect) (rs : List ℕ) (f : Forest Object) (h : ℕ) → IsDistinct handle_of f →
      visible_in place clip (trees_of rs f) h ≡ seen_by (λ a. if among rs a.handle then clip else None) f h
  shown_by clip rs Empty h distinct = none_of clip Empty h refl rs
  shown_by clip rs (Tree a cs rest) h distinct =
      elim (cases_Bool (is_at h a)) [
        | inl is ↦
            let gone : there rest h ≡ false = subst (λ m. there rest m ≡ false) (eqb-true a.handle h is) distinct.2 in
            first_tree clip a cs rest h distinct gone (or_left _ _ is) rs ∙ rw is refl
        | inr isnt ↦ elim (cases_Bool (there cs h)) [
          | inl inner ↦ first_tree clip a cs rest h distinct (distinct.0 h inner) (or_right _ _ inner) rs ∙ rw (isnt, inner) refl
          | inr outer ↦ other_trees clip a cs rest h distinct (or_from _ _ isnt outer) rs ∙ (shown_by clip rs rest h distinct.4 ∙ rw (isnt, outer) refl)
        ]
      ]

  -- A parent, where trees stand below another object.
  pub data Parented (f : Forest Object) (h : ℕ) (a : Object) : Type 0 where
    by_above : parent_by (is_at h) None f ≡ None → parent_by (is_at h) (Some a) f ≡ Some a → Parented f h a
    by_own : (q : Object) → parent_by (is_at h) None f ≡ Some q → parent_by (is_at h) (Some a) f ≡ Some q → there f q.handle ≡ true → Parented f h a

  parented : (f : Forest Object) (h : ℕ) (a : Object) → there f h ≡ true → Parented f h a
  parented Empty h a i = absurd (false≢true i)
  parented (Tree b ds es) h a i =
      elim (cases_Bool (is_at h b)) [
        | inl is ↦ by_above (rw is refl) (rw is refl)
        | inr isnt ↦ elim (cases_Bool (there ds h)) [
          | inl inner ↦ elim (parented ds h b inner) [
            | by_above none own ↦ by_own b (rw (isnt, inner) own) (rw (isnt, inner) own) (or_left _ _ (self_at b))
            | by_own q none own in_ds ↦ by_own q (rw (isnt, inner) own) (rw (isnt, inner) own) (or_right _ _ (or_left _ _ in_ds))
          ]
          | inr outer ↦
              let later : there es h ≡ true = rw (isnt, outer) at i in
              elim (parented es h a later) [
                | by_above none own ↦ by_above (rw (isnt, outer) none) (rw (isnt, outer) own)
                | by_own q none own in_es ↦ by_own q (rw (isnt, outer) none) (rw (isnt, outer) own) (or_right _ _ (or_right _ _ in_es))
              ]
        ]
      ]

  -- the clip of an object: its root's own, or what is seen of its parent
  abbrev pub clip_from : (Object → Option Rect) → Forest Object → Object → Option Object → Option Rect
  clip_from clip f o None = clip o
  clip_from clip f o (Some q) = seen_by clip f q.handle

  pub seen_below : (clip : Object → Option Rect) (f : Forest Object) (h : ℕ) (o : Object) → IsDistinct handle_of f → there f h ≡ true → object_by (is_at h) f ≡ Some o →
      seen_by clip f h ≡ seen_of place (clip_from clip f o (parent_by (is_at h) None f)) o
  seen_below clip Empty h o distinct i e = absurd (false≢true i)
  seen_below clip (Tree a cs rest) h o distinct i e =
      elim (cases_Bool (is_at h a)) [
        | inl is ↦
            let found : Some a ≡ Some o = rw is at e in
            let same : a ≡ o = cc in
            rw is (ap (λ (b : Object). seen_of place (clip b) b) same)
        | inr isnt ↦ elim (cases_Bool (there cs h)) [
          | inl inner ↦
              let inside = seen_of place (clip a) a in
              let below = seen_below (λ _. inside) cs h o distinct.3 inner (rw (isnt, inner) at e) in
              rw (isnt, inner) (sym (seen_same inside cs h) ∙ (below ∙ elim (parented cs h a inner) [
                | by_above none own ↦ rw (none, own, self_at a) refl
                | by_own q none own in_cs ↦ rw (none, own, other cs a q.handle distinct.1 in_cs, in_cs) (ap (λ v. seen_of place v o) (seen_same inside cs q.handle))
              ]))
          | inr outer ↦
              let later : there rest h ≡ true = rw (isnt, outer) at i in
              let beside = seen_below clip rest h o distinct.4 later (rw (isnt, outer) at e) in
              rw (isnt, outer) (beside ∙ elim (parented rest h a later) [
                | by_above none own ↦ rw none refl
                | by_own q none own in_rest ↦ rw (none, other rest a q.handle distinct.2 in_rest, false_from_ne_true (there cs q.handle) (λ j. both_ways _ (distinct.0 q.handle j) in_rest)) refl
              ])
        ]
      ]

  seen_ext : (clip clip' : Object → Option Rect) → ((a : Object) → clip a ≡ clip' a) → (f : Forest Object) (h : ℕ) → seen_by clip f h ≡ seen_by clip' f h
  seen_ext clip clip' same Empty h = refl
  seen_ext clip clip' same (Tree a cs rest) h = rw (same a, seen_ext clip clip' same rest h) refl

then_none : (f : Forest Object) → and_then f Empty ≡ f
then_none Empty = refl
then_none (Tree a cs rest) = rw (then_none rest) refl

or_false : (b : Bool) → (b || false) ≡ b
or_false true = refl
or_false false = refl

module _ (scene : Scene) (valid : IsValid scene) where
  distinct : IsDistinct handle_of scene.trees
  distinct = distinct_once handle_of scene.trees valid.trees.once

  visible_is : (h : ℕ) → visible scene h ≡ seen_by (place scene) (λ a. shown_panel scene a.handle) scene.trees h
  visible_is h =
      let clip : Option Rect = Some (panel_of scene) in
      ap (λ (f : Forest Object). visible_in (place scene) clip (and_then (root_tree scene.trees scene.active) (and_then (root_tree scene.trees 1) f)) h) (sym (then_none (root_tree scene.trees 2)))
      ∙ (shown_by (place scene) clip (scene.active ∷ 1 ∷ 2 ∷ []) scene.trees h distinct
      ∙ seen_ext (place scene) (λ a. if among (scene.active ∷ 1 ∷ 2 ∷ []) a.handle then clip else None) (λ a. shown_panel scene a.handle)
      (λ a. ap (λ b. if a.handle == scene.active || (a.handle == 1 || b) then clip else None) (or_false (a.handle == 2))) scene.trees h)

  -- the clip of an object with this parent
  abbrev pub clip_up : ℕ → Option Handle → Option Rect
  clip_up h None = shown_panel scene h
  clip_up h (Some p) = visible scene p.0

  clip_is : (h : ℕ) (o : Object) (q : Option Object) → o.handle ≡ h → clip_from (place scene) (λ a. shown_panel scene a.handle) scene.trees o q ≡ clip_up h (option_map as_handle (option_map handle_of q))
  clip_is h o None e = ap (shown_panel scene) e
  clip_is h o (Some q) e = sym (visible_is q.handle)

  seen_told : (h : ℕ) (row : Row) (up : Option Handle) (o : Option Object) → object_at scene h ≡ o → Some row ≡ option_map row_of o → up ≡ option_map as_handle (parent_of (handles_of scene.trees) h) →
      visible scene h ≡ (if is_on row.flags Hidden then None else met (clip_up h up) (place scene h))
  seen_told h row up None is e above = cc
  seen_told h row up (Some o) is e above =
      let handle = named scene.trees h o is in
      let same : o.row ≡ row = cc in
      let parent : parent_of (handles_of scene.trees) h ≡ option_map handle_of (parent_by (is_at h) None scene.trees) = sym (map-parent_by handle_of (λ k. eqb k h) None scene.trees) in
      let clip : clip_from (place scene) (λ a. shown_panel scene a.handle) scene.trees o (parent_by (is_at h) None scene.trees) ≡ clip_up h up =
      clip_is h o (parent_by (is_at h) None scene.trees) handle ∙ ap (clip_up h) (ap (option_map as_handle) (sym parent) ∙ sym above) in
      visible_is h
      ∙ (seen_below (place scene) (λ a. shown_panel scene a.handle) scene.trees h o distinct (found_there scene.trees h o is) is
      ∙ (ap (λ v. seen_of (place scene) v o) clip
      ∙ (ap (λ k. if is_on o.row.flags Hidden then None else met (clip_up h up) (place scene k)) handle
      ∙ ap (λ (r : Row). if is_on r.flags Hidden then None else met (clip_up h up) (place scene h)) same)))

  pub seen_is : (h : ℕ) (row : Row) (up : Option Handle) → Some row ≡ row_at scene h → up ≡ option_map as_handle (parent_of (handles_of scene.trees) h) →
      visible scene h ≡ (if is_on row.flags Hidden then None else met (clip_up h up) (place scene h))
  seen_is h row up e above = seen_told h row up (object_at scene h) refl e above

  pub hidden_is : (h : ℕ) (row : Row) → Some row ≡ row_at scene h → is_on row.flags Hidden ≡ true → visible scene h ≡ None
  hidden_is h row e on = seen_is h row (option_map as_handle (parent_of (handles_of scene.trees) h)) e refl ∙ rw on refl

  pub open_is : (h : ℕ) (row : Row) (t : Forest ℕ) (up : Option Handle) → Some row ≡ row_at scene h → is_on row.flags Hidden ≡ false → t ≡ handles_of scene.trees →
      up ≡ option_map as_handle (parent_of t h) → visible scene h ≡ met (clip_up h up) (place scene h)
  open_is h row t up e off same above = seen_is h row up e (above ∙ ap (λ (f : Forest ℕ). option_map as_handle (parent_of f h)) same) ∙ rw off refl

  -- nothing is seen of what is not there
  gone_told : (h : ℕ) (o : Option Object) → object_at scene h ≡ o → None ≡ option_map row_of o → there scene.trees h ≡ false
  gone_told h None is e = false_from_ne_true _ (λ i. absurd (false≢true (sym (ap is_some is) ∙ object_some scene.trees h i)))
  gone_told h (Some o) is e = cc

  pub gone_is : (h : ℕ) → None ≡ row_at scene h → visible scene h ≡ None
  gone_is h e = visible_is h ∙ absent (place scene) (λ a. shown_panel scene a.handle) scene.trees h (gone_told h (object_at scene h) refl e)

  -- a parent lies higher
  pub higher : (h p : Handle) (row : Row) (t : Forest ℕ) → Some row ≡ row_at scene h.0 → t ≡ handles_of scene.trees → Some p ≡ option_map as_handle (parent_of t h.0) →
      length (path_of (handles_of scene.trees) p.0) < length (path_of (handles_of scene.trees) h.0)
  higher h p row t e same up_is =
      let above : Some p ≡ option_map as_handle (parent_of (handles_of scene.trees) h.0) = up_is ∙ ap (λ (f : Forest ℕ). option_map as_handle (parent_of f h.0)) same in
      let is_there = (row_found scene h.0 row e).0 in
      let up = goes_up (handles_of scene.trees) h.0 valid.trees.once is_there in
      let path : path_of (handles_of scene.trees) h.0 ≡ h.0 ∷ path_of (handles_of scene.trees) p.0 = up.path ∙ ap (λ (o : Option Handle). h.0 ∷ path_from o (handles_of scene.trees)) (sym above) in
      omega (arith, ap (λ (hs : List ℕ). length hs) path)
