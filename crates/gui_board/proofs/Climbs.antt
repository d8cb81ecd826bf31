-- The path of an object begins at it, and goes on at its parent.
use Rattle.std.proofs.Common.{◌≡◌, ◌∙◌, refl, sym, ap, subst, ℕ, ◌+◌, Bool, true, false, eqb, eq-eqb, List, [], ◌∷◌, ◌++◌, inl, inr, ◌⊎◌}
use Rattle.std.specs.Prelude.{Option, Some, None, is_some, option_map}
use Rattle.std.specs.List.{flat_map}
use Rattle.std.specs.Option.{option_to_list}
use Rattle.std.proofs.lemmas.Bool.{cases_Bool, or_left, or_right, both_ways, false_from_ne_true, eqb-true}
use Rattle.gui_base.specs.Forest.{Forest, Empty, Tree, has_by, parent_by, parent_of, path_by}
use Rattle.gui_base.specs.declared.Handle.{Handle}
use Rattle.gui_base.proofs.Visits.{IsDistinct, distinct_once}
use Rattle.gui_base.proofs.Forests.{map-has_by, map-parent_by}
use Rattle.gui_tree.specs.Handles.{as_handle}
use Rattle.gui_tree.specs.Walks.{line_from, line_of}
use Rattle.gui_tree.proofs.Paths.{line_step}
use Rattle.scene_defs.specs.Scene.{Object, Scene, handle_of, handles_of, is_at, is_there, object_by, object_at, path_at}
use Rattle.scene_defs.specs.Valid.{IsValid}

abbrev there : Forest Object → ℕ → Bool
there f h = has_by (is_at h) f

abbrev path : Forest Object → List Object → ℕ → List Object
path f above h = path_by (is_at h) above f

abbrev above_in : Forest Object → Option Object → ℕ → Option Object
above_in f top h = parent_by (is_at h) top f

-- the object at h, if there is one
abbrev here : Forest Object → ℕ → List Object
here f h = option_to_list (object_by (is_at h) f)

self_at : (a : Object) → is_at a.handle a ≡ true
self_at a = eq-eqb a.handle a.handle refl

-- an object that is not h, where h is not among trees that have it
other : (f : Forest Object) (a : Object) (h : ℕ) → there f a.handle ≡ false → there f h ≡ true → is_at h a ≡ false
other f a h out i = false_from_ne_true _ (λ e. both_ways _ (subst (λ m. there f m ≡ false) (eqb-true a.handle h e) out) i)

-- A path begins at its object, and there is none where there is no object.

abbrev pub StartsAt : Option Object → List Object → Type 0
StartsAt None path = path ≡ []
StartsAt (Some a) path = (above : List Object) × (path ≡ a ∷ above)

starts : (f : Forest Object) (above : List Object) (h : ℕ) → StartsAt (object_by (is_at h) f) (path f above h)
starts Empty above h = refl
starts (Tree a cs rest) above h = elim (cases_Bool (is_at h a)) [
  | inl is ↦ rw is (above, refl)
  | inr isnt ↦ elim (cases_Bool (there cs h)) [
    | inl inner ↦ rw (isnt, inner) (starts cs (a ∷ above) h)
    | inr outer ↦ rw (isnt, outer) (starts rest above h)
  ]
]

pub path_starts : (scene : Scene) (h : ℕ) → StartsAt (object_at scene h) (path_at scene h)
path_starts scene h = starts scene.trees [] h

-- h is a root, or its path goes on at p
abbrev IsRoot : Forest Object → List Object → Option Object → ℕ → Type 0
IsRoot f above top h = (path f above h ≡ here f h ++ above) × (above_in f top h ≡ top)

abbrev IsBelow : Forest Object → List Object → Option Object → ℕ → Object → Type 0
IsBelow f above top h p =
    (there f p.handle ≡ true) × (above_in f top h ≡ Some p) × (path f above h ≡ here f h ++ path f above p.handle)

climbs : (f : Forest Object) (above : List Object) (top : Option Object) (h : ℕ) → IsDistinct handle_of f → there f h ≡ true →
    IsRoot f above top h ⊎ ((p : Object) × IsBelow f above top h p)
climbs Empty above top h d i = cc
climbs (Tree a cs rest) above top h d i = elim (cases_Bool (is_at h a)) [
  | inl is ↦ inl (rw is refl, rw is refl)
  | inr isnt ↦ elim (cases_Bool (there cs h)) [
    | inl inner ↦ elim (climbs cs (a ∷ above) (Some a) h d.3 inner) [
      | inl root ↦ inr (a, (rw (self_at a) refl, rw (isnt, inner) root.1, rw (isnt, inner, self_at a) root.0))
      | inr up ↦
          let apart = other cs a up.0.handle d.1 up.1.0 in
          inr (up.0, (or_right _ _ (or_left _ _ up.1.0), rw (isnt, inner) up.1.1, rw (isnt, inner, apart, up.1.0) up.1.2))
    ]
    | inr outer ↦ elim (climbs rest above top h d.4 (rw (isnt, outer) at i)) [
      | inl root ↦ inl (rw (isnt, outer) root.0, rw (isnt, outer) root.1)
      | inr up ↦
          let apart = other rest a up.0.handle d.2 up.1.0 in
          let out : there cs up.0.handle ≡ false = false_from_ne_true _ (λ e. both_ways _ (d.0 up.0.handle e) up.1.0) in
          inr (up.0, (or_right _ _ (or_right _ _ up.1.0), rw (isnt, outer) up.1.1, rw (isnt, outer, apart, out) up.1.2))
    ]
  ]
]

-- nothing stands above what is not there
gone : (f : Forest Object) (top : Option Object) (h : ℕ) → object_by (is_at h) f ≡ None → above_in f top h ≡ None
gone Empty top h e = refl
gone (Tree a cs rest) top h e = elim (cases_Bool (is_at h a)) [
  | inl is ↦ let found : Some a ≡ None = rw is at e in cc
  | inr isnt ↦ elim (cases_Bool (there cs h)) [
    | inl inner ↦ rw (isnt, inner) (gone cs (Some a) h (rw (isnt, inner) at e))
    | inr outer ↦ rw (isnt, outer) (gone rest top h (rw (isnt, outer) at e))
  ]
]

there_some : (f : Forest Object) (h : ℕ) → there f h ≡ is_some (object_by (is_at h) f)
there_some Empty h = refl
there_some (Tree a cs rest) h = elim (cases_Bool (is_at h a)) [
  | inl is ↦ rw is refl
  | inr isnt ↦ elim (cases_Bool (there cs h)) [
    | inl inner ↦ rw (isnt, inner) (sym inner ∙ there_some cs h)
    | inr outer ↦ rw (isnt, outer) (there_some rest h)
  ]
]

pub there_is : (scene : Scene) (h : ℕ) → is_there scene h ≡ is_some (object_at scene h)
there_is scene h = map-has_by handle_of (λ k. eqb k h) scene.trees ∙ there_some scene.trees h

-- what is left of a path from here on
abbrev pub path_from : Scene → Option Handle → List Object
path_from scene None = []
path_from scene (Some h) = path_at scene h.0

-- one step up from h
abbrev pub GoesUp : Scene → ℕ → Option Handle → Type 0
GoesUp scene h next = path_at scene h ≡ option_to_list (object_at scene h) ++ path_from scene next

-- the objects of these handles
abbrev pub objects_at : Scene → List ℕ → List Object
objects_at scene hs = flat_map (λ (h : ℕ). option_to_list (object_at scene h)) hs

module _ (scene : Scene) (valid : IsValid scene) where
  up_by : (h : ℕ) (o : Option Object) → object_at scene h ≡ o → GoesUp scene h (option_map (λ (a : Object). as_handle a.handle) (above_in scene.trees None h))
  up_by h None e =
      let nothing : path_at scene h ≡ [] = subst (λ o. StartsAt o (path_at scene h)) e (path_starts scene h) in
      rw (gone scene.trees None h e, e) nothing
  up_by h (Some a) e = elim (climbs scene.trees [] None h (distinct_once handle_of scene.trees valid.trees.once) (there_some scene.trees h ∙ ap is_some e)) [
    | inl root ↦ rw root.1 root.0
    | inr up ↦ rw up.1.1 up.1.2
  ]

  pub goes_up : (h : ℕ) (next : Option Handle) → next ≡ option_map as_handle (parent_of (handles_of scene.trees) h) → GoesUp scene h next
  goes_up h next e =
      let mapped : option_map (λ (a : Object). as_handle a.handle) (above_in scene.trees None h) ≡ next =
      by (above_in scene.trees None h) (map-parent_by handle_of (λ k. eqb k h) None scene.trees) in
      subst (GoesUp scene h) mapped (up_by h (object_at scene h) refl) where
        by : (o : Option Object) → option_map handle_of o ≡ parent_of (handles_of scene.trees) h → option_map (λ (a : Object). as_handle a.handle) o ≡ next
        by None up = ap (option_map as_handle) up ∙ sym e
        by (Some a) up = ap (option_map as_handle) up ∙ sym e

  -- the objects of a line are those of the path
  path_along : (hs : List ℕ) (o : Option Handle) → line_from o (handles_of scene.trees) ≡ hs → path_from scene o ≡ objects_at scene hs
  path_along [] None e = refl
  path_along [] (Some h) e = cc
  path_along (k ∷ hs) None e = cc
  path_along (k ∷ hs) (Some h) e =
      let f = handles_of scene.trees in
      let next = option_map as_handle (parent_of f h.0) in
      let line : k ∷ hs ≡ h.0 ∷ line_from next f = sym e ∙ line_step f h.0 valid.trees.once in
      let same : h.0 ≡ k = cc in
      goes_up h.0 next refl
      ∙ (ap (λ (os : List Object). option_to_list (object_at scene h.0) ++ os) (path_along hs next cc)
      ∙ ap (λ (n : ℕ). option_to_list (object_at scene n) ++ objects_at scene hs) same)

  pub path_is : (h : ℕ) → path_at scene h ≡ objects_at scene (line_of (handles_of scene.trees) h)
  path_is h = path_along (line_of (handles_of scene.trees) h) (Some (as_handle h)) refl
