-- The objects that lie in the trees of some: those from which the walk up meets one of these.
use Rattle.std.proofs.Common.{◌≡◌, ◌∙◌, refl, sym, ap, subst, ℕ, Bool, true, false, eqb, eq-eqb, ◌&&◌, ◌||◌, ◌⊎◌, List, [], ◌∷◌, inl, inr}
use Rattle.std.specs.List.{list_any}
use Rattle.std.proofs.lemmas.Bool.{cases_Bool, eqb-true, and_from, and_parts, or_cases, or_left, or_right, both_ways, false_from_ne_true, false≢true}
use Rattle.gui_base.specs.Forest.{Forest, Empty, Tree, has, path_by, path_of, tree_at}
use Rattle.gui_base.specs.declared.Handle.{Handle}
use Rattle.gui_style.specs.Styles.{is_handle, uses_style}
use Rattle.scene_defs.specs.Scene.{Scene, handles_of, is_there}
use Rattle.scene_defs.specs.Valid.{IsValid}
use Rattle.gui_boxes.specs.Marks.{most_marks}
use Rattle.gui_boxes.specs.declared.marks.Marks.{Marks}
use Rattle.gui_tree.proofs.Parts.{IsDistinct, distinct_once, other_than}
use Rattle.gui_boxes.proofs.InTrees.{tree-in, tree-there}
use Rattle.gui_concerns.specs.Concerned.{is_below, is_below_user}
use Rattle.gui_concerns.specs.Marking.{AlsoMarks, AreMarked}
use Rattle.gui_concerns.proofs.Below.{below_path, user_path}
use Rattle.gui_concerns.proofs.Marks.{flip-eqb, there-still}

-- What is marked still lies in these trees after one of theirs is marked.
pub still-one : (old new : Marks) (f : Forest ℕ) (h : ℕ) → AreMarked old f → has f h ≡ true → AlsoMarks old new (λ k. eqb h k) → most_marks new ≡ most_marks old → AreMarked new f
still-one old new f h was there also most = there-still old new f (λ k. eqb h k) was also (λ k is. subst (λ j. has f j ≡ true) (eqb-true h k is) there) most

-- two tests that are true of the same
same-truth : (a b : Bool) → (a ≡ true → b ≡ true) → (b ≡ true → a ≡ true) → a ≡ b
same-truth true b to from = sym (to refl)
same-truth false b to from = sym (false_from_ne_true b (λ is. false≢true (from is)))

-- whether k lies in the tree of an object
abbrev pub holds : Forest ℕ → ℕ → Handle → Bool
holds f k u = has (tree_at f u.0) k

-- an object that passes a test, with k in its tree
record Holder (f : Forest ℕ) (test : ℕ → Bool) (k : ℕ) : Type 0 where
  u : ℕ
  passes : test u ≡ true
  in_tree : has (tree_at f u) k ≡ true

module _ (test : ℕ → Bool) (k : ℕ) where
  abbrev path : List ℕ → Forest ℕ → List ℕ
  path above f = path_by (λ j. eqb j k) above f

  -- what stands above the trees is on the path of all in them
  path-over : (above : List ℕ) (f : Forest ℕ) → has f k ≡ true → list_any test above ≡ true → list_any test (path above f) ≡ true
  path-over above Empty there on = absurd (false≢true there)
  path-over above (Tree h cs rest) there on = elim (cases_Bool (eqb h k)) [
    | inl same ↦ rw same (or_right (test h) (list_any test above) on)
    | inr isnt ↦ elim (cases_Bool (has cs k)) [
      | inl below ↦ rw (isnt, below) (path-over (h ∷ above) cs below (or_right (test h) (list_any test above) on))
      | inr gone ↦ rw (isnt, gone) (path-over above rest (rw (isnt, gone) at there) on)
    ]
  ]

  -- what has k in its tree is on the path of k
  on-path : (u : ℕ) (above : List ℕ) (f : Forest ℕ) → IsDistinct f → test u ≡ true → has (tree_at f u) k ≡ true → list_any test (path above f) ≡ true
  on-path u above Empty distinct passes i = absurd (false≢true i)
  on-path u above (Tree h cs rest) distinct passes i = elim (cases_Bool (eqb h u)) [
    | inl same ↦
        let top : test h ≡ true = subst (λ j. test j ≡ true) (sym (eqb-true h u same)) passes in
        elim (cases_Bool (eqb h k)) [
          | inl own ↦ rw own (or_left (test h) (list_any test above) top)
          | inr isnt ↦
              let low : (has cs k || false) ≡ true = rw (same, isnt) at i in
              let cases : (has cs k ≡ true) ⊎ (false ≡ true) = or_cases (has cs k) false low in
              elim cases [
                | inl below ↦ rw (isnt, below) (path-over (h ∷ above) cs below (or_left (test h) (list_any test above) top))
                | inr e ↦ absurd (false≢true e)
              ]
        ]
    | inr other ↦ elim (cases_Bool (has cs u)) [
      | inl inner ↦
          let deep : has (tree_at cs u) k ≡ true = rw (other, inner) at i in
          let below : has cs k ≡ true = tree-in u k cs deep in
          rw (other_than h k cs distinct.1 below, below) (on-path u (h ∷ above) cs distinct.3 passes deep)
      | inr out ↦
          let late : has (tree_at rest u) k ≡ true = rw (other, out) at i in
          let after : has rest k ≡ true = tree-in u k rest late in
          let gone : has cs k ≡ false = false_from_ne_true (has cs k) (λ e. both_ways (has rest k) (distinct.0 k e) after) in
          rw (other_than h k rest distinct.2 after, gone) (on-path u above rest distinct.4 passes late)
    ]
  ]

  -- a tree below the first of a list of trees, or below those after it, is found in the list
  deeper : (h : ℕ) (cs rest : Forest ℕ) → IsDistinct (Tree h cs rest) → Holder cs test k → Holder (Tree h cs rest) test k
  deeper h cs rest distinct it =
      let inner : has cs it.u ≡ true = tree-there it.u k cs it.in_tree in
      record { u = it.u; passes = it.passes; in_tree = rw (other_than h it.u cs distinct.1 inner, inner) it.in_tree }

  later : (h : ℕ) (cs rest : Forest ℕ) → IsDistinct (Tree h cs rest) → Holder rest test k → Holder (Tree h cs rest) test k
  later h cs rest distinct it =
      let after : has rest it.u ≡ true = tree-there it.u k rest it.in_tree in
      let out : has cs it.u ≡ false = false_from_ne_true (has cs it.u) (λ e. both_ways (has rest it.u) (distinct.0 it.u e) after) in
      record { u = it.u; passes = it.passes; in_tree = rw (other_than h it.u rest distinct.2 after, out) it.in_tree }

  first : (h : ℕ) (cs rest : Forest ℕ) → test h ≡ true → has (Tree h cs Empty) k ≡ true → Holder (Tree h cs rest) test k
  first h cs rest passes i = let self : eqb h h ≡ true = eq-eqb h h refl in record { u = h; passes = passes; in_tree = rw self i }

  -- and what is on its path, and not above the trees, has k in its tree
  met-holder : (above : List ℕ) (f : Forest ℕ) → IsDistinct f → has f k ≡ true → list_any test (path above f) ≡ true → (list_any test above ≡ true) ⊎ Holder f test k
  met-holder above Empty distinct there on = absurd (false≢true there)
  met-holder above (Tree h cs rest) distinct there on = elim (cases_Bool (eqb h k)) [
    | inl same ↦
        let met : (test h ≡ true) ⊎ (list_any test above ≡ true) = or_cases (test h) (list_any test above) (rw same at on) in
        elim met [
          | inl passes ↦ inr (first h cs rest passes (or_left (eqb h k) (has cs k || false) same))
          | inr over ↦ inl over
        ]
    | inr isnt ↦ elim (cases_Bool (has cs k)) [
      | inl below ↦
          let met : (list_any test (h ∷ above) ≡ true) ⊎ Holder cs test k = met-holder (h ∷ above) cs distinct.3 below (rw (isnt, below) at on) in
          elim met [
            | inl up ↦
                let high : (test h ≡ true) ⊎ (list_any test above ≡ true) = or_cases (test h) (list_any test above) up in
                elim high [
                  | inl passes ↦ inr (first h cs rest passes (or_right (eqb h k) (has cs k || false) (or_left (has cs k) false below)))
                  | inr over ↦ inl over
                ]
            | inr it ↦ inr (deeper h cs rest distinct it)
          ]
      | inr gone ↦
          let met : (list_any test above ≡ true) ⊎ Holder rest test k = met-holder above rest distinct.4 (rw (isnt, gone) at there) (rw (isnt, gone) at on) in
          elim met [ inl over ↦ inl over | inr it ↦ inr (later h cs rest distinct it) ]
    ]
  ]

  -- k itself is first on its path
  own-path : (above : List ℕ) (f : Forest ℕ) → IsDistinct f → has f k ≡ true → test k ≡ true → list_any test (path above f) ≡ true
  own-path above Empty distinct there passes = absurd (false≢true there)
  own-path above (Tree h cs rest) distinct there passes = elim (cases_Bool (eqb h k)) [
    | inl same ↦ rw same (or_left (test h) (list_any test above) (subst (λ j. test j ≡ true) (sym (eqb-true h k same)) passes))
    | inr isnt ↦ elim (cases_Bool (has cs k)) [
      | inl below ↦ rw (isnt, below) (own-path (h ∷ above) cs distinct.3 below passes)
      | inr gone ↦ rw (isnt, gone) (own-path above rest distinct.4 (rw (isnt, gone) at there) passes)
    ]
  ]

  -- one of a list of those that pass
  module _ (f : Forest ℕ) where
    of-list : (us : List Handle) → ((h : ℕ) → list_any (is_handle h) us ≡ true → test h ≡ true) → list_any (holds f k) us ≡ true → Holder f test k
    of-list [] each some = absurd (false≢true some)
    of-list (u ∷ us) each some = elim (cases_Bool (holds f k u)) [
      | inl is ↦ record { u = u.0; passes = each u.0 (or_left (eqb u.0 u.0) (list_any (is_handle u.0) us) (eq-eqb u.0 u.0 refl)); in_tree = is }
      | inr isnt ↦ of-list us (λ h listed. each h (or_right (eqb u.0 h) (list_any (is_handle h) us) listed)) (rw isnt at some)
    ]

    in-list : (us : List Handle) (h : ℕ) → list_any (is_handle h) us ≡ true → has (tree_at f h) k ≡ true → list_any (holds f k) us ≡ true
    in-list [] h listed i = absurd (false≢true listed)
    in-list (u ∷ us) h listed i = elim (cases_Bool (eqb u.0 h)) [
      | inl same ↦ or_left (holds f k u) (list_any (holds f k) us) (subst (λ j. has (tree_at f j) k ≡ true) (sym (eqb-true u.0 h same)) i)
      | inr isnt ↦ or_right (holds f k u) (list_any (holds f k) us) (in-list us h (rw isnt at listed) i)
    ]

    -- k lies in the tree of one of them: it is there, and it passes or one above it does
    pub held : (us : List Handle) → IsDistinct f → ((h : ℕ) → list_any (is_handle h) us ≡ test h) → list_any (holds f k) us ≡ (has f k && (test k || list_any test (path_of f k)))
    held us distinct these = same-truth (list_any (holds f k) us) (has f k && (test k || list_any test (path_of f k)))
        (λ some.
        let it = of-list us (λ h listed. sym (these h) ∙ listed) some in
        and_from (has f k) (test k || list_any test (path_of f k)) (tree-in it.u k f it.in_tree) (or_right (test k) (list_any test (path_of f k)) (on-path it.u [] f distinct it.passes it.in_tree)))
        (λ both.
        let parts : (has f k ≡ true) × ((test k || list_any test (path_of f k)) ≡ true) = and_parts (has f k) (test k || list_any test (path_of f k)) both in
        let cases : (test k ≡ true) ⊎ (list_any test (path_of f k) ≡ true) = or_cases (test k) (list_any test (path_of f k)) parts.1 in
        let on : list_any test (path_of f k) ≡ true = elim cases [ inl passes ↦ own-path [] f distinct parts.0 passes | inr above ↦ above ] in
        let met : (false ≡ true) ⊎ Holder f test k = met-holder [] f distinct parts.0 on in
        elim met [
          | inl none ↦ absurd (false≢true none)
          | inr it ↦ in-list us it.u (these it.u ∙ it.passes) it.in_tree
        ])

module _ (scene : Scene) (valid : IsValid scene) (k : ℕ) where
  abbrev trees : Forest ℕ
  trees = handles_of scene.trees

  -- what lies in the tree of an object, and what is below it
  pub in-tree : (h : Handle) → has (tree_at trees h.0) k ≡ (is_there scene k && is_below scene h.0 k)
  in-tree h =
      alone (has (tree_at trees h.0) k)
      ∙ (held (λ j. eqb j h.0) k trees (h ∷ []) (distinct_once trees valid.trees.once) (λ j. sym (alone (eqb h.0 j)) ∙ flip-eqb h.0 j)
      ∙ ap (λ (b : Bool). is_there scene k && b) (below_path scene h.0 k))
    where
      alone : (b : Bool) → b ≡ (b || false)
      alone true = refl
      alone false = refl

  -- what lies in the tree of one of the users of a style, and what is below a user
  pub in-users : (us : List Handle) (style : ℕ) → ((h : ℕ) → list_any (is_handle h) us ≡ uses_style scene.book h style) → list_any (holds trees k) us ≡ (is_there scene k && is_below_user scene style k)
  in-users us style these =
      held (λ j. uses_style scene.book j style) k trees us (distinct_once trees valid.trees.once) these
      ∙ ap (λ (b : Bool). is_there scene k && b) (user_path scene style k)
