-- The path of an event goes on at the parent of an object that bubbles.
use Rattle.std.proofs.Common.{◌≡◌, ◌∙◌, sym, ap, subst, refl, ℕ, ◌+◌, ◌<◌, ◌≤◌, Bool, true, false, inl, inr, List, [], ◌∷◌, ◌++◌, length, Option, Some, None, option_map, append_assoc, length-append, arith}
use Rattle.std.specs.Option.{option_to_list}
use Rattle.std.specs.Prelude.{if◌then◌else◌}
use Rattle.std.proofs.lemmas.Bool.{cases_Bool}
use Rattle.std.proofs.lemmas.List.{append-nil, map-append}
use Rattle.gui_base.specs.Forest.{Forest, Empty, Tree, height, parent_of, path_by}
use Rattle.gui_base.specs.declared.Handle.{Handle}
use Rattle.gui_base.specs.declared.intervals.TheConstants.{MAX_DEPTH}
use Rattle.gui_base.specs.declared.words.Flag.TheVariants.{Bubble}
use Rattle.gui_layout.proofs.SceneBoxes.{named}
use Rattle.gui_tree.specs.Handles.{as_handle}
use Rattle.run_defs.specs.Events.{bubbling, path as path_of}
use Rattle.run_defs.specs.Making.{handles}
use Rattle.scene_defs.specs.declared.Row.{Row}
use Rattle.scene_defs.specs.Row.{is_on}
use Rattle.scene_defs.specs.Scene.{Object, Scene, handles_of, row_of, is_at, object_at, row_at, path_at}
use Rattle.scene_defs.specs.Valid.{IsValid}
use Rattle.gui_board.proofs.Climbs.{StartsAt, path_starts, path_from, goes_up}

-- an object of this row, and the way up from its parent
record StepsUp (scene : Scene) (h : ℕ) (row : Row) (next : Option Handle) : Type 0 where
  object : Object
  handle : object.handle ≡ h
  row_is : object.row ≡ row
  way : path_at scene h ≡ object ∷ path_from scene next

steps_up : (scene : Scene) (h : ℕ) (row : Row) (next : Option Handle) → IsValid scene → Some row ≡ row_at scene h → next ≡ option_map as_handle (parent_of (handles_of scene.trees) h) → StepsUp scene h row next
steps_up scene h row next valid read up = by (object_at scene h) refl read where
  by : (found : Option Object) → object_at scene h ≡ found → Some row ≡ option_map row_of found → StepsUp scene h row next
  by None e same = cc
  by (Some object) e same = record {
    object = object;
    handle = named scene.trees h object e;
    row_is = cc;
    way = goes_up scene valid h next up ∙ ap (λ (o : Option Object). option_to_list o ++ path_from scene next) e;
  }

-- A way up is no longer than the trees are high.
path_short : (test : Object → Bool) (above : List Object) (f : Forest Object) → length (path_by test above f) ≤ length above + height f
path_short test above Empty = omega arith
path_short test above (Tree object cs rest) = elim (cases_Bool (test object)) [
  | inl is ↦ rw is (omega arith)
  | inr other ↦ grind (arith, other, path_short test (object ∷ above) cs, path_short test above rest)
]

way_short : (scene : Scene) (next : Option Handle) → IsValid scene → length (path_from scene next) ≤ MAX_DEPTH
way_short scene None valid = omega arith
way_short scene (Some h) valid = omega (arith, path_short (is_at h.0) [] scene.trees, valid.trees.low)

-- The walk up.

-- the path goes on from here, and has room for what is left
pub record Walks (scene : Scene) (target : Handle) (path : List ℕ) (at : Option Handle) : Type 0 where
  pub rest : path_of scene target ≡ handles path ++ bubbling (path_from scene at)
  pub room : length path + length (path_from scene at) ≤ MAX_DEPTH

-- one object more on a path
pub record WalksOn (scene : Scene) (target : Handle) (path : List ℕ) (h : ℕ) (at next : Option Handle) : Type 0 where
  pub walks : Walks scene target (path ++ h ∷ []) next
  pub shorter : length (path_from scene next) < length (path_from scene at)
  pub room : length path < MAX_DEPTH

pub walk_start : (scene : Scene) (target : Handle) (path : List ℕ) → IsValid scene → path ≡ [] → Walks scene target path (Some target)
walk_start scene target path valid none =
    subst (λ (p : List ℕ). Walks scene target p (Some target)) (sym none) (record { rest = refl; room = omega (arith, way_short scene (Some target) valid) })

-- where an event goes on from an object of this row, by the handles of the trees
abbrev pub goes_to : Forest ℕ → ℕ → Row → Option Handle
goes_to f h row = if is_on row.flags Bubble then option_map as_handle (parent_of f h) else None

walk_up : (scene : Scene) (target : Handle) (path : List ℕ) (h : Handle) (row : Row) (at next : Option Handle) → IsValid scene → Walks scene target path at → at ≡ Some h → Some row ≡ row_at scene h.0 → next ≡ goes_to (handles_of scene.trees) h.0 row →
    WalksOn scene target path h.0 at next
walk_up scene target path h row at next valid walks is read goes =
    let p : Option Handle = option_map as_handle (parent_of (handles_of scene.trees) h.0) in
    let up : StepsUp scene h.0 row p = steps_up scene h.0 row p valid read refl in
    let way : path_from scene at ≡ up.object ∷ path_from scene p = ap (path_from scene) is ∙ up.way in
    let first : bubbling (path_from scene at) ≡ h ∷ bubbling (path_from scene next) =
    ap bubbling way
    ∙ (ap (λ (r : Row). as_handle up.object.handle ∷ after p (is_on r.flags Bubble)) up.row_is
    ∙ (ap (λ (k : ℕ). as_handle k ∷ after p (is_on row.flags Bubble)) up.handle
    ∙ ap (λ (hs : List Handle). h ∷ hs) (goes_on p (is_on row.flags Bubble) ∙ ap (λ (o : Option Handle). bubbling (path_from scene o)) (sym goes)))) in
    let long : length (path_from scene at) ≡ length (path_from scene p) + 1 = omega (arith, ap (λ (os : List Object). length os) way) in
    let less : length (path_from scene next) ≤ length (path_from scene p) = rw goes (fewer p (is_on row.flags Bubble)) in
    record {
      walks = record {
        rest = walks.rest ∙ (ap (λ (hs : List Handle). handles path ++ hs) first ∙ (sym (append_assoc (handles path) (h ∷ []) _) ∙ ap (λ (hs : List Handle). hs ++ bubbling (path_from scene next)) (sym (map-append as_handle path (h.0 ∷ [])))));
        room = omega (arith, walks.room, long, less, length-append path (h.0 ∷ []));
      };
      shorter = omega (arith, long, less);
      room = omega (arith, walks.room, long);
    }
  where
    after : Option Handle → Bool → List Handle
    after p b = if b then bubbling (path_from scene p) else []

    goes_on : (p : Option Handle) (b : Bool) → after p b ≡ bubbling (path_from scene (if b then p else None))
    goes_on p true = refl
    goes_on p false = refl

    fewer : (p : Option Handle) (b : Bool) → length (path_from scene (if b then p else None)) ≤ length (path_from scene p)
    fewer p true = omega arith
    fewer p false = omega arith

-- the same by the scene of a store and the handles of a tree
pub walk_on : (scene kept : Scene) (f : Forest ℕ) (target : Handle) (path : List ℕ) (h : Handle) (row : Row) (at next : Option Handle) → kept ≡ scene → IsValid kept → f ≡ handles_of kept.trees → Walks scene target path at → at ≡ Some h →
    Some row ≡ row_at kept h.0 → next ≡ goes_to f h.0 row → WalksOn scene target path h.0 at next
walk_on scene kept f target path h row at next same valid forest walks is read goes =
    let trees : f ≡ handles_of scene.trees = forest ∙ ap (λ (s : Scene). handles_of s.trees) same in
    walk_up scene target path h row at next (subst IsValid same valid) walks is (read ∙ ap (λ (s : Scene). row_at s h.0) same) (goes ∙ ap (λ (t : Forest ℕ). goes_to t h.0 row) trees)

-- the walk ends above the last, or at an object that is not there
pub walk_end : (scene : Scene) (target : Handle) (path : List ℕ) (at : Option Handle) → Walks scene target path at → at ≡ None → handles path ≡ path_of scene target
walk_end scene target path at walks is =
    sym (walks.rest ∙ (ap (λ (o : Option Handle). handles path ++ bubbling (path_from scene o)) is ∙ append-nil (handles path)))

pub walk_gone : (scene : Scene) (target : Handle) (path : List ℕ) (h : Handle) (at : Option Handle) → Walks scene target path at → at ≡ Some h → None ≡ row_at scene h.0 → handles path ≡ path_of scene target
walk_gone scene target path h at walks is read =
    let none : path_from scene at ≡ [] = ap (path_from scene) is ∙ by (object_at scene h.0) (path_starts scene h.0) read in
    sym (walks.rest ∙ (ap (λ (os : List Object). handles path ++ bubbling os) none ∙ append-nil (handles path)))
  where
    by : (found : Option Object) → StartsAt found (path_at scene h.0) → None ≡ option_map row_of found → path_at scene h.0 ≡ []
    by None starts e = starts
    by (Some object) starts e = cc
