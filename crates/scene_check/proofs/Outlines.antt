-- What changes of a scene make of its outline.
use Rattle.std.proofs.Common.{◌≡◌, ◌∙◌, refl, sym, ap, subst, ℕ, ℤ, true, false, not, Bool, ◌&&◌, ◌||◌, List, [], ◌∷◌, cond, arith}
use Rattle.std.specs.Prelude.{Some, None, pos, is_some, ◌==◌, if◌then◌else◌}
use Rattle.std.specs.List.{list_all}
use Rattle.std.specs.Ordering.{int_eq}
use Rattle.std.specs.declared.option.Option.{Option}
use Rattle.std.proofs.lemmas.Int.{ints}
use Rattle.std.proofs.lemmas.Bool.Decides.{nat_tests}
use Rattle.gui_base.specs.Forest.{Forest, Empty, Tree, has_by, has, depth_of, parent_of}
use Rattle.gui_base.specs.Words.{same_prop}
use Rattle.gui_base.specs.declared.Handle.{Handle}
use Rattle.gui_base.specs.declared.intervals.TheConstants.{MAX_DEPTH}
use Rattle.gui_base.specs.declared.props.Prop.{Prop}
use Rattle.gui_base.specs.declared.props.Prop.TheVariants.{TextFont}
use Rattle.gui_base.specs.declared.refusal.Refusal.{Refusal}
use Rattle.gui_base.specs.declared.words.Flag.{Flag}
use Rattle.gui_base.specs.declared.words.Kind.{Kind}
use Rattle.gui_base.specs.declared.words.Length.{Length}
use Rattle.gui_base.specs.declared.words.Selector.{Selector}
use Rattle.gui_base.proofs.Forests.{map-added_by, map-with_row_by, map-has_by}
use Rattle.scene_defs.specs.declared.Change.{Change}
use Rattle.scene_defs.specs.declared.Change.TheVariants as change
use Rattle.scene_defs.specs.declared.Feature.TheVariants.{Text}
use Rattle.scene_defs.specs.declared.Row.{Row}
use Rattle.scene_defs.specs.Change.{answer_of, changed, scene_by, scene_after}
use Rattle.scene_defs.specs.Deeds.{is_in_range}
use Rattle.scene_defs.specs.Edits.{over_row, over_text, with_row, is_featured}
use Rattle.scene_defs.specs.Row.{has_text}
use Rattle.scene_defs.specs.Scene.{Object, Scene, handles_of, is_at, new_object, object_by}
use Rattle.scene_check.specs.Checking.{refusal_of, after_one, refusal_of_all, changed_by_all, or_later}
use Rattle.scene_check.specs.Fitting.{only_full}
use Rattle.scene_check.specs.Outlines.{node_of, outline_of, is_node, handles_in, has_node, has_child, has_text_at, may_have, Node, names_there, outline_after, all_there, outlined, ScenesAreOutlined}
use Rattle.scene_check.proofs.Fitting.{changes_fit}
use Rattle.scene_check.proofs.Holding.{both_hold, fails}

-- The outline has the handles of the scene.

same_handles : (trees : Forest Object) → handles_in (outline_of trees) ≡ handles_of trees
same_handles Empty = refl
same_handles (Tree object cs rest) = rw (same_handles cs, same_handles rest) refl

-- and the kinds
same_texts : (h : ℕ) (trees : Forest Object) → has_text_at h (outline_of trees) ≡ is_featured Text (object_by (is_at h) trees)
same_texts h Empty = refl
same_texts h (Tree object cs rest) = rw (map-has_by node_of (is_node h) cs) (by (is_at h object) (has_by (is_at h) cs) (same_texts h cs) (same_texts h rest)) where
  by : (here below : Bool) → has_text_at h (outline_of cs) ≡ is_featured Text (object_by (is_at h) cs) → has_text_at h (outline_of rest) ≡ is_featured Text (object_by (is_at h) rest) →
      cond here (has_text object.row.kind) (cond below (has_text_at h (outline_of cs)) (has_text_at h (outline_of rest)))
      ≡ is_featured Text (cond here (Some object) (cond below (object_by (is_at h) cs) (object_by (is_at h) rest)))
  by true below e f = refl
  by false true e f = e
  by false false e f = f

-- Changes of the objects, one by one.

-- what a change that names what is there is refused for, and the outline after it
record Stepped (scene : Scene) (change : Change) : Type 0 where
  fits : only_full (answer_of scene change) ≡ true
  stands : answer_of scene change ≡ None → outline_of (changed scene change).trees ≡ outline_after (outline_of scene.trees) change

after_done : (scene : Scene) (change : Change) (outline : Forest Node) → outline_of (scene_after scene change).trees ≡ outline → answer_of scene change ≡ None → outline_of (changed scene change).trees ≡ outline
after_done scene change outline e none = ap (λ (refusal : Option Refusal). outline_of (scene_by refusal scene change).trees) none ∙ e

row_kept : (scene : Scene) (h : ℕ) (set : Row → Row) → ((row : Row) → (set row).kind ≡ row.kind) → outline_of (with_row scene h set).trees ≡ outline_of scene.trees
row_kept scene h set same = map-with_row_by node_of (is_node h) (is_at h) (over_row set) (λ object. ap (λ (kind : Kind). (object.handle, kind)) (same object.row)) scene.trees

in_scene : (trees : Forest Object) (p : Forest ℕ → Bool) → p (handles_in (outline_of trees)) ≡ true → p (handles_of trees) ≡ true
in_scene trees p e = subst (λ (f : Forest ℕ). p f ≡ true) (same_handles trees) e

-- a font that is named is the built-in one
built_in : (named is : Bool) (value : ℤ) → (is ≡ true → value ≡ pos 0) → (not named || is) ≡ true → named ≡ true → value ≡ pos 0
built_in true true value f h e = f refl
built_in true false value f h e = cc
built_in false is value f h e = cc

zero_is : (value : ℤ) → int_eq value (pos 0) ≡ true → value ≡ pos 0
zero_is value h = grind (arith, ints, nat_tests, h)

new_steps : (scene : Scene) (n p : Handle) (kind : Kind) → is_in_range (change.New n p kind) ≡ true → may_have (outline_of scene.trees) p.0 n.0 ≡ true → Stepped scene (change.New n p kind)
new_steps scene n p kind r t =
    let f = handles_of scene.trees in
    let all : (has f p.0 && (not (has f n.0) && not (depth_of f p.0 == MAX_DEPTH))) ≡ true =
    in_scene scene.trees (λ (f : Forest ℕ). has f p.0 && (not (has f n.0) && not (depth_of f p.0 == MAX_DEPTH))) t in
    let two = both_hold (has f p.0) (not (has f n.0) && not (depth_of f p.0 == MAX_DEPTH)) all in
    let others = both_hold (not (has f n.0)) (not (depth_of f p.0 == MAX_DEPTH)) two.1 in
    record {
      fits = changes_fit.new scene n p kind r two.0 (fails (has f n.0) others.0) (fails (depth_of f p.0 == MAX_DEPTH) others.1);
      stands = after_done scene (change.New n p kind) (outline_after (outline_of scene.trees) (change.New n p kind)) (map-added_by node_of (is_node p.0) (is_node p.0) (new_object n.0 kind) scene.trees);
    }

size_steps : (scene : Scene) (h : Handle) (width height : Length) → is_in_range (change.Size h width height) ≡ true → has_child (outline_of scene.trees) h.0 ≡ true → Stepped scene (change.Size h width height)
size_steps scene h width height r t =
    let f = handles_of scene.trees in
    let two = both_hold (has f h.0) (is_some (parent_of f h.0)) (in_scene scene.trees (λ (f : Forest ℕ). has f h.0 && is_some (parent_of f h.0)) t) in
    record {
      fits = changes_fit.size scene h width height r two.0 two.1;
      stands = after_done scene (change.Size h width height) (outline_of scene.trees) (row_kept scene h.0 _ (λ row. refl));
    }

place_steps : (scene : Scene) (h : Handle) (x y : ℤ) → is_in_range (change.Pos h x y) ≡ true → has_child (outline_of scene.trees) h.0 ≡ true → Stepped scene (change.Pos h x y)
place_steps scene h x y r t =
    let f = handles_of scene.trees in
    let two = both_hold (has f h.0) (is_some (parent_of f h.0)) (in_scene scene.trees (λ (f : Forest ℕ). has f h.0 && is_some (parent_of f h.0)) t) in
    record {
      fits = changes_fit.place scene h x y r two.0 two.1;
      stands = after_done scene (change.Pos h x y) (outline_of scene.trees) (row_kept scene h.0 _ (λ row. refl));
    }

flag_steps : (scene : Scene) (h : Handle) (flag : Flag) (on : Bool) → is_in_range (change.Flag h flag on) ≡ true → has_node (outline_of scene.trees) h.0 ≡ true → Stepped scene (change.Flag h flag on)
flag_steps scene h flag on r t = record {
  fits = changes_fit.flag scene h flag on r (in_scene scene.trees (λ (f : Forest ℕ). has f h.0) t);
  stands = after_done scene (change.Flag h flag on) (outline_of scene.trees) (row_kept scene h.0 _ (λ row. refl));
}

text_steps : (scene : Scene) (h : Handle) (text : List ℕ) → is_in_range (change.Text h text) ≡ true → (has_node (outline_of scene.trees) h.0 && has_text_at h.0 (outline_of scene.trees)) ≡ true → Stepped scene (change.Text h text)
text_steps scene h text r t =
    let two = both_hold (has_node (outline_of scene.trees) h.0) (has_text_at h.0 (outline_of scene.trees)) t in
    record {
      fits = changes_fit.text scene h text r (in_scene scene.trees (λ (f : Forest ℕ). has f h.0) two.0) (sym (same_texts h.0 scene.trees) ∙ two.1);
      stands = after_done scene (change.Text h text) (outline_of scene.trees) (map-with_row_by node_of (is_node h.0) (is_at h.0) (over_text text) (λ object. refl) scene.trees);
    }

local_steps : (scene : Scene) (h : Handle) (selector : Selector) (prop : Prop) (value : ℤ) → is_in_range (change.Local h selector prop value) ≡ true → (has_node (outline_of scene.trees) h.0 && (not (same_prop prop TextFont) || int_eq value (pos 0))) ≡ true → Stepped scene (change.Local h selector prop value)
local_steps scene h selector prop value r t =
    let two = both_hold (has_node (outline_of scene.trees) h.0) (not (same_prop prop TextFont) || int_eq value (pos 0)) t in
    record {
      fits = changes_fit.local scene h selector prop value r (in_scene scene.trees (λ (f : Forest ℕ). has f h.0) two.0) (built_in (same_prop prop TextFont) (int_eq value (pos 0)) value (zero_is value) two.1);
      stands = after_done scene (change.Local h selector prop value) (outline_of scene.trees) refl;
    }

steps : (scene : Scene) (change : Change) → is_in_range change ≡ true → names_there (outline_of scene.trees) change ≡ true → Stepped scene change
steps scene (change.New n p kind) r t = new_steps scene n p kind r t
steps scene (change.Size h width height) r t = size_steps scene h width height r t
steps scene (change.Pos h x y) r t = place_steps scene h x y r t
steps scene (change.Flag h flag on) r t = flag_steps scene h flag on r t
steps scene (change.Text h text) r t = text_steps scene h text r t
steps scene (change.Local h selector prop value) r t = local_steps scene h selector prop value r t
steps scene change r t = cc

-- Changes one after another.

all_fit : (scene : Scene) (changes : List Change) → list_all is_in_range changes ≡ true → all_there (outline_of scene.trees) changes ≡ true → only_full (refusal_of_all scene changes) ≡ true
unfolding refusal_of after_one
all_fit scene [] r t = refl
all_fit scene (change ∷ changes) r t =
    let ranges = both_hold (is_in_range change) (list_all is_in_range changes) r in
    let names = both_hold (names_there (outline_of scene.trees) change) (all_there (outline_after (outline_of scene.trees) change) changes) t in
    let step = steps scene change ranges.0 names.0 in
    by (answer_of scene change) step.fits (λ none. all_fit (changed scene change) changes ranges.1
    (ap (λ (outline : Forest Node). all_there outline changes) (step.stands none) ∙ names.1)) refl where
      by : (o : Option Refusal) → only_full o ≡ true → (answer_of scene change ≡ None → only_full (refusal_of_all (changed scene change) changes) ≡ true) → answer_of scene change ≡ o →
          only_full (or_later o (refusal_of_all (changed scene change) changes)) ≡ true
      by None h f e = f e
      by (Some refusal) h f e = h

all_stand : (scene : Scene) (changes : List Change) → list_all is_in_range changes ≡ true → all_there (outline_of scene.trees) changes ≡ true → refusal_of_all scene changes ≡ None →
    outline_of (changed_by_all scene changes).trees ≡ outlined (outline_of scene.trees) changes
unfolding refusal_of after_one
all_stand scene [] r t none = refl
all_stand scene (change ∷ changes) r t none =
    let ranges = both_hold (is_in_range change) (list_all is_in_range changes) r in
    let names = both_hold (names_there (outline_of scene.trees) change) (all_there (outline_after (outline_of scene.trees) change) changes) t in
    let step = steps scene change ranges.0 names.0 in
    by (answer_of scene change) refl none (λ done later. all_stand (changed scene change) changes ranges.1
    (ap (λ (outline : Forest Node). all_there outline changes) (step.stands done) ∙ names.1) later
    ∙ ap (λ (outline : Forest Node). outlined outline changes) (step.stands done)) where
      by : (o : Option Refusal) → answer_of scene change ≡ o → or_later o (refusal_of_all (changed scene change) changes) ≡ None →
          (answer_of scene change ≡ None → refusal_of_all (changed scene change) changes ≡ None →
          outline_of (changed_by_all (changed scene change) changes).trees ≡ outlined (outline_after (outline_of scene.trees) change) changes) →
          outline_of (changed_by_all scene (change ∷ changes)).trees ≡ outlined (outline_after (outline_of scene.trees) change) changes
      by None e h f =
          ap (λ (o : Option Refusal). outline_of (if is_some o then changed scene change else changed_by_all (changed scene change) changes).trees) e
          ∙ f e h
      by (Some refusal) e h f = cc

pub scenes_are_outlined : ScenesAreOutlined
scenes_are_outlined = record { fits = all_fit; stands = all_stand }
