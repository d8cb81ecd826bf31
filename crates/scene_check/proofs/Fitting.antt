-- What the changes of a scene are refused for, where they name what is there.
use Rattle.std.proofs.Common.{◌≡◌, refl, ap, ℕ, ℤ, true, false, not, ◌&&◌, Bool, List, [], ◌∷◌}
use Rattle.std.specs.Prelude.{Some, None, option_map, if◌then◌else◌, pos}
use Rattle.std.specs.declared.option.Option.{Option}
use Rattle.gui_base.specs.Area.{nat_of}
use Rattle.gui_base.specs.Refusing.{Test, first_of, absent, deepest, taken, parentless, Unknown, Place}
use Rattle.gui_base.specs.Refusing.{Kind as WrongKind}
use Rattle.gui_base.specs.Words.{same_prop}
use Rattle.gui_base.specs.declared.Handle.{Handle}
use Rattle.gui_base.specs.declared.limits.Pool.{Pool}
use Rattle.gui_base.specs.declared.pools.TheConstants.{POOLS}
use Rattle.gui_base.specs.declared.props.Prop.{Prop}
use Rattle.gui_base.specs.declared.props.Prop.TheVariants.{TextFont}
use Rattle.gui_base.specs.declared.refusal.Refusal.{Refusal}
use Rattle.gui_base.specs.declared.refusal.Refusal.TheVariants.{Range, Full}
use Rattle.gui_base.specs.declared.words.Flag.{Flag}
use Rattle.gui_base.specs.declared.words.Kind.{Kind}
use Rattle.gui_base.specs.declared.words.Selector.{Selector}
use Rattle.text_defs.specs.Building.{is_finished}
use Rattle.text_defs.specs.Fonts.{Font, has_font}
use Rattle.scene_defs.specs.declared.Change.{Change}
use Rattle.scene_defs.specs.declared.Change.TheVariants as change
use Rattle.scene_defs.specs.declared.Feature.TheVariants.{Text}
use Rattle.scene_defs.specs.Change.{answer_of, first_short}
use Rattle.scene_defs.specs.Deeds.{is_in_range}
use Rattle.scene_defs.specs.Edits.{has_feature_at, kind_tests}
use Rattle.scene_defs.specs.Scene.{Scene, is_there, handles_of}
use Rattle.scene_defs.specs.Styling.{font_tests}
use Rattle.scene_check.specs.Fitting.{only_full, has_parent, is_deepest, ChangesFit}

full_only : (pool : Option Pool) → only_full (option_map Full pool) ≡ true
full_only None = refl
full_only (Some pool) = refl

in_range : (b : Bool) (o : Option Refusal) → b ≡ true → only_full o ≡ true → only_full (if b then o else Some Range) ≡ true
in_range true o e h = h
in_range false o e h = cc

-- a test that does not hold
passes : (t : Test) (tests : List Test) (later : Option Refusal) → t.0 ≡ false → only_full (first_of tests later) ≡ true → only_full (first_of (t ∷ tests) later) ≡ true
passes t tests later e h = rw e h

-- a font that is named is the built-in one
built_in : (fonts : List Font) (prop : Prop) (value : ℤ) → (same_prop prop TextFont ≡ true → value ≡ pos 0) → (same_prop prop TextFont && not (has_font fonts (nat_of value))) ≡ false
built_in fonts prop value f = by (same_prop prop TextFont) f where
  by : (b : Bool) → (b ≡ true → value ≡ pos 0) → (b && not (has_font fonts (nat_of value))) ≡ false
  by true g = rw (g refl) refl
  by false g = refl

finished : (fonts : List Font) (prop : Prop) (value : ℤ) → (same_prop prop TextFont ≡ true → value ≡ pos 0) → (same_prop prop TextFont && not (is_finished fonts (nat_of value))) ≡ false
finished fonts prop value f = by (same_prop prop TextFont) f where
  by : (b : Bool) → (b ≡ true → value ≡ pos 0) → (b && not (is_finished fonts (nat_of value))) ≡ false
  by true g = rw (g refl) refl
  by false g = refl

new_fits : (scene : Scene) (n p : Handle) (kind : Kind) → is_in_range (change.New n p kind) ≡ true → is_there scene p.0 ≡ true → is_there scene n.0 ≡ false → is_deepest scene p.0 ≡ false →
    only_full (answer_of scene (change.New n p kind)) ≡ true
new_fits scene n p kind r e f g =
    let trees = handles_of scene.trees in
    let rest = option_map Full (first_short scene (change.New n p kind) POOLS) in
    in_range (is_in_range (change.New n p kind)) (first_of (absent trees p.0 ∷ taken trees n.0 ∷ deepest trees p.0 ∷ []) rest) r
    (passes (absent trees p.0) (taken trees n.0 ∷ deepest trees p.0 ∷ []) rest (ap not e)
    (passes (taken trees n.0) (deepest trees p.0 ∷ []) rest f
    (passes (deepest trees p.0) [] rest g (full_only (first_short scene (change.New n p kind) POOLS)))))

child_fits : (scene : Scene) (h : Handle) (change : Change) (fits : Bool) → fits ≡ true → is_there scene h.0 ≡ true → has_parent scene h.0 ≡ true →
    only_full (if fits then first_of (absent (handles_of scene.trees) h.0 ∷ parentless (handles_of scene.trees) h.0 ∷ []) (option_map Full (first_short scene change POOLS)) else Some Range) ≡ true
child_fits scene h change fits r e f =
    let trees = handles_of scene.trees in
    let rest = option_map Full (first_short scene change POOLS) in
    in_range fits (first_of (absent trees h.0 ∷ parentless trees h.0 ∷ []) rest) r
    (passes (absent trees h.0) (parentless trees h.0 ∷ []) rest (ap not e)
    (passes (parentless trees h.0) [] rest (ap not f) (full_only (first_short scene change POOLS))))

flag_fits : (scene : Scene) (h : Handle) (flag : Flag) (on : Bool) → is_in_range (change.Flag h flag on) ≡ true → is_there scene h.0 ≡ true → only_full (answer_of scene (change.Flag h flag on)) ≡ true
flag_fits scene h flag on r e =
    let trees = handles_of scene.trees in
    let rest = option_map Full (first_short scene (change.Flag h flag on) POOLS) in
    in_range (is_in_range (change.Flag h flag on)) (first_of (absent trees h.0 ∷ []) rest) r
    (passes (absent trees h.0) [] rest (ap not e) (full_only (first_short scene (change.Flag h flag on) POOLS)))

text_fits : (scene : Scene) (h : Handle) (text : List ℕ) → is_in_range (change.Text h text) ≡ true → is_there scene h.0 ≡ true → has_feature_at scene Text h.0 ≡ true →
    only_full (answer_of scene (change.Text h text)) ≡ true
text_fits scene h text r e f =
    let trees = handles_of scene.trees in
    let rest = option_map Full (first_short scene (change.Text h text) POOLS) in
    in_range (is_in_range (change.Text h text)) (first_of (absent trees h.0 ∷ kind_tests scene (Some Text) h.0) rest) r
    (passes (absent trees h.0) (kind_tests scene (Some Text) h.0) rest (ap not e)
    (passes (not (has_feature_at scene Text h.0), WrongKind) [] rest (ap not f) (full_only (first_short scene (change.Text h text) POOLS))))

local_fits : (scene : Scene) (h : Handle) (selector : Selector) (prop : Prop) (value : ℤ) → is_in_range (change.Local h selector prop value) ≡ true → is_there scene h.0 ≡ true →
    (same_prop prop TextFont ≡ true → value ≡ pos 0) → only_full (answer_of scene (change.Local h selector prop value)) ≡ true
local_fits scene h selector prop value r e f =
    let trees = handles_of scene.trees in
    let fonts = scene.fonts in
    let rest = option_map Full (first_short scene (change.Local h selector prop value) POOLS) in
    in_range (is_in_range (change.Local h selector prop value)) (first_of (absent trees h.0 ∷ font_tests fonts prop value) rest) r
    (passes (absent trees h.0) (font_tests fonts prop value) rest (ap not e)
    (passes (same_prop prop TextFont && not (has_font fonts (nat_of value)), Unknown) ((same_prop prop TextFont && not (is_finished fonts (nat_of value)), Place) ∷ []) rest (built_in fonts prop value f)
    (passes (same_prop prop TextFont && not (is_finished fonts (nat_of value)), Place) [] rest (finished fonts prop value f)
    (full_only (first_short scene (change.Local h selector prop value) POOLS)))))

pub changes_fit : ChangesFit
changes_fit = record {
  new = new_fits;
  size = λ scene h width height r e f. child_fits scene h (change.Size h width height) (is_in_range (change.Size h width height)) r e f;
  place = λ scene h x y r e f. child_fits scene h (change.Pos h x y) (is_in_range (change.Pos h x y)) r e f;
  flag = flag_fits;
  local = local_fits;
  text = text_fits;
}
