-- The values, and what is kept of each object, where the row of one is set in all but that: what layout goes by.
use Rattle.std.proofs.Common.{◌≡◌, ◌∙◌, ap, ℕ, ◌<◌, Bool, true, false, cond, nat_eq, Some, option_map, List, [], ◌∷◌, map, refl, inl, inr, w16, arith}
use Rattle.std.proofs.lemmas.Bool.{cases_Bool}
use Rattle.std.proofs.lemmas.Nat.{one_shl}
use Rattle.std.proofs.lemmas.Nat.Bits.{bit_at_set_other, bit_at_clear_other}
use Rattle.gui_base.specs.Bits.{has_bit, with_bit, flag_bit}
use Rattle.gui_base.specs.Forest.{Forest, Empty, Tree, path_by, has_by, with_row_by}
use Rattle.gui_base.specs.declared.words.Flag.{Flag}
use Rattle.gui_base.specs.declared.words.Flag.TheVariants.{Hidden, Clickable, Checkable, Bubble, Scrollable}
use Rattle.gui_base.specs.declared.props.Prop.{Prop}
use Rattle.gui_base.specs.declared.words.Part.{Part}
use Rattle.gui_base.specs.declared.words.Part.TheVariants.{Main}
use Rattle.style_defs.specs.Value.{value_on}
use Rattle.scene_defs.specs.declared.Row.{Row}
use Rattle.scene_defs.specs.Edits.{over_row, with_row}
use Rattle.scene_defs.specs.Row.{is_on}
use Rattle.scene_defs.specs.Scene.{Object, Scene, is_at, object_by, path_at, styled_of, value}
use Rattle.gui_concerns.specs.Moving.{goes_by_flag}
use Rattle.gui_change.proofs.Laid.{LaidSame, laid}

-- a bit that is set or cleared leaves another one
bit-kept : (set k j : ℕ) (on : Bool) → k < 16 → j < 16 → (j ≡ k → ⊥) → has_bit (with_bit set k on) j ≡ has_bit set j
unfolding has_bit with_bit
bit-kept set k j true fits here other =
    ap (λ (b : ℕ). nat_eq b 1) (rw (one_shl k 16 fits) at (bit_at_set_other w16 set k fits j other))
bit-kept set k j false fits here other =
    ap (λ (b : ℕ). nat_eq b 1) (rw (one_shl k 16 fits) at (bit_at_clear_other w16 set k fits j here other))

pub hidden-kept : (flags : ℕ) (flag : Flag) (on : Bool) → goes_by_flag flag ≡ false → is_on (with_bit flags (flag_bit flag) on) Hidden ≡ is_on flags Hidden
hidden-kept flags Hidden on off = cc
hidden-kept flags Clickable on off = bit-kept flags 1 0 on (omega arith) (omega arith) (λ e. omega arith)
hidden-kept flags Checkable on off = bit-kept flags 2 0 on (omega arith) (omega arith) (λ e. omega arith)
hidden-kept flags Bubble on off = bit-kept flags 3 0 on (omega arith) (omega arith) (λ e. omega arith)
hidden-kept flags Scrollable on off = cc

pub scrollable-kept : (flags : ℕ) (flag : Flag) (on : Bool) → goes_by_flag flag ≡ false → is_on (with_bit flags (flag_bit flag) on) Scrollable ≡ is_on flags Scrollable
scrollable-kept flags Hidden on off = cc
scrollable-kept flags Clickable on off = bit-kept flags 1 4 on (omega arith) (omega arith) (λ e. omega arith)
scrollable-kept flags Checkable on off = bit-kept flags 2 4 on (omega arith) (omega arith) (λ e. omega arith)
scrollable-kept flags Bubble on off = bit-kept flags 3 4 on (omega arith) (omega arith) (λ e. omega arith)
scrollable-kept flags Scrollable on off = cc

module _ (scene : Scene) (h : ℕ) (f : Row → Row) (kind : (row : Row) → (f row).kind ≡ row.kind) (states : (row : Row) → (f row).states ≡ row.states) where
  abbrev set_one : Object → Object
  set_one object = cond (is_at h object) (over_row f object) object

  abbrev set : Forest Object → Forest Object
  set = with_row_by (is_at h) (over_row f)

  handle-set : (object : Object) → (set_one object).handle ≡ object.handle
  handle-set object = elim (cases_Bool (is_at h object)) [ inl is ↦ rw is refl | inr isnt ↦ rw isnt refl ]

  has-set : (k : ℕ) (g : Forest Object) → has_by (is_at k) (set g) ≡ has_by (is_at k) g
  has-set k Empty = refl
  has-set k (Tree object cs rest) = rw (handle-set object, has-set k cs, has-set k rest) refl

  path-set : (k : ℕ) (above : List Object) (g : Forest Object) → path_by (is_at k) (map set_one above) (set g) ≡ map set_one (path_by (is_at k) above g)
  path-set k above Empty = refl
  path-set k above (Tree object cs rest) = elim (cases_Bool (is_at k object)) [
    | inl is ↦ rw (handle-set object, is) refl
    | inr isnt ↦ elim (cases_Bool (has_by (is_at k) cs)) [
      | inl below ↦ rw (handle-set object, isnt, has-set k cs, below) (path-set k (object ∷ above) cs)
      | inr beside ↦ rw (handle-set object, isnt, has-set k cs, beside) (path-set k above rest)
    ]
  ]

  -- styles see the same of each object
  styled-set : (path : List Object) → map (styled_of scene.book) (map set_one path) ≡ map (styled_of scene.book) path
  styled-set [] = refl
  styled-set (object ∷ above) = elim (cases_Bool (is_at h object)) [
    | inl is ↦ rw (is, kind object.row, states object.row, styled-set above) refl
    | inr isnt ↦ rw (isnt, styled-set above) refl
  ]

  pub values-set : (k : ℕ) (part : Part) (prop : Prop) → value (with_row scene h f) k part prop ≡ value scene k part prop
  values-set k part prop =
      ap (λ p. value_on scene.book.styles (map (styled_of scene.book) p) part prop) (path-set k [] scene.trees)
      ∙ ap (λ os. value_on scene.book.styles os part prop) (styled-set (path_at scene k))

  -- what is kept of each object that is set is kept of all
  module _ {A : Type 0} (view : Object → A) (same : (object : Object) → view (over_row f object) ≡ view object) where
    view-set : (object : Object) → view (set_one object) ≡ view object
    view-set object = elim (cases_Bool (is_at h object)) [ inl is ↦ rw is (same object) | inr isnt ↦ rw isnt refl ]

    pub object-set : (k : ℕ) (g : Forest Object) → option_map view (object_by (is_at k) (set g)) ≡ option_map view (object_by (is_at k) g)
    object-set k Empty = refl
    object-set k (Tree object cs rest) = elim (cases_Bool (is_at k object)) [
      | inl is ↦ rw (handle-set object, is) (ap Some (view-set object))
      | inr isnt ↦ elim (cases_Bool (has_by (is_at k) cs)) [
        | inl below ↦ rw (handle-set object, isnt, has-set k cs, below) (object-set k cs)
        | inr beside ↦ rw (handle-set object, isnt, has-set k cs, beside) (object-set k rest)
      ]
    ]

  pub row-set : ((object : Object) → laid (over_row f object) ≡ laid object) → (k : ℕ) → LaidSame scene (with_row scene h f) k
  row-set same k =
      record { fonts = refl; images = refl; object = object-set laid same k scene.trees; values = λ prop by. values-set k Main prop }
