-- Columns of an area, and the values of a slider along them.
use Rattle.std.proofs.Common.{◌≡◌, ◌∙◌, sym, ap, refl, ℕ, ◌+◌, ◌*◌, ◌/◌, ◌-◌, ◌<◌, ◌≤◌, ℤ, pos, ◌+ℤ◌, ◌-ℤ◌, arith, true, false, Option, Some, None, option_map}
use Rattle.std.specs.Prelude.{nat_le}
use Rattle.std.proofs.lemmas.Bool.Decides.{nat_tests}
use Rattle.gui_base.specs.Area.{Rect, width_of}
use Rattle.gui_base.specs.declared.props.Prop.TheVariants.{PadLeft, PadRight}
use Rattle.gui_base.specs.declared.words.Part.TheVariants.{Main}
use Rattle.widget_defs.specs.Items.{content_of, inset}
use Rattle.widget_defs.proofs.Captions.{width-is}
use Rattle.run_defs.specs.Pointing.{content}
use Rattle.run_defs.specs.Reactions.{is_slider}
use Rattle.scene_defs.specs.Place.{place}
use Rattle.scene_defs.specs.Row.{brought_in}
use Rattle.scene_defs.specs.Scene.{Scene, value}
use Rattle.scene_defs.specs.declared.Row.{Row}
use Rattle.gui_play.specs.Sliding.{columns_of, slid_in, value_along}

-- the value at a column
pub along_first : (row : Row) (first : ℤ) (count : ℕ) (x : ℤ) → count ≤ 1 → value_along row first count x ≡ row.min
along_first row first count x few = let one : nat_le count 1 ≡ true = grind (arith, nat_tests) in rw one refl

pub along : (row : Row) (first : ℤ) (count : ℕ) (x : ℤ) (range column share : ℕ) → 1 < count → row.max -ℤ row.min ≡ pos range →
    pos column ≡ brought_in (pos 0) (pos (count - 1)) (x -ℤ first) → share ≡ range * column / (count - 1) →
    value_along row first count x ≡ row.min +ℤ pos share
along row first count x range column share some wide at is =
    let more : nat_le count 1 ≡ false = grind (arith, nat_tests) in
    rw (more, wide, sym at, is) refl

-- the columns of a content area
pub columns_are : (scene : Scene) (h : ℕ) (area : Rect) (left right : ℕ) → Some area ≡ place scene h → left ≡ inset (value scene h Main) PadLeft → right ≡ inset (value scene h Main) PadRight →
    option_map columns_of (content scene h) ≡ Some (area.x1 +ℤ pos left, width_of area - (left + right))
columns_are scene h area left right at before after =
    ap (λ (o : Option Rect). option_map columns_of (option_map (λ a. content_of a (value scene h Main)) o)) (sym at)
    ∙ rw (before, after) (ap (λ (n : ℕ). Some (area.x1 +ℤ pos (inset (value scene h Main) PadLeft), n)) (width-is _ area.y1 _ 0))

-- the value of a slider by the columns of its content area
pub slid_is : (row : Row) (area : Option Rect) (x : ℤ) → is_slider row.kind ≡ true → slid_in (Some row) area x ≡ option_map (λ columns. value_along row columns.0 columns.1 x) (option_map columns_of area)
slid_is row None x slider = rw slider refl
slid_is row (Some area) x slider = rw slider refl

pub slid_other : (row : Row) (area : Option Rect) (x : ℤ) → is_slider row.kind ≡ false → slid_in (Some row) area x ≡ None
slid_other row area x other = rw other refl
