-- How many steps painting takes at most.
use Rattle.std.proofs.Common.{◌≡◌, ◌∙◌, sym, ap, ℕ, zero, suc, ◌+◌, ◌*◌, ◌≤◌, Option, Some, None, length, option_map, ℤ, pos, ◌+ℤ◌, arith}
use Rattle.std.proofs.Math.Nat.{mul-le-mul_right}
use Rattle.gui_base.specs.Area.{Rect, width_of, height_of, size_of}
use Rattle.gui_base.specs.Coats.{Coat, Dab}
use Rattle.gui_color.specs.Buffer.{Buffer}
use Rattle.gui_draw.specs.Counts.{sum_below, one_if_laid, row_count, pixel_count}
use Rattle.gui_draw.specs.Drawing.{Draws}
use Rattle.gui_draw.specs.Runs.{DrawsIn}
use Rattle.widget_defs.specs.declared.ImageLook.{ImageLook}
use Rattle.widget_defs.specs.declared.kinds.Shown.{Shown}
use Rattle.widget_defs.specs.declared.kinds.Shown.TheVariants as shown
use Rattle.widget_defs.specs.Items as widget
use Rattle.widget_defs.specs.Kinds.{shows}
use Rattle.widget_defs.specs.Looks.{Look}
use Rattle.scene_defs.specs.Items.{bars, items, items_of, chars_of}
use Rattle.scene_defs.specs.Looks.{look_of}
use Rattle.scene_defs.specs.Place.{place}
use Rattle.scene_defs.specs.Scene.{Object, Scene, object_at}
use Rattle.cover_defs.specs.Steps.{bar_steps, letters_at, object_steps}

-- numbers that are each at most k, summed up
sum_below_most : (n k : ℕ) (f : ℕ → ℕ) → ((i : ℕ) → f i ≤ k) → sum_below n f ≤ n * k
unfolding sum_below
sum_below_most zero k f each = omega arith
sum_below_most (suc n) k f each = omega (arith, sum_below_most n k f each, each n)

one_most : (dab : Option Dab) → one_if_laid dab ≤ 1
one_most None = omega arith
one_most (Some dab) = omega arith

row_most : (coat : Coat) (y x : ℤ) (n : ℕ) → row_count coat y x n ≤ n * 1
unfolding row_count
row_most coat y x n = sum_below_most n 1 (λ i. one_if_laid (coat (x +ℤ pos i) y)) (λ i. one_most (coat (x +ℤ pos i) y))

-- a coat lays something on each pixel at most
pub pixel_count_most : (area : Rect) (coat : Coat) → pixel_count area coat ≤ size_of area
unfolding pixel_count
pixel_count_most area coat =
    let row = λ (j : ℕ). row_count coat (area.y1 +ℤ pos j) area.x1 (width_of area) in
    let few = λ (j : ℕ). row_most coat (area.y1 +ℤ pos j) area.x1 (width_of area) in
    let rows = sum_below_most (height_of area) (width_of area * 1) row few in
    let same : height_of area * (width_of area * 1) ≡ size_of area = grind arith in
    omega (arith, rows, same)

-- an item, and a text
pub item_steps : (old new : Buffer) (from to more : ℕ) (coat : Coat) → Draws old new from to coat → to ≤ from + (size_of old.area + more)
item_steps old new from to more coat draws =
    let most = pixel_count_most old.area coat in
    let steps = draws.steps in
    omega (arith, most, steps)

pub text_steps : (letters : ℕ) (old new : Buffer) (from to : ℕ) (coat : Coat) → DrawsIn letters old new from to coat → to ≤ from + (size_of old.area + letters)
text_steps letters old new from to coat draws =
    let most = pixel_count_most old.area coat in
    let steps = draws.draws.steps in
    let few = draws.few in
    omega (arith, most, steps, few)

-- an object has six items at most
picture_few : (image : Option ImageLook) (values : _) (content : Rect) → length (widget.picture_of image values content) ≤ 4
picture_few None values content = omega arith
picture_few (Some image) values content = omega arith

shown_few : (what : Shown) (look : Look) (content : Rect) → length (widget.shown_items what look content) ≤ 4
shown_few shown.Picture look content = picture_few look.image look.main content
shown_few what look content = omega arith

few_of : (scene : Scene) (object : Option Object) (area : Option Rect) → length (items_of scene object area) ≤ 6
few_of scene None area = omega arith
few_of scene (Some object) None = omega arith
few_of scene (Some object) (Some area) =
    let look = look_of scene object in
    let few = shown_few (shows look.kind) look (widget.content_of area look.main) in
    omega (arith, few)

pub items_few : (scene : Scene) (h : ℕ) → length (items scene h) ≤ 6
items_few scene h = few_of scene (object_at scene h) (place scene h)

-- an object by itself, by what its items and its text are
pub object_steps_most : (scene : Scene) (h size count letters from to : ℕ) → count ≡ length (items scene h) → letters ≤ letters_at scene h → to ≤ from + count * (size + letters) → to ≤ from + object_steps scene size h
object_steps_most scene h size count letters from to is few steps =
    let six = items_few scene h in
    let each : count * letters ≤ 6 * letters = mul-le-mul_right letters (omega (arith, is, six)) in
    let apart : count * (size + letters) ≡ count * size + count * letters = grind arith in
    let same : count * size ≡ length (items scene h) * size = ap (λ (n : ℕ). n * size) is in
    omega (arith, each, apart, same)

-- what an object paints and its text, by its look and its place
object_items : (scene : Scene) (area : Rect) (look : Look) (object : Option Object) → Some look ≡ option_map (look_of scene) object → (items_of scene object (Some area) ≡ widget.items look area) × (chars_of object ≡ look.text)
object_items scene area look None is = cc
object_items scene area look (Some object) is =
    let same : look ≡ look_of scene object = cc in
    (ap (λ (l : Look). widget.items l area) (sym same), ap (λ (l : Look). l.text) (sym same))

pub items_of_look : (scene : Scene) (h : ℕ) (area : Rect) (look : Look) → Some look ≡ option_map (look_of scene) (object_at scene h) → place scene h ≡ Some area → items scene h ≡ widget.items look area
items_of_look scene h area look is at = ap (items_of scene (object_at scene h)) at ∙ (object_items scene area look (object_at scene h) is).0

pub steps_of_look : (scene : Scene) (h : ℕ) (area : Rect) (look : Look) (size count letters from to : ℕ) → Some look ≡ option_map (look_of scene) (object_at scene h) → place scene h ≡ Some area → count ≡ length (widget.items look area) → letters ≡ length look.text →
    to ≤ from + count * (size + letters) → to ≤ from + object_steps scene size h
steps_of_look scene h area look size count letters from to is at counted lettered steps =
    let two = object_items scene area look (object_at scene h) is in
    let list = items_of_look scene h area look is at in
    object_steps_most scene h size count letters from to (counted ∙ ap length (sym list)) (omega (arith, lettered, ap length two.1)) steps

-- its bars
pub bar_steps_most : (scene : Scene) (h size count from to : ℕ) → count ≡ length (bars scene h) → to ≤ from + count * (size + 0) → to ≤ from + bar_steps scene size h
bar_steps_most scene h size count from to is steps =
    let none : count * (size + 0) ≡ count * size = grind arith in
    let same : count * size ≡ length (bars scene h) * size = ap (λ (n : ℕ). n * size) is in
    omega (arith, none, same, steps)
