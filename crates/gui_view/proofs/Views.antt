-- Entries painted one after another.
use Rattle.std.proofs.Common.{◌≡◌, ◌∙◌, refl, sym, ap, ℤ, true, false, Bool, if◌then◌else◌, Option, Some, None, fold}
use Rattle.gui_base.specs.Area.{Rect, has}
use Rattle.gui_color.specs.Buffer.{Buffer, pixel_at}
use Rattle.gui_paint.specs.Painting.{Painting, Paints, painted_coats}
use Rattle.scene_defs.specs.Items.{lay}
use Rattle.scene_defs.specs.Scene.{Scene}
use Rattle.scene_defs.specs.Shown.{Entry, entry_coats}
use Rattle.scene_defs.specs.Visible.{holds, visible}
use Rattle.gui_view.specs.Painted.{painted_entry}

-- where nothing of the buffer turns into another colour
pub paints_nothing : (buf : Buffer) (over : Painting) → ((x y : ℤ) → has buf.area x y ≡ true → over x y (pixel_at buf x y) ≡ pixel_at buf x y) → Paints buf buf over
paints_nothing buf over same = record { area_stays = refl; limit_stays = refl; pixels = λ x y i. sym (same x y i) }

-- the same painting in other words
pub paints_same : (old new : Buffer) (a b : Painting) → ((x y : ℤ) → has old.area x y ≡ true → a x y (pixel_at old x y) ≡ b x y (pixel_at old x y)) → Paints old new a → Paints old new b
paints_same old new a b same h = record { area_stays = h.area_stays; limit_stays = h.limit_stays; pixels = λ x y i. h.pixels x y i ∙ same x y i }

-- an entry of which nothing is seen
pub unseen : (buf : Buffer) (scene : Scene) (e : Entry) → visible scene e.handle ≡ None → Paints buf buf (painted_entry scene e)
unseen buf scene e none = paints_nothing buf (painted_entry scene e) (λ x y i. ap (λ (v : Option Rect). if holds v x y then fold (lay x y) (pixel_at buf x y) (entry_coats scene e) else pixel_at buf x y) none)

-- an entry that is seen elsewhere
pub elsewhere : (buf : Buffer) (scene : Scene) (e : Entry) (area : Rect) → visible scene e.handle ≡ Some area → ((x y : ℤ) → has buf.area x y ≡ true → has area x y ≡ false) → Paints buf buf (painted_entry scene e)
elsewhere buf scene e area is apart = paints_nothing buf (painted_entry scene e) (λ x y i.
    ap (λ (v : Option Rect). if holds v x y then fold (lay x y) (pixel_at buf x y) (entry_coats scene e) else pixel_at buf x y) is
    ∙ ap (λ (b : Bool). if b then fold (lay x y) (pixel_at buf x y) (entry_coats scene e) else pixel_at buf x y) (apart x y i))

-- an entry that is seen
pub paints_seen : (old new : Buffer) (scene : Scene) (e : Entry) (area : Rect) → visible scene e.handle ≡ Some area → Paints old new (painted_coats area (entry_coats scene e)) → Paints old new (painted_entry scene e)
paints_seen old new scene e area is = paints_same old new (painted_coats area (entry_coats scene e)) (painted_entry scene e) (λ x y i.
    ap (λ (v : Option Rect). if holds v x y then fold (lay x y) (pixel_at old x y) (entry_coats scene e) else pixel_at old x y) (sym is))
