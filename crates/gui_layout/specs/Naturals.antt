-- The natural sizes of objects: those of the definition, and those that are kept beside places.
use Rattle.std.specs.Prelude.{◌≡◌, ◌==◌, ℕ, Bool, option_map}
use Rattle.std.specs.Prelude.{Some, None}
use Rattle.std.specs.declared.option.Option.{Option}
use Rattle.gui_base.specs.Forest.{Forest}
use Rattle.gui_pool.specs.Table.{value_at}
use Rattle.layout_defs.specs.Boxes.{Box}
use Rattle.layout_defs.specs.Laws.{row_by, is_placed_at}
use Rattle.layout_defs.specs.Solving.{Wide, Placed, solved, with_natural_widths}
use Rattle.scene_defs.specs.Place.{boxes_of}
use Rattle.scene_defs.specs.Scene.{Scene}
use Rattle.gui_layout.specs.declared.places.Places.{Places}
use Rattle.gui_boxes.specs.declared.entry.Entry.{Entry}

-- how wide and how high an object is by nature
pub record Sizes : Type 0 where
  pub width : ℕ
  pub height : ℕ

-- both, where both are known
abbrev pub sizes_from : Option ℕ → Option ℕ → Option Sizes
sizes_from None height = None
sizes_from (Some width) None = None
sizes_from (Some width) (Some height) = Some (record { width = width; height = height })

abbrev pub is_wide_at : ℕ → Wide → Bool
is_wide_at h w = w.box.handle == h

-- the natural width and the natural height of h among solved boxes
abbrev pub naturals_among : ℕ → ℕ → Forest Box → ℕ → Option Sizes
naturals_among width height boxes h =
    sizes_from
    (option_map (λ (w : Wide). w.natural) (row_by (is_wide_at h) (with_natural_widths boxes)))
    (option_map (λ (p : Placed). p.tall.natural_height) (row_by (is_placed_at h) (solved width height boxes)))

-- those of h in a scene, if it is there
unfoldable pub naturals : Scene → ℕ → Option Sizes
naturals scene h = naturals_among scene.limits.width scene.limits.height (boxes_of scene) h

-- those of an object by its entry
abbrev pub naturals_in : Entry → Sizes
naturals_in e = record { width = e.natural_width.pixels; height = e.natural_height.pixels }

-- those of h, if it has a place
abbrev pub naturals_at : Places → ℕ → Option Sizes
naturals_at p h = option_map naturals_in (value_at p.entries h)

-- each object of a scene has the natural sizes of the definition, and nothing else has any
abbrev pub AreNatural : Places → Scene → Type 0
AreNatural p scene = (h : ℕ) → naturals_at p h ≡ naturals scene h
