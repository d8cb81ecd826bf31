-- Natural sizes of trees that are settled are those of the definition.
use Rattle.std.proofs.Common.{◌≡◌, ◌∙◌, refl, sym, ap, ℕ, Bool, true, get_or, Option, Some, None, option_map, inl, inr}
use Rattle.std.specs.Prelude.{is_some}
use Rattle.std.proofs.lemmas.Bool.{cases_Bool, false≢true}
use Rattle.gui_base.specs.Forest.{Forest, has}
use Rattle.gui_pool.specs.Table.{Table, value_at}
use Rattle.layout_defs.specs.Boxes.{Box}
use Rattle.layout_defs.specs.Laws.{row_by, is_placed_at}
use Rattle.layout_defs.specs.Solving.{Placed, Wide, solved}
use Rattle.layout_defs.proofs.Solved.{found_by_handle}
use Rattle.scene_defs.specs.Scene.{Scene, handles_of}
use Rattle.scene_defs.specs.Valid.{IsValid}
use Rattle.gui_boxes.specs.declared.entry.Entry.{Entry}
use Rattle.gui_boxes.specs.Found.{boxed, widths_of}
use Rattle.gui_layout.specs.Marked.{marked_trees}
use Rattle.gui_layout.specs.Naturals.{Sizes, is_wide_at, naturals, naturals_among, naturals_in, sizes_from}
use Rattle.gui_layout.specs.Scenes.{scene_box}
use Rattle.gui_boxes.specs.Settled.{IsSettled, Layout, known}
use Rattle.gui_boxes.specs.Tables.{natural_height_or, natural_width_or, told}
use Rattle.gui_layout.proofs.Apart.{none-of, placed-marked, there, wide-marked, wide-there}
use Rattle.gui_layout.proofs.Entering.{boxed_are, row_none}
use Rattle.gui_boxes.proofs.Fitting.{settled_high, settled_wide}
use Rattle.gui_boxes.proofs.Listed.{told_at}
use Rattle.gui_tree.proofs.Parts.{distinct_once}
use Rattle.gui_layout.proofs.Solves.{placed_handle}

abbrev sizes_told : Layout → ℕ → Sizes
sizes_told l h = record { width = get_or l.natural_widths h 0; height = get_or l.natural_heights h 0 }

module _ (box : ℕ → Box) (l : Layout) (width height : ℕ) (t : Forest ℕ) (settled : IsSettled width height (known box l t)) where
  -- the tables have those of each object
  sizes_at : (h : ℕ) → has t h ≡ true → naturals_among width height (boxed box t) h ≡ Some (sizes_told l h)
  sizes_at h is =
      let wide : option_map (λ (w : Wide). w.natural) (row_by (is_wide_at h) (widths_of box t)) ≡ Some (get_or l.natural_widths h 0) =
      found_by_handle Wide ℕ (λ (w : Wide). w.box.handle) (λ (w : Wide). w.natural) 0 l.natural_widths (widths_of box t) h (settled_wide box l width height t settled) (wide-there box h t ∙ is) in
      let high : option_map (λ (p : Placed). p.tall.natural_height) (row_by (is_placed_at h) (solved width height (boxed box t))) ≡ Some (get_or l.natural_heights h 0) =
      found_by_handle Placed ℕ placed_handle (λ (p : Placed). p.tall.natural_height) 0 l.natural_heights (solved width height (boxed box t)) h (settled_high box l width height t settled) (there box width height h t ∙ is) in
      ap (λ (o : Option ℕ). sizes_from o (option_map (λ (p : Placed). p.tall.natural_height) (row_by (is_placed_at h) (solved width height (boxed box t))))) wide
      ∙ ap (λ (o : Option ℕ). sizes_from (Some (get_or l.natural_widths h 0)) o) high

told-is : (t : Table Entry) (h : ℕ) → is_some (value_at t h) ≡ true → option_map naturals_in (value_at t h) ≡ Some (sizes_told (told t) h)
told-is t h some =
    by (value_at t h) some
    ∙ (ap (λ n. Some (record { width = n; height = natural_height_or (value_at t h) })) (sym (told_at natural_width_or t h))
    ∙ ap (λ n. Some (record { width = get_or (told t).natural_widths h 0; height = n })) (sym (told_at natural_height_or t h)))
  where
    by : (v : Option Entry) → is_some v ≡ true → option_map naturals_in v ≡ Some (record { width = natural_width_or v; height = natural_height_or v })
    by None none = absurd (false≢true none)
    by (Some e) one = refl

module _ (scene : Scene) (valid : IsValid scene) (e : Table Entry) where
  abbrev f : Forest ℕ
  f = handles_of scene.trees

  abbrev box : ℕ → Box
  box = scene_box scene

  abbrev among : Forest ℕ → ℕ → Option Sizes
  among t h = naturals_among scene.limits.width scene.limits.height (boxed box t) h

  in_scene : (h : ℕ) → among f h ≡ naturals scene h
  unfolding naturals
  in_scene h = ap (λ (b : Forest Box). naturals_among scene.limits.width scene.limits.height b h) (boxed_are scene valid)

  -- those of the marked trees, where these are settled
  pub marked-naturals : (m : ℕ → Bool) → IsSettled scene.limits.width scene.limits.height (known box (told e) (marked_trees m f)) →
      (h : ℕ) → has (marked_trees m f) h ≡ true → is_some (value_at e h) ≡ true → option_map naturals_in (value_at e h) ≡ naturals scene h
  marked-naturals m settled h is some =
      let distinct = distinct_once f valid.trees.once in
      told-is e h some
      ∙ (sym (sizes_at box (told e) scene.limits.width scene.limits.height (marked_trees m f) settled h is)
      ∙ (ap (λ (o : Option Wide). sizes_from (option_map (λ (w : Wide). w.natural) o) (option_map (λ (p : Placed). p.tall.natural_height) (row_by (is_placed_at h) (solved scene.limits.width scene.limits.height (boxed box (marked_trees m f)))))) (wide-marked box m h f distinct is)
      ∙ (ap (λ (o : Option Placed). sizes_from (option_map (λ (w : Wide). w.natural) (row_by (is_wide_at h) (widths_of box f))) (option_map (λ (p : Placed). p.tall.natural_height) o)) (placed-marked box scene.limits.width scene.limits.height m h f distinct is)
      ∙ in_scene h)))

  -- and those of all
  pub all-naturals : IsSettled scene.limits.width scene.limits.height (known box (told e) f) → ((h : ℕ) → is_some (value_at e h) ≡ has f h) → (h : ℕ) → option_map naturals_in (value_at e h) ≡ naturals scene h
  all-naturals settled some h = elim (cases_Bool (has f h)) [
    | inl is ↦ told-is e h (some h ∙ is) ∙ (sym (sizes_at box (told e) scene.limits.width scene.limits.height f settled h is) ∙ in_scene h)
    | inr out ↦
        none-of naturals_in (value_at e h) (some h ∙ out)
        ∙ (ap (λ (o : Option Wide). sizes_from (option_map (λ (w : Wide). w.natural) o) (option_map (λ (p : Placed). p.tall.natural_height) (row_by (is_placed_at h) (solved scene.limits.width scene.limits.height (boxed box f))))) (sym (row_none (is_wide_at h) (widths_of box f) (wide-there box h f ∙ out)))
        ∙ in_scene h)
  ]
