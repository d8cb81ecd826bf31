-- What is known of an entry that is painted.
use Rattle.std.proofs.Common.{◌≡◌, ◌∙◌, sym, ap, refl, ℕ, Bool, true, false, ◌&&◌, if◌then◌else◌, is_some, List, [], get_or}
use Rattle.std.specs.declared.option.Option.{Option}
use Rattle.std.specs.Prelude.{None, Some}
use Rattle.std.proofs.lemmas.Bool.{and_parts}
use Rattle.std.specs.List.{list_any}
use Rattle.gui_base.specs.Area.{Rect}
use Rattle.gui_base.specs.Corners.{rect_of}
use Rattle.gui_base.specs.declared.color.Rgb565.{Rgb565}
use Rattle.gui_color.specs.Buffer.{Buffer, pixel_at}
use Rattle.gui_debts.specs.Bars.{items_in as bar_items}
use Rattle.gui_debts.specs.Kept.{shows_none, wide}
use Rattle.gui_debts.specs.Seen.{IsKnown, IsShownAt, entry_of, items_by, visible_of}
use Rattle.gui_debts.specs.declared.kept.ShownBars.{ShownBars}
use Rattle.gui_debts.specs.declared.kept.ShownBars.TheVariants.{Nothing, One, Two}
use Rattle.gui_debts.specs.declared.seen.ShownEntry.{ShownEntry}
use Rattle.gui_paint.specs.Painting.{Paints, painted_bars}
use Rattle.cover_defs.specs.Cover.{hides, is_cover, sees_all}
use Rattle.cover_defs.specs.Steps.{bar_steps, object_steps, steps_of}
use Rattle.scene_defs.specs.Items.{bars, items}
use Rattle.scene_defs.specs.Scene.{Scene}
use Rattle.scene_defs.specs.Shown.{Entry, entries, own, seen_entry}
use Rattle.scene_defs.specs.Visible.{holds, visible}
use Rattle.widget_defs.specs.Items.{Item}
use Rattle.gui_view.specs.Covering.{covers_known}
use Rattle.gui_view.specs.Painted.{entry_steps, painted_entry}
use Rattle.gui_view.proofs.Views.{paints_nothing, paints_seen, unseen}

-- an entry covers what it covers by what is known of it
pub covers_is : (scene : Scene) (part : Rect) (n : ℕ) (e : ShownEntry) → IsShownAt scene n e → covers_known e part ≡ is_cover scene part (seen_entry scene (get_or (entries scene) n (own 0)))
covers_is scene part n e at =
    by (visible scene e.h.0) refl
    ∙ ap (λ (one : Entry). is_cover scene part (seen_entry scene one)) (sym (at.entry (own 0))) where
      -- by where it is seen, and what it paints
      covers : Option Rect → List Item → Bool
      covers area items = if e.is_bars then false else (sees_all area part && list_any (hides part) items)

      by : (area : Option Rect) → visible scene e.h.0 ≡ area → covers (visible_of e) (items_by e) ≡ covers (visible scene e.h.0) (items scene e.h.0)
      by None none = rw (at.known.visible, none) refl
      by (Some area) is =
          ap (λ (v : Option Rect). covers v (items_by e)) at.known.visible
          ∙ ap (covers (visible scene e.h.0)) (at.known.items (ap is_some is))

-- bars cover nothing
pub bars_cover_nothing : (scene : Scene) (part : Rect) (e : Entry) → e.is_bars ≡ true → false ≡ is_cover scene part (seen_entry scene e)
bars_cover_nothing scene part e is = sym (ap (λ (b : Bool). if b then false else (sees_all (visible scene e.handle) part && list_any (hides part) (items scene e.handle))) is)

-- An entry that is seen there is painted as its object, or as the bars of that.
module _ (scene : Scene) (e : ShownEntry) (area : Rect) (seen : visible scene e.h.0 ≡ Some area) where
  pub paints_its_bars : (old new : Buffer) → e.is_bars ≡ true → Paints old new (painted_bars scene area e.h.0) → Paints old new (painted_entry scene (entry_of e))
  paints_its_bars old new is paints = paints_seen old new scene (entry_of e) area seen (rw is paints)

  pub steps_are : (size : ℕ) (b : Bool) → e.is_bars ≡ b → entry_steps scene size (entry_of e) ≡ (if b then bar_steps scene size e.h.0 else object_steps scene size e.h.0)
  steps_are size b is =
      ap (λ (v : Option Rect). if is_some v then steps_of scene size (seen_entry scene (entry_of e)) else 0) seen
      ∙ ap (λ (c : Bool). if c then bar_steps scene size e.h.0 else object_steps scene size e.h.0) is

-- an object that keeps none shows no bars
none_kept : (shown : ShownBars) (area : Rect) (color : Rgb565) (opa : ℕ) (place : Option Rect) → shows_none shown ≡ true →
    bar_items (wide (record { shown = shown; area = area; color = color; opa = opa }) place) ≡ []
none_kept Nothing area color opa place is = refl
none_kept One area color opa place is = cc
none_kept Two area color opa place is = cc

both : (b : Bool) (p : Rgb565) → (if b then p else p) ≡ p
both true p = refl
both false p = refl

-- bars of which there are none paint nothing
pub paints_no_bars : (scene : Scene) (e : ShownEntry) (buf : Buffer) → IsKnown scene e → (e.is_bars && shows_none e.seen.now.bars.shown) ≡ true →
    Paints buf buf (painted_entry scene (entry_of e))
paints_no_bars scene e buf known is = by (visible scene e.h.0) refl where
  parts : (e.is_bars ≡ true) × (shows_none e.seen.now.bars.shown ≡ true)
  parts = and_parts e.is_bars (shows_none e.seen.now.bars.shown) is

  by : (area : Option Rect) → visible scene e.h.0 ≡ area → Paints buf buf (painted_entry scene (entry_of e))
  by None none_seen = unseen buf scene (entry_of e) none_seen
  by (Some area) seen =
      let kept = e.seen.now.bars in
      let none : bars scene e.h.0 ≡ [] = sym (known.bars (ap is_some seen)) ∙ none_kept kept.shown (rect_of kept.area) kept.color kept.opa _ parts.1 in
      paints_nothing buf (painted_entry scene (entry_of e)) (λ x y i. rw (parts.0, none) (both (holds (visible scene e.h.0) x y) (pixel_at buf x y)))
