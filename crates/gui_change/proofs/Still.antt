-- A change that leaves the trees: what did not move stands as it stood, and what it does not concern paints the same.
use Rattle.std.proofs.Common.{◌≡◌, ◌∙◌, refl, sym, ap, ℕ, true, false, List, Option, Some, None, inl, inr, arith, ◌<◌}
use Rattle.std.proofs.lemmas.Bool.{cases_Bool, false_from_ne_true}
use Rattle.gui_base.specs.Forest.{Forest, has, parent_of}
use Rattle.gui_base.specs.declared.Handle.{Handle}
use Rattle.gui_base.specs.declared.refusal.Refusal.{Refusal}
use Rattle.scene_defs.specs.declared.Change.{Change}
use Rattle.scene_defs.specs.declared.Change.TheVariants as change
use Rattle.scene_defs.specs.Assets.{AssetChange}
use Rattle.scene_defs.specs.Change.{answer_of, after_by, asset_change_in, changed, scene_by, styling_in}
use Rattle.scene_defs.specs.Deeds.{setter_of}
use Rattle.scene_defs.specs.Row.{Setter}
use Rattle.scene_defs.specs.Place.{place}
use Rattle.scene_defs.specs.Scene.{Scene, handles_of, is_there}
use Rattle.scene_defs.specs.Shown.{entries, order}
use Rattle.scene_defs.specs.Styling.{Styling}
use Rattle.debt_defs.specs.Orders.{leaves_trees}
use Rattle.debt_defs.proofs.Kept.{setters_keep_order}
use Rattle.gui_boxes.specs.Listing.{times}
use Rattle.gui_layout.specs.Scenes.{scene_box}
use Rattle.gui_layout.specs.Solved.{AreSettled, place_at}
use Rattle.gui_layout.specs.declared.places.Places.{Places}
use Rattle.gui_concerns.specs.Concerned.{may_be}
use Rattle.gui_change.specs.Edits.{WasKept, WasSeenEdited}
use Rattle.gui_concerns.specs.Edits.{edit_of}
use Rattle.gui_concerns.specs.Moving.{moves_nobody}
use Rattle.gui_change.specs.Marking.{MovesSame, beside_moved}
use Rattle.gui_concerns.specs.declared.concerned.Concerned.{Concerned}
use Rattle.gui_concerns.specs.declared.edit.Edit.TheVariants.{Same}
use Rattle.gui_change.specs.declared.scene_look.SceneLook.{SceneLook}
use Rattle.gui_change.specs.Shifted.{PaintsAlike, StandsStill, WasShifted}
use Rattle.gui_change.proofs.BarsStay.{bars-still}
use Rattle.gui_concerns.proofs.Below.{handles-stay}
use Rattle.gui_concerns.proofs.Subjects.{leaves-by}
use Rattle.gui_change.proofs.Unchanged.{boxes-hidden, looks-same, panel-by}
use Rattle.gui_change.proofs.Unmoved.{limits-stay, off-concerned, same-after}

-- Such a change leaves the trees and the active screen.
active-by : (scene : Scene) (c : Change) (setter : Option Setter) (styling : Option Styling) (assets : Option AssetChange) → Same ≡ edit_of scene c → (after_by setter styling assets scene c).active ≡ scene.active
active-by scene c (Some setter) styling assets is = refl
active-by scene c None (Some styling) assets is = refl
active-by scene c None None (Some assets) is = refl
active-by scene (change.Load g) None None None is = cc
active-by scene c None None None is = refl

active-stays : (scene : Scene) (c : Change) → Same ≡ edit_of scene c → (changed scene c).active ≡ scene.active
active-stays scene c is = by (answer_of scene c) where
  by : (answer : Option Refusal) → (scene_by answer scene c).active ≡ scene.active
  by None = active-by scene c (setter_of c) (styling_in scene c) (asset_change_in scene c) is
  by (Some refusal) = refl

module _ (old : Places) (look : SceneLook) (after : Scene) (made : Change) (concerned : Concerned) (removed : List ℕ) (was : WasSeenEdited old look after Same made concerned removed) where
  abbrev before : Scene
  before = was.edited.was.before

  -- no object went
  abbrev pub kept : WasKept old after made concerned
  kept = record { edit = Same; removed = removed; edited = was.edited; kept = refl }

  leaves : leaves_trees before made ≡ true
  leaves = leaves-by before made was.edited.does

  trees-stay : handles_of after.trees ≡ handles_of before.trees
  trees-stay = ap (λ (s : Scene). handles_of s.trees) was.edited.was.is ∙ handles-stay before made leaves

  pub order-stays : order after ≡ order before
  order-stays = ap order was.edited.was.is ∙ (setters_keep_order before made leaves).0

  pub entries-stay : entries after ≡ entries before
  entries-stay = ap entries was.edited.was.is ∙ (setters_keep_order before made leaves).1

  module _ (new : Places) (moved : List Handle) (settled : AreSettled new after) (stays : (k : ℕ) → is_there after k ≡ true → times moved k ≡ 0 → place_at new k ≡ place_at old k)
      (boxes : (k : ℕ) → is_there after k ≡ true → times moved k ≡ 0 → scene_box after k ≡ scene_box before k) (scrolls : (k : ℕ) → is_there after k ≡ true → times moved k ≡ 0 → MovesSame old new k)
      (all : moves_nobody made ≡ false → (k : ℕ) → is_there after k ≡ true → may_be after concerned k ≡ true → 0 < times moved k) where
    stands : (k : ℕ) → is_there after k ≡ true → times moved k ≡ 0 → place after k ≡ place before k
    stands k there off = sym (settled.solved k) ∙ (stays k there off ∙ was.edited.was.settled.solved k)

    still : (k : ℕ) → is_there after k ≡ true → times moved k ≡ 0 → StandsStill before after k
    still k there off = record {
      parents = ap (λ (f : Forest ℕ). parent_of f k) trees-stay;
      hides = boxes-hidden before after k (ap (λ (f : Forest ℕ). has f k) trees-stay) (boxes k there off);
      stands = stands k there off;
      panel = panel-by before after (ap (λ (s : Scene). s.active) was.edited.was.is ∙ active-stays before made was.edited.does) (limits-stay old after made concerned was.edited.was) k;
    }

    alike : (k : ℕ) → is_there after k ≡ true → times moved k ≡ 0 → may_be after concerned k ≡ false → PaintsAlike before after k
    alike k there off apart =
        let looks = looks-same before after k (same-after old after made concerned was.edited.was k (off-concerned old after Same made concerned removed was.edited k there apart)) in
        record { looks = looks; shows = bars-still before after old new was.edited.was.settled.reached settled.reached k looks (stands k there off) (scrolls k there off) }

    -- what may be concerned and did not move is left to be seen
    apart-too : (k : ℕ) → is_there after k ≡ true → times moved k ≡ 0 → may_be after (beside_moved made concerned) k ≡ false → may_be after concerned k ≡ false
    apart-too k there off apart = elim (cases_Bool (moves_nobody made)) [
      | inl nobody ↦ rw nobody at apart
      | inr moves ↦ false_from_ne_true (may_be after concerned k) (λ may. let some = all moves k there may in omega (arith, some, off))
    ]

    -- so all but the moved stand as before, and all but these and the concerned paint the same
    pub was-shifted : (named : Option ℕ) → WasShifted look.seen after named (beside_moved made concerned) moved
    was-shifted named = record {
      before = before;
      valid = was.edited.was.valid;
      seen = was.shows.seen;
      stands = λ k some there off other. still k there off;
      paints = λ k some there off other apart. alike k there off (apart-too k there off apart);
    }
