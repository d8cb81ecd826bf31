-- The laws of scenes and their debts.
use Rattle.std.proofs.Common.{◌≡◌, ◌⊎◌, ◌∙◌, sym, ap, ℕ, Bool, true, false, ◌++◌, Option, Some, None, is_some, List, [], ◌∷◌, map, refl, inl, inr, ℤ}
use Rattle.std.specs.Prelude.{if◌then◌else◌, pos}
use Rattle.std.specs.Str.{chars}
use Rattle.std.specs.List.{list_all, filter, flat_map, fold}
use Rattle.std.proofs.lemmas.Bool.{cases_Bool, and_from, and_cases, not-false, false≢true}
use Rattle.std.proofs.lemmas.Grind.{fold-append}
use Rattle.std.proofs.lemmas.List.Folds.{fold-map, list_all-append}
use Rattle.gui_base.specs.declared.color.Rgb565.{Rgb565}
use Rattle.gui_base.specs.declared.refusal.Refusal.{Refusal}
use Rattle.gui_base.specs.Area.{Rect, area_at, has, is_within}
use Rattle.gui_base.specs.Color.{black}
use Rattle.gui_base.specs.Limits.{Bounds, grid_in}
use Rattle.gui_base.specs.Rounding.{IsRounding}
use Rattle.gui_base.proofs.Blocks.{gridded_sound}
use Rattle.scene_defs.specs.Scene.{Object, Scene, object_at}
use Rattle.widget_defs.specs.Items.{Item}
use Rattle.scene_defs.specs.declared.Change.{Change}
use Rattle.scene_defs.specs.Change.{answer_of, scene_after, scene_by}
use Rattle.scene_defs.specs.Place.{panel_of, place}
use Rattle.scene_defs.specs.Visible.{holds, visible, shown_trees}
use Rattle.gui_base.specs.Coats.{Coat}
use Rattle.scene_defs.specs.Items.{items, bars, coats, chars_at}
use Rattle.scene_defs.specs.Shown.{Seen, Entry, entries, entry_coats, seen_as, seen_entry}
use Rattle.scene_defs.specs.Picture.{paint_seen, paint}
use Rattle.scene_defs.specs.Valid.{HasWholeBlocks, gridded, IsValid}
use Rattle.scene_defs.specs.Walk.{IsShowable}
use Rattle.scene_defs.proofs.Changes.{after_keeps}
use Rattle.scene_defs.proofs.Validity.{change_keeps_valid, valid_is_showable}
use Rattle.debt_defs.specs.SceneLook.{laid_by, over}
use Rattle.debt_defs.specs.Same.{same_visible, same_item, same_by}
use Rattle.debt_defs.specs.Debt.{listed, owed_by, touched}
use Rattle.debt_defs.specs.Named.{named}
use Rattle.debt_defs.specs.Scenes.{dab_at, look_of, touched_areas_by, touched_areas_of}
use Rattle.debt_defs.specs.Frame.{covered, IsInside, KeepsOrder, LaySame}
use Rattle.debt_defs.specs.Orders.{is_shown, is_part_of, remains, KeepOrder}
use Rattle.debt_defs.specs.Laws.{FrameOfScenes, PaintedByLook, RefusedOwesNothing, DebtWithinPanel, DebtIsRound}
use Rattle.debt_defs.proofs.Samenesses.{items-lay}
use Rattle.debt_defs.proofs.Looks.{frame_of_looks}
use Rattle.debt_defs.proofs.Inside.{fits, visible_fits, visible-none, seen_inside_above, scene_is_look}
use Rattle.debt_defs.proofs.Kept.{others_keep_order}
use Rattle.debt_defs.proofs.Rounded.{rounded_within, rounded_round, free_of_rounded}
use Rattle.debt_defs.proofs.Ready.{assets-stay, scene-ready, bars-ready}
use Rattle.debt_defs.proofs.Texts.{text-stays}

-- The paint of a scene is that of its look.
abbrev is_seen : Seen → Bool
is_seen s = is_some s.visible

module _ (x y : ℤ) where
  one-painted : (lays : Entry → List Coat) (v : Option Rect) (e : Entry) (c : Rgb565) (more : List Seen) →
      fold (paint_seen x y) c (filter is_seen (seen_as lays v e ∷ more))
      ≡ fold (paint_seen x y) (fold over c (if holds v x y then map (dab_at x y) (lays e) else [])) (filter is_seen more)
  one-painted lays None e c more = refl
  one-painted lays (Some area) e c more = elim (cases_Bool (has area x y)) [
    | inl inside ↦ rw inside (ap (λ d. fold (paint_seen x y) d (filter is_seen more)) (sym (fold-map over (dab_at x y) c (lays e))))
    | inr outside ↦ rw outside refl
  ]

  painted : (scene : Scene) (es : List Entry) (c : Rgb565) → fold (paint_seen x y) c (filter is_seen (map (seen_entry scene) es)) ≡ fold over c (flat_map (laid_by (look_of scene) x y) es)
  painted scene [] c = refl
  painted scene (e ∷ es) c =
      let laid = laid_by (look_of scene) x y in
      one-painted (entry_coats scene) (visible scene e.handle) e c (map (seen_entry scene) es)
      ∙ painted scene es (fold over c (laid e))
      ∙ sym (fold-append over c (laid e) (flat_map laid es))

pub painted_by_look : PaintedByLook
painted_by_look scene x y = painted x y scene (entries scene) black

-- What does not remain is seen only inside the named object.
part-inside : (scene : Scene) (n : Option ℕ) (k : ℕ) → IsShowable scene → is_part_of scene n k ≡ true → IsInside (look_of scene) n k
part-inside scene None k showable part = absurd (false≢true part)
part-inside scene (Some h) k showable part = seen_inside_above scene h k showable part

unseen-inside : (scene : Scene) (n : Option ℕ) (k : ℕ) → is_shown scene k ≡ false → IsInside (look_of scene) n k
unseen-inside scene n k out x y i =
    let none = visible-none (place scene) (Some (panel_of scene)) (shown_trees scene) k out in
    absurd (false≢true (ap (λ v. holds v x y) (sym none) ∙ i))

others-inside : (n : Option ℕ) (before after : Scene) (k : ℕ) → IsShowable before → IsShowable after → remains n before after k ≡ false →
    IsInside (look_of before) n k ⊎ IsInside (look_of after) n k
others-inside n before after k b a off = elim (and_cases _ _ off) [
  | inl unshown ↦ elim (and_cases _ _ unshown) [
    | inl out ↦ inl (unseen-inside before n k out)
    | inr out ↦ inr (unseen-inside after n k out)
  ]
  | inr parts ↦ elim (and_cases _ _ parts) [
    | inl part ↦ inl (part-inside before n k b (not-false _ part))
    | inr part ↦ inr (part-inside after n k a (not-false _ part))
  ]
]

-- What a change does not name lays the same where it has the same items and the same bars.
none-before : (bs : List Item) → same_by same_item [] bs ≡ true → bs ≡ []
none-before [] same = refl
none-before (b ∷ bs) same = cc

none-after : (as' : List Item) → same_by same_item as' [] ≡ true → as' ≡ []
none-after [] same = refl
none-after (a ∷ as') same = cc

scenes-lay : (scene : Scene) (change : Change) → IsValid scene → answer_of scene change ≡ None →
    LaySame same_item (named change) (look_of scene) (look_of (scene_after scene change))
scenes-lay scene change v done e x y other same bars_same = elim (cases_Bool e.is_bars) [
  | inl is ↦ rw is (items-lay scene.fonts after.fonts scene.images after.images [] (assets-stay scene change v done) x y (bars scene k) (bars after k) (bars-ready scene k) bars_same)
  | inr isnt ↦ rw isnt (by (object_at scene k) (object_at after k) refl refl)
] where
  after : Scene
  after = scene_after scene change

  k : ℕ
  k = e.handle

  by : (old new : Option Object) → object_at scene k ≡ old → object_at after k ≡ new → map (dab_at x y) (coats scene k) ≡ map (dab_at x y) (coats after k)
  by None new was is =
      let before : items scene k ≡ [] = rw was refl in
      let later = none-before (items after k) (rw before at same) in
      rw (before, later) refl
  by (Some old) None was is =
      let later : items after k ≡ [] = rw is refl in
      let before = none-after (items scene k) (rw later at same) in
      rw (before, later) refl
  by (Some old) (Some new) was is =
      let text : chars_at after k ≡ chars_at scene k = rw (is, was) (ap chars (text-stays scene change k old new v other was is)) in
      rw text (items-lay scene.fonts after.fonts scene.images after.images (chars_at scene k) (assets-stay scene change v done) x y (items scene k) (items after k) (scene-ready scene k v) same)

-- All that is touched is seen in the panel.
all-flat : {A B : Type 0} (p : B → Bool) (f : A → List B) → ((a : A) → list_all p (f a) ≡ true) → (as' : List A) → list_all p (flat_map f as') ≡ true
all-flat p f each [] = refl
all-flat p f each (a ∷ as') = list_all-append p (f a) (flat_map f as') ∙ and_from _ _ (each a) (all-flat p f each as')

listed-within : (panel : Rect) (v : Option Rect) → fits panel v ≡ true → list_all (is_within panel) (listed v) ≡ true
listed-within panel None fit = refl
listed-within panel (Some area) fit = rw fit refl

owed-within : (panel : Rect) (old new : Option Rect) → fits panel old ≡ true → fits panel new ≡ true →
    list_all (is_within panel) (listed old ++ (if same_visible old new then [] else listed new)) ≡ true
owed-within panel old new o n =
    list_all-append (is_within panel) (listed old) (if same_visible old new then [] else listed new)
    ∙ and_from _ _ (listed-within panel old o) (elim (cases_Bool (same_visible old new)) [
      | inl same ↦ rw same refl
      | inr other ↦ rw other (listed-within panel new n)
    ])

abbrev panel_by : Bounds → Rect
panel_by limits = area_at (pos 0) (pos 0) limits.width limits.height

pub touched_within_panel : (scene : Scene) (change : Change) → list_all (is_within (panel_of scene)) (touched_areas_of scene change) ≡ true
touched_within_panel scene change = by (answer_of scene change) where
  by : (answer : Option Refusal) → list_all (is_within (panel_of scene)) (touched_areas_by answer scene change) ≡ true
  by (Some refusal) = refl
  by None =
      let after = scene_after scene change in
      let old = look_of scene in
      let new = look_of after in
      let panel : panel_of after ≡ panel_of scene = ap panel_by (after_keeps scene change) in
      all-flat (is_within (panel_of scene)) (owed_by old new)
      (λ k. owed-within (panel_of scene) (visible scene k) (visible after k) (visible_fits scene k) (ap (λ p. fits p (visible after k)) (sym panel) ∙ visible_fits after k))
      (touched same_item (named change) old new)

-- The grid of a panel that consists of whole blocks rounds.
grid_rounds : (scene : Scene) → HasWholeBlocks scene.limits → IsRounding (grid_in scene.limits)
grid_rounds scene (gridded whole) = gridded_sound scene.limits.block (panel_of scene) whole

pub frame_of_scenes : FrameOfScenes
frame_of_scenes scene change x y v c free =
    let out = free_of_rounded (grid_in scene.limits) (grid_rounds scene v.blocks) (touched_areas_of scene change) x y (touched_within_panel scene change) free in
    by (answer_of scene change) refl (change_keeps_valid scene change v c) (others_keep_order scene change v c) out
  where
    by : (answer : Option Refusal) → answer_of scene change ≡ answer → IsValid (scene_by answer scene change) → KeepOrder (named change) scene (scene_by answer scene change) →
        covered (touched_areas_by answer scene change) x y ≡ false → paint (scene_by answer scene change) x y ≡ paint scene x y
    by (Some refusal) done w keeps out = refl
    by None done w keeps out =
        let after = scene_after scene change in
        let n = named change in
        let kept : KeepsOrder n (look_of scene) (look_of after) (remains n scene after) =
        record { order = keeps; others = λ k off. others-inside n scene after k (valid_is_showable scene v) (valid_is_showable after w) off } in
        let laid = frame_of_looks same_item n (look_of scene) (look_of after) (remains n scene after) x y (scene_is_look scene) (scene_is_look after)
        (scenes-lay scene change v done) kept out in
        painted_by_look after x y ∙ ap (fold over black) laid ∙ sym (painted_by_look scene x y)

-- What debts are.
pub refused_owes_nothing : RefusedOwesNothing
refused_owes_nothing scene change refused = ap (map (grid_in scene.limits).round) (by (answer_of scene change) refused) where
  by : (answer : Option Refusal) → is_some answer ≡ true → touched_areas_by answer scene change ≡ []
  by None e = absurd (false≢true e)
  by (Some refusal) e = refl

pub debt_within_panel : DebtWithinPanel
debt_within_panel scene change blocks = rounded_within (grid_in scene.limits) (grid_rounds scene blocks) (touched_areas_of scene change) (touched_within_panel scene change)

pub debt_is_round : DebtIsRound
debt_is_round scene change blocks = rounded_round (grid_in scene.limits) (grid_rounds scene blocks) (touched_areas_of scene change) (touched_within_panel scene change)
