-- What commands owe.
use Rattle.std.proofs.Common.{◌≡◌, ◌∙◌, refl, sym, ap, subst, Bool, true, false, ◌||◌, ◌&&◌, List, [], ◌∷◌, ◌++◌, append-nil, append_assoc}
use Rattle.std.specs.Prelude.{ℤ}
use Rattle.std.specs.List.{list_all, AllByRecursion}
use Rattle.std.proofs.lemmas.List.Folds.{list_any-append, list_all-append}
use Rattle.gui_base.specs.Area.{Rect, has, is_within}
use Rattle.gui_base.specs.Limits.{Bounds}
use Rattle.scene_defs.specs.declared.Change.{Change}
use Rattle.scene_defs.specs.Change.{changed}
use Rattle.scene_defs.specs.Picture.{paint}
use Rattle.scene_defs.specs.Place.{panel_of}
use Rattle.scene_defs.specs.Scene.{Scene}
use Rattle.scene_defs.specs.Valid.{HasWholeBlocks, IsValid, IsChange}
use Rattle.scene_defs.proofs.Changes.{change_keeps_limits}
use Rattle.scene_defs.proofs.Validity.{change_keeps_valid}
use Rattle.run_defs.specs.Play.{after_changes}
use Rattle.run_defs.specs.Step.{Step, step}
use Rattle.run_defs.proofs.Steps.{step_changes, step_asks, refused_is_none}
use Rattle.debt_defs.specs.Frame.{covered}
use Rattle.debt_defs.specs.Scenes.{debt_of}
use Rattle.debt_defs.proofs.Scenes.{debt_within_panel, frame_of_scenes}
use Rattle.run_laws.specs.Debts.{CommandWithinPanel, RefusedOwesNothing, OwedHoldsAllThatChanges}
use Rattle.run_defs.specs.Owing.{owed_along}

-- changes owe in order
pub owed-append : (scene : Scene) (cs ds : List Change) → owed_along scene (cs ++ ds) ≡ owed_along scene cs ++ owed_along (after_changes scene cs) ds
owed-append scene [] ds = refl
owed-append scene (c ∷ cs) ds =
    ap (λ (areas : List Rect). debt_of scene c ++ areas) (owed-append (changed scene c) cs ds)
    ∙ sym (append_assoc (debt_of scene c) (owed_along (changed scene c) cs) (owed_along (after_changes (changed scene c) cs) ds))

-- one change owes its debt
pub owed_one : (scene : Scene) (change : Change) → owed_along scene (change ∷ []) ≡ debt_of scene change
owed_one scene change = append-nil (debt_of scene change)

same_panel : (scene : Scene) (change : Change) → panel_of (changed scene change) ≡ panel_of scene
same_panel scene change = ap (λ (b : Bounds). panel_of (record scene { limits = b })) (change_keeps_limits scene change)

both_true : (a b : Bool) → a ≡ true → b ≡ true → (a && b) ≡ true
both_true true b e f = f
both_true false b e f = cc

same_blocks : (scene : Scene) (change : Change) → HasWholeBlocks scene.limits → HasWholeBlocks (changed scene change).limits
same_blocks scene change blocks = subst HasWholeBlocks (sym (change_keeps_limits scene change)) blocks

within : (scene : Scene) (cs : List Change) → HasWholeBlocks scene.limits → list_all (is_within (panel_of scene)) (owed_along scene cs) ≡ true
within scene [] blocks = refl
within scene (c ∷ cs) blocks =
    let rest = subst (λ (r : Rect). list_all (is_within r) (owed_along (changed scene c) cs) ≡ true) (same_panel scene c) (within (changed scene c) cs (same_blocks scene c blocks)) in
    list_all-append (is_within (panel_of scene)) (debt_of scene c) (owed_along (changed scene c) cs)
    ∙ both_true _ _ (debt_within_panel scene c blocks) rest

pub command_within_panel : CommandWithinPanel
command_within_panel machine command blocks = within machine.scene (step machine command).changes blocks

pub refused_command : RefusedOwesNothing
refused_command machine command refusal e = ap (λ (s : Step). owed_along machine.scene s.changes) (refused_is_none machine command refusal e)

left_false : (a b : Bool) → (a || b) ≡ false → a ≡ false
left_false true b e = e
left_false false b e = refl

right_false : (a b : Bool) → (a || b) ≡ false → b ≡ false
right_false true true e = e
right_false true false e = refl
right_false false b e = e

-- a pixel that changes do not owe keeps its paint over all of them
kept : (scene : Scene) (cs : List Change) (x y : ℤ) → IsValid scene → AllByRecursion IsChange cs → covered (owed_along scene cs) x y ≡ false → paint (after_changes scene cs) x y ≡ paint scene x y
kept scene [] x y valid asked out = refl
kept scene (c ∷ cs) x y valid asked out =
    let apart : (covered (debt_of scene c) x y || covered (owed_along (changed scene c) cs) x y) ≡ false =
    sym (list_any-append (λ (area : Rect). has area x y) (debt_of scene c) (owed_along (changed scene c) cs)) ∙ out in
    kept (changed scene c) cs x y (change_keeps_valid scene c valid asked.0) asked.1 (right_false _ _ apart)
    ∙ frame_of_scenes scene c x y valid asked.0 (left_false _ _ apart)

pub owed_holds_all : OwedHoldsAllThatChanges
owed_holds_all machine command x y valid is out =
    ap (λ (s : Scene). paint s x y) (step_changes machine command)
    ∙ kept machine.scene (step machine command).changes x y valid (step_asks machine command is) out
