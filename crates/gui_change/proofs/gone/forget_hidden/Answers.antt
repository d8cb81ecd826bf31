use Rattle.std.proofs.Common.{◌≡◌, ◌∙◌, ◌∷◌, ◌+◌, ◌++◌, refl, sym, ap, subst, drop, get_or, List, false}
use Rattle.std.specs.Prelude.{option_map}
use Rattle.std.specs.List.{flat_map}
use Rattle.std.proofs.lemmas.List.{drop_all}
use Rattle.gui_base.specs.declared.Handle.{Handle}
use Rattle.gui_damage.specs.Gridded.{added_all_in}
use Rattle.gui_boxes.specs.Listing.{HasThese}
use Rattle.gui_boxes.proofs.These.{these_after}
use Rattle.gui_store.specs.Views.{scene_of}
use Rattle.gui_tree.specs.Handles.{numbers}
use Rattle.gui_change.specs.Gone.{gone_of, owed_gone, shown_of}
use Rattle.gui_concerns.specs.Handles.{number_of}
use Rattle.gui_change.proofs.Missing.{gone-other, gone-shown, hidden-begins}
use Rattle.gui_boxes.proofs.Entered.{now as next_of, nothing as nobody}
use Rattle.gui_change.proofs.Renewing.{first-some, one_less, one_gone, value-still}
use Rattle.gui_change.proofs.gone.forget_hidden.Goals as goal
use Rattle.gui_change.proofs.gone.forget_hidden.Goals.{After-is_shown}

pub loop-h-init : goal.loop-h-init
loop-h-init c = record {
  these = hidden-begins (scene_of c.args.store.now) (scene_of c.args.store.now).limits.objects c.args.table.now c.args.listed.now c.requires.these;
  rest = λ h s found. found;
  owed = refl;
}

-- what is left, one object after another
here : (c : After-is_shown) → gone_of (scene_of c.args.store.now) (drop c.loop-h.h-index c.args.listed.now)
    ≡ gone_of (scene_of c.args.store.now) (get_or c.args.listed.now c.loop-h.h-index nobody ∷ drop (c.loop-h.h-index + 1) c.args.listed.now)
here c = ap (gone_of (scene_of c.args.store.now)) (next_of c.args.listed.now c.loop-h.h-index c.loop-h-test.true)

pub loop-h-preserved-then-is_shown : goal.loop-h-preserved-then-is_shown
loop-h-preserved-then-is_shown c =
    let d = (goal.at.loop-h-preserved-then-is_shown c).After-is_shown in
    let scene = scene_of c.args.store.now in
    let hs = c.args.listed.now in
    let i = c.loop-h.h-index in
    let owes = owed_gone (option_map number_of c.args.named) c.args.table.now in
    let step = here d ∙ gone-shown scene (get_or hs i nobody) (drop (i + 1) hs) (sym c.is_shown.ensures ∙ c.if-is_shown.true) in
    record {
      these = subst (λ (ks : List Handle). HasThese scene.limits.objects c.loop-h.table (ks ++ shown_of scene hs)) step c.loop-h.invariant.these;
      rest = c.loop-h.invariant.rest;
      owed = ap (λ (ks : List Handle). added_all_in c.loop-h.damage (flat_map owes (numbers ks))) (sym step) ∙ c.loop-h.invariant.owed;
    }

-- the next one that is shown no longer
step : (c : After-is_shown) → c.is_shown.result ≡ false → gone_of (scene_of c.args.store.now) (drop c.loop-h.h-index c.args.listed.now)
    ≡ get_or c.args.listed.now c.loop-h.h-index nobody ∷ gone_of (scene_of c.args.store.now) (drop (c.loop-h.h-index + 1) c.args.listed.now)
step c other =
    let hs = c.args.listed.now in
    let i = c.loop-h.h-index in
    here c ∙ gone-other (scene_of c.args.store.now) (get_or hs i nobody) (drop (i + 1) hs) (sym c.is_shown.ensures ∙ other)

pub loop-h-preserved : goal.loop-h-preserved
loop-h-preserved c =
    let d = (goal.at.loop-h-preserved c).After-is_shown in
    let scene = scene_of c.args.store.now in
    let objects = scene.limits.objects in
    let hs = c.args.listed.now in
    let i = c.loop-h.h-index in
    let h = get_or hs i nobody in
    let t = c.loop-h.table in
    let owes = owed_gone (option_map number_of c.args.named) c.args.table.now in
    let rest = gone_of scene (drop (i + 1) hs) in
    let more = step d c.if-is_shown.false in
    let these = subst (λ (ks : List Handle). HasThese objects t (ks ++ shown_of scene hs)) more c.loop-h.invariant.these in
    let some = first-some objects t h (rest ++ shown_of scene hs) these in
    let still = value-still c.args.table.now t h.0 c.loop-h.invariant.rest some in
    record {
      these = these_after objects t c.remove.new.self h (rest ++ shown_of scene hs) c.remove.result c.remove.ensures.value c.remove.ensures.removes these;
      rest = λ k s found. c.loop-h.invariant.rest k s (one_less t c.remove.new.self h.0 c.remove.result c.remove.ensures.value c.remove.ensures.removes some k s found);
      owed = one_gone owes h rest c.loop-h.damage c.owe.new.damage _
          (ap (λ (ks : List Handle). added_all_in c.loop-h.damage (flat_map owes (numbers ks))) (sym more) ∙ c.loop-h.invariant.owed)
          (rw (c.is_named.ensures, c.get.ensures, still) at c.owe.ensures);
    }

pub returns-clause-these : goal.returns-clause-these
returns-clause-these c =
    let scene = scene_of c.args.store.now in
    let none = ap (gone_of scene) (drop_all c.loop-h.h-index c.args.listed.now c.loop-h-test.false) in
    subst (λ (xs : List Handle). HasThese scene.limits.objects c.loop-h.table (xs ++ shown_of scene c.args.listed.now)) none c.loop-h.invariant.these

pub returns-clause-debt : goal.returns-clause-debt
returns-clause-debt c =
    let scene = scene_of c.args.store.now in
    let none = ap (gone_of scene) (drop_all c.loop-h.h-index c.args.listed.now c.loop-h-test.false) in
    ap (λ (xs : List Handle). added_all_in c.loop-h.damage (flat_map (owed_gone (option_map number_of c.args.named) c.args.table.now) (numbers xs))) (sym none) ∙ c.loop-h.invariant.owed
