use Rattle.std.proofs.Common.{◌≡◌, ◌∙◌, ap, not, List, None, is_some}
use Rattle.std.specs.Prelude.{IsSome}
use Rattle.std.proofs.lemmas.Bool.{false≢true}
use Rattle.widget_defs.specs.Items.{Item}
use Rattle.scene_defs.specs.Items.{bars}
use Rattle.scene_defs.specs.Visible.{visible}
use Rattle.gui_store.specs.Views.{scene_of}
use Rattle.gui_debts.specs.Bars.{Kept, items_in, kept_of}
use Rattle.gui_debts.specs.Kept.{Packed, narrow, wide}
use Rattle.gui_debts.specs.Seen.{items_known, place_in}
use Rattle.gui_debts.proofs.Keeping.{bars-seen}
use Rattle.gui_debts.proofs.Sparing.{items-keep, no-area}
use Rattle.gui_debts.proofs.seen.see.Goals as goal

pub returns : goal.returns
returns c =
    let scene = scene_of c.args.store.now in
    let h = c.args.sighting.now.h.0 in
    let at = place_in (items_known c.paints_again.result) in record {
      visible = c.requires.sighted.visible;
      items = λ some. c.paints_again.ensures;
      bars = λ some. ap (λ (p : Packed). items_in (wide p at)) c.keep-2.ensures
          ∙ (ap (λ (k : Kept). items_in (wide (narrow k) at)) c.bars_at.ensures.kept
          ∙ (ap (λ (l : List Item). items_in (wide (narrow (kept_of (bars scene h))) (place_in l))) c.paints_again.ensures ∙ bars-seen scene h));
      keeps = items-keep scene h c.paints_again.result c.paints_again.ensures;
    }

pub returns-then-is_none : goal.returns-then-is_none
returns-then-is_none c =
    let scene = scene_of c.args.store.now in
    let h = c.args.sighting.now.h.0 in
    let none : None ≡ visible scene h = no-area c.args.sighting.now.visible (c.is_none.ensures ∙ ap not c.if-is_none.true) ∙ c.requires.sighted.visible in
    let never = λ (some : IsSome (visible scene h)). false≢true (ap is_some none ∙ some) in record {
      visible = none;
      items = λ some. absurd (never some);
      bars = λ some. absurd (never some);
      keeps = c.paints_kept.ensures scene h c.requires.known;
    }
