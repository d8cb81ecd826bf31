use Rattle.std.proofs.Common.{◌∙◌, ap, subst, sym, ℕ}
use Rattle.gui_base.specs.Forest.{Forest}
use Rattle.gui_store.specs.Views.{scene_of}
use Rattle.gui_layout.specs.Raised.{Rests, rests}
use Rattle.gui_layout.proofs.Reordered.{still-settled}
use Rattle.gui_layout.proofs.Resting.{it-rests}
use Rattle.gui_layout.proofs.places.Places.rests.Goals as goal

pub returns : goal.returns
returns c =
    let here = c.args.self.now in
    let h = c.args.h.0 in record {
      when = c.rests.ensures ∙ ap (λ (f : Forest ℕ). rests f here.entries h) c.tree.ensures.forest;
      settled = λ before is settled reordered.
          still-settled here before (scene_of c.args.store.now) h settled c.args.store.now.kept.valid reordered
          (subst (λ (f : Forest ℕ). Rests f here.entries h) c.tree.ensures.forest (it-rests _ here.entries h (sym c.rests.ensures ∙ is)));
    }
