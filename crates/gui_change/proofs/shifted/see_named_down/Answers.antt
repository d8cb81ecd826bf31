use Rattle.std.proofs.Common.{◌≡◌, subst, true, sym, Option, Some, option_map}
use Rattle.std.proofs.lemmas.Bool.{eqb-true}
use Rattle.gui_base.specs.declared.Handle.{Handle}
use Rattle.gui_store.specs.Views.{scene_of}
use Rattle.debt_defs.specs.Debt.{is_named}
use Rattle.gui_concerns.specs.Handles.{number_of}
use Rattle.gui_change.specs.Down.{SeesDown}
use Rattle.gui_change.specs.Sees.{IsSeenIn}
use Rattle.gui_change.proofs.Downward.{none-down}
use Rattle.gui_change.proofs.shifted.see_named_down.Goals as goal

pub returns-clause-own : goal.returns-clause-own
returns-clause-own c k is =
    let h = c.in-Some.h in
    let named : is_named (option_map number_of (Some h)) k ≡ true = subst (λ (o : Option Handle). is_named (option_map number_of o) k ≡ true) c.in-Some.is is in
    subst (IsSeenIn c.see_down.new.table (scene_of c.args.after.now.store.now)) (eqb-true h.0 k named) c.see_down.ensures.own

pub returns-in_default-clause-down : goal.returns-in_default-clause-down
returns-in_default-clause-down c =
    let scene = scene_of c.args.after.now.store.now in
    subst (λ (o : Option Handle). SeesDown (option_map number_of o) scene c.args.table.now c.args.table.now c.args.damage.now c.args.damage.now) (sym c.in_default.is)
    (none-down scene c.args.table.now c.args.damage.now)
