use Rattle.std.proofs.Common.{sym, subst}
use Rattle.gui_concerns.specs.declared.concerned.Concerned.{Concerned}
use Rattle.gui_debts.specs.Sights.{KeepOthers}
use Rattle.gui_change.proofs.Joining.{keeps-but}
use Rattle.std.specs.Prelude.{option_map}
use Rattle.gui_store.specs.Views.{scene_of}
use Rattle.gui_concerns.specs.Handles.{number_of}
use Rattle.gui_change.proofs.Downward.{then-down}
use Rattle.gui_change.proofs.SeenAgain.{shown-still}
use Rattle.gui_change.proofs.shifted.see_standing.Goals as goal

pub see_moved-requires-clause-known : goal.see_moved-requires-clause-known
see_moved-requires-clause-known c =
    let scene = scene_of c.args.after.now.store.now in
    let table = c.see_named_down.new.table in
    let painted = c.args.after.now.painted in
    let named = option_map number_of c.args.named in
    subst (λ (some : Concerned). KeepOthers table some scene) (sym c.but_named.ensures)
    (keeps-but table scene named painted (c.see_named_down.ensures.down.sees.keeps painted c.requires.known) c.see_named_down.ensures.own)

pub see_moved-requires-clause-shown : goal.see_moved-requires-clause-shown
see_moved-requires-clause-shown c =
    shown-still (scene_of c.args.after.now.store.now) c.args.table.now c.see_named_down.new.table c.see_named_down.ensures.down.sees.listing c.requires.shown

pub returns-clause-down : goal.returns-clause-down
returns-clause-down c =
    then-down (option_map number_of c.args.named) (scene_of c.args.after.now.store.now) c.args.table.now c.see_named_down.new.table c.see_moved.new.table c.args.damage.now c.see_named_down.new.damage c.see_moved.new.damage
    c.see_named_down.ensures.down c.see_moved.ensures.down

pub returns-clause-own : goal.returns-clause-own
returns-clause-own c k is = c.see_moved.ensures.down.sees.seen k (c.see_named_down.ensures.own k is)
