use Rattle.gui_store.specs.Views.{scene_of}
use Rattle.std.proofs.Common.{None}
use Rattle.gui_change.proofs.SeenAgain.{shown-still, then-again}
use Rattle.gui_change.proofs.seeing.see_both.Goals as goal

pub see_one-requires-2-clause-shown : goal.see_one-requires-2-clause-shown
see_one-requires-2-clause-shown c = shown-still (scene_of c.args.after.now.store.now) c.args.table.now c.see_one.new.table c.see_one.ensures.sees.listing c.requires.shown

pub returns-clause-sees : goal.returns-clause-sees
returns-clause-sees c =
    then-again None (scene_of c.args.after.now.store.now) c.args.table.now c.see_one.new.table c.see_one-2.new.table c.args.damage.now c.see_one.new.damage c.see_one-2.new.damage c.see_one.ensures.sees c.see_one-2.ensures.sees

pub returns-clause-own : goal.returns-clause-own
returns-clause-own c = c.see_one-2.ensures.sees.seen c.args.h.0 c.see_one.ensures.own
