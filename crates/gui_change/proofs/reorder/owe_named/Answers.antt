use Rattle.std.proofs.Common.{◌≡◌, ◌∙◌, refl, sym, ap, true, false, Option, is_some}
use Rattle.std.specs.Prelude.{option_map}
use Rattle.gui_base.specs.declared.Handle.{Handle}
use Rattle.gui_damage.specs.Gridded.{added_all_in}
use Rattle.gui_pool.specs.Table.{value_at}
use Rattle.gui_concerns.specs.Handles.{number_of}
use Rattle.gui_debts.specs.Owed.{owed, sight_of}
use Rattle.gui_change.specs.Reordered.{owed_by_named}
use Rattle.gui_debts.specs.declared.seen.Seen.{Seen}
use Rattle.gui_change.proofs.Reordering.{copied-some, named-told, nothing-told}
use Rattle.gui_change.proofs.reorder.owe_named.Goals as goal

pub returns-in_default : goal.returns-in_default
returns-in_default c scene seen =
    sym (ap (λ (n : Option Handle). added_all_in c.args.damage.now (owed_by_named (option_map number_of n) c.args.table.now scene)) c.in_default.is)

pub returns-then-is_some : goal.returns-then-is_some
returns-then-is_some c scene seen =
    let t = c.args.table.now in
    let h = c.in-Some.h.0 in
    let named = ap (λ (n : Option Handle). added_all_in c.args.damage.now (owed_by_named (option_map number_of n) t scene)) c.in-Some.is in
    let some = ap is_some (sym c.get-seen.ensures) ∙ (copied-some c.get-seen.result ∙ (sym c.is_some.ensures ∙ c.if-is_some.true)) in
    c.owe.ensures
    ∙ (ap (λ (o : Option Seen). added_all_in c.args.damage.now (owed true (sight_of o) (sight_of o))) c.get-seen.ensures
    ∙ (ap (added_all_in c.args.damage.now) (named-told t scene seen h (value_at t h) refl some) ∙ sym named))

pub returns-else-is_some : goal.returns-else-is_some
returns-else-is_some c scene seen =
    let t = c.args.table.now in
    let h = c.in-Some.h.0 in
    let named = ap (λ (n : Option Handle). added_all_in c.args.damage.now (owed_by_named (option_map number_of n) t scene)) c.in-Some.is in
    let none : is_some (value_at t h) ≡ false = ap is_some (sym c.get-seen.ensures) ∙ (copied-some c.get-seen.result ∙ (sym c.is_some.ensures ∙ c.if-is_some.false)) in
    ap (added_all_in c.args.damage.now) (nothing-told t scene seen h none) ∙ sym named
