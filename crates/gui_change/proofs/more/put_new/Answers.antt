use Rattle.std.proofs.Common.{◌≡◌, ◌∙◌, not, sym, ap, true, false, is_some}
use Rattle.std.proofs.lemmas.Bool.{both_ways}
use Rattle.gui_pool.specs.Table.{value_at}
use Rattle.gui_change.proofs.Reordering.{copied-some}
use Rattle.gui_change.proofs.more.put_new.Goals as goal
use Rattle.gui_change.proofs.more.put_new.Goals.{After-is_none}

-- whether something is known of the parent
known : (c : After-is_none) → is_some (value_at c.args.table.now c.args.parent.0) ≡ not c.is_none.result
known c = ap is_some (sym c.get.ensures) ∙ (copied-some c.get.result ∙ c.is_none.ensures)

pub returns-then-is_none-clause-put : goal.returns-then-is_none-clause-put
returns-then-is_none-clause-put c some =
    absurd (both_ways (is_some (value_at c.args.table.now c.args.parent.0)) (known (goal.at.returns-then-is_none-clause-put c).After-is_none ∙ ap not c.if-is_none.true) some)

is : (c : After-is_none) → c.is_none.result ≡ false → is_some (value_at c.args.table.now c.args.parent.0) ≡ true
is c some = known c ∙ ap not some

pub put-requires-clause-within : goal.put-requires-clause-within
put-requires-clause-within c = c.requires.within (is (goal.at.put-requires-clause-within c).After-is_none c.if-is_none.false)

pub put-requires-clause-vacant : goal.put-requires-clause-vacant
put-requires-clause-vacant c = c.requires.vacant (is (goal.at.put-requires-clause-vacant c).After-is_none c.if-is_none.false)

pub put-requires-clause-room : goal.put-requires-clause-room
put-requires-clause-room c = c.requires.room (is (goal.at.put-requires-clause-room c).After-is_none c.if-is_none.false)

pub returns-clause-put : goal.returns-clause-put
returns-clause-put c some = record { value = c.nothing.result; sight = c.nothing.ensures.sight; items = c.nothing.ensures.items; is = c.put.ensures }

pub returns-clause-same : goal.returns-clause-same
returns-clause-same c none =
    absurd (both_ways (is_some (value_at c.args.table.now c.args.parent.0)) none (is (goal.at.returns-clause-same c).After-is_none c.if-is_none.false))
