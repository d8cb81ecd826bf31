use denote.Ref.{Bor}
use Rattle.gui_store.proofs.Common.{tests, first-some, ◌≡◌, ◌∙◌, sym, ap, true, Some, Ok, option_map, arith, err_from_is_err_and, row_set, Unknown, Row, shown_row, row_shown, has, parts_of, scene_of}
use Rattle.gui_store.proofs.Edits.{found-kept, row-done, row-absent}
use Rattle.gui_store.proofs.Kept.{Left, there-is, read-on, read-off, read-row, refused, err-some, ok-none}
use Rattle.gui_store.proofs.store.Store.change_row.Goals as goal
use Rattle.gui_store.proofs.store.Store.change_row.Goals.{In-Some, In-Some-get, After-set}

abbrev seen : Bor Row → Row
seen row = shown_row row.now

sets : (c : In-Some) → row_set c.args.change.now ≡ Some c.in-Some.setter.handle
sets c = grind (arith, c.in-Some.is, c.setter_of.ensures)

read : (c : In-Some-get) → Some (shown_row c.in-Some-get.row.now) ≡ row_shown c.args.self.now.rows.rows c.in-Some.setter.handle.0
read c = ap (option_map seen) (sym c.in-Some-get.is) ∙ c.get.ensures.value

there : (c : In-Some-get) → has c.args.self.now.tree.forest c.in-Some.setter.handle.0 ≡ true
there c = read-on (parts_of c.args.self.now) c.args.self.now.kept c.in-Some.setter.handle.0 _ (read c)

set_done : (c : After-set) → row_set c.args.change.now ≡ Some c.in-Some.setter.handle → has c.args.self.now.tree.forest c.in-Some.setter.handle.0 ≡ true →
    Left (parts_of c.args.self.now) c.args.change.now (record (parts_of c.args.self.now) { rows = c.set.new.self.rows; spare_texts = c.set.new.self.spare_texts }) (Ok tt)
set_done c set on =
    let p = parts_of c.args.self.now in
    let k = c.args.self.now.kept in
    let h = c.in-Some.setter.handle in
    let passed = ok-none _ _ (sym c.check_row.ensures ∙ c.in_ok-check_row.was) in
    let found = found-kept p k h.0 on in
    row-done p k c.args.change.now h c.requires.in_range c.requires.plain set passed on c.set.new.self (rw found at c.set.ensures)

pub returns-in_default-get : goal.returns-in_default-get
returns-in_default-get c =
    let p = parts_of c.args.self.now in
    let k = c.args.self.now.kept in
    let h = c.in-Some.setter.handle in
    let off = there-is p h.0 ∙ read-off p k h.0 (ap (option_map seen) (sym c.in_default-get.is) ∙ c.get.ensures.value) in
    refused p k c.args.change.now Unknown (row-absent p k c.args.change.now h (sets (goal.at.returns-in_default-get c).In-Some) off)

pub check_row-requires-clause-there : goal.check_row-requires-clause-there
check_row-requires-clause-there c =
    there-is (parts_of c.args.self.now) c.in-Some.setter.handle.0 ∙ there (goal.at.check_row-requires-clause-there c).In-Some-get

pub check_row-requires-clause-row : goal.check_row-requires-clause-row
check_row-requires-clause-row c =
    read-row (parts_of c.args.self.now) c.args.self.now.kept c.in-Some.setter.handle.0 _ (read (goal.at.check_row-requires-clause-row c).In-Some-get)

pub returns-in_err-check_row : goal.returns-in_err-check_row
returns-in_err-check_row c =
    let p = parts_of c.args.self.now in
    let q = err_from_is_err_and c.from_residual.result c.from_residual.ensures.1 in
    let why = first-some (tests (scene_of c.args.self.now) c.args.change.now) _ _ (err-some _ _ (sym c.check_row.ensures ∙ c.in_err-check_row.was)) in
    rw (q.1, q.2) (refused p c.args.self.now.kept c.args.change.now _ why)

pub invariant_of-self : goal.invariant_of-self
invariant_of-self c = let at = goal.at.invariant_of-self c in record { kept = (set_done at.After-set (sets at.In-Some) (there at.In-Some-get)).kept }

pub returns : goal.returns
returns c = let at = goal.at.returns c in (set_done at.After-set (sets at.In-Some) (there at.In-Some-get)).is
