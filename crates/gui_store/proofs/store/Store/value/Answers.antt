use denote.Ref.{Bor}
use Rattle.gui_store.proofs.Common.{arith, ◌∙◌, sym, ap, option_map, Row, shown_row, parts_of, refl}
use Rattle.gui_store.proofs.Kept.{there-is, read-row}
use Rattle.gui_store.proofs.store.Store.value.Goals as goal

abbrev seen : Bor Row → Row
seen row = shown_row row.now

pub unreachable-requires : goal.unreachable-requires
unreachable-requires c =
    grind (arith, c.requires, c.in_default.is, c.get.ensures, there-is (parts_of c.args.self.now) c.args.h.0, c.args.self.now.kept.rows c.args.h.0)

pub value_by_row-requires : goal.value_by_row-requires
value_by_row-requires c =
    (ap (option_map seen) (sym c.in-Some.is) ∙ c.get.ensures.value) ∙ read-row (parts_of c.args.self.now) c.args.self.now.kept c.args.h.0 _ refl
