use Rattle.std.proofs.Common.{◌≡◌, ◌∙◌, sym, ap, List, length, get_or, arith}
use Rattle.gui_pool.specs.Table.{value_at}
use Rattle.gui_change.specs.declared.entries.Entry.{Entry}
use Rattle.gui_change.proofs.Lending.{listed_known, no_entry, shown_at}
use Rattle.gui_change.proofs.scene_look.SceneLook.at.Goals as goal

pub returns-in_err-seen : goal.returns-in_err-seen
returns-in_err-seen c scene valid shows =
    let look = c.args.self.now in
    let listed : c.as_slice-listed.result.now ≡ look.entries.items = c.as_slice-listed.ensures.value in
    let count : length c.as_slice-listed.result.now ≡ length look.entries.items = ap length listed in
    listed_known look scene shows c.args.n (omega arith)
    (ap (λ (es : List Entry). value_at look.seen (get_or es c.args.n no_entry).h.0) (sym listed) ∙ sym c.in_err-seen.ensures)

pub returns : goal.returns
returns c scene valid shows =
    let look = c.args.self.now in
    let listed : c.as_slice-listed.result.now ≡ look.entries.items = c.as_slice-listed.ensures.value in
    let count : length c.as_slice-listed.result.now ≡ length look.entries.items = ap length listed in
    shown_at look scene shows c.args.n (omega arith) _ valid (ap (λ (es : List Entry). (get_or es c.args.n no_entry).h) listed) (ap (λ (es : List Entry). (get_or es c.args.n no_entry).is_bars) listed) (sym c.in_ok-seen.ensures)
