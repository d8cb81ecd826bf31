use Rattle.std.proofs.Common.{◌≡◌, ◌∙◌, sym, ap, List, length, get_or, arith}
use Rattle.scene_defs.specs.Shown.{own}
use Rattle.gui_change.specs.declared.entries.Entry.{Entry}
use Rattle.gui_change.proofs.Lending.{bars_listed, no_entry, none_listed}
use Rattle.gui_change.proofs.scene_look.SceneLook.is_bars_at.Goals as goal

pub returns-then-n-listed : goal.returns-then-n-listed
returns-then-n-listed c scene shows =
    let look = c.args.self.now in
    let count : length c.as_slice-listed.result.now ≡ length look.entries.items = ap length c.as_slice-listed.ensures.value in
    none_listed look scene shows c.args.n (omega arith)

pub returns : goal.returns
returns c scene shows =
    let look = c.args.self.now in
    let listed : c.as_slice-listed.result.now ≡ look.entries.items = c.as_slice-listed.ensures.value in
    let count : length c.as_slice-listed.result.now ≡ length look.entries.items = ap length listed in
    ap (λ (es : List Entry). (get_or es c.args.n no_entry).is_bars) listed ∙ sym (bars_listed look scene shows c.args.n (omega arith) (own 0))
