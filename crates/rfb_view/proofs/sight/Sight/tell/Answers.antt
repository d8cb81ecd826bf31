use Rattle.std.proofs.Common.{◌∙◌, sym, ap, length, ◌+◌, ◌*◌, ℕ, List, Option}
use Rattle.std.proofs.lemmas.List.FromFn.{length-map-range_with_len}
use Rattle.session_defs.specs.Updates.{Sight, number_at}
use Rattle.rfb_view.specs.Sights.{told_run}
use Rattle.rfb_view.proofs.Told.{area_none, area_more, sent_as}
use Rattle.rfb_view.proofs.sight.Sight.tell.Goals as goal

pub loop-line-init : goal.loop-line-init
loop-line-init c = sent_as c.args.self.now _ (sym (area_none c.args.width c.args.block.left c.args.block.top c.args.block.columns (number_at c.args.self.now.format c.args.colors.now) c.args.self.now.sent))

pub tell_line-requires-clause-known : goal.tell_line-requires-clause-known
tell_line-requires-clause-known c = ap (λ (s : Sight). length s.sent) c.loop-line.invariant ∙ length-map-range_with_len _ 0 (length c.args.self.now.sent) ∙ c.requires.known

pub loop-line-preserved : goal.loop-line-preserved
loop-line-preserved c =
    let b = c.args.block in
    let s : Sight = c.args.self.now in
    let numbers : ℕ → ℕ = number_at s.format c.args.colors.now in
    c.tell_line.ensures
    ∙ ap (λ (k : ℕ). told_run k c.from.result c.args.colors.now c.loop-line.self) c.first.ensures
    ∙ ap (λ (k : ℕ). told_run ((b.top + c.loop-line.line) * c.args.width + b.left) k c.args.colors.now c.loop-line.self) c.from.ensures
    ∙ ap (λ (t : Sight). told_run ((b.top + c.loop-line.line) * c.args.width + b.left) b.columns c.args.colors.now t) c.loop-line.invariant
    ∙ ap (λ (known : List (Option ℕ)). let other : Sight = record s { sent = known } in other) (area_more c.args.width b.left b.top b.columns numbers c.loop-line.line s.sent c.requires.wide)
