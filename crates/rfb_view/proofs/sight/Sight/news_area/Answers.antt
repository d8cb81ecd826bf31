use Rattle.std.proofs.Common.{◌≡◌, ◌∙◌, sym, ap, ℕ, ◌+◌, ◌*◌, arith}
use Rattle.std.proofs.lemmas.Nat.{mul-le}
use Rattle.gui_base.specs.Area.{Rect}
use Rattle.session_defs.specs.Updates.{news_area}
use Rattle.rfb_view.specs.Sights.{with_untold}
use Rattle.rfb_view.proofs.Lines.{block, news_to, news_above, news_more, news_below}
use Rattle.rfb_view.proofs.sight.Sight.news_area.Goals as goal

pub loop-line-init : goal.loop-line-init
loop-line-init c =
    let b = c.block_of-block.result in
    let here : b.top ≡ b.top + 0 = omega arith in
    c.no_pixel-news.ensures
    ∙ sym (news_above c.args.width c.args.self.now c.args.colors.now b.left b.top b.columns b.lines c.block_of-block.ensures.some)
    ∙ ap (λ (y : ℕ). news_to c.args.width c.args.self.now c.args.colors.now (block b.left b.top b.columns b.lines) y) here

pub join_news-news-requires-clause-high : goal.join_news-news-requires-clause-high
join_news-news-requires-clause-high c =
    let b = c.block_of-block.result in
    omega (arith, c.requires.each, mul-le (b.top + c.loop-line.line + 1) c.args.width c.args.height c.args.width (omega (arith, c.loop-line-test.true, c.block_of-block.ensures.high)) (omega arith))

pub loop-line-preserved : goal.loop-line-preserved
loop-line-preserved c =
    let b = c.block_of-block.result in
    let y : ℕ = b.top + c.loop-line.line in
    let next : y + 1 ≡ b.top + (c.loop-line.line + 1) = omega arith in
    c.join_news-news.ensures
    ∙ ap (λ (area : Rect). with_untold c.args.width c.args.self.now c.args.colors.now (y * c.args.width + b.left) b.columns area) c.loop-line.invariant
    ∙ sym (news_more c.args.width c.args.self.now c.args.colors.now b.left b.top b.columns b.lines y c.block_of-block.ensures.wide (omega arith) (omega (arith, c.loop-line-test.true)))
    ∙ ap (λ (z : ℕ). news_to c.args.width c.args.self.now c.args.colors.now (block b.left b.top b.columns b.lines) z) next

pub returns : goal.returns
returns c =
    let b = c.block_of-block.result in
    let all : b.top + c.loop-line.line ≡ b.top + b.lines = omega (arith, c.loop-line-test.false, c.loop-line.auto.line-end) in
    c.loop-line.invariant
    ∙ ap (λ (y : ℕ). news_to c.args.width c.args.self.now c.args.colors.now (block b.left b.top b.columns b.lines) y) all
    ∙ sym (news_below c.args.width c.args.self.now c.args.colors.now b.left b.top b.columns b.lines c.args.height c.block_of-block.ensures.some c.block_of-block.ensures.high c.requires.each)
    ∙ ap (λ (area : Rect). news_area c.args.width c.args.colors.now c.args.self.now area) (sym c.block_of-block.ensures.block)
