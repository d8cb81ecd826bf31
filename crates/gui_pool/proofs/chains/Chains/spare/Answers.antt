use Rattle.std.proofs.Common.{◌≡◌, ◌+◌, length, sym, ap, subst, ◌∙◌}
use Rattle.gui_pool.specs.Lists.{total}
use Rattle.gui_pool.specs.Texts.{Texts, chunks_used}
use Rattle.gui_pool.proofs.Chained.{chunks-add_up}
use Rattle.gui_pool.proofs.chains.Chains.spare.Goals as goal

pub returns-clause-sum : goal.returns-clause-sum
returns-clause-sum c =
    let s = c.self.inside in
    let all : total s.chunks + s.chunks.spare ≡ s.chunks.size = ap (λ n. total s.chunks + n) (sym c.spare.ensures.value) ∙ c.spare.ensures.sum in
    ap (λ n. chunks_used c.args.self.now + n) c.spare.ensures.value
    ∙ subst (λ (t : Texts). chunks_used t + s.chunks.spare ≡ length t.texts) c.self.view_is (chunks-add_up s.lens s.chunks c.self.invariant all)
