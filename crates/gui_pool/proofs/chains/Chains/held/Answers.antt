use Rattle.std.proofs.Common.{◌≡◌, suc, ◌-◌, true, is_some, subst, sym, ap, ◌∙◌, arith}
use Rattle.gui_pool.specs.Texts.{Texts, text_of, need_in}
use Rattle.gui_pool.specs.KeptTexts.{texts_in}
use Rattle.gui_pool.proofs.Chained.{held_chunks}
use Rattle.gui_pool.proofs.chains.Chains.held.Goals as goal

pub len-requires : goal.len-requires
len-requires c =
    let s = c.self.inside in let slot = c.args.id.0 - 1 in
    let some = c.if-id-eq0.false in
    let one : c.args.id.0 ≡ suc slot = omega arith in
    let there : is_some (text_of (texts_in s.lens s.chunks) c.args.id.0) ≡ true = subst (λ (t : Texts). is_some (text_of t c.args.id.0) ≡ true) (sym c.self.view_is) c.requires in
    (held_chunks s.lens s.chunks c.self.invariant slot (subst (λ k. is_some (text_of (texts_in s.lens s.chunks) k) ≡ true) one there)).0

pub returns : goal.returns
returns c =
    let s = c.self.inside in let slot = c.args.id.0 - 1 in
    let some = c.if-id-eq0.false in
    let one : c.args.id.0 ≡ suc slot = omega arith in
    let there : is_some (text_of (texts_in s.lens s.chunks) c.args.id.0) ≡ true = subst (λ (t : Texts). is_some (text_of t c.args.id.0) ≡ true) (sym c.self.view_is) c.requires in
    c.len.ensures
    ∙ (held_chunks s.lens s.chunks c.self.invariant slot (subst (λ k. is_some (text_of (texts_in s.lens s.chunks) k) ≡ true) one there)).1
    ∙ ap (λ k. need_in (text_of (texts_in s.lens s.chunks) k)) (sym one)
    ∙ ap (λ (t : Texts). need_in (text_of t c.args.id.0)) c.self.view_is
