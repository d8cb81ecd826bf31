use Rattle.std.proofs.Common.{◌≡◌, suc, ◌-◌, true, Some, is_some, subst, sym, ap, ◌∙◌, arith}
use Rattle.gui_pool.specs.Texts.{Texts, text_of}
use Rattle.gui_pool.specs.KeptTexts.{texts_in}
use Rattle.gui_pool.proofs.Chained.{text_held, length_held}
use Rattle.gui_pool.proofs.chains.Chains.copy_into.Goals as goal

pub unreachable-requires : goal.unreachable-requires
unreachable-requires c =
    let s = c.self.inside in let slot = c.args.id.0 - 1 in
    let some = c.if-id-eq0.false in
    let one : c.args.id.0 ≡ suc slot = omega arith in
    let there : is_some (text_of (texts_in s.lens s.chunks) c.args.id.0) ≡ true = subst (λ (t : Texts). is_some (text_of t c.args.id.0) ≡ true) (sym c.self.view_is) c.requires in
    let h = (text_held s.lens s.chunks slot (subst (λ k. is_some (text_of (texts_in s.lens s.chunks) k) ≡ true) one there)).1 in
    let none = c.in_default.ensures in cc

pub returns : goal.returns
returns c =
    let s = c.self.inside in let slot = c.args.id.0 - 1 in
    let some = c.if-id-eq0.false in
    let one : c.args.id.0 ≡ suc slot = omega arith in
    ap (λ (t : Texts). text_of t c.args.id.0) (sym c.self.view_is)
    ∙ ap (text_of (texts_in s.lens s.chunks)) one
    ∙ (length_held s.lens s.chunks c.self.invariant slot c.in-Some.len.now (sym c.in-Some.ensures)).2
    ∙ ap Some (sym c.copy.ensures)
