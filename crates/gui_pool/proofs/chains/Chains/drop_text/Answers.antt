use Rattle.std.proofs.Common.{◌≡◌, ℕ, suc, ◌-◌, Option, Some, true, is_some, subst, sym, ap, ◌∙◌, arith}
use Rattle.std.specs.Prelude.{OnSome}
use Rattle.gui_pool.specs.Slots.{Slots, get, removed}
use Rattle.gui_pool.specs.Texts.{Texts, text_of, dropped}
use Rattle.gui_pool.specs.KeptTexts.{AreTexts, texts_in}
use Rattle.gui_pool.proofs.Chained.{drop_within, drop_shows, drop_kept, text_held}
use Rattle.gui_pool.proofs.chains.Chains.drop_text.Goals as goal

one_more : (c : goal.After-clear-arg-1) → c.args.id.0 ≡ suc (c.args.id.0 - 1)
one_more c = let some = c.if-id-eq0.false in omega arith

held : (c : goal.After-clear-arg-1) → (n : ℕ) × (get c.self.inside.lens (c.args.id.0 - 1) ≡ Some n)
held c =
    let s = c.self.inside in
    let there : is_some (text_of (texts_in s.lens s.chunks) c.args.id.0) ≡ true = subst (λ (t : Texts). is_some (text_of t c.args.id.0) ≡ true) (sym c.self.view_is) c.requires in
    text_held s.lens s.chunks (c.args.id.0 - 1) (subst (λ k. is_some (text_of (texts_in s.lens s.chunks) k) ≡ true) (one_more c) there)

pub clear-requires : goal.clear-requires
clear-requires c =
    let s = c.self.inside in drop_within s.lens s.chunks c.self.invariant (c.args.id.0 - 1) (held c).0 (held c).1

pub invariant_of-self : goal.invariant_of-self
invariant_of-self c =
    let s = c.self.inside in let slot = c.args.id.0 - 1 in
    let some = c.if-id-eq0.false in
    let one : c.args.id.0 ≡ suc slot = omega arith in
    let there : is_some (text_of (texts_in s.lens s.chunks) c.args.id.0) ≡ true = subst (λ (t : Texts). is_some (text_of t c.args.id.0) ≡ true) (sym c.self.view_is) c.requires in
    let h = text_held s.lens s.chunks slot (subst (λ k. is_some (text_of (texts_in s.lens s.chunks) k) ≡ true) one there) in
    let taken = subst (λ (o : Option ℕ). OnSome o (c.take.new.self ≡ removed s.lens slot)) (c.take.ensures.value ∙ h.1) c.take.ensures.removes in
    subst (λ (l : Slots ℕ). AreTexts l c.clear.new.self) (sym taken) (subst (AreTexts (removed s.lens slot)) (sym c.clear.ensures) (drop_kept s.lens s.chunks c.self.invariant slot h.0 h.1))

pub returns : goal.returns
returns c =
    let s = c.self.inside in let slot = c.args.id.0 - 1 in
    let some = c.if-id-eq0.false in
    let one : c.args.id.0 ≡ suc slot = omega arith in
    let there : is_some (text_of (texts_in s.lens s.chunks) c.args.id.0) ≡ true = subst (λ (t : Texts). is_some (text_of t c.args.id.0) ≡ true) (sym c.self.view_is) c.requires in
    let h = text_held s.lens s.chunks slot (subst (λ k. is_some (text_of (texts_in s.lens s.chunks) k) ≡ true) one there) in
    let taken = subst (λ (o : Option ℕ). OnSome o (c.take.new.self ≡ removed s.lens slot)) (c.take.ensures.value ∙ h.1) c.take.ensures.removes in
    ap (λ (l : Slots ℕ). texts_in l c.clear.new.self) taken
    ∙ ap (texts_in (removed s.lens slot)) c.clear.ensures
    ∙ drop_shows s.lens s.chunks c.self.invariant slot h.0 h.1
    ∙ ap (λ (t : Texts). dropped t (suc slot)) c.self.view_is
    ∙ ap (dropped c.args.self.now) (sym one)
