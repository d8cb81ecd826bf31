use Rattle.std.proofs.Common.{◌≡◌, ◌≤◌, ℕ, suc, ◌+◌, List, length, count_by, is_some, refl, subst, sym, ap, ◌∙◌, arith}
use Rattle.std.proofs.lemmas.Bool.{eqb-false}
use Rattle.gui_pool.specs.Slots.{Slots, inserted}
use Rattle.gui_pool.specs.Lists.{Lists, total}
use Rattle.gui_pool.specs.Pieces.{filled}
use Rattle.gui_pool.specs.Texts.{Texts, text_of, put, IsFree}
use Rattle.gui_pool.specs.KeptTexts.{AreTexts, texts_in}
use Rattle.gui_pool.proofs.Chained.{none_left, put_shows, put_named, put_kept, no_text}
use Rattle.gui_pool.proofs.chains.Chains.put.Goals as goal

some : (c : goal.After-fill) → (1 ≤ length c.args.text.now) × (length c.args.text.now ≤ 1000)
some c =
    let none = eqb-false (length c.args.text.now) 0 (sym c.if-is_empty.ensures) in
    let short : length c.args.text.now ≤ 1000 = c.requires in
    (omega arith, short)

pub overflow_add-result : goal.overflow_add-result
overflow_add-result c = let small = c.self.invariant.small in let lt = c.in-Ok.ensures.within in omega arith

pub invariant_of-self : goal.invariant_of-self
invariant_of-self c =
    let s = c.self.inside in
    subst (λ (l : Slots ℕ). AreTexts l c.fill.new.chunks) (sym c.in-Ok.ensures.inserts)
    (subst (AreTexts (inserted s.lens c.in-Ok.slot (length c.args.text.now))) (sym c.fill.ensures) (put_kept s.lens s.chunks c.self.invariant c.in-Ok.slot c.in-Ok.ensures.within c.args.text.now (some c)))

pub returns-then-slots-eq0-clause-full : goal.returns-then-slots-eq0-clause-full
returns-then-slots-eq0-clause-full c =
    let s = c.self.inside in
    let ne = eqb-false (length c.args.text.now) 0 (sym c.if-is_empty.ensures) in
    let slots : s.lens.spare ≡ 0 = sym c.spare-slots.ensures.value ∙ c.if-slots-eq0.true in
    let sum : count_by is_some s.lens.slots + s.lens.spare ≡ length s.lens.slots = ap (λ n. count_by is_some s.lens.slots + n) (sym c.spare-slots.ensures.value) ∙ c.spare-slots.ensures.sum in
    let all : total s.chunks + s.chunks.spare ≡ s.chunks.size = ap (λ n. total s.chunks + n) (sym c.spare.ensures.value) ∙ c.spare.ensures.sum in
    let none = none_left s.lens s.chunks c.self.invariant slots sum all in
    let here : s.chunks.spare ≡ c.args.self.now.spare = ap (λ (t : Texts). t.spare) c.self.view_is in
    (λ e. omega arith, λ lt. refl)

pub returns-clause-named : goal.returns-clause-named
returns-clause-named c =
    let s = c.self.inside in let slot = c.in-Ok.slot in let text = c.args.text.now in
    ap (λ (l : Slots ℕ). text_of (texts_in l c.fill.new.chunks) (slot + 1)) c.in-Ok.ensures.inserts
    ∙ ap (λ (cs : Lists (List ℕ)). text_of (texts_in (inserted s.lens slot (length text)) cs) (slot + 1)) c.fill.ensures
    ∙ ap (text_of (texts_in (inserted s.lens slot (length text)) (filled s.chunks slot text))) (let e : slot + 1 ≡ suc slot = omega arith in e)
    ∙ put_named s.lens s.chunks c.self.invariant slot c.in-Ok.ensures.within text (some c)

pub returns-clause-fresh : goal.returns-clause-fresh
returns-clause-fresh c =
    let s = c.self.inside in let slot = c.in-Ok.slot in
    subst (λ (t : Texts). IsFree t (slot + 1)) c.self.view_is
    (subst (IsFree (texts_in s.lens s.chunks)) (let e : suc slot ≡ slot + 1 = omega arith in e)
    (no_text s.lens s.chunks slot c.in-Ok.ensures.was_vacant))

pub returns-clause-puts : goal.returns-clause-puts
returns-clause-puts c =
    let s = c.self.inside in let slot = c.in-Ok.slot in let text = c.args.text.now in
    ap (λ (l : Slots ℕ). texts_in l c.fill.new.chunks) c.in-Ok.ensures.inserts
    ∙ ap (texts_in (inserted s.lens slot (length text))) c.fill.ensures
    ∙ put_shows s.lens s.chunks c.self.invariant slot c.in-Ok.ensures.within text (some c)
    ∙ ap (λ (t : Texts). put t (suc slot) text) c.self.view_is
    ∙ ap (λ n. put c.args.self.now n text) (let e : suc slot ≡ slot + 1 = omega arith in e)
