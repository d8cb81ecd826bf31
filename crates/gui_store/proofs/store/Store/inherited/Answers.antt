use Rattle.std.proofs.lemmas.List.Elements.{All-head, All-tail}
use Rattle.std.specs.List.{All}
use Rattle.gui_base.specs.declared.words.Part.TheVariants.{Main}
use Rattle.gui_tree.proofs.Paths.{line_is, line_there}
use Rattle.gui_store.specs.Values.{won_at, inherited_at, inherited_along}
use Rattle.gui_store.proofs.Common.{◌≡◌, ◌∙◌, ◌∷◌, sym, ap, subst, ℕ, true, List, arith, has, option_or, parts_of}
use Rattle.gui_store.proofs.Kept.{once}
use Rattle.gui_store.proofs.store.Store.inherited.Goals as goal
use Rattle.gui_store.proofs.store.Store.inherited.Goals.{In-Some}

pub loop-k-init : goal.loop-k-init
loop-k-init c =
    let f = c.args.self.now.tree.forest in
    let stands = once (parts_of c.args.self.now) c.args.self.now.kept in
    let line = sym (c.into_iter-k-iterator.ensures.into_iter_gives ∙ c.ancestors-k-items.ensures) in
    record {
      rest = ap (λ (hs : List ℕ). inherited_along (parts_of c.args.self.now) hs c.args.prop) (sym (line_is f c.args.h.0 stands c.requires) ∙ line);
      there = subst (All (λ k. has f k ≡ true)) line (line_there f c.args.h.0 stands c.requires);
    }

-- the nearest that is left, or else those above it
nearest : (c : In-Some) → inherited_at (parts_of c.args.self.now) c.args.h.0 c.args.prop ≡ option_or (won_at (parts_of c.args.self.now) c.in-Some.k.0 Main c.args.prop) (inherited_along (parts_of c.args.self.now) c.next.new.self c.args.prop)
nearest c = c.loop-k.invariant.rest ∙ ap (λ (hs : List ℕ). inherited_along (parts_of c.args.self.now) hs c.args.prop) c.in-Some.ensures.steps

pub returns-then-is_some : goal.returns-then-is_some
returns-then-is_some c =
    let near = nearest (goal.at.returns-then-is_some c).In-Some in
    grind (arith, near, c.states_of-states.ensures, c.lookup-found.ensures, c.is_some.ensures, c.if-is_some.true)

pub loop-k-preserved : goal.loop-k-preserved
loop-k-preserved c =
    let f = c.args.self.now.tree.forest in
    let near = nearest (goal.at.loop-k-preserved c).In-Some in
    record {
      rest = grind (arith, near, c.states_of-states.ensures, c.lookup-found.ensures, c.is_some.ensures, c.if-is_some.false);
      there = All-tail (λ k. has f k ≡ true) c.in-Some.k.0 c.next.new.self (subst (All (λ k. has f k ≡ true)) c.in-Some.ensures.steps c.loop-k.invariant.there);
    }

pub states_of-states-requires : goal.states_of-states-requires
states_of-states-requires c =
    let f = c.args.self.now.tree.forest in
    let here = All-head (λ k. has f k ≡ true) c.in-Some.k.0 c.next.new.self (subst (All (λ k. has f k ≡ true)) c.in-Some.ensures.steps c.loop-k.invariant.there) in
    assumption here
