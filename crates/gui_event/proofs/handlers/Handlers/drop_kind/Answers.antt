use Rattle.std.proofs.Common.{◌≡◌, ◌<◌, Some, List, length, ap, sym, ◌∙◌, arith, rules}
use Rattle.play_defs.specs.declared.Handler.{Handler}
use Rattle.play_defs.specs.Handlers.{handlers_of, is_of}
use Rattle.gui_event.specs.Handlers.{Handlers, without_kind}
use Rattle.gui_event.specs.Kept.{place_by, handlers_in}
use Rattle.gui_event.proofs.Firsts.{passes_at, one_of_kind, none_of_kind, fewer_handlers}
use Rattle.gui_event.proofs.handlers.Handlers.drop_kind.Goals as goal

place : (c : goal.After-remove) → place_by (is_of c.args.kind) (handlers_of c.self.inside.lists.lists c.args.h.0) ≡ Some c.in-Some.place
place c = ap (λ (t : Handlers). place_by (is_of c.args.kind) (handlers_of t.lists c.args.h.0)) c.self.view_is ∙ sym c.in-Some.ensures

within : (c : goal.After-remove) → c.args.h.0 < length c.self.inside.lists.lists
within c = let many = c.self.invariant.handles in let small : c.args.h.0 < 65536 = search rules in omega arith

pub remove-requires-clause-there : goal.remove-requires-clause-there
remove-requires-clause-there c =
    let s = c.self.inside.lists in
    let place : Some c.in-Some.place ≡ place_by (is_of c.args.kind) (handlers_of s.lists c.args.h.0) = c.in-Some.ensures ∙ ap (λ (t : Handlers). place_by (is_of c.args.kind) (handlers_of t.lists c.args.h.0)) (sym c.self.view_is) in
    (passes_at (is_of c.args.kind) (handlers_of s.lists c.args.h.0) c.in-Some.place (sym place)).within

pub loop-place-smaller : goal.loop-place-smaller
loop-place-smaller c =
    let count = λ (t : Handlers). length (handlers_of t.lists c.args.h.0) in
    omega (arith, fewer_handlers c.self.inside.lists.lists c.args.h.0 c.args.kind (within c) c.in-Some.place (place c), ap count (ap handlers_in c.remove.ensures.removed), ap count c.self.view_is)

pub loop-place-preserved : goal.loop-place-preserved
loop-place-preserved c =
    let s = c.self.inside.lists in
    let h = c.args.h.0 in
    let without = λ (t : Handlers). without_kind t h c.args.kind in
    ap without (ap handlers_in c.remove.ensures.removed)
    ∙ ap (λ (xs : List (List Handler)). record { lists = xs; size = s.size }) (one_of_kind s.lists h c.args.kind (within c) c.in-Some.place (place c))
    ∙ ap without c.self.view_is
    ∙ c.loop-place.invariant

pub returns : goal.returns
returns c =
    let s = c.loop-place.self in
    let none = none_of_kind s.lists c.args.h.0 c.args.kind (sym c.place_of.ensures ∙ c.in_default.is) in
    sym (ap (λ (xs : List (List Handler)). record { lists = xs; size = s.size }) none) ∙ c.loop-place.invariant
