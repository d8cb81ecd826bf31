use Rattle.std.proofs.Common.{◌≡◌, ◌∙◌, refl, sym, ap, subst, ℕ, true, false, eqb, cond, inl, inr}
use Rattle.std.specs.Prelude.{is_some}
use Rattle.std.proofs.lemmas.Bool.{cases_Bool, eqb-true, both_ways, false_from_ne_true}
use Rattle.gui_base.specs.Forest.{Forest, has}
use Rattle.gui_pool.specs.Table.{value_at}
use Rattle.gui_store.specs.Views.{scene_of}
use Rattle.scene_defs.specs.Scene.{handles_of}
use Rattle.gui_boxes.specs.Tables.{touched_or}
use Rattle.gui_layout.proofs.Entering.{low}
use Rattle.gui_layout.proofs.places.Places.enter_one.Goals as goal
use Rattle.gui_layout.proofs.places.Places.enter_one.Goals.{After-has_entry}

-- an object that is not there
pub returns-then-not-has-clause-own : goal.returns-then-not-has-clause-own
returns-then-not-has-clause-own c there =
    let out : has (handles_of (scene_of c.args.store.now).trees) c.args.h.0 ≡ false = subst (λ (f : Forest ℕ). has f c.args.h.0 ≡ false) c.tree-tree.ensures.forest (sym c.has.ensures ∙ c.if-not-has.true) in
    absurd (both_ways (has (handles_of (scene_of c.args.store.now).trees) c.args.h.0) out there)

pub returns-then-not-has-clause-others : goal.returns-then-not-has-clause-others
returns-then-not-has-clause-others c k there other = refl

pub returns-then-not-has-clause-kept : goal.returns-then-not-has-clause-kept
returns-then-not-has-clause-kept c k there was = refl

-- one that is
there : (c : After-has_entry) → has (handles_of (scene_of c.args.store.now).trees) c.args.h.0 ≡ true
there c = subst (λ (f : Forest ℕ). has f c.args.h.0 ≡ true) c.tree-tree.ensures.forest (sym c.has.ensures ∙ c.if-not-has.false)

pub returns-then-has_entry-clause-own : goal.returns-then-has_entry-clause-own
returns-then-has_entry-clause-own c is = sym c.has_entry.ensures ∙ c.if-has_entry.true

pub returns-then-has_entry-clause-others : goal.returns-then-has_entry-clause-others
returns-then-has_entry-clause-others c k is other = refl

pub returns-then-has_entry-clause-kept : goal.returns-then-has_entry-clause-kept
returns-then-has_entry-clause-kept c k is was = refl

pub make_room-requires-clause-there : goal.make_room-requires-clause-there
make_room-requires-clause-there c = there (goal.at.make_room-requires-clause-there c).After-has_entry

pub make_room-requires-clause-new : goal.make_room-requires-clause-new
make_room-requires-clause-new c = sym c.has_entry.ensures ∙ c.if-has_entry.false

pub add_entries-requires-clause-low : goal.add_entries-requires-clause-low
add_entries-requires-clause-low c = low (scene_of c.args.store.now) c.tree-tree.ensures.valid c.args.h.0 (there (goal.at.add_entries-requires-clause-low c).After-has_entry)

pub add_entries-requires-clause-new : goal.add_entries-requires-clause-new
add_entries-requires-clause-new c =
    let self = c.make_room.new.self in
    sym (self.kept.each c.args.h.0) ∙ ap (λ b. cond b 1 0) c.make_room.ensures.new

pub returns-clause-own : goal.returns-clause-own
returns-clause-own c is = c.add_entries.ensures.added.own

pub returns-clause-others : goal.returns-clause-others
returns-clause-others c k is other =
    let mid = c.make_room.new.self in
    let new = c.add_entries.new.self in
    c.add_entries.ensures.added.same k other ∙ c.make_room.ensures.kept k is

pub returns-clause-kept : goal.returns-clause-kept
returns-clause-kept c k is was =
    let h = c.args.h.0 in
    let old = c.args.self.now in
    let mid = c.make_room.new.self in
    let new = c.add_entries.new.self in
    let none : is_some (value_at old.entries h) ≡ false = sym c.has_entry.ensures ∙ c.if-has_entry.false in
    let other : eqb k h ≡ false = false_from_ne_true (eqb k h) (λ e. both_ways (is_some (value_at old.entries h)) none (subst (λ j. is_some (value_at old.entries j) ≡ true) (eqb-true k h e) was)) in
    c.add_entries.ensures.added.same k other ∙ c.make_room.ensures.kept k is

pub returns-clause-none : goal.returns-clause-none
returns-clause-none c k out was =
    let h = c.args.h.0 in
    let f = handles_of (scene_of c.args.store.now).trees in
    let d = (goal.at.returns-clause-none c).After-has_entry in
    let other : eqb k h ≡ false = false_from_ne_true (eqb k h) (λ e. both_ways (has f k) out (subst (λ j. has f j ≡ true) (sym (eqb-true k h e)) (there d))) in
    ap is_some (c.add_entries.ensures.added.same k other) ∙ c.make_room.ensures.none k was

pub returns-clause-calm : goal.returns-clause-calm
returns-clause-calm c k is was = elim (cases_Bool (eqb k c.args.h.0)) [
  | inl same ↦ subst (λ j. touched_or (value_at c.add_entries.new.self.entries j) ≡ false) (sym (eqb-true k c.args.h.0 same)) c.add_entries.ensures.rests
  | inr other ↦ ap touched_or (c.add_entries.ensures.added.same k other ∙ c.make_room.ensures.kept k is) ∙ was
]
