use Rattle.std.proofs.Common.{◌≡◌, ◌∙◌, sym, ap, ℕ, true, false, is_some, List, nat_lt, inl, inr, arith}
use Rattle.std.specs.Prelude.{◌⊎◌, option_map}
use Rattle.std.proofs.lemmas.Bool.{cases_Bool}
use Rattle.std.proofs.lemmas.Bool.Decides.{nat_tests}
use Rattle.gui_boxes.specs.Listing.{times}
use Rattle.gui_boxes.proofs.These.{these_kept}
use Rattle.gui_pool.specs.Table.{value_at}
use Rattle.gui_store.specs.Views.{scene_of}
use Rattle.scene_defs.specs.Scene.{is_there}
use Rattle.gui_tree.specs.Handles.{as_handle, numbers}
use Rattle.scene_defs.specs.Shown.{order}
use Rattle.debt_defs.specs.Debt.{is_named}
use Rattle.gui_concerns.specs.Concerned.{may_be}
use Rattle.gui_concerns.specs.Handles.{number_of}
use Rattle.gui_debts.specs.Sights.{AreSeen}
use Rattle.gui_change.specs.Entries.{owners}
use Rattle.gui_change.specs.Sees.{IsSeenIn, KnowsShown, SeesAgain}
use Rattle.gui_change.specs.declared.entries.Entry.{Entry}
use Rattle.gui_change.proofs.Listed.{owners-order}
use Rattle.gui_change.proofs.Orders.{shown_there}
use Rattle.gui_change.proofs.SeenAgain.{known-still, shown-has, shown-still, then-again}
use Rattle.gui_change.proofs.SeenBelow.{knows-shown, owes-all}
use Rattle.gui_change.proofs.Shifting.{all-seen}
use Rattle.gui_change.proofs.Tops.{shown-up}
use Rattle.gui_change.proofs.shifted.see_shifted.Goals as goal
use Rattle.gui_change.proofs.shifted.see_shifted.Goals.{After-tree-tree, After-see_standing, After-see_concerned}

-- what is shown is listed
listed : (c : After-tree-tree) → numbers (owners c.args.look.now.entries.items) ≡ order (scene_of c.args.after.now.store.now)
listed c = owners-order (scene_of c.args.after.now.store.now) c.args.look.now.entries.items c.requires.entries

shown : (c : After-tree-tree) → KnowsShown c.args.look.now.seen (scene_of c.args.after.now.store.now)
shown c =
    let scene = scene_of c.args.after.now.store.now in
    knows-shown scene.limits.objects c.args.look.now.seen (owners c.args.look.now.entries.items) scene (listed c) c.requires.table

pub see_concerned-requires-clause-order : goal.see_concerned-requires-clause-order
see_concerned-requires-clause-order c =
    ap (λ (es : List Entry). numbers (owners es)) c.as_slice-painted.ensures.value ∙ listed (goal.at.see_concerned-requires-clause-order c).After-tree-tree

pub see_standing-requires-clause-shown : goal.see_standing-requires-clause-shown
see_standing-requires-clause-shown c = shown (goal.at.see_standing-requires-clause-shown c).After-tree-tree

pub see_concerned-requires-clause-shown : goal.see_concerned-requires-clause-shown
see_concerned-requires-clause-shown c =
    shown-still (scene_of c.args.after.now.store.now) c.args.look.now.seen c.see_standing.new.table c.see_standing.ensures.down.sees.listing (shown (goal.at.see_concerned-requires-clause-shown c).After-tree-tree)

pub see_concerned-requires-clause-known : goal.see_concerned-requires-clause-known
see_concerned-requires-clause-known c = c.see_standing.ensures.down.sees.keeps c.args.after.now.painted c.requires.painted

-- all that was seen again
sees : (c : After-see_concerned) → SeesAgain (option_map number_of c.args.named) (scene_of c.args.after.now.store.now) c.args.look.now.seen c.see_concerned.new.table c.args.damage.now c.see_concerned.new.damage
sees c =
    then-again (option_map number_of c.args.named) (scene_of c.args.after.now.store.now) c.args.look.now.seen c.see_standing.new.table c.see_concerned.new.table c.args.damage.now c.see_standing.new.damage c.see_concerned.new.damage
    c.see_standing.ensures.down.sees c.see_concerned.ensures.sees

-- an object is one that moved or that the change names, or it is neither
module _ (c : After-see_standing) where
  right-or : (k : ℕ) → IsSeenIn c.see_standing.new.table (scene_of c.args.after.now.store.now) k
      ⊎ ((times c.args.moved.now k ≡ 0) × (is_named (option_map number_of c.args.named) k ≡ false))
  right-or k = elim (cases_Bool (nat_lt 0 (times c.args.moved.now k))) [
    | inl more ↦ inl (c.see_standing.ensures.all k (grind (arith, nat_tests, more)))
    | inr none ↦ elim (cases_Bool (is_named (option_map number_of c.args.named) k)) [
      | inl is ↦ inl (c.see_standing.ensures.own k is)
      | inr other ↦ inr (grind (arith, nat_tests, none), other)
    ]
  ]

-- so what is known of all is what is seen of them
seen : (c : After-see_concerned) → AreSeen c.see_concerned.new.table (scene_of c.args.after.now.store.now)
seen c =
    let d = (goal.at.After-see_concerned c).After-see_standing in
    let scene = scene_of c.args.after.now.store.now in
    let old = c.args.look.now.seen in
    let mid = c.see_standing.new.table in
    let new = c.see_concerned.new.table in
    let was = c.requires.was in
    let valid = c.tree-tree.ensures.valid in
    let known = shown (goal.at.After-see_concerned c).After-tree-tree in
    let down = c.see_standing.ensures.down in
    let there : (k : ℕ) → is_some (value_at old k) ≡ true → is_there scene k ≡ true = λ k some. shown_there scene valid k (sym (shown-has scene old known k) ∙ some) in
    all-seen was.before scene was.valid valid old mid new was.seen (known-still old mid down.sees.listing)
    there
    (λ k p some up. known p ∙ (shown-up scene valid k (as_handle p) (sym (ap (option_map as_handle) up)) ∙ (sym (known k) ∙ some)))
    down.closes down.either
    (λ k some. elim (right-or d k) [
      | inl right ↦ inl right
      | inr other ↦ inr (was.stands k some (there k some) other.0 other.1)
    ])
    c.see_concerned.ensures.sees.seen (known-still mid new c.see_concerned.ensures.sees.listing)
    (λ k some. elim (right-or d k) [
      | inl right ↦ inl (c.see_concerned.ensures.sees.seen k right)
      | inr other ↦ elim (cases_Bool (may_be scene c.args.after.now.concerned k)) [
        | inl may ↦ inl (c.see_concerned.ensures.all k may)
        | inr isnt ↦ inr (was.paints k some (there k some) other.0 other.1 isnt)
      ]
    ])

pub returns-clause-shows : goal.returns-clause-shows
returns-clause-shows c =
    let d = (goal.at.returns-clause-shows c).After-see_concerned in
    let scene = scene_of c.args.after.now.store.now in
    let look = c.args.look.now in
    record {
      order = listed (goal.at.returns-clause-shows c).After-tree-tree;
      entries = c.requires.entries;
      table = these_kept scene.limits.objects look.seen c.see_concerned.new.table (owners look.entries.items) (sees d).listing c.requires.table;
      seen = seen d;
      entries_room = c.requires.entries_room;
    }

pub returns-clause-debt : goal.returns-clause-debt
returns-clause-debt c =
    let d = (goal.at.returns-clause-debt c).After-see_concerned in
    let scene = scene_of c.args.after.now.store.now in
    owes-all (option_map number_of c.args.named) scene c.args.look.now.seen c.see_concerned.new.table c.args.damage.now c.see_concerned.new.damage
    (shown (goal.at.returns-clause-debt c).After-tree-tree) (sees d) (seen d)
