use Rattle.std.proofs.Common.{◌≡◌, ◌∙◌, sym, ap, subst, ℕ, ◌<◌, ◌≤◌, cond, true, length, List, is_some, inl, inr, arith}
use Rattle.std.specs.Prelude.{option_map}
use Rattle.std.proofs.lemmas.Bool.{cases_Bool}
use Rattle.gui_boxes.specs.Listing.{AreProper, HasThese, times, value_count}
use Rattle.gui_boxes.proofs.These.{MayPut}
use Rattle.gui_pool.specs.Table.{Table, value_at}
use Rattle.gui_store.specs.Views.{scene_of}
use Rattle.gui_tree.specs.Handles.{numbers}
use Rattle.scene_defs.specs.Shown.{entries, order}
use Rattle.debt_defs.specs.SceneLook.{is_among}
use Rattle.gui_concerns.specs.Handles.{number_of}
use Rattle.gui_debts.specs.Owed.{sight_of}
use Rattle.gui_debts.specs.Sights.{KeepOthers}
use Rattle.gui_debts.specs.declared.seen.Seen.{Seen}
use Rattle.gui_change.specs.Dues.{OwesAll}
use Rattle.gui_change.specs.Entries.{all_entries, owners}
use Rattle.gui_change.specs.Gone.{is_shown}
use Rattle.gui_change.proofs.Alike.{among-times, times-among}
use Rattle.gui_change.proofs.Joined.{may-put, these-joined}
use Rattle.gui_change.proofs.Joining.{joined}
use Rattle.gui_change.proofs.Listed.{owners-order}
use Rattle.gui_change.proofs.Orders.{few_shown, shown_proper}
use Rattle.gui_change.proofs.Owing.{again_alike, again_is_debt}
use Rattle.gui_change.proofs.Renewing.{put-keeps, put-sights}
use Rattle.gui_change.proofs.more.see_more.Goals as goal
use Rattle.gui_change.proofs.more.see_more.Goals.{After-add_last, After-put_new}

module _ (c : After-add_last) where
  -- what is painted then
  painted : all_entries c.add_last.new.listed.items ≡ entries (scene_of c.args.after.now.store.now)
  painted = c.add_last.ensures.listed (entries (scene_of c.args.after.now.store.now)) c.requires.comes

  listed : numbers (owners c.add_last.new.listed.items) ≡ order (scene_of c.args.after.now.store.now)
  listed = owners-order (scene_of c.args.after.now.store.now) c.add_last.new.listed.items painted

  proper : AreProper (owners c.add_last.new.listed.items)
  proper = shown_proper (scene_of c.args.after.now.store.now) c.tree-tree.ensures.valid (owners c.add_last.new.listed.items) listed

  few : length (owners c.add_last.new.listed.items) ≤ (scene_of c.args.after.now.store.now).limits.objects
  few = few_shown (scene_of c.args.after.now.store.now) c.tree-tree.ensures.valid (owners c.add_last.new.listed.items) listed

  -- the new one may be put in where something is known of its parent
  may : is_some (value_at c.args.look.now.seen c.args.parent.0) ≡ true → MayPut c.args.look.now.seen c.args.h
  may some =
      let scene = scene_of c.args.after.now.store.now in
      let look = c.args.look.now in
      may-put c.args.h c.args.parent look.entries.items c.add_last.new.listed.items (entries scene) painted c.requires.comes scene.limits.objects look.seen c.requires.table proper few some

pub put_new-requires-clause-within : goal.put_new-requires-clause-within
put_new-requires-clause-within c some = (may (goal.at.put_new-requires-clause-within c).After-add_last some).within

pub put_new-requires-clause-vacant : goal.put_new-requires-clause-vacant
put_new-requires-clause-vacant c some = (may (goal.at.put_new-requires-clause-vacant c).After-add_last some).vacant

pub put_new-requires-clause-room : goal.put_new-requires-clause-room
put_new-requires-clause-room c some = (may (goal.at.put_new-requires-clause-room c).After-add_last some).room

-- something is known of all that is listed
these : (c : After-put_new) → HasThese (scene_of c.args.after.now.store.now).limits.objects c.put_new.new.table (owners c.add_last.new.listed.items)
these c =
    let d = (goal.at.After-put_new c).After-add_last in
    let scene = scene_of c.args.after.now.store.now in
    let look = c.args.look.now in
    these-joined c.args.h c.args.parent look.entries.items c.add_last.new.listed.items (entries scene) (painted d) c.requires.comes scene.limits.objects look.seen c.requires.table (proper d) (few d) c.put_new.new.table c.put_new.ensures.put c.put_new.ensures.same

pub see_shifted-requires-clause-table : goal.see_shifted-requires-clause-table
see_shifted-requires-clause-table c = these (goal.at.see_shifted-requires-clause-table c).After-put_new

pub see_shifted-requires-clause-entries : goal.see_shifted-requires-clause-entries
see_shifted-requires-clause-entries c = painted (goal.at.see_shifted-requires-clause-entries c).After-add_last

pub see_shifted-requires-clause-painted : goal.see_shifted-requires-clause-painted
see_shifted-requires-clause-painted c = elim (cases_Bool (is_some (value_at c.args.look.now.seen c.args.parent.0))) [
  | inl some ↦
      let put = c.put_new.ensures.put some in
      let can = may (goal.at.see_shifted-requires-clause-painted c).After-add_last some in
      put-keeps c.args.look.now.seen c.put_new.new.table c.args.h.0 put.value can.within put.is put.items c.args.after.now.painted (scene_of c.args.after.now.store.now) c.requires.painted
  | inr none ↦
      subst (λ (t : Table Seen). KeepOthers t c.args.after.now.painted (scene_of c.args.after.now.store.now)) (sym (c.put_new.ensures.same none)) c.requires.painted
]

-- what is known tells the same sights
sights : (c : After-put_new) (k : ℕ) → sight_of (value_at c.put_new.new.table k) ≡ sight_of (value_at c.args.look.now.seen k)
sights c k = elim (cases_Bool (is_some (value_at c.args.look.now.seen c.args.parent.0))) [
  | inl some ↦
      let put = c.put_new.ensures.put some in
      let can = may (goal.at.After-put_new c).After-add_last some in
      put-sights c.args.look.now.seen c.put_new.new.table c.args.h.0 put.value can.within put.is can.vacant put.sight k
  | inr none ↦ ap (λ (t : Table Seen). sight_of (value_at t k)) (c.put_new.ensures.same none)
]

-- and of what is shown alone
shown : (c : After-put_new) (k : ℕ) → is_some (value_at c.put_new.new.table k) ≡ true → is_shown (scene_of c.args.after.now.store.now) k ≡ true
shown c k some =
    let hs = owners c.add_last.new.listed.items in
    let one : value_count c.put_new.new.table k ≡ 1 = ap (λ b. cond b 1 0) some in
    let each = (these c).each k in
    let more : 0 < times hs k = omega (arith, one, each) in
    subst (λ (ks : List ℕ). is_among ks k ≡ true) (listed (goal.at.After-put_new c).After-add_last) (times-among hs k more)

pub see_shifted-requires-clause-was : goal.see_shifted-requires-clause-was
see_shifted-requires-clause-was c =
    let d = (goal.at.see_shifted-requires-clause-was c).After-put_new in
    joined c.args.look.now.seen c.put_new.new.table (scene_of c.args.after.now.store.now) (option_map number_of c.args.named) c.args.after.now.concerned c.args.moved.now c.requires.was (sights d) (shown d)

pub returns-clause-debt : goal.returns-clause-debt
returns-clause-debt c before shows =
    let d = (goal.at.returns-clause-debt c).After-put_new in
    let scene = scene_of c.args.after.now.store.now in
    let look = c.args.look.now in
    let named = option_map number_of c.args.named in
    let still = λ (h : ℕ) (i : is_among (order before) h ≡ true). c.requires.still h (among-times (owners look.entries.items) h (subst (λ (ks : List ℕ). is_among ks h ≡ true) (sym shows.order) i)) in
    subst (OwesAll c.args.damage.now c.see_shifted.new.damage)
    (again_alike named look.seen c.put_new.new.table scene (sights d) (order scene) ∙ again_is_debt scene.limits.objects named look before scene shows still)
    c.see_shifted.ensures.debt
