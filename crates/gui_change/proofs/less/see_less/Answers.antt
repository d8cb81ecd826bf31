use Rattle.std.proofs.Common.{◌≡◌, ◌∙◌, ◌++◌, sym, ap, subst, not, ℕ, List, Option, Some, true, false}
use Rattle.std.specs.Prelude.{option_map}
use Rattle.std.specs.List.{filter, flat_map}
use Rattle.std.specs.List.Sorted.{IsPermutation}
use Rattle.std.proofs.lemmas.List.Sorted.{IsPermutation-append, IsPermutation-append_comm, IsPermutation-sym, IsPermutation-trans}
use Rattle.std.proofs.lemmas.List.Sums.{fold-append}
use Rattle.gui_damage.specs.Gridded.{GridList, added_all_in, added_in}
use Rattle.gui_pool.specs.Table.{value_at}
use Rattle.gui_store.specs.Views.{removed_of, scene_of}
use Rattle.gui_tree.specs.Handles.{numbers}
use Rattle.scene_defs.specs.Shown.{order}
use Rattle.debt_defs.specs.Debt.{is_named}
use Rattle.debt_defs.specs.SceneLook.{is_among}
use Rattle.gui_concerns.specs.Handles.{number_of}
use Rattle.gui_debts.specs.Owed.{owed, sight_of}
use Rattle.gui_debts.specs.declared.seen.Seen.{Seen}
use Rattle.gui_change.specs.Entries.{owners}
use Rattle.gui_change.specs.Again.{owed_again, sight_in}
use Rattle.gui_change.specs.Gone.{gone_of, is_shown, owed_gone}
use Rattle.gui_change.proofs.Alike.{times-among}
use Rattle.gui_change.proofs.Joining.{fewer-shifted}
use Rattle.gui_change.proofs.Lessened.{kept, same-owed, still, table-left}
use Rattle.gui_change.proofs.Missing.{gone-filter}
use Rattle.gui_change.proofs.Listed.{owners-order}
use Rattle.gui_change.proofs.Orders.{shown_proper}
use Rattle.gui_change.proofs.Owing.{fewer_is_debt}
use Rattle.gui_change.proofs.Renewing.{each-among}
use Rattle.gui_change.proofs.less.see_less.Goals as goal
use Rattle.gui_change.proofs.less.see_less.Goals.{After-forget, After-relist}

-- the objects that were removed
gone : (c : After-forget) → numbers c.last_removed.result.now ≡ removed_of c.args.after.now.store.now
gone c = c.last_removed.ensures ∙ c.tree-tree.ensures.removed

-- what is known still was known, of objects that did not go
was : (c : After-relist) (k : ℕ) (s : Seen) → value_at c.forget.new.table k ≡ Some s →
    (value_at c.args.look.now.seen k ≡ Some s) × (is_among (removed_of c.args.after.now.store.now) k ≡ false)
was c k s found =
    let d = (goal.at.After-relist c).After-forget in
    still (scene_of c.args.after.now.store.now) (removed_of c.args.after.now.store.now) c.last_removed.result.now (gone d) c.args.look.now.seen c.forget.new.table c.forget.ensures.none c.forget.ensures.rest k s
    found

pub see_shifted-requires-clause-painted : goal.see_shifted-requires-clause-painted
see_shifted-requires-clause-painted c k s there off found =
    c.requires.painted k s there off (was (goal.at.see_shifted-requires-clause-painted c).After-relist k s found).0

pub see_shifted-requires-clause-was : goal.see_shifted-requires-clause-was
see_shifted-requires-clause-was c =
    let d = (goal.at.see_shifted-requires-clause-was c).After-relist in
    fewer-shifted c.args.look.now.seen c.forget.new.table (scene_of c.args.after.now.store.now) (option_map number_of c.args.named) c.args.after.now.concerned c.args.moved.now
    (λ k s found. (was d k s found).0) c.requires.was

pub see_shifted-requires-clause-table : goal.see_shifted-requires-clause-table
see_shifted-requires-clause-table c =
    let d = (goal.at.see_shifted-requires-clause-table c).After-forget in
    let scene = scene_of c.args.after.now.store.now in
    let objects = scene.limits.objects in
    let hs = (owners c.args.look.now.entries.items) in
    let ks = (owners c.relist.new.listed.items) in
    let listed : numbers ks ≡ order scene = owners-order scene c.relist.new.listed.items c.relist.ensures.entries in
    table-left scene (removed_of c.args.after.now.store.now) c.last_removed.result.now (gone d) c.args.look.now.seen c.forget.new.table c.forget.ensures.none c.forget.ensures.rest c.requires.left objects hs ks
    (c.forget.ensures.some objects hs c.requires.table) listed (shown_proper scene c.tree-tree.ensures.valid ks listed).once

pub returns-clause-debt : goal.returns-clause-debt
returns-clause-debt c before shows =
    let d = (goal.at.returns-clause-debt c).After-forget in
    let scene = scene_of c.args.after.now.store.now in
    let objects = scene.limits.objects in
    let removed = removed_of c.args.after.now.store.now in
    let named = option_map number_of c.args.named in
    let look = c.args.look.now in
    let hs = (owners look.entries.items) in
    let ks = (owners c.relist.new.listed.items) in
    let away = c.last_removed.result.now in
    let went = flat_map (owed_gone named look.seen) (numbers away) in
    let shown_gone = flat_map (owed_gone named look.seen) (numbers (gone_of scene hs)) in
    let again = flat_map (owed_again named look.seen scene) (order scene) in
    let rest = c.see_shifted.ensures.debt in
    let listed : numbers ks ≡ order scene = owners-order scene c.relist.new.listed.items c.relist.ensures.entries in
    let same : flat_map (owed_again named c.forget.new.table scene) (order scene) ≡ again =
    ap (flat_map (owed_again named c.forget.new.table scene)) (sym listed)
    ∙ (each-among (owed_again named c.forget.new.table scene) (owed_again named look.seen scene) ks (λ k some.
    let is : is_shown scene k ≡ true = subst (λ (ns : List ℕ). is_among ns k ≡ true) listed (times-among ks k some) in
    ap (λ (o : Option Seen). owed (is_named named k) (sight_of o) (sight_in scene k))
    (kept scene removed away (gone d) look.seen c.forget.new.table c.forget.ensures.none c.forget.ensures.rest c.requires.left k is))
    ∙ ap (flat_map (owed_again named look.seen scene)) listed) in
    let is = fewer_is_debt objects named look before scene shows (numbers (gone_of scene hs)) (gone-filter scene hs ∙ ap (λ (xs : List ℕ). filter (λ h. not (is_shown scene h)) xs) shows.order) in
    let alike = same-owed scene removed away (gone d) look.seen c.forget.new.table c.forget.ensures.none c.forget.ensures.rest c.requires.left named objects hs c.requires.table (c.requires.once away (gone d)) in
    let late : IsPermutation rest.areas_listed again = subst (IsPermutation rest.areas_listed) same rest.same in
    record {
      areas_listed = went ++ rest.areas_listed;
      is = rest.is ∙ (ap (λ (p : GridList). added_all_in p rest.areas_listed) c.forget.ensures.debt ∙ sym (fold-append added_in c.args.damage.now went rest.areas_listed));
      same =
          subst (IsPermutation (went ++ rest.areas_listed)) is
          (IsPermutation-trans (went ++ rest.areas_listed) (rest.areas_listed ++ went) (again ++ shown_gone) (IsPermutation-append_comm went rest.areas_listed)
          (IsPermutation-append rest.areas_listed again went shown_gone late (IsPermutation-sym shown_gone went alike)));
    }
