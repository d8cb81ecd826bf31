use Rattle.std.proofs.Common.{◌≡◌, sym, subst, ℕ, true, List}
use Rattle.std.specs.Prelude.{option_map}
use Rattle.gui_store.specs.Views.{scene_of}
use Rattle.gui_tree.specs.Handles.{numbers}
use Rattle.scene_defs.specs.Shown.{order}
use Rattle.debt_defs.specs.SceneLook.{is_among}
use Rattle.gui_concerns.specs.Handles.{number_of}
use Rattle.gui_change.specs.Dues.{OwesAll}
use Rattle.gui_change.specs.Entries.{owners}
use Rattle.gui_change.proofs.Alike.{among_alike, these_alike}
use Rattle.gui_change.proofs.Listed.{owners-order}
use Rattle.gui_change.proofs.Owing.{again_is_debt}
use Rattle.gui_change.proofs.replanted.see_replanted.Goals as goal
use Rattle.gui_change.proofs.replanted.see_replanted.Goals.{After-list_again}

-- what is shown is listed
listed : (c : After-list_again) → numbers (owners c.list_again.new.listed.items) ≡ order (scene_of c.args.after.now.store.now)
listed c = owners-order (scene_of c.args.after.now.store.now) c.list_again.new.listed.items c.list_again.ensures.entries

pub see_shifted-requires-clause-table : goal.see_shifted-requires-clause-table
see_shifted-requires-clause-table c =
    let d = (goal.at.see_shifted-requires-clause-table c).After-list_again in
    let look = c.args.look.now in
    let hs = owners c.list_again.new.listed.items in
    these_alike (scene_of c.args.after.now.store.now).limits.objects look.seen (owners look.entries.items) hs (c.requires.same hs (listed d)) c.requires.table

pub returns-clause-debt : goal.returns-clause-debt
returns-clause-debt c before shows =
    let d = (goal.at.returns-clause-debt c).After-list_again in
    let scene = scene_of c.args.after.now.store.now in
    let look = c.args.look.now in
    let named = option_map number_of c.args.named in
    let hs = owners c.list_again.new.listed.items in
    let still = λ (h : ℕ) (i : is_among (order before) h ≡ true).
    subst (λ (ns : List ℕ). is_among ns h ≡ true) (listed d) (among_alike (owners look.entries.items) hs (c.requires.same hs (listed d)) h (subst (λ (ns : List ℕ). is_among ns h ≡ true) (sym shows.order) i)) in
    subst (OwesAll c.args.damage.now c.see_shifted.new.damage) (again_is_debt scene.limits.objects named look before scene shows still) c.see_shifted.ensures.debt
