use denote.Ref.{Bor}
use Rattle.gui_base.specs.declared.words.Kind.{Kind}
use Rattle.gui_base.specs.declared.words.Kind.TheVariants.{Screen}
use Rattle.gui_store.proofs.Common.{refl, ◌≡◌, ◌∙◌, sym, ap, Ok, true, false, option_map, shown_row, Row, Unknown, WrongKind, is_screen_kind, parts_of}
use Rattle.scene_defs.specs.declared.Change.TheVariants as change
use Rattle.gui_store.proofs.Edits.{load-absent, load-answer, fine-load}
use Rattle.gui_store.proofs.Kept.{Left, refused, done}
use Rattle.gui_store.proofs.store.Store.load.Goals as goal
use Rattle.gui_store.proofs.store.Store.load.Goals.{In-Screen}

-- a row that is lent, as a scene shows it
abbrev seen : Bor Row → Row
seen row = shown_row row.now

loaded : (c : In-Screen) → Left (parts_of c.args.self.now) (change.Load c.args.h) (record (parts_of c.args.self.now) { active = c.args.h.0 }) (Ok tt)
loaded c =
    let p = parts_of c.args.self.now in
    let k = c.args.self.now.kept in
    let read = ap (option_map seen) (sym c.in-Some.is) ∙ c.get.ensures.value in
    let screen = load-answer p k c.args.h (shown_row c.in-Some.row.now) true read (ap is_screen_kind c.in-Screen.is) in
    done p k (change.Load c.args.h) c.requires tt _ screen (fine-load p k c.args.h)

pub returns-in_default : goal.returns-in_default
returns-in_default c =
    let p = parts_of c.args.self.now in
    let k = c.args.self.now.kept in
    refused p k (change.Load c.args.h) Unknown (load-absent p k c.args.h (ap (option_map seen) (sym c.in_default.is) ∙ c.get.ensures.value))

pub invariant_of-self : goal.invariant_of-self
invariant_of-self c = record { kept = (loaded (goal.at.invariant_of-self c).In-Screen).kept }

pub returns-in-Screen : goal.returns-in-Screen
returns-in-Screen c = (loaded (goal.at.returns-in-Screen c).In-Screen).is

not_a_screen : (kind : Kind) → (kind ≡ Screen → ⊥) → is_screen_kind kind ≡ false
not_a_screen Screen ne = absurd (ne refl)
not_a_screen kind ne = refl

pub returns-in_default-kind : goal.returns-in_default-kind
returns-in_default-kind c =
    let p = parts_of c.args.self.now in
    let k = c.args.self.now.kept in
    let read = ap (option_map seen) (sym c.in-Some.is) ∙ c.get.ensures.value in
    let other = not_a_screen c.in-Some.row.now.kind c.in_default-kind.not-Screen in
    refused p k (change.Load c.args.h) WrongKind (load-answer p k c.args.h (shown_row c.in-Some.row.now) false read other)
