use denote.Ref.{Bor}
use Rattle.std.proofs.Common.{Result}
use Rattle.gui_store.proofs.Common.{◌≡◌, ◌<◌, ◌≤◌, ◌+◌, ◌∙◌, sym, ap, ℕ, List, true, Some, Ok, Err, OnOk, OnErr, option_map, arith, refl, Answer, Unknown, WrongKind, Full, Texts, Row, RowSet, shown_row, row_shown, row_in, chunks_at, has, Parts, AreKept, Handle, parts_of}
use Rattle.std.specs.Prelude.{IsErr, ◌↔◌}
use Rattle.gui_pool.specs.declared.chains.NoChunks.{NoChunks}
use Rattle.gui_pool.specs.Texts.{need_of}
use Rattle.gui_store.specs.RowSets.{with_text}
use Rattle.scene_defs.specs.declared.Change.TheVariants as change
use Rattle.scene_defs.specs.declared.Feature.TheVariants.{Text}
use Rattle.scene_defs.specs.Deeds.{is_in_range}
use Rattle.scene_defs.specs.Row.{has_feature}
use Rattle.scene_defs.specs.Valid.{IsChange}
use Rattle.gui_store.proofs.Edits.{set_of, text-absent, text-kind, text-full, text-done}
use Rattle.gui_store.proofs.Kept.{Left, read-on, read-off, read-at, refused}
use Rattle.gui_store.proofs.store.Store.change_text.Goals as goal
use Rattle.gui_store.proofs.store.Store.change_text.Goals.{In-Some, After-set_text}

abbrev seen : Bor Row → Row
seen row = shown_row row.now

read : (c : In-Some) → Some (shown_row c.in-Some.row.now) ≡ row_shown c.args.self.now.rows.rows c.args.h.0
read c = ap (option_map seen) (sym c.in-Some.is) ∙ c.get.ensures.value

there : (c : In-Some) → has c.args.self.now.tree.forest c.args.h.0 ≡ true
there c = read-on (parts_of c.args.self.now) c.args.self.now.kept c.args.h.0 _ (read c)

-- what its kind is by the table
kind-is : (c : In-Some) → has_feature Text c.in-Some.row.now.kind ≡ has_feature Text (row_in c.args.self.now.rows.rows c.args.h.0).kind
kind-is c = ap (λ (r : Row). has_feature Text r.kind) (read-at (parts_of c.args.self.now) c.args.self.now.kept c.args.h.0 _ (read c))

pub returns-in_default : goal.returns-in_default
returns-in_default c =
    let p = parts_of c.args.self.now in
    let k = c.args.self.now.kept in
    let off = read-off p k c.args.h.0 (ap (option_map seen) (sym c.in_default.is) ∙ c.get.ensures.value) in
    refused p k (change.Text c.args.h c.args.text.now) Unknown (text-absent p k c.args.h c.args.text.now off)

pub returns-then-not-has_feature : goal.returns-then-not-has_feature
returns-then-not-has_feature c =
    let p = parts_of c.args.self.now in
    let k = c.args.self.now.kept in
    let at = (goal.at.returns-then-not-has_feature c).In-Some in
    let other = sym (kind-is at) ∙ (sym c.has_feature.ensures ∙ c.if-not-has_feature.true) in
    refused p k (change.Text c.args.h c.args.text.now) WrongKind (text-kind p k c.args.h c.args.text.now (there at) other)

-- what a call of the rows answers
abbrev told_by : Result (Unit {0}) NoChunks → Answer
told_by (Ok v) = Ok tt
told_by (Err e) = Err (Full Texts)

texted : (p : Parts) (k : AreKept p) (h : Handle) (text : List ℕ) (rows : RowSet) (r : Result (Unit {0}) NoChunks) →
    is_in_range (change.Text h text) ≡ true → IsChange (change.Text h text) → has p.tree.forest h.0 ≡ true → has_feature Text (row_in p.rows h.0).kind ≡ true →
    (IsErr r ↔ (p.spare_texts + chunks_at (set_of p) h.0 < need_of text)) → OnOk r (rows ≡ with_text (set_of p) h.0 text) → OnErr r (rows ≡ set_of p) →
    Left p (change.Text h text) (record p { rows = rows.rows; spare_texts = rows.spare_texts }) (told_by r)
texted p k h text rows (Ok v) fits plain on kind full ok err =
    let few : (p.spare_texts + chunks_at (set_of p) h.0 < need_of text) → ⊥ = λ less. cc (full.1 less) in
    let room : need_of text ≤ p.spare_texts + chunks_at (set_of p) h.0 = omega (arith, few) in
    text-done p k h text on kind fits plain room rows ok
texted p k h text rows (Err e) fits plain on kind full ok err =
    rw err (record { kept = k; is = refused p k (change.Text h text) (Full Texts) (text-full p k h text on kind (full.0 refl)) })

done : (c : After-set_text) → has c.args.self.now.tree.forest c.args.h.0 ≡ true → has_feature Text (row_in c.args.self.now.rows.rows c.args.h.0).kind ≡ true →
    Left (parts_of c.args.self.now) (change.Text c.args.h c.args.text.now)
    (record (parts_of c.args.self.now) { rows = c.set_text.new.self.rows; spare_texts = c.set_text.new.self.spare_texts }) (told_by c.set_text.result)
done c on kind =
    let e = rw c.read-bytes.ensures at c.set_text.ensures in
    texted (parts_of c.args.self.now) c.args.self.now.kept c.args.h c.args.text.now c.set_text.new.self c.set_text.result c.requires.in_range c.requires.plain on kind e.full e.after e.refused

pub invariant_of-self : goal.invariant_of-self
invariant_of-self c =
    let at = goal.at.invariant_of-self c in
    record { kept = (done at.After-set_text (there at.In-Some) (sym (kind-is at.In-Some) ∙ (sym c.has_feature.ensures ∙ c.if-not-has_feature.false))).kept }

pub returns-in-Ok : goal.returns-in-Ok
returns-in-Ok c =
    let at = goal.at.returns-in-Ok c in
    let left = done at.After-set_text (there at.In-Some) (sym (kind-is at.In-Some) ∙ (sym c.has_feature.ensures ∙ c.if-not-has_feature.false)) in
    rw c.in-Ok.is at left.is

pub returns-in-Err : goal.returns-in-Err
returns-in-Err c =
    let at = goal.at.returns-in-Err c in
    let left = done at.After-set_text (there at.In-Some) (sym (kind-is at.In-Some) ∙ (sym c.has_feature.ensures ∙ c.if-not-has_feature.false)) in
    rw c.in-Err.is at left.is
