use Rattle.std.proofs.Common.{◌≡◌, ◌∙◌, sym, ap, subst, ℕ, Bool, true, ◌||◌, Some, None, length, arith}
use Rattle.std.proofs.lemmas.List.{length-map}
use Rattle.debt_defs.specs.SceneLook.{is_among}
use Rattle.gui_base.specs.declared.Handle.{Handle}
use Rattle.gui_store.specs.Views.{removed_of}
use Rattle.gui_tree.specs.Handles.{numbers}
use Rattle.gui_boxes.specs.Marks.{is_changed, is_marked}
use Rattle.gui_concerns.proofs.Marks.{count-none, none-changed, unmarked-by}
use Rattle.gui_concerns.proofs.marking.mark_gone.Goals as goal
use Rattle.gui_concerns.proofs.marking.mark_gone.Goals.{After-mark_listed}

pub mark_listed-requires : goal.mark_listed-requires
mark_listed-requires c =
    let none = count-none c.args.marks.now c.requires.none.none in
    let most = c.requires.none.most in
    let same = sym (length-map c.last_removed.result.now (λ (h : Handle). h.0)) ∙ ap length (c.last_removed.ensures ∙ c.tree.ensures.removed) in
    let room = c.requires.room in
    record { room = omega arith }

listed : (c : After-mark_listed) (k : ℕ) → is_changed c.mark_listed.new.marks k ≡ is_among (removed_of c.args.store.now) k
listed c k =
    c.mark_listed.ensures.marks.changed k
    ∙ (ap (λ (b : Bool). b || is_among (numbers c.last_removed.result.now) k) (none-changed c.args.marks.now k (c.requires.none.none k)) ∙ ap (λ hs. is_among hs k) (c.last_removed.ensures ∙ c.tree.ensures.removed))

none-some : {p : Handle} → None ≡ Some p → ⊥
none-some e = cc

pub returns-in_default-clause-gone : goal.returns-in_default-clause-gone
returns-in_default-clause-gone c = listed (goal.at.returns-in_default-clause-gone c).After-mark_listed

pub returns-in_default-clause-parent : goal.returns-in_default-clause-parent
returns-in_default-clause-parent c p is = absurd (none-some (sym c.in_default.is ∙ is))

pub mark_children-requires : goal.mark_children-requires
mark_children-requires c =
    let none = count-none c.args.marks.now c.requires.none.none in
    let most = c.requires.none.most in
    let still = c.mark_listed.ensures.most in
    let same = sym (length-map c.last_removed.result.now (λ (h : Handle). h.0)) ∙ ap length (c.last_removed.ensures ∙ c.tree.ensures.removed) in
    let room = c.requires.room in
    let count = c.mark_listed.ensures.count in
    record { room = λ unmarked. omega arith }

pub returns-clause-gone : goal.returns-clause-gone
returns-clause-gone c k = c.mark_children.ensures.changed k ∙ listed (goal.at.returns-clause-gone c).After-mark_listed k

pub returns-clause-parent : goal.returns-clause-parent
returns-clause-parent c p is =
    let both : Some c.in-Some.p ≡ Some p = sym c.in-Some.is ∙ is in
    let same : c.in-Some.p ≡ p = cc in
    subst (λ (g : Handle). is_marked c.mark_children.new.self g.0 ≡ true) same c.mark_children.ensures.own

pub returns-in_default-clause-others : goal.returns-in_default-clause-others
returns-in_default-clause-others c k gone above =
    unmarked-by c.args.marks.now c.mark_listed.new.marks k (c.requires.none.none k) (listed (goal.at.returns-in_default-clause-others c).After-mark_listed k ∙ gone)
    (c.mark_listed.ensures.marks.parents k)

pub returns-clause-others : goal.returns-clause-others
returns-clause-others c k gone above =
    unmarked-by c.args.marks.now c.mark_children.new.self k (c.requires.none.none k)
    (c.mark_children.ensures.changed k ∙ (listed (goal.at.returns-clause-others c).After-mark_listed k ∙ gone))
    (λ part. c.mark_listed.ensures.marks.parents k (sym (c.mark_children.ensures.others k (above c.in-Some.p c.in-Some.is)) ∙ part))
