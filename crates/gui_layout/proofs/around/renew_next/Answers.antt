use Rattle.std.proofs.Common.{◌≡◌, ◌∙◌, sym, ap, subst, ℕ, Option, Some, None, false}
use Rattle.std.specs.Prelude.{option_map}
use Rattle.gui_base.specs.Forest.{parent_of}
use Rattle.gui_base.specs.declared.Handle.{Handle}
use Rattle.gui_tree.specs.Handles.{as_handle}
use Rattle.gui_boxes.specs.Around.{IsFlat}
use Rattle.gui_boxes.specs.Tables.{told}
use Rattle.gui_boxes.specs.Views.{box_at}
use Rattle.gui_layout.specs.Tops.{is_it}
use Rattle.gui_layout.proofs.Climbing.{is_above}
use Rattle.gui_layout.proofs.Overs.{reads-none}
use Rattle.gui_layout.proofs.around.renew_next.Goals as goal

-- what has no parent has none
no-parent : (o : Option ℕ) (q : ℕ) → None ≡ option_map as_handle o → o ≡ Some q → ⊥
no-parent None q none is = cc
no-parent (Some p) q none is = cc

same-parent : (o : Option ℕ) (p : Handle) (q : ℕ) → o ≡ Some p.0 → o ≡ Some q → p.0 ≡ q
same-parent o p q one other = let both : Some p.0 ≡ Some q = sym one ∙ other in cc

pub renew_once-requires-clause-there : goal.renew_once-requires-clause-there
renew_once-requires-clause-there c =
    let up : Some c.in-Some.parent ≡ option_map as_handle (parent_of c.args.tree.now.forest c.args.h.0) = cc in
    (is_above c.args.tree.now.forest c.args.h.0 c.in-Some.parent c.requires.once c.requires.there up).there

pub renew_once-requires-clause-listed : goal.renew_once-requires-clause-listed
renew_once-requires-clause-listed c =
    let up : Some c.in-Some.parent ≡ option_map as_handle (parent_of c.args.tree.now.forest c.args.h.0) = cc in
    c.requires.listed c.in-Some.parent.0 (is_above c.args.tree.now.forest c.args.h.0 c.in-Some.parent c.requires.once c.requires.there up).parent

pub returns-in-Some-clause-own : goal.returns-in-Some-clause-own
returns-in-Some-clause-own c q parent still =
    let f = c.args.tree.now.forest in
    let up : Some c.in-Some.parent ≡ option_map as_handle (parent_of f c.args.h.0) = cc in
    let above = is_above f c.args.h.0 c.in-Some.parent c.requires.once c.requires.there up in
    let same = same-parent (parent_of f c.args.h.0) c.in-Some.parent q above.parent parent in
    subst (λ j. IsFlat f (told c.renew_once.new.entries) j) same (c.renew_once.ensures.own (subst (λ j. (box_at (told c.args.entries.now).boxes j).scrollable ≡ false) (sym same) still))

pub returns-in-Some-clause-others : goal.returns-in-Some-clause-others
returns-in-Some-clause-others c k off =
    let f = c.args.tree.now.forest in
    let up : Some c.in-Some.parent ≡ option_map as_handle (parent_of f c.args.h.0) = cc in
    let above = is_above f c.args.h.0 c.in-Some.parent c.requires.once c.requires.there up in
    c.renew_once.ensures.others k (ap (is_it k) (sym above.parent) ∙ off)

pub returns-in-None-clause-own : goal.returns-in-None-clause-own
returns-in-None-clause-own c q parent still =
    let none : None ≡ option_map as_handle (parent_of c.args.tree.now.forest c.args.h.0) = cc in
    absurd (no-parent (parent_of c.args.tree.now.forest c.args.h.0) q none parent)

pub returns-in-None-clause-reads : goal.returns-in-None-clause-reads
returns-in-None-clause-reads c = reads-none c.args.tree.now.forest (told c.args.entries.now)
