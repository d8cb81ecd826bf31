use Rattle.std.proofs.Common.{◌≡◌, ◌∙◌, ◌<◌, ap, sym, subst, false}
use Rattle.std.proofs.lemmas.Bool.{or_parts}
use Rattle.gui_base.specs.Forest.{parent_of}
use Rattle.gui_boxes.specs.Listing.{times}
use Rattle.gui_boxes.specs.Tables.{told}
use Rattle.gui_layout.specs.Tops.{is_it, is_over}
use Rattle.gui_layout.proofs.Overs.{if-parent}
use Rattle.gui_layout.proofs.Siblings.{one-only, one-times}
use Rattle.gui_layout.proofs.around.renew_around.Goals as goal

pub renew_with-requires-clause-there : goal.renew_with-requires-clause-there
renew_with-requires-clause-there c =
    let h = c.in-Some.h in
    let only = c.is_only.ensures c.if-is_only.true in
    c.requires.there h.0 (subst (λ us. 0 < times us h.0) (sym only) (one-times h))

pub renew_with-requires-clause-listed : goal.renew_with-requires-clause-listed
renew_with-requires-clause-listed c q up =
    let h = c.in-Some.h in
    let only = c.is_only.ensures c.if-is_only.true in
    c.requires.listed h.0 q (subst (λ us. 0 < times us h.0) (sym only) (one-times h)) up

pub renew_with-requires-clause-without : goal.renew_with-requires-clause-without
renew_with-requires-clause-without c q up = c.requires.lone c.in-Some.h q c.in-Some.is (c.is_only.ensures c.if-is_only.true) up

pub returns-then-is_only-clause-own : goal.returns-then-is_only-clause-own
returns-then-is_only-clause-own c u q some up still =
    let only = c.is_only.ensures c.if-is_only.true in
    c.renew_with.ensures.own q (ap (parent_of c.args.tree.now.forest) (one-only c.in-Some.h u (subst (λ us. 0 < times us u) only some)) ∙ up)

pub returns-then-is_only-clause-others : goal.returns-then-is_only-clause-others
returns-then-is_only-clause-others c k off =
    let only = c.is_only.ensures c.if-is_only.true in
    let f = c.args.tree.now.forest in
    let parts : (is_it k (parent_of f c.in-Some.h.0) ≡ false) × (false ≡ false) = or_parts (is_it k (parent_of f c.in-Some.h.0)) false (subst (λ us. is_over f us k ≡ false) only off) in
    c.renew_with.ensures.others k parts.0

pub returns-then-is_only-clause-last : goal.returns-then-is_only-clause-last
returns-then-is_only-clause-last c =
    let f = c.args.tree.now.forest in
    if-parent f (told c.args.entries.now) (told c.renew_with.new.entries) c.parent-parent.result (parent_of f c.in-Some.h.0) c.parent-parent.ensures (λ q up. c.renew_with.ensures.own q up)
