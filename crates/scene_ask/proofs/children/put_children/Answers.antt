use Rattle.std.proofs.Common.{◌≡◌, ◌∙◌, ◌++◌, ap, subst, sym, true, arith, rules, codes, flat_map, Some}
use Rattle.std.proofs.KnownBytes.{Appends-trans}
use Rattle.std.specs.Io.KnownBytes.{Appends}
use Rattle.gui_base.specs.Forest.{roots}
use Rattle.gui_core.specs.Machines.{machine_of, pending_in}
use Rattle.gui_damage.specs.Pending.{total}
use Rattle.gui_edge.proofs.Prefixes.{on_err, AppendsPrefix-append, AppendsPrefix-behind}
use Rattle.gui_edge.specs.Sink.{AppendsPrefix}
use Rattle.gui_tree.specs.Walks.{Walk}
use Rattle.scene_defs.specs.Scene.{Scene, handles_of, is_there}
use Rattle.scene_script.specs.declared.questions.Question.TheVariants.{Children}
use Rattle.scene_ask.specs.Asking.{count, answer_line}
use Rattle.scene_ask.proofs.Naming.{names_first, names_more, names_last, ok_then, err_then}
use Rattle.scene_ask.proofs.children.put_children.Goals as goal

pub returns-in_err-put-clause-err : goal.returns-in_err-put-clause-err
returns-in_err-put-clause-err g c =
    let gui = c.args.gui.now in
    let there : is_there (machine_of gui).scene c.args.h.0 ≡ true = search rules in
    let forest = c.tree-tree.ensures.forest ∙ ap (λ (s : Scene). handles_of s.trees) c.store.ensures in
    let whole = names_first c.args.number (machine_of gui) (total (pending_in gui).areas) c.args.h c.tree-tree.result.now.forest c.as_slice-2.result.now there forest (c.as_slice-2.ensures.value ∙ c.numbered-2.ensures) in
    on_err c.from_residual.result (subst (AppendsPrefix _ _) whole (AppendsPrefix-append _ _ _ _ c.in_err-put.ensures.err))

pub loop-child-init : goal.loop-child-init
loop-child-init g c =
    let gui = c.args.gui.now in
    let there : is_there (machine_of gui).scene c.args.h.0 ≡ true = search rules in
    let forest = c.tree-tree.ensures.forest ∙ ap (λ (s : Scene). handles_of s.trees) c.store.ensures in
    let whole = names_first c.args.number (machine_of gui) (total (pending_in gui).areas) c.args.h c.tree-tree.result.now.forest c.as_slice-2.result.now there forest (c.as_slice-2.ensures.value ∙ c.numbered-2.ensures) in
    let walk = c.into_iter-child-iterator.ensures.into_iter_gives ∙ c.children-child-items.ensures.walk in
    record {
      bytes = c.as_slice-2.result.now;
      whole = subst (λ (w : Walk). c.as_slice-2.result.now ++ (flat_map count (roots w.left) ++ codes "\n") ≡ answer_line c.args.number (machine_of gui) (total (pending_in gui).areas) (Some (Children c.args.h))) (sym walk) whole;
      written = c.in_ok-put.ensures.ok;
      later = omega (arith, c.in_ok-put.ensures.cause.later);
    }

pub loop-child-preserved : goal.loop-child-preserved
loop-child-preserved g c =
    let inv = c.loop-child.invariant in
    record {
      bytes = inv.bytes ++ count c.in-Some.child.0;
      whole = names_more _ _ _ inv.bytes (codes "\n") _ c.in-Some.ensures.steps inv.whole;
      written = Appends-trans _ _ _ _ _ inv.written (rw (c.as_slice-in-loop-child.ensures.value, c.name_text.ensures) at c.in_ok-put-2.ensures.ok);
      later = omega (arith, inv.later, c.in_ok-put-2.ensures.cause.later);
    }

pub returns-in_err-put-2-clause-err : goal.returns-in_err-put-2-clause-err
returns-in_err-put-2-clause-err g c =
    let inv = c.loop-child.invariant in
    on_err c.from_residual-in_err-put-2.result (subst (AppendsPrefix _ _) (names_more _ _ _ inv.bytes (codes "\n") _ c.in-Some.ensures.steps inv.whole)
    (AppendsPrefix-append _ _ _ _ (AppendsPrefix-behind _ _ _ _ _ inv.written (rw (c.as_slice-in-loop-child.ensures.value, c.name_text.ensures) at c.in_err-put-2.ensures.err))))

pub returns-clause-ok : goal.returns-clause-ok
returns-clause-ok g c =
    let inv = c.loop-child.invariant in
    let first = (g.A.Sink.state c.args.answers.now).held in
    let mid = (g.A.Sink.state c.loop-child.answers).held in
    let last = (g.A.Sink.state c.put-3.new.self).held in
    ok_then c.put-3.result (λ (p : Appends mid last (codes "\n")). subst (Appends first last) (names_last _ inv.bytes (codes "\n") _ c.in-None.ensures.steps.0 inv.whole) (Appends-trans first mid last inv.bytes (codes "\n") inv.written p)) c.put-3.ensures.ok

pub returns-clause-err : goal.returns-clause-err
returns-clause-err g c =
    let inv = c.loop-child.invariant in
    let first = (g.A.Sink.state c.args.answers.now).held in
    let mid = (g.A.Sink.state c.loop-child.answers).held in
    let last = (g.A.Sink.state c.put-3.new.self).held in
    err_then c.put-3.result (λ (p : AppendsPrefix mid last (codes "\n")). subst (AppendsPrefix first last) (names_last _ inv.bytes (codes "\n") _ c.in-None.ensures.steps.0 inv.whole) (AppendsPrefix-behind first mid last inv.bytes (codes "\n") inv.written p)) c.put-3.ensures.err
