use Rattle.std.proofs.Common.{◌≡◌, ◌∙◌, ap, sym, subst, ℕ, List, length}
use Rattle.std.proofs.lemmas.Result.{on_ok_weaker, on_err_weaker}
use Rattle.gui_core.specs.Machines.{machine_of}
use Rattle.gui_core.specs.Sums.{picture_sum}
use Rattle.run_defs.specs.Run.{Told}
use Rattle.run_defs.specs.Script.{Said}
use Rattle.scene_run.specs.Counting.{Counts}
use Rattle.scene_run.specs.Making.{summary}
use Rattle.scene_run.specs.declared.made.Making.{Making}
use Rattle.scene_run.proofs.made.tell.Given.{Over}
use Rattle.scene_run.proofs.made.tell.Goals as goal
use Rattle.scene_run.proofs.made.tell.Goals.{After-put}

module _ (g : Over) (c : After-put g) where
  said : (lines : List Said) (ts : List Told) → Counts c.args.run.now lines ts → c.as_slice.result.now ≡ summary c.args.k (length lines) ts (picture_sum (machine_of c.args.run.now.gui).scene)
  said lines ts counts =
      c.as_slice.ensures.value
      ∙ (c.summary-text.ensures lines ts (subst (λ (m : Making). Counts m lines ts) (sym c.picture_sum-sum.ensures.same) counts)
      ∙ ap (λ (n : ℕ). summary c.args.k (length lines) ts n) c.picture_sum-sum.ensures.sum)

pub returns-clause-ok : goal.returns-clause-ok
returns-clause-ok g c =
    on_ok_weaker c.put.result (λ appends. λ lines ts counts. rw (said g c lines ts counts) at appends) c.put.ensures.ok

pub returns-clause-err : goal.returns-clause-err
returns-clause-err g c =
    on_err_weaker c.put.result (λ appends. λ lines ts counts. rw (said g c lines ts counts) at appends) c.put.ensures.err
