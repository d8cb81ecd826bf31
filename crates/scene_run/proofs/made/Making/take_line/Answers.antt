use Rattle.std.proofs.Common.{◌∙◌, ap, cond, [], ◌∷◌, length-append, arith, refl, option_to_list}
use Rattle.std.proofs.lemmas.List.Sums.{sum_by-append}
use Rattle.gui_edge.proofs.Prefixes.{on_err}
use Rattle.gui_core.specs.Machines.{machine_of, pending_in, refresher_in}
use Rattle.run_defs.specs.Run.{first_moment, entry, entries, told}
use Rattle.run_defs.proofs.Runs.{told_more, fault_count-append, fits-length}
use Rattle.scene_run.specs.Counting.{making}
use Rattle.scene_run.specs.Making.{panel_alone, is_refused}
use Rattle.scene_run.proofs.Counting.{done-both, counts_one}
use Rattle.scene_run.proofs.Going.{goes_on_one, halts_at}
use Rattle.scene_run.proofs.made.Making.take_line.Goals as goal

pub returns-clause-ok : goal.returns-clause-ok
unfolding goes_on_one
returns-clause-ok g c =
    let old = making c.args.self.now (g.P.Panel.state c.args.panel.now) in
    let new = making c.count.new.self (g.P.Panel.state c.answer.new.panel) in
    let said = c.args.said.now in
    let outcome = c.in_ok-end.end.outcome in
    let e = c.in_ok-end.ensures in
    let n = c.count.ensures in
    let one = counts_one old.moment said outcome _ c.requires.no_pump e.fits refl in
    let on = goes_on_one old new said outcome c.in_ok-end.end.noted e.ok e.fits e.noted (ap machine_of n.gui ∙ e.machine) (omega (arith, n.lines)) (omega (arith, n.frames, n.faults, one.1.1)) refl
    (rw n.gui e.can) (rw n.gui e.agrees) (rw n.gui e.counts) (rw n.gui e.flies) in record {
      from = λ first start lines h.
          let us = told (entry old.moment said ∷ []) (option_to_list outcome) in
          let ts = told (entries (first_moment first) lines) h.answered.answers.outcomes in
          let more = told_more (first_moment first) old.moment lines (said ∷ []) h.answered.answers.outcomes (option_to_list outcome) h.answered.moment (fits-length (entries (first_moment first) lines) h.answered.answers.outcomes h.answered.answers.fits) in
          record {
            answered = on.from first (panel_alone start) lines h.answered;
            counts = rw more (record {
              all = omega (arith, n.lines, h.counts.all, length-append lines (said ∷ []));
              refused = omega (arith, n.refused, h.counts.refused, e.refused, sum_by-append (λ t. cond (is_refused t) 1 0) ts us);
              frames = omega (arith, n.frames, h.counts.frames, one.0, done-both ts us);
              faults = omega (arith, n.faults, h.counts.faults, one.1.0, fault_count-append ts us);
            });
            free = rw n.gui (e.free c.requires.no_pump h.free);
          };
      ready = on.ready;
    }

pub returns-in_err-end-clause-err : goal.returns-in_err-end-clause-err
returns-in_err-end-clause-err g c =
    on_err c.from_residual.result
    (halts_at (making c.args.self.now (g.P.Panel.state c.args.panel.now)) _ (refresher_in c.answer.new.gui) (pending_in c.answer.new.gui) c.args.said.now c.in_err-end.ensures.err c.in_err-end.ensures.can.sizes)
