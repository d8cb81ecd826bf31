use Rattle.std.proofs.Common.{◌≡◌, ◌∙◌, ap, refl, ℕ, Bool, if◌then◌else◌, List, [], ◌∷◌, append-nil, arith, None, inl, inr}
use Rattle.run_defs.specs.declared.Reply.{Reply}
use Rattle.run_defs.specs.declared.Reply.TheVariants.{Ok as Fine, Refused}
use Rattle.run_defs.specs.Run.{Replied, frame_line, pump_line}
use Rattle.run_defs.specs.declared.Outcome.TheVariants.{Frame as OfFrame, Pump as OfPump}
use Rattle.gui_edge.proofs.Prefixes.{on_err}
use Rattle.gui_core.specs.Machines.{machine_of, pending_in, refresher_in, stage_of}
use Rattle.gui_refresh.proofs.Owing.{adding_counts}
use Rattle.scene_run.specs.Making.{is_refusal, refused_count}
use Rattle.scene_run.proofs.Effects.{AppendsPrefix-nothing, breaks_reply, no_effects, reply_effects}
use Rattle.scene_run.proofs.Owing.{panel_is}
use Rattle.scene_run.proofs.Pumping.{agrees_keeps, agrees_on, can_keeps, pump_effects}
use Rattle.scene_run.proofs.answer.answer.Goals as goal

-- what is counted of one reply
refused_one : (n : ℕ) (lines : List ℕ) (refused : Bool) (reply : Reply) → refused ≡ is_refusal reply → refused_count (Replied n lines reply ∷ []) ≡ (if refused then 1 else 0)
refused_one n lines refused (Fine noted) is = rw is refl
refused_one n lines refused (Refused refusal) is = rw is refl

-- the log did not take the lines of a reply whole
pub returns-in_err-reply-in-Make-clause-err : goal.returns-in_err-reply-in-Make-clause-err
unfolding breaks_reply
returns-in_err-reply-in-Make-clause-err g c = on_err c.from_residual.result (rw (c.in-Ok.is, c.in-Make.is) (record {
  breaks = breaks_reply _ _ _ _ _ _ c.in_err-reply-in-Make.ensures.err c.in_err-reply-in-Make.ensures.cause.failed;
  counts =
      let panel = g.P.Panel.state c.args.panel.now in
      rw c.in_err-reply-in-Make.ensures.refresher (rw (panel_is (machine_of c.args.gui.now).scene) at (adding_counts (stage_of c.args.gui.now panel) (pending_in c.make.new.gui) _ c.in_err-reply-in-Make.ensures.damage));
  flies = inl (refl, (c.in_err-reply-in-Make.ensures.progress (g.P.Panel.state c.args.panel.now), refl, refl));
}))

-- the frame could not be presented whole
pub returns-in_err-shown-in-Frame-clause-err : goal.returns-in_err-shown-in-Frame-clause-err
returns-in_err-shown-in-Frame-clause-err g c = on_err c.from_residual-in_err-shown-in-Frame.result (rw (c.in-Ok.is, c.in-Frame.is) (record {
  breaks = record {
    last = [];
    one = inl refl;
    log = AppendsPrefix-nothing (g.L.Sink.state c.args.log.now).held [];
    frames = c.in_err-shown-in-Frame.ensures.err.frames;
    shown = tt;
    faults = omega (arith, c.in_err-shown-in-Frame.ensures.err.faults);
    turn = c.in_err-shown-in-Frame.ensures.err.turn;
    cause = record { log = refl; panel = c.in_err-shown-in-Frame.ensures.err.cause };
  };
  counts = c.in_err-shown-in-Frame.ensures.err_counts;
  flies = inr (refl, c.in_err-shown-in-Frame.ensures.err.grew);
}))

-- the log did not take the line of a frame whole
pub returns-in_err-put-in-Frame-clause-err : goal.returns-in_err-put-in-Frame-clause-err
returns-in_err-put-in-Frame-clause-err g c = on_err c.from_residual-in_err-put-in-Frame.result (rw (c.in-Ok.is, c.in-Frame.is)
    (let end = c.in_ok-shown-in-Frame.shown in
    let shown = c.in_ok-shown-in-Frame.ensures.ok c.args.number c.args.frame None in record {
      breaks = record {
        last = OfFrame end ∷ [];
        one = inr refl;
        log = rw (append-nil (frame_line c.args.number c.args.frame end), ← c.frame_text.ensures, ← c.as_slice.ensures.value) c.in_err-put-in-Frame.ensures.err;
        frames = shown.frames;
        shown = shown.shown;
        faults = shown.faults;
        turn = shown.keeps.turn;
        cause = c.in_err-put-in-Frame.ensures.cause.failed;
      };
      counts = c.in_ok-shown-in-Frame.ensures.counts;
      flies = inl (refl, c.in_ok-shown-in-Frame.ensures.flies);
    }))

-- nor that of a pump
pub returns-in_err-put-in-Pump-clause-err : goal.returns-in_err-put-in-Pump-clause-err
returns-in_err-put-in-Pump-clause-err g c = on_err c.from_residual-in_err-put-in-Pump.result (rw (c.in-Ok.is, c.in-Pump.is)
    (let answer = c.pump_counted-pumped.result in
    let pumps = c.pump_counted-pumped.ensures.pumps in
    let effects = pump_effects c.args.number answer None _ _ _ pumps in record {
      breaks = record {
        last = OfPump answer ∷ [];
        one = inr refl;
        log = rw (append-nil (pump_line c.args.number answer), ← c.pump_text.ensures, ← c.as_slice-in-Pump.ensures.value) c.in_err-put-in-Pump.ensures.err;
        frames = effects.frames;
        shown = effects.shown;
        faults = effects.faults;
        turn = effects.keeps.turn;
        cause = c.in_err-put-in-Pump.ensures.cause.failed;
      };
      counts = pumps.sends.counts;
      flies = inl (refl, (pumps.pumping, pumps.flies));
    }))

-- nor the reply to a line that says nothing
pub returns-in_err-put-in-Err-clause-err : goal.returns-in_err-put-in-Err-clause-err
unfolding breaks_reply
returns-in_err-put-in-Err-clause-err g c = on_err c.from_residual-in_err-put-in-Err.result (rw c.in-Err.is (record {
  breaks = breaks_reply _ _ _ _ _ _ (rw (← c.from.ensures, ← c.reply_text.ensures, ← c.as_slice-in-Err.ensures.value) c.in_err-put-in-Err.ensures.err) c.in_err-put-in-Err.ensures.cause.failed;
  counts = refl;
  flies = inl (refl, refl);
}))

pub returns-in_ok-reply-in-Make-clause-ok : goal.returns-in_ok-reply-in-Make-clause-ok
returns-in_ok-reply-in-Make-clause-ok g c =
    rw (c.in-Ok.is, c.in-Make.is) (λ seen shown. reply_effects _ _ _ seen _ _ _ c.in_ok-reply-in-Make.ensures.ok c.in_ok-reply-in-Make.ensures.cause.later)

pub returns-in_ok-put-in-Frame-clause-ok : goal.returns-in_ok-put-in-Frame-clause-ok
returns-in_ok-put-in-Frame-clause-ok g c = rw (c.in-Ok.is, c.in-Frame.is) (λ seen shown. record {
  panel = c.in_ok-shown-in-Frame.ensures.ok _ _ seen;
  log = rw (append-nil (frame_line c.args.number c.args.frame c.in_ok-shown-in-Frame.shown), ← c.frame_text.ensures, ← c.as_slice.ensures.value) c.in_ok-put-in-Frame.ensures.ok;
  log_faults = c.in_ok-put-in-Frame.ensures.cause.later;
})

pub returns-in_ok-put-in-Pump-clause-ok : goal.returns-in_ok-put-in-Pump-clause-ok
returns-in_ok-put-in-Pump-clause-ok g c = rw (c.in-Ok.is, c.in-Pump.is) (λ seen shown. record {
  panel = pump_effects c.args.number c.pump_counted-pumped.result seen _ _ _ c.pump_counted-pumped.ensures.pumps;
  log = rw (append-nil (pump_line c.args.number c.pump_counted-pumped.result), ← c.pump_text.ensures, ← c.as_slice-in-Pump.ensures.value) c.in_ok-put-in-Pump.ensures.ok;
  log_faults = c.in_ok-put-in-Pump.ensures.cause.later;
})

-- what else is said of a line that says nothing

pub returns-in-Blank-clause-machine : goal.returns-in-Blank-clause-machine
returns-in-Blank-clause-machine g c = rw (c.in-Ok.is, c.in-Blank.is) refl

pub returns-in-Blank-clause-can : goal.returns-in-Blank-clause-can
returns-in-Blank-clause-can g c = c.requires.can

pub returns-in-Blank-clause-ok : goal.returns-in-Blank-clause-ok
returns-in-Blank-clause-ok g c = rw (c.in-Ok.is, c.in-Blank.is) (λ seen shown. no_effects _ seen shown)

pub returns-in-Blank-clause-fits : goal.returns-in-Blank-clause-fits
returns-in-Blank-clause-fits g c = rw (c.in-Ok.is, c.in-Blank.is) refl

pub returns-in-Blank-clause-noted : goal.returns-in-Blank-clause-noted
returns-in-Blank-clause-noted g c = rw (c.in-Ok.is, c.in-Blank.is) refl

pub returns-in-Blank-clause-refused : goal.returns-in-Blank-clause-refused
returns-in-Blank-clause-refused g c = rw (c.in-Ok.is, c.in-Blank.is) refl

pub returns-in-Blank-clause-counts : goal.returns-in-Blank-clause-counts
returns-in-Blank-clause-counts g c = rw (c.in-Ok.is, c.in-Blank.is) refl

pub returns-in-Blank-clause-flies : goal.returns-in-Blank-clause-flies
returns-in-Blank-clause-flies g c = rw (c.in-Ok.is, c.in-Blank.is) refl

pub returns-in-Blank-clause-agrees : goal.returns-in-Blank-clause-agrees
returns-in-Blank-clause-agrees g c = c.requires.agrees

pub returns-in-Blank-clause-free : goal.returns-in-Blank-clause-free
returns-in-Blank-clause-free g c = λ plain free. free

-- of a command

pub returns-in_err-reply-in-Make-clause-machine : goal.returns-in_err-reply-in-Make-clause-machine
returns-in_err-reply-in-Make-clause-machine g c = rw (c.in-Ok.is, c.in-Make.is) c.in_err-reply-in-Make.ensures.machine

pub returns-in_err-reply-in-Make-clause-can : goal.returns-in_err-reply-in-Make-clause-can
returns-in_err-reply-in-Make-clause-can g c = can_keeps (refresher_in c.args.gui.now) (refresher_in c.make.new.gui) (g.P.Panel.state c.args.panel.now) _ _ (machine_of c.args.gui.now).scene c.in_err-reply-in-Make.ensures.refresher c.requires.can

pub returns-in_ok-reply-in-Make-clause-machine : goal.returns-in_ok-reply-in-Make-clause-machine
returns-in_ok-reply-in-Make-clause-machine g c = rw (c.in-Ok.is, c.in-Make.is) c.in_ok-reply-in-Make.ensures.machine

pub returns-in_ok-reply-in-Make-clause-can : goal.returns-in_ok-reply-in-Make-clause-can
returns-in_ok-reply-in-Make-clause-can g c = can_keeps (refresher_in c.args.gui.now) (refresher_in c.make.new.gui) (g.P.Panel.state c.args.panel.now) _ _ (machine_of c.args.gui.now).scene c.in_ok-reply-in-Make.ensures.refresher c.requires.can

pub returns-in_ok-reply-in-Make-clause-fits : goal.returns-in_ok-reply-in-Make-clause-fits
returns-in_ok-reply-in-Make-clause-fits g c = rw (c.in-Ok.is, c.in-Make.is) refl

pub returns-in_ok-reply-in-Make-clause-refused : goal.returns-in_ok-reply-in-Make-clause-refused
returns-in_ok-reply-in-Make-clause-refused g c = rw (c.in-Ok.is, c.in-Make.is) (refused_one c.args.number [] _ _ (c.is_refusal.ensures ∙ ap is_refusal c.in_ok-reply-in-Make.ensures.reply))

pub returns-in_ok-reply-in-Make-clause-counts : goal.returns-in_ok-reply-in-Make-clause-counts
returns-in_ok-reply-in-Make-clause-counts g c =
    rw (c.in-Ok.is, c.in-Make.is) (rw c.in_ok-reply-in-Make.ensures.refresher (rw (panel_is (machine_of c.args.gui.now).scene) at (adding_counts (stage_of c.args.gui.now (g.P.Panel.state c.args.panel.now)) (pending_in c.make.new.gui) _ c.in_ok-reply-in-Make.ensures.damage)))

pub returns-in_ok-reply-in-Make-clause-flies : goal.returns-in_ok-reply-in-Make-clause-flies
returns-in_ok-reply-in-Make-clause-flies g c = rw (c.in-Ok.is, c.in-Make.is) (c.in_ok-reply-in-Make.ensures.progress (g.P.Panel.state c.args.panel.now), refl, refl)

pub returns-in_ok-reply-in-Make-clause-agrees : goal.returns-in_ok-reply-in-Make-clause-agrees
returns-in_ok-reply-in-Make-clause-agrees g c =
    agrees_keeps (refresher_in c.args.gui.now) (refresher_in c.make.new.gui) (g.P.Panel.state c.args.panel.now) (pending_in c.make.new.gui) (machine_of c.make.new.gui).scene c.in_ok-reply-in-Make.ensures.refresher
    (c.in_ok-reply-in-Make.ensures.agrees (refresher_in c.args.gui.now) (g.P.Panel.state c.args.panel.now) c.requires.can.sizes c.requires.agrees)

pub returns-in_ok-reply-in-Make-clause-free : goal.returns-in_ok-reply-in-Make-clause-free
returns-in_ok-reply-in-Make-clause-free g c = λ plain free. rw c.in_ok-reply-in-Make.ensures.refresher free

-- of a frame

pub returns-in_err-shown-in-Frame-clause-machine : goal.returns-in_err-shown-in-Frame-clause-machine
returns-in_err-shown-in-Frame-clause-machine g c = rw (c.in-Ok.is, c.in-Frame.is) c.in_err-shown-in-Frame.ensures.machine

pub returns-in_err-shown-in-Frame-clause-can : goal.returns-in_err-shown-in-Frame-clause-can
returns-in_err-shown-in-Frame-clause-can g c = c.in_err-shown-in-Frame.ensures.can

pub returns-in_err-put-in-Frame-clause-machine : goal.returns-in_err-put-in-Frame-clause-machine
returns-in_err-put-in-Frame-clause-machine g c = rw (c.in-Ok.is, c.in-Frame.is) c.in_ok-shown-in-Frame.ensures.machine

pub returns-in_err-put-in-Frame-clause-can : goal.returns-in_err-put-in-Frame-clause-can
returns-in_err-put-in-Frame-clause-can g c = c.in_ok-shown-in-Frame.ensures.can

pub returns-in_ok-put-in-Frame-clause-machine : goal.returns-in_ok-put-in-Frame-clause-machine
returns-in_ok-put-in-Frame-clause-machine g c = rw (c.in-Ok.is, c.in-Frame.is) c.in_ok-shown-in-Frame.ensures.machine

pub returns-in_ok-put-in-Frame-clause-can : goal.returns-in_ok-put-in-Frame-clause-can
returns-in_ok-put-in-Frame-clause-can g c = c.in_ok-shown-in-Frame.ensures.can

pub returns-in_ok-put-in-Frame-clause-fits : goal.returns-in_ok-put-in-Frame-clause-fits
returns-in_ok-put-in-Frame-clause-fits g c = rw (c.in-Ok.is, c.in-Frame.is) refl

pub returns-in_ok-put-in-Frame-clause-refused : goal.returns-in_ok-put-in-Frame-clause-refused
returns-in_ok-put-in-Frame-clause-refused g c = rw (c.in-Ok.is, c.in-Frame.is) refl

pub returns-in_ok-put-in-Frame-clause-counts : goal.returns-in_ok-put-in-Frame-clause-counts
returns-in_ok-put-in-Frame-clause-counts g c = rw (c.in-Ok.is, c.in-Frame.is) c.in_ok-shown-in-Frame.ensures.counts

pub returns-in_ok-put-in-Frame-clause-flies : goal.returns-in_ok-put-in-Frame-clause-flies
returns-in_ok-put-in-Frame-clause-flies g c = rw (c.in-Ok.is, c.in-Frame.is) c.in_ok-shown-in-Frame.ensures.flies

pub returns-in_ok-put-in-Frame-clause-agrees : goal.returns-in_ok-put-in-Frame-clause-agrees
returns-in_ok-put-in-Frame-clause-agrees g c = agrees_on (stage_of c.show.new.gui (g.P.Panel.state c.show.new.panel)) _ _ c.in_ok-shown-in-Frame.ensures.machine c.in_ok-shown-in-Frame.ensures.agrees

pub returns-in_ok-put-in-Frame-clause-free : goal.returns-in_ok-put-in-Frame-clause-free
returns-in_ok-put-in-Frame-clause-free g c = λ plain free. c.in_ok-shown-in-Frame.ensures.free

-- of a pump

pub returns-in_err-put-in-Pump-clause-machine : goal.returns-in_err-put-in-Pump-clause-machine
returns-in_err-put-in-Pump-clause-machine g c = rw (c.in-Ok.is, c.in-Pump.is) c.pump_counted-pumped.ensures.machine

pub returns-in_err-put-in-Pump-clause-can : goal.returns-in_err-put-in-Pump-clause-can
returns-in_err-put-in-Pump-clause-can g c = c.pump_counted-pumped.ensures.pumps.sends.can

pub returns-in_ok-put-in-Pump-clause-machine : goal.returns-in_ok-put-in-Pump-clause-machine
returns-in_ok-put-in-Pump-clause-machine g c = rw (c.in-Ok.is, c.in-Pump.is) c.pump_counted-pumped.ensures.machine

pub returns-in_ok-put-in-Pump-clause-can : goal.returns-in_ok-put-in-Pump-clause-can
returns-in_ok-put-in-Pump-clause-can g c = c.pump_counted-pumped.ensures.pumps.sends.can

pub returns-in_ok-put-in-Pump-clause-fits : goal.returns-in_ok-put-in-Pump-clause-fits
returns-in_ok-put-in-Pump-clause-fits g c = rw (c.in-Ok.is, c.in-Pump.is) refl

pub returns-in_ok-put-in-Pump-clause-noted : goal.returns-in_ok-put-in-Pump-clause-noted
returns-in_ok-put-in-Pump-clause-noted g c = rw (c.in-Ok.is, c.in-Pump.is) refl

pub returns-in_ok-put-in-Pump-clause-refused : goal.returns-in_ok-put-in-Pump-clause-refused
returns-in_ok-put-in-Pump-clause-refused g c = rw (c.in-Ok.is, c.in-Pump.is) refl

pub returns-in_ok-put-in-Pump-clause-counts : goal.returns-in_ok-put-in-Pump-clause-counts
returns-in_ok-put-in-Pump-clause-counts g c = rw (c.in-Ok.is, c.in-Pump.is) c.pump_counted-pumped.ensures.pumps.sends.counts

pub returns-in_ok-put-in-Pump-clause-flies : goal.returns-in_ok-put-in-Pump-clause-flies
returns-in_ok-put-in-Pump-clause-flies g c = rw (c.in-Ok.is, c.in-Pump.is) (c.pump_counted-pumped.ensures.pumps.pumping, c.pump_counted-pumped.ensures.pumps.flies)

pub returns-in_ok-put-in-Pump-clause-agrees : goal.returns-in_ok-put-in-Pump-clause-agrees
returns-in_ok-put-in-Pump-clause-agrees g c = agrees_on (stage_of c.pump_counted-pumped.new.gui (g.P.Panel.state c.pump_counted-pumped.new.panel)) _ _ c.pump_counted-pumped.ensures.machine (c.pump_counted-pumped.ensures.pumps.sends.agrees c.requires.agrees)

-- and of a line at fault

pub returns-in_err-put-in-Err-clause-machine : goal.returns-in_err-put-in-Err-clause-machine
returns-in_err-put-in-Err-clause-machine g c = rw c.in-Err.is refl

pub returns-in_err-put-in-Err-clause-can : goal.returns-in_err-put-in-Err-clause-can
returns-in_err-put-in-Err-clause-can g c = c.requires.can

pub returns-in_ok-put-in-Err-clause-machine : goal.returns-in_ok-put-in-Err-clause-machine
returns-in_ok-put-in-Err-clause-machine g c = rw c.in-Err.is refl

pub returns-in_ok-put-in-Err-clause-can : goal.returns-in_ok-put-in-Err-clause-can
returns-in_ok-put-in-Err-clause-can g c = c.requires.can

pub returns-in_ok-put-in-Err-clause-ok : goal.returns-in_ok-put-in-Err-clause-ok
returns-in_ok-put-in-Err-clause-ok g c =
    rw c.in-Err.is (λ seen shown. reply_effects _ _ _ seen _ _ _ (rw (← c.from.ensures, ← c.reply_text.ensures, ← c.as_slice-in-Err.ensures.value) c.in_ok-put-in-Err.ensures.ok) c.in_ok-put-in-Err.ensures.cause.later)

pub returns-in_ok-put-in-Err-clause-fits : goal.returns-in_ok-put-in-Err-clause-fits
returns-in_ok-put-in-Err-clause-fits g c = rw c.in-Err.is refl

pub returns-in_ok-put-in-Err-clause-noted : goal.returns-in_ok-put-in-Err-clause-noted
returns-in_ok-put-in-Err-clause-noted g c = rw c.in-Err.is refl

pub returns-in_ok-put-in-Err-clause-refused : goal.returns-in_ok-put-in-Err-clause-refused
returns-in_ok-put-in-Err-clause-refused g c = rw c.in-Err.is refl

pub returns-in_ok-put-in-Err-clause-counts : goal.returns-in_ok-put-in-Err-clause-counts
returns-in_ok-put-in-Err-clause-counts g c = rw c.in-Err.is refl

pub returns-in_ok-put-in-Err-clause-flies : goal.returns-in_ok-put-in-Err-clause-flies
returns-in_ok-put-in-Err-clause-flies g c = rw c.in-Err.is refl

pub returns-in_ok-put-in-Err-clause-agrees : goal.returns-in_ok-put-in-Err-clause-agrees
returns-in_ok-put-in-Err-clause-agrees g c = c.requires.agrees

pub returns-in_ok-put-in-Err-clause-free : goal.returns-in_ok-put-in-Err-clause-free
returns-in_ok-put-in-Err-clause-free g c = λ plain free. free
