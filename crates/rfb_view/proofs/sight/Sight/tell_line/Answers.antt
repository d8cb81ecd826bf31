use Rattle.std.proofs.Common.{◌≡◌, ◌∙◌, ap, ◌-◌, ℕ, map, option_map, arith}
use Rattle.session_defs.specs.Formats.{number}
use Rattle.session_defs.specs.declared.Format.{Format}
use Rattle.session_defs.specs.Updates.{Sight, number_at}
use Rattle.rfb_view.specs.Sights.{with_run}
use Rattle.rfb_view.proofs.Told.{run_init, run_step, parts_are}
use Rattle.rfb_view.proofs.sight.Sight.tell_line.Goals as goal

pub loop-place-init : goal.loop-place-init
loop-place-init c = record {
  format_is = ap (λ (s : Sight). s.format) c.self.view_is;
  sent_is = run_init c.self.inside.format c.self.inside.sent.items c.args.first c.args.colors.now c.args.self.now (ap (λ (s : Sight). s.format) c.self.view_is) (ap (λ (s : Sight). s.sent) c.self.view_is);
  request_is = ap (λ (s : Sight). s.request) c.self.view_is;
}

pub loop-place-preserved : goal.loop-place-preserved
loop-place-preserved c = record {
  format_is = c.loop-place.invariant.format_is;
  sent_is = run_step c.args.self.now.format c.loop-place.self-inside.sent.items c.args.first c.loop-place.place c.args.colors.now c.args.self.now.sent c.loop-place.auto.place
      (omega (arith, c.requires.known, c.requires.within, c.loop-place-test.true)) c.loop-place.invariant.sent_is;
  request_is = c.loop-place.invariant.request_is;
}

pub returns : goal.returns
returns c =
    let all : c.loop-place.place - c.args.first ≡ c.args.count = omega (arith, c.loop-place-test.false, c.loop-place.auto.place, c.loop-place.auto.place-end) in
    parts_are _ _ _ _ _ _ c.loop-place.invariant.format_is
    (ap (λ (f : Format). map (option_map (number f)) c.loop-place.self-inside.sent.items) c.loop-place.invariant.format_is
    ∙ c.loop-place.invariant.sent_is ∙ ap (λ (n : ℕ). with_run c.args.first n (number_at c.args.self.now.format c.args.colors.now) c.args.self.now.sent) all)
    c.loop-place.invariant.request_is
