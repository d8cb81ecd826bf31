use Rattle.std.proofs.Common.{◌≡◌, ◌∙◌, ap, sym, arith, None, ℕ, ◌≤◌, ◌*◌}
use Rattle.std.proofs.lemmas.List.{length-replicate}
use Rattle.gui_base.specs.Bounded.{bounds_of}
use Rattle.gui_base.specs.Limits.{Bounds}
use Rattle.gui_core.specs.Machines.{machine_of}
use Rattle.rfb_view.specs.Sights.{IsSight, untold}
use Rattle.rfb_view.specs.Talking.{IsOver}
use Rattle.rfb_view.specs.declared.talk.Talk.{Talk}
use Rattle.run_defs.specs.Machine.{Machine, first_machine}
use Rattle.session_defs.specs.Updates.{Sight}
use Rattle.scene_rfb.proofs.top.open.Goals as goal

sight_untold : (width height : ℕ) → IsSight width height (untold (width * height))
sight_untold width height = record { many = length-replicate (width * height) None; within = λ area e. cc }

-- a talk that begins over a machine that was just opened
begins_over : (limits : Bounds) (machine : Machine) (talk : Talk) (sight : Sight) → machine ≡ first_machine limits → limits.width ≤ 1024 → talk.width ≡ limits.width → talk.height ≡ limits.height → talk.sight ≡ sight → sight ≡ untold (limits.width * limits.height) → IsOver machine talk
begins_over limits machine talk sight is few width height seen told = record {
  width_is = width ∙ sym (ap (λ (m : Machine). m.scene.limits.width) is);
  height_is = height ∙ sym (ap (λ (m : Machine). m.scene.limits.height) is);
  few = omega (arith, width);
  sight = rw (width, height, seen, told) (sight_untold limits.width limits.height);
}

pub returns-clause-over : goal.returns-clause-over
returns-clause-over c =
    let sizes = c.new-talk.ensures.sizes in
    begins_over (bounds_of c.args.settings.now.limits) (machine_of c.in_ok-screen.screen.gui) c.new-talk.result c.in_ok-sight.sight
    c.in_ok-screen.ensures c.args.settings.now.limits.panel.most_width sizes.0 sizes.1 c.new-talk.ensures.sight c.in_ok-sight.ensures
