use Rattle.std.proofs.Common.{◌+◌, sym, subst, arith}
use Rattle.line_texts.proofs.MadeLines.{draw_below, made_commands_say}
use Rattle.run_defs.specs.Made.{command_at, draw, drawn}
use Rattle.scene_script.specs.MadeLines.{IsOnMade}
use Rattle.scene_script.proofs.MadeLemmas.{frame_says}
use Rattle.scene_script.proofs.says.line_of.Goals as goal
use Rattle.scene_script.proofs.says.line_of.Goals.{in-Object, in-Drawn}

pub returns-in-Frame-clause-says : goal.returns-in-Frame-clause-says
returns-in-Frame-clause-says c = rw c.in-Frame.is (sym frame_says)

pub returns-clause-says : goal.returns-clause-says
returns-clause-says c =
    let sized = c.requires.sized in
    elim c.match-line.branch [
      | in-Object w ↦
          let on_made = subst IsOnMade w.in-Object.is c.requires.on_made in
          rw (w.change-is, w.change_of-change.ensures.change, w.in-Object.is)
          (sym (made_commands_say c.args.width c.args.height w.in-Object.command w.in-Object.h c.args.draws.now.x
          sized.some_width sized.most_width sized.some_height sized.most_height on_made.0 on_made.1))
      | in-Drawn w ↦
          let x = c.args.draws.now.x in
          let few = draw_below 50 x (omega arith) in
          rw (
            w.change-is,
            w.change_of-change-in-Drawn.ensures.change,
            w.command_at-command.ensures,
            w.draw-in-Drawn.ensures.value,
            w.draw-in-Drawn.ensures.state,
            w.draw.ensures.value,
            w.draw.ensures.state,
            w.in-Drawn.is,
          )
          (sym (made_commands_say c.args.width c.args.height (command_at (draw 4 (drawn x))) (10 + draw 50 x) (drawn (drawn x))
          sized.some_width sized.most_width sized.some_height sized.most_height (omega arith) (omega (arith, few))))
    ]
