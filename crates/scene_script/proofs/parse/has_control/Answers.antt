use Rattle.std.proofs.Common.{◌∙◌, sym, arith}
use Rattle.run_defs.specs.Language.{is_control}
use Rattle.scene_script.proofs.ControlLemmas.{some_of_eight, none_of_eight}
use Rattle.scene_script.proofs.parse.has_control.Goals as goal

pub returns-then-low-is_control : goal.returns-then-low-is_control
returns-then-low-is_control c =
    let some = rw (
      c.is_control.ensures,
      c.is_control-in-len8-up.ensures,
      c.is_control-in-len8-up-2.ensures,
      c.is_control-in-len8-up-3.ensures,
      c.is_control-in-len8-up-4.ensures,
      c.is_control-in-len8-up-5.ensures,
      c.is_control-in-len8-up-6.ensures,
      c.is_control-in-len8-up-7.ensures,
    ) at c.if-low-is_control.true in
    sym (some_of_eight is_control c.loop-rest.rest.now (omega arith) some) ∙ c.loop-rest.invariant

pub loop-rest-preserved : goal.loop-rest-preserved
loop-rest-preserved c =
    let none = rw (
      c.is_control.ensures,
      c.is_control-in-len8-up.ensures,
      c.is_control-in-len8-up-2.ensures,
      c.is_control-in-len8-up-3.ensures,
      c.is_control-in-len8-up-4.ensures,
      c.is_control-in-len8-up-5.ensures,
      c.is_control-in-len8-up-6.ensures,
      c.is_control-in-len8-up-7.ensures,
    ) at c.if-low-is_control.false in
    none_of_eight is_control c.loop-rest.rest.now (omega arith) none ∙ c.loop-rest.invariant
