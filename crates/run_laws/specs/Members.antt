-- The members of the focus groups of a machine.
use Rattle.std.specs.Prelude.{ℕ, ◌≡◌, ◌<◌, true, List, map, length, None}
use Rattle.gui_base.specs.Limits.{Bounds}
use Rattle.scene_defs.specs.Valid.{IsValid, is_among, stand_once}
use Rattle.gui_base.specs.declared.Handle.{Handle}
use Rattle.play_defs.specs.Focus.{Groups, group_of}
use Rattle.play_defs.specs.declared.Member.{Member}
use Rattle.run_defs.specs.Machine.{Machine, first_machine}
use Rattle.run_defs.specs.Step.{IsCommand, step}
use Rattle.run_defs.specs.declared.Command.{Command}
use Rattle.scene_defs.specs.Scene.{is_there}

-- the handles of the members of all groups
abbrev pub member_handles : Groups → List ℕ
member_handles groups = map (λ (member : Member). member.h.0) groups.members

-- each member is there, and is one once
pub record AreJoined (machine : Machine) : Type 0 where
  pub there : (h : ℕ) → is_among (member_handles machine.groups) h ≡ true →
      is_there machine.scene h ≡ true
  pub once : stand_once (member_handles machine.groups) ≡ true

abbrev pub FirstAreJoined : Type 0
FirstAreJoined = (limits : Bounds) → AreJoined (first_machine limits)

abbrev pub StepsKeepMembers : Type 0
StepsKeepMembers =
    (machine : Machine) (command : Command) → IsValid machine.scene → IsCommand command →
    AreJoined machine → AreJoined (step machine command).machine

-- there is room for an object that is in no group: there are fewer members than objects may be
abbrev pub OneMoreFits : Type 0
OneMoreFits =
    (machine : Machine) (h : Handle) → IsValid machine.scene → AreJoined machine →
    is_there machine.scene h.0 ≡ true → group_of machine.groups h ≡ None →
    length machine.groups.members < machine.scene.limits.objects
