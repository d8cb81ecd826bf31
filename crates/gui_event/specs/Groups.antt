-- What a contract sees of `Groups`, what its calls answer and what they leave.
use Rattle.std.specs.Prelude.{ℕ, ◌-◌, ◌==◌, Bool, not, if◌then◌else◌, length, is_some}
use Rattle.std.specs.Prelude.{Result, Ok, Err, Some, None}
use Rattle.std.specs.declared.option.Option.{Option}
use Rattle.gui_base.specs.declared.Handle.{Handle}
use Rattle.gui_base.specs.declared.limits.Pool.TheVariants.{Groups as GroupSlots}
use Rattle.gui_base.specs.declared.refusal.Refusal.{Refusal}
use Rattle.gui_base.specs.declared.refusal.Refusal.TheVariants.{Unknown, Taken, Place, Full}
use Rattle.play_defs.specs.declared.Group.{Group}
use Rattle.play_defs.specs.Focus as focus
use Rattle.play_defs.specs.Focus.{Groups, has_group, group_of}

pub record FocusGroups : Type 0 where
  -- the groups and their members
  pub all : Groups
  -- how many groups fit in all, and how many members
  pub size : ℕ
  pub objects : ℕ

abbrev pub spare : FocusGroups → ℕ
spare s = s.size - length s.all.groups

abbrev pub Answer : Type 0
Answer = Result (Unit {0}) Refusal

abbrev pub group_answer : FocusGroups → ℕ → Answer
group_answer s id =
    if has_group s.all id then Err Taken
    else if spare s == 0 then Err (Full GroupSlots)
    else Ok tt

abbrev pub with_group : FocusGroups → ℕ → FocusGroups
with_group s id = record s { all = focus.with_group s.all id }

abbrev pub join_answer : FocusGroups → ℕ → Handle → Answer
join_answer s id h =
    if not (has_group s.all id) then Err Unknown
    else if is_some (group_of s.all h) then Err Taken
    else Ok tt

abbrev pub joined : FocusGroups → ℕ → Handle → FocusGroups
joined s id h = record s { all = focus.joined s.all id h }

abbrev pub leave_answer : FocusGroups → Handle → Answer
leave_answer s h = if is_some (group_of s.all h) then Ok tt else Err Place

abbrev pub left_by : Option ℕ → FocusGroups → Handle → FocusGroups
left_by None s h = s
left_by (Some id) s h = record s { all = focus.left s.all id h }

-- without a member of the group that it is in
abbrev pub left : FocusGroups → Handle → FocusGroups
left s h = left_by (group_of s.all h) s h

abbrev pub with_focused : FocusGroups → ℕ → Option Handle → FocusGroups
with_focused s id h = record s { all = focus.with_focused s.all id h }

abbrev pub with_editing : FocusGroups → ℕ → Bool → FocusGroups
with_editing s id on = record s { all = focus.with_editing s.all id on }

-- with a group in place of the one of its number
abbrev pub with_put : FocusGroups → Group → FocusGroups
with_put s group = record s { all = focus.put s.all group }

abbrev pub with_released : FocusGroups → ℕ → Handle → FocusGroups
with_released s id h = record s { all = focus.with_released s.all id h }

abbrev pub without_member : FocusGroups → Handle → FocusGroups
without_member s h = record s { all = focus.without_member s.all h }
