-- Focus groups, their members, and which member is the next or the previous one to get the focus.
use Rattle.std.specs.Prelude.{ℕ, Bool, false, not, ◌==◌, if◌then◌else◌, Some, None, is_some, option_map}
use Rattle.std.specs.Prelude.{List, [], ◌∷◌, ◌++◌, map, filter, reverse, find}
use Rattle.std.specs.declared.option.Option.{Option}
use Rattle.gui_base.specs.declared.Handle.{Handle}
use Rattle.play_defs.specs.declared.Group.{Group}
use Rattle.play_defs.specs.declared.Member.{Member}
use Rattle.play_defs.specs.Same.{same_handle}

-- the focus groups, each with the number of the focused object and whether it is editing, and all members
pub record Groups : Type 0 where
  -- in the order of making
  pub groups : List Group
  -- of all groups, in the order of joining
  pub members : List Member

-- no focus groups
abbrev pub no_groups : Groups
no_groups = record { groups = []; members = [] }

-- Who has the focus.

-- the group of a number, if there is one
abbrev pub group_at : Groups → ℕ → Option Group
group_at s id = find (λ group. group.id == id) s.groups

-- whether there is a group of this number
abbrev pub has_group : Groups → ℕ → Bool
has_group s id = is_some (group_at s id)

-- the object that has the focus of a group, if one has it
abbrev pub focused_in : Option Group → Option Handle
focused_in None = None
focused_in (Some group) = group.focused

-- whether there is a group that is editing
abbrev pub is_editing : Option Group → Bool
is_editing None = false
is_editing (Some group) = group.editing

-- Members.

-- whether a member is one of this group
abbrev pub is_member : ℕ → Member → Bool
is_member id member = member.group == id

-- whether a member is this object
abbrev pub is_object : Handle → Member → Bool
is_object h member = same_handle member.h h

-- the members of a group
abbrev pub members_of : ℕ → List Member → List Handle
members_of id members = map (λ (member : Member). member.h) (filter (is_member id) members)

-- the group that an object is in
abbrev pub group_of : Groups → Handle → Option ℕ
group_of s h = option_map (λ (member : Member). member.group) (find (is_object h) s.members)

-- Changes.

-- with a group more, without members
abbrev pub with_group : Groups → ℕ → Groups
with_group s id = record s { groups = s.groups ++ record { id = id; focused = None; editing = false } ∷ [] }

-- one group in place of another of the same number, which otherwise stays
abbrev pub in_place_of : Group → Group → Group
in_place_of group other = if other.id == group.id then group else other

-- with a group in place of the one of its number
abbrev pub put : Groups → Group → Groups
put s group = record s { groups = map (in_place_of group) s.groups }

-- the same, if there is a group
abbrev pub put_some : Groups → Option Group → Groups
put_some s None = s
put_some s (Some group) = put s group

-- with another member that has the focus, or none
abbrev pub with_focused : Groups → ℕ → Option Handle → Groups
with_focused s id h =
    put_some s (option_map (λ (group : Group). record group { focused = h }) (group_at s id))

-- with a group that is editing, or is not
abbrev pub with_editing : Groups → ℕ → Bool → Groups
with_editing s id on =
    put_some s (option_map (λ (group : Group). record group { editing = on }) (group_at s id))

-- with a member more, the last of a group
abbrev pub joined : Groups → ℕ → Handle → Groups
joined s id h = record s { members = s.members ++ record { group = id; h = h } ∷ [] }

-- with an object in no group
abbrev pub without_member : Groups → Handle → Groups
without_member s h = record s { members = filter (λ member. not (is_object h member)) s.members }

-- whether there is an object and it is h
abbrev pub is_it : Handle → Option Handle → Bool
is_it h None = false
is_it h (Some k) = same_handle k h

-- a group in which h has the focus no more
abbrev pub released_by : Handle → Group → Group
released_by h group =
    if is_it h group.focused then record group { focused = None; editing = false } else group

-- with the group of a number, in which h has the focus no more
abbrev pub with_released : Groups → ℕ → Handle → Groups
with_released s id h = put_some s (option_map (released_by h) (group_at s id))

-- without a member of a group; if it has the focus, the group is left without focus and not editing
abbrev pub left : Groups → ℕ → Handle → Groups
left s id h = without_member (with_released s id h) h

-- The next and the previous one.

-- what stands after h
abbrev pub after : Handle → List Handle → List Handle
after h [] = []
after h (k ∷ ks) = if same_handle k h then ks else after h ks

-- what stands before h
abbrev pub before : Handle → List Handle → List Handle
before h [] = []
before h (k ∷ ks) = if same_handle k h then [] else k ∷ before h ks

-- the members without the focused one, turned to begin after it
abbrev pub turned : Option Handle → List Handle → List Handle
turned None members = members
turned (Some h) members = after h members ++ before h members

-- the members of a group in the order in which the focus goes on, without the one that has it
abbrev pub turned_in : Groups → ℕ → List Handle
turned_in s id = turned (focused_in (group_at s id)) (members_of id s.members)

-- the first of them that may have the focus
abbrev pub next_member : (Handle → Bool) → Groups → ℕ → Option Handle
next_member usable s id = find usable (turned_in s id)

-- the last of them that may have the focus
abbrev pub previous_member : (Handle → Bool) → Groups → ℕ → Option Handle
previous_member usable s id = find usable (reverse (turned_in s id))
