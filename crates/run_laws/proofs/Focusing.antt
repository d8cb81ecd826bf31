-- The object that has the focus of a group is a member of it, whatever becomes of groups.
use Rattle.std.proofs.Common.{◌≡◌, ◌∙◌, ap, sym, subst, refl, ℕ, Bool, true, false, Option, Some, None, option_map, find, List, [], ◌∷◌, ◌++◌, map, filter, reverse, arith, inl, inr}
use Rattle.std.specs.Prelude.{not, ◌||◌, ◌==◌, IfSome, if◌then◌else◌}
use Rattle.std.specs.List.{AllByRecursion}
use Rattle.std.proofs.lemmas.Bool.{cases_Bool}
use Rattle.std.proofs.lemmas.Bool.Decides.{nat_tests}
use Rattle.std.proofs.lemmas.Grind.{reverse_onto}
use Rattle.gui_base.specs.declared.Handle.{Handle}
use Rattle.play_defs.specs.Focus.{Groups, group_at, group_of, focused_in, in_place_of, is_it, is_object, members_of, put_some, released_by, without_member, left, after, before, turned, turned_in, next_member, previous_member, with_focused, with_editing, with_group, joined}
use Rattle.play_defs.specs.declared.Group.{Group}
use Rattle.play_defs.specs.declared.Member.{Member}
use Rattle.scene_defs.specs.Valid.{is_among, stand_once}
use Rattle.run_laws.specs.Held.{FocusesMember}
use Rattle.run_laws.specs.Members.{member_handles}

-- Lists.

pub all_weaker : {A : Type 0} (P Q : A → Type 0) → ((a : A) → P a → Q a) → (xs : List A) → AllByRecursion P xs → AllByRecursion Q xs
all_weaker P Q weaker [] all = tt
all_weaker P Q weaker (x ∷ xs) all = (weaker x all.0, all_weaker P Q weaker xs all.1)

pub all_more : {A : Type 0} (P : A → Type 0) (xs : List A) (x : A) → AllByRecursion P xs → P x → AllByRecursion P (xs ++ x ∷ [])
all_more P [] x all one = (one, tt)
all_more P (y ∷ ys) x all one = (all.0, all_more P ys x all.1 one)

-- what is found passes the test, and is what all are
pub found_passes : {A : Type 0} (test : A → Bool) (P : A → Type 0) (xs : List A) → AllByRecursion P xs → IfSome (find test xs) (λ a. P a × (test a ≡ true))
found_passes test P [] all = tt
found_passes test P (x ∷ xs) all = by (test x) refl (found_passes test P xs all.1) where
  by : (b : Bool) → test x ≡ b → IfSome (find test xs) (λ a. P a × (test a ≡ true)) → IfSome (if b then Some x else find test xs) (λ a. P a × (test a ≡ true))
  by true e rest = (all.0, e)
  by false e rest = rest

-- Groups, each of which has a member for its focus.

-- a group in place of the one of its number
put_focuses : (s : Groups) (groups : List Group) (group : Group) → AllByRecursion (FocusesMember s) groups → FocusesMember s group → AllByRecursion (FocusesMember s) (map (in_place_of group) groups)
put_focuses s [] group all one = tt
put_focuses s (other ∷ groups) group all one = (by (other.id == group.id), put_focuses s groups group all.1 one) where
  by : (b : Bool) → FocusesMember s (if b then group else other)
  by true = one
  by false = all.0

-- other groups with the same members
pub record Focuses (members : List Member) (s : Groups) : Type 0 where
  pub members_are : s.members ≡ members
  pub all : AllByRecursion (FocusesMember s) s.groups

put_some_focuses : (s : Groups) (found : Option Group) → AllByRecursion (FocusesMember s) s.groups → IfSome found (FocusesMember s) → Focuses s.members (put_some s found)
put_some_focuses s None all one = record { members_are = refl; all = all }
put_some_focuses s (Some group) all one = record { members_are = refl; all = put_focuses s s.groups group all one }

-- the group of a number
at_focuses : (s : Groups) (id : ℕ) → AllByRecursion (FocusesMember s) s.groups → IfSome (group_at s id) (λ group. FocusesMember s group × (group.id ≡ id))
at_focuses s id all = by (group_at s id) (found_passes (λ group. group.id == id) (FocusesMember s) s.groups all) where
  by : (found : Option Group) → IfSome found (λ group. FocusesMember s group × ((group.id == id) ≡ true)) → IfSome found (λ group. FocusesMember s group × (group.id ≡ id))
  by None one = tt
  by (Some group) one = (one.0, grind (arith, nat_tests, one.1))

pub editing_focuses : (s : Groups) (id : ℕ) (on : Bool) → AllByRecursion (FocusesMember s) s.groups → Focuses s.members (with_editing s id on)
editing_focuses s id on all = put_some_focuses s _ all (by (group_at s id) (at_focuses s id all)) where
  by : (found : Option Group) → IfSome found (λ group. FocusesMember s group × (group.id ≡ id)) → IfSome (option_map (λ (group : Group). record group { editing = on }) found) (FocusesMember s)
  by None one = tt
  by (Some group) one = one.0

-- a member gets the focus
pub focused_focuses : (s : Groups) (id : ℕ) (h : Handle) → group_of s h ≡ Some id → AllByRecursion (FocusesMember s) s.groups → Focuses s.members (with_focused s id (Some h))
focused_focuses s id h is all = put_some_focuses s _ all (by (group_at s id) (at_focuses s id all)) where
  by : (found : Option Group) → IfSome found (λ group. FocusesMember s group × (group.id ≡ id)) → IfSome (option_map (λ (group : Group). record group { focused = Some h }) found) (FocusesMember s)
  by None one = tt
  by (Some group) one = is ∙ ap Some (sym one.1)

pub taken_focuses : (s : Groups) (id : ℕ) (h : Handle) → group_of s h ≡ Some id → AllByRecursion (FocusesMember s) s.groups → Focuses s.members (with_editing (with_focused s id (Some h)) id false)
taken_focuses s id h is all =
    let first = focused_focuses s id h is all in
    let second = editing_focuses (with_focused s id (Some h)) id false first.all in
    record { members_are = second.members_are ∙ first.members_are; all = second.all }

pub group_focuses : (s : Groups) (id : ℕ) → AllByRecursion (FocusesMember s) s.groups → AllByRecursion (FocusesMember (with_group s id)) (with_group s id).groups
group_focuses s id all = all_more (FocusesMember s) s.groups (record { id = id; focused = None; editing = false }) all tt

-- Members.

abbrev in_group : List Member → Handle → Option ℕ
in_group members h = option_map (λ (member : Member). member.group) (find (is_object h) members)

abbrev one_of : ℕ → Handle → Member
one_of id h = record { group = id; h = h }

-- who is a member stays one where another joins
still_in : (members : List Member) (new : Member) (h : Handle) (id : ℕ) → in_group members h ≡ Some id → in_group (members ++ new ∷ []) h ≡ Some id
still_in [] new h id is = cc
still_in (member ∷ members) new h id is = by (is_object h member) is (still_in members new h id) where
  by : (b : Bool) → option_map (λ (m : Member). m.group) (if b then Some member else find (is_object h) members) ≡ Some id →
      (in_group members h ≡ Some id → in_group (members ++ new ∷ []) h ≡ Some id) →
      option_map (λ (m : Member). m.group) (if b then Some member else find (is_object h) (members ++ new ∷ [])) ≡ Some id
  by true e rest = e
  by false e rest = rest e

-- who was in no group is in the one that it joined
joined_in : (members : List Member) (h : Handle) (id : ℕ) → in_group members h ≡ None → in_group (members ++ one_of id h ∷ []) h ≡ Some id
joined_in [] h id none = grind (arith, nat_tests)
joined_in (member ∷ members) h id none = by (is_object h member) none (joined_in members h id) where
  by : (b : Bool) → option_map (λ (m : Member). m.group) (if b then Some member else find (is_object h) members) ≡ None →
      (in_group members h ≡ None → in_group (members ++ one_of id h ∷ []) h ≡ Some id) →
      option_map (λ (m : Member). m.group) (if b then Some member else find (is_object h) (members ++ one_of id h ∷ [])) ≡ Some id
  by true e rest = cc
  by false e rest = rest e

pub joins : (s : Groups) (id : ℕ) (h : Handle) → group_of s h ≡ None → group_of (joined s id h) h ≡ Some id
joins s id h none = joined_in s.members h id none

pub joined_focuses : (s : Groups) (id : ℕ) (h : Handle) → AllByRecursion (FocusesMember s) s.groups → AllByRecursion (FocusesMember (joined s id h)) (joined s id h).groups
joined_focuses s id h all = all_weaker (FocusesMember s) (FocusesMember (joined s id h)) (λ group one. by group.focused group.id one) s.groups all where
  by : (focused : Option Handle) (n : ℕ) → IfSome focused (λ k. group_of s k ≡ Some n) → IfSome focused (λ k. group_of (joined s id h) k ≡ Some n)
  by None n one = tt
  by (Some k) n one = still_in s.members (one_of id h) k n one

-- Leaving.

-- who stays a member where h leaves
others_in : (members : List Member) (h k : Handle) → (k.0 == h.0) ≡ false → in_group (filter (λ member. not (is_object h member)) members) k ≡ in_group members k
others_in [] h k other = refl
others_in (member ∷ members) h k other = grind (arith, nat_tests, other, others_in members h k)

-- a group of which h has not the focus
abbrev Spares : Groups → Handle → Group → Type 0
Spares s h group = FocusesMember s group × (is_it h group.focused ≡ false)

released_spares : (s : Groups) (h : Handle) (group : Group) → FocusesMember s group → Spares s h (released_by h group) × ((released_by h group).id ≡ group.id)
released_spares s h group one = by (is_it h group.focused) refl where
  by : (b : Bool) → is_it h group.focused ≡ b →
      Spares s h (if b then record group { focused = None; editing = false } else group) × ((if b then record group { focused = None; editing = false } else group).id ≡ group.id)
  by true e = ((tt, refl), refl)
  by false e = ((one, e), refl)

-- it has the focus of the group that it is in alone
spares_others : (s : Groups) (h : Handle) (id : ℕ) (group : Group) → group_of s h ≡ Some id → (group.id == id) ≡ false → FocusesMember s group → is_it h group.focused ≡ false
spares_others s h id group is other one = by group.focused one where
  by : (focused : Option Handle) → IfSome focused (λ k. group_of s k ≡ Some group.id) → is_it h focused ≡ false
  by None e = refl
  by (Some k) e = elim (cases_Bool (k.0 == h.0)) [
    | inl same ↦
        let equal : k.0 ≡ h.0 = grind (arith, nat_tests, same) in
        let ids : Some group.id ≡ Some id = sym e ∙ (ap (λ (n : ℕ). group_of s (record { 0 = n })) equal ∙ is) in
        let id_is : group.id ≡ id = cc in
        absurd (grind (arith, nat_tests, id_is, other))
    | inr differs ↦ differs
  ]

put_spares : (s : Groups) (h : Handle) (id : ℕ) (groups : List Group) (group : Group) → group_of s h ≡ Some id → group.id ≡ id → AllByRecursion (FocusesMember s) groups → Spares s h group →
    AllByRecursion (Spares s h) (map (in_place_of group) groups)
put_spares s h id [] group is same all one = tt
put_spares s h id (other ∷ groups) group is same all one = (by (other.id == group.id) refl, put_spares s h id groups group is same all.1 one) where
  by : (b : Bool) → (other.id == group.id) ≡ b → Spares s h (if b then group else other)
  by true e = one
  by false e = (all.0, spares_others s h id other is (grind (arith, nat_tests, e, same)) all.0)

none_spares : (s : Groups) (h : Handle) (id : ℕ) (groups : List Group) → group_of s h ≡ Some id → find (λ group. group.id == id) groups ≡ None → AllByRecursion (FocusesMember s) groups → AllByRecursion (Spares s h) groups
none_spares s h id [] is none all = tt
none_spares s h id (group ∷ groups) is none all = by (group.id == id) refl none (λ none. none_spares s h id groups is none all.1) where
  by : (b : Bool) → (group.id == id) ≡ b → (if b then Some group else find (λ g. g.id == id) groups) ≡ None →
      (find (λ g. g.id == id) groups ≡ None → AllByRecursion (Spares s h) groups) → Spares s h group × AllByRecursion (Spares s h) groups
  by true e none rest = cc
  by false e none rest = ((all.0, spares_others s h id group is e all.0), rest none)

left_focuses : (s : Groups) (h : Handle) (groups : List Group) → AllByRecursion (Spares s h) groups → AllByRecursion (FocusesMember (without_member s h)) groups
left_focuses s h groups all = all_weaker (Spares s h) (FocusesMember (without_member s h)) (λ group one. by group.focused group.id one.0 one.1) groups all where
  by : (focused : Option Handle) (n : ℕ) → IfSome focused (λ k. group_of s k ≡ Some n) → is_it h focused ≡ false → IfSome focused (λ k. group_of (without_member s h) k ≡ Some n)
  by None n one other = tt
  by (Some k) n one other = others_in s.members h k other ∙ one

-- who has the focus is a member where h has left
pub leave_focuses : (s : Groups) (h : Handle) (id : ℕ) → group_of s h ≡ Some id → AllByRecursion (FocusesMember s) s.groups → AllByRecursion (FocusesMember (left s id h)) (left s id h).groups
leave_focuses s h id is all = by (group_at s id) refl (at_focuses s id all) where
  by : (found : Option Group) → group_at s id ≡ found → IfSome found (λ group. FocusesMember s group × (group.id ≡ id)) →
      AllByRecursion (FocusesMember (without_member (put_some s (option_map (released_by h) found)) h)) (put_some s (option_map (released_by h) found)).groups
  by None e one = left_focuses s h s.groups (none_spares s h id s.groups is e all)
  by (Some group) e one =
      let r = released_spares s h group one.0 in
      left_focuses s h (map (in_place_of (released_by h group)) s.groups) (put_spares s h id s.groups (released_by h group) is (r.1 ∙ one.1) all r.0)

-- Who is next.

abbrev numbers : List Handle → List ℕ
numbers hs = map (λ (h : Handle). h.0) hs

found_among : (usable : Handle → Bool) (hs : List Handle) → IfSome (find usable hs) (λ k. is_among (numbers hs) k.0 ≡ true)
found_among usable [] = tt
found_among usable (h ∷ hs) = by (usable h) (find usable hs) (found_among usable hs) where
  by : (b : Bool) (rest : Option Handle) → IfSome rest (λ k. is_among (numbers hs) k.0 ≡ true) → IfSome (if b then Some h else rest) (λ k. is_among (numbers (h ∷ hs)) k.0 ≡ true)
  by true rest one = grind (arith, nat_tests)
  by false None one = tt
  by false (Some k) one = grind (arith, nat_tests, one)

after_among : (h : Handle) (hs : List Handle) (n : ℕ) → is_among (numbers (after h hs)) n ≡ true → is_among (numbers hs) n ≡ true
after_among h [] n is = is
after_among h (k ∷ ks) n is = grind (arith, nat_tests, is, after_among h ks n)

before_among : (h : Handle) (hs : List Handle) (n : ℕ) → is_among (numbers (before h hs)) n ≡ true → is_among (numbers hs) n ≡ true
before_among h [] n is = is
before_among h (k ∷ ks) n is = grind (arith, nat_tests, is, before_among h ks n)

numbers_append : (hs ks : List Handle) (n : ℕ) → is_among (numbers (hs ++ ks)) n ≡ (is_among (numbers hs) n || is_among (numbers ks) n)
numbers_append [] ks n = refl
numbers_append (h ∷ hs) ks n = grind (arith, nat_tests, numbers_append hs ks n)

turned_among : (focused : Option Handle) (hs : List Handle) (n : ℕ) → is_among (numbers (turned focused hs)) n ≡ true → is_among (numbers hs) n ≡ true
turned_among None hs n is = is
turned_among (Some h) hs n is = grind (arith, is, numbers_append (after h hs) (before h hs) n, after_among h hs n, before_among h hs n)

-- a list turned about one has that one nowhere
before_apart : (h : Handle) (hs : List Handle) → is_among (numbers (before h hs)) h.0 ≡ false
before_apart h [] = refl
before_apart h (k ∷ ks) = grind (arith, nat_tests, before_apart h ks)

after_apart : (h : Handle) (hs : List Handle) → stand_once (numbers hs) ≡ true → is_among (numbers (after h hs)) h.0 ≡ false
after_apart h [] once = refl
after_apart h (k ∷ ks) once = grind (arith, nat_tests, once, after_apart h ks)

turned_apart : (h : Handle) (hs : List Handle) → stand_once (numbers hs) ≡ true → is_among (numbers (turned (Some h) hs)) h.0 ≡ false
turned_apart h hs once = grind (arith, numbers_append (after h hs) (before h hs) h.0, after_apart h hs once, before_apart h hs)

-- members of a group are members, each once
abbrev handles_in : List Member → List ℕ
handles_in members = map (λ (member : Member). member.h.0) members

members_among : (id : ℕ) (members : List Member) (n : ℕ) → is_among (numbers (members_of id members)) n ≡ true → is_among (handles_in members) n ≡ true
members_among id [] n is = is
members_among id (member ∷ members) n is = grind (arith, nat_tests, is, members_among id members n)

members_once : (id : ℕ) (members : List Member) → stand_once (handles_in members) ≡ true → stand_once (numbers (members_of id members)) ≡ true
members_once id [] once = refl
members_once id (member ∷ members) once = grind (arith, nat_tests, once, members_once id members, members_among id members member.h.0)

-- and are in it
member_in : (id : ℕ) (members : List Member) (h : Handle) → stand_once (handles_in members) ≡ true → is_among (numbers (members_of id members)) h.0 ≡ true → in_group members h ≡ Some id
member_in id [] h once is = cc
member_in id (member ∷ members) h once is = grind (arith, nat_tests, once, is, member_in id members h, members_among id members h.0)

reverse_among : (hs : List Handle) (n : ℕ) → is_among (numbers (reverse hs)) n ≡ true → is_among (numbers hs) n ≡ true
reverse_among [] n is = is
reverse_among (h ∷ hs) n is =
    let turned_is : is_among (numbers (reverse hs ++ h ∷ [])) n ≡ true = subst (λ (ks : List Handle). is_among (numbers ks) n ≡ true) (reverse_onto hs h []) is in
    grind (arith, nat_tests, turned_is, numbers_append (reverse hs) (h ∷ []) n, reverse_among hs n)

-- who is next, or the one before, is a member
some_member : (s : Groups) (id : ℕ) (hs : List Handle) (usable : Handle → Bool) → stand_once (member_handles s) ≡ true →
    ((n : ℕ) → is_among (numbers hs) n ≡ true → is_among (numbers (members_of id s.members)) n ≡ true) → IfSome (find usable hs) (λ k. group_of s k ≡ Some id)
some_member s id hs usable once within = by (find usable hs) (found_among usable hs) where
  by : (found : Option Handle) → IfSome found (λ k. is_among (numbers hs) k.0 ≡ true) → IfSome found (λ k. group_of s k ≡ Some id)
  by None one = tt
  by (Some k) one = member_in id s.members k once (within k.0 one)

pub next_is_member : (s : Groups) (id : ℕ) (usable : Handle → Bool) → stand_once (member_handles s) ≡ true → IfSome (next_member usable s id) (λ k. group_of s k ≡ Some id)
next_is_member s id usable once = some_member s id (turned_in s id) usable once (turned_among (focused_in (group_at s id)) (members_of id s.members))

pub previous_is_member : (s : Groups) (id : ℕ) (usable : Handle → Bool) → stand_once (member_handles s) ≡ true → IfSome (previous_member usable s id) (λ k. group_of s k ≡ Some id)
previous_is_member s id usable once =
    some_member s id (reverse (turned_in s id)) usable once
    (λ n is. turned_among (focused_in (group_at s id)) (members_of id s.members) n (reverse_among (turned_in s id) n is))

-- and is another than the one that has the focus
next_is_other : (s : Groups) (id : ℕ) (usable : Handle → Bool) (h : Handle) → stand_once (member_handles s) ≡ true → is_it h (focused_in (group_at s id)) ≡ true →
    IfSome (next_member usable s id) (λ k. (k.0 == h.0) ≡ false)
next_is_other s id usable h once has = by (focused_in (group_at s id)) has where
  hs : List Handle
  hs = members_of id s.members

  apart : (k h : Handle) → is_among (numbers (turned (Some h) hs)) k.0 ≡ true → (k.0 == h.0) ≡ false
  apart k h is = elim (cases_Bool (k.0 == h.0)) [
    | inl same ↦
        let equal : k.0 ≡ h.0 = grind (arith, nat_tests, same) in
        absurd (grind (arith, subst (λ (n : ℕ). is_among (numbers (turned (Some h) hs)) n ≡ true) equal is, turned_apart h hs (members_once id s.members once)))
    | inr differs ↦ differs
  ]

  others : (f : Handle) (found : Option Handle) → (f.0 == h.0) ≡ true → IfSome found (λ k. is_among (numbers (turned (Some f) hs)) k.0 ≡ true) → IfSome found (λ k. (k.0 == h.0) ≡ false)
  others f None same one = tt
  others f (Some k) same one = grind (arith, nat_tests, same, apart k f one)

  by : (focused : Option Handle) → is_it h focused ≡ true → IfSome (find usable (turned focused hs)) (λ k. (k.0 == h.0) ≡ false)
  by None e = cc
  by (Some f) e = others f (find usable (turned (Some f) hs)) e (found_among usable (turned (Some f) hs))

-- the members after one has left
left-members : (s : Groups) (id : ℕ) (h : Handle) → (left s id h).members ≡ filter (λ member. not (is_object h member)) s.members
left-members s id h = by (option_map (released_by h) (group_at s id)) where
  by : (found : Option Group) → filter (λ member. not (is_object h member)) (put_some s found).members ≡ filter (λ member. not (is_object h member)) s.members
  by None = refl
  by (Some group) = refl

-- the heir of one that leaves is a member still
pub heir_stays : (s : Groups) (id : ℕ) (usable : Handle → Bool) (h : Handle) → stand_once (member_handles s) ≡ true → is_it h (focused_in (group_at s id)) ≡ true →
    IfSome (next_member usable s id) (λ k. group_of (left s id h) k ≡ Some id)
heir_stays s id usable h once has = by (next_member usable s id) (next_is_member s id usable once) (next_is_other s id usable h once has) where
  by : (found : Option Handle) → IfSome found (λ k. group_of s k ≡ Some id) → IfSome found (λ k. (k.0 == h.0) ≡ false) → IfSome found (λ k. group_of (left s id h) k ≡ Some id)
  by None one other = tt
  by (Some k) one other = ap (λ (members : List Member). in_group members k) (left-members s id h) ∙ (others_in s.members h k other ∙ one)
