-- The laws of changes: refusals, limits, and changes of one row.
use Rattle.std.proofs.Common.{◌≡◌, ◌≢◌, ◌<◌, ◌≤◌, ◌⊎◌, ap, Bool, true, false, Option, Some, None, option_map, List, [], ◌∷◌, refl, arith, inl, inr}
use Rattle.std.specs.Prelude.{if◌then◌else◌}
use Rattle.std.proofs.lemmas.Bool.{cases_Bool}
use Rattle.std.proofs.lemmas.Bool.Decides.{nat_tests}
use Rattle.gui_base.specs.declared.pools.TheConstants.{POOLS}
use Rattle.gui_base.specs.declared.limits.Pool.{Pool}
use Rattle.gui_base.specs.declared.limits.Pool.TheVariants.{Objects}
use Rattle.gui_base.specs.declared.refusal.Refusal.{Refusal}
use Rattle.gui_base.specs.declared.refusal.Refusal.TheVariants.{Range, Full}
use Rattle.gui_base.specs.Limits.{Bounds}
use Rattle.gui_base.specs.Refusing.{Reason, Test, refusal_of, first_of}
use Rattle.scene_defs.specs.declared.Change.{Change}
use Rattle.scene_defs.specs.declared.Change.TheVariants as change
use Rattle.scene_defs.specs.Scene.{Scene, spare}
use Rattle.scene_defs.specs.Deeds.{is_in_range}
use Rattle.scene_defs.specs.Change.{lacks, need_of, first_short, tests, answer_of, answer_in_range, scene_by, scene_after, changed}
use Rattle.scene_defs.specs.Laws.{ChangeKeepsLimits, RefusedChangesNothing, RangeComesFirst, FullWithoutRoom, DoneWithRoom, RefusedWhateverLimits, SetsRowAlone, with_limits}

pub after_keeps : (scene : Scene) (change : Change) → (scene_after scene change).limits ≡ scene.limits
after_keeps scene (change.Screen n) = refl
after_keeps scene change = refl

-- what holds before a change, and after it where it is done
pub changed-by : (scene : Scene) (change : Change) (P : Scene → Type 0) → P scene → (answer_of scene change ≡ None → P (scene_after scene change)) →
    P (changed scene change)
changed-by scene change P old new = by (answer_of scene change) refl where
  by : (answer : Option Refusal) → answer_of scene change ≡ answer → P (scene_by answer scene change)
  by None e = new e
  by (Some why) e = old

pub change_keeps_limits : ChangeKeepsLimits
change_keeps_limits scene change = changed-by scene change (λ s. s.limits ≡ scene.limits) refl (λ e. after_keeps scene change)

pub refused_changes_nothing : RefusedChangesNothing
refused_changes_nothing scene change refusal e = ap (λ (r : Option Refusal). scene_by r scene change) e

pub range_comes_first : RangeComesFirst
range_comes_first scene change out = ap (λ (b : Bool). if b then answer_in_range scene change else Some Range) out

-- The test of the range comes first.
range_past : (ok : Bool) (later answer : Option Refusal) → answer ≢ Some Range → (if ok then later else Some Range) ≡ answer → (ok ≡ true) × (later ≡ answer)
range_past ok later answer other e = grind (arith, other, e)

pub range_done : (ok : Bool) (later : Option Refusal) → (if ok then later else Some Range) ≡ None → (ok ≡ true) × (later ≡ None)
range_done ok later e = range_past ok later None (λ i. cc) e

-- Then the tests, none of which answers Full.
no_full : (short : Option Pool) (reason : Reason) → Some (refusal_of reason) ≢ option_map Full short
no_full short reason e = grind arith

first-short : (ts : List Test) (short other : Option Pool) → first_of ts (option_map Full short) ≡ option_map Full other → short ≡ other
first-short [] None None e = refl
first-short [] (Some pool) None e = cc
first-short [] short other e = cc
first-short (t ∷ ts) short other e = elim (cases_Bool t.0) [
  | inl holds ↦ absurd (no_full other t.1 (rw holds at e))
  | inr fails ↦ first-short ts short other (rw fails at e)
]

-- Then the pools.
module _ (scene : Scene) (change : Change) where
  short-is : (ps : List Pool) (pool : Pool) → first_short scene change ps ≡ Some pool → spare scene pool < need_of scene change pool
  short-is [] pool e = cc
  short-is (p ∷ ps) pool e = grind (arith, nat_tests, e, short-is ps pool)

  -- room in each of these pools
  abbrev HaveRoom : List Pool → Type 0
  HaveRoom [] = Unit {0}
  HaveRoom (p ∷ ps) = (need_of scene change p ≤ spare scene p) × HaveRoom ps

  have_room : (ps : List Pool) → first_short scene change ps ≡ None → HaveRoom ps
  have_room [] e = tt
  have_room (p ∷ ps) e = grind (arith, nat_tests, e, have_room ps)

  pool-room : (pool : Pool) → HaveRoom POOLS → need_of scene change pool ≤ spare scene pool
  pool-room Objects r = r.0
  pool-room pool r = assumption r

  pub room_in_range : (pool : Pool) → answer_in_range scene change ≡ None → need_of scene change pool ≤ spare scene pool
  room_in_range pool e = pool-room pool (have_room POOLS (first-short (tests scene change) _ None e))

  -- no pool is short where a change takes nothing
  pub none_short : (ps : List Pool) → ((p : Pool) → need_of scene change p ≡ 0) → first_short scene change ps ≡ None
  none_short [] none = refl
  none_short (p ∷ ps) none = grind (arith, nat_tests, none p, none_short ps none)

  -- the only pool that a change takes from, where it is short
  pub one_short : (pool : Pool) → ((p : Pool) → (p ≡ pool) ⊎ (need_of scene change p ≡ 0)) →
      first_short scene change POOLS ≡ (if lacks scene pool (need_of scene change pool) then Some pool else None)
  one_short pool only = by (first_short scene change POOLS) refl where
    by : (short : Option Pool) → first_short scene change POOLS ≡ short →
        short ≡ (if lacks scene pool (need_of scene change pool) then Some pool else None)
    by None e = let room = pool-room pool (have_room POOLS e) in grind (arith, nat_tests, room)
    by (Some p) e = grind (arith, nat_tests, only p, short-is POOLS p e)

pub full_without_room : FullWithoutRoom
full_without_room scene change pool e =
    short-is scene change POOLS pool (first-short (tests scene change) _ (Some pool) (range_past (is_in_range change) _ (Some (Full pool)) (λ i. cc) e).1)

pub done_with_room : DoneWithRoom
done_with_room scene change pool e = room_in_range scene change pool (range_done (is_in_range change) _ e).1

-- the tests, and then whether there is room
pub first-then : (ts : List Test) (later : Option Refusal) → first_of ts None ≡ None → first_of ts later ≡ later
first-then [] later e = refl
first-then (t ∷ ts) later e = grind (arith, e, first-then ts later)

first-same : (ts : List Test) (a b : Option Refusal) (why : Refusal) → a ≢ Some why → first_of ts a ≡ Some why → first_of ts b ≡ Some why
first-same [] a b why n e = absurd (n e)
first-same (t ∷ ts) a b why n e = grind (arith, e, first-same ts a b why n)

pub first-some : (ts : List Test) (later : Option Refusal) (why : Refusal) → first_of ts None ≡ Some why → first_of ts later ≡ Some why
first-some ts later why e = first-same ts None later why (λ i. cc) e

-- The tests do not look at the limits.
same_tests : (scene : Scene) (limits : Bounds) (change : Change) → tests (with_limits scene limits) change ≡ tests scene change
same_tests scene limits (change.Screen n) = refl
same_tests scene limits change = refl

not_full : (short : Option Pool) (why : Refusal) → ((pool : Pool) → why ≢ Full pool) → option_map Full short ≢ Some why
not_full short why n e = grind (arith, n)

pub refused_whatever_limits : RefusedWhateverLimits
refused_whatever_limits scene limits change why n e = by (is_in_range change) e where
  by : (ok : Bool) → (if ok then answer_in_range scene change else Some Range) ≡ Some why →
      (if ok then answer_in_range (with_limits scene limits) change else Some Range) ≡ Some why
  by true f = rw (same_tests scene limits change) (first-same (tests scene change) _ _ why (not_full (first_short scene change POOLS) why n) f)
  by false f = f

-- none of these tests holds
abbrev pub Fail : List Test → Type 0
Fail [] = Unit {0}
Fail (t ∷ ts) = (t.0 ≡ false) × Fail ts

pub tests-fail : (ts : List Test) (short : Option Pool) → first_of ts (option_map Full short) ≡ None → Fail ts
tests-fail [] short e = tt
tests-fail (t ∷ ts) short e = grind (arith, e, tests-fail ts short)

pub passed : (scene : Scene) (change : Change) → answer_of scene change ≡ None → Fail (tests scene change)
passed scene change e = tests-fail (tests scene change) (first_short scene change POOLS) (range_done (is_in_range change) _ e).1

pub sets_row_alone : SetsRowAlone
sets_row_alone scene (change.Screen n) h e = cc
sets_row_alone scene change h e = cc

pub ruleset refusals = (refused_changes_nothing, range_comes_first)
