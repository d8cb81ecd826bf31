-- Which objects a change may concern, as far as the change and the trees before and after it tell.
use Rattle.std.specs.Prelude.{◌≡◌, ℕ, Bool, true, false, not, ◌||◌, ◌==◌, None, unwrap_or, if◌then◌else◌}
use Rattle.std.specs.List.{list_any}
use Rattle.gui_base.specs.Forest.{Forest, parent_of}
use Rattle.gui_base.specs.Props.{inherits}
use Rattle.gui_base.specs.declared.Handle.{Handle}
use Rattle.gui_tree.specs.Handles.{as_handle}
use Rattle.scene_defs.specs.declared.Change.{Change}
use Rattle.debt_defs.specs.declared.subject.Reach.{Reach}
use Rattle.debt_defs.specs.declared.subject.Reach.TheVariants.{OfProp, OfStyle}
use Rattle.debt_defs.specs.declared.subject.Subject.{Subject}
use Rattle.debt_defs.specs.declared.subject.Subject.TheVariants as subject
use Rattle.debt_defs.specs.Subject.{subject_of}
use Rattle.scene_defs.specs.Scene.{Scene, handles_of, is_there, path_at}
use Rattle.scene_defs.specs.Change.{answer_of, changed}
use Rattle.gui_style.specs.Styles.{uses_style}
use Rattle.debt_defs.specs.Concerns.{concerns, lies_in, uses_style as is_user}
use Rattle.gui_concerns.specs.declared.concerned.Concerned.{Concerned}
use Rattle.gui_concerns.specs.declared.concerned.Concerned.TheVariants.{Nobody, One, Both, Below, Moved}
use Rattle.gui_concerns.specs.declared.concerned.Concerned.TheVariants.{Users, BelowUsers, Anybody}

-- whether k is h, be it there or not, or lies below it
abbrev pub is_below : Scene → ℕ → ℕ → Bool
is_below scene h k = k == h || lies_in scene h k

-- the parent of h, or h itself where it has none
abbrev pub parent_or_self : Forest ℕ → ℕ → ℕ
parent_or_self trees h = unwrap_or (parent_of trees h) h

-- whether an object above k uses a style, or k itself, be it there or not
abbrev pub is_below_user : Scene → ℕ → ℕ → Bool
is_below_user scene number k =
    uses_style scene.book k number || list_any (is_user scene.book number) (path_at scene k)

-- whether what styles give to an object is given to it alone
abbrev pub is_own : Reach → Bool
is_own (OfProp prop) = not (inherits prop)
is_own (OfStyle s) = false

abbrev pub may_be : Scene → Concerned → ℕ → Bool
may_be scene Nobody k = false
may_be scene (One h) k = k == h.0
may_be scene (Both h p) k = k == h.0 || k == p.0
may_be scene (Below h) k = is_below scene h.0 k
may_be scene (Moved h p q) k = (k == p.0 || k == q.0) || is_below scene h.0 k
may_be scene (Users number) k = uses_style scene.book k number
may_be scene (BelowUsers number) k = is_below_user scene number k
may_be scene Anybody k = true

-- the parent of an object as a handle, or the object itself
abbrev pub parent_at : Scene → Handle → Handle
parent_at scene h = as_handle (parent_or_self (handles_of scene.trees) h.0)

-- the objects that a change may concern that is about this
abbrev pub concerned_of : Scene → Subject → Concerned
concerned_of scene (subject.Own h) = One h
concerned_of scene (subject.Made n) = One n
concerned_of scene (subject.Loads h) = One h
concerned_of scene (subject.Spread h) = Below h
concerned_of scene (subject.Styled h reach) = if is_own reach then One h else Below h
concerned_of scene (subject.Shared s prop) = if inherits prop then BelowUsers s else Users s
concerned_of scene (subject.Comes n p) = Both n p
concerned_of scene (subject.Goes h) = One (parent_at scene h)
concerned_of scene (subject.Moves h p) = Moved h (parent_at scene h) p
concerned_of scene (subject.Among h) = Both h (parent_at scene h)
concerned_of scene subject.Nobody = Nobody

abbrev pub concerned_by : Scene → Change → Concerned
concerned_by scene change = concerned_of scene (subject_of change)

-- where it is done, it concerns no other of those that are there after it
abbrev pub Covers : Concerned → Scene → Change → Type 0
Covers concerned scene change =
    answer_of scene change ≡ None → (k : ℕ) → is_there (changed scene change) k ≡ true →
    may_be (changed scene change) concerned k ≡ false → concerns scene change k ≡ false
