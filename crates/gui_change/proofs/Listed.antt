-- The objects that are painted by themselves, one entry after another.
use Rattle.std.proofs.Common.{◌≡◌, ◌∙◌, refl, ap, ℕ, ◌<◌, ◌+◌, Bool, true, false, if◌then◌else◌, List, [], ◌∷◌, ◌++◌, drop, length, get_or, add-one, drop-cons}
use Rattle.gui_base.specs.declared.Handle.{Handle}
use Rattle.gui_tree.specs.Handles.{numbers}
use Rattle.scene_defs.specs.Scene.{Scene, handles_of}
use Rattle.scene_defs.specs.Shown.{entries, order}
use Rattle.scene_defs.specs.Visible.{shown_trees}
use Rattle.gui_change.specs.Entries.{all_entries, entry_in, own_handles, own_of, owner_of, owners}
use Rattle.gui_change.specs.declared.entries.Entry.{Entry}
use Rattle.gui_change.proofs.Entering.{own_is}
use Rattle.gui_change.proofs.Lending.{no_entry}

-- told by their numbers
owner-number : (e : Entry) (hs : List Handle) (ks : List ℕ) → numbers hs ≡ ks → numbers (owner_of e ++ hs) ≡ own_of (entry_in e) ++ ks
owner-number e hs ks same = by e.is_bars refl where
  by : (b : Bool) → e.is_bars ≡ b → numbers (owner_of e ++ hs) ≡ own_of (entry_in e) ++ ks
  by true is = rw is same
  by false is = rw is (ap (λ (ns : List ℕ). e.h.0 ∷ ns) same)

pub owners-numbers : (es : List Entry) → numbers (owners es) ≡ own_handles (all_entries es)
owners-numbers [] = refl
owners-numbers (e ∷ es) = owner-number e (owners es) (own_handles (all_entries es)) (owners-numbers es)

-- of all that is painted of a scene they are what is shown
pub owners-order : (scene : Scene) (es : List Entry) → all_entries es ≡ entries scene → numbers (owners es) ≡ order scene
owners-order scene es listed = owners-numbers es ∙ (ap own_handles listed ∙ own_is (handles_of (shown_trees scene)))

module _ (es : List Entry) (i : ℕ) (within : i < length es) where
  abbrev at : Entry
  at = get_or es i no_entry

  abbrev later : List Handle
  later = owners (drop (i + 1) es)

  next : drop i es ≡ at ∷ drop (i + 1) es
  next = rw (add-one, drop-cons es i no_entry) refl

  turn : (b : Bool) → at.is_bars ≡ b → owners (drop i es) ≡ (if b then [] else at.h ∷ []) ++ later
  turn b is = ap owners next ∙ ap (λ (c : Bool). (if c then [] else at.h ∷ []) ++ later) is

  -- bars give none
  pub own_left : at.is_bars ≡ true → owners (drop i es) ≡ later
  own_left is = turn true is

  -- and an object itself comes next
  pub own_next : at.is_bars ≡ false → owners (drop i es) ≡ at.h ∷ later
  own_next is = turn false is
