-- What a change touches: which objects, and the areas where they are seen, which are to be painted anew.
use Rattle.std.specs.Prelude.{ℕ, Bool, false, not, ◌||◌, ◌==◌, if◌then◌else◌, List, [], ◌∷◌, ◌++◌}
use Rattle.std.specs.Prelude.{Some, None, length, sum_by}
use Rattle.std.specs.declared.option.Option.{Option}
use Rattle.std.specs.List.{filter, flat_map}
use Rattle.gui_base.specs.Area.{Rect, size_of}
use Rattle.debt_defs.specs.SceneLook.{SceneLook, is_among}
use Rattle.debt_defs.specs.Same.{same_visible, same_by}

-- whether h is what a change names
abbrev pub is_named : Option ℕ → ℕ → Bool
is_named None h = false
is_named (Some n) h = n == h

-- the area as a list, empty where nothing is seen
abbrev pub listed : Option Rect → List Rect
listed None = []
listed (Some area) = area ∷ []

-- what is shown after a change, in paint order, and then what was shown before it alone
abbrev pub shown_in_either : {I : Type 0} → SceneLook I → SceneLook I → List ℕ
shown_in_either before after =
    after.order ++ filter (λ h. not (is_among after.order h)) before.order

-- where an object was seen, and where it is seen now if that is elsewhere
abbrev pub owed_by : {I : Type 0} → SceneLook I → SceneLook I → ℕ → List Rect
owed_by before after h =
    let old = before.visible h in
    let new = after.visible h in
    listed old ++ (if same_visible old new then [] else listed new)

module _ {I : Type 0} (same : I → I → Bool) where
  -- whether an object is seen elsewhere after a change, or shows other items or other bars
  abbrev pub differs : SceneLook I → SceneLook I → ℕ → Bool
  differs before after h =
      not (same_visible (before.visible h) (after.visible h))
      || (not (same_by same (before.items h) (after.items h))
      || not (same_by same (before.bars h) (after.bars h)))

  -- whether a change touches an object: the one that it names, and each that differs
  abbrev pub is_touched : Option ℕ → SceneLook I → SceneLook I → ℕ → Bool
  is_touched named before after h = is_named named h || differs before after h

  -- the objects that a change touches, of those that are shown before or after it
  abbrev pub touched : Option ℕ → SceneLook I → SceneLook I → List ℕ
  touched named before after = filter (is_touched named before after) (shown_in_either before after)

  -- the areas of each touched object
  abbrev pub touched_areas : Option ℕ → SceneLook I → SceneLook I → List Rect
  touched_areas named before after = flat_map (owed_by before after) (touched named before after)

-- how many pixels the areas have, each area by itself
abbrev pub debt_size : List Rect → ℕ
debt_size areas = sum_by size_of areas

abbrev pub debt_count : List Rect → ℕ
debt_count areas = length areas
