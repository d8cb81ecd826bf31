-- What questions are answered.
use Rattle.std.specs.Prelude.{ℕ, ◌*◌, ℤ, Bool, true, false, List, ◌∷◌, ◌++◌, codes, decimal, flat_map, Some, None, if◌then◌else◌}
use Rattle.std.specs.declared.option.Option.{Option}
use Rattle.std.specs.Fmt.{signed_decimal}
use Rattle.gui_base.specs.Area.{Rect, size_of}
use Rattle.gui_base.specs.Forest.{children_of, roots}
use Rattle.gui_base.specs.Limits.{slots}
use Rattle.gui_base.specs.Pools.{pool_name}
use Rattle.gui_base.specs.declared.Handle.{Handle}
use Rattle.gui_base.specs.declared.limits.Pool.{Pool}
use Rattle.gui_base.specs.declared.pools.TheConstants.{POOLS}
use Rattle.line_texts.specs.Quoting.{quoted}
use Rattle.owed_defs.specs.Windows.{most_areas}
use Rattle.play_defs.specs.Focus.{focused_in, group_at}
use Rattle.scene_defs.specs.Edits.{text_at}
use Rattle.scene_defs.specs.Place.{panel_of, place, offset, reach}
use Rattle.scene_defs.specs.Scene.{Scene, handles_of, row_at, is_there, value}
use Rattle.scene_defs.specs.Visible.{visible}
use Rattle.run_defs.specs.Machine.{Machine, used_in}
use Rattle.run_defs.specs.Pointing.{hit}
use Rattle.scene_script.specs.declared.questions.Fact.{Fact}
use Rattle.scene_script.specs.declared.questions.Fact.TheVariants as fact
use Rattle.scene_script.specs.declared.questions.Question.{Question}
use Rattle.scene_script.specs.declared.questions.Question.TheVariants.{Of, Property, Children, Active, Hit}
use Rattle.scene_script.specs.declared.questions.Question.TheVariants.{Focused, Time, Used, Pending}

-- what is said of something that may be there
abbrev pub says_of : {A : Type 0} → (A → List ℕ) → Option A → List ℕ
says_of words None = codes " none"
says_of words (Some x) = words x

-- a number after a space
abbrev pub integer : ℤ → List ℕ
integer n = 32 ∷ signed_decimal n

-- a number that is not below 0, after a space
abbrev pub count : ℕ → List ℕ
count n = 32 ∷ decimal n

-- the first and the last column and line
abbrev pub area_says : Rect → List ℕ
area_says area = (integer area.x1 ++ integer area.y1) ++ (integer area.x2 ++ integer area.y2)

-- how far across and how far down, in pixels, or two other numbers from 0 on
abbrev pub counts_say : ℕ → ℕ → List ℕ
counts_say across down = count across ++ count down

-- the handle of an object
abbrev pub handle_says : Handle → List ℕ
handle_says h = count h.0

-- what is known of an object
abbrev pub fact_says : Scene → ℕ → Fact → List ℕ
fact_says scene h fact.Value = codes " value" ++ says_of (λ row. integer row.value) (row_at scene h)
fact_says scene h fact.States = codes " states" ++ says_of (λ row. count row.states) (row_at scene h)
fact_says scene h fact.Flags = codes " flags" ++ says_of (λ row. count row.flags) (row_at scene h)
fact_says scene h fact.Text =
    codes " text" ++ (if is_there scene h then 32 ∷ quoted (text_at scene h) else codes " none")
fact_says scene h fact.Place = codes " place" ++ says_of area_says (place scene h)
fact_says scene h fact.Visible = codes " visible" ++ says_of area_says (visible scene h)
fact_says scene h fact.Offset =
    codes " offset" ++ says_of (λ span. counts_say span.across span.down) (offset scene h)
fact_says scene h fact.Reach =
    codes " reach" ++ says_of (λ span. counts_say span.across span.down) (reach scene h)

-- the handles of the children of an object that is there, in their order
abbrev pub children_say : Scene → ℕ → List ℕ
children_say scene h = flat_map count (roots (children_of (handles_of scene.trees) h))

-- the name of a pool, how many of its slots are in use, and how many it has
abbrev pub pool_says : Machine → Pool → List ℕ
pool_says machine pool =
    (32 ∷ pool_name pool) ++ counts_say (used_in machine pool) (slots machine.scene.limits pool)

-- one pool, or all in their order
abbrev pub pools_say : Machine → Option Pool → List ℕ
pools_say machine None = flat_map (pool_says machine) POOLS
pools_say machine (Some pool) = pool_says machine pool

-- the words of the answer, where so many pixels are pending
abbrev pub answer_words : Machine → ℕ → Question → List ℕ
answer_words machine pending (Of fact h) = fact_says machine.scene h.0 fact
answer_words machine pending (Property h part prop) =
    codes " property"
    ++ (if is_there machine.scene h.0 then integer (value machine.scene h.0 part prop) else codes " none")
answer_words machine pending (Children h) =
    codes " children" ++ (if is_there machine.scene h.0 then children_say machine.scene h.0 else codes " none")
answer_words machine pending Active = codes " active" ++ count machine.scene.active
answer_words machine pending (Hit x y) = codes " hit" ++ says_of handle_says (hit machine.scene x y)
answer_words machine pending (Focused group) =
    codes " focused" ++ says_of handle_says (focused_in (group_at machine.groups group))
answer_words machine pending Time = codes " time" ++ count machine.time
answer_words machine pending (Used pool) = codes " used" ++ pools_say machine pool
answer_words machine pending Pending = codes " pending" ++ count pending

-- whether the length of the answer has a bound: of children there may be many
abbrev pub is_short : Option Question → Bool
is_short (Some (Children h)) = false
is_short question = true

-- what is none is unknown
abbrev pub asked_words : Machine → ℕ → Option Question → List ℕ
asked_words machine pending None = codes " unknown"
asked_words machine pending (Some question) = answer_words machine pending question

-- the line of the answer
abbrev pub answer_line : ℕ → Machine → ℕ → Option Question → List ℕ
answer_line number machine pending question =
    decimal number ++ asked_words machine pending question ++ codes "\n"

-- how many pixels are pending at most: those of the areas that may be listed, each of them the whole panel
abbrev pub most_pending : Machine → ℕ
most_pending machine = most_areas * size_of (panel_of machine.scene)
