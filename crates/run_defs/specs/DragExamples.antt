-- Drags whose logs and machines were worked out by hand.
use Rattle.std.specs.Prelude.{◌≡◌, ℕ, true, false, List, [], ◌∷◌, ◌++◌, codes, Some, ℤ, pos, negsuc}
use Rattle.std.specs.Prelude.{option_map}
use Rattle.std.specs.declared.option.Option.{Option}
use Rattle.gui_base.specs.declared.events.EventKind.TheVariants.{Pressed, Pressing, LongPressed}
use Rattle.gui_base.specs.declared.events.EventKind.TheVariants.{LongPressedRepeat, Released, ShortClicked, Clicked}
use Rattle.gui_base.specs.declared.words.Flag.TheVariants.{Scrollable}
use Rattle.gui_base.specs.declared.words.Kind.TheVariants.{Slider}
use Rattle.gui_base.specs.declared.words.State.TheVariants as state
use Rattle.scene_defs.specs.Scene.{row_at}
use Rattle.scene_defs.specs.declared.Change.TheVariants as change
use Rattle.run_defs.specs.declared.Command.{Command}
use Rattle.run_defs.specs.declared.Command.TheVariants.{Change, Touch, Release, Tick}
use Rattle.run_defs.specs.DeviceExamples.{new_of, size}
use Rattle.run_defs.specs.Examples.{h, start, after_all, log_of, new, says}
use Rattle.run_defs.specs.Machine.{Machine}
use Rattle.run_defs.specs.Making.{is_in_state}

abbrev scrollable : ℕ → Command
scrollable n = Change (change.Flag (h n) Scrollable true)

abbrev touch : ℕ → ℕ → Command
touch x y = Touch (pos x) (pos y)

-- the stored offset of an object
abbrev stored : ℕ → Machine → Option (ℤ × ℤ)
stored n machine = option_map (λ row. (row.scroll_x, row.scroll_y)) (row_at machine.scene n)

-- a child three times as high as what scrolls it
abbrev high : Machine
high = after_all start (
    new 10 3 ∷ size 10 20 20 ∷ scrollable 10 ∷ new 11 10 ∷ size 11 10 60 ∷ says 11 Clicked ∷ [])

-- and one that tells of all that comes to it
abbrev telling : Machine
telling = after_all high (
    says 11 Pressed ∷ says 11 Pressing ∷ says 11 Released ∷ says 11 ShortClicked ∷ says 11 LongPressed
    ∷ says 11 LongPressedRepeat ∷ [])

abbrev drag : List Command
drag = touch 5 15 ∷ touch 5 10 ∷ touch 5 4 ∷ []

-- a wide child in a scrollable object, which is high enough to scroll what that stands in
abbrev crossed : Machine
crossed = after_all start (
    new 10 3 ∷ size 10 20 20 ∷ scrollable 10 ∷ new 11 10 ∷ size 11 18 40 ∷ scrollable 11 ∷ new 12 11
    ∷ size 12 60 10 ∷ [])

abbrev sliding : Machine
sliding = after_all start (
    new 10 3 ∷ size 10 20 20 ∷ scrollable 10 ∷ new_of Slider 11 10 ∷ size 11 20 60 ∷ [])

abbrev nothing_stored : Option (ℤ × ℤ)
nothing_stored = Some (pos 0, pos 0)

pub record DragsAreWorked : Type 0 where
  -- five pixels scroll nothing, eleven scroll by the last step, and nothing is clicked
  pub quiet : log_of high (drag ++ Release ∷ []) ≡ codes "ok\nok\nok\nok\n"
  pub too_near : stored 10 (after_all high (touch 5 15 ∷ touch 5 10 ∷ [])) ≡ nothing_stored
  pub by_step : stored 10 (after_all high drag) ≡ Some (pos 0, pos 6)
  -- no further than the children reach, and back again
  pub to_end : stored 10 (after_all high (drag ++ Touch (pos 5) (negsuc 99) ∷ [])) ≡ Some (pos 0, pos 40)
  pub back : stored 10 (after_all high (drag ++ touch 5 9 ∷ touch 5 19 ∷ [])) ≡ nothing_stored
  -- once it scrolls, it tells of no long press
  pub told : log_of telling (drag ++ Tick 500 ∷ Tick 500 ∷ Release ∷ [])
      ≡ codes "event pressed 11 11\nok\nevent pressing 11 11\nok\nevent pressing 11 11\nok\nok\nok\n"
      ++ codes "event released 11 11\nok\n"
  pub scrolled : is_in_state state.Scrolled (after_all high drag).scene (h 10) ≡ true
  pub let_go : is_in_state state.Scrolled (after_all high (drag ++ Release ∷ [])).scene (h 10) ≡ false
  -- also where the target is gone
  pub goes_on : stored 10 (after_all high (drag ++ Change (change.Delete (h 11)) ∷ new 12 10 ∷ size 12 20 70 ∷ touch 5 1 ∷ []))
      ≡ Some (pos 0, pos 9)
  pub gone : is_in_state state.Scrolled (after_all high (drag ++ Change (change.Delete (h 11)) ∷ Release ∷ [])).scene (h 10)
      ≡ false
  -- each direction scrolls the nearest that can be scrolled so
  pub across : stored 11 (after_all crossed (touch 15 5 ∷ touch 4 5 ∷ [])) ≡ Some (pos 11, pos 0)
  pub down : stored 10 (after_all crossed (touch 15 15 ∷ touch 15 4 ∷ [])) ≡ Some (pos 0, pos 11)
  pub as_far_down : stored 10 (after_all crossed (touch 15 15 ∷ touch 5 5 ∷ [])) ≡ Some (pos 0, pos 10)
  pub none_across : stored 10 (after_all high (touch 15 5 ∷ touch 4 4 ∷ [])) ≡ nothing_stored
  -- a slider slides
  pub slid : stored 10 (after_all sliding drag) ≡ nothing_stored
  -- another object of the number of the scrolled one is not scrolled
  pub another : stored 10 (after_all high (
      drag ++ Change (change.Delete (h 10)) ∷ new 10 3 ∷ size 10 20 20 ∷ scrollable 10 ∷ new 11 10 ∷ size 11 10 60
      ∷ touch 5 1 ∷ [])) ≡ nothing_stored
