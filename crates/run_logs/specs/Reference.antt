-- Logs of scripts of events, groups, focus, input devices and animations are those that a reference
-- implementation gives.
use Rattle.std.specs.Prelude.{◌≡◌, ℕ, List, [], ◌∷◌, Some, replicate, option_map}
use Rattle.std.specs.declared.option.Option.{Option}
use Rattle.gui_base.specs.Limits.{Bounds}
use Rattle.style_defs.specs.Book.{Book}
use Rattle.scene_defs.specs.Scene.{first_scene}
use Rattle.run_defs.specs.declared.FrameEnd.TheVariants.{Done}
use Rattle.run_defs.specs.declared.Outcome.{Outcome}
use Rattle.run_defs.specs.declared.Outcome.TheVariants.{Frame as OfFrame}
use Rattle.run_defs.specs.Language.{words_of}
use Rattle.run_defs.specs.Machine.{Machine, first_machine}
use Rattle.run_defs.specs.Run.{entries, first_moment, told, log_text}
use Rattle.run_defs.specs.Script.{Whole, says}
use Rattle.run_defs.specs.Words.{limits_of}
use Rattle.run_logs.specs.AnimationCorners.{animated_corner_1, animated_corner_2, animated_corner_3}
use Rattle.run_logs.specs.AnimationCorners.{animated_corner_4, animated_corner_5, animated_corner_6}
use Rattle.run_logs.specs.AnimationCorners.{animated_corner_7, animated_corner_8, animated_corner_9}
use Rattle.run_logs.specs.AnimationCorners.{animated_corner_10, settings}
use Rattle.run_logs.specs.AnimationSamples.{animation_1, animation_2, animation_3, animation_4, animation_5}
use Rattle.run_logs.specs.AnimationSamples.{animation_6, animation_7, animation_8, animation_9}
use Rattle.run_logs.specs.AnimationSamples.{animation_10, animation_11, animation_12}
use Rattle.run_logs.specs.CornerSamples.{corner_1, corner_2, corner_3, corner_4, corner_5, corner_6}
use Rattle.run_logs.specs.CornerSamples.{corner_7, corner_8, corner_9, corner_10, corner_11, corner_12}
use Rattle.run_logs.specs.DeviceSamples.{device_1, device_2, device_3, device_4, device_5, device_6}
use Rattle.run_logs.specs.DeviceSamples.{device_7, device_8, device_9, device_10, device_11, device_12}
use Rattle.run_logs.specs.ScrollSamples.{scroll_1, scroll_2, scroll_3, scroll_4, scroll_5, scroll_6}
use Rattle.run_logs.specs.ScrollSamples.{scroll_7, scroll_8, scroll_9, scroll_10, scroll_11, scroll_12}
use Rattle.run_logs.specs.ScrollSamples.{drag_corner_1, drag_corner_2, drag_corner_3}
use Rattle.run_logs.specs.Samples.{Sample, opening, sample_1, sample_2, sample_3, sample_4, sample_5}
use Rattle.run_logs.specs.Samples.{sample_6, sample_7, sample_8, sample_9, sample_10, sample_11, sample_12}

-- no styles, for the handles below n
abbrev book_below : ℕ → Book
book_below n = record { styles = []; locals = replicate n []; uses = replicate n [] }

-- The machine as it is first, but with lists for the handles below n alone, where that one has them for each
-- number of sixteen bits. No script makes an object of a higher handle, and a hundred lines over the long
-- lists take more steps than one proof may.
abbrev machine_below : ℕ → Bounds → Machine
machine_below n limits = record (first_machine limits) {
  scene = record (first_scene limits) { book = book_below n };
  handlers = replicate n [];
}

abbrev small_machine : Bounds → Machine
small_machine = machine_below 32

-- the log of a script whose frames and pumps have these outcomes
abbrev log_from : List Outcome → List ℕ → Machine → List ℕ
log_from outcomes script machine =
    log_text (told (entries (first_moment machine) (says Whole script)) outcomes)

-- the log of a script from a machine on that has the limits of these words
abbrev log_of : (Bounds → Machine) → List Outcome → List ℕ → List ℕ → Option (List ℕ)
log_of machine outcomes words script =
    option_map (λ limits. log_from outcomes script (machine limits)) (limits_of (words_of words))

abbrev IsLogWith : List Outcome → (Bounds → Machine) → Sample → Type 0
IsLogWith outcomes machine sample = log_of machine outcomes sample.words sample.script ≡ Some sample.log

-- the same of a script that asks for no frame and no pump
abbrev IsItsLog : (Bounds → Machine) → Sample → Type 0
IsItsLog machine sample = IsLogWith [] machine sample

pub record ReferenceLogs : Type 0 where
  pub log_1 : IsItsLog small_machine sample_1
  pub log_2 : IsItsLog small_machine sample_2
  pub log_3 : IsItsLog small_machine sample_3
  pub log_4 : IsItsLog small_machine sample_4
  pub log_5 : IsItsLog small_machine sample_5
  pub log_6 : IsItsLog small_machine sample_6
  pub log_7 : IsItsLog small_machine sample_7
  pub log_8 : IsItsLog small_machine sample_8
  pub log_9 : IsItsLog small_machine sample_9
  pub log_10 : IsItsLog small_machine sample_10
  pub log_11 : IsItsLog small_machine sample_11
  pub log_12 : IsItsLog small_machine sample_12

-- the first forty lines of the first script, from the first machine itself
abbrev pub FirstReferenceLog : Type 0
FirstReferenceLog = IsItsLog first_machine opening

-- the same for the scripts of input devices
pub record DeviceLogs : Type 0 where
  pub devices_1 : IsItsLog small_machine device_1
  pub devices_2 : IsItsLog small_machine device_2
  pub devices_3 : IsItsLog small_machine device_3
  pub devices_4 : IsItsLog small_machine device_4
  pub devices_5 : IsItsLog small_machine device_5
  pub devices_6 : IsItsLog small_machine device_6
  pub devices_7 : IsItsLog small_machine device_7
  pub devices_8 : IsItsLog small_machine device_8
  pub devices_9 : IsItsLog small_machine device_9
  pub devices_10 : IsItsLog small_machine device_10
  pub devices_11 : IsItsLog small_machine device_11
  pub devices_12 : IsItsLog small_machine device_12

-- and for those at the corners of their rules
pub record CornerLogs : Type 0 where
  pub corners_1 : IsItsLog small_machine corner_1
  pub corners_2 : IsItsLog small_machine corner_2
  pub corners_3 : IsItsLog small_machine corner_3
  pub corners_4 : IsItsLog small_machine corner_4
  pub corners_5 : IsItsLog small_machine corner_5
  pub corners_6 : IsItsLog small_machine corner_6
  pub corners_7 : IsItsLog small_machine corner_7
  pub corners_8 : IsItsLog small_machine corner_8
  pub corners_9 : IsItsLog small_machine corner_9
  pub corners_10 : IsItsLog small_machine corner_10
  pub corners_11 : IsItsLog small_machine corner_11
  pub corners_12 : IsItsLog small_machine corner_12

-- the same for the scripts of animations
pub record AnimationLogs : Type 0 where
  pub animations_1 : IsItsLog small_machine animation_1
  pub animations_2 : IsItsLog small_machine animation_2
  pub animations_3 : IsItsLog small_machine animation_3
  pub animations_4 : IsItsLog small_machine animation_4
  pub animations_5 : IsItsLog small_machine animation_5
  pub animations_6 : IsItsLog small_machine animation_6
  pub animations_7 : IsItsLog small_machine animation_7
  pub animations_8 : IsItsLog small_machine animation_8
  pub animations_9 : IsItsLog small_machine animation_9
  pub animations_10 : IsItsLog small_machine animation_10
  pub animations_11 : IsItsLog small_machine animation_11
  pub animations_12 : IsItsLog small_machine animation_12

-- and for those at the corners of their rules
pub record AnimationCornerLogs : Type 0 where
  pub corners_1 : IsItsLog small_machine animated_corner_1
  pub corners_2 : IsItsLog small_machine animated_corner_2
  pub corners_3 : IsItsLog small_machine animated_corner_3
  pub corners_4 : IsItsLog small_machine animated_corner_4
  pub corners_5 : IsItsLog small_machine animated_corner_5
  pub corners_6 : IsItsLog small_machine animated_corner_6
  pub corners_7 : IsItsLog small_machine animated_corner_7
  pub corners_8 : IsItsLog small_machine animated_corner_8
  pub corners_9 : IsItsLog small_machine animated_corner_9
  pub corners_10 : IsItsLog small_machine animated_corner_10

-- and for those of scrolling
pub record ScrollLogs : Type 0 where
  pub scrolls_1 : IsItsLog small_machine scroll_1
  pub scrolls_2 : IsItsLog small_machine scroll_2
  pub scrolls_3 : IsItsLog small_machine scroll_3
  pub scrolls_4 : IsItsLog small_machine scroll_4
  pub scrolls_5 : IsItsLog small_machine scroll_5
  pub scrolls_6 : IsItsLog small_machine scroll_6
  pub scrolls_7 : IsItsLog small_machine scroll_7
  pub scrolls_8 : IsItsLog small_machine scroll_8
  pub scrolls_9 : IsItsLog small_machine scroll_9
  pub scrolls_10 : IsItsLog small_machine scroll_10
  pub scrolls_11 : IsItsLog small_machine scroll_11
  pub scrolls_12 : IsItsLog small_machine scroll_12

-- and for those at the corners of the rules of dragging
pub record DragCornerLogs : Type 0 where
  pub corners_1 : IsItsLog small_machine drag_corner_1
  pub corners_2 : IsItsLog small_machine drag_corner_2
  pub corners_3 : IsItsLog small_machine drag_corner_3

-- a settings screen, whose two frames are done
abbrev pub SettingsLog : Type 0
SettingsLog = IsLogWith (OfFrame Done ∷ OfFrame Done ∷ []) (machine_below 48) settings
