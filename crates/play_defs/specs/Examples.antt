-- Values of animations, what devices tell, and where the focus goes, as they were worked out by hand.
use Rattle.std.specs.Prelude.{◌≡◌, ℕ, Bool, true, false, not, ◌==◌, ℤ, pos, negsuc, neg_ℤ}
use Rattle.std.specs.Prelude.{List, [], ◌∷◌, ◌++◌, Some, None, replicate}
use Rattle.std.specs.declared.option.Option.{Option}
use Rattle.gui_base.specs.declared.Handle.{Handle}
use Rattle.gui_base.specs.declared.events.Action.TheVariants.{Say, Delete}
use Rattle.gui_base.specs.declared.events.Aim.TheVariants.{Target}
use Rattle.gui_base.specs.declared.events.EventKind.TheVariants.{Pressed, Clicked}
use Rattle.gui_base.specs.declared.events.Key.{Key}
use Rattle.gui_base.specs.declared.events.Key.TheVariants.{Enter, Left, Next as NextKey}
use Rattle.gui_base.specs.declared.events.Path.{Path}
use Rattle.gui_base.specs.declared.events.Path.TheVariants.{Linear, Step, EaseIn, EaseOut, EaseInOut}
use Rattle.gui_base.specs.declared.events.Var.TheVariants.{X}
use Rattle.play_defs.specs.declared.AnimSpec.{AnimSpec}
use Rattle.play_defs.specs.declared.AnimValue.TheVariants.{Before, Now, Last}
use Rattle.play_defs.specs.declared.EncoderReading.{EncoderReading}
use Rattle.play_defs.specs.declared.EncoderReading.TheVariants.{Turn as Turned, Push as Pushed}
use Rattle.play_defs.specs.declared.Handler.{Handler}
use Rattle.play_defs.specs.declared.InputEvent.{InputEvent}
use Rattle.play_defs.specs.declared.InputEvent.TheVariants.{Press, Hold, Release, Long, Repeat, Key as Keyed}
use Rattle.play_defs.specs.declared.InputEvent.TheVariants.{Turn, Next}
use Rattle.play_defs.specs.declared.KeyReading.{KeyReading}
use Rattle.play_defs.specs.declared.PointerReading.{PointerReading}
use Rattle.play_defs.specs.Animation.{progress, value_at}
use Rattle.play_defs.specs.Input.{Fed, pointer_fed, keypad_fed, encoder_fed}
use Rattle.play_defs.specs.Handlers.{handlers_of, with_handler, without_kind, actions_of}
use Rattle.play_defs.specs.Focus.{Groups, no_groups, with_group, joined, left, with_focused, with_editing}
use Rattle.play_defs.specs.Focus.{group_at, group_of, focused_in, is_editing, next_member, previous_member}

-- x goes there and back: from, to, and the time, the delay, the way back in milliseconds
abbrev over : ℤ → ℤ → ℕ → ℕ → ℕ → Option ℕ → Path → AnimSpec
over from to time delay playback repeat path = record {
  h = record { 0 = 10 };
  var = X;
  start = from;
  end = to;
  time = time;
  delay = delay;
  playback = playback;
  repeat = repeat;
  path = path;
}

-- from 0 to 100 in a second
abbrev hundred : Path → AnimSpec
hundred path = over (pos 0) (pos 100) 1000 0 0 (Some 1) path

-- from 100 to -100 in 500 ms after 40, and back in 200, three times
abbrev there_and_back : AnimSpec
there_and_back = over (pos 100) (neg_ℤ (pos 100)) 500 40 200 (Some 3) Linear

pub record AnimationsAreWorked : Type 0 where
  pub quarter : value_at (hundred Linear) 250 ≡ Now (pos 25)
  pub half : value_at (hundred Linear) 500 ≡ Now (pos 50)
  pub ends : value_at (hundred Linear) 1000 ≡ Last (pos 100)
  pub slowly_at_first : progress EaseIn 512 ≡ 184
  pub slow_half : value_at (hundred EaseIn) 500 ≡ Now (pos 17)
  pub fast_half : value_at (hundred EaseOut) 500 ≡ Now (pos 80)
  pub even_half : value_at (hundred EaseInOut) 500 ≡ Now (pos 49)
  pub step_waits : value_at (hundred Step) 999 ≡ Now (pos 0)
  pub step_ends : value_at (hundred Step) 1000 ≡ Last (pos 100)
  pub before : value_at there_and_back 39 ≡ Before
  pub begins : value_at there_and_back 40 ≡ Now (pos 100)
  -- rounded down: 100 - 68 and a fraction
  pub falls : value_at there_and_back 211 ≡ Now (pos 31)
  pub turns : value_at there_and_back 540 ≡ Now (neg_ℤ (pos 100))
  -- rounded down: -100 + 99 and a fraction
  pub rises : value_at there_and_back 639 ≡ Now (neg_ℤ (pos 2))
  pub again : value_at there_and_back 740 ≡ Now (pos 100)
  pub at_last : value_at there_and_back 2139 ≡ Now (pos 98)
  pub is_back : value_at there_and_back 2140 ≡ Last (pos 100)
  pub for_ever : value_at (over (pos 0) (pos 8) 2 0 2 None Linear) 4000003 ≡ Now (pos 4)

-- what a device tells of readings and ticks, each with its time
abbrev told : {D R : Type 0} → (Option D → Option R → ℕ → Fed (Option D)) → Option D → List (Option R × ℕ) →
    List InputEvent
told core device [] = []
told core device (r ∷ rs) = (core device r.0 r.1).tells ++ told core (core device r.0 r.1).device rs

abbrev tick : {R : Type 0} → ℕ → Option R × ℕ
tick now = (None, now)

abbrev down_at : ℕ → ℕ → ℕ → Option PointerReading × ℕ
down_at x y now = (Some (record { x = pos x; y = pos y; down = true }), now)

abbrev touch : Bool → ℕ → Option PointerReading × ℕ
touch down now = (Some (record { x = pos 5; y = pos 7; down = down }), now)

pub record PressesAreWorked : Type 0 where
  pub short : told pointer_fed None (touch true 7 ∷ tick 406 ∷ touch true 406 ∷ touch false 500 ∷ [])
      ≡ Press ∷ Hold (pos 0) (pos 0) (pos 0) (pos 0) ∷ Release false ∷ []
  -- a pointer that goes on tells how far it is, and how far it went
  pub goes : told pointer_fed None (down_at 5 15 0 ∷ down_at 5 10 1 ∷ down_at 7 4 2 ∷ [])
      ≡ Press ∷ Hold (pos 0) (negsuc 4) (pos 0) (negsuc 4) ∷ Hold (pos 2) (negsuc 10) (pos 2) (negsuc 5) ∷ []
  pub long :
      told pointer_fed None (touch true 7 ∷ tick 407 ∷ touch false 407 ∷ [])
      ≡ Press ∷ Long ∷ Release true ∷ []
  pub repeats :
      told pointer_fed None
      (touch true 0 ∷ tick 400 ∷ tick 499 ∷ tick 500 ∷ tick 599 ∷ tick 601 ∷ tick 700 ∷ [])
      ≡ Press ∷ Long ∷ Repeat ∷ Repeat ∷ []
  -- a late tick makes one event, and the next repeat is 100 ms after it
  pub late :
      told pointer_fed None (touch true 0 ∷ tick 950 ∷ tick 1049 ∷ tick 1050 ∷ [])
      ≡ Press ∷ Long ∷ Repeat ∷ []
  pub up : told pointer_fed None (touch false 0 ∷ tick 1000 ∷ touch false 1000 ∷ []) ≡ []

abbrev key : Key → Bool → ℕ → Option KeyReading × ℕ
key name down now = (Some (record { key = name; down = down }), now)

pub record KeysAreWorked : Type 0 where
  pub enter :
      told keypad_fed None
      (key Enter true 0 ∷ key Enter true 9 ∷ tick 400 ∷ tick 500 ∷ key Enter false 501 ∷ [])
      ≡ Press ∷ Long ∷ Repeat ∷ Release true ∷ []
  -- a second key lets go of Enter; a key that is not held is not let go of
  pub second :
      told keypad_fed None (key Enter true 0 ∷ key Left true 9 ∷ key Enter false 10 ∷ key Left false 11 ∷ [])
      ≡ Press ∷ Release false ∷ Keyed Left ∷ []
  pub arrows :
      told keypad_fed None (key Left true 0 ∷ tick 400 ∷ key Left true 401 ∷ key NextKey true 500 ∷ [])
      ≡ Keyed Left ∷ Next ∷ []

abbrev push : Bool → ℕ → Option EncoderReading × ℕ
push down now = (Some (Pushed down), now)

pub record PushesAreWorked : Type 0 where
  pub short :
      told encoder_fed None (push true 0 ∷ tick 399 ∷ push true 399 ∷ push false 400 ∷ push false 401 ∷ [])
      ≡ Press ∷ Release false ∷ []
  pub long : told encoder_fed None (push true 0 ∷ tick 400 ∷ tick 500 ∷ tick 900 ∷ push false 901 ∷ [])
      ≡ Press ∷ Long ∷ Release true ∷ []
  pub turns : told encoder_fed None (push true 0 ∷ (Some (Turned (negsuc 2)), 5) ∷ push false 6 ∷ [])
      ≡ Press ∷ Turn (negsuc 2) ∷ Release false ∷ []

abbrev object : ℕ → Handle
object h = record { 0 = h }

-- 10, 11 and 12 are members of group 1, and 13 of group 2
abbrev three : Groups
three =
    let two = joined (joined (with_group (with_group no_groups 1) 2) 1 (object 10)) 1 (object 11) in
    joined (joined two 2 (object 13)) 1 (object 12)

-- every object but one
abbrev all_but : ℕ → Handle → Bool
all_but hidden h = not (h.0 == hidden)

abbrev eyed : ℕ → Groups
eyed h = with_editing (with_focused three 1 (Some (object h))) 1 true

pub record FocusIsWorked : Type 0 where
  pub first : next_member (all_but 11) three 1 ≡ Some (object 10)
  pub last : previous_member (all_but 12) three 1 ≡ Some (object 11)
  pub next : next_member (all_but 11) (eyed 10) 1 ≡ Some (object 12)
  pub wraps : next_member (all_but 11) (eyed 12) 1 ≡ Some (object 10)
  pub previous : previous_member (all_but 11) (eyed 12) 1 ≡ Some (object 10)
  pub wraps_back : previous_member (all_but 12) (eyed 10) 1 ≡ Some (object 11)
  -- the one that has the focus is never the next
  pub alone : next_member (λ h. h.0 == 10) (eyed 10) 1 ≡ None
  pub other_group : next_member (all_but 11) (eyed 10) 2 ≡ Some (object 13)
  pub no_group : next_member (all_but 11) (eyed 10) 3 ≡ None
  pub of_thirteen : group_of three (object 13) ≡ Some 2
  pub of_none : group_of (left three 2 (object 13)) (object 13) ≡ None
  pub left_focused : focused_in (group_at (left (eyed 10) 1 (object 10)) 1) ≡ None
  pub left_editing : is_editing (group_at (left (eyed 10) 1 (object 10)) 1) ≡ false
  pub left_another : focused_in (group_at (left (eyed 10) 1 (object 11)) 1) ≡ Some (object 10)
  pub left_edited : is_editing (group_at (left (eyed 10) 1 (object 11)) 1) ≡ true

-- object 1 deletes the target and then says so when it is clicked
abbrev two_handlers : List (List Handler)
two_handlers =
    let one = with_handler (replicate 2 []) 1 Clicked (Delete Target) in
    with_handler (with_handler one 1 Pressed Say) 1 Clicked Say

pub record HandlersAreWorked : Type 0 where
  pub in_order : actions_of Clicked (handlers_of two_handlers 1) ≡ Delete Target ∷ Say ∷ []
  pub of_a_kind : actions_of Pressed (handlers_of two_handlers 1) ≡ Say ∷ []
  pub of_another : actions_of Clicked (handlers_of two_handlers 0) ≡ []
  pub without : actions_of Clicked (handlers_of (without_kind two_handlers 1 Clicked) 1) ≡ []
  pub kept : actions_of Pressed (handlers_of (without_kind two_handlers 1 Clicked) 1) ≡ Say ∷ []
