-- What a viewer has on its screen in the course of a session.
use Rattle.std.proofs.Common.{◌≡◌, ◌∙◌, sym, ap, refl, subst, inl, inr, ℕ, ◌*◌, pos, ◌≤ℤ◌, Bool, true, false, not, ◌==◌, ◌&&◌, if◌then◌else◌, List, [], ◌∷◌, ◌++◌, length, Some, None, Option, arith}
use Rattle.std.proofs.lemmas.Bool.{cases_lt}
use Rattle.std.proofs.lemmas.Grind.{fold-append}
use Rattle.std.proofs.lemmas.Int.{ints}
use Rattle.std.proofs.lemmas.List.{length-replicate, get_or-replicate, get_or_past}
use Rattle.gui_base.specs.Area.{Rect, is_empty}
use Rattle.scene_defs.specs.Picture.{picture}
use Rattle.scene_defs.proofs.Pictures.{length-each_below}
use Rattle.run_defs.specs.declared.Command.{Command}
use Rattle.run_defs.specs.declared.Command.TheVariants.{Tick}
use Rattle.run_defs.proofs.Steps.{step-limits}
use Rattle.session_defs.specs.Bytes.{at}
use Rattle.session_defs.specs.Formats.{is_format, read_format}
use Rattle.session_defs.specs.Messages.{Message, Wants, Passes, Asks, Inputs, Errs, message_of, wanted}
use Rattle.session_defs.specs.Sessions.{Session, Write, Greets, Tells, Due, Version, Security, Sharing, Saying, begun_on, part, parts, part_due, fails, offer, chosen, turned_down, on_panel, view_of, views, tells, greets, Heard, hears, answers, answer_by}
use Rattle.session_defs.specs.Updates.{Sight, Answer, asked, none_known, known_at, answered}
use Rattle.session_defs.specs.Viewer.{viewed}
use Rattle.session_defs.specs.Viewing.{IsOn, IsTold, IsSeen, IsReady, Sees}
use Rattle.session_defs.specs.Watching.{IsSound, IsMessage, SeesAnswer, SessionsAreSeen, MessagesAreSeen}
use Rattle.gui_base.specs.Limits.{Bounds}
use Rattle.session_defs.specs.declared.RfbBad.{RfbBad}
use Rattle.session_defs.specs.declared.Format.{Format}
use Rattle.session_defs.proofs.Viewing.{answers_are_seen, length-viewed}

-- one more thing is written
view_more : (width height : ℕ) (writes : List Write) (w : Write) → view_of width height (writes ++ w ∷ []) ≡ views width (view_of width height writes) w
view_more width height writes w = fold-append (views width) (none_known (width * height)) writes (w ∷ [])

none_at : (n i : ℕ) → known_at (none_known n) i ≡ None
none_at n i = elim (cases_lt i n) [
  | inl below ↦ get_or-replicate n i None None below
  | inr past ↦ get_or_past (none_known n) i None (omega (arith, length-replicate {A = Option ℕ} n None))
]

-- nothing counts as sent
none_told : (n : ℕ) (view : List (Option ℕ)) → length view ≡ n → IsTold (none_known n) view
none_told n view len = record {
  len = len ∙ sym (length-replicate n None);
  same = λ i m h. let none : known_at (none_known n) i ≡ None = none_at n i in cc;
}

module _ (width height : ℕ) where
  abbrev view : Session → List (Option ℕ)
  view session = view_of width height session.writes

  greets_sound : (due : Due) (bytes : List ℕ) (session : Session) → IsSound width height session → IsSound width height (greets due bytes session)
  greets_sound due bytes session s = record {
    width_is = s.width_is;
    height_is = s.height_is;
    format = s.format;
    told = subst (λ (v : List (Option ℕ)). IsTold session.sight.sent v) (sym (view_more width height session.writes (Greets bytes))) s.told;
    many = s.many;
    on = s.on;
  }

  fails_sound : (why : RfbBad) (session : Session) → IsSound width height session → IsSound width height (fails why session)
  fails_sound why session s = record { width_is = s.width_is; height_is = s.height_is; format = s.format; told = s.told; many = s.many; on = s.on }

  -- what the viewer has after a message
  view_after : (heard : Heard) (answer : Answer) (session : Session) → view (tells heard answer session) ≡ viewed width answer.sight.format answer.bytes (view session)
  view_after heard answer session = view_more width height session.writes (Tells answer.sight.format answer.bytes heard.lines heard.notes)

  -- a machine of the same sizes
  record SameSizes (heard : Heard) : Type 0 where
    width_is : heard.machine.scene.limits.width ≡ width
    height_is : heard.machine.scene.limits.height ≡ height

  hears_sizes : (session : Session) (command : Option Command) → IsSound width height session → SameSizes (hears session.machine command)
  hears_sizes session None s = record { width_is = s.width_is; height_is = s.height_is }
  hears_sizes session (Some command) s = record {
    width_is = ap (λ (l : Bounds). l.width) (step-limits session.machine command) ∙ s.width_is;
    height_is = ap (λ (l : Bounds). l.height) (step-limits session.machine command) ∙ s.height_is;
  }

  tells_sound : (heard : Heard) (answer : Answer) (session : Session) → SameSizes heard → is_format answer.sight.format ≡ true → IsTold answer.sight.sent (viewed width answer.sight.format answer.bytes (view session)) → length (view session) ≡ width * height →
      ((area : Rect) → answer.sight.request ≡ Some area → IsOn area) → IsSound width height (tells heard answer session)
  tells_sound heard answer session sizes format told long on = record {
    width_is = sizes.width_is;
    height_is = sizes.height_is;
    format = format;
    told = subst (λ (v : List (Option ℕ)). IsTold answer.sight.sent v) (sym (view_after heard answer session)) told;
    many = sym told.len ∙ length-viewed width answer.sight.format answer.bytes (view session) ∙ long;
    on = on;
  }

  long_view : (session : Session) → IsSound width height session → length (view session) ≡ width * height
  long_view session s = s.told.len ∙ s.many

  -- an answer in a session
  record Answered (changes : Bool) (sight : Sight) (heard : Heard) (session : Session) : Type 0 where
    sound : IsSound width height (answers changes sight heard session)
    seen : (area : Rect) → sight.request ≡ Some area → (b : ℕ) (bytes : List ℕ) → (answer_by changes sight heard).bytes ≡ b ∷ bytes →
        IsSeen width (answer_by changes sight heard).sight.format (picture heard.machine.scene) area (view (answers changes sight heard session))

  colors_many : (heard : Heard) → SameSizes heard → length (picture heard.machine.scene) ≡ width * height
  colors_many heard sizes = length-each_below (heard.machine.scene.limits.width * heard.machine.scene.limits.height) _ ∙ product _ _ _ _ sizes.width_is sizes.height_is
    where
      product : (a b c d : ℕ) → a ≡ c → b ≡ d → a * b ≡ c * d
      product a b c d e f = rw (e, f) refl

  answered_sound : (changes : Bool) (sight : Sight) (heard : Heard) (session : Session) → IsSound width height session → SameSizes heard → sight.format ≡ session.sight.format → sight.sent ≡ session.sight.sent →
      ((area : Rect) → sight.request ≡ Some area → IsOn area) → Answered changes sight heard session
  answered_sound changes sight heard session s sizes same_format same_sent on =
      let told : IsTold sight.sent (view session) = subst (λ (l : List (Option ℕ)). IsTold l (view session)) (sym same_sent) s.told in
      let format : is_format sight.format ≡ true = ap is_format same_format ∙ s.format in
      let ready : IsReady (picture heard.machine.scene) sight (view session) = record { format = format; told = told; many = colors_many heard sizes ∙ sym (long_view session s); on = on } in
      let answer = answer_by changes sight heard in
      let sees : Sees width (picture heard.machine.scene) sight (view session) answer =
      subst (λ (w : ℕ). Sees width (picture heard.machine.scene) sight (view session) (answered w (picture heard.machine.scene) changes sight)) (sym sizes.width_is) (answers_are_seen width (picture heard.machine.scene) changes sight (view session) ready) in
      record {
        sound = tells_sound heard answer session sizes (ap is_format sees.format ∙ format)
            (subst (λ (f : Format). IsTold answer.sight.sent (viewed width f answer.bytes (view session))) (sym sees.format) sees.told)
            (long_view session s) (λ area h. on area (sees.waits area h));
        seen = λ area h b bytes k.
            subst (λ (v : List (Option ℕ)). IsSeen width answer.sight.format (picture heard.machine.scene) area v) (sym (view_after heard answer session))
            (subst (λ (f : Format). IsSeen width f (picture heard.machine.scene) area (viewed width f answer.bytes (view session))) (sym sees.format) (sees.seen area h b bytes k));
      }

  on_by : (session : Session) (area meet : Rect) (none : Bool) → meet ≡ on_panel session area → is_empty meet ≡ none → (other : Rect) → (if none then None else Some meet) ≡ Some other → IsOn other
  on_by session area meet true e is other h = absurd (cc)
  on_by session area meet false e is other h =
      let l : pos 0 ≤ℤ meet.x1 = subst (λ (r : Rect). pos 0 ≤ℤ r.x1) (sym e) (grind (arith, ints)) in
      let t : pos 0 ≤ℤ meet.y1 = subst (λ (r : Rect). pos 0 ≤ℤ r.y1) (sym e) (grind (arith, ints)) in
      let same : meet ≡ other = cc in
      subst IsOn same (record { left = l; top = t; columns = grind (arith, ints); lines = grind (arith, ints) })

  says_seen : (ms : ℕ) (session : Session) (message : Message) → IsSound width height session → IsMessage message → SeesAnswer width height ms session message
  says_seen ms session (Wants format) s ok = record {
    sound = tells_sound _ _ session (hears_sizes session None s) ok (none_told (length session.sight.sent) (view session) s.told.len) (long_view session s) (λ area h. absurd (cc));
    seen = λ area h b bytes k. absurd (cc);
  }
  says_seen ms session Passes s ok = record {
    sound = tells_sound _ _ session (hears_sizes session None s) s.format s.told (long_view session s) s.on;
    seen = λ area h b bytes k. absurd (cc);
  }
  says_seen ms session (Asks changes area) s ok =
      let a = answered_sound changes (asked (on_panel session area) session.sight) (hears session.machine (Some (Tick ms))) session s (hears_sizes session (Some (Tick ms)) s) refl refl (on_by session area (on_panel session area) _ refl refl) in
      record { sound = a.sound; seen = a.seen }
  says_seen ms session (Inputs command) s ok =
      let a = answered_sound true session.sight (hears session.machine command) session s (hears_sizes session command s) refl refl s.on in
      record { sound = a.sound; seen = a.seen }
  says_seen ms session (Errs why) s ok = record { sound = fails_sound why session s; seen = λ area h b bytes k. absurd (cc) }

  -- a message that may be said, as a fact whose message can be found
  pub record Sayable (message : Message) : Type 0 where
    pub is : IsMessage message

  either : (b : Bool) (x y : Message) → Sayable x → Sayable y → Sayable (if b then x else y)
  either true x y h k = h
  either false x y h k = k

  wants_by : (b c : Bool) (f : Format) → is_format f ≡ c → Sayable (wanted (if b && c then Some f else None))
  wants_by true true f h = record { is = h }
  wants_by true false f h = record { is = tt }
  wants_by false c f h = record { is = tt }

  passes : Sayable Passes
  passes = record { is = tt }

  asks : (changes : Bool) (area : Rect) → Sayable (Asks changes area)
  asks changes area = record { is = tt }

  inputs : (command : Option Command) → Sayable (Inputs command)
  inputs command = record { is = tt }

  errs : (why : RfbBad) → Sayable (Errs why)
  errs why = record { is = tt }

  pub message_said : (bytes : List ℕ) → Sayable (message_of bytes)
  message_said bytes =
      let kind = at bytes 0 in
      either (kind == 0) _ _ (wants_by (not (at bytes 7 == 0)) (is_format (read_format bytes 4)) (read_format bytes 4) refl)
      (either (kind == 2) _ _ passes
      (either (kind == 3) _ _ (asks _ _)
      (either (kind == 4) _ _ (inputs _)
      (either (kind == 5) _ _ (inputs _)
      (either (kind == 6) _ _ passes (errs _))))))

  choose : (b : Bool) (x y : Session) → IsSound width height x → IsSound width height y → IsSound width height (if b then x else y)
  choose true x y h k = h
  choose false x y h k = k

  due_sound : (ms : ℕ) (due : Due) (bytes : List ℕ) (session : Session) → IsSound width height session → IsSound width height (part_due ms due bytes session)
  due_sound ms Version bytes session s = choose _ _ _ (greets_sound Security offer session s) (fails_sound _ session s)
  due_sound ms Security bytes session s = choose _ _ _ (greets_sound Sharing chosen session s) (fails_sound _ _ (greets_sound Security turned_down session s))
  due_sound ms Sharing bytes session s = greets_sound Saying _ session s
  due_sound ms Saying bytes session s = (says_seen ms session (message_of bytes) s (message_said bytes).is).sound

  parts_sound : (ms : ℕ) (session : Session) (all : List (List ℕ)) → IsSound width height session → IsSound width height (parts ms session all)
  unfolding parts
  parts_sound ms session [] s = s
  parts_sound ms session (bytes ∷ all) s = parts_sound ms (part ms session bytes) all (choose _ _ _ s (due_sound ms session.due bytes session s))

pub sessions_are_seen : SessionsAreSeen
sessions_are_seen ms machine all =
    let n = machine.scene.limits.width * machine.scene.limits.height in
    parts_sound machine.scene.limits.width machine.scene.limits.height ms (begun_on machine) all
    (record {
      width_is = refl;
      height_is = refl;
      format = refl;
      told = none_told n (none_known n) (length-replicate n None);
      many = length-replicate n None;
      on = λ area h. absurd (cc);
    })

pub messages_are_seen : MessagesAreSeen
messages_are_seen width height ms session message s ok = says_seen width height ms session message s ok
