-- What a viewer reads of the bytes of a session is what was written.
use Rattle.std.proofs.Common.{◌≡◌, ◌∙◌, sym, ap, refl, subst, ℕ, zero, suc, ◌+◌, ◌*◌, ◌/◌, ◌%◌, ◌<◌, ◌≤◌, Bool, true, false, not, ◌&&◌, if◌then◌else◌, nat_lt, nat_le, List, [], ◌∷◌, ◌++◌, length, take, drop, fold, bytes_eq, append-nil, append_assoc, length-append, Some, None, Option, arith}
use Rattle.std.specs.Prelude.{⊤}
use Rattle.std.specs.List.{flat_map, range_with_len}
use Rattle.std.proofs.lemmas.Bool.Decides.{nat_tests}
use Rattle.std.proofs.lemmas.Grind.{flat_map-append, fold-append}
use Rattle.std.proofs.lemmas.List.{take_at, drop_at}
use Rattle.gui_base.specs.declared.color.Rgb565.{Rgb565}
use Rattle.gui_base.specs.Area.{Rect, is_empty, width_of, height_of, size_of}
use Rattle.gui_base.specs.Limits.{Bounds}
use Rattle.scene_defs.specs.Picture.{picture}
use Rattle.run_defs.specs.Machine.{Machine}
use Rattle.session_defs.specs.Formats.{own, bytes_each, number_bytes}
use Rattle.session_defs.specs.Messages.{Message, Wants, Passes, Asks, Inputs, Errs, message_of}
use Rattle.session_defs.specs.Parts.{cut}
use Rattle.session_defs.specs.Reader.{update_size, is_update, reads, screen_read}
use Rattle.session_defs.specs.Runs.{sent_by, set_after, set_by, is_answered, with_format, formats_from, screen_after, SessionsAreRead, SeesMessage, RunsAreSeen, machine_in, parts_in}
use Rattle.session_defs.specs.Sessions.{Session, Write, Greets, Tells, Due, Version, Security, Sharing, Saying, Heard, begun_on, part, parts, says, tells, fails, greets, version, offer, chosen, turned_down, screen, hears, unmoved, answer_by, bytes_of, views, view_of, is_none_left, outcome, output_of, end_if}
use Rattle.session_defs.specs.Updates.{Sight, Answer, unanswered, in_format, answered, answered_in, sends, sends_some, news_area, update, number_at, nth_pixel, none_known}
use Rattle.session_defs.specs.Viewer.{viewed}
use Rattle.session_defs.specs.Viewing.{IsSeen}
use Rattle.session_defs.specs.declared.Format.{Format}
use Rattle.session_defs.specs.declared.RfbBad.{RfbBad}
use Rattle.session_defs.specs.declared.RfbBad.TheVariants as bad
use Rattle.session_defs.proofs.Numbers.{length-number_bytes}
use Rattle.session_defs.proofs.Watching.{sessions_are_seen, messages_are_seen, message_said}

-- An update tells how long it is.

record IsUpdate (f : Format) (bytes : List ℕ) : Type 0 where
  size : (rest : List ℕ) → update_size f (bytes ++ rest) ≡ length bytes
  is : (rest : List ℕ) → is_update f (bytes ++ rest) ≡ true

whole : (n : ℕ) → n / 256 * 256 + n % 256 ≡ n
whole n = omega arith

-- pieces of one length
length-pieces : (g : ℕ → List ℕ) (n : ℕ) → ((k : ℕ) → length (g k) ≡ n) → (a count : ℕ) → length (flat_map g (range_with_len a count)) ≡ count * n
length-pieces g n each a zero = omega arith
length-pieces g n each a (suc count) =
    let more : suc count * n ≡ n + count * n = omega arith in
    omega (arith, length-append (g a) (flat_map g (range_with_len (a + 1) count)), each a, length-pieces g n each (a + 1) count)

le_is : (a b : ℕ) → a ≤ b → nat_le a b ≡ true
le_is a b h = grind (arith, nat_tests)

module _ (width : ℕ) (f : Format) (colors : List Rgb565) (area : Rect) where
  abbrev pixels : List ℕ
  pixels = flat_map (λ k. number_bytes f (number_at f colors (nth_pixel width area k))) (range_with_len 0 (size_of area))

  length-pixels : length pixels ≡ size_of area * bytes_each f
  length-pixels = length-pieces (λ k. number_bytes f (number_at f colors (nth_pixel width area k))) (bytes_each f) (λ k. length-number_bytes f _) 0 (size_of area)

  update_long : (rest : List ℕ) → update_size f (update width f colors area ++ rest) ≡ length (update width f colors area)
  update_long rest = rw (whole (width_of area), whole (height_of area)) (omega (arith, length-pixels))

  update_is : IsUpdate f (update width f colors area)
  update_is = record {
    size = update_long;
    is = λ rest. le_is (update_size f (update width f colors area ++ rest)) (length (update width f colors area ++ rest)) (omega (arith, update_long rest, length-append (update width f colors area) rest));
  }

-- bytes that are an update, or none
abbrev Brings : Format → List ℕ → Type 0
Brings f [] = ⊤
Brings f (b ∷ bytes) = IsUpdate f (b ∷ bytes)

-- an answer in the format of the sight
record IsAnswer (sight : Sight) (answer : Answer) : Type 0 where
  format : answer.sight.format ≡ sight.format
  brings : Brings answer.sight.format answer.bytes

none_answers : (sight : Sight) → IsAnswer sight (unanswered sight)
none_answers sight = record { format = refl; brings = tt }

some_answers : (width : ℕ) (colors : List Rgb565) (area : Rect) (sight : Sight) (none : Bool) → IsAnswer sight (if none then unanswered sight else sends width colors area sight)
some_answers width colors area sight true = none_answers sight
some_answers width colors area sight false = record { format = refl; brings = update_is width sight.format colors area }

answers_by : (width : ℕ) (colors : List Rgb565) (changes : Bool) (sight : Sight) (request : Option Rect) → IsAnswer sight (answered_in width colors changes sight request)
answers_by width colors changes sight None = none_answers sight
answers_by width colors false sight (Some area) = some_answers width colors area sight (is_empty area)
answers_by width colors true sight (Some area) = some_answers width colors (news_area width colors sight area) sight (is_empty (news_area width colors sight area))

is_answer : (width : ℕ) (colors : List Rgb565) (changes : Bool) (sight : Sight) → IsAnswer sight (answered width colors changes sight)
unfolding answered
is_answer width colors changes sight = answers_by width colors changes sight sight.request

-- Updates one after another.

abbrev AllUpdates : List Write → Type 0
AllUpdates [] = ⊤
AllUpdates (Greets bytes ∷ writes) = ⊥
AllUpdates (Tells f bytes lines notes ∷ writes) = Brings f bytes × AllUpdates writes

-- the formats of those that have bytes
abbrev formats_in : List Write → List Format
formats_in [] = []
formats_in (Greets bytes ∷ writes) = formats_in writes
formats_in (Tells f bytes lines notes ∷ writes) = with_format (not (is_none_left bytes)) f (formats_in writes)

reads_one : (width : ℕ) (f : Format) (formats : List Format) (bytes rest : List ℕ) (view : List (Option ℕ)) → IsUpdate f bytes → reads width (f ∷ formats) (bytes ++ rest) view ≡ reads width formats rest (viewed width f bytes view)
reads_one width f formats bytes rest view u =
    ap (λ (b : Bool). if b then reads width formats (drop (update_size f (bytes ++ rest)) (bytes ++ rest)) (viewed width f (take (update_size f (bytes ++ rest)) (bytes ++ rest)) view) else None) (u.is rest)
    ∙ ap (λ (n : ℕ). reads width formats (drop n (bytes ++ rest)) (viewed width f (take n (bytes ++ rest)) view)) (u.size rest)
    ∙ ap (λ (l : List ℕ). reads width formats l (viewed width f (take (length bytes) (bytes ++ rest)) view)) (drop_at bytes rest (length bytes) refl)
    ∙ ap (λ (l : List ℕ). reads width formats rest (viewed width f l view)) (take_at bytes rest (length bytes) refl)

module _ (width : ℕ) where
  reads_writes : (writes : List Write) (view : List (Option ℕ)) → AllUpdates writes → reads width (formats_in writes) (flat_map bytes_of writes) view ≡ Some (fold (views width) view writes)
  reads_writes [] view h = refl
  reads_writes (Greets bytes ∷ writes) view h = absurd h
  reads_writes (Tells f [] lines notes ∷ writes) view h = reads_writes writes view h.1
  reads_writes (Tells f (b ∷ bytes) lines notes ∷ writes) view h =
      reads_one width f (formats_in writes) (b ∷ bytes) (flat_map bytes_of writes) view h.0
      ∙ reads_writes writes (viewed width f (b ∷ bytes) view) h.1

-- What follows on a session.

record Follows (session last : Session) (formats : List Format) : Type 0 where
  more : List Write
  writes_is : last.writes ≡ session.writes ++ more
  updates : AllUpdates more
  formats_is : formats ≡ formats_in more

follows_none : (session : Session) → Follows session session []
follows_none session = record { more = []; writes_is = sym (append-nil session.writes); updates = tt; formats_is = refl }

follows_tells : (session : Session) (heard : Heard) (answer : Answer) (last : Session) (formats : List Format) → Brings answer.sight.format answer.bytes → Follows (tells heard answer session) last formats →
    Follows session last (with_format (not (is_none_left answer.bytes)) answer.sight.format formats)
follows_tells session heard answer last formats brings k = record {
  more = Tells answer.sight.format answer.bytes heard.lines heard.notes ∷ k.more;
  writes_is = k.writes_is ∙ append_assoc session.writes (Tells answer.sight.format answer.bytes heard.lines heard.notes ∷ []) k.more;
  updates = (brings, k.updates);
  formats_is = ap (with_format (not (is_none_left answer.bytes)) answer.sight.format) k.formats_is;
}

follows_fails : (session : Session) (why : RfbBad) (last : Session) (formats : List Format) → Follows (fails why session) last formats → Follows session last formats
follows_fails session why last formats k = record { more = k.more; writes_is = k.writes_is; updates = k.updates; formats_is = k.formats_is }

-- whether more was sent
grows : (old : List ℕ) (bytes : List ℕ) → nat_lt (length old) (length (old ++ bytes)) ≡ not (is_none_left bytes)
grows old [] = let e = length-append old [] in grind (arith, nat_tests, e)
grows old (b ∷ bytes) = let e = length-append old (b ∷ bytes) in grind (arith, nat_tests, e)

same_size : (n : ℕ) → nat_lt n n ≡ false
same_size n = grind (arith, nat_tests)

sent_more : (session : Session) (heard : Heard) (answer : Answer) → sent_by (tells heard answer session) ≡ sent_by session ++ answer.bytes
sent_more session heard answer =
    flat_map-append bytes_of session.writes (Tells answer.sight.format answer.bytes heard.lines heard.notes ∷ [])
    ∙ ap (λ (l : List ℕ). sent_by session ++ l) (append-nil answer.bytes)

tells_grows : (session : Session) (heard : Heard) (answer : Answer) → nat_lt (length (sent_by session)) (length (sent_by (tells heard answer session))) ≡ not (is_none_left answer.bytes)
tells_grows session heard answer = ap (λ (l : List ℕ). nat_lt (length (sent_by session)) (length l)) (sent_more session heard answer) ∙ grows (sent_by session) answer.bytes

-- an answer in this format follows
follows_answer : (session : Session) (heard : Heard) (answer : Answer) (set : Format) (last : Session) (formats : List Format) → answer.sight.format ≡ set → Brings answer.sight.format answer.bytes → Follows (tells heard answer session) last formats →
    Follows session last (with_format (nat_lt (length (sent_by session)) (length (sent_by (tells heard answer session)))) set formats)
follows_answer session heard answer set last formats e brings k =
    subst (λ (b : Bool). Follows session last (with_format b set formats)) (sym (tells_grows session heard answer))
    (subst (λ (f : Format). Follows session last (with_format (not (is_none_left answer.bytes)) f formats)) e
    (follows_tells session heard answer last formats brings k))

module _ (ms : ℕ) where
  says_follows : (session : Session) (message : Message) (last : Session) (formats : List Format) → Follows (says ms message session) last formats →
      Follows session last (with_format (nat_lt (length (sent_by session)) (length (sent_by (says ms message session)))) (set_after message session.sight.format) formats)
  says_follows session (Wants format) last formats k = follows_answer session _ (unanswered (in_format format session.sight)) format last formats refl tt k
  says_follows session Passes last formats k = follows_answer session _ (unanswered session.sight) session.sight.format last formats refl tt k
  says_follows session (Asks changes area) last formats k =
      let a = is_answer _ _ changes _ in
      follows_answer session _ _ session.sight.format last formats a.format a.brings k
  says_follows session (Inputs command) last formats k =
      let a = is_answer _ _ true session.sight in
      follows_answer session _ _ session.sight.format last formats a.format a.brings k
  says_follows session (Errs why) last formats k =
      subst (λ (b : Bool). Follows session last (with_format b session.sight.format formats)) (sym (same_size (length (sent_by session))))
      (follows_fails session why last formats k)

  says_due : (session : Session) (message : Message) → (says ms message session).due ≡ session.due
  says_due session (Wants format) = refl
  says_due session Passes = refl
  says_due session (Asks changes area) = refl
  says_due session (Inputs command) = refl
  says_due session (Errs why) = refl

  says_format : (session : Session) (message : Message) → (says ms message session).sight.format ≡ set_after message session.sight.format
  says_format session (Wants format) = refl
  says_format session Passes = refl
  says_format session (Asks changes area) = (is_answer _ _ changes _).format
  says_format session (Inputs command) = (is_answer _ _ true session.sight).format
  says_format session (Errs why) = refl

  -- a part in a session that goes on, and after a fault
  part_says : (session : Session) (bytes : List ℕ) → session.due ≡ Saying → session.fault ≡ None → part ms session bytes ≡ says ms (message_of bytes) session
  part_says session bytes due fault = rw (fault, due) refl

  part_over : (session : Session) (bytes : List ℕ) (why : RfbBad) → session.fault ≡ Some why → part ms session bytes ≡ session
  part_over session bytes why fault = rw fault refl

  parts_over : (session : Session) (all : List (List ℕ)) (why : RfbBad) → session.fault ≡ Some why → parts ms session all ≡ session
  unfolding parts
  parts_over session [] why fault = refl
  parts_over session (bytes ∷ all) why fault = ap (λ (s : Session). parts ms s all) (part_over session bytes why fault) ∙ parts_over session all why fault

  formats_over : (session : Session) (set : Format) (all : List (List ℕ)) (why : RfbBad) → session.due ≡ Saying → session.fault ≡ Some why → formats_from ms session set all ≡ []
  formats_over session set [] why due fault = refl
  formats_over session set (bytes ∷ all) why due fault =
      ap (λ (s : Session). with_format (is_answered session s) (set_by session.due bytes set) (formats_from ms s (set_by session.due bytes set) all)) (part_over session bytes why fault)
      ∙ ap (λ (d : Due). with_format (is_answered (record session { due = d }) session) (set_by session.due bytes set) (formats_from ms session (set_by session.due bytes set) all)) due
      ∙ ap (λ (b : Bool). with_format b (set_by session.due bytes set) (formats_from ms session (set_by session.due bytes set) all)) (same_size (length (sent_by session)))
      ∙ formats_over session (set_by session.due bytes set) all why due fault

  goes_on : (session : Session) (all : List (List ℕ)) (fault : Option RfbBad) → session.fault ≡ fault → session.due ≡ Saying → Follows session (parts ms session all) (formats_from ms session session.sight.format all)
  unfolding parts
  goes_on session [] fault e due = follows_none session
  goes_on session (bytes ∷ all) (Some why) e due =
      subst (λ (s : Session). Follows session s (formats_from ms session session.sight.format (bytes ∷ all))) (sym (parts_over session (bytes ∷ all) why e))
      (subst (λ (l : List Format). Follows session session l) (sym (formats_over session session.sight.format (bytes ∷ all) why due e)) (follows_none session))
  goes_on session (bytes ∷ all) None e due =
      let message = message_of bytes in
      let next = says ms message session in
      let set = set_after message session.sight.format in
      let rest = goes_on next all next.fault refl (says_due session message ∙ due) in
      let further = subst (λ (f : Format). Follows next (parts ms next all) (formats_from ms next f all)) (says_format session message) rest in
      let here = says_follows session message (parts ms next all) (formats_from ms next set all) further in
      subst (λ (s : Session). Follows session (parts ms s all) (with_format (is_answered session s) (set_by session.due bytes session.sight.format) (formats_from ms s (set_by session.due bytes session.sight.format) all))) (sym (part_says session bytes due e))
      (subst (λ (d : Due). Follows session (parts ms next all) (with_format (is_answered (record session { due = d }) next) (set_by d bytes session.sight.format) (formats_from ms next (set_by d bytes session.sight.format) all))) (sym due) here)

  -- From the greeting on.

  -- what is read of a session that begins so
  abbrev IsRead : Bounds → Session → List (List ℕ) → Type 0
  IsRead limits session all =
      (parts ms session all).due ≡ Saying →
      screen_read (formats_from ms session own all) (sent_by (parts ms session all)) ≡ Some (view_of limits.width limits.height (parts ms session all).writes)

  read_over : (limits : Bounds) (session : Session) (why : RfbBad) (all : List (List ℕ)) (due : Due) → session.fault ≡ Some why → session.due ≡ due → (due ≡ Saying → ⊥) → IsRead limits session all
  read_over limits session why all due e is other h = absurd (other (sym is ∙ ap (λ (s : Session). s.due) (sym (parts_over session all why e)) ∙ h))

  abbrev greeted : Machine → Session
  greeted machine = greets Saying (screen machine.scene.limits) (greets Sharing chosen (greets Security offer (begun_on machine)))

  read_writes : (limits : Bounds) (writes : List Write) (formats : List Format) → AllUpdates writes → formats ≡ formats_in writes →
      screen_read formats (version ++ (offer ++ (chosen ++ (screen limits ++ flat_map bytes_of writes)))) ≡ Some (fold (views limits.width) (none_known (limits.width * limits.height)) writes)
  read_writes limits writes formats h e =
      rw (whole limits.width, whole limits.height, e) (reads_writes limits.width writes (none_known (limits.width * limits.height)) h)

  read_greeted : (machine : Machine) (all : List (List ℕ)) → IsRead machine.scene.limits (greeted machine) all
  read_greeted machine all due =
      let k = goes_on (greeted machine) all None refl refl in
      rw k.writes_is (read_writes machine.scene.limits k.more _ k.updates k.formats_is)

  read_chosen : (machine : Machine) (all : List (List ℕ)) → IsRead machine.scene.limits (greets Sharing chosen (greets Security offer (begun_on machine))) all
  unfolding parts
  read_chosen machine [] due = absurd (cc)
  read_chosen machine (bytes ∷ all) due = read_greeted machine all due

  read_offered : (machine : Machine) (all : List (List ℕ)) → IsRead machine.scene.limits (greets Security offer (begun_on machine)) all
  unfolding parts
  read_offered machine [] due = absurd (cc)
  read_offered machine (bytes ∷ all) due = by (bytes_eq bytes (1 ∷ [])) due
    where
      by : (b : Bool) → IsRead machine.scene.limits (if b then greets Sharing chosen (greets Security offer (begun_on machine)) else fails bad.Security (greets Security turned_down (greets Security offer (begun_on machine)))) all
      by true = read_chosen machine all
      by false = read_over machine.scene.limits (fails bad.Security (greets Security turned_down (greets Security offer (begun_on machine)))) bad.Security all Security refl refl (λ e. cc)

  read_begun : (machine : Machine) (all : List (List ℕ)) → IsRead machine.scene.limits (begun_on machine) all
  unfolding parts
  read_begun machine [] due = absurd (cc)
  read_begun machine (bytes ∷ all) due = by (bytes_eq bytes version) due
    where
      by : (b : Bool) → IsRead machine.scene.limits (if b then greets Security offer (begun_on machine) else fails bad.Version (begun_on machine)) all
      by true = read_offered machine all
      by false = read_over machine.scene.limits (fails bad.Version (begun_on machine)) bad.Version all Version refl refl (λ e. cc)

pub sessions_are_read : SessionsAreRead
sessions_are_read ms machine all due = read_begun ms machine all due

-- The messages of a run.

module _ (ms : ℕ) (machine : Machine) where
  parts_more : (before : List (List ℕ)) (bytes : List ℕ) → parts ms (begun_on machine) (before ++ bytes ∷ []) ≡ part ms (parts ms (begun_on machine) before) bytes
  unfolding parts
  parts_more before bytes = fold-append (part ms) (begun_on machine) before (bytes ∷ [])

  sees_message : (before : List (List ℕ)) (bytes : List ℕ) → (parts ms (begun_on machine) before).due ≡ Saying → (parts ms (begun_on machine) before).fault ≡ None → SeesMessage ms machine before bytes
  sees_message before bytes due fault =
      let width = machine.scene.limits.width in
      let height = machine.scene.limits.height in
      let session = parts ms (begun_on machine) before in
      let last = parts ms (begun_on machine) (before ++ bytes ∷ []) in
      let message = message_of bytes in
      let is : last ≡ says ms message session = parts_more before bytes ∙ part_says ms session bytes due fault in
      let sees = messages_are_seen width height ms session message (sessions_are_seen ms machine before) (message_said width height bytes).is in
      let sound = sessions_are_seen ms machine (before ++ bytes ∷ []) in
      record {
        view = view_of width height last.writes;
        reads = sessions_are_read ms machine (before ++ bytes ∷ []) (ap (λ (s : Session). s.due) is ∙ says_due ms session message ∙ due);
        many = sound.told.len ∙ sound.many;
        seen = λ area asked b more answered_is.
            subst (λ (s : Session). IsSeen width s.sight.format (picture s.machine.scene) area (view_of width height s.writes)) (sym is)
            (sees.seen area asked b more answered_is);
      }

pub runs_are_seen : RunsAreSeen
unfolding outcome
runs_are_seen ms first whole taken = record {
  sees = λ before after bytes e due fault. sees_message ms (machine_in first whole taken) before bytes due fault;
  output = λ begun. rw begun refl;
}
