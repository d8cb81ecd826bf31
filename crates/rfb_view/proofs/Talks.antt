-- How the talk with a viewer goes on.
use Rattle.std.proofs.Common.{◌≡◌, ◌∙◌, sym, ap, subst, refl, bytes_eq, ℕ, ◌*◌, ◌≤◌, length, inl, inr, Bool, true, false, ◌||◌, List, [], ◌∷◌, append-nil, arith, Some, Ok, Err, Result}
use Rattle.std.specs.Io.KnownBytes.{Appends}
use Rattle.std.proofs.KnownBytes.{Appends-nil}
use Rattle.gui_base.specs.declared.color.Rgb565.{Rgb565}
use Rattle.gui_base.specs.Limits.{Bounds}
use Rattle.gui_edge.specs.Causes.{HasCause}
use Rattle.gui_edge.specs.Sink.{SinkState, AppendsPrefix}
use Rattle.scene_defs.specs.Picture.{picture}
use Rattle.scene_defs.proofs.Pictures.{length-each_below}
use Rattle.run_defs.specs.Machine.{Machine}
use Rattle.session_defs.specs.Parts.{size_after}
use Rattle.session_defs.specs.Sessions.{Session, Write, Greets, bytes_of, lines_of, notes_of, part_due, fails, greets, screen, turned_down}
use Rattle.session_defs.specs.Sessions.{Security as AtSecurity, Saying as AtSaying}
use Rattle.session_defs.specs.declared.RfbBad.TheVariants as bad
use Rattle.rfb_view.specs.Greetings.{screen_of}
use Rattle.rfb_view.specs.Sights.{IsSight}
use Rattle.rfb_view.specs.Talking.{Outs, outs, Causes, due_of, count_due, IsWhole, bare, Broke, IsOver, Stays, Goes}
use Rattle.rfb_view.specs.declared.talk.Due.{Due}
use Rattle.rfb_view.specs.declared.talk.Due.TheVariants.{Version, Security, Sharing, Saying}
use Rattle.rfb_view.specs.declared.talk.Talk.{Talk}

pub or_false : (a : Bool) → a ≡ (a || false)
or_false true = refl
or_false false = refl

or_more : (a b : Bool) → (a || b) ≡ (a || (b || false))
or_more a b = ap (λ (x : Bool). a || x) (or_false b)

-- What is written.

pub prefix_none : (a : List ℕ) (o : SinkState) → AppendsPrefix o.held o.held a
prefix_none a o = record { prefix = []; rest = a; whole = refl; grows = Appends-nil o.held }

pub prefix_whole : (o p : SinkState) (a : List ℕ) → Appends o.held p.held a → AppendsPrefix o.held p.held a
prefix_whole o p a h = record { prefix = a; rest = []; whole = append-nil a; grows = h }

module _ (before after : Outs) (old : Talk) (now : Machine) (new : Talk) (session : Session) (over : IsOver now new) (stays : Stays old new) (machine : now ≡ session.machine) (sight : new.sight ≡ session.sight) (due : due_of new.due ≡ session.due) (fault : new.fault ≡ session.fault) where
  -- one thing was written
  pub goes_by : (w : Write) → session.writes ≡ w ∷ [] → new.noted ≡ (old.noted || notes_of w) → Appends before.out.held after.out.held (bytes_of w) → Appends before.log.held after.log.held (lines_of w) → Goes before after old now new session
  goes_by w is notes out log = record {
    talks = record {
      machine_is = machine;
      sight_is = sight;
      due_is = due;
      fault_is = fault;
      notes_is = rw is (notes ∙ or_more old.noted (notes_of w));
      out = rw (is, append-nil (bytes_of w)) out;
      log = rw (is, append-nil (lines_of w)) log;
    };
    over = over;
    stays = stays;
  }

  -- nothing was
  pub goes_quiet : session.writes ≡ [] → new.noted ≡ old.noted → after ≡ before → Goes before after old now new session
  goes_quiet is notes same = record {
    talks = record {
      machine_is = machine;
      sight_is = sight;
      due_is = due;
      fault_is = fault;
      notes_is = rw is (notes ∙ or_false old.noted);
      out = rw (is, same) (Appends-nil before.out.held);
      log = rw (is, same) (Appends-nil before.log.held);
    };
    over = over;
    stays = stays;
  }

pub broke_by : (before after : Outs) (session : Session) (w : Write) → session.writes ≡ w ∷ [] → AppendsPrefix before.out.held after.out.held (bytes_of w) → AppendsPrefix before.log.held after.log.held (lines_of w) → Broke before after session
broke_by before after session w is out log = record {
  out = rw (is, append-nil (bytes_of w)) out;
  log = rw (is, append-nil (lines_of w)) log;
}

-- Causes.

pub cause_out : {T E : Type 0} (old new log : SinkState) (r : Result T E) → HasCause old.faults new.faults r → Causes (outs old log) (outs new log) r
cause_out old new log (Ok x) h = record { out = h.later; log = omega arith; failed = tt }
cause_out old new log (Err e) h = record { out = h.later; log = omega arith; failed = inl h.failed }

pub cause_log : {T E : Type 0} (out old new : SinkState) (r : Result T E) → HasCause old.faults new.faults r → Causes (outs out old) (outs out new) r
cause_log out old new (Ok x) h = record { out = omega arith; log = h.later; failed = tt }
cause_log out old new (Err e) h = record { out = omega arith; log = h.later; failed = inr h.failed }

pub cause_both : {T E : Type 0} (a b c d : SinkState) (r : Result T E) → c.faults ≤ d.faults → HasCause a.faults b.faults r → Causes (outs a c) (outs b d) r
cause_both a b c d (Ok x) low h = record { out = h.later; log = low; failed = tt }
cause_both a b c d (Err e) low h = record { out = h.later; log = low; failed = inl h.failed }

pub cause_none : {E : Type 0} (a : Outs) → Causes {T = Unit {0}} {E = E} a a (Ok tt)
cause_none a = record { out = omega arith; log = omega arith; failed = tt }

-- The panel has the sizes of the machine.

pub over_as : (a b : Machine) (old new : Talk) → b.scene.limits ≡ a.scene.limits → new.width ≡ old.width → new.height ≡ old.height → IsSight new.width new.height new.sight → IsOver a old → IsOver b new
over_as a b old new limits width height sight over = record {
  width_is = width ∙ over.width_is ∙ ap (λ (l : Bounds). l.width) (sym limits);
  height_is = height ∙ over.height_is ∙ ap (λ (l : Bounds). l.height) (sym limits);
  few = rw width over.few;
  sight = sight;
}

pub pixels_many : (colors : List Rgb565) (machine : Machine) (w h : ℕ) → colors ≡ picture machine.scene → w ≡ machine.scene.limits.width → h ≡ machine.scene.limits.height → length colors ≡ w * h
pixels_many colors machine w h is width height = ap length is ∙ length-each_below (machine.scene.limits.width * machine.scene.limits.height) _ ∙ rw (width, height) refl

-- Parts before the first message.

turned_session : (now : Machine) (old : Talk) (heard : List ℕ) → old.due ≡ Security → bytes_eq heard (1 ∷ []) ≡ false → part_due old.ms (due_of old.due) heard (bare now old) ≡ fails bad.Security (greets AtSecurity turned_down (bare now old))
turned_session now old heard due other = rw (due, other) refl

-- another security was chosen
pub turned : (before after : Outs) (old : Talk) (now : Machine) (heard : List ℕ) → old.due ≡ Security → bytes_eq heard (1 ∷ []) ≡ false → IsOver now old → Appends before.out.held after.out.held turned_down → after.log ≡ before.log →
    Goes before after old now (let new : Talk = record old { fault = Some bad.Security } in new) (part_due old.ms (due_of old.due) heard (bare now old))
turned before after old now heard due other over out log =
    subst (Goes before after old now (let new : Talk = record old { fault = Some bad.Security } in new)) (sym (turned_session now old heard due other))
    (goes_by before after old now _ _ (over_as now now old _ refl refl refl over.sight over) (record { ms = refl; width = refl; height = refl }) refl refl (ap due_of due) refl (Greets turned_down) refl (or_false old.noted) out (rw log (Appends-nil before.log.held)))

shared_session : (now : Machine) (old : Talk) (heard : List ℕ) → old.due ≡ Sharing → part_due old.ms (due_of old.due) heard (bare now old) ≡ greets AtSaying (screen now.scene.limits) (bare now old)
shared_session now old heard due = rw due refl

screen_is : (now : Machine) (old : Talk) → IsOver now old → screen_of old.width old.height ≡ screen now.scene.limits
screen_is now old over = rw (over.width_is, over.height_is) refl

-- the byte on sharing has come
pub shared : (before after : Outs) (old new : Talk) (now : Machine) (heard : List ℕ) → old.due ≡ Sharing → new ≡ (let next : Talk = record old { due = Saying } in next) → IsOver now old → Appends before.out.held after.out.held (screen_of old.width old.height) → after.log ≡ before.log →
    Goes before after old now new (part_due old.ms (due_of old.due) heard (bare now old))
shared before after old new now heard due is over out log =
    subst (λ (t : Talk). Goes before after old now t (part_due old.ms (due_of old.due) heard (bare now old))) (sym is)
    (subst (Goes before after old now (let next : Talk = record old { due = Saying } in next)) (sym (shared_session now old heard due))
    (goes_by before after old now _ _ (over_as now now old _ refl refl refl over.sight over) (record { ms = refl; width = refl; height = refl }) refl refl refl refl (Greets (screen now.scene.limits)) refl (or_false old.noted) (subst (Appends _ _) (screen_is now old over) out) (rw log (Appends-nil before.log.held))))

pub shared_broke : (before after : Outs) (old : Talk) (now : Machine) (heard : List ℕ) → old.due ≡ Sharing → IsOver now old → AppendsPrefix before.out.held after.out.held (screen_of old.width old.height) → after.log ≡ before.log →
    Broke before after (part_due old.ms (due_of old.due) heard (bare now old))
shared_broke before after old now heard due over out log =
    subst (Broke before after) (sym (shared_session now old heard due))
    (broke_by before after _ (Greets (screen now.scene.limits)) refl (subst (AppendsPrefix _ _) (screen_is now old over) out) (rw log (prefix_none [] before.log)))

-- how many bytes a whole part has
pub is_whole : (due : Due) (count : ℕ) (head : List ℕ) → count ≡ size_after (count_due due) head → IsWhole due count
is_whole Version count head e = e
is_whole Security count head e = e
is_whole Sharing count head e = tt
is_whole Saying count head e = tt
