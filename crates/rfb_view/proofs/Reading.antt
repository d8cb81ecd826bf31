-- One byte more of a run.
use Rattle.std.proofs.Common.{◌≡◌, ◌∙◌, sym, ap, refl, subst, ℕ, zero, suc, ◌+◌, ◌==◌, Bool, true, false, min, List, [], ◌∷◌, ◌++◌, length, Some, None, arith}
use Rattle.std.proofs.lemmas.List.{length_push}
use Rattle.std.proofs.lemmas.List.Sums.{fold-append}
use Rattle.run_defs.specs.Machine.{Machine}
use Rattle.run_defs.specs.Script.{is_newline, without_return}
use Rattle.session_defs.specs.Parts.{Intake, cut, takes_byte, is_rfb, size_after}
use Rattle.session_defs.specs.Sessions.{Session, Outcome, Faulty, begun_on, part, parts, session_of, stop, is_too_long}
use Rattle.session_defs.specs.declared.RfbBad.{RfbBad}
use Rattle.rfb_view.specs.Hearing.{HearingState, HasHeard}
use Rattle.rfb_view.specs.Reading.{InScript, InSession, scripted}

pub cut_more : (taken : List ℕ) (byte : ℕ) → cut (taken ++ byte ∷ []) ≡ takes_byte (cut taken) byte
unfolding cut
cut_more taken byte = fold-append takes_byte _ taken (byte ∷ [])

parts_none : (ms : ℕ) (s : Session) → parts ms s [] ≡ s
unfolding parts
parts_none ms s = refl

pub parts_more : (ms : ℕ) (s : Session) (all : List (List ℕ)) (p : List ℕ) → parts ms s (all ++ p ∷ []) ≡ part ms (parts ms s all) p
unfolding parts
parts_more ms s all p = fold-append (part ms) s all (p ∷ [])

-- a size by the number of parts so far, up to three
pub size_by_count : (n count : ℕ) (bytes : List ℕ) → count ≡ min n 3 → size_after count bytes ≡ size_after n bytes
size_by_count zero count bytes e = let same : count ≡ 0 = omega arith in rw same refl
size_by_count (suc zero) count bytes e = let same : count ≡ 1 = omega arith in rw same refl
size_by_count (suc (suc zero)) count bytes e = let same : count ≡ 2 = omega arith in rw same refl
size_by_count (suc (suc (suc n))) count bytes e = let same : count ≡ 3 = omega arith in rw same refl

-- The script.

-- a byte that ends no line
pub script_byte : (first : Machine) (intake : Intake) (line : List ℕ) (machine : Machine) (byte : ℕ) → InScript first intake line machine → is_newline byte ≡ false → InScript first (takes_byte intake byte) (line ++ byte ∷ []) machine
script_byte first intake line machine byte h e =
    subst (λ (i : Intake). InScript first i (line ++ byte ∷ []) machine) (sym (rw (h.begun, e) refl))
    (let next : Intake = record intake { rest = intake.rest ++ byte ∷ [] } in
    let is : InScript first next (line ++ byte ∷ []) machine = record { begun = h.begun; none = h.none; line_is = ap (λ (l : List ℕ). l ++ byte ∷ []) h.line_is; machine_is = h.machine_is } in is)

-- a line that is whole, and is not the line `rfb`
pub script_line : (first : Machine) (intake : Intake) (line : List ℕ) (machine next : Machine) (byte : ℕ) → InScript first intake line machine → is_newline byte ≡ true → is_rfb (without_return line) ≡ false →
    next ≡ scripted first (record intake { lines = intake.lines ++ line ∷ []; rest = [] }) → InScript first (takes_byte intake byte) [] next
script_line first intake line machine next byte h e other k =
    let other_too : is_rfb (without_return intake.rest) ≡ false = ap (λ (l : List ℕ). is_rfb (without_return l)) (sym h.line_is) ∙ other in
    subst (λ (i : Intake). InScript first i [] next) (sym (rw (h.begun, e, other_too) refl))
    (let after : Intake = record intake { lines = intake.lines ++ intake.rest ∷ []; rest = [] } in
    let is : InScript first after [] next = record { begun = h.begun; none = h.none; line_is = refl; machine_is = k ∙ ap (λ (l : List ℕ). scripted first (record intake { lines = intake.lines ++ l ∷ []; rest = [] })) h.line_is } in is)

-- the line `rfb`: the session begins
pub session_begins : (ms : ℕ) (first : Machine) (intake : Intake) (line : List ℕ) (machine : Machine) (hearing : HearingState) (byte : ℕ) → InScript first intake line machine → is_newline byte ≡ true → is_rfb (without_return line) ≡ true → HasHeard hearing [] →
    InSession ms first (takes_byte intake byte) hearing 0 (begun_on machine)
session_begins ms first intake line machine hearing byte h e same none =
    let same_too : is_rfb (without_return intake.rest) ≡ true = ap (λ (l : List ℕ). is_rfb (without_return l)) (sym h.line_is) ∙ same in
    subst (λ (i : Intake). InSession ms first i hearing 0 (begun_on machine)) (sym (rw (h.begun, e, same_too) refl))
    (let after : Intake = record intake { begun = true; rest = [] } in
    let is : InSession ms first after hearing 0 (begun_on machine) = record {
      begun = refl;
      heard = none;
      count_is = sym (ap (λ (l : List (List ℕ)). min (length l) 3) h.none);
      session_is = ap begun_on h.machine_is ∙ sym (parts_none ms (begun_on (scripted first intake))) ∙ ap (λ (l : List (List ℕ)). parts ms (begun_on (scripted first intake)) l) (sym h.none);
      goes_on = refl;
    } in is)

-- The session.

-- a byte that makes no part whole
pub session_byte : (ms : ℕ) (first : Machine) (intake : Intake) (old new : HearingState) (count : ℕ) (session : Session) (byte : ℕ) → InSession ms first intake old count session → HasHeard new (intake.rest ++ byte ∷ []) →
    (length (intake.rest ++ byte ∷ []) == size_after count (intake.rest ++ byte ∷ [])) ≡ false → InSession ms first (takes_byte intake byte) new count session
session_byte ms first intake old new count session byte h heard other =
    let other_too : (length (intake.rest ++ byte ∷ []) == size_after (length intake.parts) (intake.rest ++ byte ∷ [])) ≡ false =
    ap (λ (n : ℕ). length (intake.rest ++ byte ∷ []) == n) (sym (size_by_count (length intake.parts) count (intake.rest ++ byte ∷ []) h.count_is)) ∙ other in
    subst (λ (i : Intake). InSession ms first i new count session) (sym (rw (h.begun, other_too) refl))
    (let after : Intake = record intake { rest = intake.rest ++ byte ∷ [] } in
    let is : InSession ms first after new count session = record { begun = h.begun; heard = heard; count_is = h.count_is; session_is = h.session_is; goes_on = h.goes_on } in is)

-- a part that is whole, after which the session goes on
pub session_part : (ms : ℕ) (first : Machine) (intake : Intake) (old new : HearingState) (count : ℕ) (session next : Session) (byte : ℕ) → InSession ms first intake old count session → HasHeard new [] →
    (length (intake.rest ++ byte ∷ []) == size_after count (intake.rest ++ byte ∷ [])) ≡ true → next ≡ part ms session (intake.rest ++ byte ∷ []) → next.fault ≡ None → InSession ms first (takes_byte intake byte) new (min (count + 1) 3) next
session_part ms first intake old new count session next byte h heard same k on =
    let p : List ℕ = intake.rest ++ byte ∷ [] in
    let same_too : (length p == size_after (length intake.parts) p) ≡ true =
    ap (λ (n : ℕ). length p == n) (sym (size_by_count (length intake.parts) count p h.count_is)) ∙ same in
    subst (λ (i : Intake). InSession ms first i new (min (count + 1) 3) next) (sym (rw (h.begun, same_too) refl))
    (let after : Intake = record intake { parts = intake.parts ++ p ∷ []; rest = [] } in
    let is : InSession ms first after new (min (count + 1) 3) next = record {
      begun = h.begun;
      heard = heard;
      count_is = let c = h.count_is in omega (arith, length_push intake.parts p);
      session_is = k ∙ ap (λ (s : Session). part ms s p) h.session_is ∙ sym (parts_more ms (begun_on (scripted first intake)) intake.parts p);
      goes_on = on;
    } in is)

-- a part that is whole, whatever comes of it
pub session_told : (ms : ℕ) (first : Machine) (intake : Intake) (old : HearingState) (count : ℕ) (session next : Session) (byte : ℕ) → InSession ms first intake old count session →
    (length (intake.rest ++ byte ∷ []) == size_after count (intake.rest ++ byte ∷ [])) ≡ true → next ≡ part ms session (intake.rest ++ byte ∷ []) → session_of ms first false (takes_byte intake byte) ≡ Some next
session_told ms first intake old count session next byte h same k =
    let p : List ℕ = intake.rest ++ byte ∷ [] in
    let same_too : (length p == size_after (length intake.parts) p) ≡ true =
    ap (λ (n : ℕ). length p == n) (sym (size_by_count (length intake.parts) count p h.count_is)) ∙ same in
    let after : Intake = record intake { parts = intake.parts ++ p ∷ []; rest = [] } in
    let taken : takes_byte intake byte ≡ after = rw (h.begun, same_too) refl in
    ap (λ (i : Intake). session_of ms first false i) taken
    ∙ told ms first after h.begun ∙ ap Some (parts_more ms (begun_on (scripted first intake)) intake.parts p ∙ ap (λ (s : Session). part ms s p) (sym h.session_is) ∙ sym k)
  where
    told : (ms : ℕ) (first : Machine) (i : Intake) → i.begun ≡ true → session_of ms first false i ≡ Some (parts ms (begun_on (scripted first i)) i.parts)
    told ms first i e = rw e refl

-- How a run stands by its session.

pub session_so_far : (ms : ℕ) (first : Machine) (intake : Intake) (hearing : HearingState) (count : ℕ) (session : Session) → InSession ms first intake hearing count session → session_of ms first false intake ≡ Some session
session_so_far ms first intake hearing count session h = rw h.begun (ap Some (sym h.session_is))

pub goes_on : (first : Machine) (bytes : List ℕ) (o : Outcome) (session : Session) → o.session ≡ Some session → session.fault ≡ None → is_too_long o bytes ≡ false → stop first false bytes o ≡ None
goes_on first bytes o session h e short = rw (short, h, e) refl

pub is_faulty : (first : Machine) (whole : Bool) (bytes : List ℕ) (o : Outcome) (session : Session) (why : RfbBad) → o.session ≡ Some session → session.fault ≡ Some why → is_too_long o bytes ≡ false → stop first whole bytes o ≡ Some (Faulty why)
is_faulty first whole bytes o session why h e short = rw (short, h, e) refl

-- After a fault nothing is looked at.
pub fault_stays : (ms : ℕ) (session : Session) (why : RfbBad) (p : List ℕ) → session.fault ≡ Some why → part ms session p ≡ session
fault_stays ms session why p e = rw e refl
