-- A line that asks for a change asks for the one that its words say as fields.
use Rattle.std.proofs.Common.{◌≡◌, refl, [], ◌∷◌}
use Rattle.std.specs.Prelude.{Some, None, Ok, Err}
use Rattle.std.specs.declared.option.Option.{Option}
use Rattle.gui_base.specs.Names.{named}
use Rattle.run_defs.specs.declared.Command.TheVariants as ask
use Rattle.run_defs.specs.declared.Line.{Line}
use Rattle.run_defs.specs.declared.Line.TheVariants.{Make}
use Rattle.run_defs.specs.declared.LineFault.{LineFault}
use Rattle.run_defs.specs.Commands.{command_says, change_line, new_handle, handle, kind, coordinate, extent, flag, switch, text, selector, property, value_for}
use Rattle.run_defs.specs.Fields.{Field, value, past, start, fields, ◌▹◌, with_two, ended, ended_by, with_fault, value_or}
use Rattle.run_defs.specs.Language.{Word, Reading}
use Rattle.scene_defs.specs.declared.Change.{Change}
use Rattle.scene_defs.specs.declared.Change.TheVariants as change
use Rattle.line_texts.specs.Commands.{asks}
use Rattle.scene_check.specs.Fielded.{MadeOfThree, MadeOfTwo, MadeOfFour, LinesAreFielded}

-- the change is known from what is said
same_change : (c d : Change) → asks c ≡ asks d → d ≡ c
same_change c d e = cc

no_fault : (fault : Option LineFault) (line : Line) (c : Change) → ended_by [] fault line ≡ asks c → fault ≡ None
no_fault None line c e = refl
no_fault (Some fault) line c e = cc

module _ {A B C : Type 0} (first : Field A) (second : Field B) (third : Field C) (make : A → B → C → Change) (u v w : Word) (asked : Change) where
  three_by : (x : Reading A) (y : Reading B) (z : Reading C) → first.says u ≡ x → second.says v ≡ y → third.says w ≡ z →
      ended_by [] (with_fault (with_fault (with_fault None x) y) z) (Make (ask.Change (make (value_or first.stand_in x) (value_or second.stand_in y) (value_or third.stand_in z)))) ≡ asks asked →
      MadeOfThree first second third make u v w asked
  three_by (Ok a) (Ok b) (Ok c) e1 e2 e3 e = record { a = a; b = b; c = c; says_a = e1; says_b = e2; says_c = e3; is = same_change (make a b c) asked e }
  three_by (Ok a) (Ok b) (Err f) e1 e2 e3 e = cc
  three_by (Ok a) (Err f) (Ok c) e1 e2 e3 e = cc
  three_by (Ok a) (Err f) (Err g) e1 e2 e3 e = cc
  three_by (Err f) (Ok b) (Ok c) e1 e2 e3 e = cc
  three_by (Err f) (Ok b) (Err g) e1 e2 e3 e = cc
  three_by (Err f) (Err g) (Ok c) e1 e2 e3 e = cc
  three_by (Err f) (Err g) (Err h) e1 e2 e3 e = cc

  three_fields : ended (change_line (fields make (start (u ∷ v ∷ w ∷ [])) ▹ first ▹ second ▹ third)) ≡ asks asked → MadeOfThree first second third make u v w asked
  unfolding value past
  three_fields e = three_by (first.says u) (second.says v) (third.says w) refl refl refl e

module _ {A B : Type 0} (first : Field A) (second : Field B) (make : A → B → Change) (u v : Word) (asked : Change) where
  two_by : (x : Reading A) (y : Reading B) → first.says u ≡ x → second.says v ≡ y →
      ended_by [] (with_fault (with_fault None x) y) (Make (ask.Change (make (value_or first.stand_in x) (value_or second.stand_in y)))) ≡ asks asked →
      MadeOfTwo first second make u v asked
  two_by (Ok a) (Ok b) e1 e2 e = record { a = a; b = b; says_a = e1; says_b = e2; is = same_change (make a b) asked e }
  two_by (Ok a) (Err f) e1 e2 e = cc
  two_by (Err f) (Ok b) e1 e2 e = cc
  two_by (Err f) (Err g) e1 e2 e = cc

  two_fields : ended (change_line (fields make (start (u ∷ v ∷ [])) ▹ first ▹ second)) ≡ asks asked → MadeOfTwo first second make u v asked
  unfolding value past
  two_fields e = two_by (first.says u) (second.says v) refl refl e

module _ {A B C D : Type 0} (first : Field A) (second : Field B) (third : Field C) (fourth : C → Field D) (make : A → B → C → D → Change) (u v w q : Word) (asked : Change) where
  four_by : (x : Reading A) (y : Reading B) (z : Reading C) (t : Reading D) → first.says u ≡ x → second.says v ≡ y → third.says w ≡ z → (fourth (value_or third.stand_in z)).says q ≡ t →
      ended_by [] (with_fault (with_fault (with_fault (with_fault None x) y) z) t)
      (Make (ask.Change (make (value_or first.stand_in x) (value_or second.stand_in y) (value_or third.stand_in z) (value_or ((fourth (value_or third.stand_in z)).stand_in) t)))) ≡ asks asked →
      MadeOfFour first second third fourth make u v w q asked
  four_by (Ok a) (Ok b) (Ok c) (Ok d) e1 e2 e3 e4 e =
      record { a = a; b = b; c = c; d = d; says_a = e1; says_b = e2; says_c = e3; says_d = e4; is = same_change (make a b c d) asked e }
  four_by (Ok a) (Ok b) (Ok c) (Err fd) e1 e2 e3 e4 e = cc
  four_by (Ok a) (Ok b) (Err fc) (Ok d) e1 e2 e3 e4 e = cc
  four_by (Ok a) (Ok b) (Err fc) (Err fd) e1 e2 e3 e4 e = cc
  four_by (Ok a) (Err fb) (Ok c) (Ok d) e1 e2 e3 e4 e = cc
  four_by (Ok a) (Err fb) (Ok c) (Err fd) e1 e2 e3 e4 e = cc
  four_by (Ok a) (Err fb) (Err fc) (Ok d) e1 e2 e3 e4 e = cc
  four_by (Ok a) (Err fb) (Err fc) (Err fd) e1 e2 e3 e4 e = cc
  four_by (Err fa) (Ok b) (Ok c) (Ok d) e1 e2 e3 e4 e = cc
  four_by (Err fa) (Ok b) (Ok c) (Err fd) e1 e2 e3 e4 e = cc
  four_by (Err fa) (Ok b) (Err fc) (Ok d) e1 e2 e3 e4 e = cc
  four_by (Err fa) (Ok b) (Err fc) (Err fd) e1 e2 e3 e4 e = cc
  four_by (Err fa) (Err fb) (Ok c) (Ok d) e1 e2 e3 e4 e = cc
  four_by (Err fa) (Err fb) (Ok c) (Err fd) e1 e2 e3 e4 e = cc
  four_by (Err fa) (Err fb) (Err fc) (Ok d) e1 e2 e3 e4 e = cc
  four_by (Err fa) (Err fb) (Err fc) (Err fd) e1 e2 e3 e4 e = cc

  four_fields : ended (change_line (with_two (fields make (start (u ∷ v ∷ w ∷ q ∷ [])) ▹ first ▹ second) third fourth)) ≡ asks asked → MadeOfFour first second third fourth make u v w q asked
  unfolding value past
  four_fields e = four_by (first.says u) (second.says v) (third.says w) ((fourth (value_or third.stand_in (third.says w))).says q) refl refl refl refl e

pub lines_are_fielded : LinesAreFielded
unfolding command_says named
lines_are_fielded = record {
  new = λ i p k asked e. three_fields new_handle handle kind change.New i p k asked e;
  size = λ i w h asked e. three_fields handle extent extent change.Size i w h asked e;
  place = λ i x y asked e. three_fields handle coordinate coordinate change.Pos i x y asked e;
  flag = λ i f s asked e. three_fields handle flag switch change.Flag i f s asked e;
  text = λ i t asked e. two_fields handle text change.Text i t asked e;
  local = λ i s p v asked e. four_fields handle selector property value_for change.Local i s p v asked e;
}
