-- The line that names the children of an object.
use Rattle.std.proofs.Common.{◌≡◌, ◌∙◌, sym, ap, subst, ℕ, Bool, true, if◌then◌else◌, List, ◌++◌, append_assoc, codes, decimal, flat_map, Some, Result, OnOk, OnErr, Ok, Err}
use Rattle.gui_base.specs.Forest.{Forest, Empty, children_of, roots}
use Rattle.gui_base.specs.declared.Handle.{Handle}
use Rattle.gui_tree.specs.Walks.{Walk, IsVisit}
use Rattle.run_defs.specs.Machine.{Machine}
use Rattle.scene_defs.specs.Scene.{handles_of, is_there}
use Rattle.scene_script.specs.declared.questions.Question.TheVariants.{Children}
use Rattle.scene_ask.specs.Asking.{count, children_say, answer_line}

joined : (test : Bool) (n words names none end head : List ℕ) → test ≡ true → head ≡ n ++ words → head ++ (names ++ end) ≡ (n ++ (words ++ (if test then names else none))) ++ end
joined test n words names none end head there is = rw (there, is) (sym (append_assoc (n ++ words) names end) ∙ ap (λ (t : List ℕ). t ++ end) (append_assoc n words names))

-- its head, and then all names
pub names_first : (number : ℕ) (machine : Machine) (pending : ℕ) (h : Handle) (forest : Forest ℕ) (head : List ℕ) → is_there machine.scene h.0 ≡ true → forest ≡ handles_of machine.scene.trees → head ≡ decimal number ++ codes " children" →
    head ++ (flat_map count (roots (children_of forest h.0)) ++ codes "\n") ≡ answer_line number machine pending (Some (Children h))
names_first number machine pending h forest head there same is =
    rw same (joined (is_there machine.scene h.0) (decimal number) (codes " children") (children_say machine.scene h.0) (codes " none") (codes "\n") head there is)

-- one name more
pub names_more : (w v : Walk) (h : ℕ) (bytes rest all : List ℕ) → IsVisit w h v → bytes ++ (flat_map count (roots w.left) ++ rest) ≡ all → (bytes ++ count h) ++ (flat_map count (roots v.left) ++ rest) ≡ all
names_more w v h bytes rest all visit is =
    append_assoc bytes (count h) _
    ∙ ap (λ (t : List ℕ). bytes ++ t) (sym (append_assoc (count h) (flat_map count (roots v.left)) rest))
    ∙ ap (λ (f : Forest ℕ). bytes ++ (flat_map count (roots f) ++ rest)) (sym visit.left)
    ∙ is

-- and no name more
pub names_last : (f : Forest ℕ) (bytes rest all : List ℕ) → f ≡ Empty → bytes ++ (flat_map count (roots f) ++ rest) ≡ all → bytes ++ rest ≡ all
names_last f bytes rest all none is = subst (λ (g : Forest ℕ). bytes ++ (flat_map count (roots g) ++ rest) ≡ all) none is

-- what follows of a result
pub ok_then : {T E P Q : Type 0} (r : Result T E) → (P → Q) → OnOk r P → OnOk r Q
ok_then (Ok x) f p = f p
ok_then (Err e) f p = tt

pub err_then : {T E P Q : Type 0} (r : Result T E) → (P → Q) → OnErr r P → OnErr r Q
err_then (Ok x) f p = tt
err_then (Err e) f p = f p
