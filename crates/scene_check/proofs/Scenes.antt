-- The lines of a scene make its trees on a store as it is opened.
use Rattle.std.proofs.Common.{◌≡◌, ◌∙◌, refl, sym, ap, ap₂, ℕ, true, false, Bool, List, [], ◌∷◌, map, arith}
use Rattle.std.specs.Prelude.{Some, None, Ok, codes, pos, if◌then◌else◌}
use Rattle.std.specs.List.{list_all}
use Rattle.std.specs.Fmt.{digits}
use Rattle.std.specs.Str.{is_utf8}
use Rattle.std.specs.declared.option.Option.{Option}
use Rattle.std.specs.declared.result.Result.{Result}
use Rattle.gui_base.specs.Limits.{Bounds}
use Rattle.gui_base.specs.Refusing.{result_of}
use Rattle.gui_base.specs.declared.refusal.Refusal.{Refusal}
use Rattle.scene_defs.specs.declared.Change.{Change}
use Rattle.scene_defs.specs.Deeds.{is_in_range}
use Rattle.scene_defs.specs.Scene.{Scene, first_scene}
use Rattle.run_defs.specs.Script.{Said, parse, says, Whole}
use Rattle.serde_json.specs.Data.{Data}
use Rattle.serde_json.specs.Find.{get, as_array, as_object}
use Rattle.serde_json.specs.Read.{read}
use Rattle.line_texts.specs.Commands.{asks}
use Rattle.scene_json.specs.Scenes.{node_lines, first_nodes, has_one, scene, scene_in, scene_text, text_or}
use Rattle.scene_json.specs.Writing.{Writing, ◌>>=◌, nothing_written}
use Rattle.scene_json.proofs.Asking.{ranged}
use Rattle.scene_json.proofs.Scripts.{says_asked}
use Rattle.scene_check.specs.Checking.{refusal_of_all, changed_by_all}
use Rattle.scene_check.specs.Fitting.{only_full}
use Rattle.scene_check.specs.Integers.{are_short}
use Rattle.scene_check.specs.Made.{screen, on_screen}
use Rattle.scene_check.specs.Nodes.{tree_at, children_in, trees_of_scene, trees_of_value, trees_of}
use Rattle.scene_check.specs.Scenes.{AreOfScene, MakeTrees, ScenesAreMade, refusal_in, MakesScenes}
use Rattle.scene_check.specs.Trees.{making}
use Rattle.scene_check.proofs.Holding.{Or}
use Rattle.scene_check.proofs.Ids.{ids_say}
use Rattle.scene_check.proofs.Integers.{integers_are_short, short_array, some_below}
use Rattle.scene_check.proofs.Made.{trees_are_made}
use Rattle.scene_check.proofs.Owning.{Means}
use Rattle.scene_check.proofs.Planting.{Planted, PlantedOr, Plants, planted_list, planted_lines, same_handles}

-- Changes by what they ask for.

same_first : (a b : Said) (xs ys : List Said) → a ∷ xs ≡ b ∷ ys → a ≡ b
same_first a b xs ys e = cc

same_others : (a b : Said) (xs ys : List Said) → a ∷ xs ≡ b ∷ ys → xs ≡ ys
same_others a b xs ys e = cc

same_change : (c d : Change) → asks c ≡ asks d → c ≡ d
same_change c d e = cc

same_changes : (cs ds : List Change) → map asks cs ≡ map asks ds → cs ≡ ds
same_changes [] [] e = refl
same_changes [] (d ∷ ds) e = cc
same_changes (c ∷ cs) [] e = cc
same_changes (c ∷ cs) (d ∷ ds) e =
    let first = same_change c d (same_first (asks c) (asks d) (map asks cs) (map asks ds) e) in
    let others = same_changes cs ds (same_others (asks c) (asks d) (map asks cs) (map asks ds) e) in
    ap₂ (λ (x : Change) (xs : List Change). x ∷ xs) first others

all_ranged : (lines : List (List ℕ)) (changes : List Change) → map (λ line. parse line) lines ≡ map asks changes → list_all is_in_range changes ≡ true
all_ranged lines [] e = refl
all_ranged [] (c ∷ cs) e = cc
all_ranged (line ∷ lines) (c ∷ cs) e =
    let here = same_first (parse line) (asks c) (map (λ line. parse line) lines) (map asks cs) e in
    let later = same_others (parse line) (asks c) (map (λ line. parse line) lines) (map asks cs) e in
    rw ((ranged line c here).0) (all_ranged lines cs later)

-- The first screen.

screen_means : Means (codes "3") screen
unfolding digits
screen_means g says = same_handles (pos 3) g screen (ids_say.there (pos 3) g (omega arith) says) refl

first_planted : (d : Option Data) → Or are_short d → Plants screen 15 (children_in (tree_at 15) d) (first_nodes d)
first_planted None s ids w e = tt
first_planted (Some d) s ids w e =
    planted_list screen 15 (node_lines 15 (codes "3")) (tree_at 15) (planted_lines 15 (codes "3") screen screen_means refl) (as_array d) (short_array d s) ids w e

scene_planted : (d : Data) → are_short d ≡ true → PlantedOr screen [] 15 (trees_of_scene d) nothing_written (scene d)
unfolding scene
scene_planted d s = by (has_one (as_object d)) (first_planted (get (codes "children") d) (some_below (codes "children") d s) [] nothing_written refl) where
  by : (b : Bool) → PlantedOr screen [] 15 (trees_of_scene d) nothing_written (first_nodes (get (codes "children") d) nothing_written) →
      PlantedOr screen [] 15 (trees_of_scene d) nothing_written (if b then first_nodes (get (codes "children") d) nothing_written else None)
  by true g = g
  by false g = tt

value_planted : (d : Option Data) → Or are_short d → PlantedOr screen [] 15 (trees_of_value d) nothing_written (d >>= scene)
value_planted None s = tt
value_planted (Some d) s = scene_planted d s

short_value : (bytes : List ℕ) → Or are_short (read bytes)
short_value bytes = by (read bytes) refl where
  by : (o : Option Data) → read bytes ≡ o → Or are_short o
  by None e = tt
  by (Some d) e = integers_are_short.read bytes d e

in_planted : (bytes : List ℕ) → PlantedOr screen [] 15 (trees_of bytes) nothing_written (scene_in bytes)
unfolding scene_in
in_planted bytes = by (is_utf8 bytes) (value_planted (read bytes) (short_value bytes)) where
  by : (b : Bool) → PlantedOr screen [] 15 (trees_of bytes) nothing_written (read bytes >>= scene) → PlantedOr screen [] 15 (trees_of bytes) nothing_written (if b then read bytes >>= scene else None)
  by true g = g
  by false g = tt

-- Scenes.

same_text : (v : Writing) (text : List ℕ) → text_or (Some v) ≡ Ok text → v.text ≡ text
same_text v text e = cc

planted_text : (bytes text : List ℕ) → scene_text bytes ≡ Ok text → (v : Writing) × (Planted screen [] 15 (trees_of bytes) nothing_written v × (v.text ≡ text))
planted_text bytes text e = by (scene_in bytes) (in_planted bytes) e where
  by : (o : Option Writing) → PlantedOr screen [] 15 (trees_of bytes) nothing_written o → text_or o ≡ Ok text → (v : Writing) × (Planted screen [] 15 (trees_of bytes) nothing_written v × (v.text ≡ text))
  by None g e = cc
  by (Some v) g e = (v, (g, same_text v text e))

makes : (bytes : List ℕ) (changes : List Change) → AreOfScene bytes changes → MakeTrees bytes changes
makes bytes changes are =
    let t = planted_text bytes are.text are.is_text in
    let planted = t.1.0 in
    let lined = planted.lined in
    let says_these : says Whole are.text ≡ map asks (making screen planted.trees) =
    ap (says Whole) (sym t.1.1 ∙ lined.text) ∙ says_asked lined.lines (making screen planted.trees) lined.asked in
    record {
      trees = planted.trees;
      changes_are = same_changes changes (making screen planted.trees) (sym are.asked ∙ says_these);
      may_stand = record {
        low = planted.low;
        wanted = planted.wanted;
        in_range = all_ranged lined.lines (making screen planted.trees) lined.asked;
        differ = planted.differ;
      };
      trees_are = planted.stands;
    }

fit : (limits : Bounds) (bytes : List ℕ) (changes : List Change) → AreOfScene bytes changes → only_full (refusal_of_all (first_scene limits) changes) ≡ true
fit limits bytes changes are =
    let m = makes bytes changes are in
    ap (λ (cs : List Change). only_full (refusal_of_all (first_scene limits) cs)) m.changes_are ∙ trees_are_made.fits limits m.trees m.may_stand

made : (limits : Bounds) (bytes : List ℕ) (changes : List Change) → AreOfScene bytes changes → refusal_of_all (first_scene limits) changes ≡ None →
    on_screen (changed_by_all (first_scene limits) changes) ≡ trees_of bytes
made limits bytes changes are none =
    let m = makes bytes changes are in
    let all : refusal_of_all (first_scene limits) (making screen m.trees) ≡ None = ap (λ (cs : List Change). refusal_of_all (first_scene limits) cs) (sym m.changes_are) ∙ none in
    ap (λ (cs : List Change). on_screen (changed_by_all (first_scene limits) cs)) m.changes_are ∙ trees_are_made.made limits m.trees m.may_stand all ∙ m.trees_are

pub scenes_are_made : ScenesAreMade
scenes_are_made = record { makes = makes; fits = fit; made = made }

-- What is answered.

result_read : (o : Option Refusal) → refusal_in (result_of o) ≡ o
result_read None = refl
result_read (Some refusal) = refl

none_by_ok : (o : Option Refusal) → result_of o ≡ Ok tt → o ≡ None
none_by_ok None e = refl
none_by_ok (Some refusal) e = cc

pub makes_scenes : (before : Scene) (changes : List Change) (answer : Result (Unit {0}) Refusal) (after : Scene) →
    answer ≡ result_of (refusal_of_all before changes) → after ≡ changed_by_all before changes → MakesScenes before changes answer after
makes_scenes before changes answer after e f = record {
  full = λ limits bytes opened are.
      ap (λ (r : Result (Unit {0}) Refusal). only_full (refusal_in r)) e
      ∙ ap only_full (result_read (refusal_of_all before changes))
      ∙ ap (λ (s : Scene). only_full (refusal_of_all s changes)) opened
      ∙ fit limits bytes changes are;
  made = λ limits bytes opened are done.
      let none = none_by_ok (refusal_of_all before changes) (sym e ∙ done) in
      ap on_screen f
      ∙ ap (λ (s : Scene). on_screen (changed_by_all s changes)) opened
      ∙ made limits bytes changes are (ap (λ (s : Scene). refusal_of_all s changes) (sym opened) ∙ none);
}
