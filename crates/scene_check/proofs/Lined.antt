-- What the lines ask for that are added to what is written of a scene.
use Rattle.std.proofs.Common.{◌≡◌, ◌∙◌, refl, sym, ap, ap₂, ℕ, ◌≤◌, true, false, Bool, List, [], ◌∷◌, ◌++◌, append_assoc, map, length, arith}
use Rattle.std.specs.Prelude.{Some, None, Err, nat_lt, if◌then◌else◌}
use Rattle.std.specs.declared.option.Option.{Option}
use Rattle.std.proofs.lemmas.Bool.Decides.{nat_tests}
use Rattle.std.proofs.lemmas.Grind.{flat_map-append}
use Rattle.std.proofs.lemmas.List.{map-append, append-nil}
use Rattle.run_defs.specs.Commands.{command_says}
use Rattle.run_defs.specs.Language.{Word}
use Rattle.run_defs.specs.Script.{Said, parse, line_says, max_line}
use Rattle.run_defs.specs.declared.LineFault.TheVariants.{Long}
use Rattle.scene_defs.specs.declared.Change.{Change}
use Rattle.line_texts.specs.LineTexts.{line_text, ended_lines, is_name, are_words}
use Rattle.line_texts.specs.Commands.{asks}
use Rattle.line_texts.proofs.Words.{words_say_so}
use Rattle.scene_json.specs.Writing.{Writing, says_some, put, put_line}
use Rattle.scene_json.proofs.Asking.{Fits}

-- the lines that were added, which ask for these changes
pub record Lined (w v : Writing) (changes : List Change) : Type 0 where
  pub lines : List (List ℕ)
  pub text : v.text ≡ w.text ++ ended_lines lines
  pub asked : map (λ line. parse line) lines ≡ map asks changes

pub lined_none : (w v : Writing) → v.text ≡ w.text → Lined w v []
lined_none w v e = record { lines = []; text = e ∙ sym (append-nil w.text); asked = refl }

pub lined_one : (w v : Writing) (line : List ℕ) (change : Change) → v.text ≡ w.text ++ line ++ 10 ∷ [] → parse line ≡ asks change → Lined w v (change ∷ [])
lined_one w v line change e f = record {
  lines = line ∷ [];
  text =
      e ∙ append_assoc w.text line (10 ∷ [])
      ∙ ap (λ (xs : List ℕ). w.text ++ xs) (sym (append_assoc line (10 ∷ []) []));
  asked = ap (λ (said : Said). said ∷ []) f;
}

pub lined_more : (w v u : Writing) (xs ys : List Change) → Lined w v xs → Lined v u ys → Lined w u (xs ++ ys)
lined_more w v u xs ys g h = record {
  lines = g.lines ++ h.lines;
  text =
      h.text ∙ ap (λ (t : List ℕ). t ++ ended_lines h.lines) g.text
      ∙ append_assoc w.text (ended_lines g.lines) (ended_lines h.lines)
      ∙ ap (λ (t : List ℕ). w.text ++ t) (sym (flat_map-append (λ (line : List ℕ). line ++ 10 ∷ []) g.lines h.lines));
  asked =
      map-append (λ (line : List ℕ). parse line) g.lines h.lines
      ∙ ap₂ (λ (here later : List Said). here ++ later) g.asked h.asked
      ∙ sym (map-append asks xs ys);
}

pub lined_after : (w v u : Writing) (changes : List Change) → v.text ≡ w.text → Lined v u changes → Lined w u changes
lined_after w v u changes e h = record { lines = h.lines; text = h.text ∙ ap (λ (t : List ℕ). t ++ ended_lines h.lines) e; asked = h.asked }

-- A line of words.

-- what one line of these words adds, where it is one of the language
pub record Put (name : Word) (words : List Word) (w v : Writing) : Type 0 where
  pub change : Change
  pub said : command_says name words ≡ asks change
  pub lined : Lined w v (change ∷ [])
  pub ids : v.ids ≡ w.ids

abbrev pub PutOr : Word → List Word → Writing → Option Writing → Type 0
PutOr name words w None = Unit {0}
PutOr name words w (Some v) = Put name words w v

not_long : (b : Bool) (said : Said) → says_some (if b then Err Long else said) ≡ true → b ≡ false
not_long true said e = cc
not_long false said e = refl

within : (n : ℕ) → nat_lt max_line n ≡ false → n ≤ max_line
within n e = grind (arith, nat_tests, e)

pub put_or : (name : Word) (words : List Word) (w : Writing) → Fits (command_says name words) → is_name name ≡ true → are_words words ≡ true → PutOr name words w (put_line name words w)
unfolding put
put_or name words w fits h k = by (says_some (parse (line_text name words))) refl where
  put_one : says_some (parse (line_text name words)) ≡ true → Put name words w (record w { text = w.text ++ line_text name words ++ 10 ∷ [] })
  put_one e =
      let line = line_text name words in
      let short : length line ≤ max_line = within (length line) (not_long (nat_lt max_line (length line)) (line_says line) e) in
      let same : parse line ≡ command_says name words = words_say_so name words h k short in
      let t = fits (ap (λ (said : Said). says_some said) (sym same) ∙ e) in
      record {
        change = t.0;
        said = t.1.0;
        lined = lined_one w (record w { text = w.text ++ line ++ 10 ∷ [] }) line t.0 refl (same ∙ t.1.0);
        ids = refl;
      }

  by : (b : Bool) → says_some (parse (line_text name words)) ≡ b → PutOr name words w (if b then Some (record w { text = w.text ++ line_text name words ++ 10 ∷ [] }) else None)
  by true e = put_one e
  by false e = tt
