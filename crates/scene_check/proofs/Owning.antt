-- What a node says of itself sets what is its own.
use Rattle.std.proofs.Common.{◌≡◌, ◌∙◌, refl, sym, ap, subst, ℕ, ℤ, true, false, not, Bool, ◌&&◌, ◌||◌, List, [], ◌∷◌, ◌++◌, arith}
use Rattle.std.specs.Prelude.{Some, None, Ok, codes, pos, ◌==◌, if◌then◌else◌}
use Rattle.std.specs.List.{list_all}
use Rattle.std.specs.Ordering.{int_eq}
use Rattle.std.specs.declared.option.Option.{Option}
use Rattle.std.proofs.lemmas.Bool.Decides.{nat_tests}
use Rattle.std.proofs.lemmas.Slice.Eq.{bytes_eq-Decides}
use Rattle.gui_base.specs.Words.{same_prop}
use Rattle.gui_base.specs.declared.Handle.{Handle}
use Rattle.gui_base.specs.declared.props.Prop.{Prop}
use Rattle.gui_base.specs.declared.props.Prop.TheVariants as prop
use Rattle.gui_base.specs.declared.words.Kind.{Kind}
use Rattle.run_defs.specs.Commands.{command_says, handle, kind, property, value_for}
use Rattle.run_defs.specs.Fields.{or_syntax}
use Rattle.run_defs.specs.Language.{Word}
use Rattle.scene_defs.specs.declared.Change.{Change}
use Rattle.scene_defs.specs.declared.Change.TheVariants as change
use Rattle.scene_defs.specs.Row.{has_text as kind_has_text}
use Rattle.serde_json.specs.Data.{Data, Items, no_items, item, Members, no_members, member}
use Rattle.serde_json.specs.Find.{get, as_str, as_array, as_object}
use Rattle.line_texts.specs.Commands.{Says, asks}
use Rattle.line_texts.specs.LineTexts.{is_plain, is_name, are_words}
use Rattle.line_texts.specs.Quoting.{quoted, is_in_text}
use Rattle.line_texts.proofs.Plain.{prints_words}
use Rattle.scene_json.specs.Scenes.{two, put_two, put_pair, size_line, pos_line, put_flag, flag_lines, has_text, put_text, text_line, put_value, put_prop, prop_lines, local_lines, own_lines}
use Rattle.scene_json.specs.Words.{extent_word, number_word, string_word, value_word, font_word, is_zero, prop_named, is_selector, that}
use Rattle.scene_json.specs.Writing.{Writing, ◌>>=◌, put_line, each, each_member, in_list, in_object, if_there}
use Rattle.scene_json.proofs.Asking.{Fits, size_fits, pos_fits, flag_fits, text_fits, local_fits}
use Rattle.scene_check.specs.Integers.{are_short, items_short, members_short}
use Rattle.scene_check.specs.Trees.{is_own}
use Rattle.scene_check.proofs.Fielded.{lines_are_fielded}
use Rattle.scene_check.proofs.Holding.{both_hold, Or}
use Rattle.scene_check.proofs.Integers.{short_array, short_object, some_below}
use Rattle.scene_check.proofs.Lined.{Lined, lined_none, lined_more, PutOr, put_or}
use Rattle.scene_check.proofs.Own.{own_words_say}
use Rattle.scene_check.proofs.PlainWords.{PlainOr, plain_prop, plain_selector, plain_number, plain_string, plain_extent, plain_value}

-- a word says no handle but this
abbrev pub Means : Word → Handle → Type 0
Means word h = (g : Handle) → Says handle word g → g ≡ h

-- what was added sets what is the own of h, of this kind
pub record Own (h : Handle) (which : Kind) (w v : Writing) : Type 0 where
  pub changes : List Change
  pub lined : Lined w v changes
  pub ids : v.ids ≡ w.ids
  pub own : list_all (is_own h.0 which) changes ≡ true

abbrev pub OwnOr : Handle → Kind → Writing → Option Writing → Type 0
OwnOr h which w None = Unit {0}
OwnOr h which w (Some v) = Own h which w v

abbrev pub Owns : Handle → Kind → (Writing → Option Writing) → Type 0
Owns h which f = (w : Writing) → OwnOr h which w (f w)

both_all : (p : Change → Bool) (xs ys : List Change) → list_all p xs ≡ true → list_all p ys ≡ true → list_all p (xs ++ ys) ≡ true
both_all p [] ys h k = k
both_all p (x ∷ xs) ys h k = let two = both_hold (p x) (list_all p xs) h in rw (two.0) (both_all p xs ys two.1 k)

same_number : (n : ℕ) → (n == n) ≡ true
same_number n = grind (arith, nat_tests)

same_handle : (g h : Handle) → g ≡ h → (g.0 == h.0) ≡ true
same_handle g h e = ap (λ (k : Handle). k.0 == h.0) e ∙ same_number h.0

all_three : (a b c : Bool) → a ≡ true → b ≡ true → c ≡ true → (a && (b && c)) ≡ true
all_three true true true e f g = refl
all_three true true false e f g = g
all_three true false c e f g = f
all_three false b c e f g = e

-- How parts are put together.

module _ (h : Handle) (which : Kind) where
  own_none : (w : Writing) → Own h which w w
  own_none w = record { changes = []; lined = lined_none w w refl; ids = refl; own = refl }

  own_more : (w v u : Writing) → Own h which w v → Own h which v u → Own h which w u
  own_more w v u g k = record {
    changes = g.changes ++ k.changes;
    lined = lined_more w v u g.changes k.changes g.lined k.lined;
    ids = k.ids ∙ g.ids;
    own = both_all (is_own h.0 which) g.changes k.changes g.own k.own;
  }

  own_after : (w v : Writing) (o : Option Writing) → Own h which w v → OwnOr h which v o → OwnOr h which w o
  own_after w v None g k = tt
  own_after w v (Some u) g k = own_more w v u g k

  own_both : (w : Writing) (o : Option Writing) (f : Writing → Option Writing) → OwnOr h which w o → Owns h which f → OwnOr h which w (o >>= f)
  own_both w None f g k = tt
  own_both w (Some v) f g k = own_after w v (f v) g (k v)

  own_if : (b : Bool) (w : Writing) (o : Option Writing) → (b ≡ true → OwnOr h which w o) → OwnOr h which w (if b then o else None)
  own_if true w o k = k refl
  own_if false w o k = tt

  own_each : (f : Data → Writing → Option Writing) → ((d : Data) → are_short d ≡ true → Owns h which (f d)) → (ds : Items) → items_short ds ≡ true → Owns h which (each f ds)
  own_each f k no_items s w = own_none w
  own_each f k (item d ds) s w =
      let two = both_hold (are_short d) (items_short ds) s in
      own_both w (f d w) (each f ds) (k d two.0 w) (own_each f k ds two.1)

  own_list : (f : Data → Writing → Option Writing) → ((d : Data) → are_short d ≡ true → Owns h which (f d)) → (ds : Option Items) → Or items_short ds → Owns h which (in_list f ds)
  own_list f k None s w = tt
  own_list f k (Some ds) s w = own_each f k ds s w

  own_members : (f : Word → Data → Writing → Option Writing) → ((key : Word) (d : Data) → are_short d ≡ true → Owns h which (f key d)) → (ms : Members) → members_short ms ≡ true → Owns h which (each_member f ms)
  own_members f k no_members s w = own_none w
  own_members f k (member key d ms) s w =
      let two = both_hold (are_short d) (members_short ms) s in
      own_both w (f key d w) (each_member f ms) (k key d two.0 w) (own_members f k ms two.1)

  own_object : (f : Word → Data → Writing → Option Writing) → ((key : Word) (d : Data) → are_short d ≡ true → Owns h which (f key d)) → (ms : Option Members) → Or members_short ms → Owns h which (in_object f ms)
  own_object f k None s w = tt
  own_object f k (Some ms) s w = own_members f k ms s w

  own_there : (o : Option Data) (f : Data → Writing → Option Writing) → Or are_short o → ((d : Data) → are_short d ≡ true → Owns h which (f d)) → Owns h which (if_there o f)
  own_there None f s k w = own_none w
  own_there (Some d) f s k w = k d s w

  -- one line
  own_put : (name : Word) (words : List Word) (w : Writing) (o : Option Writing) → ((asked : Change) → command_says name words ≡ asks asked → is_own h.0 which asked ≡ true) → PutOr name words w o → OwnOr h which w o
  own_put name words w None k p = tt
  own_put name words w (Some v) k p = record { changes = p.change ∷ []; lined = p.lined; ids = p.ids; own = rw (k p.change p.said) refl }

  own_line : (name : Word) (words : List Word) → Fits (command_says name words) → is_name name ≡ true → are_words words ≡ true → ((asked : Change) → command_says name words ≡ asks asked → is_own h.0 which asked ≡ true) → Owns h which (put_line name words)
  own_line name words fits n a k w = own_put name words w (put_line name words w) k (put_or name words w fits n a)

-- Texts, and fonts.

text_words : (id : Word) (text : List ℕ) → is_plain id ≡ true → list_all is_in_text text ≡ true → are_words (id ∷ quoted text ∷ []) ≡ true
text_words id text p k = rw (p, prints_words.text text k) refl

same_property : (name : Word) (p q : Prop) → prop_named name ≡ Some p → Says property name q → q ≡ p
unfolding prop_named property
same_property name p q e f = same p q (ap (λ (o : Option Prop). or_syntax o) (sym e) ∙ f) where
  same : (p q : Prop) → or_syntax (Some p) ≡ Ok q → q ≡ p
  same p q e = cc

-- the font that a line names is the built-in one
zero_word : (o : Option Word) (word : Word) → that is_zero o ≡ Some word → word ≡ codes "0"
zero_word None word e = cc
zero_word (Some v) word e = by (is_zero v) refl e where
  same : (v word : Word) → Some v ≡ Some word → v ≡ word
  same v word e = cc

  by : (b : Bool) → is_zero v ≡ b → (if b then Some v else None) ≡ Some word → word ≡ codes "0"
  by true is e = sym (same v word e) ∙ (bytes_eq-Decides v (codes "0")).0 is
  by false is e = cc

font_zero : (d : Data) (word : Word) (n : ℤ) → font_word d ≡ Some word → Says (value_for prop.TextFont) word n → int_eq n (pos 0) ≡ true
font_zero d word n e f =
    let none = own_words_say.font n (subst (λ (w : Word). Says (value_for prop.TextFont) w n) (zero_word (number_word d) word e) f) in
    ap (λ (m : ℤ). int_eq m (pos 0)) none

own_font : (p : Prop) (d : Data) (word : Word) (n : ℤ) → value_word p d ≡ Some word → Says (value_for p) word n → (not (same_prop p prop.TextFont) || int_eq n (pos 0)) ≡ true
own_font prop.TextFont d word n e f = rw (font_zero d word n e f) refl
own_font p d word n e f = refl

-- Values of lists of two.

abbrev TwoShort : Option (Data × Data) → Type 0
TwoShort None = Unit {0}
TwoShort (Some t) = (are_short t.0 ≡ true) × (are_short t.1 ≡ true)

two_short : (ds : Option Items) → Or items_short ds → TwoShort (two ds)
two_short None s = tt
two_short (Some no_items) s = tt
two_short (Some (item a no_items)) s = tt
two_short (Some (item a (item b no_items))) s =
    let first = both_hold (are_short a) (are_short b && true) s in
    (first.0, (both_hold (are_short b) true first.1).0)
two_short (Some (item a (item b (item c ds)))) s = tt

-- What is its own, part by part.

module _ (id : Word) (h : Handle) (which : Kind) (means : Means id h) (plain : is_plain id ≡ true) where
  size_is_own : (a b : Word) (asked : Change) → command_says (codes "size") (id ∷ a ∷ b ∷ []) ≡ asks asked → is_own h.0 which asked ≡ true
  size_is_own a b asked e =
      let m = lines_are_fielded.size id a b asked e in
      ap (is_own h.0 which) m.is ∙ same_handle m.a h (means m.a m.says_a)

  pos_is_own : (a b : Word) (asked : Change) → command_says (codes "pos") (id ∷ a ∷ b ∷ []) ≡ asks asked → is_own h.0 which asked ≡ true
  pos_is_own a b asked e =
      let m = lines_are_fielded.place id a b asked e in
      ap (is_own h.0 which) m.is ∙ same_handle m.a h (means m.a m.says_a)

  flag_is_own : (a b : Word) (asked : Change) → command_says (codes "flag") (id ∷ a ∷ b ∷ []) ≡ asks asked → is_own h.0 which asked ≡ true
  flag_is_own a b asked e =
      let m = lines_are_fielded.flag id a b asked e in
      ap (is_own h.0 which) m.is ∙ same_handle m.a h (means m.a m.says_a)

  text_is_own : (a : Word) (asked : Change) → kind_has_text which ≡ true → command_says (codes "text") (id ∷ a ∷ []) ≡ asks asked → is_own h.0 which asked ≡ true
  text_is_own a asked t e =
      let m = lines_are_fielded.text id a asked e in
      ap (is_own h.0 which) m.is ∙ rw (same_handle m.a h (means m.a m.says_a), t) refl

  local_is_own : (s name value : Word) (p : Prop) (d : Data) (asked : Change) → prop_named name ≡ Some p → value_word p d ≡ Some value → command_says (codes "local") (id ∷ s ∷ name ∷ value ∷ []) ≡ asks asked → is_own h.0 which asked ≡ true
  local_is_own s name value p d asked named valued e =
      let m = lines_are_fielded.local id s name value asked e in
      let same : m.c ≡ p = same_property name p m.c named m.says_c in
      let says : Says (value_for p) value m.d = subst (λ (q : Prop). Says (value_for q) value m.d) same m.says_d in
      let font : (not (same_prop m.c prop.TextFont) || int_eq m.d (pos 0)) ≡ true =
      subst (λ (q : Prop). (not (same_prop q prop.TextFont) || int_eq m.d (pos 0)) ≡ true) (sym same) (own_font p d value m.d valued says) in
      ap (is_own h.0 which) m.is ∙ rw (same_handle m.a h (means m.a m.says_a)) font

  three_words : (a b : Word) → is_plain a ≡ true → is_plain b ≡ true → are_words (id ∷ a ∷ b ∷ []) ≡ true
  three_words a b k l = rw (plain, k, l) refl

  own_two : (name : Word) → is_name name ≡ true → ((words : List Word) → Fits (command_says name words)) →
      ((a b : Word) (asked : Change) → command_says name (id ∷ a ∷ b ∷ []) ≡ asks asked → is_own h.0 which asked ≡ true) →
      (a b : Option Word) → PlainOr a → PlainOr b → Owns h which (put_two name id a b)
  own_two name n fits k None None p q w = tt
  own_two name n fits k None (Some b) p q w = tt
  own_two name n fits k (Some a) None p q w = tt
  own_two name n fits k (Some a) (Some b) p q w = own_line h which name (id ∷ a ∷ b ∷ []) (fits (id ∷ a ∷ b ∷ [])) n (three_words a b p q) (k a b) w

  own_pair : (name : Word) → is_name name ≡ true → ((words : List Word) → Fits (command_says name words)) →
      ((a b : Word) (asked : Change) → command_says name (id ∷ a ∷ b ∷ []) ≡ asks asked → is_own h.0 which asked ≡ true) →
      (word : Data → Option Word) → ((d : Data) → are_short d ≡ true → PlainOr (word d)) →
      (t : Option (Data × Data)) → TwoShort t → Owns h which (put_pair name id word t)
  own_pair name n fits k word plains None s w = tt
  own_pair name n fits k word plains (Some t) s w = own_two name n fits k (word t.0) (word t.1) (plains t.0 s.0) (plains t.1 s.1) w

  own_size : (d : Data) → are_short d ≡ true → Owns h which (size_line id d)
  own_size d s = own_pair (codes "size") refl size_fits size_is_own extent_word plain_extent (two (as_array d)) (two_short (as_array d) (short_array d s))

  own_pos : (d : Data) → are_short d ≡ true → Owns h which (pos_line id d)
  own_pos d s = own_pair (codes "pos") refl pos_fits pos_is_own number_word plain_number (two (as_array d)) (two_short (as_array d) (short_array d s))

  own_flag : (flag : Option Word) → PlainOr flag → Owns h which (put_flag id flag)
  own_flag None p w = tt
  own_flag (Some flag) p w = own_line h which (codes "flag") (id ∷ flag ∷ codes "on" ∷ []) (flag_fits (id ∷ flag ∷ codes "on" ∷ [])) refl (three_words flag (codes "on") p refl) (flag_is_own flag (codes "on")) w

  own_flags : (d : Data) → are_short d ≡ true → Owns h which (flag_lines id d)
  own_flags d s = own_list h which (λ flag. put_flag id (string_word flag)) (λ flag t. own_flag (string_word flag) (plain_string flag)) (as_array d) (short_array d s)

  own_string : (text : Option (List ℕ)) → kind_has_text which ≡ true → Owns h which (put_text id text)
  own_string None t w = tt
  own_string (Some text) t w =
      own_if h which (list_all is_in_text text) w (put_line (codes "text") (id ∷ quoted text ∷ []) w)
      (λ k. own_line h which (codes "text") (id ∷ quoted text ∷ []) (text_fits (id ∷ quoted text ∷ [])) refl (text_words id text plain k) (λ asked. text_is_own (quoted text) asked t) w)

  own_text : (word : Word) → Says kind word which → (d : Data) → Owns h which (text_line id word d)
  own_text word says d w = own_if h which (has_text word) w (put_text id (as_str d) w) (λ t. own_string (as_str d) (own_words_say.text word which says t) w)

  local_words : (s name value : Word) → is_plain s ≡ true → is_plain name ≡ true → is_plain value ≡ true → are_words (id ∷ s ∷ name ∷ value ∷ []) ≡ true
  local_words s name value k l m = rw (plain, k, l, m) refl

  own_value : (s name : Word) (p : Prop) (d : Data) → is_plain s ≡ true → prop_named name ≡ Some p → (value : Option Word) → value_word p d ≡ value → PlainOr value → Owns h which (put_value id s name value)
  own_value s name p d k named None e q w = tt
  own_value s name p d k named (Some value) e q w =
      own_line h which (codes "local") (id ∷ s ∷ name ∷ value ∷ []) (local_fits (id ∷ s ∷ name ∷ value ∷ [])) refl
      (local_words s name value k (plain_prop name p named) q) (λ asked. local_is_own s name value p d asked named e) w

  own_prop : (s name : Word) (d : Data) → is_plain s ≡ true → are_short d ≡ true → (p : Option Prop) → prop_named name ≡ p → Owns h which (put_prop id s name p d)
  own_prop s name d k short None e w = tt
  own_prop s name d k short (Some p) e w = own_value s name p d k e (value_word p d) refl (plain_value p d short) w

  own_props : (s : Word) (d : Data) → are_short d ≡ true → Owns h which (prop_lines id s d)
  own_props s d short w =
      own_if h which (is_selector s) w (in_object (λ name value. put_prop id s name (prop_named name) value) (as_object d) w)
      (λ k. own_object h which (λ name value. put_prop id s name (prop_named name) value) (λ name value t. own_prop s name value (plain_selector s k) t (prop_named name) refl) (as_object d) (short_object d short) w)

  own_local : (d : Data) → are_short d ≡ true → Owns h which (local_lines id d)
  own_local d short = own_object h which (prop_lines id) own_props (as_object d) (short_object d short)

  pub own_is_set : (word : Word) → Says kind word which → (d : Data) → are_short d ≡ true → Owns h which (own_lines id word d)
  own_is_set word says d s w =
      own_both h which w _ (if_there (get (codes "local") d) (local_lines id))
      (own_both h which w _ (if_there (get (codes "text") d) (text_line id word))
      (own_both h which w _ (if_there (get (codes "flags") d) (flag_lines id))
      (own_both h which w _ (if_there (get (codes "pos") d) (pos_line id))
      (own_there h which (get (codes "size") d) (size_line id) (some_below (codes "size") d s) own_size w)
      (own_there h which (get (codes "pos") d) (pos_line id) (some_below (codes "pos") d s) own_pos))
      (own_there h which (get (codes "flags") d) (flag_lines id) (some_below (codes "flags") d s) own_flags))
      (own_there h which (get (codes "text") d) (text_line id word) (some_below (codes "text") d s) (λ text t. own_text word says text)))
      (own_there h which (get (codes "local") d) (local_lines id) (some_below (codes "local") d s) own_local)
