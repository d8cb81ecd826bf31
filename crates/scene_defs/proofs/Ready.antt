-- The fonts that styles name are finished, and stay so.
use Rattle.std.proofs.Common.{◌≡◌, ℕ, ℤ, true, List, [], ◌∷◌, map, length, arith, refl, Option, Some, None, inl, inr, rules}
use Rattle.std.specs.Prelude.{slice_index_or}
use Rattle.std.specs.List.{All}
use Rattle.std.proofs.lemmas.Bool.{cases_lt}
use Rattle.std.proofs.lemmas.Bool.Decides.{nat_tests}
use Rattle.std.proofs.lemmas.List.{get_or_past}
use Rattle.std.proofs.lemmas.List.Elements.{All-nil, All-map, All-set, All-weaker, All-get_or}
use Rattle.gui_base.specs.declared.words.Part.{Part}
use Rattle.gui_base.specs.declared.words.Part.TheVariants.{Scrollbar}
use Rattle.gui_base.specs.Area.{nat_of}
use Rattle.gui_base.specs.Props.{default_of}
use Rattle.gui_base.specs.declared.props.Prop.{Prop}
use Rattle.gui_base.specs.declared.props.Prop.TheVariants.{TextFont}
use Rattle.gui_base.specs.declared.words.Kind.{Kind}
use Rattle.style_defs.specs.Book.{Book, empty_book, locals_of, is_for, forgotten, all_forgotten, a_setting, an_entry}
use Rattle.style_defs.specs.Cascade.{Style, sets, selector_of}
use Rattle.style_defs.specs.Firsts.{put_by, drop_by}
use Rattle.style_defs.specs.Kinds.{entry_in, kind_rows, part_rows}
use Rattle.style_defs.specs.Value.{Styled}
use Rattle.style_defs.specs.declared.Entry.{Entry}
use Rattle.style_defs.specs.declared.Setting.{Setting}
use Rattle.style_defs.proofs.Empty.{all_of_none}
use Rattle.style_defs.proofs.Keeping.{All-put_by, All-drop_by, All-inserted, All-changed}
use Rattle.style_defs.proofs.Ranges.{value_fits}
use Rattle.text_defs.specs.Building.{is_finished}
use Rattle.text_defs.specs.Fonts.{Font, font_of}
use Rattle.scene_defs.specs.declared.Change.{Change}
use Rattle.scene_defs.specs.declared.Change.TheVariants as change
use Rattle.scene_defs.specs.Change.{answer_of, scene_after, tests}
use Rattle.scene_defs.specs.Edits.{below}
use Rattle.scene_defs.specs.Finished.{FontsOfTextsAreFinished}
use Rattle.scene_defs.specs.NamedFonts.{is_ready, IsReadySetting, IsReadyEntry, IsReadyStyle, AreReady}
use Rattle.scene_defs.specs.Scene.{Object, Scene, styled_of, path_at}
use Rattle.scene_defs.proofs.Changes.{Fail}
use Rattle.scene_defs.proofs.Finished.{fonts-after}

-- a font that is finished stays so
finished-after : (scene : Scene) (change : Change) (name : ℕ) → answer_of scene change ≡ None → is_finished scene.fonts name ≡ true → is_finished (scene_after scene change).fonts name ≡ true
finished-after scene change name done is = by (font_of scene.fonts name) refl where
  by : (found : Option Font) → font_of scene.fonts name ≡ found → is_finished (scene_after scene change).fonts name ≡ true
  by None e = grind (arith, nat_tests, e, is)
  by (Some font) e = grind (arith, nat_tests, e, is, fonts-after scene change name font done e)

-- what names fonts that are finished still does so where they stay finished
module _ (before after : List Font) (stay : (name : ℕ) → is_finished before name ≡ true → is_finished after name ≡ true) where
  still_ready : (prop : Prop) (value : ℤ) → is_ready before prop value ≡ true → is_ready after prop value ≡ true
  still_ready prop value is = grind (arith, nat_tests, is, stay (nat_of value))

  are_still_ready : (book : Book) → AreReady before book → AreReady after book
  are_still_ready book r = record {
    settings = All-weaker (IsReadyStyle before) (IsReadyStyle after) (λ style all. All-weaker (IsReadySetting before) (IsReadySetting after) (λ s is. still_ready s.prop s.value is) style.settings all) book.styles r.settings;
    locals = All-weaker (All (IsReadyEntry before)) (All (IsReadyEntry after)) (λ entries all. All-weaker (IsReadyEntry before) (IsReadyEntry after) (λ e is. still_ready e.prop e.value is) entries all) book.locals r.locals;
  }

-- what holds of all items, and of what stands for those that are not there, holds at each place
pub held_at : {X : Type 0} (P : X → Type 0) (xs : List X) (i : ℕ) (d : X) → P d → All P xs → P (slice_index_or xs i d)
held_at P xs i d other all = elim (cases_lt i (length xs)) [
  | inl within ↦ All-get_or P xs i d within all
  | inr past ↦ rw (get_or_past xs i d past) other
]

-- A book whose fonts are finished, after each change of it.
module _ (fonts : List Font) where
  locals_ready : (book : Book) (h : ℕ) → AreReady fonts book → All (IsReadyEntry fonts) (locals_of book h)
  locals_ready book h r = held_at (All (IsReadyEntry fonts)) book.locals h [] (All-nil (IsReadyEntry fonts)) r.locals

  forgotten_ready : (handles : List ℕ) (book : Book) → AreReady fonts book → AreReady fonts (all_forgotten book handles)
  forgotten_ready [] book r = r
  forgotten_ready (h ∷ handles) book r =
      let locals = All-set (All (IsReadyEntry fonts)) book.locals h [] (All-nil (IsReadyEntry fonts)) r.locals in
      forgotten_ready handles (forgotten book h) (search (rules, r, locals))

  pub first_ready : AreReady fonts empty_book
  first_ready = record { settings = All-nil (IsReadyStyle fonts); locals = all_of_none Entry (All (IsReadyEntry fonts)) (All-nil (IsReadyEntry fonts)) }

ready_book : (scene : Scene) (change : Change) → Fail (tests scene change) → AreReady scene.fonts scene.book → AreReady scene.fonts (scene_after scene change).book
ready_book scene (change.Style s) t r =
    let new : Style = record { number = s; settings = [] } in
    search (rules, r, All-inserted (IsReadyStyle scene.fonts) new scene.book.styles (All-nil (IsReadySetting scene.fonts)) r.settings)
ready_book scene (change.Set s prop value) t r =
    let is : is_ready scene.fonts prop value ≡ true = grind (arith, nat_tests, t.1.1.0) in
    let put = put_by (sets prop) (a_setting prop value) in
    let still = λ (settings : List Setting). All-put_by (IsReadySetting scene.fonts) (sets prop) (a_setting prop value) settings is in
    search (rules, r, All-changed s put (IsReadySetting scene.fonts) still scene.book.styles r.settings)
ready_book scene (change.Unset s prop) t r =
    let drop = drop_by (sets prop) in
    search (rules, r, All-changed s drop (IsReadySetting scene.fonts) (All-drop_by (IsReadySetting scene.fonts) (sets prop)) scene.book.styles r.settings)
ready_book scene (change.Local h selector prop value) t r =
    let entry = an_entry selector prop value in
    let is : is_ready scene.fonts prop value ≡ true = grind (arith, nat_tests, t.1.1.0) in
    let test = is_for (selector_of entry) prop in
    let put = All-put_by (IsReadyEntry scene.fonts) test entry (locals_of scene.book h.0) is (locals_ready scene.fonts scene.book h.0 r) in
    search (rules, r, All-set (All (IsReadyEntry scene.fonts)) scene.book.locals h.0 (put_by test entry (locals_of scene.book h.0)) put r.locals)
ready_book scene (change.Unlocal h selector prop) t r =
    let test = is_for selector prop in
    let drop = All-drop_by (IsReadyEntry scene.fonts) test (locals_of scene.book h.0) (locals_ready scene.fonts scene.book h.0 r) in
    search (rules, r, All-set (All (IsReadyEntry scene.fonts)) scene.book.locals h.0 (drop_by test (locals_of scene.book h.0)) drop r.locals)
ready_book scene (change.Delete h) t r = forgotten_ready scene.fonts (below scene h.0) scene.book r
ready_book scene change t r = assumption r

pub ready-after : (scene : Scene) (change : Change) → answer_of scene change ≡ None → Fail (tests scene change) → AreReady scene.fonts scene.book →
    AreReady (scene_after scene change).fonts (scene_after scene change).book
ready-after scene change done t r =
    are_still_ready scene.fonts (scene_after scene change).fonts (λ name is. finished-after scene change name done is) (scene_after scene change).book (ready_book scene change t r)

-- The font of a text.
ready_default : (fonts : List Font) (prop : Prop) → is_ready fonts prop (default_of prop) ≡ true
ready_default fonts TextFont = refl
ready_default fonts prop = refl

ready_rows : (fonts : List Font) (kind : Kind) → All (λ (e : Entry). is_ready fonts e.prop e.value ≡ true) (map entry_in (kind_rows kind))
ready_rows fonts kind = search rules

ready_kind : (fonts : List Font) (kind : Kind) (part : Part) → All (λ (e : Entry). is_ready fonts e.prop e.value ≡ true) (map entry_in (part_rows kind part))
ready_kind fonts kind Scrollbar = search rules
ready_kind fonts kind part = ready_rows fonts kind

pub fonts_of_texts : FontsOfTextsAreFinished
fonts_of_texts scene h part valid =
    let objects = path_at scene h in
    let ready = λ (k : ℕ) (d : Object). locals_ready scene.fonts scene.book (slice_index_or objects k d).handle valid.named in
    let worn = All-map (λ (o : Styled). All (IsReadyEntry scene.fonts) o.locals) (styled_of scene.book) objects (λ k d within. ready k d) in
    value_fits (is_ready scene.fonts) (ready_default scene.fonts) (ready_kind scene.fonts) TextFont scene.book.styles valid.named.settings
    (map (styled_of scene.book) objects) part worn
