-- A change that moves nobody leaves every box.
use Rattle.std.proofs.Common.{◌≡◌, ◌∙◌, ap, sym, ℕ, Bool, true, false, refl, None}
use Rattle.std.specs.Prelude.{not}
use Rattle.std.proofs.lemmas.Bool.{false≢true}
use Rattle.gui_base.specs.Bits.{with_bit, flag_bit}
use Rattle.gui_base.specs.declared.props.Prop.{Prop}
use Rattle.gui_base.specs.declared.words.Flag.TheVariants.{Scrollable}
use Rattle.gui_base.specs.declared.words.Part.TheVariants.{Main}
use Rattle.style_defs.specs.Book.{Book}
use Rattle.scene_defs.specs.declared.Change.{Change}
use Rattle.scene_defs.specs.declared.Change.TheVariants as change
use Rattle.scene_defs.specs.declared.Row.{Row}
use Rattle.scene_defs.specs.Change.{answer_of, changed, scene_after}
use Rattle.scene_defs.specs.Edits.{over_row, with_row}
use Rattle.scene_defs.specs.Row.{is_on}
use Rattle.scene_defs.specs.Scene.{Object, Scene, value}
use Rattle.scene_defs.specs.Valid.{IsValid, IsChange}
use Rattle.debt_defs.specs.declared.subject.Subject.{Subject}
use Rattle.debt_defs.specs.declared.subject.Subject.TheVariants.{Nobody}
use Rattle.debt_defs.specs.Subject.{subject_of}
use Rattle.debt_defs.specs.Concerns.{concerns, touches}
use Rattle.debt_defs.proofs.Concerned.{others_are_same}
use Rattle.gui_layout.specs.Scenes.{scene_box}
use Rattle.gui_concerns.specs.Moving.{moves_nobody, is_nobody, goes_by}
use Rattle.gui_concerns.proofs.Changes.{after_is}
use Rattle.gui_change.proofs.Laid.{laid, box-same}
use Rattle.gui_change.proofs.MainValues.{values-set, values-unset, values-local, values-unlocal}
use Rattle.gui_change.proofs.SetRows.{hidden-kept, scrollable-kept, row-set}
use Rattle.gui_change.proofs.Unchanged.{box-alike, looks-same}

not-true : (b : Bool) → not b ≡ true → b ≡ false
not-true true is = absurd (false≢true is)
not-true false is = refl

module _ (scene : Scene) (k : ℕ) where
  -- what concerns nobody leaves all boxes
  others-stay : (change : Change) → IsValid scene → IsChange change → concerns scene change k ≡ false → answer_of scene change ≡ None →
      scene_box (scene_after scene change) k ≡ scene_box scene k
  others-stay change valid plain off done =
      ap (λ (s : Scene). scene_box s k) (sym (after_is scene change done))
      ∙ box-alike scene (changed scene change) k (looks-same scene (changed scene change) k (others_are_same scene change k valid plain off))

  untouched : (subject : Subject) → is_nobody subject ≡ true → touches scene subject k ≡ false
  untouched Nobody is = refl
  untouched subject is = absurd (false≢true is)

  style-stays : (after : Book) → ((q : Prop) → goes_by q ≡ true → value (record scene { book = after }) k Main q ≡ value scene k Main q) →
      scene_box (record scene { book = after }) k ≡ scene_box scene k
  style-stays after same = box-same scene (record scene { book = after }) k (record { fonts = refl; images = refl; object = refl; values = same })

  row-stays : (h : ℕ) (f : Row → Row) → ((row : Row) → (f row).kind ≡ row.kind) → ((row : Row) → (f row).states ≡ row.states) →
      ((object : Object) → laid (over_row f object) ≡ laid object) → scene_box (with_row scene h f) k ≡ scene_box scene k
  row-stays h f kind states same = box-same scene (with_row scene h f) k (row-set scene h f kind states same k)

  after-stays : (change : Change) → IsValid scene → IsChange change → answer_of scene change ≡ None → moves_nobody change ≡ true →
      scene_box (scene_after scene change) k ≡ scene_box scene k
  after-stays (change.Load h) valid plain done nobody = refl
  after-stays (change.Flag h flag on) valid plain done nobody =
      row-stays h.0 _ (λ row. refl) (λ row. refl)
      (λ object.
      ap (λ (b : Bool). record (laid object) { hidden = b; scrollable = is_on (with_bit object.row.flags (flag_bit flag) on) Scrollable })
      (hidden-kept object.row.flags flag on (not-true _ nobody))
      ∙ ap (λ (b : Bool). record (laid object) { scrollable = b })
      (scrollable-kept object.row.flags flag on (not-true _ nobody)))
  after-stays (change.Value h n) valid plain done nobody = row-stays h.0 _ (λ row. refl) (λ row. refl) (λ object. refl)
  after-stays (change.Range h low high) valid plain done nobody = row-stays h.0 _ (λ row. refl) (λ row. refl) (λ object. refl)
  after-stays (change.Set s p n) valid plain done nobody = style-stays _ (values-set scene s p n k (not-true _ nobody))
  after-stays (change.Unset s p) valid plain done nobody = style-stays _ (values-unset scene s p k (not-true _ nobody))
  after-stays (change.Local h selector p n) valid plain done nobody = style-stays _ (λ q on. values-local scene h.0 selector p (not-true _ nobody) k q on n)
  after-stays (change.Unlocal h selector p) valid plain done nobody = style-stays _ (λ q on. values-unlocal scene h.0 selector p (not-true _ nobody) k q on)
  after-stays change valid plain done nobody = others-stay change valid plain (untouched (subject_of change) nobody) done

pub boxes_stay : (scene : Scene) (change : Change) → IsValid scene → IsChange change → answer_of scene change ≡ None → moves_nobody change ≡ true →
    (k : ℕ) → scene_box (changed scene change) k ≡ scene_box scene k
boxes_stay scene change valid plain done nobody k =
    ap (λ (s : Scene). scene_box s k) (after_is scene change done) ∙ after-stays scene k change valid plain done nobody
