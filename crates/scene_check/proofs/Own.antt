-- What words of a scene say where not all kinds or values are taken.
use Rattle.std.proofs.Common.{◌≡◌, refl, sym, ap, subst, true, false, Bool, ◌||◌}
use Rattle.std.specs.Prelude.{ℤ, pos, Ok, Err, codes, bytes_eq}
use Rattle.std.proofs.lemmas.Slice.Eq.{bytes_eq-Decides}
use Rattle.gui_base.specs.Names.{named}
use Rattle.gui_base.specs.declared.props.Prop.TheVariants.{TextFont}
use Rattle.gui_base.specs.declared.words.Kind.{Kind}
use Rattle.run_defs.specs.Commands.{kind, value_for}
use Rattle.run_defs.specs.Language.{Word, Reading}
use Rattle.run_defs.specs.Numbers.{number}
use Rattle.line_texts.specs.Commands.{Says}
use Rattle.scene_defs.specs.Row.{has_text as kind_has_text}
use Rattle.scene_json.specs.Scenes.{has_text}
use Rattle.scene_check.specs.Own.{OwnWordsSay}

abbrev has_by_reading : Reading Kind → Bool
has_by_reading (Ok which) = kind_has_text which
has_by_reading (Err fault) = true

label_has : (which : Kind) → Says kind (codes "label") which → kind_has_text which ≡ true
unfolding named
label_has which e = sym (ap has_by_reading e)

checkbox_has : (which : Kind) → Says kind (codes "checkbox") which → kind_has_text which ≡ true
unfolding named
checkbox_has which e = sym (ap has_by_reading e)

texts : (word : Word) (which : Kind) → Says kind word which → has_text word ≡ true → kind_has_text which ≡ true
texts word which e h = by (bytes_eq word (codes "label")) (bytes_eq word (codes "checkbox")) refl refl h where
  by : (a b : Bool) → bytes_eq word (codes "label") ≡ a → bytes_eq word (codes "checkbox") ≡ b → (a || b) ≡ true → kind_has_text which ≡ true
  by true b f g h = label_has which (subst (λ (w : Word). Says kind w which) ((bytes_eq-Decides word (codes "label")).0 f) e)
  by false true f g h = checkbox_has which (subst (λ (w : Word). Says kind w which) ((bytes_eq-Decides word (codes "checkbox")).0 g) e)
  by false false f g h = cc

abbrev number_read : Reading ℤ → ℤ
number_read (Ok n) = n
number_read (Err fault) = pos 0

fonts : (n : ℤ) → Says (value_for TextFont) (codes "0") n → n ≡ pos 0
unfolding number
fonts n e = sym (ap number_read e)

pub own_words_say : OwnWordsSay
own_words_say = record { text = texts; font = fonts }
