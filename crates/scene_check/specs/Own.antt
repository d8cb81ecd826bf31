-- What words of a scene say where not all kinds or values are taken.
use Rattle.std.specs.Prelude.{◌≡◌, ℤ, pos, true, codes}
use Rattle.gui_base.specs.declared.props.Prop.TheVariants.{TextFont}
use Rattle.gui_base.specs.declared.words.Kind.{Kind}
use Rattle.run_defs.specs.Commands.{kind, value_for}
use Rattle.run_defs.specs.Language.{Word}
use Rattle.line_texts.specs.Commands.{Says}
use Rattle.scene_defs.specs.Row.{has_text as kind_has_text}
use Rattle.scene_json.specs.Scenes.{has_text}

pub record OwnWordsSay : Type 0 where
  -- a kind that has a text by its word has one
  pub text : (word : Word) (which : Kind) →
      Says kind word which → has_text word ≡ true → kind_has_text which ≡ true
  -- the font that is taken is the built-in one
  pub font : (n : ℤ) → Says (value_for TextFont) (codes "0") n → n ≡ pos 0
