-- The changes of the styles of a scene.
use Rattle.std.specs.Prelude.{ℕ, ℤ, Bool, not, ◌&&◌, if◌then◌else◌, List, [], ◌∷◌, Some, None}
use Rattle.std.specs.declared.option.Option.{Option}
use Rattle.gui_base.specs.Area.{nat_of}
use Rattle.gui_base.specs.Refusing.{Test, Unknown, Taken, Place}
use Rattle.gui_base.specs.Words.{same_prop}
use Rattle.gui_base.specs.declared.Handle.{Handle}
use Rattle.gui_base.specs.declared.limits.Pool.{Pool}
use Rattle.gui_base.specs.declared.limits.Pool.TheVariants.{Styles, Entries, Uses}
use Rattle.gui_base.specs.declared.props.Prop.{Prop}
use Rattle.gui_base.specs.declared.words.Selector.{Selector}
use Rattle.gui_base.specs.declared.props.Prop.TheVariants.{TextFont}
use Rattle.style_defs.specs.Book as book
use Rattle.style_defs.specs.Book.{Book, an_entry, a_setting, a_use, has_local, has_setting, has_use}
use Rattle.style_defs.specs.Cascade.{has_style}
use Rattle.text_defs.specs.Building.{is_finished}
use Rattle.text_defs.specs.Fonts.{Font, has_font}

-- A change of the styles of a scene, and of nothing else.
pub record Styling : Type 0 where
  -- the object that it names, if it names one
  pub object : Option Handle
  -- what refuses it, whatever room there is, once the object is there
  pub tests : List Test
  -- how many slots of each pool it takes, and how many it frees
  pub need : Pool → ℕ
  pub freed : Pool → ℕ
  -- the book after it
  pub after : Book

-- a font that is named has to be there, and finished
abbrev pub font_tests : List Font → Prop → ℤ → List Test
font_tests fonts prop value =
    (same_prop prop TextFont && not (has_font fonts (nat_of value)), Unknown)
    ∷ (same_prop prop TextFont && not (is_finished fonts (nat_of value)), Place)
    ∷ []

-- no slots of any pool
abbrev pub no_slots : Pool → ℕ
no_slots pool = 0

-- so many slots of the pool of styles, and none of the others
abbrev pub of_styles : ℕ → Pool → ℕ
of_styles n Styles = n
of_styles n pool = 0

-- so many slots of the pool of entries, and none of the others
abbrev pub of_entries : ℕ → Pool → ℕ
of_entries n Entries = n
of_entries n pool = 0

-- so many slots of the pool of uses, and none of the others
abbrev pub of_uses : ℕ → Pool → ℕ
of_uses n Uses = n
of_uses n pool = 0

-- one slot, unless what would take it is there already
abbrev pub one_unless : Bool → ℕ
one_unless there = if there then 0 else 1

-- a new style, which sets nothing
abbrev pub style_made : ℕ → List Font → Book → Styling
style_made s fonts b = record {
  object = None;
  tests = (has_style b.styles s, Taken) ∷ [];
  need = of_styles 1;
  freed = no_slots;
  after = book.with_style b s;
}

-- a property of a style
abbrev pub style_set : ℕ → Prop → ℤ → List Font → Book → Styling
style_set s prop value fonts b = record {
  object = None;
  tests = (not (has_style b.styles s), Unknown) ∷ font_tests fonts prop value;
  need = of_entries (one_unless (has_setting b s prop));
  freed = no_slots;
  after = book.with_prop b s (a_setting prop value);
}

-- a style without a property
abbrev pub style_unset : ℕ → Prop → List Font → Book → Styling
style_unset s prop fonts b = record {
  object = None;
  tests = (not (has_setting b s prop), Unknown) ∷ [];
  need = no_slots;
  freed = of_entries 1;
  after = book.without_prop b s prop;
}

-- a style that an object uses
abbrev pub style_used : Handle → ℕ → Selector → List Font → Book → Styling
style_used h s selector fonts b = record {
  object = Some h;
  tests = (not (has_style b.styles s), Unknown) ∷ (has_use b h.0 (a_use s selector), Taken) ∷ [];
  need = of_uses 1;
  freed = no_slots;
  after = book.with_use b h.0 (a_use s selector);
}

-- a style that it uses no more
abbrev pub style_unused : Handle → ℕ → Selector → List Font → Book → Styling
style_unused h s selector fonts b = record {
  object = Some h;
  tests = (not (has_use b h.0 (a_use s selector)), Unknown) ∷ [];
  need = no_slots;
  freed = of_uses 1;
  after = book.without_use b h.0 (a_use s selector);
}

-- a property that an object sets by itself
abbrev pub local_set : Handle → Selector → Prop → ℤ → List Font → Book → Styling
local_set h selector prop value fonts b = record {
  object = Some h;
  tests = font_tests fonts prop value;
  need = of_entries (one_unless (has_local b h.0 selector prop));
  freed = no_slots;
  after = book.with_local b h.0 (an_entry selector prop value);
}

-- a property that it sets no more
abbrev pub local_unset : Handle → Selector → Prop → List Font → Book → Styling
local_unset h selector prop fonts b = record {
  object = Some h;
  tests = (not (has_local b h.0 selector prop), Unknown) ∷ [];
  need = no_slots;
  freed = of_entries 1;
  after = book.without_local b h.0 selector prop;
}
