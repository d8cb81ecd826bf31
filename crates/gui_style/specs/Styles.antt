-- What a contract sees of `Styles`, what its calls answer and what they leave.
use Rattle.std.specs.Prelude.{ℕ, ◌+◌, ◌-◌, ℤ, Bool, ◌==◌, not, if◌then◌else◌, List, map, fold, length}
use Rattle.std.specs.Prelude.{Result, Ok, Err}
use Rattle.std.specs.declared.option.Option.{Option}
use Rattle.std.specs.List.{list_any}
use Rattle.gui_base.specs.declared.Handle.{Handle}
use Rattle.gui_base.specs.declared.limits.Pool.{Pool}
use Rattle.gui_base.specs.declared.limits.Pool.TheVariants.{Styles as StyleSlots, Entries, Uses}
use Rattle.gui_base.specs.declared.refusal.Refusal.{Refusal}
use Rattle.gui_base.specs.declared.refusal.Refusal.TheVariants.{Unknown, Taken, Full}
use Rattle.gui_base.specs.declared.words.Part.{Part}
use Rattle.gui_base.specs.declared.props.Prop.{Prop}
use Rattle.gui_base.specs.declared.words.Selector.{Selector}
use Rattle.style_defs.specs.declared.Candidate.{Candidate}
use Rattle.style_defs.specs.declared.Entry.{Entry}
use Rattle.style_defs.specs.declared.Setting.{Setting}
use Rattle.style_defs.specs.declared.Use.{Use}
use Rattle.style_defs.specs.Book as book
use Rattle.style_defs.specs.Book.{Book, locals_of, uses_of, has_local, has_use, has_setting}
use Rattle.style_defs.specs.Cascade.{has_style, of_entry, of_use, selector_of, winning}

pub record Styles : Type 0 where
  pub book : Book
  -- how many more fit
  pub spare_styles : ℕ
  pub spare_entries : ℕ
  pub spare_uses : ℕ

module _ (s : Book) (h : ℕ) (part : Part) (states : ℕ) (prop : Prop) where
  -- the value that wins for a property of a part, where the object is in these states
  abbrev pub winning_at : Option ℤ
  winning_at = winning s.styles (uses_of s h) (locals_of s h) part states prop

  -- what each style gives that the object uses
  abbrev pub shared_at : List (Option Candidate)
  shared_at = map (of_use s.styles part states prop) (uses_of s h)

  -- what each local entry gives
  abbrev pub local_at : List (Option Candidate)
  local_at = map (of_entry part states prop) (locals_of s h)

abbrev pub is_of_style : ℕ → Use → Bool
is_of_style number u = u.style == number

-- whether an object uses a style, for any selector
abbrev pub uses_style : Book → ℕ → ℕ → Bool
uses_style s h number = list_any (is_of_style number) (uses_of s h)

-- whether a handle is that of an object
abbrev pub is_handle : ℕ → Handle → Bool
is_handle h k = k.0 == h

abbrev pub Answer : Type 0
Answer = Result (Unit {0}) Refusal

-- whether one more fits into a pool
abbrev pub full_answer : ℕ → Pool → Answer
full_answer spare pool = if spare == 0 then Err (Full pool) else Ok tt

abbrev pub style_answer : Styles → ℕ → Answer
style_answer s number =
    if has_style s.book.styles number then Err Taken else full_answer s.spare_styles StyleSlots

-- with a style more, which sets nothing
abbrev pub with_style : Styles → ℕ → Styles
with_style s number =
    record s { book = book.with_style s.book number; spare_styles = s.spare_styles - 1 }

abbrev pub style_prop_answer : Styles → ℕ → Prop → Answer
style_prop_answer s number prop =
    if not (has_style s.book.styles number) then Err Unknown
    else if has_setting s.book number prop then Ok tt
    else full_answer s.spare_entries Entries

-- with a property of a style
abbrev pub with_prop : Styles → ℕ → Setting → Styles
with_prop s number setting =
    record s {
      book = book.with_prop s.book number setting;
      spare_entries = s.spare_entries - (if has_setting s.book number setting.prop then 0 else 1);
    }

abbrev pub unset_prop_answer : Styles → ℕ → Prop → Answer
unset_prop_answer s number prop = if has_setting s.book number prop then Ok tt else Err Unknown

-- without a property of a style
abbrev pub without_prop : Styles → ℕ → Prop → Styles
without_prop s number prop =
    record s { book = book.without_prop s.book number prop; spare_entries = s.spare_entries + 1 }

abbrev pub add_style_answer : Styles → ℕ → Use → Answer
add_style_answer s h u =
    if not (has_style s.book.styles u.style) then Err Unknown
    else if has_use s.book h u then Err Taken
    else full_answer s.spare_uses Uses

-- with a use more, the last of an object
abbrev pub with_use : Styles → ℕ → Use → Styles
with_use s h u = record s { book = book.with_use s.book h u; spare_uses = s.spare_uses - 1 }

abbrev pub remove_style_answer : Styles → ℕ → Use → Answer
remove_style_answer s h u = if has_use s.book h u then Ok tt else Err Unknown

-- without a use of an object
abbrev pub without_use : Styles → ℕ → Use → Styles
without_use s h u = record s { book = book.without_use s.book h u; spare_uses = s.spare_uses + 1 }

abbrev pub set_local_answer : Styles → ℕ → Selector → Prop → Answer
set_local_answer s h selector prop =
    if has_local s.book h selector prop then Ok tt else full_answer s.spare_entries Entries

-- with a local entry
abbrev pub with_local : Styles → ℕ → Entry → Styles
with_local s h entry =
    record s {
      book = book.with_local s.book h entry;
      spare_entries = s.spare_entries - (if has_local s.book h (selector_of entry) entry.prop then 0 else 1);
    }

abbrev pub unset_local_answer : Styles → ℕ → Selector → Prop → Answer
unset_local_answer s h selector prop = if has_local s.book h selector prop then Ok tt else Err Unknown

-- without a local entry
abbrev pub without_local : Styles → ℕ → Selector → Prop → Styles
without_local s h selector prop =
    record s { book = book.without_local s.book h selector prop; spare_entries = s.spare_entries + 1 }

-- without all that an object has
abbrev pub forgotten : Styles → ℕ → Styles
forgotten s h =
    record s {
      book = book.forgotten s.book h;
      spare_entries = s.spare_entries + length (locals_of s.book h);
      spare_uses = s.spare_uses + length (uses_of s.book h);
    }

-- without all that these objects have
abbrev pub all_forgotten : Styles → List Handle → Styles
all_forgotten s handles = fold (λ (t : Styles) (h : Handle). forgotten t h.0) s handles
