-- How `Uses` keeps which styles an object uses, and which objects use a style. No public clause cites this.
use Rattle.std.specs.Prelude.{◌≡◌, ℕ, Bool, List, length, filter}
use Rattle.gui_base.specs.declared.Handle.{Handle}
use Rattle.gui_pool.specs.Lists.{Lists, list_of}
use Rattle.style_defs.specs.declared.Use.{Use}
use Rattle.gui_style.specs.Styles.{is_handle, is_of_style}

-- how many of a list pass a test
abbrev pub count : {A : Type 0} → (A → Bool) → List A → ℕ
count test xs = length (filter test xs)

-- an object stands among the users of a style as often as it uses it
pub record AreUsers (all : Lists Use) (users : Lists Handle) : Type 0 where
  pub styles : length users.lists ≡ 65536
  -- as many fit in one as in the other
  pub as_spare : users.spare ≡ all.spare
  pub each : (h style : ℕ) → count (is_handle h) (list_of users style) ≡ count (is_of_style style) (list_of all h)
