-- What the printed numbers of objects say as handles.
use Rattle.std.specs.Prelude.{◌≡◌, ◌<◌, ◌^◌, ℤ, pos}
use Rattle.std.specs.Fmt.{signed_decimal}
use Rattle.gui_base.specs.declared.Handle.{Handle}
use Rattle.run_defs.specs.Commands.{handle, new_handle}
use Rattle.line_texts.specs.Commands.{Says}
use lib.Signed.{mag}

-- a number says the handle that it is, as a new one and as one that is there
pub record IdsSay : Type 0 where
  pub new : (n : ℤ) (h : Handle) → mag n < 2 ^ 63 → Says new_handle (signed_decimal n) h → n ≡ pos h.0
  pub there : (n : ℤ) (h : Handle) → mag n < 2 ^ 63 → Says handle (signed_decimal n) h → n ≡ pos h.0
