use Rattle.std.proofs.Common.{◌≡◌, ◌-◌, map, option_map}
use Rattle.gui_base.specs.Corners.{rect_of}
use Rattle.session_defs.specs.Formats.{number}
use Rattle.session_defs.specs.Updates.{number_at}
use Rattle.rfb_view.specs.Sights.{with_run}
use Rattle.rfb_view.proofs.sight.Sight.tell_line.Given as goal

-- the pixels so far were sent
abbrev pub invariant-loop-place : goal.invariant-loop-place
invariant-loop-place l = record {
  format_is : l.self-inside.format ≡ l.fn.self.format;
  sent_is : map (option_map (number l.fn.self.format)) l.self-inside.sent.items ≡ with_run l.first (l.place - l.first) (number_at l.fn.self.format l.colors) l.fn.self.sent;
  request_is : option_map rect_of l.self-inside.request ≡ l.fn.self.request;
}
