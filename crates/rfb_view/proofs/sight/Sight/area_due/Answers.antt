use Rattle.std.proofs.Common.{◌∙◌, sym, ap, option_map}
use Rattle.gui_base.specs.Corners.{rect_of}
use Rattle.session_defs.specs.Updates.{Sight}
use Rattle.rfb_view.proofs.sight.Sight.area_due.Goals as goal

pub news_area-requires-clause-inside : goal.news_area-requires-clause-inside
news_area-requires-clause-inside c = c.requires.ready.within _ (sym (ap (λ (s : Sight). s.request) c.self.view_is) ∙ ap (option_map rect_of) c.in-Some.is)
