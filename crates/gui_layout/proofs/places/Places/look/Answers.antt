use Rattle.std.proofs.Common.{◌≡◌, ◌∙◌, sym}
use Rattle.std.proofs.lemmas.Bool.{false≢true}
use Rattle.scene_defs.specs.Items.{pair_of}
use Rattle.scene_defs.specs.Place.{offset, reach}
use Rattle.gui_store.specs.Views.{scene_of}
use Rattle.gui_widgets.specs.Looks.{widget_of}
use Rattle.gui_layout.proofs.Bars.{offset_within, pair_is, shows_bars}
use Rattle.gui_layout.proofs.SceneBoxes.{row_gone}
use Rattle.gui_layout.proofs.places.Places.look.Goals as goal

pub unreachable-requires : goal.unreachable-requires
unreachable-requires c = false≢true (sym (row_gone (scene_of c.args.store.now) c.args.h.0 c.in_default.ensures.value) ∙ c.requires.there)

pub returns-clause-look : goal.returns-clause-look
returns-clause-look c =
    let scene = scene_of c.args.store.now in
    let h = c.args.h.0 in
    let k = c.look_in-look.ensures.look in
    let reaches : c.unwrap_or-look.result ≡ pair_of (reach scene h) = c.unwrap_or-look.ensures ∙ pair_is c.reach.result (reach scene h) (c.reach.ensures ∙ c.requires.reached.reaches h) in
    let moves : c.unwrap_or-look-2.result ≡ pair_of (offset scene h) = c.unwrap_or-look-2.ensures ∙ pair_is c.offset.result (offset scene h) (c.offset.ensures ∙ c.requires.reached.offsets h) in
    let within = offset_within scene h in
    record {
      main = k.main;
      scrollbar = k.scrollbar;
      indicator = k.indicator;
      knob = k.knob;
      short = k.short;
      ranged = record { ends = k.ranged.ends; low = k.ranged.low; high = k.ranged.high };
      low = k.low;
      high = k.high;
      across = rw (reaches, moves) within.0;
      down = rw (reaches, moves) within.1;
    }

pub returns-clause-shows : goal.returns-clause-shows
returns-clause-shows c =
    let scene = scene_of c.args.store.now in
    let h = c.args.h.0 in
    shows_bars scene h (widget_of c.look_in-look.result) c.unwrap_or-look.result c.unwrap_or-look-2.result c.look_in-look.ensures.shows
    (c.unwrap_or-look.ensures ∙ pair_is c.reach.result (reach scene h) (c.reach.ensures ∙ c.requires.reached.reaches h))
    (c.unwrap_or-look-2.ensures ∙ pair_is c.offset.result (offset scene h) (c.offset.ensures ∙ c.requires.reached.offsets h))
