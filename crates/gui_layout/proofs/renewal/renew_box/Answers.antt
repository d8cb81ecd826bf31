use Rattle.std.proofs.Common.{ap}
use Rattle.gui_store.specs.Views.{scene_of}
use Rattle.gui_boxes.specs.Settled.{Layout}
use Rattle.gui_boxes.specs.Tables.{told, wanted_or}
use Rattle.gui_boxes.proofs.Listed.{told_short}
use Rattle.gui_layout.proofs.Renewing.{renewed_own, renewed_kept}
use Rattle.gui_layout.proofs.renewal.renew_box.Goals as goal

pub returns-clause-own : goal.returns-clause-own
returns-clause-own c =
    let t = c.args.entries.now in
    renewed_own (scene_of c.args.store.now) (told t).boxes (told c.set_wanted.new.entries).boxes c.args.h.0 c.box_in.result (told_short wanted_or t c.args.h.0 c.requires)
    (ap (λ (l : Layout). l.boxes) c.set_wanted.ensures.set) c.box_in.ensures

pub returns-clause-kept : goal.returns-clause-kept
returns-clause-kept c =
    let t = c.args.entries.now in
    renewed_kept (scene_of c.args.store.now) (told t).boxes (told c.set_wanted.new.entries).boxes c.args.h.0 c.box_in.result (told_short wanted_or t c.args.h.0 c.requires)
    (ap (λ (l : Layout). l.boxes) c.set_wanted.ensures.set) c.box_in.ensures
