use Rattle.std.proofs.Common.{◌≡◌, subst, Option, false}
use Rattle.std.specs.Prelude.{IfSome}
use Rattle.gui_base.specs.declared.Handle.{Handle}
use Rattle.gui_boxes.specs.Around.{IsFlat}
use Rattle.gui_boxes.specs.Tables.{told}
use Rattle.gui_boxes.specs.Views.{box_at}
use Rattle.gui_layout.proofs.Overs.{reads-none}
use Rattle.gui_layout.proofs.around.renew_once.Goals as goal

pub returns-then-is_that-clause-own : goal.returns-then-is_that-clause-own
returns-then-is_that-clause-own c =
    subst (λ (o : Option Handle). IfSome o (λ p. (box_at (told c.args.entries.now).boxes p.0).scrollable ≡ false → IsFlat c.args.tree.now.forest (told c.args.entries.now) p.0)) (c.is_that.ensures c.if-is_that.true) c.requires.last

pub returns-then-is_that-clause-reads : goal.returns-then-is_that-clause-reads
returns-then-is_that-clause-reads c = reads-none c.args.tree.now.forest (told c.args.entries.now)
