use Rattle.std.proofs.Common.{◌∙◌, ap}
use Rattle.gui_base.specs.Corners.{rect_of}
use Rattle.gui_base.specs.Gridded.{rules_of}
use Rattle.gui_damage.specs.Gridded.{listed_in}
use Rattle.gui_damage.proofs.RoundAdditions.{added_own}
use Rattle.gui_refresh.proofs.listed.add.Goals as goal

pub returns-clause-list : goal.returns-clause-list
returns-clause-list c =
    ap listed_in c.add.ensures.list ∙ added_own (rules_of c.args.damage.now.round) c.args.damage.now.areas (rect_of c.args.area) c.requires.inside c.requires.blocks

pub returns-clause-sound : goal.returns-clause-sound
returns-clause-sound c = c.add.ensures.sound.pending
