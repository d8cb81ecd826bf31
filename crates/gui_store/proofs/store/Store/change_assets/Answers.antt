use Rattle.gui_store.proofs.Common.{refl, parts_of}
use Rattle.gui_store.proofs.Edits.{built}
use Rattle.gui_store.proofs.Kept.{Left}
use Rattle.gui_store.proofs.store.Store.change_assets.Goals as goal
use Rattle.gui_store.proofs.store.Store.change_assets.Goals.{After-build}

done : (c : After-build) →
    Left (parts_of c.args.self.now) c.args.change.now (record (parts_of c.args.self.now) { fonts = c.build.new.fonts; images = c.build.new.images }) c.build.result
done c =
    built (parts_of c.args.self.now) c.args.self.now.kept c.args.change.now c.build.new.fonts c.build.new.images c.build.result _
    c.requires.in_range c.requires.plain refl c.requires.assets c.build.ensures

pub invariant_of-self : goal.invariant_of-self
invariant_of-self c = record { kept = (done (goal.at.invariant_of-self c).After-build).kept }

pub returns : goal.returns
returns c = (done (goal.at.returns c).After-build).is
