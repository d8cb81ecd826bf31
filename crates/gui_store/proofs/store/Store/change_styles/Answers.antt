use Rattle.gui_store.proofs.Common.{◌≡◌, refl, arith, None, Unknown, parts_of}
use Rattle.gui_store.proofs.Edits.{named_test, unnamed, restyled}
use Rattle.gui_store.proofs.Kept.{Left, there-is, refused}
use Rattle.scene_defs.specs.Deeds.{styling_of}
use Rattle.gui_store.proofs.store.Store.change_styles.Goals as goal
use Rattle.gui_store.proofs.store.Store.change_styles.Goals.{After-restyle, in_default-via-in-Some+else-not-has, in_default-via-in_default}

done : (c : After-restyle) → Left (parts_of c.args.self.now) c.args.change.now (record (parts_of c.args.self.now) { styles = c.restyle.new.styles }) c.restyle.result
done c =
    let p = parts_of c.args.self.now in
    let k = c.args.self.now.kept in
    let named = c.named_by.ensures p.fonts.fonts p.styles.book in
    let there : named_test p k (styling_of p.fonts.fonts p.styles.book c.args.change.now) ≡ None = elim c.in_default.branch [
      | in_default-via-in-Some+else-not-has w ↦ grind (arith, named, w.in-Some.is, w.has.ensures, w.if-not-has.false, there-is p w.in-Some.h.0)
      | in_default-via-in_default w ↦ grind (arith, named, w.in_default.is)
    ] in
    restyled p k c.args.change.now c.restyle.new.styles c.restyle.result _ c.requires.in_range c.requires.plain refl c.requires.styling there c.restyle.ensures

pub invariant_of-self : goal.invariant_of-self
invariant_of-self c = record { kept = (done (goal.at.invariant_of-self c).After-restyle).kept }

pub returns-in-Some : goal.returns-in-Some
returns-in-Some c =
    let p = parts_of c.args.self.now in
    let k = c.args.self.now.kept in
    refused p k c.args.change.now Unknown (unnamed p k c.args.change.now _ refl c.requires.styling (grind (arith, c.named_by.ensures p.fonts.fonts p.styles.book, c.in-Some.is, c.has.ensures, c.if-not-has.true, there-is p c.in-Some.h.0)))

pub returns-in_default : goal.returns-in_default
returns-in_default c = (done (goal.at.returns-in_default c).After-restyle).is
