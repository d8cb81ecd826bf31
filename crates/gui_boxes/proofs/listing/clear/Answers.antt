use Rattle.std.proofs.Common.{◌≡◌, ◌∙◌, ◌∷◌, ◌+◌, ◌<◌, length, subst, add-one, drop, get_or, drop-cons}
use Rattle.std.proofs.lemmas.List.{drop_all}
use Rattle.gui_base.specs.declared.Handle.{Handle}
use Rattle.gui_boxes.specs.Listing.{HasThese}
use Rattle.gui_boxes.proofs.These.{keys_after, these_after}
use Rattle.gui_boxes.proofs.listing.clear.Goals as goal

pub loop-h-preserved : goal.loop-h-preserved
loop-h-preserved g c = record {
  these = λ objects these.
      let hs = c.args.listed.now in
      let i = c.loop-h.h-index in
      let within : i < length hs = c.loop-h-test.true in
      let none : Handle = record { 0 = 0 } in
      let now : drop i hs ≡ get_or hs i none ∷ drop (i + 1) hs = rw (add-one, drop-cons hs i none) in
      these_after objects c.loop-h.table c.remove.new.self (get_or hs i none) (drop (i + 1) hs) c.remove.result c.remove.ensures.value c.remove.ensures.removes
      (subst (HasThese objects c.loop-h.table) now (c.loop-h.invariant.these objects these));
  keys = keys_after c.loop-h.table c.remove.new.self _ c.remove.result c.remove.ensures.removes c.remove.ensures.absent ∙ c.loop-h.invariant.keys;
}

pub returns-clause-these : goal.returns-clause-these
returns-clause-these g c objects these = subst (HasThese objects c.loop-h.table) (drop_all c.loop-h.h-index c.args.listed.now c.loop-h-test.false) (c.loop-h.invariant.these objects these)
