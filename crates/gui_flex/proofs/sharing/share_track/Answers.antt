use Rattle.std.proofs.Common.{to_z, of_z, ◌≡◌, refl, ◌∙◌, sym, ap, ◌+◌, get_or, w32, rules, arith}
use Rattle.std.proofs.lemmas.Int.{to_z-of_z}
use mir.Val.{SFits}
use Rattle.layout_defs.specs.Flex.{weight_to, shared_item}
use Rattle.gui_flex.specs.declared.item.FlexItem.{FlexItem}
use Rattle.gui_flex.specs.Items.{item_of, items_of, spot_of}
use Rattle.gui_flex.proofs.Steps.{numbered_step, seen_as_before, weight_more, weight_within, same_at, same_after, share_written}
use Rattle.gui_flex.proofs.sharing.share_track.Goals as goal
use Rattle.gui_flex.proofs.sharing.share_track.Goals.{After-item-item}

-- the weight with this item
with_this : (c : After-item-item) → weight_to (items_of c.args.track.now) (c.loop-item.item-index + 1) ≡ c.loop-item.before + (get_or c.loop-item.track c.loop-item.item-index c.item-item.result).grow
with_this c =
    let inv = c.loop-item.invariant in
    weight_more c.args.track.now c.loop-item.item-index c.item-item.result c.loop-item-test.true
    ∙ (ap (λ n. n + (get_or c.args.track.now c.loop-item.item-index c.item-item.result).grow) (sym inv.before)
    ∙ ap (λ (x : FlexItem). c.loop-item.before + x.grow) (sym (same_at c.loop-item.track c.args.track.now c.loop-item.item-index c.item-item.result inv.left)))

pub main_after-item-requires-clause-weight : goal.main_after-item-requires-clause-weight
main_after-item-requires-clause-weight c =
    let d = (goal.at.main_after-item-requires-clause-weight c).After-item-item in
    omega (arith, with_this d, c.weight-weight.ensures.value, weight_within (items_of c.args.track.now) (c.loop-item.item-index + 1))

pub loop-item-preserved : goal.loop-item-preserved
loop-item-preserved c =
    let d = (goal.at.loop-item-preserved c).After-item-item in
    let inv = c.loop-item.invariant in
    let i = c.loop-item.item-index in
    let old = c.args.track.now in
    let x = get_or c.loop-item.track i c.item-item.result in
    let r = c.main_after-item.result in
    let fits : SFits w32 r = search rules in
    let same = same_at c.loop-item.track old i c.item-item.result inv.left in
    record {
      spots = seen_as_before spot_of c.loop-item.track i c.item-item.result _ (omega arith) refl ∙ inv.spots;
      before = ap (λ n. c.loop-item.before + n) c.from-before.ensures ∙ sym (with_this d);
      small = let s = inv.small in omega arith;
      left = same_after c.loop-item.track old i _ inv.left;
      done =
          numbered_step item_of item_of (shared_item c.free_space-free.result (items_of old)) c.loop-item.track i c.item-item.result _ (omega arith)
          (share_written c.free_space-free.result c.loop-item.before c.weight-weight.result i (items_of old) x (to_z w32 (of_z w32 r)) inv.before c.weight-weight.ensures.value (with_this d) (to_z-of_z w32 r fits ∙ c.main_after-item.ensures.value))
          ∙ inv.done;
    }
