use Rattle.std.proofs.Common.{◌≡◌, ◌∙◌, sym, ap, ◌+◌, ◌<◌, length, get_or, arith}
use Rattle.std.proofs.lemmas.List.{get_or-map, length-map}
use Rattle.layout_defs.specs.Flex.{counted, is_fit}
use Rattle.gui_flex.specs.declared.item.FlexItem.{FlexItem}
use Rattle.gui_flex.specs.Items.{item_of, items_of}
use Rattle.gui_flex.proofs.Steps.{track_goes_on, track_ends}
use Rattle.gui_flex.proofs.track.track_len.Goals as goal
use Rattle.gui_flex.proofs.track.track_len.Goals.{After-is_fit}

-- the length of the track with the next item
next : (c : After-is_fit) → c.loop-end.long + c.args.gap + c.counted_size.result ≡ c.loop-end.long + c.args.gap + counted (get_or (items_of c.args.items.now) c.loop-end.end (item_of c.index-items-end.result))
next c =
    let at = get_or-map item_of c.args.items.now c.loop-end.end c.index-items-end.result (item_of c.index-items-end.result) c.loop-end-test.true in
    ap (λ n. c.loop-end.long + c.args.gap + n) (c.counted_size.ensures.value ∙ (ap (λ (x : FlexItem). counted (item_of x)) c.index-items-end.is ∙ ap counted (sym at)))

short : (c : After-is_fit) → c.loop-end.end < length (items_of c.args.items.now)
short c = omega (arith, length-map c.args.items.now item_of)

pub returns-then-not-is_fit-clause-track : goal.returns-then-not-is_fit-clause-track
returns-then-not-is_fit-clause-track c =
    let d = (goal.at.returns-then-not-is_fit-clause-track c).After-is_fit in
    c.loop-end.invariant.track
    ∙ track_ends c.args.wrap c.args.extent c.args.gap (items_of c.args.items.now) c.loop-end.long c.loop-end.end (item_of c.index-items-end.result) (short d)
    (ap (is_fit c.args.wrap c.args.extent) (sym (next d)) ∙ (sym c.is_fit.ensures ∙ c.if-not-is_fit.true))

pub loop-end-preserved : goal.loop-end-preserved
loop-end-preserved c =
    let d = (goal.at.loop-end-preserved c).After-is_fit in
    let i = c.loop-end.invariant in
    record {
      some = omega arith;
      within = omega arith;
      small = let s = i.small in omega arith;
      track = rw (next d) (i.track ∙ track_goes_on c.args.wrap c.args.extent c.args.gap (items_of c.args.items.now) c.loop-end.long c.loop-end.end (item_of c.index-items-end.result) (short d)
          (ap (is_fit c.args.wrap c.args.extent) (sym (next d)) ∙ (sym c.is_fit.ensures ∙ c.if-not-is_fit.false)));
    }
