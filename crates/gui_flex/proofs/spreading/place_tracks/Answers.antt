use Rattle.std.proofs.Common.{rules, ◌≡◌, ◌≤◌, ◌*◌, ◌+◌, ◌-◌, List, length, take, drop, ◌∙◌, sym, ap, refl, arith}
use Rattle.std.specs.List.{sum_by}
use Rattle.std.proofs.lemmas.List.Sums.{sum_by_push}
use Rattle.std.proofs.lemmas.Slice.{overwrites, drop-put_mid}
use Rattle.layout_defs.specs.Flex.{tracks, thickness, track_spots}
use Rattle.gui_flex.specs.declared.item.FlexItem.{FlexItem}
use Rattle.gui_flex.specs.Items.{item_of, items_of, placings_of}
use Rattle.gui_flex.proofs.Spots.{spots_in}
use Rattle.gui_flex.proofs.Steps.{put_as_before}
use Rattle.gui_flex.proofs.Tracks.{next_tracks, one_more, spots_step, track_at_is}
use Rattle.gui_flex.proofs.spreading.place_tracks.Goals as goal

pub loop-first-preserved : goal.loop-first-preserved
loop-first-preserved c =
    let inv = c.loop-first.invariant in
    let wrap = c.args.wrap in
    let extent = c.args.extents.extent in
    let gap = c.args.extents.gap in
    let xs = c.loop-first.items in
    let ys = c.place_track.new.track in
    let a = c.loop-first.first in
    let t = c.loop-first.track in
    let n = c.track_len-taken.result in
    let all = tracks wrap extent gap (items_of c.args.items.now) in
    let back : c.split_at.result.1.now ≡ drop a xs = c.split_at.ensures.back in
    let most : n ≤ length c.split_at.result.1.now = c.track_len-taken.ensures.most in
    let back_len : length c.split_at.result.1.now + a ≡ length xs = c.split_at.ensures.back_len in
    let within : a + n ≤ length xs = omega arith in
    let start : a ≤ length xs = omega arith in
    let is_count : a + n - a ≡ n = omega arith in
    let upto : a + (a + n - a) ≤ a + n = omega arith in
    let long : length ys ≡ n = let l = c.place_track.auto.track in omega (arith, l) in
    let same_long : length ys ≡ a + n - a = omega arith in
    let now = next_tracks wrap extent gap xs a n (rw back at c.track_len-taken.ensures.track) in
    let one = one_more all t (items_of (take n (drop a xs))) (tracks wrap extent gap (items_of (drop (a + n) xs))) (inv.left ∙ now) in
    let thick : c.thickness-before.result ≡ thickness (items_of (take n (drop a xs))) =
    c.thickness-before.ensures.value
    ∙ ap (λ (l : List FlexItem). thickness (items_of l)) (c.split_at-in-loop-first-2.ensures.front ∙ ap (take n) c.split_at-in-loop-first.ensures.back) in
    let free_is = c.saturating_sub-free.ensures ∙ ap (λ m. c.args.extents.cross_extent - (c.measure-count.result.1 + c.args.extents.track_gap * m)) c.saturating_sub.ensures in
    let at = c.stand-at.ensures.value ∙ track_at_is c.args.places.track c.args.extents.cross_extent c.args.extents.track_gap all t c.loop-first.before c.measure-count.result.0 c.measure-count.result.1 c.saturating_sub-free.result c.spread-far.result inv.before c.measure-count.ensures.count c.measure-count.ensures.sum free_is c.spread-far.ensures.value in
    record {
      within = search (rules, overwrites);
      same = put_as_before item_of xs ys a (a + n - a) c.place_track.ensures.items ∙ inv.same;
      left = one.after ∙ ap (λ (l : List FlexItem). tracks wrap extent gap (items_of l)) (sym (drop-put_mid a (a + n - a) xs ys (a + n) upto start same_long));
      before = ap (λ m. c.loop-first.before + m) thick ∙ (ap (λ m. m + thickness (items_of (take n (drop a xs)))) inv.before ∙ (sym (sum_by_push thickness (take t all) (items_of (take n (drop a xs)))) ∙ ap (sum_by thickness) (sym one.before)));
      small = let s = inv.small in let b = c.thickness-before.ensures.small in omega arith;
      done =
          spots_step wrap extent gap (spots_in (placings_of c.args.places) extent c.args.extents.cross_extent gap c.args.extents.track_gap all) xs ys _ a n (a + n - a) t is_count within long refl now
          (c.place_track.ensures.spots ∙ ap (λ m. track_spots (placings_of c.args.places) extent gap m (items_of (take (a + n - a) (drop a xs)))) at)
          ∙ inv.done;
    }
