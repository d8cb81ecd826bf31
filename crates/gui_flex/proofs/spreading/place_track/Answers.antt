use Rattle.std.proofs.Common.{pos, ◌<◌, ◌-◌, ◌+◌, ◌∙◌, sym, ap, get_or, length, w32, refl, arith}
use Rattle.std.proofs.lemmas.Int.{to_z_pos}
use Rattle.std.proofs.lemmas.List.{length-map}
use Rattle.layout_defs.specs.Flex.{item_spot, thickness, across}
use Rattle.gui_flex.specs.Items.{item_of, items_of, spot_of, placings_of}
use Rattle.gui_flex.proofs.Steps.{numbered_step, seen_as_before}
use Rattle.gui_flex.proofs.Spots.{cross_within, sum_next, spot_written}
use Rattle.gui_flex.proofs.spreading.place_track.Goals as goal

pub overflow_sub-thickness : goal.overflow_sub-thickness
overflow_sub-thickness c =
    let within = cross_within c.loop-i.track c.loop-i.i c.index-track-i.result (let l = c.loop-i.auto.track in omega arith) in
    let same = ap thickness c.loop-i.invariant.same in
    omega (arith, within, same, c.thickness-thickness.ensures.value, c.cross_size.ensures.value)

pub loop-i-preserved : goal.loop-i-preserved
loop-i-preserved c =
    let inv = c.loop-i.invariant in
    let xs = c.loop-i.track in
    let i = c.loop-i.i in
    let d = c.index-track-i.result in
    let h : i < length xs = let l = c.loop-i.auto.track in omega arith in
    let x = item_of (get_or xs i d) in
    record {
      same = seen_as_before item_of xs i d _ h refl ∙ inv.same;
      before = ap (λ n. c.loop-i.before + n) c.main_size-before.ensures.value ∙ (ap (λ n. n + x.main) inv.before ∙ sym (sum_next xs (items_of c.args.track.now) i d inv.same h));
      small = let s = inv.small in let l = c.main_size-before.ensures.small in omega arith;
      done =
          numbered_step spot_of item_of (item_spot (placings_of c.args.places) c.args.extent c.args.gap c.args.at (items_of c.args.track.now)) xs i d _ h
          (spot_written (placings_of c.args.places) c.args.extent c.args.gap c.args.at (items_of c.args.track.now) i c.loop-i.before c.left_over-free.result (length c.args.track.now) c.spread-far.result c.thickness-thickness.result c.across.result x _ _
          inv.before c.left_over-free.ensures.value (sym (length-map c.args.track.now item_of)) c.spread-far.ensures.value c.thickness-thickness.ensures.value
          (c.across.ensures.value ∙ ap (λ n. across c.args.places.cross (c.thickness-thickness.result - n)) c.cross_size.ensures.value)
          (to_z_pos w32 c.stand-main_at.result (let m = c.stand-main_at.ensures.small in omega arith) ∙ ap pos c.stand-main_at.ensures.value) (to_z_pos w32 (c.args.at + c.across.result) (let s = c.across.ensures.small in let t = c.thickness-thickness.ensures.small in omega arith)))
          ∙ inv.done;
    }
