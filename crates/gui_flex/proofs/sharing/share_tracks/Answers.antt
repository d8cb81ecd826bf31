use Rattle.std.proofs.Common.{rules, ◌≡◌, ◌≤◌, ◌+◌, ◌-◌, length, drop, ◌∙◌, refl, arith}
use Rattle.std.proofs.lemmas.Slice.{overwrites}
use Rattle.gui_flex.proofs.Steps.{tracks_step, put_as_before}
use Rattle.gui_flex.specs.Items.{spot_of}
use Rattle.gui_flex.proofs.sharing.share_tracks.Goals as goal

pub loop-first-preserved : goal.loop-first-preserved
loop-first-preserved c =
    let inv = c.loop-first.invariant in
    let a = c.loop-first.first in
    let n = c.track_len-count.result in
    let back : c.split_at.result.1.now ≡ drop a c.loop-first.items = c.split_at.ensures.back in
    let most : n ≤ length c.split_at.result.1.now = c.track_len-count.ensures.most in
    let back_len : length c.split_at.result.1.now + a ≡ length c.loop-first.items = c.split_at.ensures.back_len in
    let within : a + n ≤ length c.loop-first.items = omega arith in
    let is_count : a + n - a ≡ n = omega arith in
    let long : length c.share_track.new.track ≡ n = let l = c.share_track.auto.track in omega (arith, l) in
    record {
      spots = put_as_before spot_of c.loop-first.items c.share_track.new.track a (a + n - a) c.share_track.ensures.spots ∙ inv.spots;
      within = search (rules, overwrites);
      done =
          tracks_step c.args.wrap c.args.extent c.args.gap c.loop-first.items c.share_track.new.track _ a n (a + n - a) is_count within long refl
          (rw back at c.track_len-count.ensures.track) c.share_track.ensures.items
          ∙ inv.done;
    }
