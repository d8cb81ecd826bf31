use Rattle.std.proofs.Common.{◌<◌, ◌^◌, arith, rules, pos, ◌*ℤ◌, FitsSigned, w32}
use Rattle.std.proofs.lemmas.Int.{ints, to_z-of_z, to_z_pos, fits_signed_mul}
use Rattle.std.specs.Int.{int_div_euclid}
use Rattle.play_defs.proofs.Shares.{LiesUp, LiesDown, share_up, share_down}
use Rattle.gui_anim.proofs.value.share.Goals as goal

pub returns-clause-value : goal.returns-clause-value
returns-clause-value c =
    let all : FitsSigned w32 c.args.all = c.ranges.all in
    let small : c.args.parts < 2 ^ 31 = omega arith in
    let product : FitsSigned w32 (c.args.all *ℤ pos c.args.parts) = fits_signed_mul w32 c.args.all (pos c.args.parts) 8000 1024 (omega (arith, ints)) (omega (arith, ints)) (omega arith) in
    let share : FitsSigned w32 c.div_euclid.result = search rules in
    simp to_z-of_z (simp (to_z-of_z, to_z_pos) at c.div_euclid.ensures)

pub returns-clause-up : goal.returns-clause-up
returns-clause-up c h =
    let share : LiesUp c.args.all (int_div_euclid (c.args.all *ℤ pos c.args.parts) (pos 1024)) = share_up c.args.all c.args.parts c.requires.within h in
    rw (returns-clause-value c) (share.least, share.most)

pub returns-clause-down : goal.returns-clause-down
returns-clause-down c h =
    let share : LiesDown c.args.all (int_div_euclid (c.args.all *ℤ pos c.args.parts) (pos 1024)) = share_down c.args.all c.args.parts c.requires.within h in
    rw (returns-clause-value c) (share.least, share.most)
