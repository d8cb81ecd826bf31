-- What is counted of a line of the made script.
use Rattle.std.proofs.Common.{◌≡◌, ◌∙◌, ap, true, ◌+◌, List, [], ◌∷◌, ◌++◌, length, length-append, refl, option_to_list, Option, None, Some, Ok, Err}
use Rattle.std.proofs.lemmas.List.Elements.{filter_map-append}
use Rattle.run_defs.specs.declared.FrameEnd.TheVariants.{Done, Fault}
use Rattle.run_defs.specs.declared.Line.TheVariants.{Blank, Frame, Make}
use Rattle.run_defs.specs.declared.Outcome.{Outcome}
use Rattle.run_defs.specs.declared.Outcome.TheVariants.{Frame as OfFrame}
use Rattle.run_defs.specs.Run.{Moment, Told, Fits, entry, told, done_scenes, fault_count, done_scene}
use Rattle.run_defs.specs.Script.{Said}
use Rattle.scene_run.specs.Counting.{is_no_pump, frames_in, done_in, faults_in}

-- counts of what is told of some lines and then of others add up
pub done-both : (xs ys : List Told) → length (done_scenes (xs ++ ys)) ≡ length (done_scenes xs) + length (done_scenes ys)
done-both xs ys = ap length (filter_map-append done_scene xs ys) ∙ length-append (done_scenes xs) (done_scenes ys)

-- what is told of one line that is no pump, with its outcome
pub counts_one : (now : Moment) (said : Said) (outcome : Option Outcome) (ts : List Told) → is_no_pump said ≡ true → Fits (entry now said ∷ []) (option_to_list outcome) → ts ≡ told (entry now said ∷ []) (option_to_list outcome) →
    (length (done_scenes ts) ≡ done_in outcome) × ((fault_count ts ≡ faults_in outcome) × (done_in outcome + faults_in outcome ≡ frames_in outcome))
counts_one now (Ok Blank) None ts plain fits is = rw is (refl, (refl, refl))
counts_one now (Ok (Make command)) None ts plain fits is = rw is (refl, (refl, refl))
counts_one now (Err fault) None ts plain fits is = rw is (refl, (refl, refl))
counts_one now (Ok Frame) (Some (OfFrame Done)) ts plain fits is = rw is (refl, (refl, refl))
counts_one now (Ok Frame) (Some (OfFrame Fault)) ts plain fits is = rw is (refl, (refl, refl))
counts_one now said outcome ts plain fits is = cc
