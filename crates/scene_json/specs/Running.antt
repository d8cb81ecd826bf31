-- What a run comes to that reads a scene.
use Rattle.std.specs.Prelude.{ℕ}
use Rattle.whole_sources.specs.Endings.{Ending, Written, Bad, ReadFailed, WriteFailed, MemoryRanOut, TooMany, Unstarted}
use Rattle.scene_json.specs.Scenes.{NoScene, no_scene}
use Rattle.scene_json.specs.declared.run.JsonStatus.{JsonStatus}
use Rattle.scene_json.specs.declared.run.JsonStatus.TheVariants as status

-- how a run ended
abbrev pub ending : JsonStatus → Ending NoScene
ending status.Done = Written
ending status.Bad = Bad no_scene
ending status.ReadFault = ReadFailed
ending status.WriteFault = WriteFailed
ending status.NoMemory = MemoryRanOut
ending status.TooLong = TooMany
ending status.Usage = Unstarted

-- the exit status of a program that ends so
abbrev pub exit_status : JsonStatus → ℕ
exit_status status.Done = 0
exit_status status.Usage = 2
exit_status status.ReadFault = 3
exit_status status.WriteFault = 4
exit_status status.NoMemory = 6
exit_status status.TooLong = 7
exit_status status.Bad = 8
