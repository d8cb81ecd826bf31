-- What a run comes to that reads a font.
use Rattle.std.specs.Prelude.{ℕ, List, [], ◌∷◌, None}
use Rattle.std.specs.declared.option.Option.{Option}
use Rattle.run_defs.specs.Words.{number_within}
use Rattle.whole_sources.specs.Endings.{Ending, Written, Bad, ReadFailed, WriteFailed, MemoryRanOut, TooMany, Unstarted}
use Rattle.bdf_font.specs.declared.run.BdfStatus.{BdfStatus}
use Rattle.bdf_font.specs.declared.run.BdfStatus.TheVariants as status

-- the number of a font that the words are
abbrev pub font_number : List (List ℕ) → Option ℕ
font_number (word ∷ []) = number_within 1 99 word
font_number words = None

-- how a run ended
abbrev pub ending : BdfStatus → Ending ℕ
ending status.Done = Written
ending (status.Bad line) = Bad line
ending status.ReadFault = ReadFailed
ending status.WriteFault = WriteFailed
ending status.NoMemory = MemoryRanOut
ending status.TooLong = TooMany
ending status.Usage = Unstarted

-- the exit status of a program that ends so
abbrev pub exit_status : BdfStatus → ℕ
exit_status status.Done = 0
exit_status status.Usage = 2
exit_status status.ReadFault = 3
exit_status status.WriteFault = 4
exit_status status.NoMemory = 6
exit_status status.TooLong = 7
exit_status (status.Bad line) = 8
