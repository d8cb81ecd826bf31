-- How a session ends.
use Rattle.std.specs.Prelude.{ℕ}
use Rattle.rfb_view.specs.declared.status.RfbStatus.{RfbStatus}
use Rattle.rfb_view.specs.declared.status.RfbStatus.TheVariants.{Done, Noted, Usage, ReadFault, WriteFault}
use Rattle.rfb_view.specs.declared.status.RfbStatus.TheVariants.{NoMemory, TooLong, Bad}

-- the exit status of the program
abbrev pub exit_status : RfbStatus → ℕ
exit_status Done = 0
exit_status Noted = 1
exit_status Usage = 2
exit_status ReadFault = 3
exit_status WriteFault = 4
exit_status NoMemory = 6
exit_status TooLong = 7
exit_status (Bad why) = 8
