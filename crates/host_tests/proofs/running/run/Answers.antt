use Rattle.std.proofs.Common.{ap}
use Rattle.gui_edge.specs.MemSink.{MemSinkState}
use Rattle.host_tests.proofs.Empty.{empty_whole}
use Rattle.host_tests.proofs.running.run.Goals as goal

pub run_host-end-requires : goal.run_host-end-requires
run_host-end-requires c = empty_whole _ (ap (λ (sink : MemSinkState). sink.held) c.in_ok-out.ensures)
