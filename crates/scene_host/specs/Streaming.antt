-- A run whose panel writes to a stream.
use Rattle.std.specs.Prelude.{◌≡◌}
use Rattle.std.specs.declared.option.Option.{Option}
use Rattle.gui_base.specs.Limits.{Bounds}
use Rattle.gui_edge.specs.Sink.{SinkState}
use Rattle.gui_edge.specs.Source.{SourceState}
use Rattle.panel_stream.specs.StreamPanel.{StreamState, stream_state, unopened, IsStreaming}
use Rattle.scene_run.specs.Headline.{outside}
use Rattle.scene_run.specs.Top.{RunsScene}
use Rattle.scene_host.specs.Asked.{Answers}
use Rattle.scene_host.specs.declared.top.HostEnd.{HostEnd}

-- A run of a scene over a stream, with answers: there is a panel over the stream, which was not opened before,
-- and the run is one on that panel.
pub record RunsHost {Out : Type 0} (sink : Out → SinkState) (words : Option Bounds) (source : SourceState)
    (log answers : SinkState) (out : Out) (source_after : SourceState) (log_after answers_after : SinkState)
    (end : HostEnd Out) : Type 0 where
  pub panel : StreamState Out
  pub out_is : panel.out ≡ end.out
  pub runs : RunsScene words (outside source log (stream_state sink (unopened out)))
      (outside source_after log_after (stream_state sink panel)) end.status
  -- the questions in the bytes that were taken are answered
  pub answered : Answers words (outside source log (stream_state sink (unopened out)))
      (outside source_after log_after (stream_state sink panel)) answers answers_after end.answered end.status
  -- a viewer has the panel's sizes, and the bytes are whole records where no write failed
  pub streams : IsStreaming panel.width panel.height panel.limit panel.broken (sink end.out).held
