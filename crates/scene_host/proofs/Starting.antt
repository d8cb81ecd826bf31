-- A run from a panel that is not opened.
use Rattle.std.proofs.Common.{◌≡◌, subst, Bool, Option}
use Rattle.gui_base.specs.Limits.{Bounds}
use Rattle.gui_edge.specs.Sink.{SinkState}
use Rattle.gui_edge.specs.Source.{SourceState}
use Rattle.panel_stream.specs.StreamPanel.{StreamState, stream_state}
use Rattle.scene_run.specs.Headline.{Outside, outside}
use Rattle.scene_run.specs.Top.{RunsScene}
use Rattle.scene_run.specs.declared.status.Status.{Status}
use Rattle.scene_host.specs.Asked.{Answers}

module _ {Out : Type 0} (sink : Out → SinkState) (words : Option Bounds) (source : SourceState) (log : SinkState) (s first : StreamState Out) (end : Outside) (status : Status) where
  pub runs_from : s ≡ first → RunsScene words (outside source log (stream_state sink s)) end status → RunsScene words (outside source log (stream_state sink first)) end status
  runs_from e h = subst (λ (p : StreamState Out). RunsScene words (outside source log (stream_state sink p)) end status) e h

  pub answers_from : (asked answers : SinkState) (answered : Bool) → s ≡ first → Answers words (outside source log (stream_state sink s)) end asked answers answered status →
      Answers words (outside source log (stream_state sink first)) end asked answers answered status
  answers_from asked answers answered e h = subst (λ (p : StreamState Out). Answers words (outside source log (stream_state sink p)) end asked answers answered status) e h
