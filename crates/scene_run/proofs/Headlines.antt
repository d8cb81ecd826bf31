-- The headline from the reading.
use Rattle.std.proofs.Common.{◌≡◌, ◌∙◌, ◌<◌, ◌*◌, ◌⊎◌, ap, subst, sym, false, rules, arith, refl, inl, inr, Option, Some, None, ℕ}
use Rattle.std.specs.Option.{ForSome}
use Rattle.std.specs.Prelude.{is_some}
use Rattle.std.proofs.KnownBytes.{Appends-nil}
use Rattle.std.proofs.Math.Nat.{mul-pos}
use Rattle.gui_base.specs.Grids.{BlockSize}
use Rattle.gui_base.specs.Limits.{Bounds, IsPanel}
use Rattle.run_defs.specs.Machine.{Machine, first_machine}
use Rattle.gui_edge.specs.Causes.{Rose}
use Rattle.gui_color.specs.Buffer.{Buffer}
use Rattle.gui_edge.specs.Panel.{PanelState, CanStart, HasSizes, Opens, StaysClosed}
use Rattle.gui_edge.proofs.Flying.{none_started}
use Rattle.gui_refresh.specs.Stages.{Refreshing}
use Rattle.gui_edge.specs.Sink.{SinkState}
use Rattle.gui_edge.specs.Source.{SourceState}
use Rattle.gui_edge.proofs.Telling.{keeps_telling-some}
use Rattle.scene_run.specs.Effects.{SinceOpening, WriteFailed}
use Rattle.scene_run.specs.Headline.{Outside, outside, RunsAs, Headline, IfUnstarted, AsksMade}
use Rattle.scene_run.specs.Running.{IsStill}
use Rattle.scene_run.specs.Top.{RunsScene}
use Rattle.scene_run.proofs.Turned.{runs_turn}
use Rattle.scene_run.specs.declared.status.Status.{Status}
use Rattle.scene_run.specs.declared.status.Status.TheVariants.{Usage, ReadFault, WriteFault, PanelFault, NoMemory}

-- opening a panel answers no line
pub since_opening : (old new : PanelState) (width height limit : ℕ) (block : BlockSize) → Opens old new width height limit block → SinceOpening old new
since_opening old new width height limit block opens =
    let told = keeps_telling-some old.shows new.shows _ opens.shows in
    subst (SinceOpening old) (sym opens.is) (search (rules, Appends-nil, told))

-- a frame that failed since the panel was opened failed since it was closed
pub fault_since : (closed opened : PanelState) (width height limit : ℕ) (block : BlockSize) → Opens closed opened width height limit block → (A : Type 0) (after : ℕ) → A ⊎ Rose opened.present_faults after → A ⊎ Rose closed.present_faults after
fault_since closed opened width height limit block opens A after =
    subst (λ (n : ℕ). A ⊎ Rose n after) (ap (λ (p : PanelState). p.present_faults) opens.is)

headline_by : (limits : Bounds) (old new : Outside) (status : Status) → RunsAs limits.make (first_machine limits) old new status → Headline (Some limits) old new status
headline_by limits old new PanelFault h = tt
headline_by limits old new NoMemory h = tt
headline_by limits old new status h = h

none_of : (o : Option Buffer) → ((buf : Buffer) → o ≡ Some buf → ⊥) → o ≡ None
none_of None h = refl
none_of (Some buf) h = absurd (h buf refl)

-- nothing is in flight on a panel that was just opened
pub unstarted : (closed opened : PanelState) (width height limit : ℕ) (block : BlockSize) → closed.limit ≡ 0 → ForSome closed.coming (CanStart closed) → Opens closed opened width height limit block → opened.coming ≡ None
unstarted closed opened width height limit block none flying opens =
    ap (λ (p : PanelState). p.coming) opens.is ∙ none_of closed.coming (λ buf is. none_started closed buf none (flying buf is))

-- a panel that was just opened has the sizes of a machine that begins
pub sizes_opened : (old new : PanelState) (limits : Bounds) (first : Machine) → IsPanel limits.width limits.height limits.lines → first ≡ first_machine limits → Opens old new limits.width limits.height (limits.width * limits.lines) limits.block →
    HasSizes new first.scene.limits
sizes_opened old new limits first is begins opens =
    let width : 0 < limits.width = omega (arith, is.some_width) in
    let lines : 0 < limits.lines = omega (arith, is.some_lines) in
    let limit = ap (λ (p : PanelState). p.limit) opens.is in
    subst (λ (m : Machine). HasSizes new m.scene.limits) (sym begins) (record {
      width_is = ap (λ (p : PanelState). p.width) opens.is;
      height_is = ap (λ (p : PanelState). p.height) opens.is;
      limit_is = limit;
      block_is = ap (λ (p : PanelState). p.block) opens.is;
      opened = subst (λ (n : ℕ). 0 < n) (sym limit) (mul-pos width lines);
    })

-- the buffers of a machine that was just opened
pub still_of : (r : Refreshing) → r ≡ record r { drawn = None; free = 2; started = false } → IsStill r
still_of r e = record { drawn = ap (λ (s : Refreshing). s.drawn) e; free = ap (λ (s : Refreshing). s.free) e; started = ap (λ (s : Refreshing). s.started) e }

-- a panel that is not asked stays closed
pub not_asked : (p : PanelState) → p.limit ≡ 0 → StaysClosed p p
not_asked p closed = record { is = ap (λ (n : ℕ). record p { limit = n }) closed; flush_faults = omega arith }

-- the words are at fault
pub runs_usage : (words : Option Bounds) (old : Outside) → words ≡ None → old.output.panel.limit ≡ 0 → RunsScene words old old Usage
runs_usage words old none closed = record {
  usage = λ e. none;
  no_limits = λ e. inl refl;
  headline = rw none tt;
  unread = refl;
  unwritten = refl;
  unsent = not_asked old.output.panel closed;
  unopened = λ e. refl;
  turn = refl;
  read_fault = λ e. cc;
  write_fault = λ e. cc;
  panel_fault = λ e. cc;
}

-- memory ran out before a byte was read
pub runs_no_memory : (words : Option Bounds) (source : SourceState) (log : SinkState) (old new : PanelState) → StaysClosed old new → RunsScene words (outside source log old) (outside source log new) NoMemory
runs_no_memory words source log old new closed = record {
  usage = λ e. cc;
  no_limits = λ e. inr refl;
  headline = tt;
  unread = refl;
  unwritten = refl;
  unsent = closed;
  unopened = λ e. cc;
  turn = ap (λ (p : PanelState). p.turn) closed.is;
  read_fault = λ e. cc;
  write_fault = λ e. cc;
  panel_fault = λ e. cc;
}

-- the panel could not be opened
pub runs_panel_fault : (words : Option Bounds) (limits : Bounds) (source : SourceState) (log : SinkState) (old new : PanelState) → Some limits ≡ words → StaysClosed old new → old.flush_faults < new.flush_faults →
    RunsScene words (outside source log old) (outside source log new) PanelFault
runs_panel_fault words limits source log old new some closed rose = record {
  usage = λ e. cc;
  no_limits = λ e. cc;
  headline = tt;
  unread = refl;
  unwritten = refl;
  unsent = closed;
  unopened = λ e. cc;
  turn = ap (λ (p : PanelState). p.turn) closed.is;
  read_fault = λ e. cc;
  write_fault = λ e. cc;
  panel_fault = λ e. rose;
}

-- a run that was started did not end before
pub unless_started : (status : Status) (P : Type 0) → IfUnstarted status ⊥ → IfUnstarted status P
unless_started Usage P h = absurd h
unless_started PanelFault P h = absurd h
unless_started NoMemory P h = absurd h
unless_started status P h = tt

-- the script was answered
pub runs_started : (words : Option Bounds) (limits : Bounds) (first : Machine) (old new : Outside) (status : Status) → Some limits ≡ words → first ≡ first_machine limits → RunsAs limits.make first old new status → IfUnstarted status ⊥ →
    (status ≡ ReadFault → Rose old.source.faults new.source.faults) → (status ≡ WriteFault → WriteFailed old.output new.output) → RunsScene words old new status
runs_started words limits first old new status some begins runs started read_fault write_fault = record {
  usage = λ e. absurd (rw e at started);
  no_limits = λ e. cc;
  headline = rw (← some) (headline_by limits old new status (rw begins at runs));
  unread = unless_started status _ started;
  unwritten = unless_started status _ started;
  unsent = unless_started status _ started;
  unopened = λ e. absurd (rw e at started);
  turn = runs_turn limits.make first old new status runs;
  read_fault = read_fault;
  write_fault = write_fault;
  panel_fault = λ e. absurd (rw e at started);
}

-- words without `make` ask for no made script
pub asks_none : (words : Option Bounds) (limits : Bounds) → Some limits ≡ words → limits.make ≡ None → AsksMade words → ⊥
asks_none words limits some none asks = let made = subst AsksMade (sym some) asks in let not_made = ap is_some none in cc
