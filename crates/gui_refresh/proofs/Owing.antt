-- Why changes, refreshes and pumps count as the accounts of a run ask.
use Rattle.std.proofs.Common.{◌≡◌, ◌∙◌, refl, ap, ◌+◌, ◌*◌, ◌<◌, ◌≤◌, ℕ, zero, suc, ℤ, true, List, [], ◌∷◌, length, inl, inr, arith, nat_lt, is_some}
use Rattle.std.specs.List.{list_all}
use Rattle.std.proofs.lemmas.Bool.{or_left}
use Rattle.std.proofs.lemmas.Bool.Decides.{nat_tests}
use Rattle.std.proofs.lemmas.Int.{ints}
use Rattle.std.proofs.lemmas.List.Sums.{sum_by-cons}
use Rattle.gui_base.specs.declared.color.Rgb565.{Rgb565}
use Rattle.gui_base.specs.Area.{Rect, has, is_within, size_of, width_of, height_of}
use Rattle.gui_damage.specs.Pending.{Pending, IsPending, covered, total}
use Rattle.gui_damage.proofs.Listed.{and_first}
use Rattle.gui_edge.specs.Panel.{PanelState, area_of}
use Rattle.gui_refresh.specs.Owing.{standing_of, AddingCounts, AddingFlies, RefreshCounts, PumpCounts, DoneIsClear}
use Rattle.gui_refresh.specs.Refreshes.{Keeps}
use Rattle.gui_refresh.specs.Stages.{Stage}
use Rattle.gui_refresh.specs.declared.Refreshed.TheVariants.{Done, Fault}
use Rattle.gui_refresh.proofs.Pumps.{rest_of, some_covered}
use Rattle.gui_refresh.proofs.Steps.{size_gone, first_pixel}
use Rattle.owed_defs.specs.Standings.{Refreshes}
use Rattle.owed_defs.specs.declared.Pumped.TheVariants.{Idle, Moved, Waiting, Fault as Failed}

whole_total : (panel : Rect) → total (panel ∷ []) ≡ size_of panel
whole_total panel = let one = sum_by-cons size_of panel [] in omega arith

pub adding_counts : AddingCounts
adding_counts now after areas adds = record {
  sent = refl;
  faults = refl;
  lists = elim adds.lists [
    | inl e ↦ let s = e.sizes in let n = e.counts in inl (record { sizes = omega arith; counts = n })
    | inr e ↦
        let is = ap total e.whole ∙ (whole_total after.panel ∙ ap size_of adds.panel) in
        let one = ap length e.whole in
        inr (record { whole = (omega arith, omega arith); full = e.full })
  ];
}

-- an area of the panel that is listed makes something pending, and nothing does where none is
some_listed : (p : Pending) (areas : List Rect) → IsPending p → 0 < length areas → list_all (is_within p.panel) areas ≡ true → (new : List Rect) → ((x y : ℤ) → covered areas x y ≡ true → covered new x y ≡ true) → nat_lt 0 (length new) ≡ true
some_listed p [] sound some inside new covers = absurd (omega arith)
some_listed p (area ∷ rest) sound some inside new covers = some_covered new _ _ (covers _ _ (or_left (has area area.x1 area.y1) (covered rest area.x1 area.y1) (first_pixel p.panel area (and_first _ _ inside))))

same_listed : (a b : ℕ) → (0 < a → 0 < b) → b ≤ a → nat_lt 0 b ≡ nat_lt 0 a
same_listed zero zero h k = refl
same_listed zero (suc b) h k = absurd (omega arith)
same_listed (suc a) zero h k = let z = h (omega arith) in absurd (omega arith)
same_listed (suc a) (suc b) h k = grind (arith, nat_tests)

still_some : (p : Pending) (new : List Rect) → IsPending p → ((x y : ℤ) → covered p.areas x y ≡ true → covered new x y ≡ true) → 0 < length p.areas → 0 < length new
still_some p new sound keeps some = let is = some_listed p p.areas sound some sound.each new keeps in grind (arith, nat_tests)

pub adding_flies : AddingFlies
adding_flies now after areas sound inside adds = record {
  some = λ some. some_listed now.pending areas sound some inside after.areas adds.covers;
  none = λ none. ap (λ b. record { pending = b; drawn = is_some now.refresher.drawn; flying = is_some now.panel.coming }) (same_listed (length now.pending.areas) (length after.areas) (still_some now.pending after.areas sound adds.keeps) (few none));
  drawn = refl;
  flying = refl;
} where
  few : length areas ≡ 0 → length after.areas ≤ length now.pending.areas
  few none = elim adds.lists [
    | inl e ↦ let n = e.counts in omega arith
    | inr e ↦ let full = e.full in let most = sound.few in absurd (omega arith)
  ]

panel_size : (panel : PanelState) → size_of (area_of panel) ≡ panel.width * panel.height
panel_size panel =
    let wide : width_of (area_of panel) ≡ panel.width = grind (arith, ints) in
    let high : height_of (area_of panel) ≡ panel.height = grind (arith, ints) in
    rw (wide, high) refl

sends : (color : ℤ → ℤ → Rgb565) (old new : Stage) (failed : ℕ) → Keeps color old new failed → old.panel.flush_faults + failed ≤ new.panel.flush_faults →
    Refreshes (new.panel.width * new.panel.height) old.refresher.sizes.limit (standing_of old) (standing_of new)
sends color old new failed k rose = elim k.sends [
  | inl e ↦ record { failed = failed; faults = rose; sends = inl (record { sizes = e.sizes; counts = e.counts }) }
  | inr e ↦
      let one = ap length e.whole in
      let size = ap size_of k.can.area ∙ panel_size new.panel in
      record { failed = failed; faults = rose; sends = inr (record { some = e.some; whole = omega arith; full = e.full; sizes = omega (arith, e.sizes, size) }) }
]

pub refresh_counts : RefreshCounts
refresh_counts color old new Done r = sends color old new 0 r.keeps (omega (arith, r.keeps.panel.flush_faults))
refresh_counts color old new Fault r = let s = r.fault refl in sends color old new 1 r.keeps (omega (arith, s.faults, s.rose))

pub pump_counts : PumpCounts
pump_counts color old new Idle r = sends color old new 0 r.keeps (omega (arith, r.keeps.panel.flush_faults))
pump_counts color old new Moved r = sends color old new 0 r.keeps (omega (arith, r.keeps.panel.flush_faults))
pump_counts color old new Waiting r = sends color old new 0 r.keeps (omega (arith, r.keeps.panel.flush_faults))
pump_counts color old new Failed r = let s = r.leaves in sends color old new 1 r.keeps (omega (arith, s.faults, s.rose))

pub done_is_clear : DoneIsClear
done_is_clear = record {
  clear = λ color old new r. let rest = (r.done refl).rest in record { pending = omega (arith, ap total rest.pending, size_gone new.refresher.drawn rest.drawn); listed = ap length rest.pending };
  rest = λ color old new r. rest_of new (r.done refl).rest;
}
