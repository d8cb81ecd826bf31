use Rattle.std.proofs.Common.{◌≡◌, ◌∙◌, refl, sym, ap, ◌+◌, eqb, if◌then◌else◌, ◌∷◌, ℕ}
use Rattle.std.specs.Str.{chars}
use Rattle.text_defs.specs.Lines.{segment_length}
use Rattle.gui_font.proofs.Scanning.{scanned_none, scanned_more, cut_whole, cut_broken, segment_at_newline, segment_at_end, chars_few}
use Rattle.gui_font.proofs.lines.first_line.Goals as goal
use Rattle.gui_font.proofs.lines.first_line.Goals.{in-Some+then-c-eq10, in_default}

pub letters-init : goal.letters-init
letters-init c = scanned_none _ (chars c.args.text.now) (record { count = 0; width = 0; rest = c.args.text }) refl refl refl

pub letters-preserved : goal.letters-preserved
letters-preserved c =
    rw c.noted-space.ensures (scanned_more _ (chars c.args.text.now) _ c.letters.stop.count c.in-Some.c c.letters.stop (record { count = c.letters.stop.count + 1; width = c.wider-width.result; rest = c.in-Some.rest }) c.letters.space
    refl c.letters.invariant c.in-Some.ensures.chars c.in-Some.ensures.bytes c.if-c-eq10.false
    (c.wider-width.ensures.value ∙ ap (λ (k : ℕ). c.letters.stop.width + k + (if eqb c.letters.stop.count 0 then 0 else c.args.look.letter)) c.advance-advance.ensures)
    (sym c.if-not-fits.ensures) (chars_few c.args.text.now c.utf8.text c.requires.short) c.wider-width.ensures.small)

pub returns-then-not-fits : goal.returns-then-not-fits
returns-then-not-fits c =
    cut_broken _ (chars c.args.text.now) _ c.letters.stop.count c.in-Some.c c.wider-width.result (chars c.in-Some.rest.now) c.letters.stop c.last_space-stop.result c.letters.space
    c.letters.invariant (sym c.letters.invariant.ends.left ∙ c.in-Some.ensures.chars) c.if-c-eq10.false
    (c.wider-width.ensures.value ∙ ap (λ (k : ℕ). c.letters.stop.width + k + (if eqb c.letters.stop.count 0 then 0 else c.args.look.letter)) c.advance-advance.ensures)
    (sym c.if-not-fits.ensures) c.last_space-stop.ensures

pub returns : goal.returns
returns c =
    let cs = chars c.args.text.now in
    let h = c.letters.invariant in
    let whole : segment_length cs ≡ c.letters.stop.count = elim c.match-first_char.branch [
      | in-Some+then-c-eq10 w ↦
          segment_at_newline cs c.letters.stop.count _ h.plain (sym h.ends.left ∙ (w.in-Some.ensures.chars ∙ ap (λ (k : ℕ). k ∷ chars w.in-Some.rest.now) w.if-c-eq10.true))
      | in_default w ↦ segment_at_end cs c.letters.stop.count h.plain (sym h.ends.left ∙ w.in_default.ensures.chars)
    ] in
    cut_whole _ cs _ _ _ _ h whole
