use Rattle.std.proofs.Common.{◌≡◌, ◌∙◌, ◌≤◌, ◌+◌, refl, sym, ap, ℕ, Bool, true, false, cond, eqb, eq-eqb, [], ◌∷◌, Option, Some, None, arith}
use Rattle.std.specs.Option.{option_to_list}
use Rattle.std.specs.Prelude.{IfSome}
use Rattle.std.proofs.lemmas.Bool.{both_ways}
use Rattle.std.proofs.lemmas.List.{get_or-set_other, get_or-set_same}
use Rattle.gui_base.specs.declared.Handle.{Handle}
use Rattle.gui_boxes.specs.Listing.{times}
use Rattle.gui_boxes.specs.Settled.{Layout}
use Rattle.gui_boxes.specs.Standing.{not_standing, reported_at}
use Rattle.gui_boxes.specs.Tables.{reported_or, told, touched_or}
use Rattle.gui_boxes.specs.Touched.{is_touched, standing_at}
use Rattle.gui_boxes.proofs.Leaving.{times-both}
use Rattle.gui_boxes.proofs.Listed.{told_short}
use Rattle.gui_boxes.proofs.telling.tell.Goals as goal

-- how often an object is among those that are new: once where it is one of them
abbrev more : Option Handle → ℕ → ℕ
more news k = times (option_to_list news) k

few : (news : Option Handle) (k : ℕ) → more news k ≤ 1
few None k = omega arith
few (Some u) k = by (eqb u.0 k) where
  by : (b : Bool) → cond b 1 0 + 0 ≤ 1
  by true = omega arith
  by false = omega arith

none-more : (news : Option Handle) (h : Handle) → IfSome news (λ u. u ≡ h) → more news h.0 ≡ 0 → news ≡ None
none-more None h is off = refl
none-more (Some u) h is off =
    let one : times (u ∷ []) h.0 ≡ 1 + 0 = ap (λ b. cond b 1 0 + 0) (eq-eqb u.0 h.0 (ap (λ (w : Handle). w.0) is)) in
    absurd (omega arith)

other-more : (news : Option Handle) (h : Handle) (k : ℕ) → IfSome news (λ u. u ≡ h) → eqb h.0 k ≡ false → more news k ≡ 0
other-more None h k is other = refl
other-more (Some u) h k is other = ap (λ b. cond b 1 0 + 0) (ap (λ (w : Handle). eqb w.0 k) is ∙ other)

pub returns-clause-own : goal.returns-clause-own
returns-clause-own c =
    let t = c.args.entries.now in
    let l = told t in
    let h = c.args.h in
    let news = c.news_of-news.result in
    let done = c.let_rest.ensures.set in
    let long = times-both c.args.moved.now.items (option_to_list news) h.0 in
    let at = c.requires.listed in
    record {
      touched = c.requires.touched;
      rests = record {
        untouched = ap (λ (k : Layout). is_touched k h.0) done ∙ get_or-set_same l.touched h.0 false false (told_short touched_or t h.0 at);
        told = ap (λ (k : Layout). reported_at k.reported h.0) done ∙ (get_or-set_same l.reported h.0 (standing_at l h.0) not_standing (told_short reported_or t h.0 at) ∙ sym (ap (λ (k : Layout). standing_at k h.0) done));
      };
      more = more news h.0;
      listed = ap (λ hs. times hs h.0) c.add_any.ensures.items ∙ long;
      once = few news h.0;
      none = λ off. c.news_of-news.ensures.none (none-more news h c.news_of-news.ensures.own off);
      only = λ same. ap (λ o. more o h.0) (c.news_of-news.ensures.only same);
    }

pub returns-clause-others : goal.returns-clause-others
returns-clause-others c k other =
    let l = told c.args.entries.now in
    let h = c.args.h in
    let news = c.news_of-news.result in
    let done = c.let_rest.ensures.set in
    let long = times-both c.args.moved.now.items (option_to_list news) k in
    let off : times (option_to_list news) k ≡ 0 = other-more news h k c.news_of-news.ensures.own other in
    let apart : k ≡ h.0 → ⊥ = λ e. both_ways _ other (eq-eqb h.0 k (sym e)) in
    record {
      touched = ap (λ (j : Layout). is_touched j k) done ∙ get_or-set_other l.touched h.0 k false false apart;
      reported = ap (λ (j : Layout). reported_at j.reported k) done ∙ get_or-set_other l.reported h.0 k (standing_at l h.0) not_standing apart;
      listed = ap (λ hs. times hs k) c.add_any.ensures.items ∙ omega (arith, long, off);
    }

pub returns-clause-rest : goal.returns-clause-rest
returns-clause-rest c =
    let l = told c.args.entries.now in
    let done = c.let_rest.ensures.set in
    done ∙ (λ i. record l { touched = sym (ap (λ (k : Layout). k.touched) done) i; reported = sym (ap (λ (k : Layout). k.reported) done) i })
