-- How an open request is answered.
use Rattle.std.proofs.Common.{◌≡◌, ◌∙◌, subst, refl, ℕ, ◌≤ℤ◌, Bool, true, false, ◌&&◌, if◌then◌else◌, List, length, Option, Some, None, arith}
use Rattle.std.proofs.lemmas.Int.{ints}
use Rattle.std.proofs.lemmas.List.FromFn.{length-map-range_with_len}
use Rattle.gui_base.specs.declared.color.Rgb565.{Rgb565}
use Rattle.gui_base.specs.Area.{Rect, Covers, common, is_empty, is_within}
use Rattle.gui_base.proofs.Areas.{Around, around_Covers}
use Rattle.session_defs.specs.Updates.{Sight, is_news, news_area, asked, answered, unanswered, sends, sends_some}
use Rattle.session_defs.proofs.News.{around_least}
use Rattle.rfb_view.specs.Sights.{IsSight, due_in, area_due, told}
use Rattle.rfb_view.proofs.Lines.{block}

-- the answer sends what is due
due_sends : (width : ℕ) (colors : List Rgb565) (changes : Bool) (sight : Sight) (request : Option Rect) → sight.request ≡ request → answered width colors changes sight ≡ sends_some width colors (due_in width colors changes sight request) sight
unfolding answered
due_sends width colors changes sight None e = rw e refl
due_sends width colors false sight (Some area) e = rw e refl
due_sends width colors true sight (Some area) e = rw e refl

pub answered_is : (width : ℕ) (colors : List Rgb565) (changes : Bool) (sight : Sight) → answered width colors changes sight ≡ sends_some width colors (area_due width colors changes sight) sight
answered_is width colors changes sight = due_sends width colors changes sight sight.request refl

pub sends_none : (width : ℕ) (colors : List Rgb565) (changes : Bool) (sight : Sight) → is_empty (area_due width colors changes sight) ≡ true → answered width colors changes sight ≡ unanswered sight
sends_none width colors changes sight none = answered_is width colors changes sight ∙ by _ none
  where
    by : (b : Bool) → b ≡ true → (if b then unanswered sight else sends width colors (area_due width colors changes sight) sight) ≡ unanswered sight
    by b e = rw e refl

pub sends_due : (width : ℕ) (colors : List Rgb565) (changes : Bool) (sight : Sight) → is_empty (area_due width colors changes sight) ≡ false → answered width colors changes sight ≡ sends width colors (area_due width colors changes sight) sight
sends_due width colors changes sight some = answered_is width colors changes sight ∙ by _ some
  where
    by : (b : Bool) → b ≡ false → (if b then unanswered sight else sends width colors (area_due width colors changes sight) sight) ≡ sends width colors (area_due width colors changes sight) sight
    by b e = rw e refl

-- an area in another that lies on a panel
within_by : (width height : ℕ) (a b : Rect) → is_within (block 0 0 width height) a ≡ true → is_empty b ≡ false → Covers a b → is_within (block 0 0 width height) b ≡ true
within_by width height a b on some covers =
    let k : Around a b = around_Covers a b some covers in
    let l : a.x1 ≤ℤ b.x1 = k.left in
    let r : b.x2 ≤ℤ a.x2 = k.right in
    let t : a.y1 ≤ℤ b.y1 = k.top in
    let m : b.y2 ≤ℤ a.y2 = k.bottom in
    grind (arith, ints)

-- what is new of an area lies in it
news_in : (width : ℕ) (colors : List Rgb565) (sight : Sight) (area : Rect) → Covers area (news_area width colors sight area)
news_in width colors sight area = around_least width (is_news width sight.format colors sight.sent area) (length colors) area (λ i h. first _ _ h)
  where
    first : (a b : Bool) → (a && b) ≡ true → a ≡ true
    first true b h = refl
    first false b h = h

due_on : (width height : ℕ) (colors : List Rgb565) (changes : Bool) (sight : Sight) (request : Option Rect) → sight.request ≡ request → IsSight width height sight → is_empty (due_in width colors changes sight request) ≡ false → is_within (block 0 0 width height) (due_in width colors changes sight request) ≡ true
due_on width height colors changes sight None e ready some = absurd (cc)
due_on width height colors false sight (Some area) e ready some = ready.within area e
due_on width height colors true sight (Some area) e ready some = within_by width height area (news_area width colors sight area) (ready.within area e) some (news_in width colors sight area)

-- what is due lies on the panel
pub due_within : (width height : ℕ) (colors : List Rgb565) (changes : Bool) (sight : Sight) → IsSight width height sight → is_empty (area_due width colors changes sight) ≡ false → is_within (block 0 0 width height) (area_due width colors changes sight) ≡ true
due_within width height colors changes sight ready some = due_on width height colors changes sight sight.request refl ready some

-- Sights stay sights.

pub told_ready : (width height : ℕ) (colors : List Rgb565) (area : Rect) (sight : Sight) → IsSight width height sight → IsSight width height (told width colors area sight)
told_ready width height colors area sight ready = record {
  many = length-map-range_with_len _ 0 (length sight.sent) ∙ ready.many;
  within = λ a e. absurd (cc);
}

pub asked_ready : (width height : ℕ) (area : Rect) (sight : Sight) → IsSight width height sight → IsSight width height (asked (common area (block 0 0 width height)) sight)
asked_ready width height area sight ready = record { many = ready.many; within = λ a e. on (is_empty (common area (block 0 0 width height))) refl a e }
  where
    on : (none : Bool) → is_empty (common area (block 0 0 width height)) ≡ none → (a : Rect) → (if none then None else Some (common area (block 0 0 width height))) ≡ Some a → is_within (block 0 0 width height) a ≡ true
    on true is a e = absurd (cc)
    on false is a e =
        let same : common area (block 0 0 width height) ≡ a = cc in
        subst (λ (r : Rect). is_within (block 0 0 width height) r ≡ true) same (grind (arith, ints))
