use Rattle.std.proofs.Common.{◌≡◌, ◌∙◌, ◌+◌, ◌-◌, ◌≤◌, ◌++◌, sym, ap, ℕ, List, reverse, take, drop, length, append_assoc, arith}
use Rattle.std.proofs.lemmas.List.{drop-drop, drop-take, drop_at, length-append, length-drop, length-reverse, length-take-le, reverse-append, reverse-reverse, take_at}
use Rattle.gui_change.proofs.entries.bring_behind.Goals as goal
use borrow.Rule.Slice.PartMut.{put_mid}

-- Two parts, each reversed, and then both together: they change places.
module _ {X : Type 0} (es : List X) (n m : ℕ) (fits : n + m ≤ length es) (front back : List X) where
  abbrev parts : List X
  parts = put_mid n (n + m - n) (front ++ drop n es) back

  turned : (both : List X) → front ≡ reverse (take n es) → back ≡ reverse (take (n + m - n) (drop n (front ++ drop n es))) → both ≡ reverse (take (n + m) parts) →
      both ++ drop (n + m) parts ≡ drop n (take (n + m) es) ++ (take n es ++ drop (n + m) es)
  turned both first second third =
      let a = take n es in
      let b = take m (drop n es) in
      let c = drop (n + m) es in
      let more : n + m - n ≡ m = omega arith in
      let long : length front ≡ n = ap length first ∙ (length-reverse a ∙ length-take-le n es (omega (arith, fits))) in
      let later : drop n (front ++ drop n es) ≡ drop n es = drop_at front (drop n es) n long in
      let was : back ≡ reverse b = second ∙ ap (λ (l : List X). reverse l) (ap (take (n + m - n)) later ∙ ap (λ k. take k (drop n es)) more) in
      let rest : drop (n + m - n) (drop n (front ++ drop n es)) ≡ c = ap (drop (n + m - n)) later ∙ (ap (λ k. drop k (drop n es)) more ∙ drop-drop m n es) in
      let wide : length back ≡ m = ap length was ∙ (length-reverse b ∙ length-take-le m (drop n es) (omega (arith, fits, length-drop n es))) in
      let len : length (front ++ back) ≡ n + m = length-append front back ∙ (ap (λ k. k + length back) long ∙ ap (λ k. n + k) wide) in
      let now : parts ≡ (front ++ back) ++ c =
      ap (λ (l : List X). l ++ (back ++ drop (n + m - n) (drop n (front ++ drop n es)))) (take_at front (drop n es) n long)
      ∙ (ap (λ (l : List X). front ++ (back ++ l)) rest ∙ sym (append_assoc front back c)) in
      let twice : front ++ back ≡ reverse (b ++ a) = ap (λ (l : List X). l ++ back) first ∙ (ap (λ (l : List X). reverse a ++ l) was ∙ sym (reverse-append b a)) in
      let swapped : both ≡ b ++ a =
      third
      ∙ (ap (λ (l : List X). reverse (take (n + m) l)) now
      ∙ (ap (λ (l : List X). reverse l) (take_at (front ++ back) c (n + m) len ∙ twice) ∙ reverse-reverse (b ++ a))) in
      ap (λ (l : List X). l ++ drop (n + m) parts) swapped
      ∙ (ap (λ (l : List X). (b ++ a) ++ l) (ap (drop (n + m)) now ∙ drop_at (front ++ back) c (n + m) len)
      ∙ (append_assoc b a c ∙ ap (λ (l : List X). l ++ (a ++ c)) (sym (drop-take n m es))))

pub returns : goal.returns
returns c =
    turned c.args.listed.now c.args.len c.args.more c.requires c.reverse.new.self c.reverse-2.new.self c.reverse-3.new.self c.reverse.ensures.after c.reverse-2.ensures.after c.reverse-3.ensures.after
