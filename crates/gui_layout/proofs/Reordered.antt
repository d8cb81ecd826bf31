-- Places that stay settled where the children of one object stand in another order.
use Rattle.std.proofs.Common.{◌≡◌, ◌∙◌, ◌≤◌, refl, sym, ap, subst, ℕ, Bool, true, false, cond, eqb, eq-eqb, max, ◌-◌, List, map, inl, inr, arith}
use Rattle.std.proofs.lemmas.Bool.{cases_Bool, eqb-true, or_left, or_right, false≢true}
use Rattle.gui_base.specs.Forest.{Forest, Empty, Tree, children_of, has, map_forest, roots}
use Rattle.layout_defs.specs.Boxes.{Box, course_of}
use Rattle.layout_defs.specs.Solving.{Tall, Slot, Span, end_across, end_down, far_end, flat_slots, kid_reach, own_slot, reach_in, room_of}
use Rattle.layout_defs.specs.declared.Course.TheVariants.{Free}
use Rattle.layout_defs.proofs.Scrolling.{still_stands_flat}
use Rattle.scene_defs.specs.Scene.{Scene, handles_of}
use Rattle.scene_defs.specs.Valid.{IsValid}
use Rattle.gui_layout.specs.declared.places.Places.{Places}
use Rattle.gui_layout.specs.Marked.{is_root}
use Rattle.gui_layout.specs.Raised.{Rests}
use Rattle.gui_layout.specs.Scenes.{scene_box}
use Rattle.gui_layout.specs.Scrolled.{IsScrolledIn, scrolled_known}
use Rattle.gui_boxes.specs.Scrolls.{scrolled_by}
use Rattle.gui_boxes.specs.Settled.{IsSteady, Known, tall_of}
use Rattle.gui_layout.specs.SettledBut.{AreSettledButMarks, HasKids, IsReordered, nobody}
use Rattle.gui_layout.specs.Settles.{known_in}
use Rattle.gui_layout.specs.Solved.{AreSettled, AreStanding, layout_of}
use Rattle.gui_boxes.specs.Views.{box_at}
use Rattle.gui_layout.proofs.Before.{settled_but_marks}
use Rattle.gui_layout.proofs.Closing.{all-settled}
use Rattle.gui_layout.proofs.Grades.{settled-raised, steady-but}
use Rattle.gui_layout.proofs.Marking.{steady-is}
use Rattle.gui_layout.proofs.NaturalSizes.{all-naturals}
use Rattle.gui_layout.proofs.Overs.{kids-same}
use Rattle.gui_layout.proofs.ReachSizes.{all-reached}
use Rattle.gui_layout.proofs.Renewals.{some-box}
use Rattle.gui_layout.proofs.Rescrolled.{nobody-root}
use Rattle.gui_layout.proofs.Settling.{free-slots}
use Rattle.gui_layout.proofs.Stepping.{settles-none}

-- How far the farthest of children ends that stand by themselves goes by which they are, and not by their order.
module _ (end : Tall → Slot → ℕ) (own : Tall → Slot) (known : ℕ → Known) where
  abbrev talls : Forest ℕ → List Tall
  talls g = map tall_of (roots (map_forest known g))

  abbrev far : Forest ℕ → ℕ
  far g = far_end end (talls g) (map own (talls g))

  far-each : (k : ℕ) (g : Forest ℕ) → is_root k g ≡ true → (known k).box.hidden ≡ false → end (tall_of (known k)) (own (tall_of (known k))) ≤ far g
  far-each k Empty is shown = absurd (false≢true is)
  far-each k (Tree h cs rest) is shown = elim (cases_Bool (eqb h k)) [
    | inl same ↦
        let e : h ≡ k = eqb-true h k same in
        subst (λ j. end (tall_of (known k)) (own (tall_of (known k))) ≤ far (Tree j cs rest)) (sym e) (rw shown (omega arith))
    | inr other ↦
        let later = far-each k rest (rw other at is) shown in
        elim (cases_Bool (known h).box.hidden) [
          | inl hides ↦ rw hides later
          | inr shows ↦ rw shows (omega (arith, later))
        ]
  ]

  far-shown : (h : ℕ) (cs rest : Forest ℕ) → (known h).box.hidden ≡ false → far (Tree h cs rest) ≡ max (end (tall_of (known h)) (own (tall_of (known h)))) (far rest)
  far-shown h cs rest shows = ap (λ b. cond b (far rest) (max (end (tall_of (known h)) (own (tall_of (known h)))) (far rest))) shows

  far-fewer : (g f : Forest ℕ) → ((k : ℕ) → is_root k g ≡ true → is_root k f ≡ true) → far g ≤ far f
  far-fewer Empty f among = omega arith
  far-fewer (Tree h cs rest) f among =
      let later = far-fewer rest f (λ k i. among k (or_right (eqb h k) (is_root k rest) i)) in
      elim (cases_Bool (known h).box.hidden) [
        | inl hides ↦ rw hides later
        | inr shows ↦
            let own_end = far-each h f (among h (or_left (eqb h h) (is_root h rest) (eq-eqb h h refl))) shows in
            subst (λ n. n ≤ far f) (sym (far-shown h cs rest shows)) (omega (arith, own_end, later))
      ]

  pub far-same : (g f : Forest ℕ) → ((k : ℕ) → is_root k g ≡ true → is_root k f ≡ true) → ((k : ℕ) → is_root k f ≡ true → is_root k g ≡ true) → far g ≡ far f
  far-same g f among back =
      let a = far-fewer g f among in
      let b = far-fewer f g back in
      omega (arith, a, b)

-- children that stand by themselves
flat-free : (tall : Tall) (slot : Slot) (kids : List Tall) → course_of tall.box.flow ≡ Free → tall.box.scrollable ≡ false → flat_slots tall slot kids ≡ map (own_slot (room_of tall slot)) kids
flat-free tall slot kids free still = sym (still_stands_flat tall slot kids still) ∙ free-slots tall slot kids free still

abbrev span : ℕ → ℕ → Span
span across down = record { across = across; down = down }

-- so far they reach in whatever order
reach-same : (known : ℕ → Known) (tall : Tall) (slot : Slot) (g f : Forest ℕ) → IsSteady tall.box → ((k : ℕ) → is_root k g ≡ true → is_root k f ≡ true) → ((k : ℕ) → is_root k f ≡ true → is_root k g ≡ true) →
    kid_reach tall slot (map tall_of (roots (map_forest known g))) ≡ kid_reach tall slot (map tall_of (roots (map_forest known f)))
reach-same known tall slot g f steady among back =
    let room = room_of tall slot in
    let own = own_slot room in
    let ks = map tall_of (roots (map_forest known g)) in
    let js = map tall_of (roots (map_forest known f)) in
    ap (λ (ss : List Slot). reach_in room ks ss) (flat-free tall slot ks steady.free steady.still)
    ∙ (ap (λ n. span (n - room.width) (far_end (end_down room) ks (map own ks) - room.height)) (far-same (end_across room) own known g f among back)
    ∙ (ap (λ n. span (far_end (end_across room) js (map own js) - room.width) (n - room.height)) (far-same (end_down room) own known g f among back)
    ∙ sym (ap (λ (ss : List Slot). reach_in room js ss) (flat-free tall slot js steady.free steady.still))))

module _ (p : Places) (before scene : Scene) (q : ℕ) (settled : AreSettled p before) (valid : IsValid scene) (is : IsReordered before scene q) (rests : Rests (handles_of scene.trees) p.entries q) where
  abbrev f : Forest ℕ
  f = handles_of scene.trees

  abbrev g : Forest ℕ
  g = handles_of before.trees

  -- whose children alone may be others
  abbrev own : ℕ → Bool
  own k = eqb k q

  but : AreSettledButMarks p scene nobody own
  but = settled_but_marks p before scene nobody own settled is.once valid.trees.once is.limits (λ k un. is.each k)

  standing : AreStanding p scene
  standing =
      let raised = settled-raised p scene nobody own nobody (λ k on. on) (λ k on off. subst (λ j. Rests f p.entries j) (sym (eqb-true k q on)) rests) but in
      all-settled scene p p p nobody nobody (λ k there un. refl) (λ k there un same. same) (λ k there on. absurd (false≢true on)) (λ k there some. some refl)
      (settles-none scene p nobody) (λ k there. refl) valid raised.right (λ k. raised.there k refl)

  knows : (k : ℕ) → known_in p scene k ≡ known_in p before k
  knows k = ap (λ (b : Box). record (known_in p before k) { box = record b { handle = k } }) (is.each k).box

  steady : IsSteady (known_in p scene q).box
  steady =
      let boxed = some-box p.entries q (standing.there q ∙ rests.there) in
      steady-is (known_in p scene q).box (steady-but (box_at (layout_of p).boxes q) (scene_box scene q) (standing.boxes q boxed) rests.steady)

  -- of the object itself
  own-scrolled : IsScrolledIn (known_in p scene) (layout_of p).scrolls f q
  own-scrolled =
      let new = known_in p scene in
      let old = known_in p before in
      let cs = children_of f q in
      let ds = children_of g q in
      let there : has g q ≡ true = sym (is.each q).there ∙ rests.there in
      let kids : HasKids true nobody cs ds = subst (λ b. HasKids b nobody cs ds) (eq-eqb q q refl) (is.each q).kids in
      let among : (k : ℕ) → is_root k cs ≡ true → is_root k ds ≡ true = λ k i. kids k i refl in
      settled.scrolled q there
      ∙ (ap (λ (i : Known). scrolled_known i (roots (map_forest old ds))) (sym (knows q))
      ∙ (ap (λ (ks : List Known). scrolled_known (new q) ks) (sym (kids-same old new ds (λ j i. knows j)))
      ∙ ap (scrolled_by (tall_of (new q)).box) (sym (reach-same new (tall_of (new q)) (new q).slot cs ds steady among is.kept))))

  scrolled : (k : ℕ) → has f k ≡ true → IsScrolledIn (known_in p scene) (layout_of p).scrolls f k
  scrolled k there = elim (cases_Bool (eqb k q)) [
    | inl same ↦ subst (λ j. IsScrolledIn (known_in p scene) (layout_of p).scrolls f j) (sym (eqb-true k q same)) own-scrolled
    | inr other ↦ but.right.scrolled k there refl refl other (record { looked = λ j kid. refl; unchanged = nobody-root (children_of f k) })
  ]

  -- all stays settled
  pub still-settled : AreSettled p scene
  still-settled =
      let shown = all-reached scene valid p.entries standing.settled scrolled standing.there in
      record {
        boxes = standing.boxes;
        settled = standing.settled;
        there = standing.there;
        solved = standing.solved;
        scrolled = scrolled;
        calm = λ k there. settled.calm k (sym (is.each k).there ∙ there);
        reached = record { reaches = λ h. (shown h).reaches; offsets = λ h. (shown h).offsets };
        naturals = all-naturals scene valid p.entries standing.settled standing.there;
      }
