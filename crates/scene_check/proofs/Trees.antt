-- Trees grow as they are wanted.
use Rattle.std.proofs.Common.{◌≡◌, ◌∙◌, refl, sym, ap, subst, ℕ, ◌+◌, ◌≤◌, true, false, not, Bool, ◌&&◌, ◌||◌, List, [], ◌∷◌, ◌++◌, cond, eqb, arith}
use Rattle.std.specs.Prelude.{◌==◌, is_some, max}
use Rattle.std.specs.List.{list_all}
use Rattle.std.proofs.lemmas.Bool.Decides.{nat_tests}
use Rattle.gui_base.specs.Forest.{Forest, Empty, Tree, and_then, leaf, has, has_by, all_by, height, depth_of, parent_of, added_by}
use Rattle.gui_base.specs.declared.Handle.{Handle}
use Rattle.gui_base.specs.declared.intervals.TheConstants.{MAX_DEPTH}
use Rattle.gui_base.specs.declared.words.Kind.{Kind}
use Rattle.gui_base.proofs.Forests.{map-added_by, map-has_by}
use Rattle.scene_defs.specs.declared.Change.{Change}
use Rattle.scene_defs.specs.declared.Change.TheVariants as change
use Rattle.scene_defs.specs.Row.{has_text}
use Rattle.scene_check.specs.Growing.{grown}
use Rattle.scene_check.specs.Outlines.{Node, is_node, handle_in, handles_in, has_node, has_child, has_text_at, may_have, names_there, outline_after, all_there, outlined}
use Rattle.scene_check.specs.Trees.{Wanted, is_own, is_wanted, making, outline_wanted, is_new, all_new, with_trees, Grown, TreesGrow}
use Rattle.scene_check.proofs.Growing.{handles_grow}
use Rattle.scene_check.proofs.Holding.{both_hold, fails}

-- Changes one after another.

there_append : (o : Forest Node) (xs ys : List Change) → all_there o xs ≡ true → all_there (outlined o xs) ys ≡ true → all_there o (xs ++ ys) ≡ true
there_append o [] ys h k = k
there_append o (x ∷ xs) ys h k =
    let two = both_hold (names_there o x) (all_there (outline_after o x) xs) h in
    rw (two.0) (there_append (outline_after o x) xs ys two.1 k)

outlined_append : (o : Forest Node) (xs ys : List Change) → outlined o (xs ++ ys) ≡ outlined (outlined o xs) ys
outlined_append o [] ys = refl
outlined_append o (x ∷ xs) ys = outlined_append (outline_after o x) xs ys

new_append : (o : Forest Node) (xs ys : List Change) → all_new o (xs ++ ys) ≡ true → (all_new o xs ≡ true) × (all_new (outlined o xs) ys ≡ true)
new_append o [] ys h = (refl, h)
new_append o (x ∷ xs) ys h =
    let two = both_hold (is_new o x) (all_new (outline_after o x) (xs ++ ys)) h in
    let later = new_append (outline_after o x) xs ys two.1 in
    (rw (two.0) later.0, later.1)

-- What is there stays, and as deep.

record Kept (o after : Forest Node) (k : ℕ) : Type 0 where
  there : has_node after k ≡ true
  depth : depth_of (handles_in after) k ≡ depth_of (handles_in o) k

grown_handles : (o : Forest Node) (n p : ℕ) (kind : Kind) → handles_in (added_by (is_node p) (n, kind) o) ≡ grown (handles_in o) n p
grown_handles o n p kind = map-added_by handle_in (λ k. eqb k p) (λ k. eqb k p) (n, kind) o

other_than : (f : Forest ℕ) (n k : ℕ) → not (has f n) ≡ true → has f k ≡ true → eqb n k ≡ false
other_than f n k h e = by (eqb n k) refl where
  by : (b : Bool) → eqb n k ≡ b → b ≡ false
  by true is = let same : n ≡ k = grind (arith, nat_tests, is) in
      let there : has f n ≡ true = ap (has f) same ∙ e in
      grind (arith, h, there)
  by false is = refl

kept_new : (o : Forest Node) (n p k : ℕ) (kind : Kind) → not (has_node o n) ≡ true → has_node o k ≡ true → Kept o (added_by (is_node p) (n, kind) o) k
kept_new o n p k kind h e =
    let f = handles_in o in
    let g = grown_handles o n p kind in
    record {
      there = ap (λ (t : Forest ℕ). has t k) g ∙ handles_grow.has_grown f n p k ∙ rw e refl;
      depth = ap (λ (t : Forest ℕ). depth_of t k) g ∙ handles_grow.depth_kept f n p k (other_than f n k h e);
    }

kept_once : (o : Forest Node) (c : Change) (k : ℕ) → names_there o c ≡ true → has_node o k ≡ true → Kept o (outline_after o c) k
kept_once o (change.New n p kind) k h e =
    let two = both_hold (has_node o p.0) (not (has_node o n.0) && not (depth_of (handles_in o) p.0 == MAX_DEPTH)) h in
    kept_new o n.0 p.0 k kind (both_hold (not (has_node o n.0)) (not (depth_of (handles_in o) p.0 == MAX_DEPTH)) two.1).0 e
kept_once o (change.Size g width height) k h e = record { there = e; depth = refl }
kept_once o (change.Pos g x y) k h e = record { there = e; depth = refl }
kept_once o (change.Flag g flag on) k h e = record { there = e; depth = refl }
kept_once o (change.Text g text) k h e = record { there = e; depth = refl }
kept_once o (change.Local g selector prop value) k h e = record { there = e; depth = refl }
kept_once o c k is e = cc

kept : (o : Forest Node) (cs : List Change) (k : ℕ) → all_there o cs ≡ true → has_node o k ≡ true → Kept o (outlined o cs) k
kept o [] k h e = record { there = e; depth = refl }
kept o (c ∷ cs) k h e =
    let two = both_hold (names_there o c) (all_there (outline_after o c) cs) h in
    let once = kept_once o c k two.0 e in
    let later = kept (outline_after o c) cs k two.1 once.there in
    record { there = later.there; depth = later.depth ∙ once.depth }

-- What is an object's own.

record Owned (o : Forest Node) (c : Change) : Type 0 where
  there : names_there o c ≡ true
  same : outline_after o c ≡ o

named : (o : Forest Node) (g h : ℕ) → (g == h) ≡ true → has_child o h ≡ true → has_child o g ≡ true
named o g h e k = let same : h ≡ g = grind (arith, nat_tests, e) in subst (λ (i : ℕ). has_child o i ≡ true) same k

named_there : (o : Forest Node) (g h : ℕ) → (g == h) ≡ true → has_child o h ≡ true → has_node o g ≡ true
named_there o g h e k = (both_hold (has_node o g) (is_some (parent_of (handles_in o) g)) (named o g h e k)).0

owned : (o : Forest Node) (h : ℕ) (kind : Kind) (c : Change) → has_child o h ≡ true → has_text_at h o ≡ has_text kind → is_own h kind c ≡ true → Owned o c
owned o h kind (change.Size g width height) k t e = record { there = named o g.0 h e k; same = refl }
owned o h kind (change.Pos g x y) k t e = record { there = named o g.0 h e k; same = refl }
owned o h kind (change.Flag g flag on) k t e = record { there = named_there o g.0 h e k; same = refl }
owned o h kind (change.Text g text) k t e =
    let two = both_hold (g.0 == h) (has_text kind) e in
    let same : h ≡ g.0 = grind (arith, nat_tests, two) in
    let texts : has_text_at g.0 o ≡ true = subst (λ (i : ℕ). has_text_at i o ≡ true) same (t ∙ two.1) in
    record { there = rw (named_there o g.0 h two.0 k, texts) refl; same = refl }
owned o h kind (change.Local g selector prop value) k t e =
    let two = both_hold (g.0 == h) _ e in
    record { there = rw (named_there o g.0 h two.0 k) two.1; same = refl }
owned o h kind c k t e = cc

record AllOwned (o : Forest Node) (cs : List Change) : Type 0 where
  there : all_there o cs ≡ true
  same : outlined o cs ≡ o

all_owned : (o : Forest Node) (h : ℕ) (kind : Kind) (cs : List Change) → has_child o h ≡ true → has_text_at h o ≡ has_text kind → list_all (is_own h kind) cs ≡ true → AllOwned o cs
all_owned o h kind [] k t e = record { there = refl; same = refl }
all_owned o h kind (c ∷ cs) k t e =
    let two = both_hold (is_own h kind c) (list_all (is_own h kind) cs) e in
    let one = owned o h kind c k t two.0 in
    let later = all_owned o h kind cs k t two.1 in
    record {
      there = rw (one.there) (ap (λ (i : Forest Node). all_there i cs) one.same ∙ later.there);
      same = ap (λ (i : Forest Node). outlined i cs) one.same ∙ later.same;
    }

-- Outlines with more children.

same_number : (n : ℕ) → eqb n n ≡ true
same_number n = grind (arith, nat_tests)

none_of : (a b c : Bool) → (a || (b || c)) ≡ false → (a ≡ false) × ((b ≡ false) × (c ≡ false))
none_of true b c e = cc
none_of false true c e = cc
none_of false false true e = cc
none_of false false false e = (refl, (refl, refl))

nothing_more : (f : Forest Node) → and_then f Empty ≡ f
nothing_more Empty = refl
nothing_more (Tree node cs rest) = rw (nothing_more rest) refl

with_none : (p : ℕ) (o : Forest Node) → with_trees p Empty o ≡ o
with_none p Empty = refl
with_none p (Tree node cs rest) = by (is_node p node) (with_none p cs) (with_none p rest) where
  by : (here : Bool) → with_trees p Empty cs ≡ cs → with_trees p Empty rest ≡ rest → cond here (Tree node (and_then cs Empty) rest) (Tree node (with_trees p Empty cs) (with_trees p Empty rest)) ≡ Tree node cs rest
  by true e f = rw (nothing_more cs) refl
  by false e f = rw (e, f) refl

with_absent : (n : ℕ) (t o : Forest Node) → has_node o n ≡ false → with_trees n t o ≡ o
with_absent n t Empty h = refl
with_absent n t (Tree node cs rest) h =
    let none = none_of (is_node n node) (has_node cs n) (has_node rest n) h in
    rw (none.0, with_absent n t cs none.1.0, with_absent n t rest none.1.1) refl

at_end : (n : ℕ) (kind : Kind) (t f : Forest Node) → has_node f n ≡ false → with_trees n t (and_then f (leaf (n, kind))) ≡ and_then f (Tree (n, kind) t Empty)
at_end n kind t Empty h = rw (same_number n) refl
at_end n kind t (Tree node cs rest) h =
    let none = none_of (is_node n node) (has_node cs n) (has_node rest n) h in
    rw (none.0, with_absent n t cs none.1.0, at_end n kind t rest none.1.1) refl

-- what goes below a new child of p goes below p with it
grown_below : (o : Forest Node) (p n : ℕ) (kind : Kind) (t : Forest Node) → has_node o n ≡ false → with_trees n t (added_by (is_node p) (n, kind) o) ≡ with_trees p (Tree (n, kind) t Empty) o
grown_below Empty p n kind t h = refl
grown_below (Tree node cs rest) p n kind t h =
    let none = none_of (is_node n node) (has_node cs n) (has_node rest n) h in
    by (is_node p node) none.0 (at_end n kind t cs none.1.0) (with_absent n t rest none.1.1) (grown_below cs p n kind t none.1.0) (grown_below rest p n kind t none.1.1) where
      by : (here : Bool) → is_node n node ≡ false →
          with_trees n t (and_then cs (leaf (n, kind))) ≡ and_then cs (Tree (n, kind) t Empty) → with_trees n t rest ≡ rest →
          with_trees n t (added_by (is_node p) (n, kind) cs) ≡ with_trees p (Tree (n, kind) t Empty) cs → with_trees n t (added_by (is_node p) (n, kind) rest) ≡ with_trees p (Tree (n, kind) t Empty) rest →
          with_trees n t (cond here (Tree node (and_then cs (leaf (n, kind))) rest) (Tree node (added_by (is_node p) (n, kind) cs) (added_by (is_node p) (n, kind) rest)))
          ≡ cond here (Tree node (and_then cs (Tree (n, kind) t Empty)) rest) (Tree node (with_trees p (Tree (n, kind) t Empty) cs) (with_trees p (Tree (n, kind) t Empty) rest))
      by true a b c e f = rw (a, b, c) refl
      by false a b c e f = rw (a, e, f) refl

chained : (c : Forest Node) (node : Node) (x r : Forest Node) → and_then (and_then c (Tree node x Empty)) r ≡ and_then c (Tree node x r)
chained Empty node x r = refl
chained (Tree first cs rest) node x r = rw (chained rest node x r) refl

-- children that are added twice are added at once
joined : (o : Forest Node) (p : ℕ) (node : Node) (x r : Forest Node) → with_trees p r (with_trees p (Tree node x Empty) o) ≡ with_trees p (Tree node x r) o
joined Empty p node x r = refl
joined (Tree row cs rest) p node x r = by (is_node p row) refl (joined cs p node x r) (joined rest p node x r) where
  by : (here : Bool) → is_node p row ≡ here → with_trees p r (with_trees p (Tree node x Empty) cs) ≡ with_trees p (Tree node x r) cs → with_trees p r (with_trees p (Tree node x Empty) rest) ≡ with_trees p (Tree node x r) rest →
      with_trees p r (cond here (Tree row (and_then cs (Tree node x Empty)) rest) (Tree row (with_trees p (Tree node x Empty) cs) (with_trees p (Tree node x Empty) rest)))
      ≡ cond here (Tree row (and_then cs (Tree node x r)) rest) (Tree row (with_trees p (Tree node x r) cs) (with_trees p (Tree node x r) rest))
  by true is e f = rw (is, chained cs node x r) refl
  by false is e f = rw (is, e, f) refl

-- The kind of what is new.

nodes_in : (f : Forest Node) (n : ℕ) → has_by (is_node n) f ≡ has_node f n
nodes_in f n = sym (map-has_by handle_in (λ k. eqb k n) f)

or_true : (a b : Bool) → (a || (b || true)) ≡ true
or_true true b = refl
or_true false true = refl
or_true false false = refl

and_true : (a : Bool) → (a && true) ≡ a
and_true true = refl
and_true false = refl

last_there : (f : Forest Node) (n : ℕ) (kind : Kind) → has_by (is_node n) (and_then f (leaf (n, kind))) ≡ true
last_there Empty n kind = rw (same_number n) refl
last_there (Tree node cs rest) n kind = rw (last_there rest n kind) (or_true (is_node n node) (has_by (is_node n) cs))

text_last : (f : Forest Node) (n : ℕ) (kind : Kind) → has_node f n ≡ false → has_text_at n (and_then f (leaf (n, kind))) ≡ has_text kind
text_last Empty n kind h = rw (same_number n) refl
text_last (Tree node cs rest) n kind h =
    let none = none_of (is_node n node) (has_node cs n) (has_node rest n) h in
    rw (none.0, nodes_in cs n, none.1.0) (text_last rest n kind none.1.1)

added_there : (f : Forest Node) (n p : ℕ) (kind : Kind) → has_node f n ≡ false → has_by (is_node n) (added_by (is_node p) (n, kind) f) ≡ has_node f p
added_there f n p kind h =
    nodes_in (added_by (is_node p) (n, kind) f) n ∙ ap (λ (t : Forest ℕ). has t n) (grown_handles f n p kind)
    ∙ handles_grow.has_grown (handles_in f) n p n ∙ rw (h, same_number n) (and_true (has_node f p))

text_new : (o : Forest Node) (n p : ℕ) (kind : Kind) → has_node o p ≡ true → has_node o n ≡ false → has_text_at n (added_by (is_node p) (n, kind) o) ≡ has_text kind
text_new Empty n p kind i h = cc
text_new (Tree node cs rest) n p kind i h =
    let none = none_of (is_node n node) (has_node cs n) (has_node rest n) h in
    by (is_node p node) (has_node cs p) refl i none.0 (last_there cs n kind) (text_last cs n kind none.1.0) (added_there cs n p kind none.1.0)
    (λ j. text_new cs n p kind j none.1.0) (λ j. text_new rest n p kind j none.1.1) where
      by : (here below : Bool) → has_node cs p ≡ below → (here || (below || has_node rest p)) ≡ true → is_node n node ≡ false →
          has_by (is_node n) (and_then cs (leaf (n, kind))) ≡ true → has_text_at n (and_then cs (leaf (n, kind))) ≡ has_text kind →
          has_by (is_node n) (added_by (is_node p) (n, kind) cs) ≡ has_node cs p →
          (has_node cs p ≡ true → has_text_at n (added_by (is_node p) (n, kind) cs) ≡ has_text kind) →
          (has_node rest p ≡ true → has_text_at n (added_by (is_node p) (n, kind) rest) ≡ has_text kind) →
          has_text_at n (cond here (Tree node (and_then cs (leaf (n, kind))) rest) (Tree node (added_by (is_node p) (n, kind) cs) (added_by (is_node p) (n, kind) rest))) ≡ has_text kind
      by true below e i a b c d f g = rw (a, b) c
      by false true e i a b c d f g = rw (a, d, e) (f e)
      by false false e i a b c d f g = rw (a, d, e) (g i)

-- Trees.

not_deepest : (d a b : ℕ) → d + max (a + 1) b ≤ 16 → not (d == 16) ≡ true
not_deepest d a b h = let less : d + 1 ≤ 16 = omega (arith, h) in grind (arith, nat_tests, less)

room_below : (d e a b : ℕ) → d + max (a + 1) b ≤ 16 → e ≡ d + 1 → e + a ≤ 16
room_below d e a b h same = omega (arith, h, same)

room_beside : (d e a b : ℕ) → d + max (a + 1) b ≤ 16 → e ≡ d → e + b ≤ 16
room_beside d e a b h same = omega (arith, h, same)

grow : (o : Forest Node) (p : Handle) (trees : Forest Wanted) → has_node o p.0 ≡ true → depth_of (handles_in o) p.0 + height trees ≤ 16 →
    all_by is_wanted trees ≡ true → all_new o (making p trees) ≡ true → Grown o p trees
grow o p Empty i d w f = record { there = refl; stands = sym (with_none p.0 o) }
grow o p (Tree wanted cs rest) i d w f =
    let n = wanted.handle in
    let kind = wanted.kind in
    let first = handles_in o in
    let o1 = added_by (is_node p.0) (n.0, kind) o in
    let handles = grown_handles o n.0 p.0 kind in
    let later = making n cs ++ making p rest in
    let news = both_hold (not (has_node o n.0)) (all_new o1 (wanted.own ++ later)) f in
    let absent : has_node o n.0 ≡ false = fails (has_node o n.0) news.0 in
    let wants = both_hold (is_wanted wanted) (all_by is_wanted cs && all_by is_wanted rest) w in
    let others = both_hold (all_by is_wanted cs) (all_by is_wanted rest) wants.1 in
    let fits : may_have o p.0 n.0 ≡ true = rw (i, news.0) (not_deepest (depth_of first p.0) (height cs) (height rest) d) in
    let has_n : has_node o1 n.0 ≡ true = ap (λ (t : Forest ℕ). has t n.0) handles ∙ handles_grow.has_grown first n.0 p.0 n.0 ∙ rw (absent, i, same_number n.0) refl in
    let child_n : has_child o1 n.0 ≡ true = rw has_n (ap (λ (t : Forest ℕ). is_some (parent_of t n.0)) handles ∙ handles_grow.parent_new first n.0 p.0 i absent) in
    let depth_n : depth_of (handles_in o1) n.0 ≡ depth_of first p.0 + 1 = ap (λ (t : Forest ℕ). depth_of t n.0) handles ∙ handles_grow.depth_new first n.0 p.0 i absent in
    let own = all_owned o1 n.0 kind wanted.own child_n (text_new o n.0 p.0 kind i absent) wants.0 in
    let new_later : all_new o1 later ≡ true = ap (λ (t : Forest Node). all_new t later) (sym own.same) ∙ (new_append o1 wanted.own later news.1).1 in
    let new_parts = new_append o1 (making n cs) (making p rest) new_later in
    let below = grow o1 n cs has_n (room_below (depth_of first p.0) (depth_of (handles_in o1) n.0) (height cs) (height rest) d depth_n) others.0 new_parts.0 in
    let o2 = outlined o1 (making n cs) in
    let once = kept_new o n.0 p.0 p.0 kind news.0 i in
    let still = kept o1 (making n cs) p.0 below.there once.there in
    let beside = grow o2 p rest still.there (room_beside (depth_of first p.0) (depth_of (handles_in o2) p.0) (height cs) (height rest) d (still.depth ∙ once.depth)) others.1 new_parts.1 in
    record {
      there = rw fits (there_append o1 wanted.own later own.there
          (ap (λ (t : Forest Node). all_there t later) own.same ∙ there_append o1 (making n cs) (making p rest) below.there beside.there));
      stands =
          outlined_append o1 wanted.own later
          ∙ ap (λ (t : Forest Node). outlined t later) own.same
          ∙ outlined_append o1 (making n cs) (making p rest)
          ∙ beside.stands
          ∙ ap (with_trees p.0 (outline_wanted rest)) (below.stands ∙ grown_below o p.0 n.0 kind (outline_wanted cs) absent)
          ∙ joined o p.0 (n.0, kind) (outline_wanted cs) (outline_wanted rest);
    }

pub trees_grow : TreesGrow
trees_grow = record { grow = grow }
