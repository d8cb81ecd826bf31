-- The lines of nodes ask for the changes that make their trees.
use Rattle.std.proofs.Common.{◌≡◌, ◌∙◌, refl, sym, ap, ap₂, subst, ℕ, zero, suc, ℤ, ◌+◌, ◌≤◌, ◌<◌, ◌^◌, true, false, not, ◌&&◌, List, [], ◌∷◌, ◌++◌, append_assoc, map, arith}
use Rattle.std.specs.Prelude.{Some, None, codes, pos, unsigned_abs, max}
use Rattle.std.specs.Fmt.{signed_decimal}
use Rattle.std.specs.List.{list_all, list_any}
use Rattle.std.specs.Ordering.{int_eq}
use Rattle.std.specs.declared.option.Option.{Option}
use Rattle.std.proofs.lemmas.List.{map-append, append-nil}
use Rattle.gui_base.specs.Forest.{Forest, Empty, Tree, and_then, all_by, height}
use Rattle.gui_base.specs.declared.Handle.{Handle}
use Rattle.gui_base.specs.declared.words.Kind.{Kind}
use Rattle.run_defs.specs.Commands.{handle, kind}
use Rattle.run_defs.specs.Fields.{value_or}
use Rattle.run_defs.specs.Language.{Word, Reading}
use Rattle.scene_defs.specs.declared.Change.{Change}
use Rattle.scene_defs.specs.declared.Change.TheVariants as change
use Rattle.serde_json.specs.Data.{Data, Items, no_items, item}
use Rattle.serde_json.specs.Find.{get, as_array}
use Rattle.line_texts.specs.Commands.{Says}
use Rattle.line_texts.specs.LineTexts.{is_plain}
use Rattle.scene_json.specs.Scenes.{own_lines, node_itself, head, in_nodes, node_of, node_lines}
use Rattle.scene_json.specs.Writing.{Writing, ◌>>=◌, put_line, put_id, each, in_list, if_there}
use Rattle.scene_json.proofs.Asking.{new_fits}
use Rattle.scene_check.specs.Integers.{are_short, items_short}
use Rattle.scene_check.specs.Made.{is_among, are_other}
use Rattle.scene_check.specs.Nodes.{node_named, trees_of_items, trees_in, children_in, tree_of, tree_at}
use Rattle.scene_check.specs.Outlines.{Node}
use Rattle.scene_check.specs.Trees.{Wanted, is_own, is_wanted, making, outline_wanted}
use Rattle.scene_check.proofs.Fielded.{lines_are_fielded}
use Rattle.scene_check.proofs.Holding.{both_hold, Or}
use Rattle.scene_check.proofs.Ids.{ids_say}
use Rattle.scene_check.proofs.Integers.{short_array, some_below}
use Rattle.scene_check.proofs.Lined.{Lined, lined_none, lined_more, lined_after, PutOr, put_or}
use Rattle.scene_check.proofs.Noting.{all_ids, ids_append, other_append, all_quiet, noted_among, Noted, NotedOr, noted_or}
use Rattle.scene_check.proofs.Owning.{Means, OwnOr, own_is_set}
use Rattle.scene_check.proofs.PlainWords.{HeadOr, plain_head, plain_id}
use lib.Signed.{mag}

-- what was added makes trees below p, of this outline and at most so high; before it the objects with these
-- handles are made
pub record Planted (p : Handle) (ids : List ℕ) (levels : ℕ) (outline : Forest Node) (w v : Writing) : Type 0 where
  pub trees : Forest Wanted
  pub lined : Lined w v (making p trees)
  pub noted : v.ids ≡ map pos (all_ids ids (making p trees))
  pub differ : are_other ids (making p trees) ≡ true
  pub stands : outline_wanted trees ≡ outline
  pub wanted : all_by is_wanted trees ≡ true
  pub low : height trees ≤ levels

abbrev pub PlantedOr : Handle → List ℕ → ℕ → Forest Node → Writing → Option Writing → Type 0
PlantedOr p ids levels outline w None = Unit {0}
PlantedOr p ids levels outline w (Some v) = Planted p ids levels outline w v

abbrev pub Plants : Handle → ℕ → Forest Node → (Writing → Option Writing) → Type 0
Plants p levels outline f = (ids : List ℕ) (w : Writing) → w.ids ≡ map pos ids → PlantedOr p ids levels outline w (f w)

-- Forests one after another.

making_both : (p : Handle) (f g : Forest Wanted) → making p (and_then f g) ≡ making p f ++ making p g
making_both p Empty g = refl
making_both p (Tree wanted cs rest) g =
    ap (λ (changes : List Change). change.New wanted.handle p wanted.kind ∷ changes)
    (ap (λ (changes : List Change). wanted.own ++ (making wanted.handle cs ++ changes)) (making_both p rest g)
    ∙ ap (λ (changes : List Change). wanted.own ++ changes) (sym (append_assoc (making wanted.handle cs) (making p rest) (making p g)))
    ∙ sym (append_assoc wanted.own (making wanted.handle cs ++ making p rest) (making p g)))

outline_both : (f g : Forest Wanted) → outline_wanted (and_then f g) ≡ and_then (outline_wanted f) (outline_wanted g)
outline_both Empty g = refl
outline_both (Tree wanted cs rest) g = rw (outline_both rest g) refl

wanted_both : (f g : Forest Wanted) → all_by is_wanted f ≡ true → all_by is_wanted g ≡ true → all_by is_wanted (and_then f g) ≡ true
wanted_both Empty g h k = k
wanted_both (Tree wanted cs rest) g h k =
    let first = both_hold (is_wanted wanted) (all_by is_wanted cs && all_by is_wanted rest) h in
    let others = both_hold (all_by is_wanted cs) (all_by is_wanted rest) first.1 in
    rw (first.0, others.0) (wanted_both rest g others.1 k)

low_both : (f g : Forest Wanted) (levels : ℕ) → height f ≤ levels → height g ≤ levels → height (and_then f g) ≤ levels
low_both Empty g levels h k = k
low_both (Tree wanted cs rest) g levels h k =
    let rests : height rest ≤ levels = omega (arith, h) in
    let later = low_both rest g levels rests k in
    omega (arith, h, later)

low_one : (n levels : ℕ) → n ≤ levels → max (n + 1) 0 ≤ suc levels
low_one n levels h = omega (arith, h)

module _ (p : Handle) (levels : ℕ) where
  planted_none : (ids : List ℕ) (w : Writing) → w.ids ≡ map pos ids → Planted p ids levels Empty w w
  planted_none ids w e = record {
    trees = Empty;
    lined = lined_none w w refl;
    noted = e;
    differ = refl;
    stands = refl;
    wanted = refl;
    low = omega arith;
  }

  planted_more : (ids : List ℕ) (f g : Forest Node) (w v u : Writing) (a : Planted p ids levels f w v) → Planted p (all_ids ids (making p a.trees)) levels g v u → Planted p ids levels (and_then f g) w u
  planted_more ids f g w v u a b =
      let both = making_both p a.trees b.trees in
      record {
        trees = and_then a.trees b.trees;
        lined = subst (λ (changes : List Change). Lined w u changes) (sym both) (lined_more w v u (making p a.trees) (making p b.trees) a.lined b.lined);
        noted = b.noted ∙ ap (map pos) (sym (ap (all_ids ids) both ∙ ids_append ids (making p a.trees) (making p b.trees)));
        differ = ap (are_other ids) both ∙ other_append ids (making p a.trees) (making p b.trees) a.differ b.differ;
        stands = outline_both a.trees b.trees ∙ ap₂ (λ (s t : Forest Node). and_then s t) a.stands b.stands;
        wanted = wanted_both a.trees b.trees a.wanted b.wanted;
        low = low_both a.trees b.trees levels a.low b.low;
      }

  planted_after : (ids : List ℕ) (f g : Forest Node) (w v : Writing) (o : Option Writing) (a : Planted p ids levels f w v) → PlantedOr p (all_ids ids (making p a.trees)) levels g v o → PlantedOr p ids levels (and_then f g) w o
  planted_after ids f g w v None a b = tt
  planted_after ids f g w v (Some u) a b = planted_more ids f g w v u a b

  planted_both : (ids : List ℕ) (f g : Forest Node) (w : Writing) (o : Option Writing) (step : Writing → Option Writing) → PlantedOr p ids levels f w o → Plants p levels g step → PlantedOr p ids levels (and_then f g) w (o >>= step)
  planted_both ids f g w None step a k = tt
  planted_both ids f g w (Some v) step a k = planted_after ids f g w v (step v) a (k (all_ids ids (making p a.trees)) v a.noted)

  planted_items : (child : Data → Writing → Option Writing) (tree : Data → Forest Node) → ((d : Data) → are_short d ≡ true → Plants p levels (tree d) (child d)) →
      (ds : Items) → items_short ds ≡ true → Plants p levels (trees_of_items tree ds) (each child ds)
  planted_items child tree k no_items s ids w e = planted_none ids w e
  planted_items child tree k (item d ds) s ids w e =
      let two = both_hold (are_short d) (items_short ds) s in
      planted_both ids (tree d) (trees_of_items tree ds) w (child d w) (each child ds) (k d two.0 ids w e) (planted_items child tree k ds two.1)

  pub planted_list : (child : Data → Writing → Option Writing) (tree : Data → Forest Node) → ((d : Data) → are_short d ≡ true → Plants p levels (tree d) (child d)) →
      (ds : Option Items) → Or items_short ds → Plants p levels (trees_in tree ds) (in_list child ds)
  planted_list child tree k None s ids w e = tt
  planted_list child tree k (Some ds) s ids w e = planted_items child tree k ds s ids w e

  planted_children : (child : Data → Writing → Option Writing) (tree : Data → Forest Node) → ((d : Data) → are_short d ≡ true → Plants p levels (tree d) (child d)) →
      (d : Option Data) → Or are_short d → Plants p levels (children_in tree d) (if_there d (in_nodes child))
  planted_children child tree k None s ids w e = planted_none ids w e
  planted_children child tree k (Some d) s ids w e = planted_list child tree k (as_array d) (short_array d s) ids w e

-- A node.

abbrev handle_of : ℤ → Handle
handle_of n = record { 0 = unsigned_abs n }

pub same_handles : (n : ℤ) (g h : Handle) → n ≡ pos g.0 → n ≡ pos h.0 → g ≡ h
same_handles n g h e f = ap handle_of (sym e ∙ f)

abbrev node_by : ℤ → Reading Kind → Node
node_by n reading = (unsigned_abs n, value_or kind.stand_in reading)

-- the line that makes an object was added, after its number was noted
record Begun (p : Handle) (ids : List ℕ) (number : ℤ) (word : Word) (w v : Writing) : Type 0 where
  n : Handle
  which : Kind
  is : number ≡ pos n.0
  says : Says kind word which
  lined : Lined w v (change.New n p which ∷ [])
  noted : v.ids ≡ map pos (ids ++ n.0 ∷ [])
  other : not (is_among n.0 ids) ≡ true

abbrev BegunOr : Handle → List ℕ → ℤ → Word → Writing → Option Writing → Type 0
BegunOr p ids number word w None = Unit {0}
BegunOr p ids number word w (Some v) = Begun p ids number word w v

-- and then what the node says of itself
record Noded (p : Handle) (ids : List ℕ) (number : ℤ) (word : Word) (w v : Writing) : Type 0 where
  n : Handle
  which : Kind
  own : List Change
  is : number ≡ pos n.0
  says : Says kind word which
  lined : Lined w v (change.New n p which ∷ own)
  noted : v.ids ≡ map pos (ids ++ n.0 ∷ [])
  other : not (is_among n.0 ids) ≡ true
  owned : list_all (is_own n.0 which) own ≡ true

abbrev NodedOr : Handle → List ℕ → ℤ → Word → Writing → Option Writing → Type 0
NodedOr p ids number word w None = Unit {0}
NodedOr p ids number word w (Some v) = Noded p ids number word w v

not_among : (ids : List ℕ) (n : ℕ) (number : ℤ) (ns : List ℤ) → number ≡ pos n → ns ≡ map pos ids → list_any (λ other. int_eq other number) ns ≡ false → not (is_among n ids) ≡ true
not_among ids n number ns e f h =
    let same : list_any (λ other. int_eq other number) ns ≡ is_among n ids =
    ap₂ (λ (m : ℤ) (ms : List ℤ). list_any (λ other. int_eq other m) ms) e f ∙ noted_among ids n in
    ap not (sym same ∙ h)

module _ (parent : Word) (p : Handle) (means : Means parent p) (plain : is_plain parent ≡ true) where
  module _ (number : ℤ) (small : mag number < 2 ^ 63) (word : Word) (plain_word : is_plain word ≡ true) where
    begun_by : (ids : List ℕ) (w v : Writing) (o : Option Writing) → w.ids ≡ map pos ids → Noted number w v → PutOr (codes "new") (signed_decimal number ∷ parent ∷ word ∷ []) v o → BegunOr p ids number word w o
    begun_by ids w v None e g q = tt
    begun_by ids w v (Some u) e g q =
        let m = lines_are_fielded.new (signed_decimal number) parent word q.change q.said in
        let is = ids_say.new number m.a small m.says_a in
        let asked : q.change ≡ change.New m.a p m.c = m.is ∙ ap (λ (b : Handle). change.New m.a b m.c) (means m.b m.says_b) in
        record {
          n = m.a;
          which = m.c;
          is = is;
          says = m.says_c;
          lined = subst (λ (c : Change). Lined w u (c ∷ [])) asked (lined_after w v u (q.change ∷ []) g.text q.lined);
          noted = q.ids ∙ g.ids ∙ ap₂ (λ (ns : List ℤ) (one : ℤ). ns ++ one ∷ []) e is ∙ sym (map-append pos ids (m.a.0 ∷ []));
          other = not_among ids m.a.0 number w.ids is e g.new;
        }

    begun : (ids : List ℕ) (w : Writing) (o : Option Writing) → w.ids ≡ map pos ids → NotedOr number w o → BegunOr p ids number word w (o >>= put_line (codes "new") (signed_decimal number ∷ parent ∷ word ∷ []))
    begun ids w None e g = tt
    begun ids w (Some v) e g =
        begun_by ids w v (put_line (codes "new") (signed_decimal number ∷ parent ∷ word ∷ []) v) e g
        (put_or (codes "new") (signed_decimal number ∷ parent ∷ word ∷ []) v (new_fits (signed_decimal number ∷ parent ∷ word ∷ [])) refl (rw (plain_id number small, plain, plain_word) refl))

    noded_by : (ids : List ℕ) (w v : Writing) (o : Option Writing) (b : Begun p ids number word w v) → OwnOr b.n b.which v o → NodedOr p ids number word w o
    noded_by ids w v None b q = tt
    noded_by ids w v (Some u) b q = record {
      n = b.n;
      which = b.which;
      own = q.changes;
      is = b.is;
      says = b.says;
      lined = lined_more w v u (change.New b.n p b.which ∷ []) q.changes b.lined q.lined;
      noted = q.ids ∙ b.noted;
      other = b.other;
      owned = q.own;
    }

    id_means : (n : Handle) → number ≡ pos n.0 → Means (signed_decimal number) n
    id_means n is g says = same_handles number g n (ids_say.there number g small says) is

    noded : (d : Data) → are_short d ≡ true → (ids : List ℕ) (w : Writing) (o : Option Writing) → BegunOr p ids number word w o → NodedOr p ids number word w (o >>= own_lines (signed_decimal number) word d)
    noded d s ids w None b = tt
    noded d s ids w (Some v) b =
        noded_by ids w v (own_lines (signed_decimal number) word d v) b
        (own_is_set (signed_decimal number) b.n b.which (id_means b.n b.is) (plain_id number small) word b.says d s v)

    named : (n : Handle) (which : Kind) → number ≡ pos n.0 → Says kind word which → node_named (number, word) ≡ (n.0, which)
    named n which is says = ap₂ (λ (m : ℤ) (r : Reading Kind). node_by m r) is says

    module _ (levels : ℕ) (below : Forest Node) where
      planted_node : (ids : List ℕ) (w v u : Writing) (b : Noded p ids number word w v) → Planted b.n (ids ++ b.n.0 ∷ []) levels below v u → Planted p ids (suc levels) (Tree (node_named (number, word)) below Empty) w u
      planted_node ids w v u b q =
          let wanted : Wanted = record { handle = b.n; kind = b.which; own = b.own } in
          let first : List Change = change.New b.n p b.which ∷ b.own in
          let after : List ℕ = ids ++ b.n.0 ∷ [] in
          let same : making p (Tree wanted q.trees Empty) ≡ first ++ making b.n q.trees =
          ap (λ (changes : List Change). first ++ changes) (append-nil (making b.n q.trees)) in
          let still = all_quiet after b.n.0 b.which b.own b.owned in
          let once : all_ids ids first ≡ after = still.kept in
          record {
            trees = Tree wanted q.trees Empty;
            lined = subst (λ (changes : List Change). Lined w u changes) (sym same) (lined_more w v u first (making b.n q.trees) b.lined q.lined);
            noted =
                q.noted ∙ ap (map pos) (sym (ap (all_ids ids) same ∙ ids_append ids first (making b.n q.trees)
                ∙ ap (λ (is : List ℕ). all_ids is (making b.n q.trees)) once));
            differ =
                ap (are_other ids) same
                ∙ other_append ids first (making b.n q.trees) (rw (b.other) still.other) (ap (λ (is : List ℕ). are_other is (making b.n q.trees)) once ∙ q.differ);
            stands = ap₂ (λ (node : Node) (cs : Forest Node). Tree node cs Empty) (sym (named b.n b.which b.is b.says)) q.stands;
            wanted = rw (b.owned, q.wanted) refl;
            low = low_one (height q.trees) levels q.low;
          }

      planted_below : (ids : List ℕ) (w v : Writing) (o : Option Writing) (b : Noded p ids number word w v) → PlantedOr b.n (ids ++ b.n.0 ∷ []) levels below v o → PlantedOr p ids (suc levels) (Tree (node_named (number, word)) below Empty) w o
      planted_below ids w v None b q = tt
      planted_below ids w v (Some u) b q = planted_node ids w v u b q

      planted_steps : (ids : List ℕ) (w : Writing) (o : Option Writing) (step : Writing → Option Writing) → NodedOr p ids number word w o →
          ((n : Handle) → Means (signed_decimal number) n → Plants n levels below step) → PlantedOr p ids (suc levels) (Tree (node_named (number, word)) below Empty) w (o >>= step)
      planted_steps ids w None step b k = tt
      planted_steps ids w (Some v) step b k = planted_below ids w v (step v) b (k b.n (id_means b.n b.is) (ids ++ b.n.0 ∷ []) v b.noted)

  -- with what its children make
  planted_tree : (levels : ℕ) (child : Word → Data → Writing → Option Writing) (tree : Data → Forest Node) →
      ((parent : Word) (p : Handle) → Means parent p → is_plain parent ≡ true → (d : Data) → are_short d ≡ true → Plants p levels (tree d) (child parent d)) →
      (d : Data) → are_short d ≡ true → (t : Option (ℤ × Word)) → HeadOr t → Plants p (suc levels) (tree_of tree d t) (node_of child parent d t)
  planted_tree levels child tree k d s None h ids w e = tt
  planted_tree levels child tree k d s (Some t) h ids w e =
      let id = signed_decimal t.0 in
      planted_steps t.0 h.0 t.1 h.1 levels (children_in tree (get (codes "children") d)) ids w
      (node_itself t.0 id parent t.1 d w) (if_there (get (codes "children") d) (in_nodes (child id)))
      (noded t.0 h.0 t.1 h.1 d s ids w (put_id t.0 w >>= put_line (codes "new") (id ∷ parent ∷ t.1 ∷ [])) (begun t.0 h.0 t.1 h.1 ids w (put_id t.0 w) e (noted_or t.0 w)))
      (λ n m. planted_children n levels (child id) tree (k id n m (plain_id t.0 h.0)) (get (codes "children") d) (some_below (codes "children") d s))

pub planted_lines : (levels : ℕ) (parent : Word) (p : Handle) → Means parent p → is_plain parent ≡ true → (d : Data) → are_short d ≡ true → Plants p levels (tree_at levels d) (node_lines levels parent d)
unfolding node_lines tree_at
planted_lines zero parent p m h d s ids w e = tt
planted_lines (suc levels) parent p m h d s ids w e = planted_tree parent p m h levels (node_lines levels) (tree_at levels) (planted_lines levels) d s (head d) (plain_head d s) ids w e
