-- The edits of the objects of a scene: of the trees, of the screen that is active, and of a text.
use Rattle.std.specs.Prelude.{ℕ, Bool, true, false, not, ◌==◌, ◌-◌, List, [], ◌∷◌, ◌++◌, Some, None}
use Rattle.std.specs.declared.option.Option.{Option}
use Rattle.gui_base.specs.declared.Handle.{Handle}
use Rattle.gui_base.specs.declared.limits.Pool.{Pool}
use Rattle.gui_base.specs.declared.limits.Pool.TheVariants.{Objects, Entries, Uses, Texts}
use Rattle.gui_base.specs.declared.words.Kind.{Kind}
use Rattle.gui_base.specs.declared.words.Kind.TheVariants.{Screen}
use Rattle.style_defs.specs.Book.{Book, all_forgotten, entries_in, uses_in}
use Rattle.gui_base.specs.Forest.{Forest, and_then, leaf, added_by, cut_by, moved_by, moved_last_by, size}
use Rattle.gui_base.specs.Forest.{preorder}
use Rattle.gui_base.specs.Forest.{tree_by, parent_by, with_row_by}
use Rattle.gui_base.specs.Refusing.{Test, absent, root_tests, child_tests}
use Rattle.gui_base.specs.Refusing.{removal_tests, move_tests, parent_tests, Place}
use Rattle.gui_base.specs.Refusing.{Kind as WrongKind}
use Rattle.gui_pool.specs.Texts.{need_of as chunks_of}
use Rattle.scene_defs.specs.declared.Feature.{Feature}
use Rattle.scene_defs.specs.declared.Feature.TheVariants.{Text}
use Rattle.scene_defs.specs.declared.Row.{Row}
use Rattle.scene_defs.specs.Row.{has_feature}
use Rattle.scene_defs.specs.Scene.{Object, Scene, is_at, handles_of, object_at, new_object, chunks_in}
use Rattle.scene_defs.specs.Styling.{no_slots}

-- What an edit looks at.

-- the tree at h alone
abbrev pub tree_below : Scene → ℕ → Forest Object
tree_below scene h = tree_by (is_at h) scene.trees

-- the object above h, which a root has not
abbrev pub parent_object : Scene → ℕ → Option Object
parent_object scene h = parent_by (is_at h) None scene.trees

-- whether it is the kind of a screen
abbrev pub is_screen_kind : Kind → Bool
is_screen_kind Screen = true
is_screen_kind kind = false

-- whether there is an object that is a screen
abbrev pub has_screen : Option Object → Bool
has_screen None = false
has_screen (Some object) = is_screen_kind object.row.kind

-- whether h is a screen that is there
abbrev pub is_screen : Scene → ℕ → Bool
is_screen scene h = has_screen (object_at scene h)

-- whether there is an object whose kind has a feature
abbrev pub is_featured : Feature → Option Object → Bool
is_featured feature None = false
is_featured feature (Some object) = has_feature feature object.row.kind

-- whether h is there and its kind has a feature
abbrev pub has_feature_at : Scene → Feature → ℕ → Bool
has_feature_at scene feature h = is_featured feature (object_at scene h)

-- the text of an object
abbrev pub text_of : Option Object → List ℕ
text_of None = []
text_of (Some object) = object.text

-- the text of h, empty where it is not there
abbrev pub text_at : Scene → ℕ → List ℕ
text_at scene h = text_of (object_at scene h)

-- the handles of h and of all below it
abbrev pub below : Scene → ℕ → List ℕ
below scene h = preorder (handles_of (tree_below scene h))

-- the book without what h and all below it have
abbrev pub book_without : Scene → ℕ → Book
book_without scene h = all_forgotten scene.book (below scene h)

-- an object whose kind has not the feature that is needed
abbrev pub kind_tests : Scene → Option Feature → ℕ → List Test
kind_tests scene None h = []
kind_tests scene (Some feature) h = (not (has_feature_at scene feature h), WrongKind) ∷ []

-- The trees after an edit.

-- one root more, the last
abbrev pub with_screen : Forest Object → ℕ → Forest Object
with_screen trees n = and_then trees (leaf (new_object n Screen))

-- one child of p more, the last
abbrev pub with_object : Forest Object → ℕ → ℕ → Kind → Forest Object
with_object trees n p kind = added_by (is_at p) (new_object n kind) trees

-- without h and all below it
abbrev pub without : Forest Object → ℕ → Forest Object
without trees h = cut_by (is_at h) trees

-- the tree at h becomes the last child of p
abbrev pub moved_last : Forest Object → ℕ → ℕ → Forest Object
moved_last trees h p = moved_last_by (is_at h) (is_at p) trees

-- the tree at h becomes the child of p before which so many others stand, or the last
abbrev pub moved_to : Forest Object → ℕ → ℕ → ℕ → Forest Object
moved_to trees h p n = moved_by (is_at h) (is_at p) n trees

-- the same for p, if there is one
abbrev pub last_below : Option Object → Forest Object → ℕ → Forest Object
last_below None trees h = trees
last_below (Some p) trees h = moved_last trees h p.handle

-- the tree at h goes to an index among the children of p, if there is one
abbrev pub at_index_below : Option Object → Forest Object → ℕ → ℕ → Forest Object
at_index_below None trees h n = trees
at_index_below (Some p) trees h n = moved_to trees h p.handle n

-- an object with f of its row
abbrev pub over_row : (Row → Row) → Object → Object
over_row f object = record object { row = f object.row }

-- the scene with f of the row of h
abbrev pub with_row : Scene → ℕ → (Row → Row) → Scene
with_row scene h f = record scene { trees = with_row_by (is_at h) (over_row f) scene.trees }

-- an object with another text
abbrev pub over_text : List ℕ → Object → Object
over_text text object = record object { text = text }

-- the scene with this text of h
abbrev pub with_text : Scene → ℕ → List ℕ → Scene
with_text scene h text = record scene { trees = with_row_by (is_at h) (over_text text) scene.trees }

-- An edit of the objects, and of nothing else but what goes with objects that it removes.
pub record Edit : Type 0 where
  -- the kind of the object that it makes below another
  pub makes : Option Kind
  -- the object that it removes, with all below it
  pub removes : Option Handle
  -- what refuses it, whatever room there is
  pub tests : Scene → List Test
  -- how many slots of each pool it takes, and how many it frees
  pub need : Scene → Pool → ℕ
  pub freed : Scene → Pool → ℕ
  -- the scene after it
  pub after : Scene → Scene

-- The edits.

-- so many slots of the pool of objects, and none of the others
abbrev pub of_objects : ℕ → Pool → ℕ
of_objects n Objects = n
of_objects n pool = 0

-- so many chunks of the pool of texts, and none of the others
abbrev pub of_texts : ℕ → Pool → ℕ
of_texts n Texts = n
of_texts n pool = 0

-- the slots of the tree at h, and of what its objects have
abbrev pub of_tree : Scene → ℕ → Pool → ℕ
of_tree scene h Objects = size (tree_below scene h)
of_tree scene h Texts = chunks_in (tree_below scene h)
of_tree scene h Entries = entries_in scene.book - entries_in (book_without scene h)
of_tree scene h Uses = uses_in scene.book - uses_in (book_without scene h)
of_tree scene h pool = 0

-- a new screen, the last root
abbrev pub screen_made : Handle → Edit
screen_made n = record {
  makes = None;
  removes = None;
  tests = λ scene. root_tests (handles_of scene.trees) n.0;
  need = λ scene. of_objects 1;
  freed = λ scene. no_slots;
  after = λ scene. record scene { trees = with_screen scene.trees n.0 };
}

-- a new object, the last child of p
abbrev pub object_made : Handle → Handle → Kind → Edit
object_made n p kind = record {
  makes = Some kind;
  removes = None;
  tests = λ scene. child_tests (handles_of scene.trees) n.0 p.0;
  need = λ scene. of_objects 1;
  freed = λ scene. no_slots;
  after = λ scene. record scene { trees = with_object scene.trees n.0 p.0 kind };
}

-- h goes with all below it, and with what these have
abbrev pub tree_removed : Handle → Edit
tree_removed h = record {
  makes = None;
  removes = Some h;
  tests = λ scene. removal_tests (handles_of scene.trees) h.0 ++ (h.0 == scene.active, Place) ∷ [];
  need = λ scene. no_slots;
  freed = λ scene. of_tree scene h.0;
  after = λ scene. record scene { trees = without scene.trees h.0; book = book_without scene h.0 };
}

-- h gets another text: of its chunks only those are taken or freed that one text has more than the other
abbrev pub text_given : Handle → List ℕ → Edit
text_given h text = record {
  makes = None;
  removes = None;
  tests = λ scene. absent (handles_of scene.trees) h.0 ∷ kind_tests scene (Some Text) h.0;
  need = λ scene. of_texts (chunks_of text - chunks_of (text_at scene h.0));
  freed = λ scene. of_texts (chunks_of (text_at scene h.0) - chunks_of text);
  after = λ scene. with_text scene h.0 text;
}

-- an edit that takes no slots, and frees none
abbrev pub rearranging : (Scene → List Test) → (Scene → Scene) → Edit
rearranging tests after = record {
  makes = None;
  removes = None;
  tests = tests;
  need = λ scene. no_slots;
  freed = λ scene. no_slots;
  after = after;
}

-- none at all
abbrev pub no_edit : Edit
no_edit = rearranging (λ scene. []) (λ scene. scene)

-- the tree at h becomes the last child of p
abbrev pub tree_moved : Handle → Handle → Edit
tree_moved h p =
    rearranging (λ scene. parent_tests (handles_of scene.trees) h.0 p.0)
    (λ scene. record scene { trees = moved_last scene.trees h.0 p.0 })

-- the tree at h goes before the sibling of an index, or behind all
abbrev pub tree_at_index : Handle → ℕ → Edit
tree_at_index h n =
    rearranging (λ scene. move_tests (handles_of scene.trees) h.0)
    (λ scene. record scene { trees = at_index_below (parent_object scene h.0) scene.trees h.0 n })

-- the tree at h goes behind all its siblings
abbrev pub tree_at_last : Handle → Edit
tree_at_last h =
    rearranging (λ scene. move_tests (handles_of scene.trees) h.0)
    (λ scene. record scene { trees = last_below (parent_object scene h.0) scene.trees h.0 })

-- a screen becomes the active one
abbrev pub screen_loaded : Handle → Edit
screen_loaded h =
    rearranging
    (λ scene. absent (handles_of scene.trees) h.0 ∷ (not (is_screen scene h.0), WrongKind) ∷ [])
    (λ scene. record scene { active = h.0 })
