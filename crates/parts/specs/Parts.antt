-- "Which part of the block is bad": what is asked of each of the three parts. "Objects are examined first, then bindings, then frames and threads, each part
-- assuming the earlier ones sound. A byte with no meaning counts with the part whose area holds it, else with 27." (The record `Parts` of the crate `block` is
-- another: the rows of its four areas.)
use Rattle.std.specs.Prelude.{ℕ, ◌-◌, ◌<◌, ◌≤◌, ◌≡◌, Bool, ◌&&◌, List, eqb, leb, get_or}
use Rattle.std.proofs.Math.Option.{some}
use Rattle.limits.specs.Limits.{CLASS_FIELDS}
use Rattle.script.specs.Lists.{run}
use Rattle.script.specs.Questions.{all_of}
use Rattle.typing.specs.Members.{fields_of}
use Rattle.machine.specs.declared.Want.TheVariants.{Upto as upto}
use Rattle.machine.specs.Config.{Code, code_of, Object, Config}
use Rattle.machine.specs.Machine.{field_count, object}
use Rattle.machine.specs.WellFormed.{TypedObject, BindingsOk, TreeOk, lock_count, failures, shut_at}
use Rattle.machine.specs.Decide.{is_class_test, fields_test, bindings_test}
use Rattle.block.specs.declared.Area.{Area}
use Rattle.block.specs.declared.Area.TheVariants.{Objects, Bindings, Positions, Frames}
use Rattle.block.specs.Layout.{WORDS, VALUE, CLASS, SHUT, field_word, BOUND, width, most, END, counted, word_in}
use Rattle.block.specs.Values.{value_words, value_in}
use Rattle.block.specs.Decode.{config_in, same}
use Rattle.representation.specs.InOrder.{Unused, AreaOk, OneTree, FramesAdd, words_of}

-- The configuration that is read from the block b, as if it were in order, and its objects.
abbrev pub config_read : List ℕ → List ℕ → Config
config_read s b = config_in (field_count s) b

abbrev pub objects_in : List ℕ → List ℕ → List Object
objects_in s b = (config_read s b).stores.objects

-- "21 now means objects": they are at most 256, each open or shut, with a value for each field of its class, and all else in their area is 0; and the class of
-- each is a class and its values fit (WF-HEAP).
pub record ObjectsAre (s b : List ℕ) : Type 0 where
  pub area : AreaOk (field_count s) b Objects
  pub heap : (o : ℕ) (x : Object) → object (objects_in s b) o ≡ some x → TypedObject (code_of s) (objects_in s b) x

-- "26 bindings, after 21": they are at most 2,048, each with a value, and all else in their area is 0; and the type of each is a type, its value fits and its
-- link runs to an earlier one or to none (WF-VARS). Which objects are there is as it stands.
pub record BindingsAre (s b : List ℕ) : Type 0 where
  pub area : AreaOk (field_count s) b Bindings
  pub vars : BindingsOk (code_of s) (objects_in s b) (config_read s b).stores.bindings

-- What is asked of the bytes of positions and frames, and of those past the areas.
pub record ThreadsOk (field_count : ℕ → ℕ) (b : List ℕ) : Type 0 where
  pub positions : AreaOk field_count b Positions
  pub frames : AreaOk field_count b Frames
  pub one_tree : OneTree b
  pub all_frames : FramesAdd b
  pub rest : Unused (words_of b) END WORDS

-- "27 frames, threads and which objects are shut, after 26": their bytes are in order, the tree is typed up to the start's type t, "all lock frames name
-- distinct objects, each of them shut", and "With no failed thread no other objects are shut." The last three are WF-CFG's, as `WfConfig` has them.
pub record ThreadsAre (s : List ℕ) (t : ℕ) (b : List ℕ) : Type 0 where
  -- a list of numbers that are bytes, as every lent buffer is
  pub small : (i : ℕ) → get_or b i 0 < 256
  pub bytes : ThreadsOk (field_count s) b
  pub tree : TreeOk (code_of s) (config_read s b).stores (upto t) (config_read s b).tree
  pub distinct : (o : ℕ) → lock_count o (config_read s b).tree ≤ shut_at (objects_in s b) o
  pub covered : failures (config_read s b).tree ≡ 0 → (o : ℕ) → shut_at (objects_in s b) o ≤ lock_count o (config_read s b).tree

-- The first two, computed (`decides_objects`, `decides_bindings`). First words that must be 0, the words of a value, those of an object, and those of a
-- binding: `Unused`, `ValueOk`, `ObjectOk`, `RecordOk`.
abbrev pub zeros_test : (ℕ → ℕ) → ℕ → ℕ → Bool
zeros_test w from to = all_of (λ x. eqb x 0) (run w from (to - from))

abbrev pub value_ok_test : (ℕ → ℕ) → ℕ → Bool
value_ok_test w j = same (run w j VALUE) (value_words (value_in w j))

abbrev pub object_ok_test : (ℕ → ℕ) → (ℕ → ℕ) → Bool
object_ok_test field_count w =
    let n = field_count (w CLASS) in
    leb (w SHUT) 1 && (leb n CLASS_FIELDS && (all_of (value_ok_test w) (run field_word 0 n) && zeros_test w (field_word n) (width Objects)))

abbrev pub binding_ok_test : (ℕ → ℕ) → Bool
binding_ok_test w = value_ok_test w BOUND

-- An area whose records are asked so: `AreaOk`.
unfoldable pub area_test : ((ℕ → ℕ) → Bool) → List ℕ → Area → Bool
area_test ok b a =
    leb (counted b a) (most a)
    && (all_of ok (run (word_in b a) 0 (counted b a)) && all_of (λ w. zeros_test w 0 (width a)) (run (word_in b a) (counted b a) (most a - counted b a)))

-- WF-HEAP of every object, as `stores_test` says it.
abbrev pub objects_test : Code → List Object → Bool
objects_test s xs = all_of (is_class_test s) xs && all_of (λ x. fields_test s xs (fields_of s.program x.class) x.fields) xs

-- `ObjectsAre`, and `BindingsAre` where the objects are sound.
unfoldable pub objects_sound : List ℕ → List ℕ → Bool
objects_sound s b = area_test (object_ok_test (field_count s)) b Objects && objects_test (code_of s) (objects_in s b)

unfoldable pub bindings_sound : List ℕ → List ℕ → Bool
bindings_sound s b = area_test binding_ok_test b Bindings && bindings_test (code_of s) (objects_in s b) (config_read s b).stores.bindings
