-- The one block that stands for a configuration.
use Rattle.std.specs.Prelude.{ℕ, ◌*◌, Bool, true, false, length}
use mathlib.Core.List.{List, [], ◌∷◌, ◌++◌, map, flat_map, flatten, reverse}
use Rattle.words.specs.Word.{bytes}
use Rattle.limits.specs.Limits.{CLASS_FIELDS}
use Rattle.machine.specs.declared.Value.{Value}
use Rattle.machine.specs.declared.Value.TheVariants.{Null as nil}
use Rattle.machine.specs.declared.Frame.{Frame}
use Rattle.machine.specs.declared.Frame.TheVariants.{Awaits as awaits, Casts as casts, Locks as locks}
use Rattle.machine.specs.Config.{Object, Binding, Tree, running, returning, failed, join, Config}
use Rattle.block.specs.Rows.{filled}
use Rattle.block.specs.Values.{value_words}
use Rattle.block.specs.Layout.{Area, Objects, Bindings, Positions, Frames, WORDS, VALUE, width, most}
use Rattle.block.specs.Layout.{RUNNING, RETURNING, FAILED, JOIN, AWAITS, CASTS, LOCKS}

-- "open or shut"
abbrev pub shut_word : Bool → ℕ
shut_word false = 0
shut_word true = 1

-- "objects (class, open or shut, fields)"
abbrev pub object_words : Object → List ℕ
object_words o = o.class ∷ shut_word o.shut ∷ filled (VALUE * CLASS_FIELDS) (flatten (map value_words o.fields))

-- "variable bindings (name, type, value, the binding beneath)"
abbrev pub binding_words : Binding → List ℕ
binding_words b = b.name ∷ b.type ∷ (value_words b.value ++ b.link ∷ [])

-- "a tree position, preorder, root 0, left before right": each position as the tree that begins there.
unfoldable pub preorder : Tree → List Tree
preorder (running p e fs) = running p e fs ∷ []
preorder (returning v fs) = returning v fs ∷ []
preorder failed = failed ∷ []
preorder (join fs p e l r) = join fs p e l r ∷ (preorder l ++ preorder r)

-- The frames that wait at a position, innermost first.
abbrev pub waiting : Tree → List Frame
waiting (running p e fs) = fs
waiting (returning v fs) = fs
waiting failed = []
waiting (join fs p e l r) = fs

-- The value at a position, null where it has none.
abbrev pub returned : Tree → Value
returned (running p e fs) = nil
returned (returning v fs) = v
returned failed = nil
returned (join fs p e l r) = nil

-- A position: what it is, its node (of a join, its last part), its environment, its value (null where it has none), and how many frames wait there.
abbrev pub position_words : Tree → List ℕ
position_words (running p e fs) = RUNNING ∷ p ∷ e ∷ (value_words nil ++ length fs ∷ [])
position_words (returning v fs) = RETURNING ∷ 0 ∷ 0 ∷ (value_words v ++ length fs ∷ [])
position_words failed = FAILED ∷ 0 ∷ 0 ∷ (value_words nil ++ 0 ∷ [])
position_words (join fs p e l r) = JOIN ∷ p ∷ e ∷ (value_words nil ++ length fs ∷ [])

-- "waiting frames in all": those of every position, in preorder, the outermost of each first.
unfoldable pub frames_of : Tree → List Frame
frames_of t = flat_map (λ s. reverse (waiting s)) (preorder t)

-- A frame: what it is, and its node and environment, its node, or its object.
abbrev pub frame_words : Frame → List ℕ
frame_words (awaits p e) = AWAITS ∷ p ∷ e ∷ []
frame_words (casts p) = CASTS ∷ p ∷ 0 ∷ []
frame_words (locks o) = LOCKS ∷ o ∷ 0 ∷ []

-- What lies in a block, area by area: objects, bindings in the order in which they were made, positions and frames. While a move changes one area after the
-- other they are not those of one configuration, so laws are about parts.
pub record Parts : Type 0 where
  pub objects : List Object
  pub bindings : List Binding
  pub positions : List Tree
  pub frames : List Frame

abbrev pub parts_of : Config → Parts
parts_of c =
    record {
      objects = c.stores.objects;
      bindings = reverse c.stores.bindings;
      positions = preorder c.tree;
      frames = frames_of c.tree;
    }

-- The records of an area as rows of words.
abbrev pub rows : Parts → Area → List (List ℕ)
rows p Objects = map object_words p.objects
rows p Bindings = map binding_words p.bindings
rows p Positions = map position_words p.positions
rows p Frames = map frame_words p.frames

-- The words of an area: its records one after the other, and zeros where no record is.
unfoldable pub area : Area → List (List ℕ) → List ℕ
area a rs = filled (width a * most a) (flatten rs)

-- The counts, the areas, each right after the last, and zeros to the end of the block.
abbrev pub header_words : Parts → List ℕ
header_words p = length (rows p Objects) ∷ length (rows p Bindings) ∷ length (rows p Frames) ∷ length (rows p Positions) ∷ []

unfoldable pub laid : Parts → List ℕ
laid p =
    filled WORDS
    (header_words p
    ++ (area Objects (rows p Objects)
    ++ (area Bindings (rows p Bindings)
    ++ (area Positions (rows p Positions)
    ++ area Frames (rows p Frames)))))

-- The words of a configuration's block, and its bytes.
abbrev pub block_words : Config → List ℕ
block_words c = laid (parts_of c)

abbrev pub encode : Config → List ℕ
encode c = bytes (block_words c)
