-- What the code changes: the parts of a block with other records, an object with another word, and words put one after the other.
use Rattle.std.specs.Prelude.{ℕ, ◌+◌, Bool, List, [], ◌∷◌, length, get_or, set}
use Rattle.script.specs.Lists.{sum_below}
use Rattle.machine.specs.declared.Value.{Value}
use Rattle.machine.specs.declared.Frame.{Frame}
use Rattle.machine.specs.Config.{Object, Binding, Tree, failed}
use Rattle.slices.specs.Put.{put_word}
use Rattle.block.specs.Block.{preorder, waiting, Parts}

-- Where the frames of position i begin: after those of the positions before it.
abbrev pub frame_start : Tree → ℕ → ℕ
frame_start t i = sum_below (λ n. length (waiting (get_or (preorder t) n failed))) i

-- Parts with other objects, other bindings, or other frames.
abbrev pub with_objects : Parts → List Object → Parts
with_objects p os = record { objects = os; bindings = p.bindings; positions = p.positions; frames = p.frames }

abbrev pub with_bindings : Parts → List Binding → Parts
with_bindings p bs = record { objects = p.objects; bindings = bs; positions = p.positions; frames = p.frames }

abbrev pub with_frames : Parts → List Frame → Parts
with_frames p fs = record { objects = p.objects; bindings = p.bindings; positions = p.positions; frames = fs }

-- An object opened or shut, and one with another value in field k.
abbrev pub marked_shut : Object → Bool → Object
marked_shut o b = record { class = o.class; shut = b; fields = o.fields }

abbrev pub with_field : Object → ℕ → Value → Object
with_field o k v = record { class = o.class; shut = o.shut; fields = set o.fields k v }

-- The bytes with the words vs from byte `at` on.
abbrev pub put_words : List ℕ → ℕ → List ℕ → List ℕ
put_words b at [] = b
put_words b at (v ∷ vs) = put_words (put_word b at v) (at + 2) vs
