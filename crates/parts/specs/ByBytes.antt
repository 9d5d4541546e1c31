-- Where the parts lie, in plain numbers of bytes, as docs/BLOCK.md has them: which bytes a part is about, and what is its fault by the bytes alone.
-- `proofs/ByBytes.antt` has the theorem, `by_bytes`: so nothing that is asked of the bytes of one part stands in another.
use Rattle.std.specs.Prelude.{ℕ, ◌+◌, ◌*◌, ◌<◌, ◌≤◌, ◌≡◌, ◌≢◌, List, get_or}
use Rattle.words.specs.Word.{word_at}
use Rattle.machine.specs.Machine.{field_count}
use Rattle.parts.specs.Parts.{ObjectsAre, BindingsAre, ThreadsAre}

-- The bytes from `from` up to `to` are the same in both.
abbrev pub SameBytes : List ℕ → List ℕ → ℕ → ℕ → Type 0
SameBytes b d from to = (n : ℕ) → from ≤ n → n < to → get_or b n 0 ≡ get_or d n 0

-- The six bytes from `at` on are no value: a kind above 2, something beside null, or behind an object.
pub data NoValue (b : List ℕ) (at : ℕ) : Type 0 where
  unknown_kind : 2 < word_at b at → NoValue b at
  beside_null : {j : ℕ} → word_at b at ≡ 0 → 2 ≤ j → j < 6 → get_or b (at + j) 0 ≢ 0 → NoValue b at
  behind_object : {j : ℕ} → word_at b at ≡ 1 → 4 ≤ j → j < 6 → get_or b (at + j) 0 ≢ 0 → NoValue b at

-- 21: more than 256 objects; of object i a lock word that is neither 0 nor 1, no value in field k, or byte j, where its class has no field; and byte j of a
-- place i where no object is.
pub data ObjectFault (s b : List ℕ) : Type 0 where
  many_objects : 256 < word_at b 0 → ObjectFault s b
  lock_word : {i : ℕ} → i < word_at b 0 → 1 < word_at b (8 + 52 * i + 2) → ObjectFault s b
  field_value : {i k : ℕ} → i < word_at b 0 → k < field_count s (word_at b (8 + 52 * i)) → NoValue b (8 + 52 * i + 4 + 6 * k) → ObjectFault s b
  unused_field : {i j : ℕ} → i < word_at b 0 → 4 + 6 * field_count s (word_at b (8 + 52 * i)) ≤ j → j < 52 → get_or b (8 + 52 * i + j) 0 ≢ 0 → ObjectFault s b
  unused_object : {i j : ℕ} → word_at b 0 ≤ i → i < 256 → j < 52 → get_or b (8 + 52 * i + j) 0 ≢ 0 → ObjectFault s b

-- 26: more than 2,048 bindings; no value in binding i; and byte j of a place i where no binding is.
pub data BindingFault (b : List ℕ) : Type 0 where
  many_bindings : 2048 < word_at b 2 → BindingFault b
  bound_value : {i : ℕ} → i < word_at b 2 → NoValue b (13320 + 12 * i + 4) → BindingFault b
  unused_binding : {i j : ℕ} → word_at b 2 ≤ i → i < 2048 → j < 12 → get_or b (13320 + 12 * i + j) 0 ≢ 0 → BindingFault b

-- 27: more than 2,048 frames or 63 positions; byte j of a place i where no position or no frame is; and byte n past the areas.
pub data RestFault (b : List ℕ) : Type 0 where
  many_frames : 2048 < word_at b 4 → RestFault b
  many_positions : 63 < word_at b 6 → RestFault b
  unused_position : {i j : ℕ} → word_at b 6 ≤ i → i < 63 → j < 14 → get_or b (37896 + 14 * i + j) 0 ≢ 0 → RestFault b
  unused_frame : {i j : ℕ} → word_at b 4 ≤ i → i < 2048 → j < 6 → get_or b (38778 + 6 * i + j) 0 ≢ 0 → RestFault b
  unused_rest : {n : ℕ} → 51066 ≤ n → n < 65536 → get_or b n 0 ≢ 0 → RestFault b

-- Of a script, the start's type and a block.
pub record ByBytes (s : List ℕ) (t : ℕ) (b : List ℕ) : Type 0 where
  -- "A byte with no meaning counts with the part whose area holds it, else with 27": where no record or no field is, and past the areas; and so do a count, a
  -- lock word, and the value of a field or a binding
  pub object_fault : ObjectFault s b → ObjectsAre s b → ⊥
  pub binding_fault : BindingFault b → BindingsAre s b → ⊥
  pub rest_fault : RestFault b → ThreadsAre s t b → ⊥
  -- objects are about their count and their area, bytes 0 and 1 and 8 to 13,319, and about nothing else
  pub objects_alone : (d : List ℕ) → SameBytes b d 0 2 → SameBytes b d 8 13320 → ObjectsAre s b → ObjectsAre s d
  -- bindings are about these and their own, bytes 2 and 3 and 13,320 to 37,895: "each part assuming the earlier ones sound"
  pub bindings_alone : (d : List ℕ) → SameBytes b d 0 4 → SameBytes b d 8 37896 → ObjectsAre s b → BindingsAre s b → BindingsAre s d
