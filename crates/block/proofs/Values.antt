-- Laws of a value in a record, and of the fields of an object.
use mathlib.Core.Path.{◌≡◌, refl, sym, ap, ◌∙◌}
use mathlib.Core.Bool.{Bool, true, false, cond}
use mathlib.Core.List.Memᴰ
use mathlib.Core.List.{List, [], ◌∷◌, ◌++◌, map, flatten}
use Prim.Native.Nat.{ℕ, zero, suc, ◌+◌, ◌*◌, ◌<◌, ◌≤◌}
use native.Mathlib.Omega.{arith}
use lib.ListN.{length, get_or, get_or-append}
use lib.Seq.{ext_get_or, get_or-append-add}
use lib.Dec.{eqb}
use Rattle.words.specs.Word.{WORD}
use Rattle.words.specs.Integer.{integer}
use Rattle.words.proofs.Integers.{integer_words, words_integer}
use Rattle.limits.specs.Limits.{CLASS_FIELDS}
use Rattle.script.specs.Lists.{◌∈◌, run}
use Rattle.script.proofs.Lists.{length_run, get_d_run}
use Rattle.machine.specs.declared.Value.{Value}
use Rattle.machine.specs.declared.Value.TheVariants.{Null as nil, Ref as ref, Int as int}
use Rattle.machine.specs.Config.{Object}
use Rattle.block.specs.Rows.{word_of}
use Rattle.block.specs.Layout.{VALUE, field_word}
use Rattle.block.specs.Values.{NULL, REF, INT, value_words, value_in, ValueOk, Storable}
use Rattle.block.specs.Block.{object_words}
use Rattle.block.proofs.Rows.{Wide, wide_map, get_d_filled, flatten_at}

pub value_width : (v : Value) → length (value_words v) ≡ VALUE
value_width nil = refl
value_width (ref o) = refl
value_width (int z) = refl

pub value_listed : (v : Value) → word_of (value_words v) 0 ∷ word_of (value_words v) 1 ∷ word_of (value_words v) 2 ∷ [] ≡ value_words v
value_listed nil = refl
value_listed (ref o) = refl
value_listed (int z) = refl

-- words that are the same say the same
pub value_same : (w x : ℕ → ℕ) (j : ℕ) → ((m : ℕ) → m < VALUE → w (j + m) ≡ x (j + m)) → value_in w j ≡ value_in x j
value_same w x j h = let z : j + 0 ≡ j = omega arith in rw (rw z at (h 0 (omega arith)), h 1 (omega arith), h 2 (omega arith))

-- words that are those of a value say it
pub value_said : (w : ℕ → ℕ) (j : ℕ) (v : Value) → Storable v → ((m : ℕ) → m < VALUE → w (j + m) ≡ word_of (value_words v) m) → value_in w j ≡ v
value_said w j nil s h = let z : j + 0 ≡ j = omega arith in let k : w j ≡ NULL = rw z at (h 0 (omega arith)) in rw k
value_said w j (ref o) s h = let z : j + 0 ≡ j = omega arith in let k : w j ≡ REF = rw z at (h 0 (omega arith)) in rw (k, h 1 (omega arith))
value_said w j (int z) s h =
    let e : j + 0 ≡ j = omega arith in
    let k : w j ≡ INT = rw e at (h 0 (omega arith)) in
    rw (k, h 1 (omega arith), h 2 (omega arith)) (ap int (words_integer z s).whole)

-- and are in order; words in order are those of the value that they say
pub value_ok : (w : ℕ → ℕ) (j : ℕ) (v : Value) → Storable v → ((m : ℕ) → m < VALUE → w (j + m) ≡ word_of (value_words v) m) → ValueOk w j
value_ok w j v s h =
    rw (value_said w j v s h)
    (ext_get_or 0 (run w j VALUE) (value_words v) (length_run w j VALUE ∙ sym (value_width v))
    (λ m l. let n : m < VALUE = omega (arith, length_run w j VALUE) in get_d_run w j VALUE m 0 n ∙ h m n))

pub three_ok :
    (w : ℕ → ℕ) (j : ℕ) (v : Value)
    → Storable v
    → w j ≡ word_of (value_words v) 0
    → w (j + 1) ≡ word_of (value_words v) 1
    → w (j + 2) ≡ word_of (value_words v) 2
    → ValueOk w j
three_ok w j v s x y z = value_ok w j v s words
  where
    words : (m : ℕ) → m < VALUE → w (j + m) ≡ word_of (value_words v) m
    words zero h = let n : j + 0 ≡ j = omega arith in rw n x
    words (suc zero) h = y
    words (suc (suc zero)) h = z
    words (suc (suc (suc m))) h = absurd (omega arith)

pub value_word : (w : ℕ → ℕ) (j : ℕ) → ValueOk w j → (m : ℕ) → m < VALUE → w (j + m) ≡ word_of (value_words (value_in w j)) m
value_word w j ok m h = sym (get_d_run w j VALUE m 0 h) ∙ ap (λ (r : List ℕ). word_of r m) ok

-- words that are the same are in order too
pub value_ok_same : (w x : ℕ → ℕ) (j : ℕ) → ((m : ℕ) → m < VALUE → x (j + m) ≡ w (j + m)) → ValueOk w j → ValueOk x j
value_ok_same w x j h ok =
    ext_get_or 0 (run x j VALUE) (run w j VALUE) (length_run x j VALUE ∙ sym (length_run w j VALUE))
    (λ m l. let n : m < VALUE = omega (arith, length_run x j VALUE) in get_d_run x j VALUE m 0 n ∙ h m n ∙ sym (get_d_run w j VALUE m 0 n))
    ∙ ok
    ∙ ap value_words (value_same w x j (λ m l. sym (h m l)))

-- what words of 16 bits say is storable, and any two are those of a number
module _ (w : ℕ → ℕ) (j : ℕ) (low : w (j + 1) < WORD) (high : w (j + 2) < WORD) where
  pub said_storable : Storable (value_in w j)
  said_storable = go (eqb (w j) REF) (eqb (w j) INT)
    where
      go : (a b : Bool) → Storable (cond a (ref (w (j + 1))) (cond b (int (integer (w (j + 1)) (w (j + 2)))) nil))
      go true b = low
      go false true = (integer_words low high).in_range
      go false false = _

  pub number_ok : w j ≡ INT → ValueOk w j
  number_ok k =
      let n = integer_words low high in
      three_ok w j (int (integer (w (j + 1)) (w (j + 2)))) n.in_range k (sym n.low_word_lem) (sym n.high_word_lem)

-- a value that stands in a row is got back from it, and so is what stands after it
module _ (pre : List ℕ) (v : Value) (post : List ℕ) where
  abbrev row : List ℕ
  row = pre ++ (value_words v ++ post)

  pub row_value : (m : ℕ) → m < VALUE → word_of row (length pre + m) ≡ word_of (value_words v) m
  row_value m h = get_or-append-add pre (value_words v ++ post) m 0 ∙ get_or-append (value_words v) post 0 m (omega (arith, value_width v))

  pub value_back : Storable v → value_in (word_of row) (length pre) ≡ v
  value_back s = value_said (word_of row) (length pre) v s row_value

  pub value_after : (m : ℕ) → word_of row (length pre + VALUE + m) ≡ word_of post m
  value_after m =
      let e : length pre + VALUE + m ≡ length pre + (length (value_words v) + m) = omega (arith, value_width v) in
      rw e (get_or-append-add pre (value_words v ++ post) (length (value_words v) + m) 0 ∙ get_or-append-add (value_words v) post m 0)

-- the words of values, each VALUE words wide
pub values_wide : (vs : List Value) → Wide VALUE (map value_words vs)
values_wide = wide_map value_words VALUE value_width

-- word m of field k of an object, and 0 where it has no such field
pub field_cell :
    (o : Object) (k m : ℕ) → k < CLASS_FIELDS → m < VALUE → word_of (object_words o) (field_word k + m) ≡ word_of (get_or (map value_words o.fields) k []) m
field_cell o k m h l =
    let e : field_word k + m ≡ suc (suc (VALUE * k + m)) = omega arith in
    rw e
    (get_d_filled (VALUE * CLASS_FIELDS) (flatten (map value_words o.fields)) (VALUE * k + m) (omega arith)
    ∙ flatten_at VALUE (map value_words o.fields) (values_wide o.fields) k m l)

-- field k of an object is the value that its words say there, null where it has no such field
field_row_lem : (vs : List Value) (k m : ℕ) → word_of (get_or (map value_words vs) k []) m ≡ word_of (value_words (get_or vs k nil)) m
field_row_lem [] k zero = refl
field_row_lem [] k (suc zero) = refl
field_row_lem [] k (suc (suc zero)) = refl
field_row_lem [] k (suc (suc (suc m))) = refl
field_row_lem (v ∷ vs) zero m = refl
field_row_lem (v ∷ vs) (suc k) m = field_row_lem vs k m

pub field_words :
    (o : Object) (k : ℕ) → k < CLASS_FIELDS → (m : ℕ) → m < VALUE → word_of (object_words o) (field_word k + m) ≡ word_of (value_words (get_or o.fields k nil)) m
field_words o k h m n = field_cell o k m h n ∙ field_row_lem o.fields k m

pub field_said :
    (o : Object) (k : ℕ) → k < CLASS_FIELDS → Storable (get_or o.fields k nil) → value_in (word_of (object_words o)) (field_word k) ≡ get_or o.fields k nil
field_said o k h s = value_said (word_of (object_words o)) (field_word k) (get_or o.fields k nil) s (field_words o k h)

-- so its fields are those values
pub storable_at : (vs : List Value) → ((v : Value) → v ∈ vs → Storable v) → (k : ℕ) → Storable (get_or vs k nil)
storable_at [] h k = _
storable_at (v ∷ vs) h zero = h v (Memᴰ.head refl)
storable_at (v ∷ vs) h (suc k) = storable_at vs (λ u m. h u (Memᴰ.tail m)) k

pub fields_said :
    (n : ℕ) (o : Object) → length o.fields ≡ n → n ≤ CLASS_FIELDS → ((v : Value) → v ∈ o.fields → Storable v)
    → run (λ k. value_in (word_of (object_words o)) (field_word k)) 0 n ≡ o.fields
fields_said n o e h s =
    let said : (ℕ → Value) = λ k. value_in (word_of (object_words o)) (field_word k) in
    ext_get_or nil (run said 0 n) o.fields (length_run said 0 n ∙ sym e)
    (λ k l.
    let m : k < n = omega (arith, length_run said 0 n) in
    let z : 0 + k ≡ k = omega arith in
    get_d_run said 0 n k nil m ∙ rw z (field_said o k (omega arith) (storable_at o.fields s k)))
