-- What a changed byte does to a block: the bytes that it leaves as they were, and the faults that it makes.
use mathlib.Core.Path.{◌≡◌, sym, ◌∙◌}
use mathlib.Core.List.{List}
use mathlib.Core.Logic.{◌≢◌, ◌⊎◌, ⊎_elim}
use Prim.Native.Nat.{ℕ, ◌+◌, ◌*◌, ◌/◌, ◌<◌, ◌≤◌}
use native.Mathlib.Omega.{arith}
use lib.ListN.{length, get_or, set, length-set}
use lib.Seq.{get_or-set_same, get_or-set_other}
use Rattle.words.specs.Word.{word_at}
use Rattle.limits.specs.Limits.{BLOCK}
use Rattle.machine.specs.Machine.{initial}
use Rattle.block.specs.declared.Area.{Area}
use Rattle.block.specs.declared.Area.TheVariants.{Objects, Bindings, Positions, Frames}
use Rattle.block.specs.Layout.{count_word, counted}
use Rattle.block.specs.Block.{rows, parts_of, encode}
use Rattle.block.proofs.Words.{encode_length, count_is_lem}
use Rattle.parts.specs.ByBytes.{SameBytes, ObjectFault, unused_object, BindingFault, unused_binding, RestFault, unused_position, unused_frame, unused_rest}
use Rattle.calls.specs.Lent.{changed}

pub set_same : (b : List ℕ) (n x : ℕ) {from to : ℕ} → (n < from) ⊎ (to ≤ n) → SameBytes b (set b n x) from to
set_same b n x out m l h = sym (get_or-set_other b n m x 0 (λ e. ⊎_elim (λ o. omega (arith, o, e)) (λ o. omega (arith, o, e)) out))

word_other : (b : List ℕ) (n x w : ℕ) → (w ≡ n / 2 → ⊥) → word_at (set b n x) (2 * w) ≡ word_at b (2 * w)
unfolding word_at
word_other b n x w p = omega (arith, get_or-set_other b n (2 * w) x 0 (λ e. p (omega arith)), get_or-set_other b n (2 * w + 1) x 0 (λ e. p (omega arith)))

-- The initial block with a byte changed.
pub length_changed : (n x : ℕ) → length (changed n x) ≡ BLOCK
unfolding changed
length_changed n x = length-set (encode initial) n x ∙ encode_length initial

pub count_kept : (n x : ℕ) (a : Area) → (count_word a ≡ n / 2 → ⊥) → counted (changed n x) a ≡ length (rows (parts_of initial) a)
unfolding changed
count_kept n x a h = word_other (encode initial) n x (count_word a) h ∙ count_is_lem (parts_of initial) a

-- a count above the limit, by its high byte
pub high_changed : (at x : ℕ) → at + 1 < BLOCK → 256 * x ≤ word_at (changed (at + 1) x) at
unfolding word_at changed
high_changed at x l = omega (arith, get_or-set_same (encode initial) (at + 1) x 0 (omega (arith, encode_length initial)))

-- Byte j of place i, where no record is, or a byte past the areas, becomes 1.
byte_set : (b : List ℕ) → length b ≡ BLOCK → (n : ℕ) → n < BLOCK → get_or (set b n 1) n 0 ≢ 0
byte_set b long n h e = omega (arith, e, get_or-set_same b n 1 0 (omega (arith, long)))

module _ (b : List ℕ) (long : length b ≡ BLOCK) where
  module _ (i j : ℕ) where
    pub object_set : {s : List ℕ} → counted b Objects ≤ i → i < 256 → j < 52 → ObjectFault s (set b (8 + 52 * i + j) 1)
    object_set c h k =
        unused_object {i = i} {j = j} (omega (arith, c, word_other b (8 + 52 * i + j) 1 0 (λ e. omega (arith, e)))) h k (byte_set b long (8 + 52 * i + j) (omega arith))

    pub binding_set : counted b Bindings ≤ i → i < 2048 → j < 12 → BindingFault (set b (13320 + 12 * i + j) 1)
    binding_set c h k =
        unused_binding {i = i} {j = j} (omega (arith, c, word_other b (13320 + 12 * i + j) 1 1 (λ e. omega (arith, e)))) h k (byte_set b long (13320 + 12 * i + j) (omega arith))

    pub position_set : counted b Positions ≤ i → i < 63 → j < 14 → RestFault (set b (37896 + 14 * i + j) 1)
    position_set c h k =
        unused_position {i = i} {j = j} (omega (arith, c, word_other b (37896 + 14 * i + j) 1 3 (λ e. omega (arith, e)))) h k (byte_set b long (37896 + 14 * i + j) (omega arith))

    pub frame_set : counted b Frames ≤ i → i < 2048 → j < 6 → RestFault (set b (38778 + 6 * i + j) 1)
    frame_set c h k =
        unused_frame {i = i} {j = j} (omega (arith, c, word_other b (38778 + 6 * i + j) 1 2 (λ e. omega (arith, e)))) h k (byte_set b long (38778 + 6 * i + j) (omega arith))

  pub rest_set : (n : ℕ) → 51066 ≤ n → n < 65536 → RestFault (set b n 1)
  rest_set n l h = unused_rest l h (byte_set b long n h)
