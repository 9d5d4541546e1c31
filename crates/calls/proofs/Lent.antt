-- Every buffer of the table that does not fit gets its number, from each call.
use mathlib.Core.Path.{◌≡◌, refl, sym, ap, ◌∙◌}
use mathlib.Core.Bool.{true, false}
use mathlib.Core.List.Memᴰ
use mathlib.Core.List.{List, ◌∷◌, flat_map}
use mathlib.Core.Logic.{◌⊎◌, inl, inr, ⊎_elim}
use mathlib.Core.Option.{Option, none, some, none-ne-some}
use Prim.Native.Nat.{ℕ, ◌+◌, ◌<◌, ◌≤◌}
use native.Mathlib.Omega.{arith}
use lib.ListN.{length, get_or, set, length-map, length-set, length-replicate}
use borrow.Author.Tests.{eq-eqb, le-leb}
use Rattle.words.specs.Word.{word_at}
use Rattle.limits.specs.Limits.{BLOCK, CHOICES, FLAGS}
use Rattle.script.specs.Lists.{◌∈◌, run}
use Rattle.script.proofs.Lists.{zeros as zero-at}
use Rattle.script.proofs.Tests.{true_false, yes_said, no_said}
use Rattle.std.specs.declared.result.Result.TheVariants.{Ok}
use Rattle.typing.specs.Check.{check_of}
use Rattle.machine.specs.Config.{Config}
use Rattle.machine.specs.Machine.{initial}
use Rattle.machine.specs.WellFormed.{no_bindings}
use Rattle.soundness.proofs.Positions.{initial_well}
use Rattle.block.specs.declared.Area.{Area}
use Rattle.block.specs.declared.Area.TheVariants.{Objects, Bindings, Positions, Frames}
use Rattle.block.specs.Layout.{count_byte, word_byte, counted, rows_in}
use Rattle.block.specs.Block.{preorder, position_words, frames_of, rows, parts_of, encode}
use Rattle.block.specs.Decode.{config_in}
use Rattle.block.proofs.Trees.{positions_threads}
use Rattle.block.proofs.Words.{encode_length, count_is_lem}
use Rattle.representation.specs.InOrder.{AreaOk}
use Rattle.parts.specs.Parts.{ObjectsAre, BindingsAre, ThreadsAre, objects_sound}
use Rattle.parts.specs.ByBytes.{many_objects, many_bindings, many_frames, many_positions}
use Rattle.parts.proofs.ByBytes.{by_bytes}
use Rattle.parts.proofs.Parts.{decides_objects, decides_bindings}
use Rattle.calls.specs.Calls.{no_at, config_of, start_asked, parts_asked, block_asked, start_of, offer_of, run_of}
use Rattle.calls.specs.Answers.{Stands, found}
use Rattle.calls.specs.Lent.{LentCase, LentRefused, zeros, changed, damaged_case, lent_cases}
use Rattle.calls.proofs.AllLent.{no_length, no_buffer, no_objects_told, no_bindings_told, no_threads_told}
use Rattle.calls.proofs.Answers.{accepts, decides_stands}
use Rattle.calls.proofs.Parts.{holds_parts, parts_stand}
use Rattle.calls.proofs.Damaged.{set_same, length_changed, count_kept, high_changed, object_set, binding_set, position_set, frame_set, rest_set}

length_zeros : (n : ℕ) → length (zeros n) ≡ n
unfolding zeros
length_zeros n = length-replicate n 0

each_cons : {A : Type 0} (P : A → Type 0) (y : A) (l : List A) → P y → ((x : A) → x ∈ l → P x) → (x : A) → x ∈ y ∷ l → P x
each_cons P y l h k x m = ⊎_elim (λ (e : x ≡ y). rw e h) (k x) (Memᴰ.cases_cons m)

-- no configuration has a block without a position
zeros_form : (c : Config) → zeros 65536 ≡ encode c → ⊥
unfolding zeros word_at
zeros_form c e =
    let n : counted (encode c) Positions ≡ 0 = ap (λ (l : List ℕ). counted l Positions) (sym e) in
    omega (arith, n, count_is_lem (parts_of c) Positions, length-map (preorder c.tree) position_words, positions_threads c.tree)

zeros_word : (n at : ℕ) → word_at (zeros n) at ≡ 0
unfolding zeros word_at
zeros_word n at = omega (arith, zero-at n at, zero-at n (at + 1))

zeros_area : {field_count : ℕ → ℕ} (n : ℕ) (a : Area) → AreaOk field_count (zeros n) a
zeros_area n a =
    record {
      few = omega (arith, zeros_word n (count_byte a));
      records = record { each = λ i h. absurd (omega (arith, zeros_word n (count_byte a))) };
      blank = record { zero = λ i j k h l. zeros_word n (word_byte a i j) };
    }

zeros_objects : (s : List ℕ) (n : ℕ) → ObjectsAre s (zeros n)
unfolding config_in rows_in run
zeros_objects s n = record { area = zeros_area n Objects; heap = rw (zeros_word n 0) (λ o y e. absurd (none-ne-some _ e)) }

zeros_bindings : (s : List ℕ) (n : ℕ) → BindingsAre s (zeros n)
unfolding config_in rows_in run
zeros_bindings s n = record { area = zeros_area n Bindings; vars = rw (zeros_word n 2) no_bindings }

module _ (s : List ℕ) (small : (i : ℕ) → get_or s i 0 < 256) (t : ℕ) (acc : check_of s ≡ Ok t) where
  -- a number of a block, from the three calls
  module _ (b : List ℕ) (long : length b ≡ BLOCK) where
    part_refused : (n : ℕ) → parts_asked s t b ≡ no_at n 0 → LentRefused s (damaged_case b n)
    unfolding start_of start_asked offer_of run_of block_asked
    part_refused n e =
        let l = eq-eqb (length b) BLOCK long in
        record {
          started = rw (acc, l) refl;
          offered = rw (acc, l, eq-eqb (length (zeros 63)) FLAGS (length_zeros 63), e) refl;
          ran = rw (acc, l, le-leb (length (zeros 4096)) CHOICES (omega (arith, length_zeros 4096)), e) refl;
        }

    bad_objects : (ObjectsAre s b → ⊥) → LentRefused s (damaged_case b 21)
    bad_objects n = part_refused 21 (no_objects_told s t b (no_said (decides_objects (accepts s small t acc) b) n))

    module _ (o : ObjectsAre s b) where
      objects_yes : objects_sound s b ≡ true
      objects_yes = yes_said (decides_objects (accepts s small t acc) b) o

      bad_bindings : (BindingsAre s b → ⊥) → LentRefused s (damaged_case b 26)
      bad_bindings n = part_refused 26 (no_bindings_told s t b objects_yes (no_said (decides_bindings (accepts s small t acc) b o) n))

      none_found : (x : Option Config) → found x ≡ false → x ≡ none
      none_found none e = refl
      none_found (some c) e = absurd (true_false e)

      bad_threads : BindingsAre s b → (Stands s t b → ⊥) → LentRefused s (damaged_case b 27)
      bad_threads v n =
          part_refused 27
          (no_threads_told s t b objects_yes (yes_said (decides_bindings (accepts s small t acc) b o) v) (none_found (config_of s t b) (no_said (decides_stands s small t acc b) n)))

  -- the parts of the initial block, with one byte changed that the objects do not have, or neither they nor the bindings
  initial_parts : ObjectsAre s (encode initial) × BindingsAre s (encode initial) × ThreadsAre s t (encode initial)
  initial_parts = holds_parts acc (encode_length initial) (record { is = refl; well = initial_well (accepts s small t acc) })

  module _ (n x : ℕ) (header : 2 ≤ n) (area : (n < 8) ⊎ (13320 ≤ n)) where
    objects_set : (b : List ℕ) → ObjectsAre s b → ObjectsAre s (set b n x)
    objects_set b = (by_bytes s t b).objects_alone (set b n x) (set_same b n x (inr header)) (set_same b n x area)

    objects_kept : ObjectsAre s (changed n x)
    unfolding changed
    objects_kept = objects_set (encode initial) initial_parts.0

    bindings_changed : (BindingsAre s (changed n x) → ⊥) → LentRefused s (damaged_case (changed n x) 26)
    bindings_changed = bad_bindings (changed n x) (length_changed n x) objects_kept

    bindings_kept : 4 ≤ n → (n < 8) ⊎ (37896 ≤ n) → BindingsAre s (changed n x)
    unfolding changed
    bindings_kept h out =
        (by_bytes s t (encode initial)).bindings_alone (changed n x) (set_same (encode initial) n x (inr h)) (set_same (encode initial) n x out) initial_parts.0 initial_parts.1

    threads_changed : 4 ≤ n → (n < 8) ⊎ (37896 ≤ n) → (ThreadsAre s t (changed n x) → ⊥) → LentRefused s (damaged_case (changed n x) 27)
    threads_changed h out bad =
        bad_threads (changed n x) (length_changed n x) objects_kept (bindings_kept h out) (λ y. bad ((parts_stand acc (length_changed n x)).0 y).2)

  -- the whole table, for every accepted script
  pub all_lent : (x : LentCase) → x ∈ lent_cases → LentRefused s x
  unfolding flat_map preorder frames_of changed lent_cases
  all_lent =
      each_cons (LentRefused s) _ _ (no_length s t acc (zeros 65535) (zeros 63) (zeros 4096) (λ e. omega (arith, length_zeros 65535)))
      (each_cons (LentRefused s) _ _ (no_length s t acc (zeros 65537) (zeros 63) (zeros 4096) (λ e. omega (arith, length_zeros 65537)))
      (each_cons (LentRefused s) _ _ (no_length s t acc (zeros 49152) (zeros 63) (zeros 4096) (λ e. omega (arith, length_zeros 49152)))
      (each_cons (LentRefused s) _ _ (no_buffer s t acc (encode initial) (zeros 62) (zeros 4097) (encode_length initial) (λ e. omega (arith, length_zeros 62)) many)
      (each_cons (LentRefused s) _ _ (no_buffer s t acc (encode initial) (zeros 64) (zeros 4097) (encode_length initial) (λ e. omega (arith, length_zeros 64)) many)
      (each_cons (LentRefused s) _ _ (bad_objects (changed 1 2) (length_changed 1 2) ((by_bytes s t _).object_fault (many_objects (omega (arith, high_changed 0 2 (omega arith))))))
      (each_cons (LentRefused s) _ _ (bindings_changed 3 16 (omega arith) (inl (omega arith)) ((by_bytes s t _).binding_fault (many_bindings (omega (arith, high_changed 2 16 (omega arith))))))
      (each_cons (LentRefused s) _ _ (threads_changed 5 16 (omega arith) (inl (omega arith)) (omega arith) (inl (omega arith)) ((by_bytes s t _).rest_fault (many_frames (omega (arith, high_changed 4 16 (omega arith))))))
      (each_cons (LentRefused s) _ _ (threads_changed 7 1 (omega arith) (inl (omega arith)) (omega arith) (inl (omega arith)) ((by_bytes s t _).rest_fault (many_positions (omega (arith, high_changed 6 1 (omega arith))))))
      (each_cons (LentRefused s) _ _ (bad_threads (zeros 65536) (length_zeros 65536) (zeros_objects s 65536) (zeros_bindings s 65536) (λ x. zeros_form x.config x.holds.is))
      (each_cons (LentRefused s) _ _ (bad_objects (changed 8 1) (length_changed 8 1) ((by_bytes s t _).object_fault (object_set (encode initial) (encode_length initial) 0 0 (free Objects 0 (omega arith)) (omega arith) (omega arith))))
      (each_cons (LentRefused s) _ _ (bad_objects (changed 13319 1) (length_changed 13319 1) ((by_bytes s t _).object_fault (object_set (encode initial) (encode_length initial) 255 51 (free Objects 255 (omega arith)) (omega arith) (omega arith))))
      (each_cons (LentRefused s) _ _ (bindings_changed 13320 1 (omega arith) (inr (omega arith)) ((by_bytes s t _).binding_fault (binding_set (encode initial) (encode_length initial) 0 0 (free Bindings 0 (omega arith)) (omega arith) (omega arith))))
      (each_cons (LentRefused s) _ _ (bindings_changed 37895 1 (omega arith) (inr (omega arith)) ((by_bytes s t _).binding_fault (binding_set (encode initial) (encode_length initial) 2047 11 (free Bindings 2047 (omega arith)) (omega arith) (omega arith))))
      (each_cons (LentRefused s) _ _ (threads_changed 38777 1 (omega arith) (inr (omega arith)) (omega arith) (inr (omega arith)) ((by_bytes s t _).rest_fault (position_set (encode initial) (encode_length initial) 62 13 (free Positions 62 (omega arith)) (omega arith) (omega arith))))
      (each_cons (LentRefused s) _ _ (threads_changed 51065 1 (omega arith) (inr (omega arith)) (omega arith) (inr (omega arith)) ((by_bytes s t _).rest_fault (frame_set (encode initial) (encode_length initial) 2047 5 (free Frames 2047 (omega arith)) (omega arith) (omega arith))))
      (each_cons (LentRefused s) _ _ (threads_changed 51066 1 (omega arith) (inr (omega arith)) (omega arith) (inr (omega arith)) ((by_bytes s t _).rest_fault (rest_set (encode initial) (encode_length initial) 51066 (omega arith) (omega arith))))
      (each_cons (LentRefused s) _ _ (threads_changed 65535 1 (omega arith) (inr (omega arith)) (omega arith) (inr (omega arith)) ((by_bytes s t _).rest_fault (rest_set (encode initial) (encode_length initial) 65535 (omega arith) (omega arith))))
      (each_cons (LentRefused s) _ _ both_bad
      (each_cons (LentRefused s) _ _ later_bad
      (each_cons (LentRefused s) _ _ (no_length s t acc (zeros 65535) (zeros 62) (zeros 4097) (λ e. omega (arith, length_zeros 65535)))
      (each_cons (LentRefused s) _ _ (no_buffer s t acc (zeros 65536) (zeros 62) (zeros 4097) (length_zeros 65536) (λ e. omega (arith, length_zeros 62)) many)
      (λ x m. absurd (Memᴰ.not-nil m)))))))))))))))))))))))
    where
      both_bad : LentRefused s (damaged_case (set (changed 37895 1) 13319 1) 21)
      both_bad =
          let b = changed 37895 1 in
          bad_objects (set b 13319 1) (length-set b 13319 1 ∙ length_changed 37895 1)
          ((by_bytes s t _).object_fault (object_set b (length_changed 37895 1) 255 51 (omega (arith, count_kept 37895 1 Objects (λ e. omega (arith, e)))) (omega arith) (omega arith)))

      later_bad : LentRefused s (damaged_case (set (changed 65535 1) 37895 1) 26)
      later_bad =
          let b = changed 65535 1 in
          bad_bindings (set b 37895 1) (length-set b 37895 1 ∙ length_changed 65535 1)
          (objects_set 37895 1 (omega arith) (inr (omega arith)) b (objects_kept 65535 1 (omega arith) (inr (omega arith))))
          ((by_bytes s t _).binding_fault (binding_set b (length_changed 65535 1) 2047 11 (omega (arith, count_kept 65535 1 Bindings (λ e. omega (arith, e)))) (omega arith) (omega arith)))

      free : (a : Area) (i : ℕ) → length (rows (parts_of initial) a) ≤ i → counted (encode initial) a ≤ i
      free a i h = omega (arith, count_is_lem (parts_of initial) a, h)

      many : CHOICES < length (zeros 4097)
      many = omega (arith, length_zeros 4097)
