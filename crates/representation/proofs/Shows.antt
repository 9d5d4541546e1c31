-- A block is known by what there is to see in it.
use mathlib.Core.Path.{◌≡◌, refl, sym, ap, ◌∙◌}
use mathlib.Core.List.{List, ◌∷◌}
use Prim.Native.Nat.{ℕ, zero, suc, ◌+◌, ◌*◌, ◌-◌, ◌/◌, ◌%◌, ◌<◌, ◌≤◌}
use native.Mathlib.Nat.{div-add-mod, mod-lt, lt_of_mul-lt-mul_left}
use native.Mathlib.Omega.{arith}
use native.Mathlib.Decide.{dec_lt}
use lib.ListN.{length, get_or, drop, drop_of_length-le}
use lib.Seq.{drop-cons, ext_get_or}
use Rattle.words.specs.Word.{word_at, bytes}
use Rattle.words.proofs.Laws.{word_bytes}
use Rattle.script.specs.Lists.{run}
use Rattle.script.proofs.Lists.{length_run, get_d_run}
use Rattle.block.specs.declared.Area.{Area}
use Rattle.block.specs.declared.Area.TheVariants.{Objects, Bindings, Positions, Frames}
use Rattle.block.specs.Layout.{WORDS, HEADER, count_word, width, most, begins, END}
use Rattle.block.specs.Block.{Parts, laid}
use Rattle.representation.specs.Shows.{Shows}
use Rattle.block.proofs.Words.{length_laid, count_is_lem, word_is, rest_blank}

-- bytes are those of the words read from them
bytes_run : (b : List ℕ) → ((i : ℕ) → get_or b i 0 < 256) → (i n : ℕ) → 2 * (i + n) ≡ length b → bytes (run (λ k. word_at b (2 * k)) i n) ≡ drop (2 * i) b
unfolding bytes run word_at
bytes_run b small i zero e = sym (drop_of_length-le b {i = 2 * i} (omega arith))
bytes_run b small i (suc n) e =
    let x = get_or b (2 * i) 0 in
    let y = get_or b (2 * i + 1) 0 in
    let lo : (x + y * 256) % 256 ≡ x = omega (arith, small (2 * i)) in
    let hi : (x + y * 256) / 256 ≡ y = omega (arith, small (2 * i)) in
    let s : 2 * i + 1 ≡ suc (2 * i) = omega arith in
    let t : 2 * (i + 1) ≡ suc (suc (2 * i)) = omega arith in
    let later : bytes (run (λ k. word_at b (2 * k)) (i + 1) n) ≡ drop (suc (suc (2 * i))) b = rw t at (bytes_run b small (i + 1) n (omega arith)) in
    let front : drop (2 * i) b ≡ x ∷ y ∷ drop (suc (suc (2 * i))) b =
    drop-cons b (2 * i) 0 (omega arith) ∙ rw s (ap (λ (l : List ℕ). x ∷ l) (drop-cons b (suc (2 * i)) 0 (omega arith)))
    in
    cc

-- what a word of a block is: a count, a word of a record, or past the areas
data Spot (n : ℕ) : Type 0 where
  a_count : (a : Area) → n ≡ count_word a → Spot n
  a_word : (a : Area) (i j : ℕ) → i < most a → j < width a → n ≡ begins a + width a * i + j → Spot n
  past : END ≤ n → Spot n

header_spot : (n : ℕ) → n < HEADER → Spot n
header_spot zero h = a_count Objects refl
header_spot (suc zero) h = a_count Bindings refl
header_spot (suc (suc zero)) h = a_count Frames refl
header_spot (suc (suc (suc zero))) h = a_count Positions refl
header_spot (suc (suc (suc (suc n)))) h = absurd (omega arith)

some_width : (a : Area) → 0 < width a
some_width Objects = omega arith
some_width Bindings = omega arith
some_width Positions = omega arith
some_width Frames = omega arith

-- a word of an area, or one after it
area_spot : (a : Area) (n : ℕ) → begins a ≤ n → (begins a + width a * most a ≤ n → Spot n) → Spot n
area_spot a n h later =
    elim (dec_lt n (begins a + width a * most a)) [
      | yes l ↦
          let m = n - begins a in
          let e = div-add-mod m (width a) in
          a_word a (m / width a) (m % width a) (lt_of_mul-lt-mul_left (width a) (omega (arith, e))) (mod-lt m (some_width a)) (omega (arith, e))
      | no l ↦ later (omega arith)
    ]

spot : (n : ℕ) → Spot n
spot n =
    elim (dec_lt n HEADER) [
      | yes h ↦ header_spot n h
      | no h ↦
          area_spot Objects n (omega arith)
          (λ x. area_spot Bindings n (omega arith) (λ y. area_spot Positions n (omega arith) (λ z. area_spot Frames n (omega arith) (λ w. past (omega arith)))))
    ]

module _ (b : List ℕ) (p : Parts) (s : Shows b p) where
  word_seen : (n : ℕ) → n < WORDS → Spot n → word_at b (2 * n) ≡ word_at (bytes (laid p)) (2 * n)
  word_seen n h (a_count a e) = rw e (s.counts a ∙ sym (count_is_lem p a))
  word_seen n h (a_word a i j hi hj e) = rw e (s.records a i j hi hj ∙ sym (word_is p a i j hi hj))
  word_seen n h (past e) = s.rest n e h ∙ sym (rest_blank p n e h)

  -- bytes that show the parts are the block laid from them
  pub shows_laid : b ≡ bytes (laid p)
  shows_laid =
      sym (bytes_run b s.small 0 WORDS (sym s.long))
      ∙ ap bytes
      (ext_get_or 0 (run word 0 WORDS) (laid p) (length_run word 0 WORDS ∙ sym (length_laid p))
      (λ n h.
      let l : n < WORDS = omega (arith, length_run word 0 WORDS) in
      let z : 0 + n ≡ n = omega arith in
      get_d_run word 0 WORDS n 0 l ∙ rw z (word_seen n l (spot n)) ∙ word_bytes (laid p) n))
    where
      word : ℕ → ℕ
      word n = word_at b (2 * n)
