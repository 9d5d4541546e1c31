-- The block that Start writes: zeros but for two words. "Start writes the initial block over anything: no object, no binding, and one thread at node 0 without a frame."
use mathlib.Core.Path.{◌≡◌, refl, ap, ◌∙◌}
use mathlib.Core.List.{List, [], ◌∷◌, flat_map}
use Prim.Native.Nat.{ℕ, ◌+◌}
use native.Mathlib.Omega.{arith}
use lib.ListN.{length, get_or, replicate}
use Rattle.words.specs.Word.{word_at, bytes}
use Rattle.slices.specs.Put.{put_word}
use Rattle.limits.specs.Limits.{BLOCK}
use Rattle.script.proofs.Lists.{zeros}
use Rattle.machine.specs.Machine.{initial}
use Rattle.block.specs.declared.Area.{Area}
use Rattle.block.specs.declared.Area.TheVariants.{Objects, Bindings, Positions, Frames}
use Rattle.block.specs.Layout.{count_byte, word_byte, RUNNING}
use Rattle.block.specs.Block.{preorder, frames_of, Parts, parts_of, rows, laid, encode}
use Rattle.representation.proofs.Shows.{shows_laid}
use Rattle.representation.proofs.Changes.{put_more}

abbrev nothing : Parts
nothing = record { objects = []; bindings = []; positions = []; frames = [] }

no_rows : (a : Area) → rows nothing a ≡ []
no_rows Objects = refl
no_rows Bindings = refl
no_rows Positions = refl
no_rows Frames = refl

module _ (z : List ℕ) (long : length z ≡ BLOCK) (made : z ≡ replicate (length z) 0) where
  byte_zero : (i : ℕ) → get_or z i 0 ≡ 0
  byte_zero i = ap (λ (l : List ℕ). get_or l i 0) made ∙ zeros (length z) i

  word_zero : (at : ℕ) → word_at z at ≡ 0
  unfolding word_at
  word_zero at = omega (arith, byte_zero at, byte_zero (at + 1))

  zeros_laid : z ≡ bytes (laid nothing)
  zeros_laid =
      shows_laid z nothing
      (record {
        long = long;
        small = λ i. omega (arith, byte_zero i);
        counts = λ a. rw (no_rows a) (word_zero (count_byte a));
        records = λ a i j hi hj. rw (no_rows a) (word_zero (word_byte a i j));
        rest = λ n h l. word_zero _;
      })

  pub start_block : put_word (put_word z (word_byte Positions 0 0) RUNNING) (count_byte Positions) 1 ≡ encode initial
  unfolding preorder frames_of flat_map
  start_block = rw zeros_laid (put_more nothing (parts_of initial) Positions refl (RUNNING ∷ []) (omega arith) (omega arith) refl)
