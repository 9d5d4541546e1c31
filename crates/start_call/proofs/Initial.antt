-- The initial block, written over bytes that were made 0.
use mathlib.Core.Path.{◌≡◌, sym, ap, ◌∙◌}
use mathlib.Core.List.{List}
use Prim.Native.Nat.{ℕ}
use lib.ListN.{length, replicate, length-replicate}
use Rattle.slices.specs.Put.{put_word}
use Rattle.limits.specs.Limits.{BLOCK}
use Rattle.machine.specs.Machine.{initial}
use Rattle.block.specs.declared.Area.TheVariants.{Positions}
use Rattle.block.specs.Layout.{count_byte, word_byte, RUNNING}
use Rattle.block.specs.Block.{encode}
use Rattle.representation.proofs.Start.{start_block}

pub started : (e z : List ℕ) → length e ≡ BLOCK → z ≡ replicate (length e) 0 → put_word (put_word z (word_byte Positions 0 0) RUNNING) (count_byte Positions) 1 ≡ encode initial
started e z long is =
    let same : length z ≡ length e = ap length is ∙ length-replicate (length e) 0 in
    start_block z (same ∙ long) (is ∙ ap (λ (n : ℕ). replicate n 0) (sym same))
