use mathlib.Core.Path.{◌≡◌, ap, ◌∙◌}
use Prim.Native.Nat.{ℕ}
use mathlib.Core.List.{List}
use lib.ListN.{get_or}
use Rattle.block.specs.Block.{frame_words}
use Rattle.representation.specs.Changed.{put_words}
use Rattle.areas.proofs.Laws.{frame_row, frame_put}
use Rattle.areas.proofs.frames.put_frame.Goals as goal

pub returns : goal.returns
returns c =
    let e = c.frame_words.ensures in
    let word : (j : ℕ) → get_or c.frame_words.result j 0 ≡ get_or (frame_words c.args.f) j 0 = λ j. ap (λ (r : List ℕ). get_or r j 0) e in
    let row = frame_row c.args.f _ _ _ (word 0) (word 1) (word 2) in
    let put = c.put_row.ensures ∙ ap (put_words _ _) row in
    record { block_after = put; block_after_2 = λ p is l. frame_put _ p is _ _ _ c.requires l put }
