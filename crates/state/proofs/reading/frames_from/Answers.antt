use mathlib.Core.Path.{◌≡◌, sym, ap, ◌∙◌}
use Prim.Native.Nat.{ℕ}
use native.Mathlib.Omega.{arith}
use lib.Seq.{slice}
use Rattle.tree.specs.declared.Entry.{Entry}
use Rattle.tree.specs.Entries.{frame_sum}
use Rattle.tree.proofs.Walks.{sum_turn, sum_none}
use Rattle.state.specs.Positions.{entries_in}
use Rattle.state.proofs.Taking.{entries_many, entry_there}
use Rattle.state.proofs.reading.frames_from.Goals as goal

pub loop-i-init : goal.loop-i-init
loop-i-init c =
    (omega arith, omega arith, sym (sum_none (entries_in c.args.block.now) c.args.from), omega arith)

pub word-n-requires : goal.word-n-requires
word-n-requires c =
    (omega arith, omega arith)

pub loop-i-preserved : goal.loop-i-preserved
loop-i-preserved c =
    let b = c.args.block.now in
    let l = c.loop-i in
    let there = ap (λ (x : Entry). x.frames) (entry_there b l.i (omega arith)) in
    (omega arith, omega arith, omega (arith, sum_turn (entries_in b) c.args.from l.i l.invariant.0 (omega (arith, entries_many b)), there, c.word-n.ensures.0), omega (arith, c.word-n.ensures.1))

pub returns : goal.returns
returns c =
    let l = c.loop-i in
    let e : l.i ≡ c.args.to = omega arith in
    l.invariant.2 ∙ ap (λ (n : ℕ). frame_sum (slice c.args.from n (entries_in c.args.block.now))) e
