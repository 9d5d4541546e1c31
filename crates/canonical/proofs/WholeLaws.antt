-- The block as a whole: what the code of `whole` answers, a law for each return.
use mathlib.Core.Path.{◌≡◌}
use mathlib.Core.Bool.{Bool, true, false}
use mathlib.Core.List.{List}
use Prim.Native.Nat.{ℕ, ◌≤◌}
use lib.Dec.{leb}
use Rattle.limits.specs.Limits.{POSITIONS}
use Rattle.script.specs.Asking.{Decides, fails}
use Rattle.script.proofs.Tests.{decides_as, decides_le, says_yes}
use Rattle.block.specs.declared.Area.{Area}
use Rattle.block.specs.declared.Area.TheVariants.{Positions, Frames}
use Rattle.block.specs.Layout.{WORDS, END, most, counted}
use Rattle.representation.specs.InOrder.{Unused, RecordsOk, Blank, AreaOk, OneTree, FramesAdd, words_of}
use Rattle.parts.specs.Parts.{ThreadsOk}
use Rattle.in_order.proofs.Answers.{said_no}

-- One area.
module _ (fields : ℕ → ℕ) (b : List ℕ) (a : Area) where
  pub few_asked : (n all : ℕ) → n ≡ counted b a → all ≡ most a → Decides (counted b a ≤ most a) (leb n all)
  few_asked n all c m = rw (c, m) (decides_le (counted b a) (most a))

  module _ {q : Bool} (d : Decides ((counted b a ≤ most a) × RecordsOk fields b a (counted b a)) q) where
    pub bad_record : q ≡ false → Decides (AreaOk fields b a) q
    bad_record e = rw e (fails (λ ok. said_no d e (ok.few, ok.records)))

    pub area_asked : {r : Bool} → q ≡ true → Decides (Blank b a) r → Decides (AreaOk fields b a) r
    area_asked e = let x = says_yes d e in decides_as (λ z. record { few = x.0; records = x.1; blank = z }) (λ ok. ok.blank)

-- What is asked of positions and frames, part after part.
module _ (fields : ℕ → ℕ) (b : List ℕ) where
  abbrev pub Areas : Type 0
  Areas = AreaOk fields b Positions × AreaOk fields b Frames

  abbrev pub Tree : Type 0
  Tree = Areas × OneTree b

  abbrev pub Counted : Type 0
  Counted = Tree × FramesAdd b

-- Positions and frames together.
module _ {fields : ℕ → ℕ} {b : List ℕ} where
  pub few_positions : {q : Bool} → Decides (AreaOk fields b Positions) q → q ≡ true → counted b Positions ≤ POSITIONS
  few_positions d e = (says_yes d e).few

  module _ {q : Bool} (d : Decides (Counted fields b) q) where
    pub threads_refused : q ≡ false → Decides (ThreadsOk fields b) q
    threads_refused e = rw e (fails (λ o. said_no d e (((o.positions, o.frames), o.one_tree), o.all_frames)))

    pub threads_asked : {r : Bool} → q ≡ true → Decides (Unused (words_of b) END WORDS) r → Decides (ThreadsOk fields b) r
    threads_asked e =
        let x = says_yes d e in
        decides_as (λ z. record { positions = x.0.0.0; frames = x.0.0.1; one_tree = x.0.1; all_frames = x.1; rest = z }) (λ o. o.rest)
