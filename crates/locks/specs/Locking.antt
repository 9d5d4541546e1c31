-- The lock frames of a block, and marks for the objects that they name.
use Rattle.std.specs.Prelude.{ℕ, ◌<◌, ◌≤◌, ◌≡◌, Bool, true, false, cond, not, ◌&&◌, List, eqb, ltb, length, get_or}
use Rattle.limits.specs.Limits.{BLOCK, OBJECTS}
use Rattle.script.specs.Lists.{sum_below}
use Rattle.machine.specs.Config.{Config}
use Rattle.machine.specs.Machine.{one_if}
use Rattle.machine.specs.Decide.{distinct_test, covered_test}
use Rattle.block.specs.declared.Area.{Area}
use Rattle.block.specs.declared.Area.TheVariants.{Objects, Positions, Frames}
use Rattle.block.specs.Layout.{most, counted, word_in, SHUT, KIND, OBJECT, FAILED, LOCKS}

-- The bytes are as many as a block has, and the counts within the limits.
pub record Sized (b : List ℕ) : Type 0 where
  pub long : length b ≡ BLOCK
  pub few : (a : Area) → counted b a ≤ most a

-- 1 for a shut object, 0 for an open one and where there is none: `shut_at` of the configuration.
abbrev pub shut_in : List ℕ → ℕ → ℕ
shut_in b o = cond (ltb o (counted b Objects)) (word_in b Objects o SHUT) 0

-- 1 where frame i is a lock frame of object o, else 0; and how many of the first n frames are.
abbrev pub lock_at : List ℕ → ℕ → ℕ → ℕ
lock_at b o i = cond (eqb (word_in b Frames i KIND) LOCKS) (one_if (eqb o (word_in b Frames i OBJECT))) 0

abbrev pub locks_in : List ℕ → ℕ → ℕ → ℕ
locks_in b o n = sum_below (lock_at b o) n

-- A table of how many of the first n frames are lock frames of each object: at most one, and that only of a shut object.
pub record Marks (b : List ℕ) (n : ℕ) (marks : List ℕ) : Type 0 where
  pub size : length marks ≡ OBJECTS
  pub counts : (o : ℕ) → get_or marks o 0 ≡ locks_in b o n
  pub distinct : (o : ℕ) → locks_in b o n ≤ shut_in b o

-- What a walk over the first n frames comes to: that table, or an object with a lock frame too many.
pub data Marking (b : List ℕ) (n : ℕ) (marks : List ℕ) : Bool → Type 0 where
  marked : Marks b n marks → Marking b n marks true
  clashes : (o : ℕ) → shut_in b o < locks_in b o n → Marking b n marks false

-- What position i is, and whether it is something else than a failed thread.
abbrev pub kind_at : List ℕ → ℕ → ℕ
kind_at b i = word_in b Positions i KIND

abbrev pub goes_on : ℕ → Bool
goes_on k = not (eqb k FAILED)

-- What question 27 asks of the locks.
abbrev pub locks_test : Config → Bool
locks_test c = distinct_test c.stores.objects c.tree && covered_test c.stores.objects c.tree
