-- Places of a tree against the records of its block: "A choice is a byte naming a tree position, preorder, root 0, left before right."
use Rattle.std.specs.Prelude.{ℕ, zero, suc, ◌+◌, ◌≡◌, Bool, true, false, cond, List, [], ◌++◌, get_or, take, drop}
use Rattle.std.proofs.Math.Option.{some}
use Rattle.machine.specs.declared.Frame.{Frame}
use Rattle.machine.specs.Config.{Tree, running, returning, failed, join}
use Rattle.machine.specs.Machine.{Outcome, still, full, moved, Path, here, left, right, size, part}
use Rattle.block.specs.Block.{preorder}

-- A list with `old` elements from number `at` on replaced by others.
abbrev pub splice : {A : Type 0} → List A → ℕ → ℕ → List A → List A
splice l at old new = take at l ++ (new ++ drop (at + old) l)

-- Choice n names place p: the tree has a part there, record n is its root's, and its records are those from n on, as many as it has positions.
pub record Named (t : Tree) (n : ℕ) (p : Path) : Type 0 where
  pub tree : Tree
  pub there : part t p ≡ some tree
  pub root : get_or (preorder t) n failed ≡ tree
  pub records : preorder t ≡ splice (preorder t) n (size tree) (preorder tree)

-- The tree with another part at a place.
abbrev pub replaced : Tree → Path → Tree → Tree
replaced t here w = w
replaced (running a e fs) (left p) w = running a e fs
replaced (running a e fs) (right p) w = running a e fs
replaced (returning v fs) (left p) w = returning v fs
replaced (returning v fs) (right p) w = returning v fs
replaced failed (left p) w = failed
replaced failed (right p) w = failed
replaced (join fs a e l r) (left p) w = join fs a e (replaced l p w) r
replaced (join fs a e l r) (right p) w = join fs a e l (replaced r p w)

-- The frames that the part at a place is handed from the joins above it, nearest first: "a join's are resumed by its leftmost thread".
abbrev pub frames_above : List Frame → Tree → Path → List Frame
frames_above above t here = above
frames_above above (running a e fs) (left p) = []
frames_above above (running a e fs) (right p) = []
frames_above above (returning v fs) (left p) = []
frames_above above (returning v fs) (right p) = []
frames_above above failed (left p) = []
frames_above above failed (right p) = []
frames_above above (join fs a e l r) (left p) = frames_above (fs ++ above) l p
frames_above above (join fs a e l r) (right p) = frames_above [] r p

-- What a move of the part at a place comes to in the whole tree.
abbrev pub in_tree : Tree → Path → Outcome → Outcome
in_tree t p still = still
in_tree t p (full k) = full k
in_tree t p (moved st w) = moved st (replaced t p w)

-- The number of the first of the joins that stand, one after the other, directly before record n; n itself if none does.
abbrev pub is_join : Tree → Bool
is_join (running a e fs) = false
is_join (returning v fs) = false
is_join failed = false
is_join (join fs a e l r) = true

abbrev pub joins_from : List Tree → ℕ → ℕ
joins_from ss zero = 0
joins_from ss (suc n) = cond (is_join (get_or ss n failed)) (joins_from ss n) (suc n)
