-- A table of the counts of a script's nodes.
use Rattle.std.specs.Prelude.{ℕ, suc, ◌+◌, ◌<◌, ◌≤◌, ◌≡◌, List, length, get_or}
use Rattle.limits.specs.Limits.{NODES}
use Rattle.script.specs.declared.Section.TheVariants.{Nodes as nodes}
use Rattle.script.specs.Section.{count_of, node_word}
use Rattle.script.specs.Reading.{expr_at}
use Rattle.script.specs.Statements.{Part, WithinLayout}
use Rattle.machine.specs.Silent.{chain}

-- r is the count of node n, and so at most as many as there are nodes from there on.
pub record CountIs (s : List ℕ) (n r : ℕ) : Type 0 where
  pub is : r ≡ chain (expr_at s n)
  pub few : n + r ≤ count_of s nodes

-- The table has the counts of the nodes from n on.
pub record CountedFrom (s counts : List ℕ) (n : ℕ) : Type 0 where
  pub long : length counts ≡ NODES
  pub counted : (m : ℕ) → n ≤ m → m < count_of s nodes → CountIs s m (get_or counts m 0)

-- What the count of node n is found from: a script within layout, and the counts of the nodes behind n.
pub record Counting (s counts : List ℕ) (n : ℕ) : Type 0 where
  pub layout : WithinLayout s
  pub there : n < count_of s nodes
  pub behind : CountedFrom s counts (n + 1)

-- "one for each descent": node n descends into the node that its word j names, so its count is one more.
pub record DescendsBy (s : List ℕ) (n j : ℕ) : Type 0 where
  pub word : j < 4
  pub part : Part s n (node_word s n j)
  pub more : chain (expr_at s n) ≡ suc (chain (expr_at s (node_word s n j)))
