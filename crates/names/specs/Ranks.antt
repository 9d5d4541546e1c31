-- The variables of a script by rank.
use Rattle.std.specs.Prelude.{ℕ, zero, suc, ◌+◌, ◌*◌, ◌/◌, ◌%◌, ◌<◌, ◌≤◌, ◌≡◌, List, [], ◌∷◌, length, get_or}
use Rattle.std.proofs.Math.Option.{Option, none, some}
use Rattle.std.specs.declared.option.Option.{Option as CodeOption}
use Rattle.std.specs.declared.option.Option.TheVariants.{Some, None}
use Rattle.limits.specs.Limits.{NODES}
use Rattle.script.specs.declared.Section.TheVariants.{Nodes as nodes}
use Rattle.script.specs.Section.{count_of, node_word}
use Rattle.script.specs.Syntax.{Node, n_null, n_var, n_select, n_update, n_call, n_bind, n_new, n_cast, n_fork, n_lock, n_constant, n_add}
use Rattle.script.specs.Reading.{view_at}

-- A node has two places for variables, its words a and b. They are numbered through all nodes: place j of node n is this slot.
abbrev pub slot_of : ℕ → ℕ → ℕ
slot_of n j = 2 * n + j

abbrev pub SLOTS : ℕ
SLOTS = 2 * NODES

abbrev pub RANKS : ℕ
RANKS = SLOTS + 2

abbrev pub BUCKETS : ℕ
BUCKETS = 512

abbrev pub SPACING : ℕ
SPACING = 64

abbrev pub FACTS : ℕ
FACTS = SLOTS + SLOTS + BUCKETS

-- The variables that a node names, by their places: those that it uses, or the one that it binds.
abbrev pub variables_in : Node → List ℕ
variables_in n_null = []
variables_in (n_var x) = x ∷ []
variables_in (n_select x f) = x ∷ []
variables_in (n_update x f p) = x ∷ []
variables_in (n_call x m p) = x ∷ []
variables_in (n_bind x p q) = x ∷ []
variables_in (n_new c) = []
variables_in (n_cast t p) = []
variables_in (n_fork p q r) = []
variables_in (n_lock x p) = x ∷ []
variables_in (n_constant z) = []
variables_in (n_add x y) = x ∷ y ∷ []

-- The variable that stands at place j of a node.
abbrev pub item_at : List ℕ → ℕ → Option ℕ
item_at [] j = none
item_at (x ∷ l) zero = some x
item_at (x ∷ l) (suc j) = item_at l j

abbrev pub name_in : ℕ → Node → Option ℕ
name_in j v = item_at (variables_in v) j

-- Node n of the script s names the variable x at its place j.
pub record Names (s : List ℕ) (n j x : ℕ) : Type 0 where
  pub there : n < count_of s nodes
  pub name : name_in j (view_at s n) ≡ some x

-- The variable at slot k, the word of its place, and that the variable x stands there.
abbrev pub name_at : List ℕ → ℕ → Option ℕ
name_at s k = name_in (k % 2) (view_at s (k / 2))

abbrev pub slot_word : List ℕ → ℕ → ℕ
slot_word s k = node_word s (k / 2) (1 + k % 2)

abbrev pub SlotNames : List ℕ → ℕ → ℕ → Type 0
SlotNames s k x = Names s (k / 2) (k % 2) x

-- The rank of a variable, as the table has it: `this` has 0, the parameter 1, and a node's variable what the table has at its slot.
pub data RankOf (s facts : List ℕ) : ℕ → ℕ → Type 0 where
  of_this : RankOf s facts 0 0
  of_parameter : RankOf s facts 1 1
  of_node : {n j x : ℕ} → Names s n j x → RankOf s facts x (get_or facts (slot_of n j) 0)

-- Every variable has one rank below `count`, and no two have the same.
pub record Ranked (s facts : List ℕ) (count : ℕ) : Type 0 where
  pub size : length facts ≡ FACTS
  pub few : count ≤ RANKS
  pub below : {x k : ℕ} → RankOf s facts x k → k < count
  pub same : {x k l : ℕ} → RankOf s facts x k → RankOf s facts x l → k ≡ l
  pub apart : {x y k : ℕ} → RankOf s facts x k → RankOf s facts y k → x ≡ y

-- The bucket that the variable x belongs to.
abbrev pub hash_of : ℕ → ℕ
hash_of x = (x + x / SPACING) % BUCKETS

-- Where the variable x is looked for: the first slot of its bucket, and 1 more.
abbrev pub head_of : List ℕ → ℕ → ℕ
head_of facts x = get_or facts (SLOTS + SLOTS + hash_of x) 0

-- A slot as a word of the table has it: 1 more, or 0 for none.
abbrev pub link_of : CodeOption ℕ → ℕ
link_of None = 0
link_of (Some k) = suc k

-- The search for the variable x along the links of a bucket comes to the answer: a slot where it stands, and 1 more, or 0.
pub data Search (s facts : List ℕ) (x : ℕ) : ℕ → ℕ → Type 0 where
  nowhere : Search s facts x 0 0
  at_slot : {k : ℕ} → slot_word s k ≡ x → Search s facts x (suc k) (suc k)
  onward : {k r : ℕ} → (slot_word s k ≡ x → ⊥) → Search s facts x (get_or facts (SLOTS + k) 0) r → Search s facts x (suc k) r

-- The buckets: links run to earlier slots, at every slot in a bucket stands a variable, and the search finds each variable that a node names, from 2 on.
pub record Indexed (s facts : List ℕ) : Type 0 where
  pub links : (k : ℕ) → k < SLOTS → get_or facts (SLOTS + k) 0 ≤ k
  pub inside : (i k : ℕ) → SLOTS ≤ i → get_or facts i 0 ≡ suc k → SlotNames s k (slot_word s k)
  pub found : {n j x : ℕ} → Names s n j x → 2 ≤ x → (m : ℕ) × Search s facts x (head_of facts x) (suc m)
