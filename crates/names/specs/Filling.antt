-- What the code of `ranks` keeps while it goes over the nodes.
use Rattle.std.specs.Prelude.{ℕ, ◌+◌, ◌*◌, suc, ◌<◌, ◌≤◌, ◌≡◌, List, length, get_or}
use Rattle.std.proofs.Math.Option.{none}
use Rattle.script.specs.declared.Section.TheVariants.{Nodes as nodes}
use Rattle.script.specs.Section.{count_of}
use Rattle.script.specs.declared.Kind.{Kind}
use Rattle.script.specs.declared.Kind.TheVariants.{Null as null_kind, Variable as var_kind, Select as select_kind, Update as update_kind, Call as call_kind}
use Rattle.script.specs.declared.Kind.TheVariants.{Let as bind_kind, New as new_kind, Cast as cast_kind, Fork as fork_kind, Lock as lock_kind}
use Rattle.script.specs.declared.Kind.TheVariants.{Constant as constant_kind, Sum as add_kind, Unknown as unknown_kind}
use Rattle.script.specs.Reading.{view_at}
use Rattle.std.specs.declared.option.Option.{Option as CodeOption}
use Rattle.std.specs.declared.option.Option.TheVariants.{Some, None}
use Rattle.names.specs.Ranks.{SLOTS, FACTS, name_in, name_at, slot_word, SlotNames, RankOf, head_of, Search}

-- The rank of the variable x, or that no node names it.
abbrev pub RankIs : List ℕ → List ℕ → ℕ → CodeOption ℕ → Type 0
RankIs s facts x None = (k : ℕ) → RankOf s facts x k → ⊥
RankIs s facts x (Some k) = RankOf s facts x k

-- How many variables a node of this kind names.
abbrev pub names_kind : Kind → ℕ
names_kind null_kind = 0
names_kind var_kind = 1
names_kind select_kind = 1
names_kind update_kind = 1
names_kind call_kind = 1
names_kind bind_kind = 1
names_kind new_kind = 0
names_kind cast_kind = 0
names_kind fork_kind = 0
names_kind lock_kind = 1
names_kind constant_kind = 0
names_kind add_kind = 2
names_kind unknown_kind = 0

-- A node with no variable at its first place has 0 there.
pub record Nameless (s facts : List ℕ) : Type 0 where
  pub zero : (n : ℕ) → n < count_of s nodes → name_in 0 (view_at s n) ≡ none → get_or facts (2 * n) 0 ≡ 0

-- What the search relies on: links run to earlier slots, and at every slot in a bucket stands a variable.
pub record Linked (s facts : List ℕ) : Type 0 where
  pub size : length facts ≡ FACTS
  pub links : (k : ℕ) → k < SLOTS → get_or facts (SLOTS + k) 0 ≤ k
  pub inside : (i k : ℕ) → SLOTS ≤ i → get_or facts i 0 ≡ suc k → SlotNames s k (slot_word s k)

-- The rank of a variable that stands at one of the first n slots, of `this` or of the parameter.
pub data RankTo (s facts : List ℕ) (n : ℕ) : ℕ → ℕ → Type 0 where
  to_this : RankTo s facts n 0 0
  to_parameter : RankTo s facts n 1 1
  to_slot : {i x : ℕ} → i < n → SlotNames s i x → RankTo s facts n x (get_or facts i 0)

-- The first n slots have their ranks and are in their buckets, and no other slot is.
pub record FilledTo (s facts : List ℕ) (n count : ℕ) : Type 0 where
  pub linked : Linked s facts
  pub few : count ≤ n + 2
  pub below : {x k : ℕ} → RankTo s facts n x k → k < count
  pub same : {x k l : ℕ} → RankTo s facts n x k → RankTo s facts n x l → k ≡ l
  pub apart : {x y k : ℕ} → RankTo s facts n x k → RankTo s facts n y k → x ≡ y
  pub earlier : (k i : ℕ) → SLOTS ≤ k → get_or facts k 0 ≡ suc i → i < n
  pub found : {i x : ℕ} → i < n → SlotNames s i x → 2 ≤ x → (m : ℕ) × Search s facts x (head_of facts x) (suc m)
  pub blank : (i : ℕ) → i < SLOTS → (i < n → name_at s i ≡ none) → get_or facts i 0 ≡ 0
