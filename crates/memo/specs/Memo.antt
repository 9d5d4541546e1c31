-- The memo of what let frames wait for: an entry of WIDTH words for each node of a script, namely an environment and 1 more, or 0 where none is kept, the type
-- that is waited for, and the one that is given and 1 more, or 0 for a null.
use Rattle.std.specs.Prelude.{ℕ, zero, suc, ◌+◌, ◌*◌, ◌≤◌, ◌≡◌, List, length, get_or, set}
use Rattle.limits.specs.Limits.{NODES}
use Rattle.script.specs.Syntax.{Point}
use Rattle.machine.specs.Machine.{context}
use Rattle.environments.specs.Chains.{binding_count, bindings_in}
use Rattle.std.specs.declared.option.Option.{Option as CodeOption}
use Rattle.std.specs.declared.option.Option.TheVariants.{Some}
use Rattle.awaited.specs.declared.Waits.{Waits}
use Rattle.awaited.specs.declared.Waits.TheVariants.{For, ForNull}
use Rattle.awaited.specs.Awaited.{WaitsAs, ScopedBlock}

abbrev pub WIDTH : ℕ
WIDTH = 3

-- The words of the entry of node n.
abbrev pub kept_at : List ℕ → Point → ℕ
kept_at memo n = get_or memo (n * WIDTH) 0

abbrev pub awaits_at : List ℕ → Point → ℕ
awaits_at memo n = get_or memo (n * WIDTH + 1) 0

abbrev pub gives_at : List ℕ → Point → ℕ
gives_at memo n = get_or memo (n * WIDTH + 2) 0

-- The memo has an entry for each node, and each environment that it keeps is one of the block's.
pub record MemoBounded (b memo : List ℕ) : Type 0 where
  pub size : length memo ≡ NODES * WIDTH
  pub environments : (n e : ℕ) → kept_at memo n ≡ suc e → e ≤ binding_count b

-- What the last two words of an entry say.
abbrev pub waits_in : ℕ → ℕ → Waits
waits_in t zero = ForNull t
waits_in t (suc u) = For t u

-- Each entry that is kept says what its node waits for in its environment.
pub record Remembers (s b memo : List ℕ) : Type 0 where
  pub placed : MemoBounded b memo
  pub entries : (n e : ℕ) → kept_at memo n ≡ suc e → WaitsAs s b n e (Some (waits_in (awaits_at memo n) (gives_at memo n)))

-- What the code is lent, with the memo.
pub record MemoReady (s b memo : List ℕ) : Type 0 where
  pub ready : ScopedBlock s b
  pub remembers : Remembers s b memo

-- The entry of node n is of an environment with the scope of e, and says r.
pub record Recalled (b memo : List ℕ) (n : Point) (e : ℕ) (r : Waits) : Type 0 where
  pub kept : ℕ
  pub used : kept_at memo n ≡ suc kept
  pub scope : context (bindings_in b) kept ≡ context (bindings_in b) e
  pub says : waits_in (awaits_at memo n) (gives_at memo n) ≡ r

abbrev pub Recalls : List ℕ → List ℕ → Point → ℕ → CodeOption Waits → Type 0
Recalls b memo n e r = (w : Waits) → r ≡ Some w → Recalled b memo n e w

-- The memo with t and what is given for node n in environment e.
abbrev pub with_entry : List ℕ → Point → ℕ → ℕ → ℕ → List ℕ
with_entry memo n e t given = set (set (set memo (n * WIDTH) (e + 1)) (n * WIDTH + 1) t) (n * WIDTH + 2) given
