-- Silent moves.
use Rattle.std.specs.Prelude.{ℕ, suc, max, ◌≡◌, Bool, true, false, cond, List, [], ◌∷◌, ltb, ℤ}
use Rattle.std.proofs.Math.Option.{Option, none, some}
use Rattle.script.specs.Lists.{run}
use Rattle.script.specs.Syntax.{Point, Expr, null, var, select, update, call, bind, new, cast, fork, lock, constant, add}
use Rattle.script.specs.Syntax.{Node, n_null, n_var, n_select, n_update, n_call, n_bind, n_new, n_cast, n_fork, n_lock, n_constant, n_add}
use Rattle.machine.specs.declared.Value.TheVariants.{Null as nil, Int as int}
use Rattle.machine.specs.declared.Frame.{Frame}
use Rattle.machine.specs.declared.Frame.TheVariants.{Awaits as awaits, Casts as casts}
use Rattle.machine.specs.Config.{Code, Stores, Tree, running, returning, failed, join, Config}
use Rattle.machine.specs.Machine.{Places, moved, Path, here, left, right, move, part}

-- "Silent: null becomes a value; kinds 3, 4, 5 and 7 descend into their first-run part and leave a frame." A constant "becomes a value silently as null does".
-- One table of the kinds; `forNull` is the answer for null and a constant.
abbrev pub silent_kind : Bool → Node → Bool
silent_kind forNull n_null = forNull
silent_kind forNull (n_var x) = false
silent_kind forNull (n_select x f) = false
silent_kind forNull (n_update x f a) = true
silent_kind forNull (n_call x m a) = true
silent_kind forNull (n_bind x a b) = true
silent_kind forNull (n_new c) = false
silent_kind forNull (n_cast t a) = true
silent_kind forNull (n_fork a b c) = false
silent_kind forNull (n_lock x a) = false
silent_kind forNull (n_constant z) = forNull
silent_kind forNull (n_add x y) = false

-- The move of a thread at this node is silent; it descends.
abbrev pub quiet : Node → Bool
quiet n = silent_kind true n

abbrev pub descends : Node → Bool
descends n = silent_kind false n

abbrev pub quiet_in : Code → Option Tree → Bool
quiet_in s none = false
quiet_in s (some (running a e fs)) = quiet (s.view a)
quiet_in s (some (returning v fs)) = false
quiet_in s (some failed) = false
quiet_in s (some (join fs a e l r)) = false

-- The silent moves of a thread, one by one: "null becomes a value; kinds 3, 4, 5 and 7 descend into their first-run part and leave a frame", and a constant
-- "becomes a value silently as null does".
pub data SilentMove (s : Code) : Tree → Tree → Type 0 where
  -- kind 0
  null_value : {a : Point} {e : ℕ} {fs : List Frame} → s.view a ≡ n_null → SilentMove s (running a e fs) (returning nil fs)
  -- kind 10
  constant_value : {a : Point} {e : ℕ} {z : ℤ} {fs : List Frame} → s.view a ≡ n_constant z → SilentMove s (running a e fs) (returning (int z) fs)
  -- kinds 3, 4, 5 and 7
  into_write : {a b : Point} {e x f : ℕ} {fs : List Frame} → s.view a ≡ n_update x f b → SilentMove s (running a e fs) (running b e (awaits a e ∷ fs))
  into_call : {a b : Point} {e x m : ℕ} {fs : List Frame} → s.view a ≡ n_call x m b → SilentMove s (running a e fs) (running b e (awaits a e ∷ fs))
  into_let : {a b c : Point} {e x : ℕ} {fs : List Frame} → s.view a ≡ n_bind x b c → SilentMove s (running a e fs) (running b e (awaits a e ∷ fs))
  into_cast : {a b : Point} {e t : ℕ} {fs : List Frame} → s.view a ≡ n_cast t b → SilentMove s (running a e fs) (running b e (casts a ∷ fs))

-- The part of the tree at this place changes so, and all else stays as it was.
pub data ChangedAt (R : Tree → Tree → Type 0) : Path → Tree → Tree → Type 0 where
  changed_here : {t u : Tree} → R t u → ChangedAt R here t u
  changed_left : {fs : List Frame} {a : Point} {e : ℕ} {l k r : Tree} {p : Path} → ChangedAt R p l k
      → ChangedAt R (left p) (join fs a e l r) (join fs a e k r)
  changed_right : {fs : List Frame} {a : Point} {e : ℕ} {l r k : Tree} {p : Path} → ChangedAt R p r k
      → ChangedAt R (right p) (join fs a e l r) (join fs a e l k)

-- The thread at this place of the tree makes a silent move.
abbrev pub SilentAt : Code → Path → Tree → Tree → Type 0
SilentAt s p t u = ChangedAt (SilentMove s) p t u

-- "The count equals the chain of first-run parts from that node, one for each descent and one for a final null or constant": how many silent moves a thread has
-- before it at an expression.
abbrev pub chain : Expr → ℕ
chain (null n) = 1
chain (var n x) = 0
chain (select n x f) = 0
chain (update n x f e) = suc (chain e)
chain (call n x m e) = suc (chain e)
chain (bind n x e₁ e₂) = suc (chain e₁)
chain (new n c) = 0
chain (cast n t e) = suc (chain e)
chain (fork n e₁ e₂ e₃) = 0
chain (lock n x e) = 0
chain (constant n z) = 1
chain (add n x y) = 0

-- The count of a node of the script, "given by number (the answer is 0 where no such node is)".
unfoldable pub silent_from : Code → ℕ → ℕ
silent_from s n = cond (ltb n s.size) (chain (s.expr n)) 0

-- "the largest such count over all nodes of the script"
abbrev pub largest : List ℕ → ℕ
largest [] = 0
largest (n ∷ ns) = max n (largest ns)

unfoldable pub most_silent : Code → ℕ
most_silent s = largest (run (silent_from s) 0 s.size)

-- And the count of the part of the tree at a place: that of its node for a thread at one, and 0 for all else, which makes no silent move.
abbrev pub due : Code → Option Tree → ℕ
due s none = 0
due s (some (running a e fs)) = chain (s.expr a)
due s (some (returning v fs)) = 0
due s (some failed) = 0
due s (some (join fs a e l r)) = 0

-- `Row s lim p c n d`: from c to d the thread at p makes n silent moves and no other; in between others may move, while it stays as it is.
pub data Row (s : Code) (lim : Places) (p : Path) : Config → ℕ → Config → Type 0 where
  row_none : {c : Config} → Row s lim p c 0 c
  and_then : {c d : Config} {st : Stores} {t : Tree} {n : ℕ} → quiet_in s (part c.tree p) ≡ true → move s lim c p ≡ moved st t
      → Row s lim p (record { stores = st; tree = t }) n d → Row s lim p c (suc n) d
  meanwhile : {c d e : Config} {n : ℕ} → part d.tree p ≡ part c.tree p → Row s lim p d n e → Row s lim p c n e

-- Whether two places are one.
abbrev pub same_place : Path → Path → Bool
same_place here here = true
same_place here (left q) = false
same_place here (right q) = false
same_place (left p) here = false
same_place (left p) (left q) = same_place p q
same_place (left p) (right q) = false
same_place (right p) here = false
same_place (right p) (left q) = false
same_place (right p) (right q) = same_place p q
