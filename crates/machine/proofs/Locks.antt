-- Which locks a thread has is said in five ways, and they agree. `lock_frames` counts, by object, the list `held` of what frames lock; `lock_count` counts `lock_list`, which is the same of
-- a tree; and `held_by`, by which document 01 says who holds what, counts the published set 𝓛 of the thread at a place.
use Prim.Native.Nat.{ℕ, ◌+◌, ◌≤◌}
use native.Mathlib.Omega.{arith}
use native.Mathlib.Decide.{ℕ_discrete}
use mathlib.Core.Path.{◌≡◌, refl, sym, ap}
use mathlib.Core.List.Memᴰ
use mathlib.Core.List.{List, [], ◌∷◌, ◌++◌}
use mathlib.Core.Logic.{⊎_elim}
use lib.Dec.{eqb}
use borrow.Author.Tests.{eq-eqb, ne_eqb}
use Rattle.script.specs.Lists.{◌∈◌, count_in}
use Rattle.script.proofs.Lists.{count_append}
use Rattle.machine.specs.declared.Frame.{Frame}
use Rattle.machine.specs.declared.Frame.TheVariants.{Awaits as awaits, Casts as casts, Locks as locks}
use Rattle.machine.specs.Config.{Tree, running, returning, failed, join}
use Rattle.machine.specs.Machine.{one_if, lock_frames, held}
use Rattle.machine.specs.WellFormed.{lock_count}
use Rattle.machine.specs.Decide.{lock_list}

-- laws of counting
pub count_head : (o p : ℕ) (l : List ℕ) → count_in o (p ∷ l) ≡ one_if (eqb o p) + count_in o l
unfolding count_in
count_head o p l = go (ℕ_discrete o p)
  where
    go : Dec (o ≡ p) → count_in o (p ∷ l) ≡ one_if (eqb o p) + count_in o l
    go (yes e) = rw (eq-eqb p o (sym e), eq-eqb o p e) (omega arith)
    go (no n) = rw (ne_eqb p o (λ e. n (sym e)), ne_eqb o p n) (omega arith)

pub count_in_lem : (o : ℕ) (l : List ℕ) → 1 ≤ count_in o l → o ∈ l
unfolding count_in
count_in_lem o [] h = absurd (omega arith)
count_in_lem o (p ∷ l) h = go (ℕ_discrete o p) (count_in_lem o l)
  where
    go : Dec (o ≡ p) → (1 ≤ count_in o l → o ∈ l) → o ∈ p ∷ l
    go (yes e) f = Memᴰ.head e
    go (no n) f = Memᴰ.tail (f (omega (arith, count_head o p l, ap one_if (ne_eqb o p n))))

pub in_count : (o : ℕ) (l : List ℕ) → o ∈ l → 1 ≤ count_in o l
in_count o [] m = absurd (Memᴰ.not-nil m)
in_count o (p ∷ l) m =
    ⊎_elim (λ (e : o ≡ p). omega (arith, count_head o p l, ap one_if (eq-eqb o p e))) (λ k. omega (arith, count_head o p l, in_count o l k)) (Memᴰ.cases_cons m)

-- of frames
pub frames_held : (o : ℕ) (fs : List Frame) → lock_frames o fs ≡ count_in o (held fs)
unfolding count_in
frames_held o [] = refl
frames_held o (awaits n e ∷ fs) = frames_held o fs
frames_held o (casts n ∷ fs) = frames_held o fs
frames_held o (locks p ∷ fs) = omega (arith, frames_held o fs, count_head o p (held fs))

pub held_in : (o : ℕ) (fs : List Frame) → 1 ≤ lock_frames o fs → o ∈ held fs
held_in o fs h = count_in_lem o (held fs) (omega (arith, frames_held o fs))

pub in_held : (o : ℕ) (fs : List Frame) → o ∈ held fs → 1 ≤ lock_frames o fs
in_held o fs m = omega (arith, frames_held o fs, in_count o (held fs) m)

-- of a tree
pub count_listed : (o : ℕ) (t : Tree) → lock_count o t ≡ count_in o (lock_list t)
unfolding count_in
count_listed o (running a e fs) = frames_held o fs
count_listed o (returning v fs) = frames_held o fs
count_listed o failed = refl
count_listed o (join fs a e l r) =
    omega (arith, count_append o (held fs) (lock_list l ++ lock_list r), count_append o (lock_list l) (lock_list r), frames_held o fs, count_listed o l, count_listed o r)

pub lock_listed : (o : ℕ) (t : Tree) → 1 ≤ lock_count o t → o ∈ lock_list t
lock_listed o t h = count_in_lem o (lock_list t) (omega (arith, count_listed o t))
