-- Laws of stacks in arrays: the elements newest first, and behind them the rest of the array.
use Prim.Native.Nat.{ℕ, zero, suc, ◌+◌, ◌*◌, ◌-◌, ◌/◌, ◌<◌, ◌≤◌}
use mathlib.Core.Path.{◌≡◌, refl, sym, ap, ◌∙◌, subst}
use mathlib.Core.Bool.{Bool, false, cond}
use mathlib.Core.List.{List, [], ◌∷◌, reverse, reverse_aux, reverse_aux-eq}
use native.Mathlib.Omega.{arith}
use native.Mathlib.Numerals.{add-one}
use lib.ListN.{length, get_or, set, drop, length-set, length-reverse, length-reverse_aux}
use lib.Seq.{set_at, get_or_at}
use borrow.Author.Tests.{le-leb}
use Rattle.grammar.specs.Roles.{BINDING}
use Rattle.flat.specs.declared.Turn.{Turn}
use Rattle.flat.specs.Flat.{top_of, settled, replaced_last, role_by, roles_by, closers_by, pops_test, kept_by, PUSH_LET, CLOSERS, POINTS}
use Rattle.std.specs.Prelude.{Option, Some, None}
use Rattle.turns.specs.Stacks.{Stacked, Closers, TopIs, top_number}

set_seam : (l : List ℕ) (a : ℕ) (rest : List ℕ) (v : ℕ) → set (reverse_aux l (a ∷ rest)) (length l) v ≡ reverse_aux l (v ∷ rest)
set_seam l a rest v =
    rw (reverse_aux-eq l (a ∷ rest), reverse_aux-eq l (v ∷ rest)) (set_at (reverse l) a rest v (length l) (length-reverse l))

get_seam : (l : List ℕ) (a : ℕ) (rest : List ℕ) → get_or (reverse_aux l (a ∷ rest)) (length l) 0 ≡ a
get_seam l a rest = rw (reverse_aux-eq l (a ∷ rest)) (get_or_at (reverse l) a rest 0 (length l) (length-reverse l))

-- Element i of the stack is i + 1 places below its height.
set_onto : (l rest : List ℕ) (i v : ℕ) → i < length l → set (reverse_aux l rest) (length l - suc i) v ≡ reverse_aux (set l i v) rest
set_onto [] rest i v h = absurd (omega arith)
set_onto (a ∷ l) rest zero v h = let e : suc (length l) - 1 ≡ length l = omega arith in rw e (set_seam l a rest v)
set_onto (a ∷ l) rest (suc i) v h =
    let e : suc (length l) - suc (suc i) ≡ length l - suc i = omega arith in rw e (set_onto l (a ∷ rest) i v (omega arith))

get_onto : (l rest : List ℕ) (i : ℕ) → i < length l → get_or (reverse_aux l rest) (length l - suc i) 0 ≡ get_or l i 0
get_onto [] rest i h = absurd (omega arith)
get_onto (a ∷ l) rest zero h = let e : suc (length l) - 1 ≡ length l = omega arith in rw e (get_seam l a rest)
get_onto (a ∷ l) rest (suc i) h =
    let e : suc (length l) - suc (suc i) ≡ length l - suc i = omega arith in rw e (get_onto l (a ∷ rest) i (omega arith))

-- The top, and the number that the machine has for it.
pub number_there : (top : Option ℕ) (cs : List ℕ) → TopIs top cs → top_number top ≡ top_of cs
number_there None cs e = rw e
number_there (Some c) cs e = rw e

pub head_of : List ℕ → Option ℕ
head_of [] = None
head_of (c ∷ cs) = Some c

pub head_is : (cs : List ℕ) → TopIs (head_of cs) cs
unfolding head_of
head_is [] = refl
head_is (c ∷ cs) = refl

-- Elements settled and replaced.
pub settled_in :
    (array : List ℕ) (n d r : ℕ)
    → (d ≡ 0 → ⊥)
    → d ≤ n
    → (l rest : List ℕ)
    → Stacked array n l rest
    → Stacked (set array (n - d) (r + get_or array (n - d) 0 / 32 * 32)) n (settled d r l) rest
settled_in array n zero r z h l rest s = absurd (z refl)
settled_in array n (suc i) r z h l rest s =
    let e : n - suc i ≡ length l - suc i = omega (arith, s.high) in
    let low : i < length l = omega (arith, s.high) in
    let w : get_or array (n - suc i) 0 / 32 * 32 ≡ BINDING * (get_or l i 0 / BINDING) =
    rw (e, s.holds, get_onto l rest i low) (omega arith) in
    record {
      holds = rw (w, e, s.holds) (set_onto l rest i (r + BINDING * (get_or l i 0 / BINDING)) low);
      high = s.high ∙ sym (length-set l i (r + BINDING * (get_or l i 0 / BINDING)));
    }

pub replaced_in :
    (array : List ℕ) (n r : ℕ)
    → (r ≡ 0 → ⊥)
    → (n ≡ 0 → ⊥)
    → (l rest : List ℕ)
    → Stacked array n l rest
    → Stacked (set array (n - 1) r) n (replaced_last r l) rest
replaced_in array n zero y z l rest s = absurd (y refl)
replaced_in array n (suc r) y z [] rest s = absurd (omega (arith, s.high))
replaced_in array n (suc r) y z (a ∷ l) rest s =
    let e : n - 1 ≡ length l = omega (arith, s.high) in
    record { holds = rw (e, s.holds) (set_seam l a rest (suc r)); high = s.high }

-- One more element.
pub pushed :
    (array : List ℕ) (n v : ℕ) (l rest : List ℕ)
    → n < length array
    → Stacked array n l rest
    → Stacked (set array n v) (n + 1) (v ∷ l) (drop 1 rest)
pushed array n v l [] h s = absurd (omega (arith, ap length s.holds, length-reverse_aux l [], s.high))
pushed array n v l (a ∷ rest) h s =
    record { holds = rw (s.high, s.holds) (set_seam l a rest v); high = add-one n ∙ ap suc s.high }

pub role_put :
    (roles roles₁ roles₂ : List ℕ) (n : ℕ) (m : Turn) (own : Bool) (r : ℕ)
    → ((l rest : List ℕ) → Stacked roles n l rest → Stacked roles₁ n (settled m.back m.becomes l) rest)
    → ((l rest : List ℕ) → Stacked roles₁ n l rest → Stacked roles₂ n (replaced_last m.before l) rest)
    → r ≡ role_by m own
    → n < length roles₂
    → (l rest : List ℕ)
    → Stacked roles n l rest
    → Stacked (set roles₂ n r) (n + 1) (roles_by m own l) (drop 1 rest)
role_put roles roles₁ roles₂ n m own r f g e low l rest s =
    let settled-l = settled m.back m.becomes l in
    subst (λ (x : ℕ). Stacked (set roles₂ n r) (n + 1) (x ∷ replaced_last m.before settled-l) (drop 1 rest)) e
    (pushed roles₂ n r (replaced_last m.before settled-l) rest low (g settled-l rest (f l rest s)))

-- Closers: one is taken off, none is touched, one is pushed.
pub pushed_one :
    (array : List ℕ) (n d r : ℕ) (v own : Bool)
    → pops_test d ≡ false
    → 11 ≤ d
    → r ≡ CLOSERS + d + POINTS * cond (kept_by d v own) 1 0
    → n < length array
    → (cs : List ℕ)
    → Closers array n cs
    → Closers (set array n r) (n + 1) (closers_by d v own cs)
pushed_one array n d r v own p h e low cs c =
    rw (p, le-leb PUSH_LET d h, ← e) (record { rest = drop 1 c.rest; stacked = pushed array n r cs c.rest low c.stacked })
