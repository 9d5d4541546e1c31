-- The memo: what is recalled from it holds, and what is kept in it.
use mathlib.Core.Path.{◌≡◌, refl, sym, ap, ◌∙◌}
use mathlib.Core.List.{List}
use Prim.Native.Nat.{ℕ, suc, ◌+◌, ◌-◌, ◌*◌, ◌<◌, ◌≤◌}
use native.Mathlib.Omega.{arith}
use native.Mathlib.Decide.{ℕ_discrete}
use native.Mathlib.Numerals.{add-one}
use lib.ListN.{length, get_or, set, replicate, length-set, length-replicate}
use lib.Seq.{get_or-set_same, get_or-set_other}
use Rattle.limits.specs.Limits.{NODES}
use Rattle.script.specs.Syntax.{Point}
use Rattle.script.proofs.Lists.{zeros}
use Rattle.machine.specs.Machine.{context}
use Rattle.environments.specs.Chains.{binding_count, bindings_in, Chain}
use Rattle.std.specs.declared.option.Option.{Option as CodeOption}
use Rattle.std.specs.declared.option.Option.TheVariants.{Some, None}
use Rattle.awaited.specs.declared.Waits.{Waits}
use Rattle.awaited.specs.declared.Waits.TheVariants.{For, ForNull}
use Rattle.awaited.specs.Awaited.{WaitsAs}
use Rattle.memo.specs.Memo.{WIDTH, kept_at, awaits_at, gives_at, waits_in, MemoBounded, Remembers, Recalled, Recalls, with_entry}

-- nothing is recalled, or an entry is
pub recalls_nothing : (b memo : List ℕ) (n : Point) (e : ℕ) → Recalls b memo n e None
recalls_nothing b memo n e w f = absurd (let z : ◌≡◌ {A = ℕ} 0 1 = cc in omega arith)

module _ (b memo : List ℕ) (n : Point) (e : ℕ) (h : kept_at memo n ≡ 0 → ⊥) (same : context (bindings_in b) (kept_at memo n - 1) ≡ context (bindings_in b) e) where
  recalls_says : (r : Waits) → waits_in (awaits_at memo n) (gives_at memo n) ≡ r → Recalls b memo n e (Some r)
  recalls_says r k w f = let q : r ≡ w = cc in record { kept = kept_at memo n - 1; used = omega arith; scope = same; says = k ∙ q }

  pub recalls_null : gives_at memo n ≡ 0 → Recalls b memo n e (Some (ForNull (awaits_at memo n)))
  recalls_null z = recalls_says _ (rw z)

  pub recalls_entry : (gives_at memo n ≡ 0 → ⊥) → Recalls b memo n e (Some (For (awaits_at memo n) (gives_at memo n - 1)))
  recalls_entry z = let k : gives_at memo n ≡ suc (gives_at memo n - 1) = omega arith in recalls_says _ (ap (waits_in (awaits_at memo n)) k)

pub recalled : {s b memo : List ℕ} {n : Point} {e : ℕ} {r : Waits} → Remembers s b memo → Recalled b memo n e r → WaitsAs s b n e (Some r)
recalled {n = n} m k v = rw (← k.scope, ← k.says) (m.entries n k.kept k.used v)

-- what is inferred, as its words say it
pub as_words : (s b : List ℕ) (n : Point) (e : ℕ) (r : CodeOption Waits) (w v : Waits) → WaitsAs s b n e r → r ≡ Some w → w ≡ v → WaitsAs s b n e (Some v)
as_words s b n e r w v h f g = rw (f ∙ ap Some g) at h

-- a type that is given, as its word says it
pub in_words : (t u : ℕ) → For t u ≡ waits_in t (u + 1)
in_words t u = rw add-one

-- the chain of an environment that is kept
pub kept_chain : {b memo : List ℕ} (n : Point) {e : ℕ} → Chain b e → MemoBounded b memo → (kept_at memo n ≡ 0 → ⊥) → Chain b (kept_at memo n - 1)
kept_chain n ch p h = record { long = ch.long; few = ch.few; links = ch.links; within = p.environments n _ (omega arith) }

-- one entry exchanged, word by word
abbrev once : List ℕ → Point → ℕ → List ℕ
once memo n e = set memo (n * WIDTH) (e + 1)

abbrev twice : List ℕ → Point → ℕ → ℕ → List ℕ
twice memo n e t = set (once memo n e) (n * WIDTH + 1) t

module _ (memo : List ℕ) (size : length memo ≡ NODES * WIDTH) (n : Point) (h : n < NODES) (e t u : ℕ) where
  size_kept : length (with_entry memo n e t u) ≡ NODES * WIDTH
  size_kept = simp length-set size

  elsewhere : (k i : ℕ) → (k ≡ n → ⊥) → k * WIDTH ≤ i → i < k * WIDTH + WIDTH → get_or (with_entry memo n e t u) i 0 ≡ get_or memo i 0
  elsewhere k i d low high =
      get_or-set_other (twice memo n e t) (n * WIDTH + 2) i u 0 (λ q. d (omega arith))
      ∙ get_or-set_other (once memo n e) (n * WIDTH + 1) i t 0 (λ q. d (omega arith))
      ∙ get_or-set_other memo (n * WIDTH) i (e + 1) 0 (λ q. d (omega arith))

  own_kept : kept_at (with_entry memo n e t u) n ≡ e + 1
  own_kept =
      get_or-set_other (twice memo n e t) (n * WIDTH + 2) (n * WIDTH) u 0 (λ q. omega arith)
      ∙ get_or-set_other (once memo n e) (n * WIDTH + 1) (n * WIDTH) t 0 (λ q. omega arith)
      ∙ get_or-set_same memo (n * WIDTH) (e + 1) 0 (omega arith)

  own_awaits : awaits_at (with_entry memo n e t u) n ≡ t
  own_awaits =
      get_or-set_other (twice memo n e t) (n * WIDTH + 2) (n * WIDTH + 1) u 0 (λ q. omega arith)
      ∙ get_or-set_same (once memo n e) (n * WIDTH + 1) t 0 (simp length-set (omega arith))

  own_gives : gives_at (with_entry memo n e t u) n ≡ u
  own_gives = get_or-set_same (twice memo n e t) (n * WIDTH + 2) u 0 (simp length-set (omega arith))

  module _ {s b : List ℕ} (m : Remembers s b memo) (l : e ≤ binding_count b) (w : WaitsAs s b n e (Some (waits_in t u))) where
    own : (k f : ℕ) → k ≡ n → kept_at (with_entry memo n e t u) k ≡ suc f
        → WaitsAs s b k f (Some (waits_in (awaits_at (with_entry memo n e t u) k) (gives_at (with_entry memo n e t u) k)))
    own k f d q = let z : e ≡ f = omega (arith, rw d at q, own_kept) in rw (d, own_awaits, own_gives, ← z) w

    other : (k f : ℕ) → (k ≡ n → ⊥) → kept_at (with_entry memo n e t u) k ≡ suc f
        → WaitsAs s b k f (Some (waits_in (awaits_at (with_entry memo n e t u) k) (gives_at (with_entry memo n e t u) k)))
    other k f d q =
        rw (elsewhere k (k * WIDTH + 1) d (omega arith) (omega arith), elsewhere k (k * WIDTH + 2) d (omega arith) (omega arith)) (m.entries k f (sym (elsewhere k (k * WIDTH) d (omega arith) (omega arith)) ∙ q))

    pub remembered : {after : List ℕ} → after ≡ with_entry memo n e t u → Remembers s b after
    remembered a =
        rw a
        (record {
          placed =
              record {
                size = size_kept;
                environments = λ k f q. elim (ℕ_discrete k n) [
                  | yes d ↦ omega (arith, rw d at q, own_kept)
                  | no d ↦ m.placed.environments k f (sym (elsewhere k (k * WIDTH) d (omega arith) (omega arith)) ∙ q)
                ];
              };
          entries = λ k f q. elim (ℕ_discrete k n) [ yes d ↦ own k f d q | no d ↦ other k f d q ];
        })

-- two memos have one size
pub same_size : {s b memo after : List ℕ} → Remembers s b after → Remembers s b memo → length after ≡ length memo
same_size m k = m.placed.size ∙ sym k.placed.size

-- nothing is kept in a memo of zeros
blank : (s b : List ℕ) (n : ℕ) → n ≡ NODES * WIDTH → Remembers s b (replicate n 0)
blank s b n h =
    let unused : (k e : ℕ) → kept_at (replicate n 0) k ≡ suc e → ⊥ = λ k e q. omega (arith, zeros n (k * WIDTH)) in
    record {
      placed = record { size = length-replicate n 0 ∙ h; environments = λ k e q. absurd (unused k e q) };
      entries = λ k e q. absurd (unused k e q);
    }

pub remembers_nothing : (s b : List ℕ) → Remembers s b (replicate (NODES * WIDTH) 0)
remembers_nothing s b = blank s b (NODES * WIDTH) refl
