-- The positions together: what the loops over them answer, a law for each return.
use mathlib.Core.Path.{◌≡◌, refl}
use mathlib.Core.Bool.{false}
use mathlib.Core.List.{List, [], ◌∷◌}
use mathlib.Core.Logic.{◌↔◌}
use Prim.Native.Nat.{ℕ, suc, ◌+◌, ◌-◌, ◌<◌, ◌≤◌}
use native.Mathlib.Omega.{arith}
use lib.Dec.{eqb}
use Rattle.script.specs.Lists.{run, sum_below}
use Rattle.script.specs.Asking.{Decides, fails}
use Rattle.script.proofs.Tests.{decides_as, decides_eq}
use Rattle.block.specs.declared.Area.TheVariants.{Positions, Frames}
use Rattle.block.specs.Layout.{counted, word_in, KIND, WAITING}
use Rattle.representation.specs.InOrder.{Trees, no_tree, one_thread, one_join, OneTree, FramesAdd}
use Rattle.one_tree.specs.After.{After, of_join, of_thread}

-- After the last position no tree is to come, and before another one is.
trees_none : {n : ℕ} → Trees [] n → n ≡ 0
trees_none no_tree = refl

trees_some : {k n : ℕ} {ks : List ℕ} → Trees (k ∷ ks) n → 0 < n
trees_some (one_thread x t) = omega arith
trees_some (one_join x t) = omega arith

-- A position before others: there are as many trees with it as its kind says.
after_there : {kind trees next : ℕ} {ks : List ℕ} → After kind trees next → Trees (kind ∷ ks) trees → Trees ks next
after_there (of_join e) (one_thread x t) = absurd (x e)
after_there {ks = ks} (of_join e) (one_join {n = n} x t) = let q : suc (suc n) ≡ suc n + 1 = omega arith in rw q at t
after_there {ks = ks} (of_thread e) (one_thread {n = n} x t) = let q : n ≡ suc n - 1 = omega arith in rw q at t
after_there (of_thread e) (one_join x t) = absurd (e x)

after_back : {kind trees next : ℕ} {ks : List ℕ} → After kind trees next → 0 < trees → Trees ks next → Trees (kind ∷ ks) trees
after_back {trees = trees} (of_join e) h t =
    let p : trees + 1 ≡ suc (suc (trees - 1)) = omega arith in
    let q : suc (trees - 1) ≡ trees = omega arith in
    rw q at (one_join e (rw p at t))
after_back {trees = trees} (of_thread e) h t = let q : suc (trees - 1) ≡ trees = omega arith in rw q at (one_thread e t)

-- The kinds of the positions from one on.
run_next : (f : ℕ → ℕ) (i n : ℕ) → i < n → run f i (n - i) ≡ f i ∷ run f (i + 1) (n - (i + 1))
unfolding run
run_next f i n h = let e : n - i ≡ suc (n - (i + 1)) = omega arith in rw e

run_end : (f : ℕ → ℕ) (i n : ℕ) → n ≤ i → run f i (n - i) ≡ []
unfolding run
run_end f i n h = let e : n - i ≡ 0 = omega arith in rw e

abbrev kinds : List ℕ → ℕ → ℕ
kinds b k = word_in b Positions k KIND

-- The loop has come to position i of n, and the other positions must be those of so many trees.
pub record Walked (b : List ℕ) (n i trees : ℕ) : Type 0 where
  pub within : i ≤ n
  pub few : trees ≤ i + 1
  pub same : OneTree b ↔ Trees (run (kinds b) i (n - i)) trees

pub begun : (b : List ℕ) (n : ℕ) → n ≡ counted b Positions → Walked b n 0 1
begun b n c = record { within = omega arith; few = omega arith; same = let e : n - 0 ≡ counted b Positions = omega arith in rw e (λ t. t, λ t. t) }

module _ {b : List ℕ} {n i trees : ℕ} (w : Walked b n i trees) where
  pub too_few : i < n → trees ≡ 0 → Decides (OneTree b) false
  too_few h z = fails (λ t. omega (arith, trees_some (rw (run_next (kinds b) i n h) at (w.same.0 t)), z))

  pub onward : (kind next : ℕ) → i < n → (trees ≡ 0 → ⊥) → kind ≡ word_in b Positions i KIND → After kind trees next → next ≤ suc trees → Walked b n (i + 1) next
  onward kind next h some k a l =
      record {
        within = omega arith;
        few = omega (arith, w.few);
        same = (
          λ t. after_there (rw k at a) (rw (run_next (kinds b) i n h) at (w.same.0 t)),
          λ t. w.same.1 (rw (run_next (kinds b) i n h) (after_back (rw k at a) (omega arith) t)),
        );
      }

  pub ended : n ≤ i → Decides (OneTree b) (eqb trees 0)
  ended h =
      decides_as
      (λ (z : trees ≡ 0). w.same.1 (rw (run_end (kinds b) i n h, z) no_tree))
      (λ t. trees_none (rw (run_end (kinds b) i n h) at (w.same.0 t)))
      (decides_eq trees 0)

-- The loop that adds the numbers of frames.
pub sum_all_lem :
    (b : List ℕ) (i n m sum : ℕ) → sum ≡ sum_below (λ k. word_in b Positions k WAITING) i → i ≡ n → n ≡ counted b Positions → m ≡ counted b Frames
    → Decides (FramesAdd b) (eqb sum m)
sum_all_lem b i n m sum s e c d = rw (← c, ← d, ← e, ← s) (decides_eq sum m)
