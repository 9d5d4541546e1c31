-- The kinds of nodes, and how many variables each of them names.
use Prim.Native.Nat.{ℕ, zero, suc, ◌+◌, ◌*◌, ◌/◌, ◌%◌, ◌<◌, ◌≤◌}
use mathlib.Core.Path.{◌≡◌, refl, sym, ◌∙◌}
use mathlib.Core.Bool.{Bool, true, false}
use mathlib.Core.List.{List}
use mathlib.Core.Option.{none, some}
use native.Mathlib.Omega.{arith}
use lib.Dec.{ltb}
use borrow.Author.Tests.{ltb-true, ltb-false}
use Rattle.script.specs.Lists.{run}
use Rattle.script.specs.declared.Section.TheVariants.{Nodes as nodes}
use Rattle.script.specs.Section.{count_of, node_word}
use Rattle.script.specs.declared.Kind.{Kind}
use Rattle.script.specs.declared.Kind.TheVariants.{Null as null_kind, Variable as var_kind, Select as select_kind, Update as update_kind, Call as call_kind}
use Rattle.script.specs.declared.Kind.TheVariants.{Let as bind_kind, New as new_kind, Cast as cast_kind, Fork as fork_kind, Lock as lock_kind}
use Rattle.script.specs.declared.Kind.TheVariants.{Unknown as unknown_kind, Constant as constant_kind, Sum as add_kind}
use Rattle.script.specs.Reading.{kind_of, node_of, view_at}
use Rattle.names.specs.Ranks.{slot_of, variables_in, item_at, name_in, Names, slot_word, SlotNames}
use Rattle.names.specs.Filling.{names_kind}

-- The variables that a node names are its words from a on.
variables_of : (k : Kind) (w : ℕ → ℕ) → variables_in (node_of k (w 1) (w 2) (w 3)) ≡ run w 1 (names_kind k)
unfolding run
variables_of null_kind w = refl
variables_of var_kind w = refl
variables_of select_kind w = refl
variables_of update_kind w = refl
variables_of call_kind w = refl
variables_of bind_kind w = refl
variables_of new_kind w = refl
variables_of cast_kind w = refl
variables_of fork_kind w = refl
variables_of lock_kind w = refl
variables_of constant_kind w = refl
variables_of add_kind w = refl
variables_of unknown_kind w = refl

-- A node names at most two.
most_names : (k : Kind) → names_kind k ≤ 2
most_names null_kind = omega arith
most_names var_kind = omega arith
most_names select_kind = omega arith
most_names update_kind = omega arith
most_names call_kind = omega arith
most_names bind_kind = omega arith
most_names new_kind = omega arith
most_names cast_kind = omega arith
most_names fork_kind = omega arith
most_names lock_kind = omega arith
most_names constant_kind = omega arith
most_names add_kind = omega arith
most_names unknown_kind = omega arith

pub few_names : (k m : ℕ) → m ≡ names_kind (kind_of k) → m ≤ 2
few_names k m e = omega (arith, most_names (kind_of k))

-- An element of a run, and past its end.
run_some : (w : ℕ → ℕ) (i k j : ℕ) → j < k → item_at (run w i k) j ≡ some (w (i + j))
unfolding run
run_some w i zero j h = absurd (omega arith)
run_some w i (suc k) zero h = let e : i + 0 ≡ i = omega arith in rw e
run_some w i (suc k) (suc j) h = let e : i + suc j ≡ i + 1 + j = omega arith in rw e (run_some w (i + 1) k j (omega arith))

run_none : (w : ℕ → ℕ) (i k j : ℕ) → k ≤ j → item_at (run w i k) j ≡ none
unfolding run
run_none w i zero j h = refl
run_none w i (suc k) zero h = absurd (omega arith)
run_none w i (suc k) (suc j) h = run_none w (i + 1) k j (omega arith)

module _ (s : List ℕ) (n j : ℕ) where
  -- The words from a on that are variables.
  abbrev some_words : ℕ → List ℕ
  some_words m = run (node_word s n) 1 m

  names_are : variables_in (view_at s n) ≡ some_words (names_kind (kind_of (node_word s n 0)))
  unfolding view_at
  names_are = variables_of (kind_of (node_word s n 0)) (node_word s n)

  pub a_name : (k m : ℕ) → k ≡ node_word s n 0 → m ≡ names_kind (kind_of k) → j < m → name_in j (view_at s n) ≡ some (node_word s n (1 + j))
  a_name k m e d h = rw names_are (run_some (node_word s n) 1 (names_kind (kind_of (node_word s n 0))) j (omega (arith, rw e at d)))

  pub no_name : (k m : ℕ) → k ≡ node_word s n 0 → m ≡ names_kind (kind_of k) → m ≤ j → name_in j (view_at s n) ≡ none
  no_name k m e d h = rw names_are (run_none (node_word s n) 1 (names_kind (kind_of (node_word s n 0))) j (omega (arith, rw e at d)))

  -- A variable at place j is the word there, and there are two places.
  name_is : (x : ℕ) → name_in j (view_at s n) ≡ some x → (node_word s n (1 + j) ≡ x) × (j < 2)
  name_is x e = go (ltb j (names_kind (kind_of (node_word s n 0)))) refl
    where
      go : (b : Bool) → ltb j (names_kind (kind_of (node_word s n 0))) ≡ b → (node_word s n (1 + j) ≡ x) × (j < 2)
      go true h =
          let l = ltb-true j (names_kind (kind_of (node_word s n 0))) h in
          let z : some (node_word s n (1 + j)) ≡ some x = sym (a_name (node_word s n 0) _ refl refl l) ∙ e in
          (cc, omega (arith, few_names (node_word s n 0) _ refl))
      go false h =
          let z : none ≡ some x = sym (no_name (node_word s n 0) _ refl refl (ltb-false j (names_kind (kind_of (node_word s n 0))) h)) ∙ e in
          let y : ◌≡◌ {A = ℕ} 0 1 = cc in
          absurd (omega arith)

  pub name_word : (x : ℕ) → name_in j (view_at s n) ≡ some x → node_word s n (1 + j) ≡ x
  name_word x e = (name_is x e).0

pub place_small : {s : List ℕ} {n j x : ℕ} → Names s n j x → j < 2
place_small {s} {n} {j} {x} q = (name_is s n j x q.name).1

-- At a place stands one variable, or none.
pub one_name : {s : List ℕ} {n j x y : ℕ} → Names s n j x → Names s n j y → x ≡ y
one_name {s} {n} {j} {x} {y} p q = sym (name_word s n j x p.name) ∙ name_word s n j y q.name

pub not_none : {s : List ℕ} {n j x : ℕ} → Names s n j x → name_in j (view_at s n) ≡ none → ⊥
not_none {x = x} q e = let z : none ≡ some x = sym e ∙ q.name in let y : ◌≡◌ {A = ℕ} 0 1 = cc in omega arith

-- The node and the place of a slot.
module _ (n j : ℕ) (h : j < 2) where
  pub slot_node : slot_of n j / 2 ≡ n
  slot_node = omega arith

  pub slot_place : slot_of n j % 2 ≡ j
  slot_place = omega arith

pub first_slot : (n : ℕ) → slot_of n 0 ≡ 2 * n
first_slot n = omega arith

pub first_node_lem : (n : ℕ) → 2 * n / 2 ≡ n
first_node_lem n = omega arith

pub first_place : (n : ℕ) → 2 * n % 2 ≡ 0
first_place n = omega arith

pub stands : {s : List ℕ} {n j x : ℕ} → Names s n j x → SlotNames s (slot_of n j) x
stands {s} {n} {j} {x} q = let h = place_small q in rw (slot_node n j h, slot_place n j h) q

-- At a place of node n whose number is small enough stands the word there.
pub slot_stands : (s : List ℕ) (n j : ℕ) → n < count_of s nodes → (k m : ℕ) → k ≡ node_word s n 0 → m ≡ names_kind (kind_of k) → j < m → SlotNames s (slot_of n j) (slot_word s (slot_of n j))
slot_stands s n j h k m e d l =
    let b : j < 2 = omega (arith, few_names k m d) in
    rw (slot_node n j b, slot_place n j b) (record { there = h; name = a_name s n j k m e d l })
