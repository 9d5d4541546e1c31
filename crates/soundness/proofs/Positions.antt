-- Positions and paths; no two threads hold one lock; the initial configuration is well formed.
use Prim.Native.Nat.{ℕ, suc, ◌+◌, ◌-◌, ◌≤◌, ◌<◌, ◌*◌}
use native.Mathlib.Omega.{arith}
use mathlib.Core.Path.{◌≡◌, refl, sym, ◌∙◌, ap}
use mathlib.Core.Logic.{◌⊎◌, inl, inr, ⊎_elim}
use mathlib.Core.Bool.{false}
use mathlib.Core.List.{List, [], ◌++◌}
use mathlib.Core.Option.{some, none-ne-some}
use borrow.Author.Tests.{lt-ltb, le-ltb}
use Rattle.machine.specs.declared.Frame.{Frame}
use Rattle.machine.specs.Config.{Code, Stores, Tree, running, returning, failed, join, Config}
use Rattle.machine.specs.Machine.{phase, lock_frames, Places, limits, spare, still, Path, here, left, right, in_left_tree, in_right_tree, move_at, move, size, locate, chosen, choice, initial, thread_count, At, at_root, at_left, at_right}
use Rattle.machine.specs.declared.Want.{Want}
use Rattle.machine.specs.declared.Want.TheVariants.{Upto as upto}
use Rattle.machine.specs.WellFormed.{no_bindings, no_frames, running_ok, lock_count, WfConfig, WellFormed}
use Rattle.machine.specs.Accepted.{AcceptedCode}
use Rattle.machine.specs.Ends.{held_by, ending}
use Rattle.machine.proofs.Types.{infer_gives, start_typed}
use Rattle.soundness.proofs.Stores.{shut_at_le}
use Rattle.soundness.proofs.Ends.{SeenEnd, classified}

-- how many lock frames of an object a thread holds is at most what the tree has
pub held_bound : (o n : ℕ) (t : Tree) (p : Path) → held_by o n t p ≤ n + lock_count o t
held_bound o n (running a e fs) here = omega arith
held_bound o n (running a e fs) (left p) = omega arith
held_bound o n (running a e fs) (right p) = omega arith
held_bound o n (returning v fs) here = omega arith
held_bound o n (returning v fs) (left p) = omega arith
held_bound o n (returning v fs) (right p) = omega arith
held_bound o n failed p = omega arith
held_bound o n (join fs a e l r) here = omega arith
held_bound o n (join fs a e l r) (left p) = omega (arith, held_bound o (lock_frames o fs + n) l p)
held_bound o n (join fs a e l r) (right p) = omega (arith, held_bound o 0 r p)

two_hold : (o n : ℕ) (t : Tree) (p q : Path) → n + lock_count o t ≤ 1 → 1 ≤ held_by o n t p → 1 ≤ held_by o n t q → p ≡ q
two_hold o n (running a e fs) here here h k l = refl
two_hold o n (running a e fs) here (left q) h k l = absurd (omega arith)
two_hold o n (running a e fs) here (right q) h k l = absurd (omega arith)
two_hold o n (running a e fs) (left p) q h k l = absurd (omega arith)
two_hold o n (running a e fs) (right p) q h k l = absurd (omega arith)
two_hold o n (returning v fs) here here h k l = refl
two_hold o n (returning v fs) here (left q) h k l = absurd (omega arith)
two_hold o n (returning v fs) here (right q) h k l = absurd (omega arith)
two_hold o n (returning v fs) (left p) q h k l = absurd (omega arith)
two_hold o n (returning v fs) (right p) q h k l = absurd (omega arith)
two_hold o n failed p q h k l = absurd (omega arith)
two_hold o n (join fs a e x y) here q h k l = absurd (omega arith)
two_hold o n (join fs a e x y) (left p) here h k l = absurd (omega arith)
two_hold o n (join fs a e x y) (left p) (left q) h k l = ap left (two_hold o (lock_frames o fs + n) x p q (omega arith) k l)
two_hold o n (join fs a e x y) (left p) (right q) h k l = absurd (omega (arith, held_bound o (lock_frames o fs + n) x p, held_bound o 0 y q))
two_hold o n (join fs a e x y) (right p) here h k l = absurd (omega arith)
two_hold o n (join fs a e x y) (right p) (left q) h k l = absurd (omega (arith, held_bound o (lock_frames o fs + n) x q, held_bound o 0 y p))
two_hold o n (join fs a e x y) (right p) (right q) h k l = ap right (two_hold o 0 y p q (omega arith) k l)

-- No two threads hold one lock.
pub exclusive : {s : Code} {w : Want} {c : Config} → WfConfig s w c → (o : ℕ) (p q : Path) → 1 ≤ held_by o 0 c.tree p → 1 ≤ held_by o 0 c.tree q → p ≡ q
exclusive {c = c} h o p q k l = two_hold o 0 c.tree p q (omega (arith, h.distinct o, shut_at_le c.stores.objects o)) k l

-- every place has a position
pub record Located (t : Tree) (p : Path) : Type 0 where
  pub position : ℕ
  pub inside : position < size t
  pub there : locate t position ≡ some p

root_located : (t : Tree) → Located t here
root_located (running a e fs) = record { position = 0; inside = omega arith; there = refl }
root_located (returning v fs) = record { position = 0; inside = omega arith; there = refl }
root_located failed = record { position = 0; inside = omega arith; there = refl }
root_located (join fs a e l r) = record { position = 0; inside = omega arith; there = refl }

located : {above handed : List Frame} {t u : Tree} {p : Path} → At above t p handed u → Located t p
located {t = t} at_root = root_located t
located (at_left {l = l} {r = r} x) =
    let k = located x in
    record { position = suc k.position; inside = omega (arith, k.inside); there = rw (lt-ltb k.position (size l) k.inside, k.there) }
located (at_right {l = l} {r = r} x) =
    let k = located x in
    let m : (size l + k.position) - size l ≡ k.position = omega arith in
    record {
      position = suc (size l + k.position);
      inside = omega (arith, k.inside);
      there = rw (le-ltb (size l + k.position) (size l) (omega arith), m, k.there);
    }

-- where there is no node of the tree nothing moves
place_or_still : (s : Code) (room : Places) (st : Stores) (above : List Frame) (t : Tree) (p : Path)
    → ((handed : List Frame) × (u : Tree) × At above t p handed u) ⊎ (move_at s room st above t p ≡ still)
place_or_still s room st above t here = inl (above, t, at_root)
place_or_still s room st above (running a e fs) (left p) = inr refl
place_or_still s room st above (running a e fs) (right p) = inr refl
place_or_still s room st above (returning v fs) (left p) = inr refl
place_or_still s room st above (returning v fs) (right p) = inr refl
place_or_still s room st above failed (left p) = inr refl
place_or_still s room st above failed (right p) = inr refl
place_or_still s room st above (join fs a e l r) (left p) =
    ⊎_elim (λ x. inl (x.0, x.1, at_left x.2)) (λ h. inr (ap (in_left_tree fs a e r) h)) (place_or_still s room st (fs ++ above) l p)
place_or_still s room st above (join fs a e l r) (right p) =
    ⊎_elim (λ x. inl (x.0, x.1, at_right x.2)) (λ h. inr (ap (in_right_tree fs a e l) h)) (place_or_still s room st [] r p)

-- A place that can move has a position.
pub move_located : (s : Code) (lim : Places) (c : Config) (p : Path) → (move s lim c p ≡ still → ⊥) → Located c.tree p
unfolding move
move_located s lim c p h = ⊎_elim (λ x. located x.2) (λ e. absurd (h e)) (place_or_still s (spare lim c.stores c.tree) c.stores [] c.tree p)

no_move_at : (s : Code) (lim : Places) (c : Config) → ((n : ℕ) → n < size c.tree → choice s lim c n ≡ still) → (p : Path) → move s lim c p ≡ still
unfolding move choice
no_move_at s lim c h p =
    ⊎_elim
    (λ x. let k = located x.2 in sym (ap (chosen s lim c) k.there) ∙ h k.position k.inside)
    (λ e. e)
    (place_or_still s (spare lim c.stores c.tree) c.stores [] c.tree p)

-- Where no position can move the run has ended in one of the three ways.
pub ended : {s : Code} {start : ℕ} (acc : AcceptedCode s start) (lim : Places) {w : Want} {c : Config} → WfConfig s w c → ((n : ℕ) → n < size c.tree → choice s lim c n ≡ still)
    → SeenEnd s c (ending (phase c.tree) false)
ended {s} acc lim {c = c} h n = classified acc lim h (no_move_at s lim c n)

-- What Start writes is well formed.
initial_formed : {s : Code} {start : ℕ} → AcceptedCode s start → WfConfig s (upto start) initial
initial_formed acc =
    record {
      stores = record { bindings = no_bindings; heap = λ o x e. absurd (none-ne-some _ e) };
      tree = running_ok {e = 0} (omega arith) (record { node = acc.a_node; gives = infer_gives acc (start_typed acc) }) no_frames;
      distinct = λ o. omega arith;
      covered = λ z o. omega arith;
    }

pub initial_well : {s : Code} {start : ℕ} → AcceptedCode s start → WellFormed s limits start initial
initial_well acc = record { formed = initial_formed acc; within = record { objects = omega arith; bindings = omega arith; frames = omega arith; threads = omega arith } }

-- a tree of n threads has 2 n - 1 positions
pub positions : (t : Tree) → size t + 1 ≡ 2 * thread_count t
positions (running a e fs) = refl
positions (returning v fs) = refl
positions failed = refl
positions (join fs a e l r) = omega (arith, positions l, positions r)
