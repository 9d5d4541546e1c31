-- The silent moves of a thread in a row, counted; "A thread makes at most 1,024 silent moves in a row".
use Prim.Native.Nat.{ℕ, zero, suc, ◌+◌, ◌-◌, ◌≤◌, ◌<◌}
use native.Mathlib.Omega.{arith}
use mathlib.Core.Path.{◌≡◌, refl, sym, ◌∙◌, ap}
use mathlib.Core.Bool.{Bool, true, false}
use mathlib.Core.List.{List, [], ◌∷◌, ◌++◌}
use mathlib.Core.Logic.{◌⊎◌, inl, inr, ⊎_elim}
use mathlib.Core.Option.{Option, none, some}
use Rattle.limits.specs.Limits.{SILENT}
use Rattle.script.specs.Lists.{◌∈◌}
use Rattle.script.specs.Syntax.{Point, Node, n_null, n_var, n_select, n_update, n_call, n_bind, n_new, n_cast, n_fork, n_lock, n_constant, n_add, build, parts}
use Rattle.script.proofs.Reading.{first}
use Rattle.machine.specs.declared.Store.TheVariants.{Frames}
use Rattle.machine.specs.declared.Value.{Value}
use Rattle.machine.specs.declared.Value.TheVariants.{Null as nil, Int as int}
use Rattle.machine.specs.declared.Frame.{Frame}
use Rattle.machine.specs.declared.Frame.TheVariants.{Awaits as awaits, Casts as casts}
use Rattle.machine.specs.Config.{Code, Stores, Tree, running, returning, failed, join, Config}
use Rattle.machine.specs.Machine.{Places, spare, frame_count, Outcome, full, moved, descend, in_left_tree, in_right_tree, Path, here, left, right, move_at, move, size, locate, part}
use Rattle.machine.specs.declared.Want.{Want}
use Rattle.machine.specs.WellFormed.{TreeOk, running_ok, WfConfig}
use Rattle.machine.specs.Accepted.{AcceptedCode}
use Rattle.machine.specs.Ends.{Thread, thread_running, thread_returning, thread_failed}
use Rattle.machine.proofs.Counts.{node_count_lem}
use Rattle.soundness.proofs.Places.{part_ok}
use Rattle.machine.specs.Silent.{quiet, quiet_in, SilentMove, null_value, constant_value, into_write, into_call, into_let, into_cast, changed_here, changed_left, changed_right, SilentAt, chain, silent_from, due, Row, row_none, and_then, meanwhile, same_place}

-- a thread at a place is at a node
abbrev pub OnNode : Code → Option Tree → Type 0
OnNode s o = (a : Point) (e : ℕ) (fs : List Frame) → o ≡ some (running a e fs) → a < s.size

running_node : {s : Code} {st : Stores} {w : Want} {a : Point} {e : ℕ} {fs : List Frame} → TreeOk s st w (running a e fs) → a < s.size
running_node (running_ok le g r) = g.node

pub on_node : {s : Code} {st : Stores} {w : Want} {t : Tree} → TreeOk s st w t → (p : Path) → OnNode s (part t p)
on_node {t = t} x p a e fs h = running_node (part_ok t p x h).1

-- Where the move due at a place is silent, it is one of the listed ones.
next_silent : (s : Code) (fs : List Frame) (e : ℕ) (a : Point) (n : Node) → s.view a ≡ n → quiet n ≡ true → (u : Tree) × SilentMove s (running a e fs) u
next_silent s fs e a n_null i q = (returning nil fs, null_value i)
next_silent s fs e a (n_var x) i q = absurd (let z : ◌≡◌ {A = ℕ} 0 1 = cc in omega arith)
next_silent s fs e a (n_select x f) i q = absurd (let z : ◌≡◌ {A = ℕ} 0 1 = cc in omega arith)
next_silent s fs e a (n_update x f b) i q = (running b e (awaits a e ∷ fs), into_write i)
next_silent s fs e a (n_call x g b) i q = (running b e (awaits a e ∷ fs), into_call i)
next_silent s fs e a (n_bind x b c) i q = (running b e (awaits a e ∷ fs), into_let i)
next_silent s fs e a (n_new c) i q = absurd (let z : ◌≡◌ {A = ℕ} 0 1 = cc in omega arith)
next_silent s fs e a (n_cast t b) i q = (running b e (casts a ∷ fs), into_cast i)
next_silent s fs e a (n_fork b c d) i q = absurd (let z : ◌≡◌ {A = ℕ} 0 1 = cc in omega arith)
next_silent s fs e a (n_lock x b) i q = absurd (let z : ◌≡◌ {A = ℕ} 0 1 = cc in omega arith)
next_silent s fs e a (n_constant k) i q = (returning (int k) fs, constant_value i)
next_silent s fs e a (n_add x y) i q = absurd (let z : ◌≡◌ {A = ℕ} 0 1 = cc in omega arith)

pub next_at : (s : Code) (t : Tree) (p : Path) → quiet_in s (part t p) ≡ true → (u : Tree) × SilentAt s p t u
next_at s (running a e fs) here q = let x = next_silent s fs e a (s.view a) refl q in (x.0, changed_here x.1)
next_at s (running a e fs) (left p) q = absurd (let z : ◌≡◌ {A = ℕ} 0 1 = cc in omega arith)
next_at s (running a e fs) (right p) q = absurd (let z : ◌≡◌ {A = ℕ} 0 1 = cc in omega arith)
next_at s (returning v fs) here q = absurd (let z : ◌≡◌ {A = ℕ} 0 1 = cc in omega arith)
next_at s (returning v fs) (left p) q = absurd (let z : ◌≡◌ {A = ℕ} 0 1 = cc in omega arith)
next_at s (returning v fs) (right p) q = absurd (let z : ◌≡◌ {A = ℕ} 0 1 = cc in omega arith)
next_at s failed here q = absurd (let z : ◌≡◌ {A = ℕ} 0 1 = cc in omega arith)
next_at s failed (left p) q = absurd (let z : ◌≡◌ {A = ℕ} 0 1 = cc in omega arith)
next_at s failed (right p) q = absurd (let z : ◌≡◌ {A = ℕ} 0 1 = cc in omega arith)
next_at s (join fs a e l r) here q = absurd (let z : ◌≡◌ {A = ℕ} 0 1 = cc in omega arith)
next_at s (join fs a e l r) (left p) q = let x = next_at s l p q in (join fs a e x.0 r, changed_left x.1)
next_at s (join fs a e l r) (right p) q = let x = next_at s r p q in (join fs a e l x.0, changed_right x.1)

-- It is made, and keeps the stores; or no place is left for the frame that it leaves.
abbrev pub MadeOrFull : Places → Stores → Tree → Outcome → Type 0
MadeOrFull room st u o = (o ≡ moved st u) ⊎ ((o ≡ full Frames) × (room.frames ≡ 0))

module _ (s : Code) (room : Places) (st : Stores) where
  descends_or_full : (fs : List Frame) (e : ℕ) (f : Frame) (b : Point) (k : ℕ) → room.frames ≡ k → MadeOrFull room st (running b e (f ∷ fs)) (descend st fs e f b k)
  descends_or_full fs e f b zero z = inr (refl, z)
  descends_or_full fs e f b (suc k) z = inl refl

  silent_made : {t u : Tree} (above : List Frame) → SilentMove s t u → MadeOrFull room st u (move_at s room st above t here)
  silent_made above (null_value i) = rw i (inl refl)
  silent_made above (constant_value i) = rw i (inl refl)
  silent_made above (into_write {a = a} {b = b} {e = e} {fs = fs} i) = rw i (descends_or_full fs e (awaits a e) b room.frames refl)
  silent_made above (into_call {a = a} {b = b} {e = e} {fs = fs} i) = rw i (descends_or_full fs e (awaits a e) b room.frames refl)
  silent_made above (into_let {a = a} {b = b} {e = e} {fs = fs} i) = rw i (descends_or_full fs e (awaits a e) b room.frames refl)
  silent_made above (into_cast {a = a} {b = b} {e = e} {fs = fs} i) = rw i (descends_or_full fs e (casts a) b room.frames refl)

  pub made_at : {p : Path} {t u : Tree} (above : List Frame) → SilentAt s p t u → MadeOrFull room st u (move_at s room st above t p)
  made_at above (changed_here x) = silent_made above x
  made_at above (changed_left {fs = fs} {a = a} {e = e} {r = r} x) =
      ⊎_elim (λ m. inl (ap (in_left_tree fs a e r) m)) (λ m. inr (ap (in_left_tree fs a e r) m.0, m.1)) (made_at (fs ++ above) x)
  made_at above (changed_right {fs = fs} {a = a} {e = e} {l = l} x) =
      ⊎_elim (λ m. inl (ap (in_right_tree fs a e l) m)) (λ m. inr (ap (in_right_tree fs a e l) m.0, m.1)) (made_at [] x)

  pub silent_at : (above : List Frame) (t : Tree) (p : Path) (su : Stores) (u : Tree) → quiet_in s (part t p) ≡ true → move_at s room st above t p ≡ moved su u → SilentAt s p t u
  silent_at above t p su u q m =
      let x = next_at s t p q in
      ⊎_elim
      (λ (k : move_at s room st above t p ≡ moved st x.0). let y : u ≡ x.0 = cc in rw y x.1)
      (λ (k : (move_at s room st above t p ≡ full Frames) × (room.frames ≡ 0)). let n = k.0 in absurd (let z : ◌≡◌ {A = ℕ} 0 1 = cc in omega arith))
      (made_at above x.1)

-- It makes the chain before the thread shorter by one,
module _ {s : Code} {start : ℕ} (acc : AcceptedCode s start) where
  into : {a b : Point} {e d : ℕ} {fs gs : List Frame} (n : Node) → OnNode s (some (running a e fs)) → s.view a ≡ n → b ∈ parts n → chain (build a s.expr n) ≡ suc (chain (s.expr b))
      → OnNode s (some (running b d gs)) × (suc (chain (s.expr b)) ≡ chain (s.expr a))
  into {a} {b} {e} {fs = fs} n h i m c =
      let y = h a e fs refl in
      (λ q k hs z. let j : q ≡ b = cc in rw j (acc.in_order a y b (rw i m)).there, rw (acc.built a y, i) (sym c))

  into_value : {a : Point} {e : ℕ} {v : Value} {fs : List Frame} (n : Node) → OnNode s (some (running a e fs)) → s.view a ≡ n → chain (build a s.expr n) ≡ 1
      → OnNode s (some (returning v fs)) × (1 ≡ chain (s.expr a))
  into_value {a} {e} {fs = fs} n h i c = (λ b d gs k. absurd (let z : ◌≡◌ {A = ℕ} 0 1 = cc in omega arith), rw (acc.built a (h a e fs refl), i) (sym c))

  silent_counts : {t u : Tree} → SilentMove s t u → OnNode s (some t) → OnNode s (some u) × (suc (due s (some u)) ≡ due s (some t))
  silent_counts (null_value i) h = into_value _ h i refl
  silent_counts (constant_value i) h = into_value _ h i refl
  silent_counts (into_write i) h = into _ h i first refl
  silent_counts (into_call i) h = into _ h i first refl
  silent_counts (into_let i) h = into _ h i first refl
  silent_counts (into_cast i) h = into _ h i first refl

  pub place_counts : {p : Path} {t u : Tree} → SilentAt s p t u → OnNode s (part t p) → OnNode s (part u p) × (suc (due s (part u p)) ≡ due s (part t p))
  place_counts (changed_here x) h = silent_counts x h
  place_counts (changed_left x) h = place_counts x h
  place_counts (changed_right x) h = place_counts x h

  pub move_counts : (room : Places) (st : Stores) (above : List Frame) (t : Tree) (p : Path) (su : Stores) (u : Tree) → OnNode s (part t p) → quiet_in s (part t p) ≡ true
      → move_at s room st above t p ≡ moved su u → OnNode s (part u p) × (suc (due s (part u p)) ≡ due s (part t p))
  move_counts room st above t p su u h q m = place_counts (silent_at s room st above t p su u q m) h

-- while every other place stays as it was: a thread stays a thread,
threads : {s : Code} {t u : Tree} → SilentMove s t u → Thread t × Thread u
threads (null_value i) = (thread_running, thread_returning)
threads (constant_value i) = (thread_running, thread_returning)
threads (into_write i) = (thread_running, thread_running)
threads (into_call i) = (thread_running, thread_running)
threads (into_let i) = (thread_running, thread_running)
threads (into_cast i) = (thread_running, thread_running)

none_below : {t : Tree} → Thread t → (q : Path) → (part t (left q) ≡ none) × (part t (right q) ≡ none)
none_below thread_running q = (refl, refl)
none_below thread_returning q = (refl, refl)
none_below thread_failed q = (refl, refl)

leaf_below : {s : Code} {t u : Tree} → SilentMove s t u → (q : Path) → (part u (left q) ≡ part t (left q)) × (part u (right q) ≡ part t (right q))
leaf_below x q =
    let k = none_below (threads x).0 q in
    let l = none_below (threads x).1 q in
    (l.0 ∙ sym k.0, l.1 ∙ sym k.1)

pub others_stay : {s : Code} {p : Path} {t u : Tree} → SilentAt s p t u → (q : Path) → same_place q p ≡ false
    → (OnNode s (part t q) → OnNode s (part u q)) × (due s (part u q) ≡ due s (part t q))
others_stay (changed_here x) here k = absurd (let z : ◌≡◌ {A = ℕ} 0 1 = cc in omega arith)
others_stay {s} (changed_here x) (left q) k = (λ h. rw (leaf_below x q).0 h, ap (due s) (leaf_below x q).0)
others_stay {s} (changed_here x) (right q) k = (λ h. rw (leaf_below x q).1 h, ap (due s) (leaf_below x q).1)
others_stay (changed_left x) here k = (λ h a e fs i. absurd (let z : ◌≡◌ {A = ℕ} 0 1 = cc in omega arith), refl)
others_stay (changed_left x) (left q) k = others_stay x q k
others_stay (changed_left x) (right q) k = (λ h. h, refl)
others_stay (changed_right x) here k = (λ h a e fs i. absurd (let z : ◌≡◌ {A = ℕ} 0 1 = cc in omega arith), refl)
others_stay (changed_right x) (left q) k = (λ h. h, refl)
others_stay (changed_right x) (right q) k = others_stay x q k

-- So every position stays.
abbrev root_at : ℕ → Option Path
root_at zero = some here
root_at (suc n) = none

one_position : {t : Tree} → Thread t → size t ≡ 1
one_position thread_running = refl
one_position thread_returning = refl
one_position thread_failed = refl

only_root : {t : Tree} → Thread t → (n : ℕ) → locate t n ≡ root_at n
only_root thread_running zero = refl
only_root thread_running (suc n) = refl
only_root thread_returning zero = refl
only_root thread_returning (suc n) = refl
only_root thread_failed zero = refl
only_root thread_failed (suc n) = refl

module _ (fs : List Frame) (a : Point) (e : ℕ) (l r k : Tree) where
  left_positions : size k ≡ size l → ((n : ℕ) → locate k n ≡ locate l n) → (n : ℕ) → locate (join fs a e k r) n ≡ locate (join fs a e l r) n
  left_positions h g zero = refl
  left_positions h g (suc n) = rw (h, g n) refl

  right_positions : ((n : ℕ) → locate k n ≡ locate r n) → (n : ℕ) → locate (join fs a e l k) n ≡ locate (join fs a e l r) n
  right_positions g zero = refl
  right_positions g (suc n) = rw (g (n - size l)) refl

pub positions_stay : {s : Code} {p : Path} {t u : Tree} → SilentAt s p t u → (size u ≡ size t) × ((n : ℕ) → locate u n ≡ locate t n)
positions_stay (changed_here x) =
    let k = threads x in
    (one_position k.1 ∙ sym (one_position k.0), λ n. only_root k.1 n ∙ sym (only_root k.0 n))
positions_stay (changed_left {fs = fs} {a = a} {e = e} {l = l} {k = k} {r = r} x) = let y = positions_stay x in (omega (arith, y.0), left_positions fs a e l r k y.0 y.1)
positions_stay (changed_right {fs = fs} {a = a} {e = e} {l = l} {r = r} {k = k} x) = let y = positions_stay x in (omega (arith, y.0), right_positions fs a e l r k y.1)

-- A silent move is made where the move due is silent, and leaves a thread that has not failed.
pub data Alive : Tree → Type 0 where
  alive_running : {a : Point} {e : ℕ} {fs : List Frame} → Alive (running a e fs)
  alive_returning : {v : Value} {fs : List Frame} → Alive (returning v fs)

quiet_alive : {s : Code} {t u : Tree} → SilentMove s t u → (quiet_in s (some t) ≡ true) × Alive u
quiet_alive (null_value i) = (ap quiet i, alive_returning)
quiet_alive (constant_value i) = (ap quiet i, alive_returning)
quiet_alive (into_write i) = (ap quiet i, alive_running)
quiet_alive (into_call i) = (ap quiet i, alive_running)
quiet_alive (into_let i) = (ap quiet i, alive_running)
quiet_alive (into_cast i) = (ap quiet i, alive_running)

pub silent_is_due : {s : Code} {p : Path} {t u : Tree} → SilentAt s p t u → quiet_in s (part t p) ≡ true
silent_is_due (changed_here x) = (quiet_alive x).0
silent_is_due (changed_left x) = silent_is_due x
silent_is_due (changed_right x) = silent_is_due x

pub silent_leaves : {s : Code} {p : Path} {t u : Tree} → SilentAt s p t u → (v : Tree) × (part u p ≡ some v) × Alive v
silent_leaves (changed_here {u = u} x) = (u, refl, (quiet_alive x).1)
silent_leaves (changed_left x) = silent_leaves x
silent_leaves (changed_right x) = silent_leaves x

-- It adds at most one frame.
one_frame : {s : Code} {t u : Tree} → SilentMove s t u → frame_count u ≤ suc (frame_count t)
one_frame (null_value i) = omega arith
one_frame (constant_value i) = omega arith
one_frame (into_write i) = omega arith
one_frame (into_call i) = omega arith
one_frame (into_let i) = omega arith
one_frame (into_cast i) = omega arith

pub frames_more : {s : Code} {p : Path} {t u : Tree} → SilentAt s p t u → frame_count u ≤ suc (frame_count t)
frames_more (changed_here x) = one_frame x
frames_more (changed_left x) = omega (arith, frames_more x)
frames_more (changed_right x) = omega (arith, frames_more x)

pub same_place_lem : (p q : Path) → same_place p q ≡ true → p ≡ q
same_place_lem here here h = refl
same_place_lem here (left q) h = cc
same_place_lem here (right q) h = cc
same_place_lem (left p) here h = cc
same_place_lem (left p) (left q) h = ap left (same_place_lem p q h)
same_place_lem (left p) (right q) h = cc
same_place_lem (right p) here h = cc
same_place_lem (right p) (left q) h = cc
same_place_lem (right p) (right q) h = ap right (same_place_lem p q h)

pub others_due : (s : Code) (room : Places) (st : Stores) (above : List Frame) (t : Tree) (p : Path) (su : Stores) (u : Tree) → quiet_in s (part t p) ≡ true
    → move_at s room st above t p ≡ moved su u → (q : Path) → same_place q p ≡ false → due s (part u q) ≡ due s (part t q)
others_due s room st above t p su u h m q k = (others_stay (silent_at s room st above t p su u h m) q k).1

-- The chain at a node is no longer than there are nodes from there on, and it is there exactly if the node is silent.
abbrev pub Counted : Bool → ℕ → Type 0
Counted true n = 1 ≤ n
Counted false n = n ≡ 0

module _ {s : Code} {start : ℕ} (acc : AcceptedCode s start) where
  chain_node : (n : Point) (m : Node) → ((b : Point) → b ∈ parts m → (n < b) × (b + chain (s.expr b) ≤ s.size)) → n < s.size
      → (n + chain (build n s.expr m) ≤ s.size) × Counted (quiet m) (chain (build n s.expr m))
  chain_node n n_null r h = (omega arith, omega arith)
  chain_node n (n_var x) r h = (omega arith, refl)
  chain_node n (n_select x f) r h = (omega arith, refl)
  chain_node n (n_update x f b) r h = let k = r b first in (omega (arith, k.0, k.1), omega arith)
  chain_node n (n_call x m b) r h = let k = r b first in (omega (arith, k.0, k.1), omega arith)
  chain_node n (n_bind x b c) r h = let k = r b first in (omega (arith, k.0, k.1), omega arith)
  chain_node n (n_new c) r h = (omega arith, refl)
  chain_node n (n_cast t b) r h = let k = r b first in (omega (arith, k.0, k.1), omega arith)
  chain_node n (n_fork b c d) r h = (omega arith, refl)
  chain_node n (n_lock x b) r h = (omega arith, refl)
  chain_node n (n_constant z) r h = (omega arith, omega arith)
  chain_node n (n_add x y) r h = (omega arith, refl)

  chain_bound : (k : ℕ) (n : Point) → s.size ≤ n + k → n < s.size → (n + chain (s.expr n) ≤ s.size) × Counted (quiet (s.view n)) (chain (s.expr n))
  chain_bound zero n l h = absurd (omega arith)
  chain_bound (suc k) n l h =
      rw (acc.built n h) (chain_node n (s.view n) (λ b m. let q = acc.in_order n h b m in (q.after, (chain_bound k b (omega (arith, q.after)) q.there).0)) h)

  -- And so of the thread at a place: its count is at most the nodes, and there is one exactly if its move due is silent.
  pub due_told : (o : Option Tree) → OnNode s o → (due s o ≤ s.size) × Counted (quiet_in s o) (due s o)
  due_told none h = (omega arith, refl)
  due_told (some (running a e fs)) h = let k = chain_bound s.size a (omega arith) (h a e fs refl) in (omega (arith, k.0), k.1)
  due_told (some (returning v fs)) h = (omega arith, refl)
  due_told (some failed) h = (omega arith, refl)
  due_told (some (join fs a e l r)) h = (omega arith, refl)

module _ {s : Code} {start : ℕ} (acc : AcceptedCode s start) (lim : Places) (p : Path) where
  row_due : {c d : Config} {n : ℕ} → Row s lim p c n d → OnNode s (part c.tree p) → OnNode s (part d.tree p) × (n + due s (part d.tree p) ≡ due s (part c.tree p))
  unfolding move
  row_due row_none h = (h, omega arith)
  row_due (and_then {c = c} {st = st} {t = t} q m r) h =
      let k = move_counts acc (spare lim c.stores c.tree) c.stores [] c.tree p st t h q m in
      let j = row_due r k.0 in
      (j.0, omega (arith, k.1, j.1))
  row_due (meanwhile e r) h = let j = row_due r (rw e h) in (j.0, omega (arith, j.1, ap (due s) e))

  module _ {w : Want} {c d : Config} {n : ℕ} (h : WfConfig s w c) (r : Row s lim p c n d) where
    -- The silent moves of a thread in a row, and those that it still has before it, are those that it had.
    pub row_counts : n + due s (part d.tree p) ≡ due s (part c.tree p)
    row_counts = (row_due r (on_node h.tree p)).1

    -- So a row that ends where its move due is not silent is exactly as long.
    pub row_exact : quiet_in s (part d.tree p) ≡ false → n ≡ due s (part c.tree p)
    row_exact q =
        let k = row_due r (on_node h.tree p) in
        let z : due s (part d.tree p) ≡ 0 = rw q at (due_told acc (part d.tree p) k.0).1 in
        omega (arith, k.1)

    -- At most 1,024 silent moves of a thread in a row.
    pub row_bound : n ≤ SILENT
    row_bound = omega (arith, row_counts, (due_told acc (part c.tree p) (on_node h.tree p)).0, acc.most)

-- The thread at a place has the count of its node before it.
pub node_due : {s : Code} {w : Want} {c : Config} {a : Point} {e : ℕ} {fs : List Frame} → WfConfig s w c → (p : Path) → part c.tree p ≡ some (running a e fs) → due s (part c.tree p) ≡ silent_from s a
node_due {s} {a = a} {e = e} {fs = fs} h p i = ap (due s) i ∙ sym (node_count_lem s a (on_node h.tree p a e fs i))
