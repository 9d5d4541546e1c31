-- The move of a thread at a node, by the node's kind.
use mathlib.Core.Path.{◌≡◌, sym, ap, ◌∙◌}
use mathlib.Core.Logic.{◌⊎◌, ⊎_elim}
use mathlib.Core.List.{List, []}
use Prim.Native.Nat.{ℕ, ◌-◌}
use lib.ListN.{length}
use Rattle.words.specs.Integer.{integer}
use Rattle.limits.specs.Limits.{OBJECTS, FRAMES, THREADS}
use Rattle.script.specs.Section.{node_word}
use Rattle.script.specs.declared.Kind.{Kind}
use Rattle.script.specs.declared.Kind.TheVariants.{Null as null_kind, Variable as var_kind, Select as select_kind, Update as update_kind, Call as call_kind, Let as bind_kind}
use Rattle.script.specs.declared.Kind.TheVariants.{New as new_kind, Cast as cast_kind, Fork as fork_kind, Lock as lock_kind, Constant as constant_kind}
use Rattle.script.specs.declared.Kind.TheVariants.{Sum as add_kind, Unknown as unknown_kind}
use Rattle.script.specs.Reading.{kind_of, node_of, view_at}
use Rattle.machine.specs.declared.Value.TheVariants.{Null as nil, Int as int}
use Rattle.machine.specs.declared.Frame.{Frame}
use Rattle.machine.specs.declared.Frame.TheVariants.{Awaits as awaits, Casts as casts}
use Rattle.machine.specs.Config.{code_of, returning, Config}
use Rattle.machine.specs.Machine.{scope, find, limits, spare, moved, give, descend, make, spawn, lock_target, select_target, add_bound}
use Rattle.machine.specs.Machine.{run_node, frame_count, thread_count, Path}
use Rattle.block.specs.declared.Area.TheVariants.{Objects, Frames}
use Rattle.block.specs.Layout.{counted}
use Rattle.block.specs.Block.{parts_of}
use Rattle.representation.specs.Preorder.{frames_above}
use Rattle.areas.proofs.Laws.{frames_counted}
use Rattle.environments.proofs.LaidLaws.{objects_counted}
use Rattle.state.specs.Represents.{Represents, Rest}
use Rattle.state.proofs.Seeing.{frames_many}
use Rattle.moves.specs.declared.Effect.{Effect}
use Rattle.moves.specs.Performs.{Performs}

-- the words of a node, as the code has read them
pub record Words (s : List ℕ) (a : ℕ) (kind : Kind) (x y z : ℕ) : Type 0 where
  pub kind_is : kind ≡ kind_of (node_word s a 0)
  pub first : x ≡ node_word s a 1
  pub second : y ≡ node_word s a 2
  pub third : z ≡ node_word s a 3

pub words : {s : List ℕ} {a : ℕ} {kind : Kind} {x y z : ℕ} → kind ≡ kind_of (node_word s a 0) → x ≡ node_word s a 1 → y ≡ node_word s a 2 → z ≡ node_word s a 3 → Words s a kind x y z
words k x y z = record { kind_is = k; first = x; second = y; third = z }

pub view_words : {s : List ℕ} {a : ℕ} {kind : Kind} {x y z : ℕ} → Words s a kind x y z → view_at s a ≡ node_of kind x y z
unfolding view_at
view_words w = rw (← w.kind_is, ← w.first, ← w.second, ← w.third)

pub view_kind : {s : List ℕ} {a : ℕ} {kind : Kind} {x y z : ℕ} → Words s a kind x y z → (k : Kind) → kind ≡ k → view_at s a ≡ node_of k x y z
view_kind {x = x} {y = y} {z = z} w k e = view_words w ∙ ap (λ (m : Kind). node_of m x y z) e

-- the places left, as the block has them
pub frames_room : {b : List ℕ} {c : Config} → Represents b c → frame_count c.tree ≡ counted b Frames
frames_room {c = c} h = sym (frames_counted _ (parts_of c) h.block ∙ frames_many c.tree)

pub objects_room : {b : List ℕ} {c : Config} → Represents b c → length c.stores.objects ≡ counted b Objects
objects_room {c = c} h = sym (objects_counted (parts_of c) h.block)

-- the move of a thread at node a, of the configuration c
abbrev Runs : List ℕ → Config → Path → List Frame → ℕ → ℕ → List ℕ → ℕ → Rest → List ℕ → Effect → Type 0
Runs s c p fs a env b i rest after r =
    Performs b i rest (run_node (code_of s) (spare limits c.stores c.tree) c.stores (frames_above [] c.tree p) fs env a (view_at s a)) after r

module _ {b : List ℕ} {i : ℕ} {rest : Rest} {after : List ℕ} {r : Effect} (s : List ℕ) (c : Config) (p : Path) (fs : List Frame) (a env : ℕ) {kind : Kind} {x y z : ℕ} (w : Words s a kind x y z) where
  pub at_var : kind ≡ var_kind → Performs b i rest (give c.stores fs (find (scope c.stores.bindings env) x)) after r → Runs s c p fs a env b i rest after r
  at_var k came = rw (view_kind w var_kind k) came

  pub at_select : kind ≡ select_kind → Performs b i rest (select_target (code_of s) c.stores fs y (find (scope c.stores.bindings env) x)) after r → Runs s c p fs a env b i rest after r
  at_select k came = rw (view_kind w select_kind k) came

  pub at_update : Represents b c → kind ≡ update_kind → Performs b i rest (descend c.stores fs env (awaits a env) z (FRAMES - counted b Frames)) after r → Runs s c p fs a env b i rest after r
  at_update h k came = rw (view_kind w update_kind k, frames_room h) came

  pub at_call : Represents b c → kind ≡ call_kind → Performs b i rest (descend c.stores fs env (awaits a env) z (FRAMES - counted b Frames)) after r → Runs s c p fs a env b i rest after r
  at_call h k came = rw (view_kind w call_kind k, frames_room h) came

  pub at_let : Represents b c → kind ≡ bind_kind → Performs b i rest (descend c.stores fs env (awaits a env) y (FRAMES - counted b Frames)) after r → Runs s c p fs a env b i rest after r
  at_let h k came = rw (view_kind w bind_kind k, frames_room h) came

  pub at_new : Represents b c → kind ≡ new_kind → Performs b i rest (make (code_of s) c.stores fs x (OBJECTS - counted b Objects)) after r → Runs s c p fs a env b i rest after r
  at_new h k came = rw (view_kind w new_kind k, objects_room h) came

  pub at_cast : Represents b c → kind ≡ cast_kind → Performs b i rest (descend c.stores fs env (casts a) y (FRAMES - counted b Frames)) after r → Runs s c p fs a env b i rest after r
  at_cast h k came = rw (view_kind w cast_kind k, frames_room h) came

  pub at_fork : kind ≡ fork_kind → Performs b i rest (spawn c.stores fs env x y z (THREADS - thread_count c.tree)) after r → Runs s c p fs a env b i rest after r
  at_fork k came = rw (view_kind w fork_kind k) came

  pub at_lock : Represents b c → kind ≡ lock_kind
      → Performs b i rest (lock_target c.stores (frames_above [] c.tree p) fs y env (FRAMES - counted b Frames) (find (scope c.stores.bindings env) x)) after r → Runs s c p fs a env b i rest after r
  at_lock h k came = rw (view_kind w lock_kind k, frames_room h) came

  pub at_constant : kind ≡ constant_kind → Performs b i rest (moved c.stores (returning (int (integer x y)) fs)) after r → Runs s c p fs a env b i rest after r
  at_constant k came = rw (view_kind w constant_kind k) came

  pub at_add : kind ≡ add_kind
      → Performs b i rest (add_bound c.stores fs (find (scope c.stores.bindings env) x) (find (scope c.stores.bindings env) y)) after r
      → Runs s c p fs a env b i rest after r
  at_add k came = rw (view_kind w add_kind k) came

  pub at_null : (kind ≡ null_kind) ⊎ (kind ≡ unknown_kind) → Performs b i rest (moved c.stores (returning nil fs)) after r → Runs s c p fs a env b i rest after r
  at_null k came = ⊎_elim (λ e. rw (view_kind w null_kind e) came) (λ e. rw (view_kind w unknown_kind e) came) k
