-- When a store is full for a move, said of the configuration: "when the chosen move needs more places than that store has left (it is full for that move, as
-- bindings with one place left are for a call)".
use Rattle.std.specs.Prelude.{ℕ, ◌<◌, ◌≡◌, true, false, List, ◌∷◌}
use Rattle.std.proofs.Math.Option.{some}
use Rattle.script.specs.Syntax.{Point, n_call, n_bind, n_new, n_fork, n_lock}
use Rattle.machine.specs.declared.Store.{Store}
use Rattle.machine.specs.declared.Store.TheVariants.{Objects, Bindings, Frames, Threads}
use Rattle.machine.specs.declared.Value.{Value}
use Rattle.machine.specs.declared.Frame.{Frame}
use Rattle.machine.specs.declared.Frame.TheVariants.{Awaits as awaits}
use Rattle.machine.specs.Config.{Code, Object, Stores, Tree, running, returning, Config}
use Rattle.machine.specs.Machine.{Places, spare, Path, locate, part}
use Rattle.machine.specs.Silent.{descends}
use Rattle.machine.specs.Asks.{TargetObject}
use Rattle.machine.specs.Runs.{Report, LastFull}

-- The move due of a thread needs more places than this store has left.
pub data Short (s : Code) (room : Places) (st : Stores) : Tree → Store → Type 0 where
  -- new makes an object
  no_object : {a : Point} {e c : ℕ} {fs : List Frame} → s.view a ≡ n_new c → room.objects < 1 → Short s room st (running a e fs) Objects
  -- a waiting let adds one binding, a waiting call on an object two
  no_binding : {n a b : Point} {e x : ℕ} {v : Value} {fs : List Frame} → s.view n ≡ n_bind x a b → room.bindings < 1
      → Short s room st (returning v (awaits n e ∷ fs)) Bindings
  no_two : {n a : Point} {e x m : ℕ} {v : Value} {fs : List Frame} {y : Object} → s.view n ≡ n_call x m a → TargetObject st e x y
      → room.bindings < 2 → Short s room st (returning v (awaits n e ∷ fs)) Bindings
  -- to descend leaves a frame, and so does a lock on an open object
  no_frame : {a : Point} {e : ℕ} {fs : List Frame} → descends (s.view a) ≡ true → room.frames < 1 → Short s room st (running a e fs) Frames
  no_lock : {a b : Point} {e x : ℕ} {fs : List Frame} {y : Object} → s.view a ≡ n_lock x b → TargetObject st e x y → y.shut ≡ false
      → room.frames < 1 → Short s room st (running a e fs) Frames
  -- a fork makes one thread two
  no_thread : {a b c d : Point} {e : ℕ} {fs : List Frame} → s.view a ≡ n_fork b c d → room.threads < 1 → Short s room st (running a e fs) Threads

-- The part of the tree at a place whose move due needs more than is left.
pub record ShortAt (s : Code) (room : Places) (st : Stores) (t : Tree) (p : Path) (k : Store) : Type 0 where
  pub tree : Tree
  pub there : part t p ≡ some tree
  pub short : Short s room st tree k

-- The last choice read names a place whose move due needs more places than this store has left.
pub record StopsShort (s : Code) (lim : Places) (c : Config) (ns : List ℕ) (r : Report) (k : Store) : Type 0 where
  pub last : LastFull s lim c ns r k
  pub place : Path
  pub there : locate r.config.tree last.last ≡ some place
  pub short : ShortAt s (spare lim r.config.stores r.config.tree) r.config.stores r.config.tree place k
