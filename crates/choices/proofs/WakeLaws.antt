-- The move of a thread with a value, by its innermost frame and the node that waits there.
use mathlib.Core.Path.{◌≡◌, refl, sym, ap, ◌∙◌}
use mathlib.Core.Bool.{false}
use mathlib.Core.List.{List, [], ◌∷◌}
use Prim.Native.Nat.{ℕ, ◌-◌, ◌<◌, ◌≤◌}
use native.Mathlib.Omega.{arith}
use lib.ListN.{length, length-reverse}
use Rattle.limits.specs.Limits.{BINDINGS}
use Rattle.script.specs.Syntax.{Point, Slot, n_bind}
use Rattle.script.specs.declared.Kind.{Kind}
use Rattle.script.specs.declared.Kind.TheVariants.{Null as null_kind, Variable as var_kind, Select as select_kind, Update as update_kind, Call as call_kind, Let as bind_kind}
use Rattle.script.specs.declared.Kind.TheVariants.{New as new_kind, Cast as cast_kind, Fork as fork_kind, Lock as lock_kind, Constant as constant_kind}
use Rattle.script.specs.declared.Kind.TheVariants.{Sum as add_kind, Unknown as unknown_kind}
use Rattle.script.specs.Reading.{node_of, view_at, expr_at, program_of}
use Rattle.std.specs.declared.result.Result.TheVariants.{Ok}
use Rattle.typing.specs.Typing.{inferred}
use Rattle.machine.specs.declared.Value.{Value}
use Rattle.machine.specs.declared.Frame.{Frame}
use Rattle.machine.specs.declared.Frame.TheVariants.{Awaits as awaits, Casts as casts, Locks as locks}
use Rattle.machine.specs.declared.Want.{Want}
use Rattle.machine.specs.Config as machine
use Rattle.machine.specs.Config.{code_of, Code, Binding, Stores, returning, Config}
use Rattle.machine.specs.Machine.{scope, find, context, limits, spare, Places, still, moved, with_shut, extend, update_target, call_target, wake, resume, Path}
use Rattle.machine.specs.Accepted.{AcceptedCode}
use Rattle.machine.specs.WellFormed.{Awaits, a_let, FramesOk, a_node, a_cast, a_lock, TreeOk, returning_ok}
use Rattle.machine.proofs.Types.{infer_computes}
use Rattle.block.specs.declared.Area.TheVariants.{Bindings}
use Rattle.block.specs.Layout.{counted}
use Rattle.block.specs.Values.{Storable}
use Rattle.block.specs.Block.{waiting, parts_of}
use Rattle.environments.specs.Known.{Inferable}
use Rattle.environments.proofs.LaidLaws.{bindings_counted}
use Rattle.state.specs.Represents.{Represents, Rest, StateAt}
use Rattle.state.specs.Positions.{entry_at}
use Rattle.state.proofs.Seeing.{seen_waiting}
use Rattle.moves.specs.declared.Effect.{Effect}
use Rattle.moves.specs.Performs.{Performs, AtPosition, Resumes}
use Rattle.choices.specs.PerformsChoice.{FirstTyped}
use Rattle.moves.proofs.Laws.{scope_read}
use Rattle.choices.proofs.NodeLaws.{Words, view_kind, view_words}
use Rattle.moves.proofs.Ready.{value_word}

bindings_room : {b : List ℕ} {c : Config} → Represents b c → length c.stores.bindings ≡ counted b Bindings
bindings_room {c = c} h = sym (bindings_counted (parts_of c) h.block ∙ length-reverse c.stores.bindings)

-- no other kind of node waits
other_wake : (s : Code) (room : Places) (st : Stores) (v : Value) (fs : List Frame) (e : ℕ) (k : Kind) (x y z : ℕ) → (k ≡ update_kind → ⊥) → (k ≡ call_kind → ⊥) → (k ≡ bind_kind → ⊥) → wake s room st v fs e (node_of k x y z) ≡ still
other_wake s room st v fs e null_kind x y z h3 h4 h5 = refl
other_wake s room st v fs e var_kind x y z h3 h4 h5 = refl
other_wake s room st v fs e select_kind x y z h3 h4 h5 = refl
other_wake s room st v fs e update_kind x y z h3 h4 h5 = absurd (h3 refl)
other_wake s room st v fs e call_kind x y z h3 h4 h5 = absurd (h4 refl)
other_wake s room st v fs e bind_kind x y z h3 h4 h5 = absurd (h5 refl)
other_wake s room st v fs e new_kind x y z h3 h4 h5 = refl
other_wake s room st v fs e cast_kind x y z h3 h4 h5 = refl
other_wake s room st v fs e fork_kind x y z h3 h4 h5 = refl
other_wake s room st v fs e lock_kind x y z h3 h4 h5 = refl
other_wake s room st v fs e constant_kind x y z h3 h4 h5 = refl
other_wake s room st v fs e add_kind x y z h3 h4 h5 = refl
other_wake s room st v fs e unknown_kind x y z h3 h4 h5 = refl

module _ {b : List ℕ} {i : ℕ} {rest : Rest} {after : List ℕ} {r : Effect} (s : List ℕ) (c : Config) (v : Value) (fs : List Frame) (n env : ℕ) {kind : Kind} {x y z : ℕ} (w : Words s n kind x y z) where
  pub wakes_write : kind ≡ update_kind → Performs b i rest (update_target (code_of s) c.stores fs y v (find (scope c.stores.bindings env) x)) after r
      → Performs b i rest (wake (code_of s) (spare limits c.stores c.tree) c.stores v fs env (view_at s n)) after r
  wakes_write k came = rw (view_kind w update_kind k) came

  pub wakes_call : Represents b c → kind ≡ call_kind → Performs b i rest (call_target (code_of s) c.stores fs y v (BINDINGS - counted b Bindings) (find (scope c.stores.bindings env) x)) after r
      → Performs b i rest (wake (code_of s) (spare limits c.stores c.tree) c.stores v fs env (view_at s n)) after r
  wakes_call h k came = rw (view_kind w call_kind k, bindings_room h) came

  pub wakes_let : Represents b c → kind ≡ bind_kind
      → Performs b i rest (extend c.stores fs x v z env (inferred (program_of s) (context c.stores.bindings env) (expr_at s y)) (BINDINGS - counted b Bindings)) after r
      → Performs b i rest (wake (code_of s) (spare limits c.stores c.tree) c.stores v fs env (view_at s n)) after r
  wakes_let h k came = rw (view_kind w bind_kind k, bindings_room h) came

-- the view of a let
pub let_view : {s : List ℕ} {n : ℕ} {kind : Kind} {x y z : ℕ} → Words s n kind x y z → kind ≡ bind_kind → view_at s n ≡ n_bind x y z
let_view w k = view_kind w bind_kind k

pub wakes_none : (s : List ℕ) (c : Config) (v : Value) (fs : List Frame) (n env : ℕ) {kind : Kind} {x y z : ℕ} → Words s n kind x y z → (kind ≡ update_kind → ⊥) → (kind ≡ call_kind → ⊥) → (kind ≡ bind_kind → ⊥)
    → wake (code_of s) (spare limits c.stores c.tree) c.stores v fs env (view_at s n) ≡ still
wakes_none s c v fs n env {kind = kind} {x = x} {y = y} {z = z} w h3 h4 h5 =
    rw (view_words w) (other_wake (code_of s) (spare limits c.stores c.tree) c.stores v fs env kind x y z h3 h4 h5)

-- the innermost frame, as it was read
abbrev Top : List ℕ → ℕ → Frame → Type 0
Top b i f = (x : Rest) (st : Stores) (u : machine.Tree) (g : Frame) (gs : List Frame) → waiting u ≡ g ∷ gs → StateAt b i x st u → f ≡ g

module _ {b : List ℕ} {i : ℕ} {x : Rest} (s : List ℕ) (c : Config) (p : Path) (v : Value) where
  pub finished_stays : (fs : List Frame) → AtPosition b i c p (returning v fs) x → (entry_at b i).frames ≡ 0
      → resume (code_of s) (spare limits c.stores c.tree) c.stores v fs ≡ still
  finished_stays [] h z = refl
  finished_stays (f ∷ fs) h z = absurd (omega (arith, seen_waiting h.seen))

  module _ {after : List ℕ} {r : Effect} (f : Frame) (some-frame : (entry_at b i).frames ≡ 0 → ⊥) (top : Top b i f) where
    pub resumes_node : (n env : ℕ) → f ≡ awaits n env → (fs : List Frame) → AtPosition b i c p (returning v fs) x
        → ((g : Frame) (gs : List Frame) → AtPosition b i c p (returning v (g ∷ gs)) x → Performs b i x (wake (code_of s) (spare limits c.stores c.tree) c.stores v gs env (view_at s n)) after r)
        → Performs b i x (resume (code_of s) (spare limits c.stores c.tree) c.stores v fs) after r
    resumes_node n env e [] h on = absurd (some-frame (seen_waiting h.seen))
    resumes_node n env e (g ∷ gs) h on = let k : g ≡ awaits n env = sym (top x c.stores (returning v (g ∷ gs)) g gs refl h.seen) ∙ e in rw k (on g gs h)

    pub resumes_cast : (n : ℕ) → f ≡ casts n → (fs : List Frame) → AtPosition b i c p (returning v fs) x
        → ((gs : List Frame) → AtPosition b i c p (returning v (casts n ∷ gs)) x → Performs b i x (moved c.stores (returning v gs)) after r)
        → Performs b i x (resume (code_of s) (spare limits c.stores c.tree) c.stores v fs) after r
    resumes_cast n e [] h on = absurd (some-frame (seen_waiting h.seen))
    resumes_cast n e (g ∷ gs) h on = let k : g ≡ casts n = sym (top x c.stores (returning v (g ∷ gs)) g gs refl h.seen) ∙ e in rw k (on gs (rw k at h))

    pub resumes_lock : (o : ℕ) → f ≡ locks o → (fs : List Frame) → AtPosition b i c p (returning v fs) x
        → ((gs : List Frame) → AtPosition b i c p (returning v (locks o ∷ gs)) x → Performs b i x (moved (with_shut false c.stores o) (returning v gs)) after r)
        → Performs b i x (resume (code_of s) (spare limits c.stores c.tree) c.stores v fs) after r
    resumes_lock o e [] h on = absurd (some-frame (seen_waiting h.seen))
    resumes_lock o e (g ∷ gs) h on = let k : g ≡ locks o = sym (top x c.stores (returning v (g ∷ gs)) g gs refl h.seen) ∙ e in rw k (on gs (rw k at h))

-- what the innermost frame of a formed thread names is there
pub record NodeThere (s : Code) (bs : List Binding) (n e : ℕ) : Type 0 where
  pub node : n < s.size
  pub env : e ≤ length bs

-- a frame told by its kind, its node and its environment
frame_number : Frame → ℕ
frame_number (awaits n e) = 0
frame_number (casts n) = 1
frame_number (locks o) = 2

frame_node : Frame → ℕ
frame_node (awaits n e) = n
frame_node (casts n) = n
frame_node (locks o) = o

frame_env : Frame → ℕ
frame_env (awaits n e) = e
frame_env (casts n) = 0
frame_env (locks o) = 0

awaits_there : {s : Code} {bs : List Binding} {n env : ℕ} {w u : Want} (g : Frame) (gs : List Frame) → FramesOk s bs w (g ∷ gs) u → g ≡ awaits n env → NodeThere s bs n env
unfolding frame_number frame_node frame_env
awaits_there (awaits m d) gs (a_node l k aw ok) e = record { node = rw (ap frame_node e) at l; env = rw (ap frame_env e) at k }
awaits_there (casts m) gs (a_cast l k me ok) e = let z : ◌≡◌ {A = ℕ} 1 0 = ap frame_number e in absurd (omega arith)
awaits_there (locks o) gs (a_lock ok) e = let z : ◌≡◌ {A = ℕ} 2 0 = ap frame_number e in absurd (omega arith)

-- the first part of a let that waits has a type
let_first : {s : Code} {start : ℕ} (acc : AcceptedCode s start) {Γ : List Slot} {x t : ℕ} {a b : Point} {v : Want} → Awaits s Γ (n_bind x a b) t v → inferred s.program Γ (s.expr a) ≡ Ok t
let_first acc (a_let h k) = infer_computes acc h

awaits_first : {s : Code} {start : ℕ} (acc : AcceptedCode s start) {bs : List Binding} {n env : ℕ} {w u : Want} (g : Frame) (gs : List Frame) → FramesOk s bs w (g ∷ gs) u → g ≡ awaits n env → (x a b : ℕ) → s.view n ≡ n_bind x a b
    → (t : ℕ) × (inferred s.program (context bs env) (s.expr a) ≡ Ok t)
unfolding frame_number frame_node frame_env
awaits_first {s} acc (awaits m d) gs (a_node {t = t} l k aw ok) e x a b v =
    let same : d ≡ _ = ap frame_env e in
    let view : s.view m ≡ n_bind x a b = ap s.view (ap frame_node e) ∙ v in
    (t, rw same at (let_first acc (rw view at aw)))
awaits_first acc (casts m) gs (a_cast l k me ok) e x a b v = let z : ◌≡◌ {A = ℕ} 1 0 = ap frame_number e in absurd (omega arith)
awaits_first acc (locks o) gs (a_lock ok) e x a b v = let z : ◌≡◌ {A = ℕ} 2 0 = ap frame_number e in absurd (omega arith)

module _ {s b : List ℕ} {i : ℕ} {v : Value} (h : Resumes s b i v) where
  pub resumes_first : (f : Frame) (n env : ℕ) → ((entry_at b i).frames ≡ 0 → ⊥) → Top b i f → f ≡ awaits n env → FirstTyped s b n env
  resumes_first f n env some-frame top e x a body view = go h.frames h.formed h.here
    where
      go : (fs : List Frame) → TreeOk (code_of s) h.config.stores h.want (returning v fs) → AtPosition b i h.config h.path (returning v fs) h.rest → Inferable s b env a
      go [] ok at = absurd (some-frame (seen_waiting at.seen))
      go (g ∷ gs) (returning_ok fits frames) at =
          let found = awaits_first h.accepted g gs frames (sym (top h.rest h.config.stores (returning v (g ∷ gs)) g gs refl at.seen) ∙ e) x a body view in
          record { type = found.0; is = rw (scope_read at.seen) found.1 }

  pub resumes_there : (f : Frame) (n env : ℕ) → ((entry_at b i).frames ≡ 0 → ⊥) → Top b i f → f ≡ awaits n env → NodeThere (code_of s) h.config.stores.bindings n env
  resumes_there f n env some-frame top e = go h.frames h.formed h.here
    where
      go : (fs : List Frame) → TreeOk (code_of s) h.config.stores h.want (returning v fs) → AtPosition b i h.config h.path (returning v fs) h.rest → NodeThere (code_of s) h.config.stores.bindings n env
      go [] ok at = absurd (some-frame (seen_waiting at.seen))
      go (g ∷ gs) (returning_ok fits frames) at = awaits_there g gs frames (sym (top h.rest h.config.stores (returning v (g ∷ gs)) g gs refl at.seen) ∙ e)

  pub resumes_word : Storable v
  resumes_word = go h.formed
    where
      go : TreeOk (code_of s) h.config.stores h.want (returning v h.frames) → Storable v
      go (returning_ok fits frames) = value_word h.here.seen fits
