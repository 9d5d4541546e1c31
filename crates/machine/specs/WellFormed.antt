-- Well-formed configurations: Figure 7, read with document 01's points. Γ is what the configuration itself says: the types of its bindings and the classes of
-- its objects. Values are typed as in Figure 5, nodes as in Figure 11, as Check does it. What document 01 adds to the figures is in quotes.
use Rattle.std.specs.Prelude.{ℕ, zero, suc, ◌+◌, ◌≤◌, ◌<◌, ◌≡◌, List, [], ◌∷◌, length, ℤ}
use Rattle.std.proofs.Math.Option.{some}
use Rattle.words.specs.Word.{WORD}
use Rattle.words.specs.Integer.{InRange}
use Rattle.script.specs.Syntax.{Point, Node, n_bind, n_cast, n_update, n_call, Expr, null, var, bind, fork, lock, Slot, int_of}
use Rattle.script.specs.Regular.{IsType, IsClass}
use Rattle.typing.specs.Environments.{TypeOf, of_lock}
use Rattle.typing.specs.Members.{fields_of}
use Rattle.typing.specs.Published.{Sub, FieldIn, MsigIn, Disjoint, NullFits, UseOk, Infer}
use Rattle.machine.specs.declared.Value.{Value}
use Rattle.machine.specs.declared.Want.{Want}
use Rattle.machine.specs.declared.Want.TheVariants.{Any as any, Upto as upto}
use Rattle.machine.specs.declared.Value.TheVariants.{Null as nil, Ref as ref, Int as int}
use Rattle.machine.specs.declared.Frame.{Frame}
use Rattle.machine.specs.declared.Frame.TheVariants.{Awaits as awaits, Casts as casts, Locks as locks}
use Rattle.machine.specs.Config.{Code, Object, Binding, Stores, Tree, running, returning, failed, join, Config}
use Rattle.machine.specs.Machine.{context, object, one_if, lock_frames, Places, frame_count, thread_count}

-- t' <: t, the premise of WF-LOC and of BD-CHECK-SUB.
pub data Meets (s : Code) : ℕ → Want → Type 0 where
  meets_any : {t : ℕ} → Meets s t any
  meets_type : {t u : ℕ} → Sub s.program t u → Meets s t (upto u)

-- Null has the type that is wanted, where one is: the premise `NullFits` of BD-CHECK-NULL.
pub data NullMeets (s : Code) : Want → Type 0 where
  null_any : NullMeets s any
  null_type : {t : ℕ} → NullFits s.program t → NullMeets s (upto t)

-- Γ ⊢ v : t, of Figure 5: "value types fit".
pub data ValueFits (s : Code) (xs : List Object) : Value → Want → Type 0 where
  -- WF-NULL, with the premise of BD-CHECK-NULL
  fits_nil : {w : Want} → NullMeets s w → ValueFits s xs nil w
  -- WF-LOC: Γ(ι) is the object's class
  fits_ref : {o : ℕ} {x : Object} {w : Want} → object xs o ≡ some x → Meets s x.class w → ValueFits s xs (ref o) w
  -- no rule of the figure: "Int, a signed 32-bit number"
  fits_int : {z : ℤ} {w : Want} → InRange z → Meets s (int_of s.program) w → ValueFits s xs (int z) w

-- Γ ⊢ e ⇐ t of Figure 11, and where any type will do the same with some t: `gives_checks`, `gives_some`.
pub data Gives (s : Code) : List Slot → Expr → Want → Type 0 where
  -- BD-CHECK-NULL: "A null is checked against any type and inferred never", but "Null does not fit Int (14)".
  gives_null : {Γ : List Slot} {n : Point} {w : Want} → NullMeets s w → Gives s Γ (null n) w
  -- BD-CHECK-SUB
  gives_type : {Γ : List Slot} {a : Expr} {t : ℕ} {w : Want} → Infer s.program Γ a t → Meets s t w → Gives s Γ a w
  -- BD-CHECK-LET
  gives_let : {Γ : List Slot} {n x t : ℕ} {a b : Expr} {w : Want} → Infer s.program Γ a t → Gives s (record { name = x; type = t } ∷ Γ) b w
      → Gives s Γ (bind n x a b) w
  -- BD-CHECK-LOCK
  gives_lock : {Γ : List Slot} {n x t : ℕ} {a : Expr} {w : Want} → Infer s.program Γ (var n x) t → UseOk s.program n (of_lock t) → Gives s Γ a w
      → Gives s Γ (lock n x a) w
  -- BD-CHECK-FJ
  gives_fork : {Γ : List Slot} {n t u : ℕ} {a b c : Expr} {w : Want} → Disjoint a b → Infer s.program Γ a t → Infer s.program Γ b u → Gives s Γ c w
      → Gives s Γ (fork n a b c) w

-- The same of a program point: it is a node of the script.
pub record NodeGives (s : Code) (Γ : List Slot) (a : Point) (w : Want) : Type 0 where
  pub node : a < s.size
  pub gives : Gives s Γ (s.expr a) w

-- One binding; `older` are there before it.
pub record BindingOk (s : Code) (xs : List Object) (older : ℕ) (b : Binding) : Type 0 where
  -- "All words are unsigned 16-bit"
  pub name : b.name < WORD
  -- WF-ENV: ⊢ t for each x : t ∈ Γ
  pub type : IsType s.program b.type
  -- "links run to earlier bindings"
  pub link : b.link ≤ older
  -- WF-VARS: V(x) = v and Γ ⊢ v : t
  pub value : ValueFits s xs b.value (upto b.type)

-- WF-VARS, of all bindings.
pub data BindingsOk (s : Code) (xs : List Object) : List Binding → Type 0 where
  no_bindings : BindingsOk s xs []
  a_binding : {b : Binding} {bs : List Binding} → BindingOk s xs (length bs) b → BindingsOk s xs bs → BindingsOk s xs (b ∷ bs)

-- WF-FIELDS: one value for each of fields(C) ≡ f₁ : t₁, .., fₙ : tₙ, and Γ ⊢ vᵢ : tᵢ.
pub data FieldsOk (s : Code) (xs : List Object) : List Slot → List Value → Type 0 where
  no_fields : FieldsOk s xs [] []
  a_field : {d : Slot} {ds : List Slot} {v : Value} {l : List Value} → ValueFits s xs v (upto d.type) → FieldsOk s xs ds l → FieldsOk s xs (d ∷ ds) (v ∷ l)

pub record TypedObject (s : Code) (xs : List Object) (x : Object) : Type 0 where
  -- WF-ENV: ⊢ C for each ι : C ∈ Γ
  pub class : IsClass s.program x.class
  -- Γ; C ⊢ F
  pub fields : FieldsOk s xs (fields_of s.program x.class) x.fields

-- Γ ⊢ V and Γ ⊢ H. That Γ and V, and Γ and H, have the same domains needs no saying: Γ is read off them.
pub record StoresOk (s : Code) (st : Stores) : Type 0 where
  pub bindings : BindingsOk s st.objects st.bindings
  -- WF-HEAP
  pub heap : (o : ℕ) (x : Object) → object st.objects o ≡ some x → TypedObject s st.objects x

-- `Awaits s Γ n t v`: the node waits for a value of type t, or below, and then gives one that fits v, what is expected beneath its frame. Each is the rule of
-- Figure 11 for the whole node, less the premise about the part that the value has come from; after BD-INFER-UPDATE and BD-INFER-CALL BD-CHECK-SUB.
pub data Awaits (s : Code) (Γ : List Slot) : Node → ℕ → Want → Type 0 where
  -- BD-CHECK-LET; its premise Γ ⊢ e₁ ⇒ t₁ stays: "what a let frame waits for fits the type inferred for the let's first part under the frame's bindings (there
  -- must be one)". The last part is checked against what is expected beneath.
  a_let : {x t : ℕ} {a b : Point} {v : Want} → Infer s.program Γ (s.expr a) t → Gives s (record { name = x; type = t } ∷ Γ) (s.expr b) v
      → Awaits s Γ (n_bind x a b) t v
  -- BD-INFER-UPDATE, less Γ ⊢ e ⇐ t
  a_write : {x f c t : ℕ} {a : Point} {v : Want} → TypeOf Γ x c → FieldIn s.program c f t → Meets s 0 v → Awaits s Γ (n_update x f a) t v
  -- BD-INFER-CALL, less Γ ⊢ e ⇐ t₂
  a_call : {x m c t u : ℕ} {a : Point} {v : Want} → TypeOf Γ x c → MsigIn s.program c (record { name = m; param = t; result = u }) → Meets s u v
      → Awaits s Γ (n_call x m a) t v

-- `FramesOk s bs w fs v`: the frames turn a value that fits v into an answer that fits w. Γ ⊢ E[v] : t, one frame at a time: "frames are typed up to the
-- start's type or below at the root and to any type at an async".
pub data FramesOk (s : Code) (bs : List Binding) (w : Want) : List Frame → Want → Type 0 where
  no_frames : FramesOk s bs w [] w
  -- a write, call or let
  a_node : {n : Point} {e t : ℕ} {fs : List Frame} {v : Want} → n < s.size → e ≤ length bs → Awaits s (context bs e) (s.view n) t v
      → FramesOk s bs w fs v → FramesOk s bs w (awaits n e ∷ fs) (upto t)
  -- BD-INFER-CAST, less Γ ⊢ e ⇐ t; then BD-CHECK-SUB
  a_cast : {n a : Point} {t : ℕ} {fs : List Frame} {v : Want} → n < s.size → s.view n ≡ n_cast t a → Meets s t v
      → FramesOk s bs w fs v → FramesOk s bs w (casts n ∷ fs) (upto t)
  -- WF-LOCKED; that Γ(ι) is there follows from H ⊢lock T below
  a_lock : {o : ℕ} {fs : List Frame} {v : Want} → FramesOk s bs w fs v → FramesOk s bs w (locks o ∷ fs) v

-- Γ ⊢ T : t
pub data TreeOk (s : Code) (st : Stores) : Want → Tree → Type 0 where
  -- WF-T-THREAD, of a thread at a node and of one with a value
  running_ok : {w v : Want} {a : Point} {e : ℕ} {fs : List Frame} → e ≤ length st.bindings → NodeGives s (context st.bindings e) a v
      → FramesOk s st.bindings w fs v → TreeOk s st w (running a e fs)
  returning_ok : {w v : Want} {x : Value} {fs : List Frame} → ValueFits s st.objects x v → FramesOk s st.bindings w fs v → TreeOk s st w (returning x fs)
  -- WF-T-EXN
  failed_ok : {w : Want} → TreeOk s st w failed
  -- WF-T-ASYNC
  join_ok : {w v : Want} {a : Point} {e : ℕ} {fs : List Frame} {l r : Tree} → e ≤ length st.bindings → NodeGives s (context st.bindings e) a v
      → FramesOk s st.bindings w fs v → TreeOk s st any l → TreeOk s st any r → TreeOk s st w (join fs a e l r)

-- How many lock frames of an object a tree has (how often it stands in `lock_list`, as `count_listed` says), and how many failed threads.
abbrev pub lock_count : ℕ → Tree → ℕ
lock_count o (running a e fs) = lock_frames o fs
lock_count o (returning v fs) = lock_frames o fs
lock_count o failed = 0
lock_count o (join fs a e l r) = lock_frames o fs + lock_count o l + lock_count o r

abbrev pub failures : Tree → ℕ
failures (running a e fs) = 0
failures (returning v fs) = 0
failures failed = 1
failures (join fs a e l r) = failures l + failures r

-- 1 for a shut object, 0 for an open one and where there is none.
abbrev pub shut_at : List Object → ℕ → ℕ
shut_at [] o = 0
shut_at (x ∷ xs) zero = one_if x.shut
shut_at (x ∷ xs) (suc o) = shut_at xs o

-- WF-CFG: Γ ⊢ ⟨H; V; T⟩ : t
pub record WfConfig (s : Code) (w : Want) (c : Config) : Type 0 where
  pub stores : StoresOk s c.stores
  pub tree : TreeOk s c.stores w c.tree
  -- "all lock frames name distinct objects, each of them shut": an object has at most one lock frame in the whole tree, and that only if it is there and shut.
  -- The crate published proves (proofs/LockRules) that this is so exactly when it is so of the lockedι of the reading (`lock_frames_ok`), and that H ⊢lock T of
  -- the reading follows (`locks_formed`): WF-L-THREAD, WF-L-ASYNC and WF-L-EXN, premise for premise, with document 01's rule for a failed leftmost thread.
  pub distinct : (o : ℕ) → lock_count o c.tree ≤ shut_at c.stores.objects o
  -- added to Figure 7: "With no failed thread no other objects are shut."
  pub covered : failures c.tree ≡ 0 → (o : ℕ) → shut_at c.stores.objects o ≤ lock_count o c.tree

-- Added to Figure 7: "A block holds at most 256 objects .., 2,048 variable bindings .., 2,048 waiting frames in all, and a tree of joins with at most 32
-- threads."
pub record Within (lim : Places) (c : Config) : Type 0 where
  pub objects : length c.stores.objects ≤ lim.objects
  pub bindings : length c.stores.bindings ≤ lim.bindings
  pub frames : frame_count c.tree ≤ lim.frames
  pub threads : thread_count c.tree ≤ lim.threads

-- "Is the block a well-formed configuration of this script?", for a script whose start has type t: "frames are typed up to the start's type or below at the
-- root".
pub record WellFormed (s : Code) (lim : Places) (t : ℕ) (c : Config) : Type 0 where
  pub formed : WfConfig s (upto t) c
  pub within : Within lim c
