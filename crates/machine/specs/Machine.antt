-- Moves: what a thread or a join does when it is chosen. Program points are the script's nodes, so the machine goes from node to node.
use Rattle.std.specs.Prelude.{ℕ, zero, suc, ◌+◌, ◌-◌, ◌≡◌, Bool, true, false, cond, List, [], ◌∷◌, ◌++◌, map, eqb, ltb, length, ℤ, pos, ◌+ℤ◌}
use Rattle.std.proofs.Math.Option.{Option, none, some}
use Rattle.words.specs.Integer.{range_test}
use Rattle.limits.specs.Limits.{OBJECTS, BINDINGS, FRAMES, THREADS}
use Rattle.script.specs.Lists.{named}
use Rattle.script.specs.Syntax.{Point, Node, n_null, n_var, n_select, n_update, n_call, n_bind, n_new, n_cast, n_fork, n_lock, n_constant, n_add}
use Rattle.script.specs.Syntax.{point_of, Slot, Method, Program}
use Rattle.script.specs.Reading.{program_of}
use Rattle.std.specs.declared.result.Result.TheVariants.{Ok, Err}
use Rattle.typing.specs.Answers.{Answer}
use Rattle.typing.specs.Members.{fields_of, defined_in}
use Rattle.typing.specs.Typing.{inferred, int_test}
use Rattle.machine.specs.declared.Store.{Store}
use Rattle.machine.specs.declared.Store.TheVariants.{Objects, Bindings, Frames, Threads}
use Rattle.machine.specs.declared.Value.{Value}
use Rattle.machine.specs.declared.Value.TheVariants.{Null as nil, Ref as ref, Int as int}
use Rattle.machine.specs.declared.Frame.{Frame}
use Rattle.machine.specs.declared.Frame.TheVariants.{Awaits as awaits, Casts as casts, Locks as locks}
use Rattle.machine.specs.Config.{Code, Object, Binding, Stores, Tree, running, returning, failed, join, Config}

-- How many fields a class type of the script s declares.
abbrev pub field_count : List ℕ → ℕ → ℕ
field_count s t = length (fields_of (program_of s) t)

-- The bindings of an environment, nearest first.
abbrev pub scope : List Binding → ℕ → List Binding
scope [] e = []
scope (b ∷ older) e = cond (eqb e (suc (length older))) (b ∷ scope older b.link) (scope older e)

abbrev pub slot : Binding → Slot
slot b = record { name = b.name; type = b.type }

-- Γ of an environment.
abbrev pub context : List Binding → ℕ → List Slot
context bs e = map slot (scope bs e)

-- "the nearest binding counts"
abbrev pub find : List Binding → ℕ → Option Binding
find l x = named (λ (b : Binding). b.name) x l

-- In this environment the variable has this value.
pub record ValueOf (st : Stores) (e x : ℕ) (v : Value) : Type 0 where
  pub binding : Binding
  pub there : find (scope st.bindings e) x ≡ some binding
  pub value : binding.value ≡ v

-- H(ι)
abbrev pub object : List Object → ℕ → Option Object
object [] o = none
object (x ∷ xs) zero = some x
object (x ∷ xs) (suc o) = object xs o

-- The objects with the lock of one shut or opened.
abbrev pub set_shut : Bool → List Object → ℕ → List Object
set_shut b [] o = []
set_shut b (x ∷ xs) zero = record { class = x.class; shut = b; fields = x.fields } ∷ xs
set_shut b (x ∷ xs) (suc o) = x ∷ set_shut b xs o

-- The objects with the fields of one changed.
abbrev pub set_fields : List Value → List Object → ℕ → List Object
set_fields l [] o = []
set_fields l (x ∷ xs) zero = record { class = x.class; shut = x.shut; fields = l } ∷ xs
set_fields l (x ∷ xs) (suc o) = x ∷ set_fields l xs o

-- F(f), and F[f ↦ v]: the values stand in the order of the declared fields.
abbrev pub field_value : List Slot → List Value → ℕ → Option Value
field_value [] l f = none
field_value (d ∷ ds) [] f = none
field_value (d ∷ ds) (v ∷ l) f = cond (eqb d.name f) (some v) (field_value ds l f)

abbrev pub set_field : Value → List Slot → List Value → ℕ → List Value
set_field x [] l f = l
set_field x (d ∷ ds) [] f = []
set_field x (d ∷ ds) (v ∷ l) f = cond (eqb d.name f) (x ∷ l) (v ∷ set_field x ds l f)

-- f₁ ↦ null, .., fₙ ↦ null, but "The initial value of a field now follows its type, null or 0": that of a field by its type, and those of an object's fields.
abbrev pub initial_by : Bool → Value
initial_by true = int (pos 0)
initial_by false = nil

abbrev pub initial_of : Program → ℕ → Value
initial_of p t = initial_by (int_test p t)

abbrev pub initials : Program → List Slot → List Value
initials p [] = []
initials p (d ∷ ds) = initial_of p d.type ∷ initials p ds

abbrev pub one_if : Bool → ℕ
one_if true = 1
one_if false = 0

-- How many lock frames of an object a list has.
abbrev pub lock_frames : ℕ → List Frame → ℕ
lock_frames o [] = 0
lock_frames o (awaits n e ∷ fs) = lock_frames o fs
lock_frames o (casts n ∷ fs) = lock_frames o fs
lock_frames o (locks p ∷ fs) = one_if (eqb o p) + lock_frames o fs

-- Numbers of places in the four stores: the limits, or what is left of them.
pub record Places : Type 0 where
  pub objects : ℕ
  pub bindings : ℕ
  pub frames : ℕ
  pub threads : ℕ

-- "A block holds at most 256 objects .., 2,048 variable bindings .., 2,048 waiting frames in all, and a tree of joins with at most 32 threads."
abbrev pub limits : Places
limits = record { objects = OBJECTS; bindings = BINDINGS; frames = FRAMES; threads = THREADS }

-- What a choice comes to: no move is due; or "the chosen move needs more places than that store has left"; or these stores and this tree.
pub data Outcome : Type 0 where
  still : Outcome
  full : Store → Outcome
  moved : Stores → Tree → Outcome

-- "a variable gives its value"
abbrev pub give : Stores → List Frame → Option Binding → Outcome
give st fs none = still
give st fs (some b) = moved st (returning b.value fs)

-- The target of a read, a write, a call or a lock: "Targets are tested after the argument; null fails the thread." "Lock: null fails".
-- With an object the move goes on. A number is no target: "Int is no target of field, call or lock (13)".
abbrev pub on_value : Stores → (ℕ → Option Object → Outcome) → Value → Outcome
on_value st go nil = moved st failed
on_value st go (ref o) = go o (object st.objects o)
on_value st go (int z) = still

abbrev pub on_target : Stores → (ℕ → Option Object → Outcome) → Option Binding → Outcome
on_target st go none = still
on_target st go (some b) = on_value st go b.value

-- "kinds 3, 4, 5 and 7 descend into their first-run part and leave a frame". Here and below k, or zero and suc k, is how many places the store has left.
abbrev pub descend : Stores → List Frame → ℕ → Frame → Point → ℕ → Outcome
descend st fs e f a zero = full Frames
descend st fs e f a (suc k) = moved st (running a e (f ∷ fs))

-- "new makes an open object with null fields", those of type Int with 0.
abbrev pub make : Code → Stores → List Frame → ℕ → ℕ → Outcome
make s st fs c zero = full Objects
make s st fs c (suc k) =
    moved
    (record {
      objects = st.objects ++ (record { class = c; shut = false; fields = initials s.program (fields_of s.program c) } ∷ []);
      bindings = st.bindings;
    })
    (returning (ref (length st.objects)) fs)

-- "A fork becomes a join that keeps its frames, its last part and the bindings for it, which both asyncs also start with"
abbrev pub spawn : Stores → List Frame → ℕ → Point → Point → Point → ℕ → Outcome
spawn st fs e a b c zero = full Threads
spawn st fs e a b c (suc k) = moved st (join fs c e (running a e []) (running b e []))

abbrev pub with_shut : Bool → Stores → ℕ → Stores
with_shut b st o = record { objects = set_shut b st.objects o; bindings = st.bindings }

-- "held by this thread enters with no frame; shut and not held by this thread cannot move": the number counts the frames by which the thread holds the object.
abbrev pub enter : Stores → List Frame → Point → ℕ → ℕ → Outcome
enter st fs a e zero = still
enter st fs a e (suc n) = moved st (running a e fs)

-- "open shuts and leaves a lock frame"
abbrev pub shut_and_enter : Stores → List Frame → Point → ℕ → ℕ → ℕ → Outcome
shut_and_enter st fs a e o zero = full Frames
shut_and_enter st fs a e o (suc k) = moved (with_shut true st o) (running a e (locks o ∷ fs))

-- A lock on an object, if there is one. `above` has the frames of the joins whose leftmost thread this is: "A thread holds exactly the objects of the lock
-- frames it will resume".
abbrev pub lock_object : Stores → List Frame → List Frame → Point → ℕ → ℕ → ℕ → Option Object → Outcome
lock_object st above fs a e k o none = still
lock_object st above fs a e k o (some x) =
    elim x.shut [ true ↦ enter st fs a e (lock_frames o fs + lock_frames o above) | false ↦ shut_and_enter st fs a e o k ]

abbrev pub lock_target : Stores → List Frame → List Frame → Point → ℕ → ℕ → Option Binding → Outcome
lock_target st above fs a e k q = on_target st (lock_object st above fs a e k) q

-- "a waiting let adds one binding, its type the one inferred for the let's first part under the frame's bindings"
abbrev pub extend : Stores → List Frame → ℕ → Value → Point → ℕ → Answer → ℕ → Outcome
extend st fs x v b e (Err _) k = still
extend st fs x v b e (Ok t) zero = full Bindings
extend st fs x v b e (Ok t) (suc k) =
    moved
    (record { objects = st.objects; bindings = record { name = x; type = t; value = v; link = e } ∷ st.bindings })
    (running b (suc (length st.bindings)) fs)

-- "a read gives the field"
abbrev pub select_field : Stores → List Frame → Option Value → Outcome
select_field st fs none = still
select_field st fs (some v) = moved st (returning v fs)

abbrev pub select_object : Code → Stores → List Frame → ℕ → Option Object → Outcome
select_object s st fs f none = still
select_object s st fs f (some y) = select_field st fs (field_value (fields_of s.program y.class) y.fields f)

abbrev pub select_target : Code → Stores → List Frame → ℕ → Option Binding → Outcome
select_target s st fs f q = on_target st (λ o. select_object s st fs f) q

-- "a waiting write stores and gives null"
abbrev pub update_object : Code → Stores → List Frame → ℕ → Value → ℕ → Option Object → Outcome
update_object s st fs f v o none = still
update_object s st fs f v o (some y) =
    moved (record { objects = set_fields (set_field v (fields_of s.program y.class) y.fields f) st.objects o; bindings = st.bindings })
    (returning nil fs)

abbrev pub update_target : Code → Stores → List Frame → ℕ → Value → Option Binding → Outcome
update_target s st fs f v q = on_target st (update_object s st fs f v) q

-- "a waiting call adds two, this with the object's class and the parameter with its declared type, and enters the body with no others"
abbrev pub call_bindings : ℕ → ℕ → ℕ → Value → List Binding → List Binding
call_bindings c o t v bs =
    record { name = 1; type = t; value = v; link = suc (length bs) } ∷ record { name = 0; type = c; value = ref o; link = 0 } ∷ bs

-- "as bindings with one place left are for a call"
abbrev pub call_method : Stores → List Frame → Value → ℕ → ℕ → Option Method → ℕ → Outcome
call_method st fs v o c none k = still
call_method st fs v o c (some d) zero = full Bindings
call_method st fs v o c (some d) (suc zero) = full Bindings
call_method st fs v o c (some d) (suc (suc k)) =
    moved
    (record { objects = st.objects; bindings = call_bindings c o d.signature.param v st.bindings })
    (running (point_of d.body) (suc (suc (length st.bindings))) fs)

abbrev pub call_object : Code → Stores → List Frame → ℕ → Value → ℕ → ℕ → Option Object → Outcome
call_object s st fs m v k o none = still
call_object s st fs m v k o (some y) = call_method st fs v o y.class (defined_in s.program y.class m) k

abbrev pub call_target : Code → Stores → List Frame → ℕ → Value → ℕ → Option Binding → Outcome
call_target s st fs m v k q = on_target st (call_object s st fs m v k) q

-- "kind 11 adds variables a and b .. in one step": the sum, if it is in the range. "A sum outside the range fails the thread as null does."
abbrev pub give_sum : Stores → List Frame → ℤ → Bool → Outcome
give_sum st fs z true = moved st (returning (int z) fs)
give_sum st fs z false = moved st failed

abbrev pub add_values : Stores → List Frame → Value → Value → Outcome
add_values st fs nil w = still
add_values st fs (ref o) w = still
add_values st fs (int x) nil = still
add_values st fs (int x) (ref o) = still
add_values st fs (int x) (int y) = give_sum st fs (x +ℤ y) (range_test (x +ℤ y))

abbrev pub add_bound : Stores → List Frame → Option Binding → Option Binding → Outcome
add_bound st fs none q = still
add_bound st fs (some b) none = still
add_bound st fs (some b) (some c) = add_values st fs b.value c.value

-- A thread at the node n, whose view is the last argument.
abbrev pub run_node : Code → Places → Stores → List Frame → List Frame → ℕ → Point → Node → Outcome
run_node s room st above fs e n n_null = moved st (returning nil fs)
run_node s room st above fs e n (n_var x) = give st fs (find (scope st.bindings e) x)
run_node s room st above fs e n (n_select x f) = select_target s st fs f (find (scope st.bindings e) x)
run_node s room st above fs e n (n_update x f a) = descend st fs e (awaits n e) a room.frames
run_node s room st above fs e n (n_call x m a) = descend st fs e (awaits n e) a room.frames
run_node s room st above fs e n (n_bind x a b) = descend st fs e (awaits n e) a room.frames
run_node s room st above fs e n (n_new c) = make s st fs c room.objects
run_node s room st above fs e n (n_cast t a) = descend st fs e (casts n) a room.frames
run_node s room st above fs e n (n_fork a b c) = spawn st fs e a b c room.threads
run_node s room st above fs e n (n_lock x a) = lock_target st above fs a e room.frames (find (scope st.bindings e) x)
run_node s room st above fs e n (n_constant z) = moved st (returning (int z) fs)
run_node s room st above fs e n (n_add x y) = add_bound st fs (find (scope st.bindings e) x) (find (scope st.bindings e) y)

-- A value at a node that waits in an environment: a write, a call or a let; no other node does.
abbrev pub wake : Code → Places → Stores → Value → List Frame → ℕ → Node → Outcome
wake s room st v fs e n_null = still
wake s room st v fs e (n_var x) = still
wake s room st v fs e (n_select x f) = still
wake s room st v fs e (n_update x f a) = update_target s st fs f v (find (scope st.bindings e) x)
wake s room st v fs e (n_call x m a) = call_target s st fs m v room.bindings (find (scope st.bindings e) x)
wake s room st v fs e (n_bind x a b) = extend st fs x v b e (inferred s.program (context st.bindings e) (s.expr a)) room.bindings
wake s room st v fs e (n_new c) = still
wake s room st v fs e (n_cast t a) = still
wake s room st v fs e (n_fork a b c) = still
wake s room st v fs e (n_lock x a) = still
wake s room st v fs e (n_constant z) = still
wake s room st v fs e (n_add x y) = still

-- A thread with a value. "A finished thread has a value and no frame", "a waiting cast vanishes", "A value at a lock frame opens the object."
abbrev pub resume : Code → Places → Stores → Value → List Frame → Outcome
resume s room st v [] = still
resume s room st v (awaits n e ∷ fs) = wake s room st v fs e (s.view n)
resume s room st v (casts n ∷ fs) = moved st (returning v fs)
resume s room st v (locks o ∷ fs) = moved (with_shut false st o) (returning v fs)

-- How a side of a join, or the root, stands.
pub data Phase : Type 0 where
  finished broken busy : Phase

abbrev pub phase : Tree → Phase
phase (running a e fs) = busy
phase (returning v []) = finished
phase (returning v (f ∷ fs)) = busy
phase failed = broken
phase (join fs a e l r) = busy

-- "A join with both sides finished goes on as the left thread, at the last part and with the frames kept; with a failed side it becomes failed and all beneath
-- is dropped."
abbrev pub fold : Stores → List Frame → Point → ℕ → Phase → Phase → Outcome
fold st fs a e finished finished = moved st (running a e fs)
fold st fs a e finished broken = moved st failed
fold st fs a e finished busy = still
fold st fs a e broken q = moved st failed
fold st fs a e busy finished = still
fold st fs a e busy broken = moved st failed
fold st fs a e busy busy = still

-- A place in a tree.
pub data Path : Type 0 where
  here : Path
  left right : Path → Path

abbrev pub in_left_tree : List Frame → Point → ℕ → Tree → Outcome → Outcome
in_left_tree fs a e r still = still
in_left_tree fs a e r (full k) = full k
in_left_tree fs a e r (moved st l) = moved st (join fs a e l r)

abbrev pub in_right_tree : List Frame → Point → ℕ → Tree → Outcome → Outcome
in_right_tree fs a e l still = still
in_right_tree fs a e l (full k) = full k
in_right_tree fs a e l (moved st r) = moved st (join fs a e l r)

-- What the choice of a place in a tree comes to, with these numbers of places left: "the left thread keeps the locks, the right has none".
abbrev pub move_at : Code → Places → Stores → List Frame → Tree → Path → Outcome
move_at s room st above (running a e fs) here = run_node s room st above fs e a (s.view a)
move_at s room st above (running a e fs) (left p) = still
move_at s room st above (running a e fs) (right p) = still
move_at s room st above (returning v fs) here = resume s room st v fs
move_at s room st above (returning v fs) (left p) = still
move_at s room st above (returning v fs) (right p) = still
move_at s room st above failed here = still
move_at s room st above failed (left p) = still
move_at s room st above failed (right p) = still
move_at s room st above (join fs a e l r) here = fold st fs a e (phase l) (phase r)
move_at s room st above (join fs a e l r) (left p) = in_left_tree fs a e r (move_at s room st (fs ++ above) l p)
move_at s room st above (join fs a e l r) (right p) = in_right_tree fs a e l (move_at s room st [] r p)

-- How many frames and threads a tree has in all, and what is left of the limits.
abbrev pub frame_count : Tree → ℕ
frame_count (running a e fs) = length fs
frame_count (returning v fs) = length fs
frame_count failed = 0
frame_count (join fs a e l r) = length fs + frame_count l + frame_count r

abbrev pub thread_count : Tree → ℕ
thread_count (running a e fs) = 1
thread_count (returning v fs) = 1
thread_count failed = 1
thread_count (join fs a e l r) = thread_count l + thread_count r

abbrev pub spare : Places → Stores → Tree → Places
spare lim st t =
    record {
      objects = lim.objects - length st.objects;
      bindings = lim.bindings - length st.bindings;
      frames = lim.frames - frame_count t;
      threads = lim.threads - thread_count t;
    }

-- The move at a place of a configuration.
unfoldable pub move : Code → Places → Config → Path → Outcome
move s lim c p = move_at s (spare lim c.stores c.tree) c.stores [] c.tree p

-- "A choice is a byte naming a tree position, preorder, root 0, left before right."
abbrev pub size : Tree → ℕ
size (running a e fs) = 1
size (returning v fs) = 1
size failed = 1
size (join fs a e l r) = suc (size l + size r)

abbrev pub to_left : Option Path → Option Path
to_left none = none
to_left (some p) = some (left p)

abbrev pub to_right : Option Path → Option Path
to_right none = none
to_right (some p) = some (right p)

abbrev pub locate : Tree → ℕ → Option Path
locate (running a e fs) zero = some here
locate (running a e fs) (suc n) = none
locate (returning v fs) zero = some here
locate (returning v fs) (suc n) = none
locate failed zero = some here
locate failed (suc n) = none
locate (join fs a e l r) zero = some here
locate (join fs a e l r) (suc n) = cond (ltb n (size l)) (to_left (locate l n)) (to_right (locate r (n - size l)))

abbrev pub chosen : Code → Places → Config → Option Path → Outcome
chosen s lim c none = still
chosen s lim c (some p) = move s lim c p

-- What a choice comes to.
unfoldable pub choice : Code → Places → Config → ℕ → Outcome
choice s lim c n = chosen s lim c (locate c.tree n)

-- "each tree position that can move .. a move due that a full store would stop counts as able"
abbrev pub able : Outcome → Bool
able still = false
able (full k) = true
able (moved st t) = true

abbrev pub can_move : Code → Places → Config → ℕ → Bool
can_move s lim c n = able (choice s lim c n)

-- "the initial block ..: no object, no binding, and one thread at node 0 without a frame"
abbrev pub initial : Config
initial = record { stores = record { objects = []; bindings = [] }; tree = running 0 0 [] }

-- The part of a tree at a place.
abbrev pub part : Tree → Path → Option Tree
part t here = some t
part (running a e fs) (left p) = none
part (running a e fs) (right p) = none
part (returning v fs) (left p) = none
part (returning v fs) (right p) = none
part failed (left p) = none
part failed (right p) = none
part (join fs a e l r) (left p) = part l p
part (join fs a e l r) (right p) = part r p

-- `At above t p handed u`: at the place p of the tree t, itself handed the frames above, stands u, handed these: "a join's are resumed by its leftmost thread".
pub data At : List Frame → Tree → Path → List Frame → Tree → Type 0 where
  at_root : {above : List Frame} {t : Tree} → At above t here above t
  at_left : {above fs handed : List Frame} {a : Point} {e : ℕ} {l r u : Tree} {p : Path} → At (fs ++ above) l p handed u
      → At above (join fs a e l r) (left p) handed u
  at_right : {above fs handed : List Frame} {a : Point} {e : ℕ} {l r u : Tree} {p : Path} → At [] r p handed u → At above (join fs a e l r) (right p) handed u

-- The objects of lock frames; `lock_frames` counts one of them (`frames_held`).
abbrev pub held : List Frame → List ℕ
held [] = []
held (awaits n e ∷ fs) = held fs
held (casts n ∷ fs) = held fs
held (locks o ∷ fs) = o ∷ held fs
