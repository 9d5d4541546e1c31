-- Which positions can move, by what stands there.
use mathlib.Core.Path.{◌≡◌, refl, sym, ap, ◌∙◌}
use mathlib.Core.Bool.{Bool, true, false, cond, not}
use mathlib.Core.List.{List, [], ◌∷◌}
use mathlib.Core.Logic.{◌≢◌, ⊎_elim}
use mathlib.Core.Option.{Option, none, some, none-ne-some}
use Prim.Native.Nat.{ℕ, zero, suc, ◌+◌, ◌<◌, ◌≤◌}
use native.Mathlib.Omega.{arith}
use lib.Dec.{eqb}
use lib.ListN.{length}
use borrow.Author.Tests.{ne_eqb}
use Rattle.limits.specs.Limits.{BLOCK, POSITIONS}
use Rattle.script.specs.declared.Section.TheVariants.{Nodes as nodes}
use Rattle.script.specs.Section.{count_of, node_word}
use Rattle.script.specs.Syntax.{Point, Node, n_null, n_var, n_select, n_update, n_call, n_bind, n_new, n_cast, n_fork, n_lock, n_constant, n_add}
use Rattle.script.specs.declared.Kind.{Kind}
use Rattle.script.specs.declared.Kind.TheVariants.{Null as null_kind, Variable as var_kind, Select as select_kind, Update as update_kind, Call as call_kind, Let as bind_kind}
use Rattle.script.specs.declared.Kind.TheVariants.{New as new_kind, Cast as cast_kind, Fork as fork_kind, Lock as lock_kind, Constant as constant_kind}
use Rattle.script.specs.declared.Kind.TheVariants.{Sum as add_kind, Unknown as unknown_kind}
use Rattle.script.specs.Reading.{kind_of, node_of, view_at}
use Rattle.script.proofs.Lists.{lt_or_le}
use Rattle.script.specs.Statements.{WithinLayout}
use Rattle.machine.specs.declared.Value.{Value}
use Rattle.machine.specs.declared.Want.{Want}
use Rattle.machine.specs.declared.Frame.{Frame}
use Rattle.machine.specs.declared.Ending.TheVariants.{Finished as finishes, Failed as fails, Deadlocked as deadlocks}
use Rattle.machine.specs.Config as machine
use Rattle.machine.specs.Config.{Code, code_of, Stores, running, returning, failed, join, Config}
use Rattle.machine.specs.Machine.{scope, find, one_if, Places, limits, spare, Outcome, still, full, moved, shut_and_enter, lock_target, phase, fold, move_at, move, Path, here, size, locate, choice, able, can_move, part, At, at_root, at_left, at_right}
use Rattle.machine.specs.WellFormed.{TreeOk, running_ok}
use Rattle.machine.specs.Ends.{Waits, waits, ending}
use Rattle.machine.specs.Runs.{any_able, look}
use Rattle.machine.specs.CannotMove.{StaysHere, stays_waiting, stays_finished, Stays, absent, cannot_move}
use Rattle.soundness.proofs.Places.{part_ok}
use Rattle.soundness.proofs.CannotMove.{still_exactly}
use Rattle.block.specs.declared.Area.TheVariants.{Positions}
use Rattle.block.specs.Layout.{counted}
use Rattle.block.specs.Block.{waiting}
use Rattle.representation.specs.Preorder.{frames_above, in_tree}
use Rattle.representation.proofs.Preorder.{named_below, part_moves}
use Rattle.tree.specs.declared.Cell.{Cell}
use Rattle.tree.specs.declared.Cell.TheVariants.{Failed, Running, Returning, Join}
use Rattle.tree.specs.declared.Entry.{Entry}
use Rattle.tree.specs.declared.Phase.{Phase}
use Rattle.tree.specs.declared.Phase.TheVariants.{Finished, Broken, Busy}
use Rattle.tree.specs.Phases.{phase_in, PhaseIs}
use Rattle.environments.specs.Chains.{Chain}
use Rattle.state.specs.Represents.{Rest, StateAt, SomeState}
use Rattle.state.specs.Positions.{entry_at}
use Rattle.state.proofs.Seeing.{seen_length, seen_few, seen_entry, seen_waiting, some_state}
use Rattle.state.proofs.Glue.{around, seen_there, positions_many}
use Rattle.machine.specs.declared.Ending.{Ending}
use Rattle.std.specs.declared.option.Option.{Option as CodeOption}
use Rattle.std.specs.declared.option.Option.TheVariants.{Some, None}
use Rattle.locking.specs.declared.Access.{Access as LockAccess}
use Rattle.locking.specs.declared.Access.TheVariants.{Stays as StaysOut, Null as NullThere, Open as OpenThere, Held as HeldHere}
use Rattle.moves.specs.Performs.{AtPosition}
use Rattle.locking.specs.Entered.{entered}
use Rattle.enabled.specs.Looks.{Standing, look_of}
use Rattle.moves.proofs.Positions.{same_part, ChosenPart, chosen_at, root_told, here_told}
use Rattle.moves.proofs.Ready.{seen_chain}

-- a lock, by what the thread finds there; one that is open can be entered, or a full store stops it
pub lock_stays : (st : Stores) (fs : List Frame) (a env k : ℕ) {due : Outcome} {r : LockAccess} → due ≡ entered st fs a env k r → r ≡ StaysOut → false ≡ able due
lock_stays st fs a env k e h = sym (ap able (e ∙ ap (entered st fs a env k) h))

open_able : (st : Stores) (fs : List Frame) (a env o k : ℕ) → able (shut_and_enter st fs a env o k) ≡ true
open_able st fs a env o zero = refl
open_able st fs a env o (suc k) = refl

not_stays : (st : Stores) (fs : List Frame) (a env k : ℕ) (r : LockAccess) → r ≢ StaysOut → true ≡ able (entered st fs a env k r)
not_stays st fs a env k StaysOut h = absurd (h refl)
not_stays st fs a env k NullThere h = refl
not_stays st fs a env k (OpenThere o) h = sym (open_able st fs a env o k)
not_stays st fs a env k HeldHere h = refl

pub lock_able : (st : Stores) (fs : List Frame) (a env k : ℕ) {due : Outcome} {r : LockAccess} → due ≡ entered st fs a env k r → r ≢ StaysOut → true ≡ able due
lock_able st fs a env k {r = r} e h = rw e (not_stays st fs a env k r h)

-- a node of another kind is no lock
abbrev is_lock : Node → Bool
is_lock n_null = false
is_lock (n_var x) = false
is_lock (n_select x f) = false
is_lock (n_update x f a) = false
is_lock (n_call x m a) = false
is_lock (n_bind x a b) = false
is_lock (n_new c) = false
is_lock (n_cast t a) = false
is_lock (n_fork a b c) = false
is_lock (n_lock x a) = true
is_lock (n_constant z) = false
is_lock (n_add x y) = false

no_lock : (k : Kind) (a b c : ℕ) → k ≢ lock_kind → is_lock (node_of k a b c) ≡ false
no_lock null_kind a b c h = refl
no_lock var_kind a b c h = refl
no_lock select_kind a b c h = refl
no_lock update_kind a b c h = refl
no_lock call_kind a b c h = refl
no_lock bind_kind a b c h = refl
no_lock new_kind a b c h = refl
no_lock cast_kind a b c h = refl
no_lock fork_kind a b c h = refl
no_lock lock_kind a b c h = absurd (h refl)
no_lock constant_kind a b c h = refl
no_lock add_kind a b c h = refl
no_lock unknown_kind a b c h = refl

other_kind : (s : List ℕ) (a : ℕ) (k : Kind) → k ≡ kind_of (node_word s a 0) → k ≢ lock_kind → is_lock (view_at s a) ≡ false
unfolding view_at
other_kind s a k e h = rw (sym e) (no_lock k (node_word s a 1) (node_word s a 2) (node_word s a 3) h)

lock_node : (s : List ℕ) (a : ℕ) (k : Kind) → k ≡ kind_of (node_word s a 0) → k ≡ lock_kind → view_at s a ≡ n_lock (node_word s a 1) (node_word s a 2)
unfolding view_at
lock_node s a k e h = rw (sym e ∙ h)

-- the part at a place of a tree that stays, stays
module _ (s : Code) (st : Stores) where
  stays_part : {above handed : List Frame} {t v u : machine.Tree} {p : Path} → At above t p handed v → StaysHere s st handed v → part t p ≡ some u → StaysHere s st (frames_above above t p) u
  stays_part at_root x h = rw (same_part h) at x
  stays_part (at_left k) x h = stays_part k x h
  stays_part (at_right k) x h = stays_part k x h

  waits_lock : {above fs : List Frame} {a : Point} {e o : ℕ} → Waits s st above o (running a e fs) → is_lock (s.view a) ≡ true
  waits_lock (waits i k z q) = ap is_lock i

  stays_lock : {above fs : List Frame} {a : Point} {e : ℕ} → StaysHere s st above (running a e fs) → is_lock (s.view a) ≡ true
  stays_lock (stays_waiting w) = waits_lock w

  stays_empty : {above fs : List Frame} {v : Value} → StaysHere s st above (returning v fs) → fs ≡ []
  stays_empty stays_finished = refl

  running_points : {w : Want} {a : Point} {e : ℕ} {fs : List Frame} → TreeOk s st w (running a e fs) → (e ≤ length st.bindings) × (a < s.size)
  running_points (running_ok le g r) = (le, g.node)

-- what the block is seen from its root: its length, and at most as many positions as places
root_here : (t : machine.Tree) → locate t 0 ≡ some here
root_here (running a e fs) = refl
root_here (returning v fs) = refl
root_here failed = refl
root_here (join fs a e l r) = refl

module _ {s b : List ℕ} (x : Standing s b) where
  root_seen : StateAt b 0 (around x.config 0 x.config.tree) x.config.stores x.config.tree
  root_seen = seen_there x.config 0 here x.config.tree (root_here x.config.tree) refl x.represents

  pub standing_length : length b ≡ BLOCK
  standing_length = seen_length root_seen

  pub standing_few : counted b Positions ≤ POSITIONS
  standing_few = seen_few root_seen Positions

-- a position can move if the part there can
able_whole : (t : machine.Tree) (p : Path) (o : Outcome) → able (in_tree t p o) ≡ able o
able_whole t p still = refl
able_whole t p (full k) = refl
able_whole t p (moved st w) = refl

able_unless : (o : Outcome) → (o ≡ still → ⊥) → true ≡ able o
able_unless still h = absurd (h refl)
able_unless (full k) h = refl
able_unless (moved st w) h = refl

module _ {s b : List ℕ} (x : Standing s b) where
  module _ {n : ℕ} {p : Path} {u : machine.Tree} {rest : Rest} (h : AtPosition b n x.config p u rest) where
    abbrev above : List Frame
    above = frames_above [] x.config.tree p

    abbrev room : Places
    room = spare limits x.config.stores x.config.tree

    pub by_part : able (move_at (code_of s) room x.config.stores above u here) ≡ can_move (code_of s) limits x.config n
    unfolding choice move
    by_part =
        let o = move_at (code_of s) room x.config.stores above u here in
        rw h.named (sym (ap able (part_moves (code_of s) room x.config.stores [] x.config.tree p u h.there) ∙ able_whole x.config.tree p o))

    stays_there : Stays (code_of s) x.config n → StaysHere (code_of s) x.config.stores above u
    stays_there (absent e) = absurd (none-ne-some _ (sym e ∙ h.named))
    stays_there (cannot_move {p = q} e i y) =
        let j : some q ≡ some p = sym e ∙ h.named in
        let k : q ≡ p = cc in
        stays_part (code_of s) x.config.stores (rw k at i) y h.there

    moves_unless : (StaysHere (code_of s) x.config.stores above u → ⊥) → true ≡ can_move (code_of s) limits x.config n
    moves_unless f = able_unless (choice (code_of s) limits x.config n) (λ e. f (stays_there ((still_exactly x.accepted limits x.formed n).0 e)))

  module _ {n a env : ℕ} {p : Path} {rest : Rest} {fs : List Frame} (h : AtPosition b n x.config p (running a env fs) rest) (kind : Kind) (e : kind ≡ kind_of (node_word s a 0)) where
    -- a thread at a lock can move if the lock can, and at any other node it can
    pub other_moves : kind ≢ lock_kind → true ≡ can_move (code_of s) limits x.config n
    other_moves k = moves_unless h (λ y. let z : ◌≡◌ {A = ℕ} 0 1 = ap one_if (sym (other_kind s a kind e k) ∙ stays_lock (code_of s) x.config.stores y) in omega arith)

    pub lock_moves : kind ≡ lock_kind → {r : Bool} (y : ℕ) → y ≡ node_word s a 1
        → ((d k : ℕ) → r ≡ able (lock_target x.config.stores (above h) fs d env k (find (scope x.config.stores.bindings env) y))) → r ≡ can_move (code_of s) limits x.config n
    lock_moves k y m g = rw (← by_part h, lock_node s a kind e k, ← m) (g (node_word s a 2) (room h).frames)

  module _ (n : ℕ) where
    pub absent_not : counted b Positions ≤ n → false ≡ can_move (code_of s) limits x.config n
    unfolding choice
    absent_not l = go (locate x.config.tree n) refl
      where
        go : (q : Option Path) → locate x.config.tree n ≡ q → false ≡ can_move (code_of s) limits x.config n
        go none e = rw e
        go (some p) e = absurd (omega (arith, (named_below x.config.tree n).0 (p, e), positions_many x.represents))

    module _ (l : n < counted b Positions) where
      abbrev cell : Cell
      cell = (entry_at b n).cell

      abbrev stood : ChosenPart b x.config n
      stood = chosen_at n x.represents l

      pub failed_not : cell ≡ Failed → false ≡ can_move (code_of s) limits x.config n
      failed_not e = ap (λ (u : machine.Tree). able (move_at (code_of s) (room stood.is) x.config.stores (above stood.is) u here)) (sym (root_told stood e)) ∙ by_part stood.is

      pub running_there : {a env : ℕ} → cell ≡ Running a env → AtPosition b n x.config stood.place (running a env (waiting stood.tree)) (around x.config n stood.tree)
      running_there e = here_told stood (root_told stood e)

      -- what the look at a thread at a node asks, and that at a join
      pub running_asks : {a env : ℕ} → WithinLayout s → cell ≡ Running a env → SomeState b n × Chain b env × (a < count_of s nodes)
      running_asks {a} {env} w e =
          let h = running_there e in
          let st = x.config.stores in
          let ok = running_points (code_of s) st (part_ok x.config.tree stood.place x.formed.formed.tree h.there).1 in
          (some_state h.seen, seen_chain h.seen w x.formed.formed.stores.bindings env ok.0, ok.1)

      pub join_asks : SomeState b n
      join_asks = some_state stood.is.seen

      pub returning_moves : {v : Value} → cell ≡ Returning v → not (eqb (entry_at b n).frames 0) ≡ can_move (code_of s) limits x.config n
      returning_moves {v} e =
          let i : AtPosition b n x.config stood.place (returning v (waiting stood.tree)) (around x.config n stood.tree) =
          here_told stood (root_told stood e)
          in
          rw (seen_waiting stood.is.seen) (go (waiting stood.tree) i)
        where
          go : (fs : List Frame) → AtPosition b n x.config stood.place (returning v fs) (around x.config n stood.tree) → not (eqb (length fs) 0) ≡ can_move (code_of s) limits x.config n
          go [] h = by_part h
          go (f ∷ fs) h =
              rw (ne_eqb (suc (length fs)) 0 (λ z. omega arith))
              (moves_unless h (λ y. let z : ◌≡◌ {A = ℕ} (suc (length fs)) 0 = ap length (stays_empty (code_of s) x.config.stores y) in omega arith))

      pub join_moves : {r : Bool} {a e : ℕ} → cell ≡ Join a e
          → ((fs : List Frame) (left right : machine.Tree) → StateAt b n (around x.config n stood.tree) x.config.stores (join fs a e left right) → r ≡ able (fold x.config.stores fs a e (phase left) (phase right)))
          → r ≡ can_move (code_of s) limits x.config n
      join_moves {a = a} {e = env} e g =
          let j = root_told stood e in
          let i : AtPosition b n x.config stood.place (join (waiting stood.tree) a env j.left j.right) (around x.config n stood.tree) =
          here_told stood j.is
          in
          g (waiting stood.tree) j.left j.right i.seen ∙ by_part i

-- the look at all positions: none of the first i can move
some_able : (s : Code) (c : Config) (i n : ℕ) → i < n → can_move s limits c i ≡ true → any_able s limits c n ≡ true
some_able s c i zero l h = absurd (omega arith)
some_able s c i (suc n) l h =
    ⊎_elim
    (λ (k : i < n). rw (some_able s c i n k h) (always (can_move s limits c n)))
    (λ (k : n ≤ i). let e : n ≡ i = omega arith in rw (e, h))
    (lt_or_le i n)
  where
    always : (q : Bool) → cond q true true ≡ true
    always true = refl
    always false = refl

pub record NoneAble (s b : List ℕ) (i : ℕ) : Type 0 where
  pub within : i ≤ counted b Positions
  pub none : (x : Standing s b) → any_able (code_of s) limits x.config i ≡ false

module _ {s b : List ℕ} where
  pub none_first : NoneAble s b 0
  none_first = record { within = omega arith; none = λ x. refl }

  module _ {i : ℕ} (before : NoneAble s b i) where
    pub none_next : {r : Bool} → i < counted b Positions → ((x : Standing s b) → r ≡ can_move (code_of s) limits x.config i) → r ≡ false → NoneAble s b (i + 1)
    none_next l told e =
        let one : i + 1 ≡ suc i = omega arith in
        record { within = omega arith; none = λ x. rw (one, ← told x, e) (before.none x) }

    pub none_all : counted b Positions ≤ i → (x : Standing s b) → false ≡ any_able (code_of s) limits x.config (size x.config.tree)
    none_all l x = let e : size x.config.tree ≡ i = omega (arith, before.within, positions_many x.represents) in rw e (sym (before.none x))

  pub one_able : {i : ℕ} {r : Bool} → i < counted b Positions → ((x : Standing s b) → r ≡ can_move (code_of s) limits x.config i) → r ≡ true
      → (x : Standing s b) → true ≡ any_able (code_of s) limits x.config (size x.config.tree)
  one_able {i} l told e x = sym (some_able (code_of s) x.config i (size x.config.tree) (omega (arith, positions_many x.represents)) (sym (told x) ∙ e))

  -- a position that can move is there
  pub first_able : (n : ℕ) {r : Bool} → ((x : Standing s b) → r ≡ can_move (code_of s) limits x.config n) → r ≡ true
      → (x : Standing s b) → true ≡ any_able (code_of s) limits x.config (size x.config.tree)
  first_able n told e x =
      ⊎_elim
      (λ (l : n < counted b Positions). one_able l told e x)
      (λ (l : counted b Positions ≤ n). let z : ◌≡◌ {A = ℕ} 0 1 = ap one_if (absent_not x n l ∙ sym (told x) ∙ e) in absurd (omega arith))
      (lt_or_le n (counted b Positions))

-- the look
module _ {s b : List ℕ} (x : Standing s b) where
  abbrev any_one : Bool
  any_one = any_able (code_of s) limits x.config (size x.config.tree)

  abbrev said : CodeOption Ending
  said = look_of (look (code_of s) limits x.config)

  module _ (q : Phase) {y : Entry} (is : y ≡ entry_at b 0) (told : PhaseIs y q) where
    root_phase : {k : Phase} → q ≡ k → phase_in k ≡ phase x.config.tree
    root_phase e = ap phase_in (sym e) ∙ told x.config.tree (is ∙ seen_entry (root_seen x))

    looks : {k : Phase} {r : Bool} → q ≡ k → r ≡ any_one → look_of (ending (phase_in k) r) ≡ said
    unfolding look
    looks e g = rw (root_phase e, g)

    pub looks_finished : q ≡ Finished → Some finishes ≡ said
    looks_finished e = looks e refl

    pub looks_failed : q ≡ Broken → Some fails ≡ said
    looks_failed e = looks e refl

    pub looks_on : {r : Bool} → q ≡ Busy → r ≡ any_one → r ≡ true → None ≡ said
    looks_on e g h = looks e (sym h ∙ g)

    pub looks_deadlocked : {r : Bool} → q ≡ Busy → r ≡ any_one → r ≡ false → Some deadlocks ≡ said
    looks_deadlocked e g h = looks e (sym h ∙ g)
