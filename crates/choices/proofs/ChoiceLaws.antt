-- A choice: the place that it names, the part there, and what its move comes to in the whole.
use mathlib.Core.Path.{◌≡◌, refl, sym, ap, subst, ◌∙◌}
use mathlib.Core.List.{List, []}
use mathlib.Core.Option.{Option, none, some}
use Prim.Native.Nat.{ℕ, ◌<◌, ◌≤◌}
use native.Mathlib.Omega.{arith}
use lib.ListN.{length}
use Rattle.limits.specs.Limits.{BLOCK, POSITIONS}
use Rattle.script.specs.declared.Section.TheVariants.{Nodes as nodes}
use Rattle.script.specs.Section.{count_of}
use Rattle.script.specs.Statements.{WithinLayout}
use Rattle.machine.specs.declared.Value.{Value}
use Rattle.machine.specs.declared.Frame.{Frame}
use Rattle.machine.specs.declared.Want.{Want}
use Rattle.machine.specs.Config as machine
use Rattle.machine.specs.Config.{code_of, Code, running, returning, join, Config}
use Rattle.machine.specs.Machine.{limits, spare, Outcome, run_node, resume, phase, fold, Path, here, move_at, move, locate, choice}
use Rattle.machine.specs.WellFormed.{TreeOk, running_ok}
use Rattle.block.specs.declared.Area.TheVariants.{Positions}
use Rattle.block.specs.Layout.{counted}
use Rattle.block.specs.Block.{waiting}
use Rattle.block.proofs.Words.{encode_length}
use Rattle.representation.specs.Preorder.{frames_above, in_tree}
use Rattle.representation.proofs.Preorder.{named_below, part_moves}
use Rattle.tree.specs.declared.Cell.{Cell}
use Rattle.tree.specs.declared.Cell.TheVariants.{Failed, Running, Returning, Join}
use Rattle.tree.specs.declared.Entry.{Entry}
use Rattle.environments.specs.Chains.{Chain}
use Rattle.state.specs.Represents.{Represents, Rest, StateAt, SomeState}
use Rattle.state.specs.Positions.{entry_at}
use Rattle.state.proofs.Seeing.{some_state, seen_room}
use Rattle.state.proofs.Glue.{around, seen_whole, positions_many}
use Rattle.moves.specs.declared.Effect.{Effect}
use Rattle.moves.specs.declared.Effect.TheVariants.{Still}
use Rattle.moves.specs.Performs.{Performs, performs_still, performs_full, performs_moved, AtPosition, Resumes, WordBound}
use Rattle.choices.specs.PerformsChoice.{PerformsChoice, choice_still, choice_full, choice_moved, FormedBlock}
use Rattle.soundness.proofs.Places.{part_ok}
use Rattle.moves.proofs.Positions.{ChosenPart, chosen_at, root_told, here_told}
use Rattle.moves.proofs.Ready.{seen_chain, seen_words}

module _ {b : List ℕ} {c : Config} {n : ℕ} (t : ChosenPart b c n) where
  -- what the part's move comes to in the whole
  whole : {after : List ℕ} {r : Effect} {o : Outcome} → Performs b n (around c n t.tree) o after r → PerformsChoice b (in_tree c.tree t.place o) after r
  whole performs_still = choice_still
  whole performs_full = choice_full
  whole (performs_moved seen) = choice_moved (seen_whole c n t.place t.tree t.is.named t.is.there seen)

  come : {after : List ℕ} {r : Effect} (s : Code) → Performs b n (around c n t.tree) (move_at s (spare limits c.stores c.tree) c.stores (frames_above [] c.tree t.place) t.tree here) after r
      → PerformsChoice b (choice s limits c n) after r
  unfolding choice move
  come s came = rw (t.is.named, part_moves s (spare limits c.stores c.tree) c.stores [] c.tree t.place t.tree t.is.there) (whole came)

  pub choice_failed : (s : Code) → (entry_at b n).cell ≡ Failed → PerformsChoice b (choice s limits c n) b Still
  choice_failed s e = come s (rw (root_told t e) performs_still)

  pub choice_running : {after : List ℕ} {r : Effect} (s : Code) (a env : ℕ) → (entry_at b n).cell ≡ Running a env
      → ((p : Path) (x : Rest) (fs : List Frame) → AtPosition b n c p (running a env fs) x
      → Performs b n x (run_node s (spare limits c.stores c.tree) c.stores (frames_above [] c.tree p) fs env a (s.view a)) after r)
      → PerformsChoice b (choice s limits c n) after r
  choice_running {after} {r} s a env e on =
      let k = root_told t e in
      come s
      (subst (λ (u : machine.Tree). Performs b n (around c n t.tree) (move_at s (spare limits c.stores c.tree) c.stores (frames_above [] c.tree t.place) u here) after r) (sym k)
      (on t.place (around c n t.tree) (waiting t.tree) (here_told t k)))

  pub choice_returning : {after : List ℕ} {r : Effect} (s : Code) (v : Value) → (entry_at b n).cell ≡ Returning v
      → ((p : Path) (x : Rest) (fs : List Frame) → AtPosition b n c p (returning v fs) x
      → Performs b n x (resume s (spare limits c.stores c.tree) c.stores v fs) after r)
      → PerformsChoice b (choice s limits c n) after r
  choice_returning {after} {r} s v e on =
      let k = root_told t e in
      come s
      (subst (λ (u : machine.Tree). Performs b n (around c n t.tree) (move_at s (spare limits c.stores c.tree) c.stores (frames_above [] c.tree t.place) u here) after r) (sym k)
      (on t.place (around c n t.tree) (waiting t.tree) (here_told t k)))

  pub choice_join : {after : List ℕ} {r : Effect} (s : Code) (a env : ℕ) → (entry_at b n).cell ≡ Join a env
      → ((x : Rest) (fs : List Frame) (a e : ℕ) (l q : machine.Tree) → StateAt b n x c.stores (join fs a e l q) → Performs b n x (fold c.stores fs a e (phase l) (phase q)) after r)
      → PerformsChoice b (choice s limits c n) after r
  choice_join {after} {r} s a env e on =
      let j = root_told t e in
      come s
      (subst (λ (u : machine.Tree). Performs b n (around c n t.tree) (move_at s (spare limits c.stores c.tree) c.stores (frames_above [] c.tree t.place) u here) after r) (sym j.is)
      (on (around c n t.tree) (waiting t.tree) a env j.left j.right (here_told t j.is).seen))

-- a choice that names no position
pub choice_absent : {b : List ℕ} (s : Code) (c : Config) (n : ℕ) → Represents b c → counted b Positions ≤ n → PerformsChoice b (choice s limits c n) b Still
unfolding choice
choice_absent s c n h l = rw (nowhere (locate c.tree n) refl) choice_still
  where
    nowhere : (q : Option Path) → locate c.tree n ≡ q → locate c.tree n ≡ none
    nowhere none e = e
    nowhere (some p) e = absurd (let k = (named_below c.tree n).0 (p, e) in omega (arith, positions_many h))

-- the cell of a position, by the record that was read
pub cell_told : {x y : Entry} {k : Cell} → x ≡ y → x.cell ≡ k → y.cell ≡ k
cell_told e h = ap (λ (z : Entry). z.cell) (sym e) ∙ h

-- what the moves of a formed configuration ask
pub ready_long : {s table b : List ℕ} → FormedBlock s table b → length b ≡ BLOCK
ready_long h = rw h.represents.block (encode_length h.config)

module _ {s table b : List ℕ} {n : ℕ} (h : FormedBlock s table b) (l : n < counted b Positions) where
  ready_there : ChosenPart b h.config n
  ready_there = chosen_at n h.represents l

  ready_part : (w : Want) × TreeOk (code_of s) h.config.stores w ready_there.tree
  ready_part = part_ok h.config.tree ready_there.place h.formed.tree ready_there.is.there

  pub ready_room : n < POSITIONS
  ready_room = seen_room ready_there.is.seen

  pub ready_sight : SomeState b n
  ready_sight = some_state ready_there.is.seen

  pub ready_running : WithinLayout s → (a env : ℕ) → (entry_at b n).cell ≡ Running a env → (a < count_of s nodes) × Chain b env × WordBound b env
  ready_running within a env e =
      let k = root_told ready_there e in
      go (waiting ready_there.tree) (rw k at ready_part.1)
    where
      go : {w : Want} (fs : List Frame) → TreeOk (code_of s) h.config.stores w (running a env fs) → (a < count_of s nodes) × Chain b env × WordBound b env
      go fs (running_ok x g f) = (
        g.node,
        seen_chain ready_there.is.seen within h.formed.stores.bindings env x,
        seen_words ready_there.is.seen within h.formed.stores.bindings env,
      )

  pub ready_returning : (v : Value) → (entry_at b n).cell ≡ Returning v → Resumes s b n v
  ready_returning v e =
      let k = root_told ready_there e in
      record {
        config = h.config;
        path = ready_there.place;
        frames = waiting ready_there.tree;
        rest = around h.config n ready_there.tree;
        want = ready_part.0;
        here = here_told ready_there k;
        stores = h.formed.stores;
        formed = rw k at ready_part.1;
        type = h.type;
        accepted = h.accepted;
      }
