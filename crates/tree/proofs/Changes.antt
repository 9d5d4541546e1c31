-- Laws of the changes of a tree: each is a splice of its entries.
use mathlib.Core.Path.{◌≡◌, refl, sym, ap, ◌∙◌}
use mathlib.Core.Logic.{⊎_elim}
use mathlib.Core.List.{List, [], ◌∷◌, ◌++◌, append_assoc}
use Prim.Native.Nat.{ℕ, ◌+◌, ◌-◌, ◌<◌, ◌≤◌}
use native.Mathlib.Nat.{add-zero}
use native.Mathlib.Omega.{arith}
use lib.ListN.{length, take, drop, get_or, set, length-append, length-take, length-drop}
use lib.Seq.{slice, length-slice, length-take-le, take_at, take-take, take-set-lt}
use types.Run.{OneOf}
use denote.Enum.Declared.{tag_of}
use Rattle.limits.specs.Limits.{POSITIONS}
use Rattle.machine.specs.declared.Frame.{Frame}
use Rattle.machine.specs.Config as machine
use Rattle.machine.specs.Config.{running, failed, join}
use Rattle.machine.specs.Machine.{size}
use Rattle.block.specs.Block.{preorder, waiting}
use Rattle.representation.specs.Preorder.{splice}
use Rattle.tree.specs.declared.Cell.TheVariants.{Running, Join}
use Rattle.tree.specs.declared.Entry.{Entry}
use Rattle.tree.specs.declared.Tree.{Tree}
use Rattle.tree.specs.Entries.{root_entry, tree_entries, blank, used, Bounded}
use Rattle.tree.specs.Parts.{PartAt, Ends, Spliced, Replaced, Forked, Failing, Joined}
use Rattle.tree.specs.contracts.Cell.{the_type}
use Rattle.tree.proofs.Trees.{entries_thread}
use Rattle.tree.proofs.Lists.{over_length, over_take, moved_down, moved_up, up_put, set_splice, splice_take}
use Rattle.tree.proofs.Parts.{used_length, part_splice, part_entry}
use Rattle.tree.proofs.Worded.{splice_worded}

-- the entry of a running thread, and the entries of a new join
abbrev pub thread_of : ℕ → ℕ → ℕ → Entry
thread_of a e n = record { cell = Running a e; frames = n }

abbrev pub fork_of : ℕ → ℕ → ℕ → ℕ → ℕ → List Entry
fork_of n a b c e = record { cell = Join c e; frames = n } ∷ thread_of a e 0 ∷ thread_of b e 0 ∷ []

fork_entries : (fs : List Frame) (a b c e : ℕ) → tree_entries (join fs c e (running a e []) (running b e [])) ≡ fork_of (length fs) a b c e
unfolding preorder
fork_entries fs a b c e = refl

-- the thread that a join goes on as
same_thread : (x : Entry) (a e b f n : ℕ) → x.cell ≡ Join a e → x ≡ record { cell = Join b f; frames = n } → thread_of a e x.frames ≡ thread_of b f n
same_thread x a e b f n h q =
    let node : a ≡ b = cc in
    let env : e ≡ f = cc in
    rw (node, env, q)

-- entries taken out, and two put in
module _ (self r : Tree) (at : ℕ) (bounded : Bounded self) where
  pub takes_out : (old : ℕ) → at + old ≤ self.len → r.len ≡ self.len - old → r.entries ≡ moved_down self.entries at old (self.len - old) → Spliced self at old [] r
  takes_out old h n e =
      let es = self.entries in
      let len = self.len - old in
      let few = bounded.small in
      let long : length es ≡ POSITIONS = bounded.whole in
      let cut : length (splice es at old []) ≡ length es - old = simp (length-append, length-take, length-drop) (omega arith) in
      record {
        bounded = record { small = omega arith; whole = ap length e ∙ over_length (splice es at old []) es len (omega arith) (omega arith) ∙ long };
        now = rw (n, e) (over_take (splice es at old []) es len (omega arith) ∙ splice_take es at old [] self.len len (omega arith) (omega arith) (omega arith));
      }

  pub puts_in : (x y : Entry) → at ≤ self.len → self.len + 2 ≤ POSITIONS → r.len ≡ self.len + 2 → r.entries ≡ set (set (moved_up self.entries at self.len) at x) (at + 1) y
      → Spliced self at 0 (x ∷ y ∷ []) r
  puts_in x y h k n e =
      let es = self.entries in
      let len = self.len in
      let long : length es ≡ POSITIONS = bounded.whole in
      let part = slice at len es in
      let many : length part ≡ len - at = length-slice at len es (omega arith) in
      let front : length (take at es) ≡ at = length-take-le at es (omega arith) in
      let is : r.entries ≡ (take at es ++ (x ∷ y ∷ part)) ++ drop (len + 2) es =
      e ∙ up_put es blank x y at len (omega arith) ∙ sym (append_assoc (take at es) (x ∷ y ∷ part) (drop (len + 2) es))
      in
      let wide : length (take at es ++ (x ∷ y ∷ part)) ≡ len + 2 = length-append (take at es) (x ∷ y ∷ part) ∙ omega (arith, front, many) in
      record {
        bounded = record { small = omega arith; whole = ap length is ∙ length-append (take at es ++ (x ∷ y ∷ part)) (drop (len + 2) es) ∙ omega (arith, wide, length-drop (len + 2) es) };
        now = rw (n, is, take_at (take at es ++ (x ∷ y ∷ part)) (drop (len + 2) es) (len + 2) wide, add-zero at, take-take at len es h);
      }

-- an exchange of more entries, whose first one was stored before
pub stored_first : (self mid r : Tree) (i old : ℕ) (x : Entry) (new : List Entry) → Bounded self → i < self.len → mid.len ≡ self.len → mid.entries ≡ set self.entries i x
    → Spliced mid (i + 1) old new r → Spliced self i (old + 1) (x ∷ new) r
stored_first self mid r i old x new b h n e s =
    let l = used self in
    let same : used mid ≡ set l i x = rw (n, e) (take-set-lt self.len self.entries i x h) in
    let k : i + (old + 1) ≡ i + 1 + old = omega arith in
    record { bounded = s.bounded; now = s.now ∙ ap (λ (m : List Entry). splice m (i + 1) old new) same ∙ rw k (set_splice l x i (i + 1 + old) new (omega (arith, used_length self b)) (omega arith)) }

module _ (self : Tree) (i : ℕ) (r : Tree) where
  pub replaced_all : (x : Entry) (end : ℕ) → Ends (used self) i end → Spliced self i (end - i) (x ∷ []) r → Replaced self i x r
  replaced_all x end e s = record { bounded = s.bounded; words = λ v w. rw s.now (splice_worded (used self) i (end - i) (x ∷ []) (v, _) w); now = λ {before} {after} {u} p. s.now ∙ ap (λ (n : ℕ). splice (used self) i n (x ∷ [])) (long p) ∙ part_splice p (x ∷ []) }
    where
      long : {before after : List Entry} {u : machine.Tree} → PartAt (used self) i before u after → end - i ≡ size u
      long p = omega (arith, e.part p)

  -- a part that becomes a thread
  thread_there : {before after : List Entry} {u : machine.Tree} (v : machine.Tree) → size v ≡ 1 → PartAt (used self) i before u after → used r ≡ before ++ (root_entry v ∷ after)
      → PartAt (used r) i before v after
  thread_there {before} {after} v one p e = record { is = e ∙ ap (λ (l : List Entry). before ++ (l ++ after)) (sym (entries_thread v one)); place = p.place }

  replaced_by : {before after : List Entry} {u : machine.Tree} (v : machine.Tree) → size v ≡ 1 → Replaced self i (root_entry v) r → PartAt (used self) i before u after → PartAt (used r) i before v after
  replaced_by v one s p = thread_there v one p (s.now p)

  pub failing : Replaced self i (root_entry failed) r → Failing self i r
  failing s = record { bounded = s.bounded; words = s.words (omega arith); now = λ p. replaced_by failed refl s p }

  pub joins : (x : Entry) (a e : ℕ) → Bounded self → x ≡ get_or self.entries i blank → x.cell ≡ Join a e → Replaced self i (thread_of a e x.frames) r → Joined self i r
  joins x a e bounded h k s =
      record {
        bounded = s.bounded;
        words = s.words (omega arith);
        now = λ {before} {after} {fs} {a = b} {e = f} p. replaced_by (running b f fs) refl (rw (same_thread x a e b f (length fs) k (h ∙ part_entry p bounded)) at s) p;
      }

  pub forks : (x : Entry) (a b c e : ℕ) → Bounded self → x ≡ get_or self.entries i blank → Spliced self i 1 (fork_of x.frames a b c e) r → Forked self i a b c e r
  forks x a b c e bounded h s = record { bounded = s.bounded; words = λ w. rw s.now (splice_worded (used self) i 1 (fork_of x.frames a b c e) (omega arith, (omega arith, (omega arith, _))) w); now = λ one p. record { is = now one p; place = p.place } }
    where
      now : {before after : List Entry} {u : machine.Tree} → size u ≡ 1 → PartAt (used self) i before u after
          → used r ≡ before ++ (tree_entries (join (waiting u) c e (running a e []) (running b e [])) ++ after)
      now {before} {after} {u} one p =
          s.now
          ∙ ap (λ (n : ℕ). splice (used self) i n (fork_of x.frames a b c e)) (sym one)
          ∙ part_splice p (fork_of x.frames a b c e)
          ∙ ap (λ (y : Entry). before ++ (fork_of y.frames a b c e ++ after)) (h ∙ part_entry p bounded)
          ∙ ap (λ (l : List Entry). before ++ (l ++ after)) (sym (fork_entries (waiting u) a b c e))

-- a position whose cell is none of the fourth kind is no join
none_of : (n : ℕ) → OneOf (0 ∷ 1 ∷ 2 ∷ []) n → n ≡ 3 → ⊥
none_of n h e = ⊎_elim (λ z. omega arith) (λ k. ⊎_elim (λ z. omega arith) (λ z. omega arith) k) h

pub joins_none : (self : Tree) (i : ℕ) → Bounded self → OneOf (0 ∷ 1 ∷ 2 ∷ []) (tag_of the_type (get_or self.entries i blank).cell) → Joined self i self
joins_none self i bounded h = record { bounded = bounded; words = λ w. w; now = λ p. absurd (none_of _ h (ap (λ (x : Entry). tag_of the_type x.cell) (part_entry p bounded))) }
