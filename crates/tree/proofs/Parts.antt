-- Laws of the part at a position.
use mathlib.Core.Path.{◌≡◌, sym, ap, ◌∙◌}
use mathlib.Core.List.{List, [], ◌∷◌, ◌++◌, append_assoc, tail}
use Prim.Native.Nat.{ℕ, ◌+◌, ◌≤◌}
use native.Mathlib.Omega.{arith}
use lib.ListN.{length, take, drop, get_or, set, length-append}
use lib.Seq.{length-take-le, take_at, drop_at, get_or_at, get_or-take, set_at, slice}
use Rattle.machine.specs.declared.Frame.{Frame}
use Rattle.machine.specs.Config as machine
use Rattle.machine.specs.Config.{join}
use Rattle.machine.specs.Machine.{size}
use Rattle.machine.proofs.Positions.{size_some}
use Rattle.representation.specs.Preorder.{splice}
use Rattle.tree.specs.declared.Entry.{Entry}
use Rattle.tree.specs.declared.Tree.{Tree}
use Rattle.tree.specs.Entries.{root_entry, tree_entries, blank, used, Bounded}
use Rattle.tree.specs.Parts.{PartAt}
use Rattle.tree.proofs.Trees.{entries_join, entries_first, entries_thread, entries_length, span, span_zero, span_entries}

pub used_length : (self : Tree) → Bounded self → length (used self) ≡ self.len
used_length self h = length-take-le self.len self.entries (omega arith)

module _ {es : List Entry} {i : ℕ} {before after : List Entry} {u : machine.Tree} (p : PartAt es i before u after) where
  pub part_before : take i es ≡ before
  part_before = ap (λ (l : List Entry). take i l) p.is ∙ take_at before (tree_entries u ++ after) i p.place

  pub part_drop : drop i es ≡ tree_entries u ++ after
  part_drop = ap (λ (l : List Entry). drop i l) p.is ∙ drop_at before (tree_entries u ++ after) i p.place

  -- the entries up to the part's end, and those after it
  up_to : es ≡ (before ++ tree_entries u) ++ after
  up_to = p.is ∙ sym (append_assoc before (tree_entries u) after)

  up_to_length : length (before ++ tree_entries u) ≡ i + size u
  up_to_length = length-append before (tree_entries u) ∙ omega (arith, p.place, entries_length u)

  pub part_after : drop (i + size u) es ≡ after
  part_after = ap (λ (l : List Entry). drop (i + size u) l) up_to ∙ drop_at (before ++ tree_entries u) after (i + size u) up_to_length

  pub part_inside : i + size u ≤ length es
  part_inside = omega (arith, ap length up_to, length-append (before ++ tree_entries u) after, up_to_length)

  -- the entry at the position is that of the part's root
  pub part_root : get_or es i blank ≡ root_entry u
  part_root =
      ap (λ (l : List Entry). get_or l i blank) (p.is ∙ ap (λ (l : List Entry). before ++ (l ++ after)) (entries_first u))
      ∙ get_or_at before (root_entry u) (tail (tree_entries u) ++ after) blank i p.place

  -- a walk over one tree from the position on ends with the part
  pub part_span : span (drop i es) 1 ≡ size u
  part_span = ap (λ (l : List Entry). span l 1) part_drop ∙ span_entries u 0 after ∙ omega (arith, span_zero after)

  -- the part exchanged
  pub part_splice : (new : List Entry) → splice es i (size u) new ≡ before ++ (new ++ after)
  part_splice new = rw (part_before, part_after)

  -- the part alone
  pub part_slice : slice i (i + size u) es ≡ tree_entries u
  part_slice =
      ap (λ (l : List Entry). slice i (i + size u) l) up_to
      ∙ ap (λ (l : List Entry). drop i l) (take_at (before ++ tree_entries u) after (i + size u) up_to_length)
      ∙ drop_at before (tree_entries u) i p.place

  -- the entry of a thread exchanged
  pub part_set : size u ≡ 1 → (x : Entry) → set es i x ≡ before ++ (x ∷ after)
  part_set one x =
      ap (λ (l : List Entry). set l i x) (p.is ∙ ap (λ (l : List Entry). before ++ (l ++ after)) (entries_thread u one))
      ∙ set_at before (root_entry u) after x i p.place

-- a part of a tree: the entry at its position is that of the part's root
pub part_entry : {self : Tree} {i : ℕ} {before after : List Entry} {u : machine.Tree} → PartAt (used self) i before u after → Bounded self → get_or self.entries i blank ≡ root_entry u
part_entry {self} {i} {u = u} p h = sym (get_or-take self.len self.entries i blank (omega (arith, part_inside p, used_length self h, size_some u))) ∙ part_root p

module _ {es : List Entry} {i : ℕ} {before after : List Entry} {fs : List Frame} {a e : ℕ} {l r : machine.Tree} (p : PartAt es i before (join fs a e l r) after) where
  abbrev root : Entry
  root = root_entry (join fs a e l r)

  join_is : es ≡ before ++ (root ∷ (tree_entries l ++ (tree_entries r ++ after)))
  join_is =
      p.is
      ∙ ap (λ (x : List Entry). before ++ (x ++ after)) (entries_join fs a e l r)
      ∙ ap (λ (x : List Entry). before ++ (root ∷ x)) (append_assoc (tree_entries l) (tree_entries r) after)

  -- the sides of a join stand after it, the left one first
  pub part_left : PartAt es (i + 1) (before ++ (root ∷ [])) l (tree_entries r ++ after)
  part_left =
      record {
        is = join_is ∙ sym (append_assoc before (root ∷ []) (tree_entries l ++ (tree_entries r ++ after)));
        place = length-append before (root ∷ []) ∙ omega (arith, p.place);
      }

  pub part_right : PartAt es (i + 1 + size l) (before ++ (root ∷ tree_entries l)) r after
  part_right =
      record {
        is = join_is ∙ sym (append_assoc before (root ∷ tree_entries l) (tree_entries r ++ after));
        place = length-append before (root ∷ tree_entries l) ∙ omega (arith, p.place, entries_length l);
      }
