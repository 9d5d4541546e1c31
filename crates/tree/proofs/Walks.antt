-- Laws of the loops that walk over the entries.
use mathlib.Core.Path.{◌≡◌, refl, sym, ap, ◌∙◌}
use mathlib.Core.Logic.{◌≢◌, ⊎_elim}
use mathlib.Core.List.{List, [], ◌∷◌}
use Prim.Native.Nat.{ℕ, suc, ◌+◌, ◌-◌, ◌≤◌, ◌<◌}
use native.Mathlib.Numerals.{add-one}
use native.Mathlib.Omega.{arith}
use lib.ListN.{length, take, drop, get_or, length-take, length-drop, drop_of_length-le}
use lib.Seq.{take-suc, drop-append-le, slice, slice_empty}
use Rattle.script.proofs.Lists.{lt_or_le}
use Rattle.machine.specs.Config as machine
use Rattle.machine.specs.Machine.{size, frame_count}
use Rattle.tree.specs.declared.Cell.{Cell}
use Rattle.tree.specs.declared.Cell.TheVariants.{Failed, Running, Returning, Join}
use Rattle.tree.specs.declared.Entry.{Entry}
use Rattle.tree.specs.Entries.{beneath_cell, frame_sum, blank}
use Rattle.tree.specs.Parts.{PartAt, Ends, Leftmost}
use Rattle.tree.proofs.Trees.{span, span_le, span_some, span_turn, sum_append, sum_entries}
use Rattle.tree.proofs.Parts.{part_span, part_slice}

-- the end of a part: one entry read, none left to read, and no tree left to come
module _ (es : List Entry) where
  pub walk_turn : (p need b : ℕ) → p < length es → need ≢ 0 → b ≡ beneath_cell (get_or es p blank).cell
      → p + 1 + span (drop (p + 1) es) (need - 1 + b) ≡ p + span (drop p es) need
  walk_turn p need b h some e = rw (e, add-one p) (omega (arith, span_turn es p need h some))

  pub walk_end : (p need : ℕ) → length es ≤ p → span (drop p es) need ≡ 0
  unfolding span
  walk_end p need h = ap (λ (l : List Entry). span l need) (drop_of_length-le es {i = p} h)

  pub ends : (i r : ℕ) → i < length es → r ≡ i + span (drop i es) 1 → Ends es i r
  ends i r h e =
      let l : length (drop i es) ≡ length es - i = length-drop i es in
      record {
        some = omega (arith, span_some (drop i es) (omega arith));
        inside = omega (arith, span_le (drop i es) 1);
        part = λ p. omega (arith, part_span p);
      }

-- the frames of some entries: one entry more
pub sum_turn : (es : List Entry) (from i : ℕ) → from ≤ i → i < length es
    → frame_sum (slice from (i + 1) es) ≡ frame_sum (slice from i es) + (get_or es i blank).frames
sum_turn es from i h k =
    let l : from ≤ length (take i es) = simp length-take (omega arith) in
    rw (add-one i, take-suc es i blank k, drop-append-le from (take i es) (get_or es i blank ∷ []) l)
    (omega (arith, sum_append (drop from (take i es)) (get_or es i blank ∷ [])))

pub sum_none : (es : List Entry) (i : ℕ) → frame_sum (slice i i es) ≡ 0
sum_none es i = ap frame_sum (slice_empty i es)

-- the frames of a part
pub within : {es : List Entry} {i : ℕ} {before after : List Entry} {u : machine.Tree} (p : PartAt es i before u after) {end sum : ℕ}
    → end ≡ i + size u → sum ≡ frame_sum (slice i end es) → sum ≡ frame_count u
within {es} {i} {u = u} p e h = h ∙ ap (λ (n : ℕ). frame_sum (slice i n es)) e ∙ ap frame_sum (part_slice p) ∙ sum_entries u

-- the leftmost thread's joins: joins as far back as k
abbrev pub JoinsFrom : List Entry → ℕ → ℕ → Type 0
JoinsFrom es k i = (j : ℕ) → k ≤ j → j < i → beneath_cell (get_or es j blank).cell ≡ 2

beneath_two : (c : Cell) → beneath_cell c ≢ 0 → beneath_cell c ≡ 2
beneath_two Failed h = absurd (h refl)
beneath_two (Running a e) h = absurd (h refl)
beneath_two (Returning v) h = absurd (h refl)
beneath_two (Join a e) h = refl

pub joins_more : (es : List Entry) (k i b : ℕ) → 0 < k → JoinsFrom es k i → b ≡ beneath_cell (get_or es (k - 1) blank).cell → b ≢ 0 → JoinsFrom es (k - 1) i
joins_more es k i b some js e h j lo hi = ⊎_elim (λ l. here (omega arith)) (λ l. js j l hi) (lt_or_le j k)
  where
    here : j ≡ k - 1 → beneath_cell (get_or es j blank).cell ≡ 2
    here q = ap (λ (n : ℕ). beneath_cell (get_or es n blank).cell) q ∙ beneath_two (get_or es (k - 1) blank).cell (λ z. h (e ∙ z))

module _ (es : List Entry) (i k : ℕ) (le : k ≤ i) (js : JoinsFrom es k i) where
  pub leftmost_stop : (b : ℕ) → 0 < k → b ≡ beneath_cell (get_or es (k - 1) blank).cell → b ≡ 0 → Leftmost es i k
  leftmost_stop b some e z =
      record { inside = le; joins = js; first = λ j q. ap (λ (n : ℕ). beneath_cell (get_or es n blank).cell) (at j q) ∙ sym e ∙ z }
    where
      at : (j : ℕ) → k ≡ suc j → j ≡ k - 1
      at j q = omega arith

  pub leftmost_root : k ≡ 0 → Leftmost es i k
  leftmost_root z = record { inside = le; joins = js; first = λ j q. absurd (omega arith) }
