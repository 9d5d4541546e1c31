-- Values that are storable stay so where an area has other records.
use mathlib.Core.Path.{◌≡◌, refl, sym, ap, subst, ◌∙◌}
use mathlib.Core.Logic.{◌⊎◌, inl, inr, ⊎_elim}
use mathlib.Core.List.Memᴰ
use mathlib.Core.List.{List, [], ◌∷◌, ◌++◌, map}
use Prim.Native.Nat.{ℕ, zero, suc}
use lib.ListN.{set, take, drop, take-append-drop}
use Rattle.script.specs.Lists.{◌∈◌}
use Rattle.machine.specs.declared.Frame.{Frame}
use Rattle.machine.specs.Config as machine
use Rattle.machine.specs.Config.{Object, Binding, running, returning, failed, join}
use Rattle.block.specs.declared.Area.TheVariants.{Objects, Bindings, Positions, Frames}
use Rattle.block.specs.Values.{Storable}
use Rattle.block.specs.Block.{returned, Parts}
use Rattle.block.specs.Fits.{StorableIn, AllStorable}
use Rattle.representation.specs.Changed.{with_objects, with_bindings, with_frames}
use Rattle.tree.specs.declared.Entry.{Entry}
use Rattle.tree.specs.Entries.{root_entry, result_of}
use Rattle.state.specs.Positions.{with_positions}

module _ (p : Parts) (h : AllStorable p) where
  pub storable_frames : (fs : List Frame) → AllStorable (with_frames p fs)
  storable_frames fs Objects = h Objects
  storable_frames fs Bindings = h Bindings
  storable_frames fs Positions = h Positions
  storable_frames fs Frames = _

  pub storable_positions : (ts : List machine.Tree) → StorableIn (with_positions p ts) Positions → AllStorable (with_positions p ts)
  storable_positions ts k Objects = h Objects
  storable_positions ts k Bindings = h Bindings
  storable_positions ts k Positions = k
  storable_positions ts k Frames = _

  pub storable_objects : (os : List Object) → StorableIn (with_objects p os) Objects → AllStorable (with_objects p os)
  storable_objects os k Objects = k
  storable_objects os k Bindings = h Bindings
  storable_objects os k Positions = h Positions
  storable_objects os k Frames = _

  pub storable_bindings : (bs : List Binding) → StorableIn (with_bindings p bs) Bindings → AllStorable (with_bindings p bs)
  storable_bindings bs k Objects = h Objects
  storable_bindings bs k Bindings = k
  storable_bindings bs k Positions = h Positions
  storable_bindings bs k Frames = _

-- an element of a list of which one is set, or a part is exchanged
pub set_in : {A : Type 0} (xs : List A) (i : ℕ) (y x : A) → x ∈ set xs i y → (x ≡ y) ⊎ (x ∈ xs)
set_in [] i y x m = inr m
set_in (z ∷ xs) zero y x m = ⊎_elim inl (λ (k : x ∈ xs). inr (Memᴰ.tail k)) (Memᴰ.cases_cons m)
set_in (z ∷ xs) (suc i) y x m =
    ⊎_elim (λ (e : x ≡ z). inr (Memᴰ.head e))
    (λ (k : x ∈ set xs i y). ⊎_elim inl (λ (l : x ∈ xs). inr (Memᴰ.tail l)) (set_in xs i y x k)) (Memᴰ.cases_cons m)

pub exchanged_in : {A : Type 0} (xs : List A) (i k : ℕ) (ys : List A) (x : A) → x ∈ take i xs ++ (ys ++ drop k xs) → (x ∈ ys) ⊎ (x ∈ xs)
exchanged_in xs i k ys x m =
    ⊎_elim
    (λ (l : x ∈ take i xs). inr (subst (λ (zs : List _). x ∈ zs) (take-append-drop i xs) (Memᴰ.append_left (drop i xs) l)))
    (λ (l : x ∈ ys ++ drop k xs).
    ⊎_elim inl
    (λ (n : x ∈ drop k xs). inr (subst (λ (zs : List _). x ∈ zs) (take-append-drop k xs) (Memᴰ.append_right (take k xs) n))) (Memᴰ.append_cases ys l))
    (Memᴰ.append_cases (take i xs) m)

-- the value of a position is that of its entry
pub returned_entry : (t : machine.Tree) → returned t ≡ result_of (root_entry t).cell
returned_entry (running a e fs) = refl
returned_entry (returning v fs) = refl
returned_entry failed = refl
returned_entry (join fs a e l r) = refl

-- so positions with the same entries are storable alike
pub storable_entries :
    (ps qs : List machine.Tree)
    → map root_entry ps ≡ map root_entry qs
    → ((t : machine.Tree) → t ∈ ps → Storable (returned t))
    → (t : machine.Tree) → t ∈ qs → Storable (returned t)
storable_entries ps qs e h t m =
    let a = Memᴰ.of_map root_entry ps (subst (λ (es : List Entry). root_entry t ∈ es) (sym e) (Memᴰ.map root_entry m)) in
    let same : returned t ≡ returned a.0 = returned_entry t ∙ ap (λ (x : Entry). result_of x.cell) (sym a.2) ∙ sym (returned_entry a.0) in
    rw same (h a.0 a.1)
