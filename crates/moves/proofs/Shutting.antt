-- An object that is shut or opened, in the block.
use mathlib.Core.Path.{◌≡◌, refl, ap, subst, ◌∙◌}
use mathlib.Core.Bool.{Bool}
use mathlib.Core.Logic.{⊎_elim}
use mathlib.Core.List.Memᴰ
use mathlib.Core.List.{List, [], ◌∷◌}
use Prim.Native.Nat.{ℕ, zero, suc, ◌<◌}
use native.Mathlib.Omega.{arith}
use lib.ListN.{length, get_or, set, length-set}
use Rattle.words.specs.Word.{bytes}
use Rattle.script.specs.Lists.{◌∈◌}
use Rattle.machine.specs.declared.Value.{Value}
use Rattle.machine.specs.Config as machine
use Rattle.machine.specs.Config.{Object, Stores}
use Rattle.machine.specs.Machine.{set_shut, with_shut}
use Rattle.block.specs.declared.Area.TheVariants.{Objects}
use Rattle.block.specs.Layout.{counted}
use Rattle.block.specs.Values.{Storable}
use Rattle.block.specs.Block.{Parts, laid}
use Rattle.representation.specs.Changed.{with_objects, marked_shut}
use Rattle.environments.proofs.LaidLaws.{shut_set}
use Rattle.state.specs.Represents.{Rest, StateAt}
use Rattle.state.proofs.Seeing.{objects_counted, seen_few}
use Rattle.state.proofs.Moves.{lies, seen_objects}
use Rattle.moves.proofs.TargetLaws.{blank_object}

-- a lock shut or opened changes no value
shut_storable : (q : Bool) (xs : List Object) (o : ℕ) → ((y : Object) → y ∈ xs → (v : Value) → v ∈ y.fields → Storable v)
    → (y : Object) → y ∈ set_shut q xs o → (v : Value) → v ∈ y.fields → Storable v
shut_storable q [] o h y m v n = h y m v n
shut_storable q (x ∷ xs) zero h y m v n =
    ⊎_elim
    (λ (e : y ≡ marked_shut x q). h x (Memᴰ.head refl) v (subst (λ (z : Object). v ∈ z.fields) e n))
    (λ (l : y ∈ xs). h y (Memᴰ.tail l) v n)
    (Memᴰ.cases_cons m)
shut_storable q (x ∷ xs) (suc o) h y m v n =
    ⊎_elim
    (λ (e : y ≡ x). h y (Memᴰ.head e) v n)
    (λ (l : y ∈ set_shut q xs o). shut_storable q xs o (λ z k. h z (Memᴰ.tail k)) y l v n)
    (Memᴰ.cases_cons m)

-- an object shut or opened in the block
pub shut_changes :
    {b after : List ℕ} {i : ℕ} {x : Rest} {st : Stores} {u : machine.Tree} (o : ℕ) (q : Bool)
    → StateAt b i x st u
    → o < counted b Objects
    → ((p : Parts) (d : Object) → b ≡ bytes (laid p) → o < length p.objects → after ≡ bytes (laid (with_objects p (set p.objects o (marked_shut (get_or p.objects o d) q)))))
    → StateAt after i x (with_shut q st o) u
shut_changes {x = x} {st = st} {u = u} o q seen l put =
    let e = shut_set q st.objects o blank_object in
    let m : length (set_shut q st.objects o) ≡ length st.objects = ap length e ∙ length-set st.objects o (marked_shut (get_or st.objects o blank_object) q) in
    seen_objects seen (set_shut q st.objects o)
    (omega (arith, m, objects_counted seen, seen_few seen Objects))
    (shut_storable q st.objects o (seen.storable Objects))
    (rw e (put (lies seen) blank_object seen.block (omega (arith, objects_counted seen))))
