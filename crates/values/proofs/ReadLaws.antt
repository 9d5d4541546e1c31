-- The records of the configuration that is read from a block, word by word.
use mathlib.Core.Path.{◌≡◌, refl, ap, ◌∙◌}
use mathlib.Core.List.{List, [], ◌∷◌, ◌++◌, map, reverse, reverse-append}
use mathlib.Core.Option.{none, some}
use Prim.Native.Nat.{ℕ, zero, suc, ◌+◌, ◌<◌, ◌≤◌}
use native.Mathlib.Omega.{arith}
use Rattle.script.specs.Lists.{run}
use Rattle.script.proofs.Lists.{get_d_run, run_same}
use Rattle.machine.specs.Config.{Object}
use Rattle.machine.specs.Machine.{object}
use Rattle.block.specs.declared.Area.TheVariants.{Objects, Bindings}
use Rattle.block.specs.Rows.{word_of}
use Rattle.block.specs.Layout.{width, counted, word_in, rows_in, CLASS, field_word}
use Rattle.block.specs.Values.{value_in}
use Rattle.block.specs.Decode.{object_of, binding_of, config_in}
use Rattle.block.proofs.Values.{value_same}
use Rattle.representation.specs.InOrder.{AreaOk}
use Rattle.environments.specs.Chains.{binding_at, newest, bindings_in}
use Rattle.values.specs.Objects.{field_value_at, object_at}

-- runs
pub map_run : {A B : Type 0} (f : ℕ → A) (g : A → B) (i n : ℕ) → map g (run f i n) ≡ run (λ j. g (f j)) i n
unfolding run
map_run f g i zero = refl
map_run f g i (suc n) = ap (λ l. g (f i) ∷ l) (map_run f g (i + 1) n)

run_end : {A : Type 0} (f : ℕ → A) (i n : ℕ) → run f i (suc n) ≡ run f i n ++ f (i + n) ∷ []
unfolding run
run_end f i zero = let z : i + 0 ≡ i = omega arith in rw z
run_end f i (suc n) = let z : i + suc n ≡ i + 1 + n = omega arith in rw z (ap (λ l. f i ∷ l) (run_end f (i + 1) n))

run_newest : {A : Type 0} (f : ℕ → A) (n : ℕ) → reverse (run f 0 n) ≡ newest f n
unfolding run
run_newest f zero = refl
run_newest f (suc n) =
    let z : 0 + n ≡ n = omega arith in
    ap reverse (run_end f 0 n) ∙ reverse-append (run f 0 n) (f (0 + n) ∷ []) ∙ rw z (ap (λ l. f n ∷ l) (run_newest f n))

-- an object of a run
pub object_run : (f : ℕ → Object) (i n o : ℕ) → o < n → object (run f i n) o ≡ some (f (i + o))
unfolding run
object_run f i zero o h = absurd (omega arith)
object_run f i (suc n) zero h = let z : i + 0 ≡ i = omega arith in rw z
object_run f i (suc n) (suc o) h = let z : i + suc o ≡ i + 1 + o = omega arith in rw z (object_run f (i + 1) n o (omega arith))

pub object_past : (f : ℕ → Object) (i n o : ℕ) → n ≤ o → object (run f i n) o ≡ none
unfolding run
object_past f i zero o h = refl
object_past f i (suc n) zero h = absurd (omega arith)
object_past f i (suc n) (suc o) h = object_past f (i + 1) n o (omega arith)

-- the bindings of the configuration are those of the environments' chains
pub bindings_read : (field_count : ℕ → ℕ) (b : List ℕ) → (config_in field_count b).stores.bindings ≡ bindings_in b
unfolding config_in bindings_in rows_in run
bindings_read field_count b =
    ap reverse (map_run (λ i. run (word_in b Bindings i) 0 (width Bindings)) binding_of 0 (counted b Bindings)) ∙ run_newest (binding_at b) (counted b Bindings)

-- the objects of the configuration
pub objects_read :
    (field_count : ℕ → ℕ) (b : List ℕ) → AreaOk field_count b Objects → (config_in field_count b).stores.objects ≡ run (object_at field_count b) 0 (counted b Objects)
unfolding config_in rows_in run
objects_read field_count b o =
    map_run row (object_of field_count) 0 (counted b Objects)
    ∙ run_same (λ i. object_of field_count (row i)) (object_at field_count b) 0 (counted b Objects) (λ i l u. same i (omega arith))
  where
    row : ℕ → List ℕ
    row i = run (word_in b Objects i) 0 (width Objects)

    same : (i : ℕ) → i < counted b Objects → object_of field_count (row i) ≡ object_at field_count b i
    same i h =
        let n = field_count (word_in b Objects i CLASS) in
        let few = (o.records.each i h).few in
        let e : run (λ k. value_in (word_of (row i)) (field_word k)) 0 n ≡ run (field_value_at b i) 0 n =
        run_same (λ k. value_in (word_of (row i)) (field_word k)) (field_value_at b i) 0 n
        (λ k l u.
        value_same (word_of (row i)) (word_in b Objects i) (field_word k)
        (λ m v.
        let z : 0 + (field_word k + m) ≡ field_word k + m = omega arith in
        get_d_run (word_in b Objects i) 0 (width Objects) (field_word k + m) 0 (omega arith) ∙ ap (word_in b Objects i) z))
        in
        λ t. record { class = word_in b Objects i CLASS; shut = (object_at field_count b i).shut; fields = e t }
