-- The block is canonical: a configuration that fits is got back from its block, and a block is that of the configuration got from it.
use mathlib.Core.Path.{◌≡◌, refl, sym, ◌∙◌}
use mathlib.Core.Bool.{Bool, true, false, cond, ◌&&◌, and-eq-true_iff}
use mathlib.Core.List.Memᴰ
use mathlib.Core.List.{List, [], ◌∷◌, map, reverse, reverse-reverse}
use mathlib.Core.Option.{none, some}
use Prim.Native.Nat.{ℕ, ◌≤◌}
use native.Mathlib.Omega.{arith}
use lib.Dec.{eqb}
use lib.ListN.{length, get_or}
use borrow.Author.Tests.{eqb-true, eq-eqb}
use Rattle.limits.specs.Limits.{CLASS_FIELDS}
use Rattle.script.specs.Lists.{◌∈◌}
use Rattle.script.specs.Asking.{Decides}
use Rattle.script.proofs.Tests.{true_false, decides, says_yes, yes_said}
use Rattle.machine.specs.declared.Value.{Value}
use Rattle.machine.specs.declared.Frame.{Frame}
use Rattle.machine.specs.declared.Frame.TheVariants.{Awaits as awaits, Casts as casts, Locks as locks}
use Rattle.machine.specs.Config.{Object, Binding, failed, Config}
use Rattle.block.specs.Layout.{Area, Objects, Bindings, Positions, Frames, rows_in}
use Rattle.block.specs.Values.{Storable}
use Rattle.block.specs.Block.{shut_word, object_words, binding_words, frames_of, frame_words, parts_of, rows, encode}
use Rattle.block.specs.Fits.{Fits, fits_test}
use Rattle.block.specs.Decode.{object_of, binding_of, frame_of, forest, config_in, same, decode}
use Rattle.block.proofs.Values.{value_back, value_after, fields_said}
use Rattle.block.proofs.Trees.{tree_back}
use Rattle.block.proofs.Words.{rows_read}
use Rattle.block.proofs.Fits.{decides_fits}

-- records that are each got back from their words
map_back : {A B : Type 0} (f : A → B) (g : B → A) (xs : List A) → ((x : A) → x ∈ xs → g (f x) ≡ x) → map g (map f xs) ≡ xs
map_back f g [] e = refl
map_back f g (x ∷ xs) e = let h = e x (Memᴰ.head refl) in let t = map_back f g xs (λ y m. e y (Memᴰ.tail m)) in cc

shut_back : (b : Bool) → eqb (shut_word b) 1 ≡ b
shut_back true = refl
shut_back false = refl

object_back :
    (field_count : ℕ → ℕ) (o : Object)
    → length o.fields ≡ field_count o.class
    → length o.fields ≤ CLASS_FIELDS
    → ((v : Value) → v ∈ o.fields → Storable v)
    → object_of field_count (object_words o) ≡ o
object_back field_count o e h s =
    let vs = fields_said (field_count o.class) o e (omega arith) s in
    λ t. record { class = o.class; shut = shut_back o.shut t; fields = vs t }

binding_back : (b : Binding) → Storable b.value → binding_of (binding_words b) ≡ b
binding_back b s =
    let v = value_back (b.name ∷ b.type ∷ []) b.value (b.link ∷ []) s in
    let l = value_after (b.name ∷ b.type ∷ []) b.value (b.link ∷ []) 0 in
    λ t. record { name = b.name; type = b.type; value = v t; link = l t }

pub frame_back : (f : Frame) → frame_of (frame_words f) ≡ f
frame_back (awaits p e) = refl
frame_back (casts p) = refl
frame_back (locks o) = refl

module _ (field_count : ℕ → ℕ) (c : Config) (fit : Fits field_count c) where
  pub config_back : config_in field_count (encode c) ≡ c
  unfolding config_in
  config_back = λ t. record { stores = record { objects = os t; bindings = bs t }; tree = tr t }
    where
      read : (a : Area) → rows_in (encode c) a ≡ rows (parts_of c) a
      read = rows_read (parts_of c) fit.few

      os : map (object_of field_count) (rows_in (encode c) Objects) ≡ c.stores.objects
      os =
          rw (read Objects)
          (map_back object_words (object_of field_count) c.stores.objects
          (λ o m. object_back field_count o (fit.own_fields_lem o m) (fit.few_fields o m) (fit.values Objects o m)))

      bs : reverse (map binding_of (rows_in (encode c) Bindings)) ≡ c.stores.bindings
      bs =
          rw (read Bindings, map_back binding_words binding_of (reverse c.stores.bindings) (λ b m. binding_back b (fit.values Bindings b m)))
          (reverse-reverse c.stores.bindings)

      tr : get_or (forest (rows_in (encode c) Positions) (reverse (map frame_of (rows_in (encode c) Frames)))).trees 0 failed ≡ c.tree
      tr =
          rw (read Positions, read Frames, map_back frame_words frame_of (frames_of c.tree) (λ f m. frame_back f))
          (tree_back c.tree (fit.values Positions))

-- the test of two lists for being the same
same_self : (xs : List ℕ) → same xs xs ≡ true
unfolding same
same_self [] = refl
same_self (x ∷ xs) = rw (eq-eqb x x refl) (same_self xs)

same_is : (xs ys : List ℕ) → same xs ys ≡ true → xs ≡ ys
unfolding same
same_is [] [] e = refl
same_is [] (y ∷ ys) e = absurd (true_false (sym e))
same_is (x ∷ xs) [] e = absurd (true_false (sym e))
same_is (x ∷ xs) (y ∷ ys) e = let h = (and-eq-true_iff (eqb x y) (same xs ys)).0 e in let k = eqb-true x y h.0 in let r = same_is xs ys h.1 in cc

pub decides_same : (xs ys : List ℕ) → Decides (xs ≡ ys) (same xs ys)
decides_same xs ys = decides (same xs ys) (same_is xs ys) (λ n e. true_false (sym (rw (← e) (same_self xs)) ∙ n))

-- a configuration that fits is got back from its block
pub decode_encode : (field_count : ℕ → ℕ) (c : Config) → Fits field_count c → decode field_count (encode c) ≡ some c
unfolding decode
decode_encode field_count c fit = rw (config_back field_count c fit, yes_said (decides_fits field_count c) fit, same_self (encode c))

passed : (a : Bool) (x c : Config) → cond a (some x) none ≡ some c → (a ≡ true) × (x ≡ c)
passed true x c e = (refl, cc)
passed false x c e = let z : ◌≡◌ {A = ℕ} 0 1 = cc in absurd (omega arith)

-- a block that is decoded is the block of what it is decoded to, which fits
pub encode_decode : (field_count : ℕ → ℕ) (b : List ℕ) (c : Config) → decode field_count b ≡ some c → (encode c ≡ b) × Fits field_count c
unfolding decode
encode_decode field_count b c e =
    let x = config_in field_count b in
    let p = passed (fits_test field_count x && same (encode x) b) x c e in
    let h = (and-eq-true_iff (fits_test field_count x) (same (encode x) b)).0 p.0 in
    rw (← p.1) (same_is (encode x) b h.1, says_yes (decides_fits field_count x) h.0)

-- so two configurations that fit have the same block only if they are the same
pub one_config : (field_count : ℕ → ℕ) (c d : Config) → Fits field_count c → Fits field_count d → encode c ≡ encode d → c ≡ d
one_config field_count c d f g e = let x = decode_encode field_count c f in let y = decode_encode field_count d g in cc
