-- The test for Fits decides it, a configuration that fits has a block of bytes, and what makes the words of a block small.
use mathlib.Core.Path.{◌≡◌, refl}
use mathlib.Core.List.Memᴰ
use mathlib.Core.List.{List, [], ◌∷◌, ◌++◌, map, flatten}
use mathlib.Core.Logic.{⊎_elim}
use Prim.Native.Nat.{ℕ, zero, suc, ◌*◌, ◌%◌, ◌/◌, ◌<◌, ◌≤◌}
use native.Mathlib.Omega.{arith}
use lib.ListN.{length, get_or}
use lib.Signed.{mag}
use Rattle.words.specs.Word.{WORD, bytes}
use Rattle.words.specs.Integer.{HALF, low_word, high_word}
use Rattle.words.proofs.Integers.{words_integer}
use Rattle.limits.specs.Limits.{CLASS_FIELDS}
use Rattle.script.specs.Lists.{◌∈◌}
use Rattle.script.specs.Asking.{Decides, holds}
use Rattle.script.proofs.Tests.{decides_as, decides_and, decides_eq, decides_le, decides_lt, decides_all}
use Rattle.machine.specs.declared.Value.{Value}
use Rattle.machine.specs.declared.Value.TheVariants.{Null as nil, Ref as ref, Int as int}
use Rattle.machine.specs.declared.Frame.{Frame}
use Rattle.machine.specs.Config.{Object, Binding, Tree, Config}
use Rattle.block.specs.Rows.{filled}
use Rattle.block.specs.Layout.{Area, Objects, Bindings, Positions, Frames, WORDS, width, most}
use Rattle.block.specs.Values.{NULL, REF, INT, value_words, Storable, storable_test}
use Rattle.block.specs.Block.{returned}
use Rattle.block.specs.Block.{object_words, binding_words, position_words, frame_words, Parts, parts_of, rows, area, header_words, laid, block_words, encode}
use Rattle.block.specs.Fits.{Few, AllWords, StorableIn, Fits, storable_in_test, all_areas, fits_test}

-- what holds of the four areas holds of each
pub areas : (P : Area → Type 0) → ((a : Area) → a ∈ all_areas → P a) → (a : Area) → P a
areas P h Objects = h Objects (Memᴰ.head refl)
areas P h Bindings = h Bindings (Memᴰ.tail (Memᴰ.head refl))
areas P h Positions = h Positions (Memᴰ.tail (Memᴰ.tail (Memᴰ.head refl)))
areas P h Frames = h Frames (Memᴰ.tail (Memᴰ.tail (Memᴰ.tail (Memᴰ.head refl))))

decides_storable : (v : Value) → Decides (Storable v) (storable_test v)
decides_storable nil = holds _
decides_storable (ref o) = decides_lt o WORD
decides_storable (int z) = decides_lt (mag z) HALF

pub decides_stored : (p : Parts) (a : Area) → Decides (StorableIn p a) (storable_in_test p a)
decides_stored p Objects =
    decides_all (λ (o : Object). (v : Value) → v ∈ o.fields → Storable v) _ p.objects (λ o. decides_all Storable storable_test o.fields decides_storable)
decides_stored p Bindings = decides_all (λ (b : Binding). Storable b.value) _ p.bindings (λ b. decides_storable b.value)
decides_stored p Positions = decides_all (λ (t : Tree). Storable (returned t)) _ p.positions (λ t. decides_storable (returned t))
decides_stored p Frames = holds _

pub decides_fits : (field_count : ℕ → ℕ) (c : Config) → Decides (Fits field_count c) (fits_test field_count c)
unfolding fits_test
decides_fits field_count c =
    decides_as
    (λ h.
    record {
      few = areas (λ a. length (rows (parts_of c) a) ≤ most a) h.0;
      own_fields_lem = h.1.0;
      few_fields = h.1.1.0;
      values = areas (StorableIn (parts_of c)) h.1.1.1.0;
      words = h.1.1.1.1;
    })
    (λ h. ((λ a m. h.few a), (h.own_fields_lem, (h.few_fields, ((λ a m. h.values a), h.words)))))
    (decides_and (decides_all (λ a. length (rows (parts_of c) a) ≤ most a) _ all_areas (λ a. decides_le (length (rows (parts_of c) a)) (most a)))
    (decides_and (decides_all (λ (o : Object). length o.fields ≡ field_count o.class) _ c.stores.objects (λ o. decides_eq (length o.fields) (field_count o.class)))
    (decides_and (decides_all (λ (o : Object). length o.fields ≤ CLASS_FIELDS) _ c.stores.objects (λ o. decides_le (length o.fields) CLASS_FIELDS))
    (decides_and (decides_all (StorableIn (parts_of c)) (storable_in_test (parts_of c)) all_areas (decides_stored (parts_of c)))
    (decides_all (λ (w : ℕ). w < WORD) _ (block_words c) (λ w. decides_lt w WORD))))))

bytes_small : (ws : List ℕ) → AllWords ws → (x : ℕ) → x ∈ bytes ws → x < 256
unfolding bytes
bytes_small [] h x m = absurd (Memᴰ.not-nil m)
bytes_small (w ∷ ws) h x m =
    ⊎_elim
    (λ (e : x ≡ w % 256). omega arith)
    (λ (k : x ∈ w / 256 ∷ bytes ws).
    ⊎_elim
    (λ (e : x ≡ w / 256). omega (arith, h w (Memᴰ.head refl)))
    (λ (n : x ∈ bytes ws). bytes_small ws (λ v y. h v (Memᴰ.tail y)) x n)
    (Memᴰ.cases_cons k))
    (Memᴰ.cases_cons m)

-- what stands in the block of a configuration that fits is bytes
pub encode_bytes : (field_count : ℕ → ℕ) (c : Config) → Fits field_count c → (x : ℕ) → x ∈ encode c → x < 256
encode_bytes field_count c fit = bytes_small (block_words c) fit.words

pub cons_words : (v : ℕ) (ws : List ℕ) → v < WORD → AllWords ws → AllWords (v ∷ ws)
cons_words v ws h k w m = ⊎_elim (λ (e : w ≡ v). rw e h) (λ (n : w ∈ ws). k w n) (Memᴰ.cases_cons m)

pub append_words : (xs ys : List ℕ) → AllWords xs → AllWords ys → AllWords (xs ++ ys)
append_words xs ys h k w m = ⊎_elim (h w) (k w) (Memᴰ.append_cases xs m)

pub no_words : AllWords []
no_words w m = absurd (Memᴰ.not-nil m)

pub value_words_lem : (v : Value) → Storable v → AllWords (value_words v)
value_words_lem nil h = cons_words NULL (0 ∷ 0 ∷ []) (omega arith) (cons_words 0 (0 ∷ []) (omega arith) (cons_words 0 [] (omega arith) no_words))
value_words_lem (ref o) h = cons_words REF (o ∷ 0 ∷ []) (omega arith) (cons_words o (0 ∷ []) h (cons_words 0 [] (omega arith) no_words))
value_words_lem (int z) h =
    let w = words_integer z h in
    cons_words INT (low_word z ∷ high_word z ∷ []) (omega arith)
    (cons_words (low_word z) (high_word z ∷ []) w.low_fits (cons_words (high_word z) [] w.high_fits no_words))

pub filled_words : (n : ℕ) (ws : List ℕ) → AllWords ws → AllWords (filled n ws)
unfolding filled
filled_words zero ws h w m = absurd (Memᴰ.not-nil m)
filled_words (suc n) [] h w m = cons_words 0 (filled n []) (omega arith) (filled_words n [] h) w m
filled_words (suc n) (x ∷ ws) h w m = cons_words x (filled n ws) (h x (Memᴰ.head refl)) (filled_words n ws (λ v k. h v (Memᴰ.tail k))) w m

pub flatten_words : (rs : List (List ℕ)) → ((r : List ℕ) → r ∈ rs → AllWords r) → AllWords (flatten rs)
unfolding flatten
flatten_words [] h w m = absurd (Memᴰ.not-nil m)
flatten_words (r ∷ rs) h w m = append_words r (flatten rs) (h r (Memᴰ.head refl)) (flatten_words rs (λ x k. h x (Memᴰ.tail k))) w m

pub map_words : {A : Type 0} (f : A → List ℕ) (xs : List A) → ((x : A) → x ∈ xs → AllWords (f x)) → (r : List ℕ) → r ∈ map f xs → AllWords r
map_words f xs h r m = let a = Memᴰ.of_map f xs m in rw (← a.2) (h a.0 a.1)

-- so the words of a block are below 65,536 if those of its records are
pub laid_words :
    (p : Parts)
    → Few p
    → ((o : Object) → o ∈ p.objects → AllWords (object_words o))
    → ((b : Binding) → b ∈ p.bindings → AllWords (binding_words b))
    → ((t : Tree) → t ∈ p.positions → AllWords (position_words t))
    → ((f : Frame) → f ∈ p.frames → AllWords (frame_words f))
    → AllWords (laid p)
unfolding laid area
laid_words p few os bs ts fs =
    filled_words WORDS _
    (append_words (header_words p) _ header
    (append_words (area Objects (rows p Objects)) _ (in_area Objects)
    (append_words (area Bindings (rows p Bindings)) _ (in_area Bindings)
    (append_words (area Positions (rows p Positions)) _ (in_area Positions)
    (in_area Frames)))))
  where
    count_word_lem : (a : Area) → length (rows p a) < WORD
    count_word_lem Objects = omega (arith, few Objects)
    count_word_lem Bindings = omega (arith, few Bindings)
    count_word_lem Positions = omega (arith, few Positions)
    count_word_lem Frames = omega (arith, few Frames)

    header : AllWords (header_words p)
    header =
        cons_words (length (rows p Objects)) _ (count_word_lem Objects)
        (cons_words (length (rows p Bindings)) _ (count_word_lem Bindings)
        (cons_words (length (rows p Frames)) _ (count_word_lem Frames)
        (cons_words (length (rows p Positions)) _ (count_word_lem Positions) no_words)))

    row_words_lem : (a : Area) (r : List ℕ) → r ∈ rows p a → AllWords r
    row_words_lem Objects = map_words object_words p.objects os
    row_words_lem Bindings = map_words binding_words p.bindings bs
    row_words_lem Positions = map_words position_words p.positions ts
    row_words_lem Frames = map_words frame_words p.frames fs

    in_area : (a : Area) → AllWords (area a (rows p a))
    in_area a = filled_words (width a * most a) (flatten (rows p a)) (flatten_words (rows p a) (row_words_lem a))

-- bytes, each of them below 256, by number
pub all_small : (xs : List ℕ) → ((x : ℕ) → x ∈ xs → x < 256) → (i : ℕ) → get_or xs i 0 < 256
all_small [] h i = omega arith
all_small (x ∷ xs) h zero = h x (Memᴰ.head refl)
all_small (x ∷ xs) h (suc i) = all_small xs (λ y m. h y (Memᴰ.tail m)) i
