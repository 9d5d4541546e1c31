-- The configurations that a block can hold. `field_count` says of a class type how many fields the script gives it.
use Rattle.std.specs.Prelude.{ℕ, ◌<◌, ◌≤◌, ◌≡◌, Bool, true, ◌&&◌, List, [], ◌∷◌, eqb, leb, ltb, length}
use Rattle.words.specs.Word.{WORD}
use Rattle.limits.specs.Limits.{CLASS_FIELDS}
use Rattle.script.specs.Lists.{◌∈◌}
use Rattle.script.specs.Questions.{all_of}
use Rattle.machine.specs.declared.Value.{Value}
use Rattle.machine.specs.Config.{Object, Binding, Tree, Config}
use Rattle.block.specs.Layout.{Area, Objects, Bindings, Positions, Frames, most}
use Rattle.block.specs.Values.{Storable, storable_test}
use Rattle.block.specs.Block.{returned, Parts, parts_of, rows, block_words}

-- "at most 256 objects (class, open or shut, fields), 2,048 variable bindings (name, type, value, the binding beneath), 2,048 waiting frames in all, and a tree
-- of joins with at most 32 threads", which is one with at most 63 positions (`positions_threads`).
abbrev pub Few : Parts → Type 0
Few p = (a : Area) → length (rows p a) ≤ most a

-- "All words are unsigned 16-bit"
abbrev pub AllWords : List ℕ → Type 0
AllWords ws = (w : ℕ) → w ∈ ws → w < WORD

-- The values of an area's records are storable, and so those of all areas.
abbrev pub StorableIn : Parts → Area → Type 0
StorableIn p Objects = (o : Object) → o ∈ p.objects → (v : Value) → v ∈ o.fields → Storable v
StorableIn p Bindings = (b : Binding) → b ∈ p.bindings → Storable b.value
StorableIn p Positions = (t : Tree) → t ∈ p.positions → Storable (returned t)
StorableIn p Frames = Unit {0}

abbrev pub AllStorable : Parts → Type 0
AllStorable p = (a : Area) → StorableIn p a

-- An object has a value for each field of its class, "has each class at most 8 fields", every value is storable, and every word of the block is a word.
pub record Fits (field_count : ℕ → ℕ) (c : Config) : Type 0 where
  pub few : Few (parts_of c)
  pub own_fields_lem : (o : Object) → o ∈ c.stores.objects → length o.fields ≡ field_count o.class
  pub few_fields : (o : Object) → o ∈ c.stores.objects → length o.fields ≤ CLASS_FIELDS
  pub values : AllStorable (parts_of c)
  pub words : AllWords (block_words c)

-- The test for it.
abbrev pub storable_in_test : Parts → Area → Bool
storable_in_test p Objects = all_of (λ (o : Object). all_of storable_test o.fields) p.objects
storable_in_test p Bindings = all_of (λ (b : Binding). storable_test b.value) p.bindings
storable_in_test p Positions = all_of (λ (t : Tree). storable_test (returned t)) p.positions
storable_in_test p Frames = true

abbrev pub all_areas : List Area
all_areas = Objects ∷ Bindings ∷ Positions ∷ Frames ∷ []

unfoldable pub fits_test : (ℕ → ℕ) → Config → Bool
fits_test field_count c =
    all_of (λ a. leb (length (rows (parts_of c) a)) (most a)) all_areas
    && (all_of (λ (o : Object). eqb (length o.fields) (field_count o.class)) c.stores.objects
    && (all_of (λ (o : Object). leb (length o.fields) CLASS_FIELDS) c.stores.objects
    && (all_of (storable_in_test (parts_of c)) all_areas && all_of (λ w. ltb w WORD) (block_words c))))
