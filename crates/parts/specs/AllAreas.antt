-- Records of objects and of bindings and areas of small blocks, in order or not, in three tables. `proofs/AllAreas.antt` has the theorems over them, by
-- computation.
use Rattle.std.specs.Prelude.{ℕ, Bool, true, false, cond, List, [], ◌∷◌, eqb}

-- The first words of a record, all others being 0, and whether it is in order.
pub record RecordCase : Type 0 where
  pub words : List ℕ
  pub sound : Bool

-- Objects: class 3 has one field, others none.
abbrev pub one_field : ℕ → ℕ
one_field c = cond (eqb c 3) 1 0

unfoldable pub object_cases : List RecordCase
object_cases =
    -- open or shut; a lock word that says neither
    record { words = 4 ∷ 0 ∷ []; sound = true } ∷
    record { words = 4 ∷ 1 ∷ []; sound = true } ∷
    record { words = 4 ∷ 2 ∷ []; sound = false } ∷
    -- a field: null, an object, a number of any two words
    record { words = 3 ∷ 0 ∷ 0 ∷ 0 ∷ 0 ∷ []; sound = true } ∷
    record { words = 3 ∷ 0 ∷ 1 ∷ 7 ∷ 0 ∷ []; sound = true } ∷
    record { words = 3 ∷ 0 ∷ 2 ∷ 7 ∷ 65535 ∷ []; sound = true } ∷
    -- "A byte with no meaning": beside null, behind an object; and a kind that is none
    record { words = 3 ∷ 0 ∷ 0 ∷ 7 ∷ 0 ∷ []; sound = false } ∷
    record { words = 3 ∷ 0 ∷ 1 ∷ 7 ∷ 1 ∷ []; sound = false } ∷
    record { words = 3 ∷ 0 ∷ 3 ∷ 0 ∷ 0 ∷ []; sound = false } ∷
    -- a value in the place of a field that the class has not
    record { words = 3 ∷ 0 ∷ 0 ∷ 0 ∷ 0 ∷ 2 ∷ []; sound = false } ∷
    record { words = 4 ∷ 0 ∷ 2 ∷ []; sound = false } ∷
    []

-- Bindings: name, type and link are any words.
unfoldable pub binding_cases : List RecordCase
binding_cases =
    -- null, an object, a number of any two words
    record { words = 9 ∷ 9 ∷ 0 ∷ 0 ∷ 0 ∷ 9 ∷ []; sound = true } ∷
    record { words = 9 ∷ 9 ∷ 1 ∷ 7 ∷ 0 ∷ 9 ∷ []; sound = true } ∷
    record { words = 9 ∷ 9 ∷ 2 ∷ 7 ∷ 65535 ∷ 9 ∷ []; sound = true } ∷
    -- "A byte with no meaning": beside null, behind an object; and a kind that is none
    record { words = 9 ∷ 9 ∷ 0 ∷ 7 ∷ 0 ∷ 9 ∷ []; sound = false } ∷
    record { words = 9 ∷ 9 ∷ 1 ∷ 7 ∷ 1 ∷ 9 ∷ []; sound = false } ∷
    record { words = 9 ∷ 9 ∷ 3 ∷ 0 ∷ 0 ∷ 9 ∷ []; sound = false } ∷
    []

-- The first words of a block, all others being 0 (the counts of objects, bindings, frames and positions, and object 0), and whether the area of objects is in
-- order, and that of bindings.
pub record AreaCase : Type 0 where
  pub words : List ℕ
  pub objects : Bool
  pub bindings : Bool

unfoldable pub area_cases : List AreaCase
area_cases =
    -- an object, and a binding: `this` of type Unit with null and no link
    record { words = 1 ∷ 1 ∷ 0 ∷ 1 ∷ 4 ∷ 1 ∷ []; objects = true; bindings = true } ∷
    -- an object that is not counted, and "at most 256 objects .., 2,048 variable bindings"
    record { words = 0 ∷ 2049 ∷ 0 ∷ 1 ∷ 4 ∷ []; objects = false; bindings = false } ∷
    record { words = 257 ∷ 2049 ∷ 0 ∷ 1 ∷ []; objects = false; bindings = false } ∷
    []
