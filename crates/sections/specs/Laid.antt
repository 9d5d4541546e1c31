-- What code may rely on: a script whose contents are in order, and the owners of its records.
use Rattle.std.specs.Prelude.{ℕ, ◌-◌, Bool, not, List, [], ◌∷◌, eqb}
use Rattle.std.proofs.Props.{props}
use Rattle.limits.specs.Limits.{CONTENTS}
use Rattle.std.proofs.Math.Option.{Option, none, some}
use Rattle.std.specs.declared.option.Option.{Option as CodeOption}
use Rattle.std.specs.declared.option.Option.TheVariants.{Some, None}
use Rattle.std.specs.declared.result.Result.{Result}
use Rattle.std.specs.declared.result.Result.TheVariants.{Ok, Err}
use Rattle.script.specs.Lists.{sum_below}
use Rattle.script.specs.declared.Section.{Section}
use Rattle.script.specs.declared.Section.TheVariants.{Interfaces as interfaces, Signatures as signatures, Classes as classes, Fields as fields}
use Rattle.script.specs.declared.Section.TheVariants.{Methods as methods, Nodes as nodes}
use Rattle.script.specs.Section.{sections, count_of, end_of, record_word}
use Rattle.script.specs.Reading.{own_signatures, own_fields, own_methods}
use Rattle.script.specs.Questions.{has_name, fresh_test}
use Rattle.script.specs.Statements.{LengthIs, CountsAre, Placed, PlacesAre}

-- Questions 1 to 3 got a yes: every record that the contents count lies within the file.
pub record Laid (s : List ℕ) : Type 0 where
  pub length_is : LengthIs s
  pub counts_are : CountsAre s
  pub places_are : PlacesAre s

-- Any two proofs of it are equal, as a ghost field asks.
Placed-prop : (s : List ℕ) (at : ℕ) (ks : List Section) → IsProp (Placed s at ks)
Placed-prop s at [] = Prim.hlevel props
Placed-prop s at (k ∷ ks) = Prim.hlevel (props, Placed-prop s (end_of s k) ks)

pub Laid-prop : (s : List ℕ) → IsProp (Laid s)
Laid-prop s = let places : IsProp (PlacesAre s) = Placed-prop s CONTENTS sections in Prim.hlevel (props, places)

-- The section whose records own those of section k, and how many of them belong to owner o: "Runs of signatures, fields and methods belong to their owners in
-- order."
abbrev pub owner_of : Section → Section
owner_of interfaces = interfaces
owner_of signatures = interfaces
owner_of classes = classes
owner_of fields = classes
owner_of methods = classes
owner_of nodes = nodes

abbrev pub own_of : List ℕ → Section → ℕ → ℕ
own_of s interfaces o = 0
own_of s signatures o = own_signatures s o
own_of s classes o = 0
own_of s fields o = own_fields s o
own_of s methods o = own_methods s o
own_of s nodes o = 0

abbrev pub owned_test : List ℕ → Section → Bool
owned_test s k = eqb (sum_below (own_of s k) (count_of s (owner_of k))) (count_of s k)

-- What a search finds, as the code says it.
abbrev pub found_of : Option ℕ → CodeOption ℕ
found_of none = None
found_of (some i) = Some i

-- What a question gets that has a place for its no, as the code says it: a yes, or a no at this place.
abbrev pub passed_of : Option ℕ → Result (Unit {0}) ℕ
passed_of none = Ok tt
passed_of (some place) = Err place

-- The name of record j of section k, one of those whose records begin with a name.
abbrev pub name_of : List ℕ → Section → ℕ → ℕ
name_of s k j = record_word s k j 0

-- Has record i of section k another name than x?
abbrev pub other_name : List ℕ → Section → ℕ → ℕ → Bool
other_name s k x i = not (eqb (name_of s k i) x)

-- Has none of the records from `start` on before record i the name of record i?
abbrev pub new_in : (ℕ → ℕ) → ℕ → ℕ → Bool
new_in name start i = not (has_name name (name i) start (i - start))

-- Has no earlier record of its owner the name of record i of section k?
abbrev pub fresh_in : List ℕ → Section → ℕ → Bool
fresh_in s k i = fresh_test (name_of s k) (own_of s k) (count_of s (owner_of k)) i
