-- Any two proofs that a script is within layout and limits are equal, as a ghost field asks.
use Rattle.std.specs.Prelude.{ℕ, ◌≡◌, List, [], ◌∷◌}
use Rattle.std.proofs.Common.{arith}
use Rattle.std.proofs.Props.{props}
use Rattle.limits.specs.Limits.{CONTENTS}
use Rattle.script.specs.declared.Role.{Role}
use Rattle.script.specs.declared.Role.TheVariants.{Unused, Variable, Member, Bound, NewClass, CastType, Expression, Constant, Unknown}
use Rattle.script.specs.declared.Section.{Section}
use Rattle.script.specs.declared.Section.TheVariants.{Interfaces as interfaces}
use Rattle.script.specs.Section.{sections, end_of, record_word}
use Rattle.script.specs.Statements.{WithinLayout, Earlier, InterfaceIs, a_list, a_join, TypeWordIs, WordIs, Placed, PlacesAre}

TypeWordIs-prop : (s : List ℕ) (r : Role) (w : ℕ) → IsProp (TypeWordIs s r w)
TypeWordIs-prop s Unused w = Prim.hlevel props
TypeWordIs-prop s Variable w = Prim.hlevel props
TypeWordIs-prop s Member w = Prim.hlevel props
TypeWordIs-prop s Bound w = Prim.hlevel props
TypeWordIs-prop s NewClass w = Prim.hlevel props
TypeWordIs-prop s CastType w = Prim.hlevel props
TypeWordIs-prop s Expression w = Prim.hlevel props
TypeWordIs-prop s Constant w = Prim.hlevel props
TypeWordIs-prop s Unknown w = Prim.hlevel props

WordIs-prop : (s : List ℕ) (n : ℕ) (r : Role) (w : ℕ) → IsProp (WordIs s n r w)
WordIs-prop s n Unused w = Prim.hlevel props
WordIs-prop s n Variable w = Prim.hlevel props
WordIs-prop s n Member w = Prim.hlevel props
WordIs-prop s n Bound w = Prim.hlevel props
WordIs-prop s n NewClass w = Prim.hlevel props
WordIs-prop s n CastType w = Prim.hlevel props
WordIs-prop s n Expression w = Prim.hlevel props
WordIs-prop s n Constant w = Prim.hlevel props
WordIs-prop s n Unknown w = Prim.hlevel props

-- Of one record one form only is told, and no form in two ways.
InterfaceIs-prop : (s : List ℕ) (i : ℕ) → IsProp (InterfaceIs s i)
InterfaceIs-prop s i (a_list f u) (a_list g v) =
    let form : IsProp (record_word s interfaces i 0 ≡ 0) = Prim.hlevel props in
    let last : IsProp (record_word s interfaces i 2 ≡ 0) = Prim.hlevel props in
    λ k. a_list (form f g k) (last u v k)
InterfaceIs-prop s i (a_list f u) (a_join g a b) = absurd (omega arith)
InterfaceIs-prop s i (a_join f a b) (a_list g v) = absurd (omega arith)
InterfaceIs-prop s i (a_join f a b) (a_join g c d) =
    let form : IsProp (record_word s interfaces i 0 ≡ 1) = Prim.hlevel props in
    let left : IsProp (Earlier i (record_word s interfaces i 1)) = Prim.hlevel props in
    let right : IsProp (Earlier i (record_word s interfaces i 2)) = Prim.hlevel props in
    λ k. a_join (form f g k) (left a c k) (right b d k)

Placed-prop : (s : List ℕ) (at : ℕ) (ks : List Section) → IsProp (Placed s at ks)
Placed-prop s at [] = Prim.hlevel props
Placed-prop s at (k ∷ ks) = Prim.hlevel (props, Placed-prop s (end_of s k) ks)

pub WithinLayout-prop : (s : List ℕ) → IsProp (WithinLayout s)
WithinLayout-prop s =
    let places : IsProp (PlacesAre s) = Placed-prop s CONTENTS sections in
    Prim.hlevel (props, TypeWordIs-prop, WordIs-prop, InterfaceIs-prop, places)
