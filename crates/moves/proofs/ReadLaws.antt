-- What each return of a read comes to.
use mathlib.Core.Path.{◌≡◌, refl, sym, ap, ◌∙◌}
use mathlib.Core.List.{List}
use mathlib.Core.Option.{Option, none, some}
use Prim.Native.Nat.{ℕ, ◌+◌, ◌<◌}
use native.Mathlib.Omega.{arith}
use lib.ListN.{get_or}
use Rattle.words.specs.Word.{bytes}
use Rattle.limits.specs.Limits.{CLASS_FIELDS}
use Rattle.std.specs.declared.option.Option.{Option as CodeOption}
use Rattle.std.specs.declared.option.Option.TheVariants.{Some, None}
use Rattle.script.specs.Reading.{program_of}
use Rattle.sections.specs.Laid.{found_of}
use Rattle.members.proofs.LookupLaws.{found_at, found_nothing}
use Rattle.machine.specs.declared.Value.{Value}
use Rattle.machine.specs.declared.Value.TheVariants.{Null as nil}
use Rattle.machine.specs.declared.Frame.{Frame}
use Rattle.machine.specs.Config.{code_of, Code, Object, Stores, returning}
use Rattle.typing.specs.Members.{fields_of}
use Rattle.machine.specs.Machine.{object, field_value, still, moved, select_object}
use Rattle.classes.specs.Defined.{field_number}
use Rattle.moves.proofs.FieldValues.{value_at_lem, value_none}
use Rattle.block.specs.declared.Area.TheVariants.{Objects}
use Rattle.block.specs.Rows.{word_of}
use Rattle.block.specs.Layout.{word_in, CLASS, field_word}
use Rattle.block.specs.Values.{value_in}
use Rattle.block.specs.Block.{object_words, Parts, laid}
use Rattle.block.specs.Fits.{Few, StorableIn}
use Rattle.block.proofs.Values.{value_same, field_said, storable_at}
use Rattle.moves.specs.Performs.{OwnFields, value_found}
use Rattle.moves.proofs.Laws.{unbound_not, bound_same}
use Rattle.moves.proofs.TargetLaws.{object_in_lem, object_word}

-- the field f of the object o, which is y
module _ {b : List ℕ} (p : Parts) (y : Object) (is : b ≡ bytes (laid p)) (few : Few p) (s : List ℕ) (o f class : ℕ) (there : object p.objects o ≡ some y)
    (k : class ≡ word_in b Objects o CLASS) (place : CodeOption ℕ) (e : place ≡ found_of (field_number (fields_of (program_of s) class) f)) where
  placed : place ≡ found_of (field_number (fields_of (program_of s) y.class) f)
  placed = rw (object_word p y o CLASS class is few there (omega arith) k) at e

  pub field_missing : place ≡ None → None ≡ value_found (field_value (fields_of (program_of s) y.class) y.fields f)
  field_missing m = rw (value_none _ y.fields f (found_nothing (field_number (fields_of (program_of s) y.class) f) place placed m))

  pub field_found :
      (m : ℕ) (v : Value) → place ≡ Some m → m < CLASS_FIELDS → v ≡ value_in (word_in b Objects o) (field_word m)
      → StorableIn p Objects → OwnFields (code_of s) p.objects
      → Some v ≡ value_found (field_value (fields_of (program_of s) y.class) y.fields f)
  field_found m v at small i stored own =
      let number = found_at (field_number (fields_of (program_of s) y.class) f) place placed m at in
      let value : v ≡ get_or y.fields m nil =
      i
      ∙ value_same (word_in b Objects o) (word_of (object_words y)) (field_word m)
      (λ n k. object_word p y o (field_word m + n) (word_in b Objects o (field_word m + n)) is few there (omega arith) refl)
      ∙ field_said y m small (storable_at y.fields (stored y (object_in_lem p.objects o y there)) m)
      in
      rw (value_at_lem (fields_of (program_of s) y.class) y.fields f m number (own o y there)) (ap Some value)

-- what a look-up of a value told
no_value : (q : Option Value) (l : CodeOption Value) → l ≡ value_found q → l ≡ None → q ≡ none
no_value none l e h = refl
no_value (some v) l e h = absurd (unbound_not (sym h ∙ e))

a_value : (q : Option Value) (l : CodeOption Value) (v : Value) → l ≡ value_found q → l ≡ Some v → q ≡ some v
a_value none l v e h = absurd (unbound_not (sym e ∙ h))
a_value (some w) l v e h = ap some (bound_same (sym e ∙ h))

-- a read of that object gives the field, where there is one
module _ (s : Code) (st : Stores) (fs : List Frame) (f : ℕ) {q : Option Object} (y : Object) (field : CodeOption Value) (e : q ≡ some y)
    (g : field ≡ value_found (field_value (fields_of s.program y.class) y.fields f)) where
  pub reads_nothing : field ≡ None → select_object s st fs f q ≡ still
  reads_nothing m = rw (e, no_value (field_value (fields_of s.program y.class) y.fields f) field g m)

  pub reads : (w : Value) → field ≡ Some w → select_object s st fs f q ≡ moved st (returning w fs)
  reads w m = rw (e, a_value (field_value (fields_of s.program y.class) y.fields f) field w g m)
