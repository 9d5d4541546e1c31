use Rattle.moves.proofs.Laws.{unbound_not, bound_same}
use Rattle.moves.proofs.ReadLaws as laws
use Rattle.moves.proofs.fields.field_value.Goals as goal

pub returns-in_err-k : goal.returns-in_err-k
returns-in_err-k c =
    rw c.from_residual.ensures (record { value = λ p y is few stored own there. laws.field_missing p y is few _ _ _ _ there c.word-class.ensures.0 _ c.field_place.ensures.value c.in_err-k.was; storable = λ v e. absurd (unbound_not e) })

pub field-requires : goal.field-requires
field-requires c =
    (c.requires, c.field_place.ensures.by_index _ c.in_ok-k.was)

pub returns : goal.returns
returns c =
    record { value = λ p y is few stored own there. laws.field_found p y is few _ _ _ _ there c.word-class.ensures.0 _ c.field_place.ensures.value _ _ c.in_ok-k.was (c.field_place.ensures.by_index _ c.in_ok-k.was) c.field.ensures.0 stored own; storable = λ v e. rw (← bound_same e) c.field.ensures.1 }
