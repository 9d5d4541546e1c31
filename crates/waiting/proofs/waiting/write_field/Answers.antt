use Rattle.waiting.proofs.WaitingLaws.{writes_none, writes}
use Rattle.waiting.proofs.waiting.write_field.Goals as goal

pub returns-in_default : goal.returns-in_default
returns-in_default c =
    λ i rest st u y s own h. writes_none s _ _ _ _ _ y h c.word-class.ensures.0 _ c.field_place.ensures.value c.in_default.is

pub put_field-requires : goal.put_field-requires
put_field-requires c =
    let pre = c.requires in (pre.0, c.field_place.ensures.by_index _ c.in-Some.is)

pub returns-in-Some : goal.returns-in-Some
returns-in-Some c =
    λ i rest st u y s own h. writes s _ _ _ _ _ y h c.word-class.ensures.0 _ c.field_place.ensures.value _ (own _ y h) c.in-Some.is c.requires.1 c.put_field.ensures
