use native.Mathlib.Omega.{arith}
use mathlib.Core.Path.{refl}
use Rattle.script.specs.declared.Kind.TheVariants.{Fork}
use Rattle.script.proofs.Reading.{first, second, kind_read, number_is, other_number}
use Rattle.masks.proofs.FreeLaws.{part_of, part_within, mark_other, mark_same, mark_new}
use Rattle.masks.proofs.masks.mark_of.Goals as goal

pub returns-in_default : goal.returns-in_default
returns-in_default c =
    record { by_index = mark_other _ c.args.masks.now _ _ (other_number Fork c.record_word.ensures.0 c.kind_of.ensures c.in_default.not-Fork); value = λ f. refl }

pub part_mask-a-requires : goal.part_mask-a-requires
part_mask-a-requires c =
    (c.requires.0, omega arith, part_within _ c.args.script.now.within_layout c.args.masks.now _ _ c.requires.1 c.requires.0 (part_of _ _ Fork _ (kind_read c.record_word.ensures.0 c.kind_of.ensures c.in-Fork.is) first))

pub part_mask-b-requires : goal.part_mask-b-requires
part_mask-b-requires c =
    (c.requires.0, omega arith, part_within _ c.args.script.now.within_layout c.args.masks.now _ _ c.requires.1 c.requires.0 (part_of _ _ Fork _ (kind_read c.record_word.ensures.0 c.kind_of.ensures c.in-Fork.is) second))

pub returns-then-a-b-eq0 : goal.returns-then-a-b-eq0
returns-then-a-b-eq0 c =
    let fork = number_is _ Fork (kind_read c.record_word.ensures.0 c.kind_of.ensures c.in-Fork.is) tt in
    record { by_index = mark_same _ c.args.masks.now _ _ c.args.script.now.within_layout c.requires.0 _ _ fork c.part_mask-a.ensures c.part_mask-b.ensures c.if-a-b-eq0.true; value = λ f. refl }

pub returns : goal.returns
returns c =
    let fork = number_is _ Fork (kind_read c.record_word.ensures.0 c.kind_of.ensures c.in-Fork.is) tt in
    record {
      by_index = mark_new _ c.args.masks.now _ _ c.args.script.now.within_layout c.requires.0 _ _ fork c.part_mask-a.ensures c.part_mask-b.ensures (omega (arith, c.part_mask-a.type_inv)) c.if-a-b-eq0.false;
      value = λ f. absurd (f (c.requires.0, fork));
    }
