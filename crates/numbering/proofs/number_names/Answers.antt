use Rattle.std.proofs.Common.{rules, ◌≡◌, length, arith, refl, ◌∙◌}
use Rattle.numbering.proofs.Chains.{follows}
use Rattle.numbering.proofs.NumberLaws.{going_on, number_none, held_of, number_few}
use Rattle.numbering.proofs.number_names.Goals as goal

pub loop-i-init : goal.loop-i-init
loop-i-init g c =
    let k = c.args.linked.now in
    let pre = c.requires in
    going_on _ _ _ _ _ _ (omega arith) (omega (arith, k.tokens.offset_each)) _ c.args.table.now refl (rw c.of-i.ensures (k.chains_are.each c.args.sort).begins)
    (number_none _ _ _ _ _ c.args.table.now pre.table_holds.0 pre.table_holds.1)

pub number_token-requires : goal.number_token-requires
number_token-requires g c =
    let pre = c.requires in
    let l = c.loop-i.invariant in (
      search (rules, c.loop-i.table.small),
      ((omega arith, omega (arith, l.values_long, pre.room.0), omega (arith, pre.room.1)), (l.named c.loop-i-test.true, (held_of l.so_far, number_few (omega arith) l.so_far))),
    )

pub loop-i-preserved : goal.loop-i-preserved
loop-i-preserved g c =
    let k = c.args.linked.now in
    let test = c.loop-i-test in
    let l = c.loop-i.invariant in
    going_on _ _ _ _ _ _ (omega arith) (omega (arith, k.tokens.offset_each)) _ c.number_token.new.table (c.number_token.auto.values ∙ l.values_long)
    (follows (k.chains_are.each c.args.sort) test.true (l.named test.true) c.next_in-i.ensures) (c.number_token.ensures _ l.so_far)

pub next_in-i-requires : goal.next_in-i-requires
next_in-i-requires g c =
    omega (arith, (c.args.linked.now.chains_are.each c.args.sort).room, c.loop-i-test.true)
