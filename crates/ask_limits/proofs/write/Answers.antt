use Rattle.std.proofs.Common.{sym, arith}
use Rattle.ask_limits.proofs.WriteLaws.{small, value_each, few_tokens, starts_within, counted, few_records, few_types, file_read_lem}
use Rattle.ask_limits.proofs.write.Goals as goal

pub slice_bounds-items-end : goal.slice_bounds-items-end
slice_bounds-items-end c = sym (value_each c.requires)

pub types-requires : goal.types-requires
types-requires c = omega (arith, few_types c.requires)

pub invariant_of-items : goal.invariant_of-items
invariant_of-items c =
    let j = c.requires in
    record { small = small j; few_types = rw c.types.ensures (few_types j); few_tokens = few_tokens j; value_each = value_each j }

pub invariant_of-records : goal.invariant_of-records
invariant_of-records c =
    let j = c.requires in
    record { indexed = j.indexed; counted = counted j; few_records = few_records j; types_are = c.types.ensures }

pub write_file-requires-clause-starts : goal.write_file-requires-clause-starts
write_file-requires-clause-starts c = starts_within c.requires

pub returns : goal.returns
returns c =
    file_read_lem c.requires c.write_file.ensures
