use Rattle.token_words.specs.Whole.{items_in}
use lib.ListN.{length}
use Rattle.section_rows.proofs.AppendLaws.{Appending}
use Rattle.section_rows.proofs.append.append_plain.Given as goal

abbrev pub invariant-loop-i : goal.invariant-loop-i
invariant-loop-i l =
    let t = l.source.records.items in
    Appending t.tokens.roles.now (items_in t) l.section t.types 0 (length t.tokens.roles.now) 0 l.initial.output l.output l.i-index
