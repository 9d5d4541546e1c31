use borrow.Author.Rules.{rules}
use Rattle.std.proofs.lemmas.Result.{err_from_is_err_and}
use lib.Dec.{leb}
use Rattle.limits.specs.Limits.{CLASS_FIELDS}
use Rattle.script.specs.Reading.{own_fields}
use Rattle.script.specs.Questions.{names_test}
use Rattle.sections.proofs.Search.{lowest_found, lowest_later}
use Rattle.records.proofs.names.check_names.Goals as goal

pub returns-in_err-check_fresh : goal.returns-in_err-check_fresh
unfolding names_test
returns-in_err-check_fresh c =
    let s = c.args.file.now.bytes.now in
    let p = err_from_is_err_and c.from_residual.result c.from_residual.ensures.1 in
    rw (p.1, p.2)
    (lowest_found _ _ _ _ _ c.check_fresh.ensures _ c.in_err-check_fresh.was)

pub returns-in_err-check_each : goal.returns-in_err-check_each
unfolding names_test
returns-in_err-check_each c =
    let s = c.args.file.now.bytes.now in
    let p = err_from_is_err_and c.from_residual-in_err-check_each.result c.from_residual-in_err-check_each.ensures.1 in
    rw (p.1, p.2)
    (lowest_later _ _ _ _ _ c.check_fresh.ensures _ c.in_ok-check_fresh.was
    (lowest_found _ _ _ _ _ (c.check_each.ensures (λ i. leb (own_fields s i) CLASS_FIELDS) (λ i fit h k. search rules)) _ c.in_err-check_each.was))

pub returns-in_err-check_fresh-2 : goal.returns-in_err-check_fresh-2
unfolding names_test
returns-in_err-check_fresh-2 c =
    let s = c.args.file.now.bytes.now in
    let p = err_from_is_err_and c.from_residual-in_err-check_fresh-2.result c.from_residual-in_err-check_fresh-2.ensures.1 in
    rw (p.1, p.2)
    (lowest_later _ _ _ _ _ c.check_fresh.ensures _ c.in_ok-check_fresh.was
    (lowest_later _ _ _ _ _ (c.check_each.ensures (λ i. leb (own_fields s i) CLASS_FIELDS) (λ i fit h k. search rules)) _ c.in_ok-check_each.was
    (lowest_found _ _ _ _ _ c.check_fresh-2.ensures _ c.in_err-check_fresh-2.was)))

pub returns : goal.returns
unfolding names_test
returns c =
    let s = c.args.file.now.bytes.now in
    lowest_later _ _ _ _ _ c.check_fresh.ensures _ c.in_ok-check_fresh.was
    (lowest_later _ _ _ _ _ (c.check_each.ensures (λ i. leb (own_fields s i) CLASS_FIELDS) (λ i fit h k. search rules)) _ c.in_ok-check_each.was
    (lowest_later _ _ _ _ _ c.check_fresh-2.ensures _ c.in_ok-check_fresh-2.was
    c.check_fresh-3.ensures))
