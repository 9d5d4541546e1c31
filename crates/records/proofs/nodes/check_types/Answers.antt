use borrow.Author.Rules.{rules}
use Rattle.std.proofs.lemmas.Result.{err_from_is_err_and}
use Rattle.script.specs.declared.Section.TheVariants.{Signatures as signatures, Classes as classes, Fields as fields, Methods as methods}
use Rattle.script.specs.Section.{record_word}
use Rattle.script.specs.Questions.{types_test, two_types_test, interface_type_test, type_test, words_test, type_word_test}
use Rattle.sections.proofs.Search.{lowest_found, lowest_later}
use Rattle.records.proofs.nodes.check_types.Goals as goal

pub returns-in_err-check_each : goal.returns-in_err-check_each
unfolding types_test
returns-in_err-check_each c =
    let s = c.args.file.now.bytes.now in
    let p = err_from_is_err_and c.from_residual.result c.from_residual.ensures.1 in
    rw (p.1, p.2)
    (lowest_found _ _ _ _ _ (c.check_each.ensures (two_types_test s signatures) (λ i fit h k. search rules)) _ c.in_err-check_each.was)

pub returns-in_err-check_each-2 : goal.returns-in_err-check_each-2
unfolding types_test
returns-in_err-check_each-2 c =
    let s = c.args.file.now.bytes.now in
    let p = err_from_is_err_and c.from_residual-in_err-check_each-2.result c.from_residual-in_err-check_each-2.ensures.1 in
    rw (p.1, p.2)
    (lowest_later _ _ _ _ _ (c.check_each.ensures (two_types_test s signatures) (λ i fit h k. search rules)) _ c.in_ok-check_each.was
    (lowest_found _ _ _ _ _ (c.check_each-2.ensures (λ i. interface_type_test s (record_word s classes i 0)) (λ i fit h k. search rules)) _ c.in_err-check_each-2.was))

pub returns-in_err-check_each-3 : goal.returns-in_err-check_each-3
unfolding types_test
returns-in_err-check_each-3 c =
    let s = c.args.file.now.bytes.now in
    let p = err_from_is_err_and c.from_residual-in_err-check_each-3.result c.from_residual-in_err-check_each-3.ensures.1 in
    rw (p.1, p.2)
    (lowest_later _ _ _ _ _ (c.check_each.ensures (two_types_test s signatures) (λ i fit h k. search rules)) _ c.in_ok-check_each.was
    (lowest_later _ _ _ _ _ (c.check_each-2.ensures (λ i. interface_type_test s (record_word s classes i 0)) (λ i fit h k. search rules)) _ c.in_ok-check_each-2.was
    (lowest_found _ _ _ _ _ (c.check_each-3.ensures (λ i. type_test s (record_word s fields i 1)) (λ i fit h k. search rules)) _ c.in_err-check_each-3.was)))

pub returns-in_err-check_each-4 : goal.returns-in_err-check_each-4
unfolding types_test
returns-in_err-check_each-4 c =
    let s = c.args.file.now.bytes.now in
    let p = err_from_is_err_and c.from_residual-in_err-check_each-4.result c.from_residual-in_err-check_each-4.ensures.1 in
    rw (p.1, p.2)
    (lowest_later _ _ _ _ _ (c.check_each.ensures (two_types_test s signatures) (λ i fit h k. search rules)) _ c.in_ok-check_each.was
    (lowest_later _ _ _ _ _ (c.check_each-2.ensures (λ i. interface_type_test s (record_word s classes i 0)) (λ i fit h k. search rules)) _ c.in_ok-check_each-2.was
    (lowest_later _ _ _ _ _ (c.check_each-3.ensures (λ i. type_test s (record_word s fields i 1)) (λ i fit h k. search rules)) _ c.in_ok-check_each-3.was
    (lowest_found _ _ _ _ _ (c.check_each-4.ensures (two_types_test s methods) (λ i fit h k. search rules)) _ c.in_err-check_each-4.was))))

pub returns : goal.returns
unfolding types_test
returns c =
    let s = c.args.file.now.bytes.now in
    lowest_later _ _ _ _ _ (c.check_each.ensures (two_types_test s signatures) (λ i fit h k. search rules)) _ c.in_ok-check_each.was
    (lowest_later _ _ _ _ _ (c.check_each-2.ensures (λ i. interface_type_test s (record_word s classes i 0)) (λ i fit h k. search rules)) _ c.in_ok-check_each-2.was
    (lowest_later _ _ _ _ _ (c.check_each-3.ensures (λ i. type_test s (record_word s fields i 1)) (λ i fit h k. search rules)) _ c.in_ok-check_each-3.was
    (lowest_later _ _ _ _ _ (c.check_each-4.ensures (two_types_test s methods) (λ i fit h k. search rules)) _ c.in_ok-check_each-4.was
    (c.check_each-5.ensures (words_test s (type_word_test s)) (λ i fit h k. search rules)))))
