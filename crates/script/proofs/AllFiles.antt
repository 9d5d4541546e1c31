-- The table of files holds, by computation: a row that does not is refused at its own `refl`, with the two values.
use mathlib.Core.Path.{refl}
use Rattle.words.specs.Word.{word_at, bytes}
use Rattle.script.specs.Lists.{◌∈◌, Every, run, sum_below, count_in}
use Rattle.script.specs.Section.{sections, body_at, count_of, end_of, record_at, record_word}
use Rattle.script.specs.Reading.{kind_of, view_at, own_signatures, own_fields, own_methods}
use Rattle.script.specs.Asking.{first_no, first_out_of, lowest_in}
use Rattle.script.specs.Questions.{length_test, within_test, counts_test, placed_from, places_test, interface_test, interfaces_test, owners_test, type_test, interface_type_test, class_type_test, types_test, parts_from, uses_in, node_test, nodes_test, run_start, has_name, fresh_test, names_test, layout_questions}
use Rattle.script.specs.AllFiles.{file_of, FileExample, FileHolds, file_examples}
use Rattle.script.proofs.Lists.{every_in}

files : Every (λ x. FileHolds x) file_examples
unfolding word_at bytes run sum_below count_in sections body_at count_of end_of record_at record_word kind_of view_at own_signatures own_fields own_methods first_no first_out_of lowest_in length_test within_test counts_test placed_from places_test interface_test interfaces_test owners_test type_test interface_type_test class_type_test types_test parts_from uses_in node_test nodes_test run_start has_name fresh_test names_test layout_questions file_of file_examples
files =
    (refl, (refl, (refl, (refl, (refl, (refl, (refl, (refl, (refl, (refl, (refl, (refl, (refl, (refl, (refl, (refl, (refl, (refl, tt))))))))))))))))))

pub all_file_examples : (x : FileExample) → x ∈ file_examples → FileHolds x
all_file_examples x m = every_in (λ x. FileHolds x) file_examples files x m
