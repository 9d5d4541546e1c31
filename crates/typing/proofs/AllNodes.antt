-- The tables of examples about nodes, bodies and questions hold, by computation.
use mathlib.Core.Path.{refl}
use Rattle.words.specs.Word.{word_at, bytes}
use Rattle.script.specs.Lists.{◌∈◌, Every, run, sum_below, named, count_in}
use Rattle.script.specs.Section.{sections, body_at, count_of, end_of, record_at, record_word}
use Rattle.script.specs.Syntax.{declaration_at}
use Rattle.script.specs.Reading.{kind_of, view_at, last_exprs, expr_at, own_signatures, own_fields, own_methods, signature_at, interface_at, field_at, method_at, class_at, program_of}
use Rattle.script.specs.Asking.{first_no, first_out_of, lowest_in}
use Rattle.script.specs.Questions.{length_test, within_test, counts_test, placed_from, places_test, interface_test, interfaces_test, owners_test, type_test, interface_type_test, class_type_test, types_test, all_of, parts_from, uses_in, node_test, nodes_test, run_start, has_name, fresh_test, names_test, layout_questions}
use Rattle.script.specs.AllFiles.{file_of}
use Rattle.script.proofs.Lists.{every_in}
use Rattle.typing.specs.Members.{values_to, value_at, reach, below, meaning, own_method, method_in, type_in, field_in}
use Rattle.typing.specs.Typing.{without, fv, is_in, shares, answer, bodies_from, bodies_of, walk}
use Rattle.typing.specs.Check.{names_in, joins_test, classes_test, member_questions, check_of}
use Rattle.typing.specs.AllNodes.{NodeExample, NodeHolds, node_examples, WalkExample, WalkHolds, walk_examples, CheckExample, CheckHolds, check_examples}

nodes : Every (λ x. NodeHolds x) node_examples
unfolding named declaration_at values_to value_at reach below meaning own_method method_in type_in field_in without fv is_in shares answer node_examples
nodes =
    (refl, (refl, (refl, (refl, (refl, (refl, (refl, (refl, (refl, (refl, (refl, (refl, (refl, (refl, (refl, (refl, (refl, (refl, (refl, (refl, (refl, (refl, (refl, (refl, (refl, (refl, (refl, (refl, (refl, (refl, (refl, (refl, (refl, (refl, (refl, (refl, (refl, (refl, (refl, (refl, (refl, (refl, (refl, (refl, (refl, (refl, (refl, (refl, tt))))))))))))))))))))))))))))))))))))))))))))))))

walks : Every (λ x. WalkHolds x) walk_examples
unfolding named declaration_at values_to value_at reach below meaning own_method method_in type_in field_in without fv is_in shares answer bodies_from bodies_of walk walk_examples
walks =
    (refl, (refl, (refl, (refl, (refl, (refl, tt))))))

checks : Every (λ x. CheckHolds x) check_examples
unfolding word_at bytes run sum_below named count_in sections body_at count_of end_of record_at record_word declaration_at kind_of view_at last_exprs expr_at own_signatures own_fields own_methods signature_at interface_at field_at method_at class_at program_of first_no first_out_of lowest_in length_test within_test counts_test placed_from places_test interface_test interfaces_test owners_test type_test interface_type_test class_type_test types_test all_of parts_from uses_in node_test nodes_test run_start has_name fresh_test names_test layout_questions file_of values_to value_at reach below meaning own_method method_in type_in field_in without fv is_in shares answer bodies_from bodies_of walk names_in joins_test classes_test member_questions check_of check_examples
checks =
    (refl, (refl, (refl, (refl, tt))))

-- the three tables
pub all_node_examples : (x : NodeExample) → x ∈ node_examples → NodeHolds x
all_node_examples x m = every_in (λ x. NodeHolds x) node_examples nodes x m

pub all_walk_examples : (x : WalkExample) → x ∈ walk_examples → WalkHolds x
all_walk_examples x m = every_in (λ x. WalkHolds x) walk_examples walks x m

pub all_check_examples : (x : CheckExample) → x ∈ check_examples → CheckHolds x
all_check_examples x m = every_in (λ x. CheckHolds x) check_examples checks x m
