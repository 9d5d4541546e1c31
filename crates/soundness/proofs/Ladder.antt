-- The sample of sixty-three joins, by computation: the definition looks a method up in them in few steps. Of the subtype walk in code this says nothing.
use mathlib.Core.Path.{◌≡◌, refl}
use Rattle.words.specs.Word.{word_at, bytes}
use Rattle.script.specs.Lists.{run, sum_below, named, count_in}
use Rattle.script.specs.Section.{sections, body_at, count_of, end_of, record_at, record_word}
use Rattle.script.specs.Syntax.{declaration_at}
use Rattle.script.specs.Reading.{kind_of, view_at, last_exprs, expr_at, own_signatures, own_fields, own_methods, signature_at, interface_at, field_at, method_at, class_at, program_of}
use Rattle.script.specs.Asking.{first_no, first_out_of, lowest_in}
use Rattle.script.specs.Questions.{length_test, within_test, counts_test, placed_from, places_test, interface_test, interfaces_test, owners_test, type_test, interface_type_test, class_type_test, types_test, all_of, parts_from, uses_in, node_test, nodes_test, run_start, has_name, fresh_test, names_test, layout_questions}
use Rattle.script.specs.declared.Question.TheVariants.{Members}
use Rattle.typing.specs.Answers.{refusal}
use Rattle.typing.specs.Members.{values_to, value_at, reach, below, meaning, own_method, method_in, type_in, field_in}
use Rattle.typing.specs.Typing.{without, fv, is_in, shares, answer, bodies_from, bodies_of, walk}
use Rattle.typing.specs.Check.{names_in, joins_test, classes_test, member_questions, check_of}
use Rattle.typing.specs.Ladder.{joins_on, ladder}

-- its method look-up fails, at the call
pub the_ladder : check_of ladder ≡ refusal Members 452
unfolding word_at bytes run sum_below named count_in sections body_at count_of end_of record_at record_word declaration_at kind_of view_at last_exprs expr_at own_signatures own_fields own_methods signature_at interface_at field_at method_at class_at program_of first_no first_out_of lowest_in length_test within_test counts_test placed_from places_test interface_test interfaces_test owners_test type_test interface_type_test class_type_test types_test all_of parts_from uses_in node_test nodes_test run_start has_name fresh_test names_test layout_questions values_to value_at reach below meaning own_method method_in type_in field_in without fv is_in shares answer bodies_from bodies_of walk names_in joins_test classes_test member_questions check_of joins_on ladder
the_ladder = refl
