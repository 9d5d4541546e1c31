-- The kinds and a script with every section are read as their tables say, by computation: a row that is not is refused at its own `refl`, with the two values.
use mathlib.Core.Path.{◌≡◌, refl}
use Rattle.words.specs.Word.{word_at, bytes}
use Rattle.words.specs.Integer.{integer}
use Rattle.script.specs.Lists.{Every, run, sum_below}
use Rattle.script.specs.Section.{body_at, count_of, record_at, record_word}
use Rattle.script.specs.Reading.{kind_of, view_at, last_exprs, expr_at, own_signatures, own_fields, own_methods, signature_at, interface_at, field_at, method_at, class_at, program_of}
use Rattle.script.specs.Questions.{type_test, class_type_test}
use Rattle.script.specs.KindTable.{passing, kind_rows, kind_read, every_section, every_section_read}

pub all_kinds : Every (λ x. kind_read x ≡ x) kind_rows
unfolding word_at bytes integer body_at count_of record_at record_word kind_of view_at type_test class_type_test passing kind_rows
all_kinds = (refl, (refl, (refl, (refl, (refl, (refl, (refl, (refl, (refl, (refl, (refl, (refl, (refl, tt)))))))))))))

pub every_section_read_lem : program_of every_section ≡ every_section_read
unfolding word_at bytes integer run sum_below body_at count_of record_at record_word kind_of view_at last_exprs expr_at own_signatures own_fields own_methods signature_at interface_at field_at method_at class_at program_of every_section
every_section_read_lem = refl
