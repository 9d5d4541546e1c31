use native.Mathlib.Omega.{arith}
use mathlib.Core.Path.{refl}
use mathlib.Core.Logic.{⊎_elim}
use Rattle.script.specs.declared.Kind.TheVariants.{Null, Update, Call, Let, Cast, Constant}
use Rattle.script.proofs.Reading.{first, kind_read}
use Rattle.silent.proofs.CountLaws.{count_end, count_rest, descends_by}
use Rattle.silent.proofs.node_count.Goals as goal

pub descent_count-requires : goal.descent_count-requires
descent_count-requires c = (
  c.requires,
  ⊎_elim
      (λ e. descends_by c.requires Update 3 (kind_read c.record_word.ensures.0 c.kind_of.ensures e) (omega arith) first refl)
      (λ e. descends_by c.requires Call 3 (kind_read c.record_word.ensures.0 c.kind_of.ensures e) (omega arith) first refl)
      c.in-Update.is,
)

pub descent_count-requires-in-Let : goal.descent_count-requires-in-Let
descent_count-requires-in-Let c =
    (c.requires, descends_by c.requires Let 2 (kind_read c.record_word.ensures.0 c.kind_of.ensures c.in-Let.is) (omega arith) first refl)

pub descent_count-requires-in-Cast : goal.descent_count-requires-in-Cast
descent_count-requires-in-Cast c =
    (c.requires, descends_by c.requires Cast 2 (kind_read c.record_word.ensures.0 c.kind_of.ensures c.in-Cast.is) (omega arith) first refl)

pub returns-in-Null : goal.returns-in-Null
returns-in-Null c =
    count_end c.requires Null 1 (kind_read c.record_word.ensures.0 c.kind_of.ensures c.in-Null.is) (omega arith) refl

pub returns-in-Constant : goal.returns-in-Constant
returns-in-Constant c =
    count_end c.requires Constant 1 (kind_read c.record_word.ensures.0 c.kind_of.ensures c.in-Constant.is) (omega arith) refl

pub returns-in_default : goal.returns-in_default
returns-in_default c =
    let n = c.in_default in
    count_rest c.requires c.kind_of.result (kind_read c.record_word.ensures.0 c.kind_of.ensures refl) n.not-Null n.not-Constant n.not-Update n.not-Call n.not-Let n.not-Cast
