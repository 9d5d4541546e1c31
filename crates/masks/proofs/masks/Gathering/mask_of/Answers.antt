use native.Mathlib.Omega.{arith}
use mathlib.Core.Logic.{⊎_elim}
use Rattle.script.specs.declared.Kind.TheVariants.{Null, Update, Call, New, Cast, Lock, Constant, Unknown}
use Rattle.script.proofs.Reading.{first, kind_read}
use Rattle.masks.proofs.FreeLaws.{naming, part_of, part_within, fact_within, closed_null, closed_new, closed_constant, closed_unknown}
use Rattle.masks.proofs.FreeLaws.{mask_var, mask_select, mask_update, mask_call, mask_lock, mask_cast, mask_rest}
use Rattle.masks.proofs.masks.Gathering.mask_of.Goals as goal

pub overflow_mul-n : goal.overflow_mul-n
overflow_mul-n c =
    omega (arith, fact_within _ _ _ _ _ c.requires, c.requires.ranked.size)

pub name_mask-requires : goal.name_mask-requires
name_mask-requires c =
    omega (arith, fact_within _ _ _ _ _ c.requires)

pub use_mask-requires-clause-ahead : goal.use_mask-requires-clause-ahead
use_mask-requires-clause-ahead c = (
  c.requires,
  ⊎_elim
      (λ e. naming _ _ Update 0 (kind_read c.record_word.ensures.0 c.kind_of.ensures e) (omega arith) c.requires.there)
      (λ e. naming _ _ Call 0 (kind_read c.record_word.ensures.0 c.kind_of.ensures e) (omega arith) c.requires.there)
      c.in-Update.is,
)

pub use_mask-requires-clause-j_bound : goal.use_mask-requires-clause-j_bound
use_mask-requires-clause-j_bound c =
    (omega arith, ⊎_elim (λ e. part_of _ _ Update _ (kind_read c.record_word.ensures.0 c.kind_of.ensures e) first) (λ e. part_of _ _ Call _ (kind_read c.record_word.ensures.0 c.kind_of.ensures e) first) c.in-Update.is)

pub let_mask-requires : goal.let_mask-requires
let_mask-requires c =
    (c.requires, kind_read c.record_word.ensures.0 c.kind_of.ensures c.in-Let.is)

pub part_mask-requires : goal.part_mask-requires
part_mask-requires c =
    (c.requires.there, omega arith, part_within _ c.requires.layout c.args.self.now.masks.now _ _ c.requires.size c.requires.there (part_of _ _ Cast _ (kind_read c.record_word.ensures.0 c.kind_of.ensures c.in-Cast.is) first))

pub fork_mask-requires : goal.fork_mask-requires
fork_mask-requires c =
    (c.requires, kind_read c.record_word.ensures.0 c.kind_of.ensures c.in-Fork.is)

pub use_mask-requires-in-Lock-clause-ahead : goal.use_mask-requires-in-Lock-clause-ahead
use_mask-requires-in-Lock-clause-ahead c =
    (c.requires, naming _ _ Lock 0 (kind_read c.record_word.ensures.0 c.kind_of.ensures c.in-Lock.is) (omega arith) c.requires.there)

pub use_mask-requires-in-Lock-clause-j_bound : goal.use_mask-requires-in-Lock-clause-j_bound
use_mask-requires-in-Lock-clause-j_bound c =
    (omega arith, part_of _ _ Lock _ (kind_read c.record_word.ensures.0 c.kind_of.ensures c.in-Lock.is) first)

pub sum_mask-requires : goal.sum_mask-requires
sum_mask-requires c =
    (c.requires, kind_read c.record_word.ensures.0 c.kind_of.ensures c.in-Sum.is)

pub returns-in-Variable : goal.returns-in-Variable
returns-in-Variable c =
    ⊎_elim
    (λ e. mask_var _ _ _ _ _ c.requires _ (kind_read c.record_word.ensures.0 c.kind_of.ensures e) c.name_mask.ensures)
    (λ e. mask_select _ _ _ _ _ c.requires _ (kind_read c.record_word.ensures.0 c.kind_of.ensures e) c.name_mask.ensures)
    c.in-Variable.is

pub returns-in-Update : goal.returns-in-Update
returns-in-Update c =
    ⊎_elim
    (λ e. mask_update _ _ _ _ _ c.requires _ (kind_read c.record_word.ensures.0 c.kind_of.ensures e) c.use_mask.ensures)
    (λ e. mask_call _ _ _ _ _ c.requires _ (kind_read c.record_word.ensures.0 c.kind_of.ensures e) c.use_mask.ensures)
    c.in-Update.is

pub returns-in-Cast : goal.returns-in-Cast
returns-in-Cast c =
    mask_cast _ _ _ _ _ c.requires _ (kind_read c.record_word.ensures.0 c.kind_of.ensures c.in-Cast.is) c.part_mask.ensures

pub returns-in-Lock : goal.returns-in-Lock
returns-in-Lock c =
    mask_lock _ _ _ _ _ c.requires _ (kind_read c.record_word.ensures.0 c.kind_of.ensures c.in-Lock.is) c.use_mask-in-Lock.ensures

pub returns-in-Null : goal.returns-in-Null
returns-in-Null c =
    let rest = mask_rest _ _ _ _ _ c.requires in
    ⊎_elim (λ e. rest Null (kind_read c.record_word.ensures.0 c.kind_of.ensures e) (closed_null c.args.self.now.script.bytes.now c.args.n))
    (⊎_elim (λ e. rest New (kind_read c.record_word.ensures.0 c.kind_of.ensures e) (closed_new c.args.self.now.script.bytes.now c.args.n))
    (⊎_elim (λ e. rest Constant (kind_read c.record_word.ensures.0 c.kind_of.ensures e) (closed_constant c.args.self.now.script.bytes.now c.args.n)) (λ e. rest Unknown (kind_read c.record_word.ensures.0 c.kind_of.ensures e) (closed_unknown c.args.self.now.script.bytes.now c.args.n))))
    c.in-Null.is
