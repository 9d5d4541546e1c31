use mathlib.Core.Path.{refl, ◌∙◌}
use native.Mathlib.Omega.{arith}
use Rattle.frames.proofs.PositionLaws as laws
use Rattle.memo.proofs.MemoLaws.{same_size}
use Rattle.values.proofs.StoreLaws.{ordered_asked}
use Rattle.frames.proofs.places.position_fits.Goals as goal

pub word-kind-requires : goal.word-kind-requires
word-kind-requires c =
    (laws.place_there c.requires.memo_ready.1.ready _ c.requires.i_bound.0, omega arith)

pub returns-then-kind-eq-FAILED : goal.returns-then-kind-eq-FAILED
returns-then-kind-eq-FAILED c =
    record { value = laws.place_failed c.requires.memo_ready.1.ready _ c.requires.i_bound.0 c.args.want _ c.word-kind.ensures.0 c.if-kind-eq-FAILED.true; table_unchanged = refl; remembers = c.requires.memo_ready.1.remembers }

pub word-n-requires : goal.word-n-requires
word-n-requires c =
    (laws.place_there c.requires.memo_ready.1.ready _ c.requires.i_bound.0, omega arith)

pub frames_want-requires : goal.frames_want-requires
frames_want-requires c =
    record { memo_ready = c.requires.memo_ready; n_bound = laws.frames_within c.requires.memo_ready.1.ready _ c.requires.i_bound.0 _ _ c.requires.i_bound.1 c.word-n.ensures.0 }

pub shape_of-memo-in_default : goal.shape_of-memo-in_default
shape_of-memo-in_default c =
    same_size c.frames_want.ensures.remembers c.requires.memo_ready.1.remembers

pub returns-in_default : goal.returns-in_default
returns-in_default c =
    record { value = laws.place_misfit c.requires.memo_ready.1.ready _ c.requires.i_bound.0 c.args.want _ c.word-kind.ensures.0 c.if-kind-eq-FAILED.false _ _ c.requires.i_bound.1 c.word-n.ensures.0 _ c.frames_want.ensures.value c.in_default.is; table_unchanged = c.frames_want.ensures.table_unchanged; remembers = c.frames_want.ensures.remembers }

pub value-x-requires : goal.value-x-requires
value-x-requires c =
    (laws.place_there c.requires.memo_ready.1.ready _ c.requires.i_bound.0, omega arith)

pub value_fits-requires : goal.value_fits-requires
value_fits-requires c =
    ordered_asked c.requires.memo_ready.1.ready.in_order

pub shape_of-memo-then-kind-eq-RETURNING : goal.shape_of-memo-then-kind-eq-RETURNING
shape_of-memo-then-kind-eq-RETURNING c =
    same_size c.frames_want.ensures.remembers c.requires.memo_ready.1.remembers

pub returns-then-kind-eq-RETURNING : goal.returns-then-kind-eq-RETURNING
returns-then-kind-eq-RETURNING c =
    record { value = laws.place_value c.requires.memo_ready.1.ready _ c.requires.i_bound.0 c.args.want _ c.word-kind.ensures.0 c.if-kind-eq-FAILED.false _ _ c.requires.i_bound.1 c.word-n.ensures.0 _ c.frames_want.ensures.value _ c.in-Some.is c.if-kind-eq-RETURNING.true _ _ c.value-x.ensures.0 c.value_fits.ensures; table_unchanged = c.frames_want.ensures.table_unchanged; remembers = c.frames_want.ensures.remembers }

pub word-a-requires : goal.word-a-requires
word-a-requires c =
    (laws.place_there c.requires.memo_ready.1.ready _ c.requires.i_bound.0, omega arith)

pub word-e-requires : goal.word-e-requires
word-e-requires c =
    (laws.place_there c.requires.memo_ready.1.ready _ c.requires.i_bound.0, omega arith)

pub node_fits-requires : goal.node_fits-requires
node_fits-requires c =
    (rw c.frames_want.ensures.table_unchanged c.requires.memo_ready.0, c.requires.memo_ready.1.ready)

pub shape_of-memo : goal.shape_of-memo
shape_of-memo c =
    same_size c.frames_want.ensures.remembers c.requires.memo_ready.1.remembers

pub returns : goal.returns
returns c =
    record { value = laws.place_node c.requires.memo_ready.1.ready _ c.requires.i_bound.0 c.args.want _ c.word-kind.ensures.0 c.if-kind-eq-FAILED.false _ _ c.requires.i_bound.1 c.word-n.ensures.0 _ c.frames_want.ensures.value _ c.in-Some.is c.if-kind-eq-RETURNING.false _ _ _ c.word-a.ensures.0 c.word-e.ensures.0 c.node_fits.ensures.value; table_unchanged = c.node_fits.ensures.table_unchanged ∙ c.frames_want.ensures.table_unchanged; remembers = c.frames_want.ensures.remembers }
