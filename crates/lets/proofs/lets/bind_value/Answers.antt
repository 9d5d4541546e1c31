use native.Mathlib.Omega.{arith}
use mathlib.Core.Path.{refl}
use Rattle.machine.specs.Config.{running}
use Rattle.state.proofs.Seeing.{some_state}
use Rattle.moves.proofs.Laws.{performs_as}
use Rattle.lets.proofs.LetLaws.{bound_more, binds_not, binds_full, binds}
use Rattle.moves.proofs.FrameLaws.{still_waiting}
use Rattle.moves.specs.Performs.{performs_still, performs_full, performs_moved}
use Rattle.lets.proofs.lets.bind_value.Goals as goal

pub returns-in_default : goal.returns-in_default
returns-in_default c =
    record { performs = λ rest st fs g s. performs_as (binds_not s _ fs c.args.w.value c.args.w.name c.args.w.first c.args.w.body c.args.w.env _ c.first_type.ensures.value c.in_default.is) performs_still; table_unchanged = c.first_type.ensures.table_unchanged }

pub returns-then-n-ge-BINDINGS : goal.returns-then-n-ge-BINDINGS
returns-then-n-ge-BINDINGS c =
    record { performs = λ rest st fs g s. performs_as (binds_full s _ fs c.args.w.value c.args.w.name c.args.w.first c.args.w.body c.args.w.env _ c.first_type.ensures.value c.in-Ok.is c.count-n.ensures.0 c.if-n-ge-BINDINGS.true) performs_full; table_unchanged = c.first_type.ensures.table_unchanged }

pub pop-requires : goal.pop-requires
pop-requires c =
    let now = bound_more _ _ c.count-n.ensures.0 c.if-n-ge-BINDINGS.false c.requires.at_typed_frame.frame.word c.add_binding.ensures c.requires.at_typed_frame.frame.here.seen in
    (some_state now, still_waiting c.requires.at_typed_frame.frame.here.seen now c.requires.at_typed_frame.frame.waiting, omega arith)

pub returns : goal.returns
returns c =
    record {
      performs = λ rest st fs g s.
          performs_as (binds s _ fs c.args.w.value c.args.w.name c.args.w.first c.args.w.body c.args.w.env _ c.first_type.ensures.value _ _ c.in-Ok.is c.count-n.ensures.0 c.if-n-ge-BINDINGS.false)
          (performs_moved (c.pop.ensures rest _ _ g fs (running _ _ fs) refl refl refl (bound_more _ _ c.count-n.ensures.0 c.if-n-ge-BINDINGS.false c.requires.at_typed_frame.frame.word c.add_binding.ensures s)));
      table_unchanged = c.first_type.ensures.table_unchanged;
    }
