use Rattle.tree.specs.declared.Cell.TheVariants.{Failed}
use Rattle.state.proofs.Putting.{row_said}
use Rattle.state.proofs.whole.row_of.Goals as goal

pub returns-in-Failed : goal.returns-in-Failed
returns-in-Failed c =
    row_said c.args.x Failed _ c.in-Failed.is c.position_row.ensures

pub returns-in-Running : goal.returns-in-Running
returns-in-Running c =
    row_said c.args.x _ _ c.in-Running.is c.position_row-in-Running.ensures

pub returns-in-Returning : goal.returns-in-Returning
returns-in-Returning c =
    row_said c.args.x _ _ c.in-Returning.is c.position_row-in-Returning.ensures

pub returns-in-Join : goal.returns-in-Join
returns-in-Join c =
    row_said c.args.x _ _ c.in-Join.is c.position_row-in-Join.ensures
