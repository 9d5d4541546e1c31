use native.Mathlib.Omega.{arith}
use Rattle.runs.proofs.RunLaws as laws
use Rattle.runs.proofs.runs.run_choices.Goals as goal

pub returns-in-Some : goal.returns-in-Some
returns-in-Some c =
    (record { ran_as = λ x. laws.ended_first x _ _ _ (c.look.ensures x) c.in-Some.is; read_in_bounds = (omega arith, omega arith) })

pub follow-requires : goal.follow-requires
follow-requires c =
    let pre = c.requires in record { blank = pre.blank; choices_len_bound = pre.choices_len_bound; config_value = λ x. laws.look_on _ _ (c.look.ensures x) c.in_default.is }
