use Rattle.std.proofs.Common.{ℕ, rules, arith, refl}
use Rattle.std.proofs.lemmas.List.{length-replicate}
use Rattle.spellings.proofs.TableLaws.{none_held}
use Rattle.ask_declarations.proofs.DeclarationLaws.{declaration_refused, declaration_passed}
use Rattle.ask_declarations.proofs.ask_declarations.Goals as goal

pub declaration_fault-requires : goal.declaration_fault-requires
declaration_fault-requires g c =
    let room = c.requires.room in
    let table = c.new-table in (
      search (rules, table.result.small),
      ((omega (arith, room.0, length-replicate {A = ℕ} g.row.N 0), room.0), (none_held _ table.result table.ensures, table.ensures.1)),
    )

pub returns-in-Some : goal.returns-in-Some
returns-in-Some g c =
    let told = c.in-Some.ensures in
    declaration_refused c.requires.judged g.row.N c.requires.room.0 told _ c.at_token.result refl told.within c.at_token.ensures

pub ask_limits-requires : goal.ask_limits-requires
ask_limits-requires g c =
    let room = c.requires.room in (
      search (rules, c.new-table.result.small),
      (
        declaration_passed c.requires.judged g.row.N room.0 c.in_default.ensures refl,
        (omega (arith, room.0, c.declaration_fault.auto.values, length-replicate {A = ℕ} g.row.N 0), room.0),
      ),
    )
