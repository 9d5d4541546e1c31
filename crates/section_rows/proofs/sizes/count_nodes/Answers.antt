use mathlib.Core.Path.{◌≡◌, sym, ◌∙◌}
use Prim.Native.Nat.{ℕ, ◌-◌}
use native.Mathlib.Omega.{arith}
use lib.ListN.{length, take, drop, length-drop}
use lib.Seq.{take_all}
use Rattle.std.proofs.Common.{rules}
use Rattle.std.proofs.iter.runs.Made.{chains}
use Rattle.std.specs.List.{count_by}
use Rattle.script.specs.declared.Section.TheVariants.{Nodes as nodes}
use Rattle.grammar.specs.Faults.{begins_test}
use Rattle.section_rows.proofs.PlaceLaws.{begun_counted}
use Rattle.section_rows.proofs.sizes.count_nodes.Goals as goal

pub returns : goal.returns
returns c =
    let n : ℕ = length c.args.roles.now - c.args.from in
    let e : c.count.result ≡ count_by (λ r. begins_test nodes r) (take n (drop c.args.from c.args.roles.now)) = search (rules, chains) in
    let t : take n (drop c.args.from c.args.roles.now) ≡ drop c.args.from c.args.roles.now = take_all n _ (omega (arith, length-drop c.args.from c.args.roles.now)) in
    (rw t at e) ∙ sym (begun_counted nodes _)
