use mathlib.Core.Path.{◌≡◌, sym, ap, ◌∙◌}
use Prim.Native.Nat.{◌<◌}
use lib.ListN.{get_or, length}
use Rattle.std.proofs.Common.{rules}
use Rattle.token_words.specs.Items.{amount_at}
use Rattle.token_words.proofs.AmountLaws.{amount_in, capped_most}
use Rattle.token_words.proofs.items.Items.amount_at.Goals as goal

pub returns-in-Some-clause-value : goal.returns-in-Some-clause-value
returns-in-Some-clause-value c es a j k h =
    let i : c.args.i < length c.args.self.now.tokens.offsets.now = search rules in
    let o : c.in-Some.at.now ≡ get_or c.args.self.now.tokens.offsets.now c.args.i 0 = search rules in
    c.magnitude_at.ensures ∙ ap (amount_at c.args.self.now.tokens.text.bytes.now) o ∙ sym (amount_in a j k h i)

pub returns-in-Some-clause-upper_bound : goal.returns-in-Some-clause-upper_bound
returns-in-Some-clause-upper_bound c = rw c.magnitude_at.ensures (capped_most _)
