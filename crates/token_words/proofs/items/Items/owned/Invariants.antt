use Rattle.token_words.proofs.TokenLaws.{CountingMembers}
use Rattle.token_words.proofs.items.Items.owned.Given as goal

abbrev pub invariant-loop-i : goal.invariant-loop-i
invariant-loop-i l = CountingMembers l.self.tokens.roles.now l.from l.i (record { signatures = l.signatures; fields = l.fields; methods = l.methods })
