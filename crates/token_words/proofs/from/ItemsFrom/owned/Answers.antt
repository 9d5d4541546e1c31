use mathlib.Core.Path.{refl}
use Rattle.token_words.proofs.from.ItemsFrom.owned.Goals as goal

pub returns : goal.returns
returns c es e = c.owned.ensures es e c.args.self.now.i 1 refl
