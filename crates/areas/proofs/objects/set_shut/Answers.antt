use mathlib.Core.Path.{◌∙◌}
use Rattle.areas.proofs.Laws.{object_shut, shut_is}
use Rattle.areas.proofs.objects.set_shut.Goals as goal

pub returns : goal.returns
returns c p d is h =
    object_shut _ p is _ _ d c.requires h c.args.shut _ (c.from.ensures ∙ shut_is c.args.shut) c.put.ensures
