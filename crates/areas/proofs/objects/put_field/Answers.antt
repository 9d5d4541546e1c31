use Rattle.areas.proofs.Laws.{object_field}
use Rattle.areas.proofs.objects.put_field.Goals as goal

pub returns : goal.returns
returns c p d is h l =
    let put = c.put_value in
    object_field _ p is _ _ d c.requires.0 h _ c.args.v c.requires.1 l put.ensures
