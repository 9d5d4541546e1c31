use Prim.Native.Nat.{◌+◌, ◌*◌, ◌≤◌}
use Rattle.limits.specs.Limits.{FILE}
use Rattle.sections.proofs.CodeLaws.{place_fits, place_is}
use Rattle.sections.proofs.files.File.record_at.Goals as goal

pub returns : goal.returns
returns c =
    let fits : c.body_at-at.result + c.size_of-size.result * c.args.i ≤ FILE = place_fits _ _ _ _ _ c.args.self.now.laid c.requires c.body_at-at.ensures.0 c.size_of-size.ensures.0 in
    (place_is _ _ _ _ _ c.body_at-at.ensures.0 c.size_of-size.ensures.0, fits)
