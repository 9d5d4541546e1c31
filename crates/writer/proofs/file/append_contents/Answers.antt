use mathlib.Core.Path.{refl}
use native.Mathlib.Omega.{arith}
use Rattle.script.specs.declared.Section.TheVariants.{Interfaces as interfaces, Signatures as signatures, Classes as classes}
use Rattle.script.specs.declared.Section.TheVariants.{Fields as fields, Methods as methods}
use Rattle.writer.specs.Files.{contents_by}
use Rattle.writer.proofs.SectionLaws.{contents_long, contents_extended}
use Rattle.writer.proofs.file.append_contents.Goals as goal

pub overflow_add-methods_at : goal.overflow_add-methods_at
overflow_add-methods_at c =
    let w = c.requires.few.within in
    omega (
      arith,
      c.of-interfaces.ensures,
      c.of-signatures.ensures,
      c.of-classes.ensures,
      c.of-fields.ensures,
      c.of-methods.ensures,
      w interfaces,
      w signatures,
      w classes,
      w fields,
      w methods,
    )

pub overflow_add-nodes_at : goal.overflow_add-nodes_at
overflow_add-nodes_at c =
    let w = c.requires.few.within in
    omega (
      arith,
      c.of-interfaces.ensures,
      c.of-signatures.ensures,
      c.of-classes.ensures,
      c.of-fields.ensures,
      c.of-methods.ensures,
      w interfaces,
      w signatures,
      w classes,
      w fields,
      w methods,
    )

pub append-requires : goal.append-requires
append-requires c =
    omega (arith, c.requires.fits, contents_long c.args.counts.now)

pub append-requires-2 : goal.append-requires-2
append-requires-2 c =
    omega (arith, c.requires.fits, contents_long c.args.counts.now)

pub append-requires-3 : goal.append-requires-3
append-requires-3 c =
    omega (arith, c.requires.fits, contents_long c.args.counts.now)

pub returns : goal.returns
unfolding contents_by
returns c =
    rw (← c.of-interfaces.ensures, ← c.of-signatures.ensures, ← c.of-classes.ensures, ← c.of-fields.ensures, ← c.of-methods.ensures, ← c.of-nodes.ensures)
    (contents_extended _ _ _ refl refl refl (omega (arith, c.requires.fits, contents_long c.args.counts.now)) c.append.ensures c.append-2.ensures c.append-3.ensures)
