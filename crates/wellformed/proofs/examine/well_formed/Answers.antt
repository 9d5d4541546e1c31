use mathlib.Core.Path.{refl}
use Rattle.wellformed.proofs.FormLaws as laws
use mathlib.Core.Path.{ap}
use mathlib.Core.Bool.{not}
use Rattle.wellformed.proofs.examine.well_formed.Goals as goal

pub returns-then-not-objects_sound : goal.returns-then-not-objects_sound
returns-then-not-objects_sound c =
    record { block_value = laws.bad_objects c.args.code.now.script.bytes.now c.args.t c.args.block.now c.objects_sound.ensures (ap not c.if-not-objects_sound.true); table_unchanged = refl }

pub bindings_sound-requires : goal.bindings_sound-requires
bindings_sound-requires c =
    laws.sound_objects c.args.code.now.script.bytes.now c.args.t c.args.block.now c.objects_sound.ensures (ap not c.if-not-objects_sound.false)

pub returns-then-not-bindings_sound : goal.returns-then-not-bindings_sound
returns-then-not-bindings_sound c =
    record { block_value = laws.bad_bindings c.args.code.now.script.bytes.now c.args.t c.args.block.now c.objects_sound.ensures (ap not c.if-not-objects_sound.false) c.bindings_sound.ensures (ap not c.if-not-bindings_sound.true); table_unchanged = refl }

pub threads_sound-requires : goal.threads_sound-requires
threads_sound-requires c =
    record { blank = c.requires; block_value = (laws.sound_objects c.args.code.now.script.bytes.now c.args.t c.args.block.now c.objects_sound.ensures (ap not c.if-not-objects_sound.false), laws.sound_bindings c.args.code.now.script.bytes.now c.args.t c.args.block.now c.objects_sound.ensures (ap not c.if-not-objects_sound.false) c.bindings_sound.ensures (ap not c.if-not-bindings_sound.false)) }

pub returns-then-not-threads_sound : goal.returns-then-not-threads_sound
returns-then-not-threads_sound c =
    record { block_value = laws.bad_threads c.args.code.now.script.bytes.now c.args.t c.args.block.now c.objects_sound.ensures (ap not c.if-not-objects_sound.false) c.bindings_sound.ensures (ap not c.if-not-bindings_sound.false) c.threads_sound.result c.threads_sound.ensures.block_value_2 (ap not c.if-not-threads_sound.true); table_unchanged = c.threads_sound.ensures.table_unchanged }

pub returns : goal.returns
returns c =
    record { block_value = laws.all_sound c.args.code.now.script.bytes.now c.args.t c.args.block.now c.objects_sound.ensures (ap not c.if-not-objects_sound.false) c.bindings_sound.ensures (ap not c.if-not-bindings_sound.false) c.threads_sound.result c.threads_sound.ensures.block_value_2 (ap not c.if-not-threads_sound.false); table_unchanged = c.threads_sound.ensures.table_unchanged }
