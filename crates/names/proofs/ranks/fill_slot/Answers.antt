use Prim.Native.Nat.{◌<◌}
use mathlib.Core.Path.{◌≡◌, sym, ap, ◌∙◌}
use mathlib.Core.Option.{some}
use native.Mathlib.Omega.{arith}
use lib.ListN.{length, length-set}
use Rattle.script.specs.declared.Section.TheVariants.{Nodes as nodes}
use Rattle.names.specs.Ranks.{SLOTS, FACTS, name_at}
use Rattle.names.proofs.FillLaws.{fill_small, found_before, fill_found, fill_fresh}
use Rattle.names.proofs.ranks.fill_slot.Goals as goal

pub slot_word-x-requires : goal.slot_word-x-requires
slot_word-x-requires c =
    (c.args.script.now.within_layout, omega (arith, c.requires.0.there))

pub offset_bounds-facts-k : goal.offset_bounds-facts-k
offset_bounds-facts-k c =
    let within : c.args.k < SLOTS = omega (arith, c.args.script.now.within_layout.counts_are.within nodes, c.requires.0.there) in
    omega arith

pub bounds-facts-k : goal.bounds-facts-k
bounds-facts-k c =
    let within : c.args.k < SLOTS = omega (arith, c.args.script.now.within_layout.counts_are.within nodes, c.requires.0.there) in
    let size : length c.args.facts.now ≡ FACTS = c.requires.1.linked.size in
    omega arith

pub returns-then-x-lt2 : goal.returns-then-x-lt2
returns-then-x-lt2 c =
    let named : name_at c.args.script.now.bytes.now c.args.k ≡ some c.slot_word-x.result = c.requires.0.name ∙ ap some (sym c.slot_word-x.ensures.0) in
    fill_small _ _ _ _ c.args.script.now.within_layout c.requires.0.there c.requires.1 _ named c.if-x-lt2.true

pub offset_bounds-facts-j : goal.offset_bounds-facts-j
offset_bounds-facts-j c =
    let named : name_at c.args.script.now.bytes.now c.args.k ≡ some c.slot_word-x.result = c.requires.0.name ∙ ap some (sym c.slot_word-x.ensures.0) in
    let within : c.args.k < SLOTS = omega (arith, c.args.script.now.within_layout.counts_are.within nodes, c.requires.0.there) in
    let found = rw c.in-Some.is at c.find_slot.ensures in
    let earlier : c.in-Some.j < c.args.k = found_before _ _ _ _ c.args.script.now.within_layout c.requires.0.there c.requires.1 _ named _ found in
    omega arith

pub bounds-facts-j : goal.bounds-facts-j
bounds-facts-j c =
    let named : name_at c.args.script.now.bytes.now c.args.k ≡ some c.slot_word-x.result = c.requires.0.name ∙ ap some (sym c.slot_word-x.ensures.0) in
    let within : c.args.k < SLOTS = omega (arith, c.args.script.now.within_layout.counts_are.within nodes, c.requires.0.there) in
    let size : length c.args.facts.now ≡ FACTS = c.requires.1.linked.size in
    let found = rw c.in-Some.is at c.find_slot.ensures in
    let earlier : c.in-Some.j < c.args.k = found_before _ _ _ _ c.args.script.now.within_layout c.requires.0.there c.requires.1 _ named _ found in
    omega arith

pub offset_bounds-facts-k-in-Some : goal.offset_bounds-facts-k-in-Some
offset_bounds-facts-k-in-Some c =
    let within : c.args.k < SLOTS = omega (arith, c.args.script.now.within_layout.counts_are.within nodes, c.requires.0.there) in
    omega arith

pub bounds-facts-k-in-Some : goal.bounds-facts-k-in-Some
bounds-facts-k-in-Some c =
    let within : c.args.k < SLOTS = omega (arith, c.args.script.now.within_layout.counts_are.within nodes, c.requires.0.there) in
    let size : length c.args.facts.now ≡ FACTS = c.requires.1.linked.size in
    omega arith

pub returns-in-Some : goal.returns-in-Some
returns-in-Some c =
    let named : name_at c.args.script.now.bytes.now c.args.k ≡ some c.slot_word-x.result = c.requires.0.name ∙ ap some (sym c.slot_word-x.ensures.0) in
    let found = rw c.in-Some.is at c.find_slot.ensures in
    fill_found _ _ _ _ c.args.script.now.within_layout c.requires.0.there c.requires.1 _ named _ found

pub overflow_cast-facts : goal.overflow_cast-facts
overflow_cast-facts c =
    let within : c.args.k < SLOTS = omega (arith, c.args.script.now.within_layout.counts_are.within nodes, c.requires.0.there) in
    omega (arith, c.requires.1.few)

pub offset_bounds-facts-k-2 : goal.offset_bounds-facts-k-2
offset_bounds-facts-k-2 c =
    let within : c.args.k < SLOTS = omega (arith, c.args.script.now.within_layout.counts_are.within nodes, c.requires.0.there) in
    omega arith

pub bounds-facts-k-2 : goal.bounds-facts-k-2
bounds-facts-k-2 c =
    let within : c.args.k < SLOTS = omega (arith, c.args.script.now.within_layout.counts_are.within nodes, c.requires.0.there) in
    let size : length c.args.facts.now ≡ FACTS = c.requires.1.linked.size in
    omega arith

pub link_slot-requires : goal.link_slot-requires
link_slot-requires c =
    let within : c.args.k < SLOTS = omega (arith, c.args.script.now.within_layout.counts_are.within nodes, c.requires.0.there) in
    let size : length c.args.facts.now ≡ FACTS = c.requires.1.linked.size in
    (simp length-set size, within)

pub overflow_add-result : goal.overflow_add-result
overflow_add-result c =
    let within : c.args.k < SLOTS = omega (arith, c.args.script.now.within_layout.counts_are.within nodes, c.requires.0.there) in
    omega (arith, c.requires.1.few)

pub shape_of-facts : goal.shape_of-facts
shape_of-facts c =
    c.link_slot.auto.facts ∙ simp length-set

pub returns : goal.returns
returns c =
    let named : name_at c.args.script.now.bytes.now c.args.k ≡ some c.slot_word-x.result = c.requires.0.name ∙ ap some (sym c.slot_word-x.ensures.0) in
    rw c.link_slot.ensures (fill_fresh _ _ _ _ c.args.script.now.within_layout c.requires.0.there c.requires.1 _ named c.if-x-lt2.false (rw c.in_default.is at c.find_slot.ensures))
