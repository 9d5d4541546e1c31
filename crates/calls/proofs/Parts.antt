-- The three parts of a block together are the question 21 that was: "A block was refused before exactly when it is refused after."
use mathlib.Core.Path.{◌≡◌, sym}
use mathlib.Core.List.{List, reverse}
use Prim.Native.Nat.{ℕ}
use native.Mathlib.Omega.{arith}
use lib.ListN.{length, length-map, length-reverse}
use Rattle.limits.specs.Limits.{BLOCK}
use Rattle.std.specs.declared.result.Result.TheVariants.{Ok}
use Rattle.typing.specs.Check.{check_of}
use Rattle.typing.proofs.Exact.{outside_refused}
use Rattle.machine.specs.Config.{Config}
use Rattle.machine.specs.Machine.{field_count, limits}
use Rattle.machine.specs.WellFormed.{Within}
use Rattle.block.specs.declared.Area.TheVariants.{Objects, Bindings, Positions, Frames}
use Rattle.block.specs.Block.{object_words, binding_words, position_words, frame_words, preorder, frames_of, parts_of}
use Rattle.block.specs.Fits.{Few}
use Rattle.block.proofs.Trees.{positions_threads}
use Rattle.block.proofs.Decode.{config_back, encode_decode}
use Rattle.representation.proofs.InOrder.{in_order_decodes}
use Rattle.representation.proofs.Ordered.{fits_in_order}
use Rattle.parts.specs.Parts.{config_read, ObjectsAre, BindingsAre, ThreadsAre}
use Rattle.parts.proofs.Parts.{parts_form}
use Rattle.calls.specs.Answers.{Holds, Stands, PartsStand}
use Rattle.calls.proofs.Fits.{frames_many, well_fits}

-- a configuration that fits into a block is within the limits
pub few_within : (c : Config) → Few (parts_of c) → Within limits c
few_within c few =
    record {
      objects = omega (arith, few Objects, length-map c.stores.objects object_words);
      bindings = omega (arith, few Bindings, length-map (reverse c.stores.bindings) binding_words, length-reverse c.stores.bindings);
      frames = omega (arith, few Frames, length-map (frames_of c.tree) frame_words, frames_many c.tree);
      threads = omega (arith, few Positions, length-map (preorder c.tree) position_words, positions_threads c.tree);
    }

module _ {s : List ℕ} {t : ℕ} (acc : check_of s ≡ Ok t) {b : List ℕ} where
  -- what a block holds is what is read from it
  pub holds_parts : length b ≡ BLOCK → {c : Config} → Holds s t b c → ObjectsAre s b × BindingsAre s b × ThreadsAre s t b
  holds_parts long {c} h =
      let fit = well_fits s (outside_refused s t acc) h.well in
      let read : config_read s b ≡ c = rw h.is (config_back (field_count s) c fit) in
      (parts_form long).1 (rw h.is (fits_in_order (field_count s) c fit), rw read h.well.formed)

  parts_hold : length b ≡ BLOCK → ObjectsAre s b × BindingsAre s b × ThreadsAre s t b → Stands s t b
  parts_hold long p =
      let c = config_read s b in
      let form = (parts_form long).0 p in
      let held = encode_decode (field_count s) b c (in_order_decodes (field_count s) b form.0) in
      record { config = c; holds = record { is = sym held.0; well = record { formed = form.1; within = few_within c held.1.few } } }

  pub parts_stand : length b ≡ BLOCK → PartsStand s t b
  parts_stand long = (λ x. holds_parts long x.holds, parts_hold long)
