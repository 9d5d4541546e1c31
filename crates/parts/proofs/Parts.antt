-- The three parts are the whole of a block, and the tests of objects and of bindings decide what is asked of them.
use mathlib.Core.Path.{◌≡◌, ap}
use mathlib.Core.List.{List}
use mathlib.Core.Logic.{◌↔◌}
use Prim.Native.Nat.{ℕ, ◌<◌}
use lib.ListN.{length, get_or}
use Rattle.limits.specs.Limits.{BLOCK}
use Rattle.script.specs.Asking.{Decides}
use Rattle.script.proofs.Tests.{yes_said, decides_as, decides_and}
use Rattle.machine.specs.declared.Want.TheVariants.{Upto as upto}
use Rattle.machine.specs.Config.{Config, code_of}
use Rattle.machine.specs.Machine.{field_count}
use Rattle.machine.specs.WellFormed.{WfConfig}
use Rattle.machine.specs.Accepted.{AcceptedCode}
use Rattle.machine.specs.Decide.{bindings_test}
use Rattle.machine.proofs.Decide.{decides_heap, decides_vars}
use Rattle.block.specs.declared.Area.{Area}
use Rattle.block.specs.declared.Area.TheVariants.{Objects, Bindings, Positions, Frames}
use Rattle.block.specs.Block.{encode}
use Rattle.block.specs.Fits.{Fits}
use Rattle.block.proofs.Decode.{config_back}
use Rattle.representation.specs.InOrder.{AreaOk, InOrder}
use Rattle.representation.proofs.Ordered.{fits_in_order}
use Rattle.parts.specs.Parts.{ObjectsAre, BindingsAre, ThreadsOk, ThreadsAre, config_read, objects_in, objects_test, objects_sound, bindings_sound}
use Rattle.parts.proofs.Areas.{decides_objects_area, decides_bindings_area}

-- the bytes of the three parts are the block's
module _ {field_count : ℕ → ℕ} {b : List ℕ} where
  pub whole_order : length b ≡ BLOCK → ((i : ℕ) → get_or b i 0 < 256) → AreaOk field_count b Objects → AreaOk field_count b Bindings → ThreadsOk field_count b
      → InOrder field_count b
  whole_order long small o v x =
      record { long = long; small = small; areas = every; one_tree = x.one_tree; all_frames = x.all_frames; rest = x.rest }
    where
      every : (a : Area) → AreaOk field_count b a
      every Objects = o
      every Bindings = v
      every Positions = x.positions
      every Frames = x.frames

  pub order_threads : InOrder field_count b → ThreadsOk field_count b
  order_threads o =
      record { positions = o.areas Positions; frames = o.areas Frames; one_tree = o.one_tree; all_frames = o.all_frames; rest = o.rest }

-- The three parts together: the bytes are in order, and what is read from them is well formed by Figure 7.
module _ {s : List ℕ} {t : ℕ} {b : List ℕ} where
  pub parts_form : length b ≡ BLOCK
      → (ObjectsAre s b × BindingsAre s b × ThreadsAre s t b) ↔ (InOrder (field_count s) b × WfConfig (code_of s) (upto t) (config_read s b))
  parts_form long = (there, back)
    where
      there : ObjectsAre s b × BindingsAre s b × ThreadsAre s t b → InOrder (field_count s) b × WfConfig (code_of s) (upto t) (config_read s b)
      there p = (
        whole_order long p.2.small p.0.area p.1.area p.2.bytes,
        record { stores = record { bindings = p.1.vars; heap = p.0.heap }; tree = p.2.tree; distinct = p.2.distinct; covered = p.2.covered },
      )

      back : InOrder (field_count s) b × WfConfig (code_of s) (upto t) (config_read s b) → ObjectsAre s b × BindingsAre s b × ThreadsAre s t b
      back p = (
        record { area = p.0.areas Objects; heap = p.1.stores.heap },
        record { area = p.0.areas Bindings; vars = p.1.stores.bindings },
        record { small = p.0.small; bytes = order_threads p.0; tree = p.1.tree; distinct = p.1.distinct; covered = p.1.covered },
      )

module _ {s : List ℕ} {t : ℕ} (acc : AcceptedCode (code_of s) t) (b : List ℕ) where
  pub decides_objects : Decides (ObjectsAre s b) (objects_sound s b)
  unfolding objects_sound
  decides_objects =
      decides_as (λ h. record { area = h.0; heap = h.1 }) (λ o. (o.area, o.heap))
      (decides_and (decides_objects_area (field_count s) b) (decides_heap acc (objects_in s b)))

  -- "each part assuming the earlier ones sound"
  pub decides_bindings : ObjectsAre s b → Decides (BindingsAre s b) (bindings_sound s b)
  unfolding bindings_sound
  decides_bindings o =
      decides_as (λ h. record { area = h.0; vars = h.1 }) (λ v. (v.area, v.vars))
      (decides_and (decides_bindings_area (field_count s) b) (decides_vars acc (objects_in s b) o.heap (config_read s b).stores.bindings))

-- In the block of a configuration that fits the areas are in order, so only the configuration is asked.
module _ (s : List ℕ) (c : Config) (fit : Fits (field_count s) c) where
  pub objects_encoded : objects_sound s (encode c) ≡ objects_test (code_of s) c.stores.objects
  unfolding objects_sound
  objects_encoded =
      rw (yes_said (decides_objects_area (field_count s) (encode c)) ((fits_in_order (field_count s) c fit).areas Objects))
      (ap (λ (x : Config). objects_test (code_of s) x.stores.objects) (config_back (field_count s) c fit))

  pub bindings_encoded : bindings_sound s (encode c) ≡ bindings_test (code_of s) c.stores.objects c.stores.bindings
  unfolding bindings_sound
  bindings_encoded =
      rw (yes_said (decides_bindings_area (field_count s) (encode c)) ((fits_in_order (field_count s) c fit).areas Bindings))
      (ap (λ (x : Config). bindings_test (code_of s) x.stores.objects x.stores.bindings) (config_back (field_count s) c fit))
