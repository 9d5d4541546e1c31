-- The configuration in the block that the code is lent, and its frames.
use mathlib.Core.Path.{◌≡◌, sym}
use mathlib.Core.List.{List}
use Prim.Native.Nat.{ℕ}
use lib.ListN.{length}
use Rattle.machine.specs.Machine.{field_count}
use Rattle.block.specs.declared.Area.TheVariants.{Frames}
use Rattle.block.specs.Layout.{counted}
use Rattle.block.specs.Block.{parts_of, encode}
use Rattle.block.specs.Fits.{AllStorable, Fits}
use Rattle.block.proofs.Decode.{encode_decode}
use Rattle.representation.proofs.InOrder.{in_order_decodes}
use Rattle.areas.proofs.Laws.{frames_counted}
use Rattle.parts.specs.Parts.{config_read}
use Rattle.frames.specs.Expecting.{frames_in}
use Rattle.awaited.specs.Awaited.{ScopedBlock}

module _ {s b : List ℕ} (y : ScopedBlock s b) where
  held : (encode (config_read s b) ≡ b) × Fits (field_count s) (config_read s b)
  held = encode_decode (field_count s) b (config_read s b) (in_order_decodes (field_count s) b y.in_order)

  pub in_block : b ≡ encode (config_read s b)
  in_block = sym held.0

  pub storable : AllStorable (parts_of (config_read s b))
  storable = held.1.values

  pub frames_many : counted b Frames ≡ length (frames_in s b)
  frames_many = frames_counted b (parts_of (config_read s b)) in_block
