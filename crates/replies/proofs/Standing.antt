-- What a block gives the moves' contracts, once every part of it is sound.
use mathlib.Core.Path.{◌≡◌, refl}
use mathlib.Core.Bool.{Bool, true, false}
use mathlib.Core.List.{List}
use mathlib.Core.Option.{Option, none, some}
use Prim.Native.Nat.{ℕ, zero, suc, ◌<◌}
use native.Mathlib.Omega.{arith}
use lib.ListN.{get_or, replicate, length-replicate}
use Rattle.names.specs.Ranks.{RANKS}
use Rattle.members.specs.Code.{Blank}
use Rattle.std.specs.declared.result.Result.TheVariants.{Ok}
use Rattle.typing.specs.Check.{check_of}
use Rattle.machine.specs.Config.{Config}
use Rattle.parts.specs.Parts.{config_read, objects_sound, bindings_sound}
use Rattle.enabled.specs.Looks.{Standing}
use Rattle.calls.specs.declared.LentQuestion.TheVariants.{BlockObjects, BlockBindings}
use Rattle.calls.specs.Calls.{Questioned, no_at, yes_with, ask, ask_threads, config_of, parts_asked}
use Rattle.calls.specs.Answers.{Holds}
use Rattle.calls.proofs.Answers.{accepts, holds_fits, config_holds}
use Rattle.calls.specs.declared.LentQuestion.{LentQuestion}
use Rattle.std.specs.Bool.{⊤}
use Rattle.std.specs.declared.result.Result.{Result}
use Rattle.std.specs.declared.result.Result.TheVariants.{Ok}
use Rattle.wellformed.specs.Examining.{examined_as}

-- what is told of a no with place 0, and of a yes, is told of the three questions
pub parts_place : (s : List ℕ) (t : ℕ) (b : List ℕ) (f : Questioned → ℕ) → ((n : ℕ) → 0 ≡ f (no_at n 0)) → ((c : Config) → 0 ≡ f (yes_with c)) → 0 ≡ f (parts_asked s t b)
unfolding parts_asked
parts_place s t b f refused sound = go (objects_sound s b) (bindings_sound s b) (config_of s t b)
  where
    go : (u v : Bool) (o : Option Config) → 0 ≡ f (ask BlockObjects u (ask BlockBindings v (ask_threads o)))
    go false v o = refused 21
    go true false o = refused 26
    go true true none = refused 27
    go true true (some c) = sound c

-- a yes to every part finds the configuration
yes_found : (u v : Bool) (o : Option Config) (c : Config) → ask BlockObjects u (ask BlockBindings v (ask_threads o)) ≡ yes_with c → o ≡ some c
yes_found false v o c e = let z : ◌≡◌ {A = ℕ} 0 1 = cc in absurd (omega arith)
yes_found true false o c e = let z : ◌≡◌ {A = ℕ} 0 1 = cc in absurd (omega arith)
yes_found true true none c e = let z : ◌≡◌ {A = ℕ} 0 1 = cc in absurd (omega arith)
yes_found true true (some x) c e = cc

pub formed : (s : List ℕ) (t : ℕ) (b : List ℕ) (r : Result ⊤ LentQuestion) → parts_asked s t b ≡ examined_as r (config_read s b) → r ≡ (Ok tt) → config_of s t b ≡ some (config_read s b)
unfolding parts_asked
formed s t b r e y = yes_found (objects_sound s b) (bindings_sound s b) (config_of s t b) (config_read s b) (rw y at e)

-- The script s is accepted, every byte of it below 256, and the block b stands for the configuration c.
module _ (s : List ℕ) (bytes : (i : ℕ) → get_or s i 0 < 256) (t : ℕ) (acc : check_of s ≡ Ok t) (b : List ℕ) {c : Config} (e : config_of s t b ≡ some c) where
  pub held : Holds s t b c
  held = config_holds s bytes t acc b c e

  abbrev pub stands : Standing s b
  stands =
      record {
        config = c;
        type = t;
        represents = let fit = holds_fits s bytes t acc held in record { block = held.is; few = fit.few; storable = fit.values };
        accepted = accepts s bytes t acc;
        formed = held.well;
      }

-- the table before any variable is bound
zeros : (n k : ℕ) → ◌≡◌ {A = ℕ} (get_or (replicate n 0) k 0) 0
zeros zero k = refl
zeros (suc n) zero = refl
zeros (suc n) (suc k) = zeros n k

pub blank_table : Blank (replicate RANKS 0)
blank_table = record { size = length-replicate {A = ℕ} RANKS 0; zeros = record { zero = zeros RANKS } }
