-- 20 and 22 from the three calls, beside a script that Check accepts, and 21, 26 and 27: none depends on what is asked later.
use mathlib.Core.Path.{◌≡◌, refl}
use mathlib.Core.Bool.{true, false}
use mathlib.Core.List.{List}
use mathlib.Core.Option.{none}
use Prim.Native.Nat.{ℕ, ◌<◌}
use lib.ListN.{length}
use borrow.Author.Tests.{eq-eqb, ne_eqb, lt-leb}
use Rattle.limits.specs.Limits.{BLOCK, CHOICES, FLAGS}
use Rattle.std.specs.declared.result.Result.TheVariants.{Ok}
use Rattle.typing.specs.Check.{check_of}
use Rattle.machine.specs.Machine.{initial}
use Rattle.block.specs.Block.{encode}
use Rattle.parts.specs.Parts.{objects_sound, bindings_sound}
use Rattle.calls.specs.Calls.{no_at, start_asked, config_of, parts_asked, block_asked, start_of, offer_of, run_of}
use Rattle.calls.specs.Lent.{LentRefused}

module _ (s : List ℕ) (t : ℕ) (acc : check_of s ≡ Ok t) (b fl ns : List ℕ) where
  pub no_length : (length b ≡ BLOCK → ⊥) → LentRefused s (record { block = b; flags = fl; choices = ns; start = 20; written = b; number = 20 })
  unfolding start_of start_asked offer_of run_of block_asked
  no_length h =
      let e = ne_eqb (length b) BLOCK h in
      record { started = rw (acc, e) refl; offered = rw (acc, e) refl; ran = rw (acc, e) refl }

  pub no_buffer : length b ≡ BLOCK → (length fl ≡ FLAGS → ⊥) → CHOICES < length ns
      → LentRefused s (record { block = b; flags = fl; choices = ns; start = 0; written = encode initial; number = 22 })
  unfolding start_of start_asked offer_of run_of block_asked
  no_buffer l h k =
      let e = eq-eqb (length b) BLOCK l in
      record { started = rw (acc, e) refl; offered = rw (acc, e, ne_eqb (length fl) FLAGS h) refl; ran = rw (acc, e, lt-leb (length ns) CHOICES k) refl }

-- "Objects are examined first, then bindings, then frames and threads", and the number of each
module _ (s : List ℕ) (t : ℕ) (b : List ℕ) where
  pub no_objects_told : objects_sound s b ≡ false → parts_asked s t b ≡ no_at 21 0
  unfolding parts_asked
  no_objects_told e = rw e refl

  module _ (o : objects_sound s b ≡ true) where
    pub no_bindings_told : bindings_sound s b ≡ false → parts_asked s t b ≡ no_at 26 0
    unfolding parts_asked
    no_bindings_told e = rw (o, e) refl

    pub no_threads_told : bindings_sound s b ≡ true → config_of s t b ≡ none → parts_asked s t b ≡ no_at 27 0
    unfolding parts_asked
    no_threads_told v e = rw (o, v, e) refl
