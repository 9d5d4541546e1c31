-- What each call replies where the block holds a configuration.
use mathlib.Core.Path.{◌≡◌, refl, ap, ◌∙◌}
use mathlib.Core.List.{List}
use Prim.Native.Nat.{◌+◌, ℕ, ◌<◌, ◌≤◌}
use native.Mathlib.Omega.{arith}
use lib.ListN.{length, get_or}
use borrow.Author.Tests.{eq-eqb, le-leb, lt-leb}
use Rattle.limits.specs.Limits.{BLOCK, CHOICES, FLAGS}
use Rattle.script.specs.Lists.{◌∈◌}
use Rattle.script.proofs.Lists.{get_d_run}
use Rattle.script.proofs.Tests.{yes_said}
use Rattle.std.specs.declared.result.Result.TheVariants.{Ok}
use Rattle.typing.specs.Check.{check_of}
use Rattle.machine.specs.Config.{Config, code_of}
use Rattle.machine.specs.Machine.{field_count, one_if, limits, can_move, initial}
use Rattle.machine.specs.Runs.{report}
use Rattle.soundness.proofs.Positions.{initial_well}
use Rattle.soundness.proofs.Run.{run_read, run_leaves}
use Rattle.published.proofs.Traces.{run_trace}
use Rattle.block.proofs.Words.{encode_length}
use Rattle.block.proofs.Fits.{encode_bytes}
use Rattle.calls.specs.declared.LentQuestion.TheVariants.{BufferLength}
use Rattle.calls.specs.Calls.{Questioned, no_at, yes_with, lent_number, flags_long, start_asked, parts_asked, block_asked, start_of, flags_of, offered_from, offer_of, ran, run_of}
use Rattle.calls.specs.Answers.{Holds, TraceOf}
use Rattle.parts.proofs.Parts.{decides_objects, decides_bindings}
use Rattle.calls.proofs.Parts.{holds_parts}
use Rattle.calls.proofs.Answers.{accepts, holds_fits, holds_config}

-- Offer never changes the block.
pub offer_keeps : (s b fl : List ℕ) → (offer_of s b fl).block ≡ b
unfolding offer_of
offer_keeps s b fl = go (block_asked s b (flags_long fl))
  where
    go : (a : Questioned) → (offered_from s b fl a).block ≡ b
    go (no_at n place) = refl
    go (yes_with c) = refl

-- Offer's flag at a position, where the flags are those of a configuration.
pub flag_is : (s : List ℕ) (c : Config) (l : List ℕ) → l ≡ flags_of s c → (n : ℕ) → n < FLAGS → get_or l n 0 ≡ one_if (can_move (code_of s) limits c n)
unfolding flags_of
flag_is s c l e n h =
    let z : 0 + n ≡ n = omega arith in
    rw e (rw z at (get_d_run (λ i. one_if (can_move (code_of s) limits c i)) 0 FLAGS n 0 h))

module _ (s : List ℕ) (bytes : (i : ℕ) → get_or s i 0 < 256) (t : ℕ) (acc : check_of s ≡ Ok t) where
  pub holds_long : {b : List ℕ} {c : Config} → Holds s t b c → length b ≡ BLOCK
  holds_long {b} {c} h = ap (λ (l : List ℕ). length l) h.is ∙ encode_length c

  pub holds_small : {b : List ℕ} {c : Config} → Holds s t b c → (x : ℕ) → x ∈ b → x < 256
  holds_small {b} {c} h x m = encode_bytes (field_count s) c (holds_fits s bytes t acc h) x (rw h.is at m)

  -- Start writes the initial block over any block of the length.
  pub start_writes : (b : List ℕ) → length b ≡ BLOCK → Holds s t (start_of s b).block initial
  unfolding start_of start_asked
  start_writes b l = rw (acc, eq-eqb (length b) BLOCK l) (record { is = refl; well = initial_well (accepts s bytes t acc) })

  -- Every part of a block that holds a configuration gets a yes.
  parts_reply : {b : List ℕ} {c : Config} → Holds s t b c → parts_asked s t b ≡ yes_with c
  unfolding parts_asked
  parts_reply {b} {c} h =
      let p = holds_parts acc (holds_long h) h in
      rw (yes_said (decides_objects (accepts s bytes t acc) b) p.0, yes_said (decides_bindings (accepts s bytes t acc) b p.0) p.1, holds_config s bytes t acc h) refl

  -- Offer's flags where it is not refused.
  pub offer_reply : {b : List ℕ} {c : Config} → Holds s t b c → (fl : List ℕ) → length fl ≡ FLAGS
      → offer_of s b fl ≡ record { number = 0; place = 0; block = b; flags = flags_of s c }
  unfolding offer_of block_asked
  offer_reply {b} {c} h fl l = rw (acc, eq-eqb (length b) BLOCK (holds_long h), eq-eqb (length fl) FLAGS l, parts_reply h) refl

  -- Run replies what the machine's run says, and leaves its block.
  pub run_reply : {b : List ℕ} {c : Config} → Holds s t b c → (ns : List ℕ) → length ns ≤ CHOICES → run_of s b ns ≡ ran (report (code_of s) limits c ns)
  unfolding run_of block_asked
  run_reply {b} {c} h ns l = rw (acc, eq-eqb (length b) BLOCK (holds_long h), le-leb (length ns) CHOICES l, parts_reply h) refl

  pub run_holds : {b : List ℕ} {c : Config} → Holds s t b c → (ns : List ℕ) → length ns ≤ CHOICES
      → Holds s t (run_of s b ns).block (report (code_of s) limits c ns).config
  run_holds {b} {c} h ns l = rw (run_reply h ns l) (record { is = refl; well = (run_leaves (accepts s bytes t acc) limits ns c h.well).formed })

  -- Its moves are published steps or silent ones, as many as it returns, each at the position that its choice names.
  pub run_traced : {b : List ℕ} {c : Config} → Holds s t b c → (ns : List ℕ) → length ns ≤ CHOICES → TraceOf s b ns
  run_traced {b} {c} h ns l =
      record {
        type = t;
        accepted = acc;
        before = c;
        after = (report (code_of s) limits c ns).config;
        had = h;
        holds = run_holds h ns l;
        few = rw (run_reply h ns l) (run_read (code_of s) limits ns c);
        trace = rw (run_reply h ns l) (run_trace (accepts s bytes t acc) limits ns c h.well);
      }

  -- Run with too many choices is refused, whatever the block holds.
  pub run_too_long : (b ns : List ℕ) → length b ≡ BLOCK → CHOICES < length ns
      → run_of s b ns ≡ record { number = lent_number BufferLength; place = 0; stop = 0; read = 0; moves = 0; block = b }
  unfolding run_of block_asked
  run_too_long b ns l m = rw (acc, eq-eqb (length b) BLOCK l, lt-leb (length ns) CHOICES m) refl
