-- The walk over some frames, the outermost first: what is expected goes up frame by frame.
use mathlib.Core.Path.{◌≡◌, refl, ap, ◌∙◌}
use mathlib.Core.List.{List, [], ◌∷◌, ◌++◌, reverse, reverse-append}
use mathlib.Core.Option.{Option, none, some}
use Prim.Native.Nat.{ℕ, suc, ◌+◌, ◌-◌, ◌<◌, ◌≤◌}
use native.Mathlib.Omega.{arith}
use lib.ListN.{length, get_or, take, drop, length-drop}
use lib.Seq.{take-suc, take-add, get_or-drop}
use Rattle.words.specs.Word.{bytes}
use Rattle.limits.specs.Limits.{FRAMES}
use Rattle.machine.specs.declared.Frame.{Frame}
use Rattle.machine.specs.declared.Frame.TheVariants.{Awaits as awaits, Casts as casts, Locks as locks}
use Rattle.machine.specs.declared.Want.{Want}
use Rattle.machine.specs.Config.{Code, code_of, Binding}
use Rattle.machine.specs.Decide.{given, expects}
use Rattle.block.specs.declared.Area.TheVariants.{Frames}
use Rattle.block.specs.Layout.{counted}
use Rattle.block.specs.Block.{Parts, parts_of, laid}
use Rattle.environments.specs.Chains.{bindings_in}
use Rattle.std.specs.declared.option.Option.{Option as CodeOption}
use Rattle.std.specs.declared.option.Option.TheVariants.{Some, None}
use Rattle.awaited.specs.declared.Waits.{Waits}
use Rattle.awaited.specs.Awaited.{expects_of, wants_of, ScopedBlock}
use Rattle.parts.specs.Parts.{config_read}
use Rattle.frames.specs.Expecting.{AwaitsAs, CastsAs, frame_step, frames_in, frames_from}
use Rattle.frames.proofs.BlockLaws.{in_block, frames_many}

-- what an answer says
pub is_none : (o : Option Want) (r : CodeOption Want) → r ≡ expects_of o → r ≡ None → o ≡ none
is_none none r e f = refl
is_none (some w) r e f = absurd (let z : ◌≡◌ {A = ℕ} 0 1 = cc in omega arith)

pub is_some : (o : Option Want) (r : CodeOption Want) (v : Want) → r ≡ expects_of o → r ≡ Some v → o ≡ some v
is_some none r v e f = absurd (let z : ◌≡◌ {A = ℕ} 0 1 = cc in omega arith)
is_some (some w) r v e f = let z : w ≡ v = cc in ap some z

module _ (s : Code) (bs : List Binding) (w : Want) where
  -- one frame more
  expects_more : (f : Frame) (fs : List Frame) → expects s bs w (f ∷ fs) ≡ given (expects s bs w fs) (λ v. frame_step s bs f v)
  expects_more (awaits n e) fs = refl
  expects_more (casts n) fs = refl
  expects_more (locks o) fs = go (expects s bs w fs)
    where
      go : (o : Option Want) → o ≡ given o (λ v. some v)
      go none = refl
      go (some v) = refl

  -- frames above frames that are not typed
  expects_none : (fs gs : List Frame) → expects s bs w gs ≡ none → expects s bs w (fs ++ gs) ≡ none
  expects_none [] gs h = h
  expects_none (f ∷ fs) gs h = expects_more f (fs ++ gs) ∙ ap (λ (o : Option Want). given o (λ v. frame_step s bs f v)) (expects_none fs gs h)

module _ {s b : List ℕ} (y : ScopedBlock s b) where
  pub frame_place : (i : ℕ) → i < counted b Frames → i < FRAMES
  frame_place i l = omega (arith, (y.in_order.areas Frames).few)

  -- frame i, as it is read
  module _ (i : ℕ) (l : i < counted b Frames) (f : Frame) (read : (p : Parts) → b ≡ bytes (laid p) → i < length p.frames → f ≡ get_or p.frames i (awaits 0 0)) where
    frame_known : f ≡ get_or (frames_in s b) i (awaits 0 0)
    frame_known = read (parts_of (config_read s b)) (in_block y) (omega (arith, frames_many y))

    module _ (v : Want) (w : CodeOption Waits) (r : CodeOption Want) (er : r ≡ expects_of (wants_of (code_of s) v w)) where
      pub frame_awaits : (n e : ℕ) → f ≡ awaits n e → AwaitsAs s b n e w
          → r ≡ expects_of (frame_step (code_of s) (bindings_in b) (get_or (frames_in s b) i (awaits 0 0)) v)
      frame_awaits n e k h = rw (← frame_known, k, h v) er

      pub frame_casts : (n : ℕ) → f ≡ casts n → CastsAs s n w
          → r ≡ expects_of (frame_step (code_of s) (bindings_in b) (get_or (frames_in s b) i (awaits 0 0)) v)
      frame_casts n k h = rw (← frame_known, k, h v) er

    pub frame_locks : (v : Want) (o : ℕ) → f ≡ locks o → Some v ≡ expects_of (frame_step (code_of s) (bindings_in b) (get_or (frames_in s b) i (awaits 0 0)) v)
    frame_locks v o k = rw (← frame_known, k)

-- The walk over n frames from number `from` on has passed k of them, with the table as it was before.
pub record Climbed (s b before table : List ℕ) (from n : ℕ) (want : Want) (k : ℕ) (w : Want) : Type 0 where
  pub within : k ≤ n
  pub same : table ≡ before
  pub so_far : expects (code_of s) (bindings_in b) want (frames_from s b from k) ≡ some w

pub climb_begun : (s b table : List ℕ) (from n : ℕ) (want : Want) → Climbed s b table table from n want 0 want
climb_begun s b table from n want = record { within = omega arith; same = refl; so_far = refl }

module _ {s before table b : List ℕ} (y : ScopedBlock s b) {from n : ℕ} (l : from + n ≤ counted b Frames) {want : Want} {k : ℕ} {w : Want} (x : Climbed s b before table from n want k w) where
  module _ (h : k < n) where
    pub climb_place : from + k < counted b Frames
    climb_place = omega arith

    -- with the next frame
    next : expects (code_of s) (bindings_in b) want (frames_from s b from (k + 1)) ≡ frame_step (code_of s) (bindings_in b) (get_or (frames_in s b) (from + k) (awaits 0 0)) w
    next =
        let fs : List Frame = drop from (frames_in s b) in
        let one : k + 1 ≡ suc k = omega arith in
        let e : reverse (take (suc k) fs) ≡ get_or fs k (awaits 0 0) ∷ reverse (take k fs) =
        ap reverse (take-suc fs k (awaits 0 0) (omega (arith, frames_many y, length-drop from (frames_in s b)))) ∙ reverse-append (take k fs) (get_or fs k (awaits 0 0) ∷ [])
        in
        rw (one, e, get_or-drop from (frames_in s b) k (awaits 0 0))
        (expects_more (code_of s) (bindings_in b) want (get_or (frames_in s b) (from + k) (awaits 0 0)) (reverse (take k fs))
        ∙ ap (λ (o : Option Want). given o (λ v. frame_step (code_of s) (bindings_in b) (get_or (frames_in s b) (from + k) (awaits 0 0)) v)) x.so_far)

    module _ (r : CodeOption Want) (er : r ≡ expects_of (frame_step (code_of s) (bindings_in b) (get_or (frames_in s b) (from + k) (awaits 0 0)) w)) where
      pub climb_more : {after : List ℕ} → after ≡ table → (v : Want) → r ≡ Some v → Climbed s b before after from n want (k + 1) v
      climb_more e v f = record { within = omega arith; same = e ∙ x.same; so_far = next ∙ is_some (frame_step (code_of s) (bindings_in b) (get_or (frames_in s b) (from + k) (awaits 0 0)) w) r v er f }

      pub climb_stopped : r ≡ None → None ≡ expects_of (expects (code_of s) (bindings_in b) want (frames_from s b from n))
      climb_stopped f =
          let fs : List Frame = drop from (frames_in s b) in
          let rest : List Frame = take (n - (k + 1)) (drop (k + 1) fs) in
          let m : n ≡ k + 1 + (n - (k + 1)) = omega arith in
          let e : reverse (take n fs) ≡ reverse rest ++ reverse (take (k + 1) fs) =
          ap (λ (j : ℕ). reverse (take j fs)) m ∙ ap reverse (take-add (k + 1) (n - (k + 1)) fs) ∙ reverse-append (take (k + 1) fs) rest
          in
          let none_here = next ∙ is_none (frame_step (code_of s) (bindings_in b) (get_or (frames_in s b) (from + k) (awaits 0 0)) w) r er f in
          rw (e, expects_none (code_of s) (bindings_in b) want (reverse rest) (reverse (take (k + 1) fs)) none_here)

  pub climb_done : (k < n → ⊥) → Some w ≡ expects_of (expects (code_of s) (bindings_in b) want (frames_from s b from n))
  climb_done h = let e : n ≡ k = omega (arith, x.within) in rw (e, x.so_far)
