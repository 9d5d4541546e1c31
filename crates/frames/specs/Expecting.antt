-- What question 27 asks of the frames and threads of a block in order, position by position and frame by frame. "what a let frame waits for fits the type
-- inferred for the let's first part"
use Rattle.std.specs.Prelude.{ℕ, zero, suc, ◌≡◌, Bool, true, ◌&&◌, List, reverse, leb, ltb, length, get_or, take, drop}
use Rattle.std.proofs.Math.Option.{Option, some}
use Rattle.script.specs.Lists.{sum_below}
use Rattle.script.specs.Syntax.{Point}
use Rattle.machine.specs.declared.Frame.{Frame}
use Rattle.machine.specs.declared.Frame.TheVariants.{Awaits as awaits, Casts as casts, Locks as locks}
use Rattle.machine.specs.declared.Want.{Want}
use Rattle.machine.specs.declared.Want.TheVariants.{Any as any}
use Rattle.machine.specs.Config.{Code, code_of, Binding, Stores, Tree, running, returning, failed, join}
use Rattle.machine.specs.Machine.{context}
use Rattle.machine.specs.Decide.{given, only, value_fits_test, at_test, wants, awaited, cast_type, expects, want_test}
use Rattle.block.specs.declared.Area.TheVariants.{Positions}
use Rattle.block.specs.Layout.{word_in, WAITING}
use Rattle.block.specs.Block.{preorder, frames_of}
use Rattle.parts.specs.Parts.{config_read}
use Rattle.environments.specs.Chains.{bindings_in}
use Rattle.std.specs.declared.option.Option.{Option as CodeOption}
use Rattle.awaited.specs.declared.Waits.{Waits}
use Rattle.awaited.specs.Awaited.{wants_of}

-- What is expected of the value that goes on above a frame, where v is expected beneath it: one step of `expects`.
abbrev pub awaits_step : Code → List Binding → Point → ℕ → Want → Option Want
awaits_step s bs n e v = only (ltb n s.size) (only (leb e (length bs)) (awaited s (context bs e) (s.view n) v))

abbrev pub casts_step : Code → Point → Want → Option Want
casts_step s n v = only (ltb n s.size) (given (cast_type (s.view n)) (λ t. wants s t v t))

-- What the frame of a node that awaits, and of a cast, waits for, whatever is expected beneath it.
abbrev pub AwaitsAs : List ℕ → List ℕ → Point → ℕ → CodeOption Waits → Type 0
AwaitsAs s b n e r = (v : Want) → awaits_step (code_of s) (bindings_in b) n e v ≡ wants_of (code_of s) v r

abbrev pub CastsAs : List ℕ → Point → CodeOption Waits → Type 0
CastsAs s n r = (v : Want) → casts_step (code_of s) n v ≡ wants_of (code_of s) v r

abbrev pub frame_step : Code → List Binding → Frame → Want → Option Want
frame_step s bs (awaits n e) v = awaits_step s bs n e v
frame_step s bs (casts n) v = casts_step s n v
frame_step s bs (locks o) v = some v

-- The frames of all positions, in the order in which they lie, and n of them from number `from` on, innermost first.
abbrev pub frames_in : List ℕ → List ℕ → List Frame
frames_in s b = frames_of (config_read s b).tree

abbrev pub frames_from : List ℕ → List ℕ → ℕ → ℕ → List Frame
frames_from s b from n = reverse (take n (drop from (frames_in s b)))

-- Position i, as the tree that begins there, and how many frames the positions before it have.
abbrev pub place_at : List ℕ → List ℕ → ℕ → Tree
place_at s b i = get_or (preorder (config_read s b).tree) i failed

abbrev pub frames_before : List ℕ → ℕ → ℕ
frames_before b i = sum_below (λ k. word_in b Positions k WAITING) i

-- A position by itself, without the sides of a join: its frames, and its node or value.
abbrev pub node_meets_test : Code → List Binding → Point → ℕ → Want → Bool
node_meets_test s bs a e v = leb e (length bs) && at_test s (context bs e) a v

abbrev pub position_test : Code → Stores → Want → Tree → Bool
position_test s st w (running a e fs) = want_test (expects s st.bindings w fs) (λ v. node_meets_test s st.bindings a e v)
position_test s st w (returning x fs) = want_test (expects s st.bindings w fs) (λ v. value_fits_test s st.objects x v)
position_test s st w failed = true
position_test s st w (join fs a e l r) = want_test (expects s st.bindings w fs) (λ v. node_meets_test s st.bindings a e v)

-- "to any type at an async": only the root has an expectation of its own.
abbrev pub want_at : Want → ℕ → Want
want_at w zero = w
want_at w (suc i) = any
