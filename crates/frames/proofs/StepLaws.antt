-- What is expected above a frame, and of a node, as the code goes: one law for each answer.
use mathlib.Core.Path.{◌≡◌, refl, sym, ◌∙◌}
use mathlib.Core.Bool.{Bool, true, false, and-false}
use mathlib.Core.List.{List}
use mathlib.Core.Option.{none}
use Prim.Native.Nat.{ℕ, ◌<◌, ◌≤◌}
use native.Mathlib.Omega.{arith}
use borrow.Author.Tests.{lt-ltb, le-ltb, le-leb, lt-leb}
use lib.Dec.{leb}
use lib.ListN.{length}
use Rattle.script.specs.declared.Section.TheVariants.{Nodes as nodes}
use Rattle.script.specs.declared.Kind.{Kind}
use Rattle.script.specs.declared.Kind.TheVariants as kinds
use Rattle.script.specs.declared.Kind.TheVariants.{Cast as cast_kind}
use Rattle.script.specs.Section.{count_of, node_word}
use Rattle.script.specs.Syntax.{Point}
use Rattle.script.specs.Reading.{kind_of, node_of, expr_at, program_of}
use Rattle.inference.specs.declared.Given.{Given}
use Rattle.inference.specs.Given.{GivenIn}
use Rattle.machine.specs.declared.Want.{Want}
use Rattle.machine.specs.Config.{code_of}
use Rattle.machine.specs.Machine.{context}
use Rattle.machine.specs.Decide.{cast_type}
use Rattle.environments.specs.Chains.{binding_count, bindings_in}
use Rattle.std.specs.declared.option.Option.{Option as CodeOption}
use Rattle.std.specs.declared.option.Option.TheVariants.{Some, None}
use Rattle.std.specs.declared.result.Result.{Result}
use Rattle.typing.specs.declared.Fault.{Fault}
use Rattle.awaited.specs.declared.Waits.{Waits}
use Rattle.awaited.specs.declared.Waits.TheVariants.{For}
use Rattle.awaited.specs.Awaited.{given_test, WaitsAs}
use Rattle.frames.specs.Expecting.{AwaitsAs, CastsAs, node_meets_test}
use Rattle.awaited.proofs.ReadyLaws.{bindings_length}
use Rattle.script.proofs.Reading.{view_as}
use Rattle.awaited.proofs.AwaitedLaws.{gives_by}

-- an environment of the block, and none of it
module _ (b : List ℕ) (e : ℕ) where
  env_there : e ≤ binding_count b → leb e (length (bindings_in b)) ≡ true
  env_there h = le-leb e (length (bindings_in b)) (omega (arith, bindings_length b))

  env_not : binding_count b < e → leb e (length (bindings_in b)) ≡ false
  env_not h = lt-leb e (length (bindings_in b)) (omega (arith, bindings_length b))

-- a frame that awaits a value
module _ (s b : List ℕ) (n : Point) (e : ℕ) where
  pub awaits_outside : count_of s nodes ≤ n → AwaitsAs s b n e None
  awaits_outside h v = rw (le-ltb n (count_of s nodes) h)

  module _ (h : n < count_of s nodes) where
    pub awaits_unbound : binding_count b < e → AwaitsAs s b n e None
    awaits_unbound l v = rw (lt-ltb n (count_of s nodes) h, env_not b e l)

    pub awaits_awaited : e ≤ binding_count b → (r : CodeOption Waits) → WaitsAs s b n e r → AwaitsAs s b n e r
    awaits_awaited l r k v = rw (lt-ltb n (count_of s nodes) h, env_there b e l) (k v)

-- only a cast has a cast's type
no_cast : (k : Kind) (a b c : ℕ) → (k ≡ cast_kind → ⊥) → cast_type (node_of k a b c) ≡ none
no_cast kinds.Null a b c h = refl
no_cast kinds.Variable a b c h = refl
no_cast kinds.Select a b c h = refl
no_cast kinds.Update a b c h = refl
no_cast kinds.Call a b c h = refl
no_cast kinds.Let a b c h = refl
no_cast kinds.New a b c h = refl
no_cast kinds.Cast a b c h = absurd (h refl)
no_cast kinds.Fork a b c h = refl
no_cast kinds.Lock a b c h = refl
no_cast kinds.Constant a b c h = refl
no_cast kinds.Sum a b c h = refl
no_cast kinds.Unknown a b c h = refl

module _ (s : List ℕ) (n : Point) where
  pub casts_outside : count_of s nodes ≤ n → CastsAs s n None
  casts_outside h v = rw (le-ltb n (count_of s nodes) h)

  module _ (h : n < count_of s nodes) (k : Kind) (ek : k ≡ kind_of (node_word s n 0)) where
    pub casts_other : (k ≡ cast_kind → ⊥) → CastsAs s n None
    casts_other f v = rw (lt-ltb n (count_of s nodes) h, view_as s n k (sym ek), no_cast k (node_word s n 1) (node_word s n 2) (node_word s n 3) f)

    pub casts_waits : k ≡ cast_kind → (t : ℕ) → t ≡ node_word s n 1 → CastsAs s n (Some (For t t))
    unfolding kind_of
    casts_waits f t et v = rw (lt-ltb n (count_of s nodes) h, view_as s n cast_kind (sym ek ∙ f), ← et)

-- a node that runs
module _ (s b : List ℕ) (n : Point) (e : ℕ) (v : Want) where
  pub node_outside : count_of s nodes ≤ n → false ≡ node_meets_test (code_of s) (bindings_in b) n e v
  node_outside h = rw (le-ltb n (count_of s nodes) h, and-false (leb e (length (bindings_in b))))

  pub node_unbound : binding_count b < e → false ≡ node_meets_test (code_of s) (bindings_in b) n e v
  node_unbound l = rw (env_not b e l)

  pub node_gives : n < count_of s nodes → e ≤ binding_count b → (g : Result Given Fault) → GivenIn (program_of s) (context (bindings_in b) e) (expr_at s n) g → (m : Bool) → m ≡ given_test (code_of s) g v
      → m ≡ node_meets_test (code_of s) (bindings_in b) n e v
  node_gives h l g eg m em = rw (env_there b e l, lt-ltb n (count_of s nodes) h, gives_by (code_of s) (context (bindings_in b) e) (expr_at s n) g eg v) em
