-- Inference under an environment of a block: the table of no variable is filled, walked under, and made zeros again.
use mathlib.Core.Path.{◌≡◌, sym, ap, ◌∙◌}
use mathlib.Core.List.{List}
use Prim.Native.Nat.{ℕ, ◌<◌}
use lib.ListN.{length}
use lib.Seq.{ext_get_or}
use Rattle.script.specs.declared.Section.TheVariants.{Nodes as nodes}
use Rattle.script.specs.Section.{count_of}
use Rattle.script.specs.Syntax.{Point, Slot}
use Rattle.script.specs.Reading.{program_of}
use Rattle.slices.specs.Zero.{AllZero}
use Rattle.typing.specs.Published.{WfEnv}
use Rattle.inference.specs.Tables.{EnvIs}
use Rattle.members.specs.Code.{Blank}
use Rattle.inference.specs.Walk.{NodeInEnv}
use Rattle.environments.specs.Chains.{Filled}

module _ {table : List ℕ} (lent : Blank table) where
  -- made zeros again after a walk that left it as it was filled, it is what was lent
  pub zeros_again : {filled walked after : List ℕ} → length filled ≡ length table → walked ≡ filled → length after ≡ length walked → AllZero after → after ≡ table
  zeros_again {after = after} e w f z = ext_get_or 0 after table (f ∙ ap length w ∙ e) (λ i h. z.zero i ∙ sym (lent.zeros.zero i))

  -- the table filled: the environment that it is of, and where the walk stands
  module _ {s facts filled : List ℕ} {Γ : List Slot} (wf : WfEnv (program_of s) Γ) (f : Filled s facts filled Γ) where
    pub environment : EnvIs s facts filled Γ
    environment = record { types = wf; holds = λ {x} {k} h. f x k h }

    pub at_node : (n : Point) → length filled ≡ length table → n < count_of s nodes → NodeInEnv s facts filled n
    at_node n e l =
        record {
          size = e ∙ lent.size;
          there = l;
          variables = Γ;
          environment = environment;
        }
