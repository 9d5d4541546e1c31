-- The list of bodies that the walk goes through is "in method order".
use Rattle.std.specs.Prelude.{ℕ, ◌<◌, ◌≡◌, ◌↔◌, ◌⊎◌, List, length, get_or}
use Rattle.script.specs.declared.Section.TheVariants.{Methods as methods}
use Rattle.script.specs.Section.{count_of, record_word}
use Rattle.script.specs.Reading.{method_at, program_of}
use Rattle.typing.specs.Environments.{TypeOf, body_env}
use Rattle.typing.specs.Typing.{Body, bodies_of}
use Rattle.typing.specs.Refusals.{MethodOf, class_type}

pub record MethodOrder (s : List ℕ) : Type 0 where
  -- there is one body for each method record, and each method record is of a class
  pub all : length (bodies_of (program_of s)) ≡ count_of s methods
  pub owned : (k : ℕ) → k < count_of s methods → (c : ℕ) × MethodOf s c k
  -- body k is that of method record k, with the type of its class (d is what `get_or` answers past the end)
  pub each : (c k : ℕ) (d : Body) → MethodOf s c k → get_or (bodies_of (program_of s)) k d ≡ record { class = class_type s c; method = method_at s k }
  -- its environment is this : the class, parameter : its declared type, and no more
  pub environment : (c k x t : ℕ)
      → TypeOf (body_env (class_type s c) (method_at s k).signature) x t
      ↔ (((x ≡ 0) × (t ≡ class_type s c)) ⊎ ((x ≡ 1) × (t ≡ record_word s methods k 1)))
