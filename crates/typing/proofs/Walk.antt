-- The walk over all bodies and the start, and the published rules.
use Prim.Native.Nat.{ℕ}
use mathlib.Core.Path.{◌≡◌, refl}
use mathlib.Core.List.Memᴰ
use mathlib.Core.List.{List, [], ◌∷◌}
use mathlib.Core.Logic.{⊎_elim}
use Rattle.script.specs.declared.Question.{Question}
use Rattle.script.specs.Lists.{◌∈◌}
use Rattle.script.specs.Syntax.{Point, Program}
use Rattle.script.specs.Regular.{Regular}
use Rattle.typing.specs.declared.Aim.TheVariants.{Infers as infers, Checks as checks}
use Rattle.std.specs.declared.result.Result.TheVariants.{Ok}
use Rattle.typing.specs.Answers.{Answer, faulty}
use Rattle.typing.specs.Environments.{body_env}
use Rattle.typing.specs.Typing.{and_then, checked, Body, walk}
use Rattle.typing.specs.Published.{T-WF-CLASS, WfEnv, WF-ENV, MsigsFunction, Infer, Check}
use Rattle.typing.specs.Refusals.{ExprNo}
use Rattle.typing.proofs.Types.{type_wf}
use Rattle.typing.proofs.Rules.{Judged, types, passes, refuses, env_more, judged, infer_complete, check_complete, no_complete}
use Rattle.typing.proofs.Bodies.{BodyIn}

-- The published judgement of a body: this : C, x : t ⊢ e ⇐ t'.
abbrev pub BodyChecks : Program → Body → Type 0
BodyChecks p b = Check p (body_env b.class b.method.signature) b.method.body b.method.signature.result

abbrev pub BodyNo : Program → Body → Question → Point → Type 0
BodyNo p b q k = ExprNo p (body_env b.class b.method.signature) b.method.body (checks b.method.signature.result) q k

-- The first no of the walk over a list of bodies, and then the start.
pub data ListNo (p : Program) : List Body → Question → Point → Type 0 where
  after_all : {q : Question} {k : Point} → ExprNo p [] p.start infers q k → ListNo p [] q k
  in_body : {b : Body} {l : List Body} {q : Question} {k : Point} → BodyNo p b q k → ListNo p (b ∷ l) q k
  after_body : {b : Body} {l : List Body} {q : Question} {k : Point} → BodyChecks p b → ListNo p l q k → ListNo p (b ∷ l) q k

-- What the walk's answer says: every body passes and the start has this type, or the first no.
pub data Walked (p : Program) (l : List Body) : Answer → Type 0 where
  walks : {t : ℕ} → ((b : Body) → b ∈ l → BodyChecks p b) → Infer p [] p.start t → Walked p l (Ok t)
  halts : {q : Question} {k : Point} → ListNo p l q k → Walked p l (faulty q k)

no_env : (p : Program) → WfEnv p []
no_env p = WF-ENV (λ b m. absurd (Memᴰ.not-nil m))

module _ (p : Program) (ok : Regular p) where
  BodyJudged : Body → Answer → Type 0
  BodyJudged b r = Judged p (body_env b.class b.method.signature) b.method.body (checks b.method.signature.result) r

  body_judged : (b : Body) → BodyIn p b → BodyJudged b (checked p (body_env b.class b.method.signature) b.method.body b.method.signature.result)
  unfolding BodyJudged
  body_judged b i =
      let r = ok.classes b.class i.class i.declared in
      let g = r.method_types b.method i.there in
      let w = env_more p _ 1 b.method.signature.param (env_more p [] 0 b.class (no_env p) ((type_wf p b.class).1 (T-WF-CLASS i.declared))) g.param in
      judged p ok _ b.method.body (checks b.method.signature.result) w g.result (r.bodies b.method i.there)

  start_walked : {r : Answer} → Judged p [] p.start infers r → Walked p [] r
  start_walked (types h) = walks (λ b m. absurd (Memᴰ.not-nil m)) h
  start_walked (refuses h) = halts (after_all h)

  -- The walk answers by the rules.
  pub walked_by : (l : List Body) → ((b : Body) → b ∈ l → BodyIn p b) → Walked p l (walk p l)
  unfolding walk BodyJudged
  walked_by [] i = start_walked (judged p ok [] p.start infers (no_env p) tt ok.start)
  walked_by (b ∷ l) i = next (body_judged b (i b (Memᴰ.head refl))) (walked_by l (λ c m. i c (Memᴰ.tail m)))
    where
      on : BodyChecks p b → {r : Answer} → Walked p l r → Walked p (b ∷ l) r
      on c (walks f h) = walks (λ d m. ⊎_elim (λ (e : d ≡ b). rw e c) (λ k. f d k) (Memᴰ.cases_cons m)) h
      on c (halts h) = halts (after_body c h)

      next : {a r : Answer} → BodyJudged b a → Walked p l r → Walked p (b ∷ l) (and_then a (λ t. r))
      next (passes c) w = on c w
      next (refuses c) w = halts (in_body c)

module _ (p : Program) (ok : Regular p) (one : MsigsFunction p) where
  -- And what the rules give is its answer: a type, and the first no.
  pub walk_complete : (l : List Body) (t : ℕ) → ((b : Body) → b ∈ l → BodyChecks p b) → Infer p [] p.start t → walk p l ≡ Ok t
  unfolding walk
  walk_complete [] t f h = infer_complete p ok one h
  walk_complete (b ∷ l) t f h = rw (check_complete p ok one (f b (Memᴰ.head refl))) (walk_complete l t (λ c m. f c (Memᴰ.tail m)) h)

  pub walk_no_complete : {l : List Body} {q : Question} {k : Point} → ListNo p l q k → walk p l ≡ faulty q k
  unfolding walk
  walk_no_complete (after_all h) = no_complete p ok one h
  walk_no_complete (in_body c) = rw (no_complete p ok one c)
  walk_no_complete (after_body c h) = rw (check_complete p ok one c) (walk_no_complete h)
