-- How the walk over a script goes, as the code goes it: a body, the bodies of a class, and all bodies, each from what is left.
use mathlib.Core.Path.{◌≡◌, refl, ◌∙◌}
use mathlib.Core.List.Memᴰ
use mathlib.Core.List.{List, [], ◌++◌}
use Prim.Native.Nat.{ℕ, suc, ◌+◌, ◌-◌, ◌<◌, ◌≤◌}
use native.Mathlib.Omega.{arith}
use lib.ListN.{length, get_or, set, length-set}
use lib.Seq.{get_or-set_other}
use Rattle.limits.specs.Limits.{INTERFACES, CLASSES, METHODS}
use Rattle.script.specs.declared.Section.TheVariants.{Interfaces as interfaces, Classes as classes, Methods as methods}
use Rattle.script.specs.Lists.{run, sum_below, named}
use Rattle.script.specs.Section.{count_of, record_word}
use Rattle.script.specs.Reading.{expr_at, own_methods, method_at, class_at, program_of}
use Rattle.script.specs.Statements.{WithinLayout}
use Rattle.script.specs.Regular.{IsType}
use Rattle.script.proofs.Lists.{sum_more}
use Rattle.script.proofs.Declarations.{length_interfaces, length_classes}
use Rattle.std.specs.declared.result.Result.TheVariants.{Ok, Err}
use Rattle.typing.specs.declared.Fault.{Fault}
use Rattle.typing.specs.Answers.{Answer}
use Rattle.names.specs.Facts.{Facts}
use Rattle.members.specs.Code.{Blank}
use Rattle.typing.specs.Members.{type_in}
use Rattle.typing.specs.Environments.{body_env}
use Rattle.typing.specs.Typing.{and_then, Body, bodies_from, bodies_of, walk}
use Rattle.typing.specs.Published.{WF-ENV}
use Rattle.names.specs.Ranks.{of_this, of_parameter}
use Rattle.inference.specs.Tables.{EnvIs}
use Rattle.inference.specs.Walk.{NodeInEnv, Checked, Inferred, bodies_in, body_answer, WalksAs}
use Rattle.inference.proofs.InferLaws.{env_bind, word_back, type_small}

-- A body is checked with two variables, which are bound and unbound again.
module _ {s facts env : List ℕ} (w : WithinLayout s) (known : Facts s facts) (b : Blank env) where
  no_variable : EnvIs s facts env []
  unfolding type_in named
  no_variable = record { types = WF-ENV (λ x m. absurd (Memᴰ.not-nil m)); holds = λ {x} {k} h. b.zeros.zero k }

  pub unbound_again : (u v : ℕ) {env₂ : List ℕ} → env₂ ≡ set (set env 0 u) 1 v → set (set env₂ 1 0) 0 0 ≡ env
  unbound_again u v {env₂} e =
      let this : get_or env 0 0 ≡ 0 = b.zeros.zero 0 in
      let param : get_or (set env 0 u) 1 0 ≡ 0 = get_or-set_other env 0 1 u 0 (λ z. omega arith) ∙ b.zeros.zero 1 in
      let first : set env₂ 1 0 ≡ set env 0 u = rw param at (word_back 1 v {env = set env 0 u} refl e) in
      rw this at (word_back 0 u {env = env} refl first)

  module _ (u v : ℕ) {env₂ : List ℕ} (e : env₂ ≡ set (set env 0 u) 1 v) where
    pub parameter_there : 1 < length env₂
    parameter_there = rw (e, length-set (set env 0 u) 1 v, length-set env 0 u, b.size) (omega arith)

    pub this_there : 0 < length (set env₂ 1 0)
    this_there = rw (length-set env₂ 1 0) (omega (arith, parameter_there))

  module _ (class m : ℕ) (i : IsType (program_of s) class) (h : m < count_of s methods) where
    param_type : IsType (program_of s) (record_word s methods m 1)
    param_type = rw (length_interfaces s, length_classes s) (w.types_are.1.1.1.0 m h).0

    pub param_small : (param : ℕ) → param ≡ record_word s methods m 1 → param ≤ INTERFACES + CLASSES + 1
    param_small param e = rw e (type_small w (record_word s methods m 1) param_type)

    body_env_lem : EnvIs s facts (set (set env 0 (class + 1)) 1 (record_word s methods m 1 + 1)) (body_env class (method_at s m).signature)
    unfolding method_at
    body_env_lem =
        env_bind (env_bind no_variable 0 0 class known of_this (omega (arith, b.size)) i) 1 1 (record_word s methods m 1) known of_parameter
        (rw (length-set env 0 (class + 1)) (omega (arith, b.size))) param_type

    pub body_at_lem : (param body : ℕ) → param ≡ record_word s methods m 1 → body ≡ record_word s methods m 3 → NodeInEnv s facts (set (set env 0 (class + 1)) 1 (param + 1)) body
    body_at_lem param body ep eb =
        record {
          size = rw (length-set (set env 0 (class + 1)) 1 (param + 1), length-set env 0 (class + 1)) b.size;
          there = rw eb (w.nodes_are.0 m h);
          variables = body_env class (method_at s m).signature;
          environment = rw ep body_env_lem;
        }

    pub body_checked :
        (param result body : ℕ) (r : Answer) → param ≡ record_word s methods m 1 → result ≡ record_word s methods m 2 → body ≡ record_word s methods m 3
        → Checked s facts (set (set env 0 (class + 1)) 1 (param + 1)) (expr_at s body) result r
        → r ≡ body_answer (program_of s) class (method_at s m)
    unfolding method_at
    body_checked param result body r ep er eb c = rw (er, eb) at (c (body_env class (method_at s m).signature) (rw ep body_env_lem))

  -- The start is inferred with no variable.
  pub start_at : {env₁ : List ℕ} → env₁ ≡ env → NodeInEnv s facts env₁ 0
  start_at e =
      record {
        size = rw e b.size;
        there = w.counts_are.a_node;
        variables = [];
        environment = rw e no_variable;
      }

pub blank_still : {env env₁ : List ℕ} → Blank env → env₁ ≡ env → Blank env₁
blank_still b e = rw e b

-- A class's type is a type, and its methods are records of the script.
pub class_type_lem : (s : List ℕ) (i c : ℕ) → i ≡ count_of s interfaces → c < count_of s classes → IsType (program_of s) (i + 1 + c)
class_type_lem s i c e h = rw (length_interfaces s, length_classes s) (omega arith)

module _ {s : List ℕ} (w : WithinLayout s) (c first : ℕ) (h : c < count_of s classes) (ef : first ≡ sum_below (own_methods s) c) where
  pub methods_within : (own : ℕ) → own ≡ own_methods s c → first + own ≤ count_of s methods
  methods_within own eo = omega (arith, sum_more (own_methods s) c (count_of s classes) h, w.owners_are.of_methods)

  pub first_small : first ≤ METHODS
  first_small = omega (arith, methods_within (own_methods s c) refl, w.counts_are.within methods)

-- Before method m of class c: the table is as it was, and what is left of the class, from this method to the end, comes to what the whole comes to.
pub record MethodsLeft (s env₀ env : List ℕ) (c class end m : ℕ) : Type 0 where
  pub same : env ≡ env₀
  pub left :
      (l : List Body)
      → walk (program_of s) (bodies_in (count_of s interfaces + 1 + c) (class_at s c).methods ++ l) ≡ walk (program_of s) (bodies_in class (run (method_at s) m (end - m)) ++ l)

pub methods_first :
    (s env : List ℕ) (i c first own : ℕ) → i ≡ count_of s interfaces → first ≡ sum_below (own_methods s) c → own ≡ own_methods s c
    → MethodsLeft s env env c (i + 1 + c) (first + own) first
unfolding class_at
methods_first s env i c first own ei ef eo =
    let e : first + own - first ≡ own = omega arith in
    record { same = refl; left = λ l. rw (e, ei, ef, eo) }

module _ {s env₀ env : List ℕ} {c class end m : ℕ} (i : MethodsLeft s env₀ env c class end m) where
  module _ (r : Answer) (h : m < end) (e : r ≡ body_answer (program_of s) class (method_at s m)) where
    method_next :
        (l : List Body)
        → walk (program_of s) (bodies_in (count_of s interfaces + 1 + c) (class_at s c).methods ++ l)
        ≡ and_then r (λ t. walk (program_of s) (bodies_in class (run (method_at s) (m + 1) (end - (m + 1))) ++ l))
    unfolding run walk
    method_next l = let k : end - m ≡ suc (end - (m + 1)) = omega arith in rw (i.left l, k, e)

    pub methods_more : (t : ℕ) {env₁ : List ℕ} → r ≡ Ok t → env₁ ≡ env → MethodsLeft s env₀ env₁ c class end (m + 1)
    methods_more t k e₁ = record { same = e₁ ∙ i.same; left = λ l. rw k at (method_next l) }

    pub method_faulty : (q : Fault) → r ≡ Err q → WalksAs s (bodies_in (count_of s interfaces + 1 + c) (class_at s c).methods) (Err q)
    method_faulty q k l = rw (method_next l, k)

  pub methods_all : end ≤ m → WalksAs s (bodies_in (count_of s interfaces + 1 + c) (class_at s c).methods) (Ok 0)
  unfolding run
  methods_all h l = let k : end - m ≡ 0 = omega arith in rw (i.left l, k)

-- The same of the classes, before class c.
pub record ClassesLeft (s env₀ env : List ℕ) (c : ℕ) : Type 0 where
  pub same : env ≡ env₀
  pub left : walk (program_of s) (bodies_of (program_of s)) ≡ walk (program_of s) (bodies_from (count_of s interfaces + 1 + c) (run (class_at s) c (count_of s classes - c)))

pub classes_first : (s env : List ℕ) → ClassesLeft s env env 0
unfolding bodies_of program_of
classes_first s env =
    let e : count_of s interfaces + 1 + 0 ≡ length (program_of s).interfaces + 1 = omega (arith, length_interfaces s) in
    let k : count_of s classes - 0 ≡ count_of s classes = omega arith in
    record { same = refl; left = rw (e, k) }

module _ {s env₀ env : List ℕ} {c : ℕ} (i : ClassesLeft s env₀ env c) where
  module _ (r : Answer) (h : c < count_of s classes) (e : WalksAs s (bodies_in (count_of s interfaces + 1 + c) (class_at s c).methods) r) where
    class_next : walk (program_of s) (bodies_of (program_of s)) ≡ and_then r (λ t. walk (program_of s) (bodies_from (count_of s interfaces + 1 + (c + 1)) (run (class_at s) (c + 1) (count_of s classes - (c + 1)))))
    unfolding run bodies_from
    class_next =
        let k : count_of s classes - c ≡ suc (count_of s classes - (c + 1)) = omega arith in
        let n : count_of s interfaces + 1 + (c + 1) ≡ count_of s interfaces + 1 + c + 1 = omega arith in
        rw (i.left, k, n) (e _)

    pub classes_more : (t : ℕ) {env₁ : List ℕ} → r ≡ Ok t → env₁ ≡ env → ClassesLeft s env₀ env₁ (c + 1)
    classes_more t k e₁ = record { same = e₁ ∙ i.same; left = rw k at class_next }

    pub class_faulty : (q : Fault) → r ≡ Err q → Err q ≡ walk (program_of s) (bodies_of (program_of s))
    class_faulty q k = rw (class_next, k)

  pub classes_all : {facts : List ℕ} (r : Answer) → WithinLayout s → Facts s facts → Blank env₀ → count_of s classes ≤ c → Inferred s facts env (expr_at s 0) r → r ≡ walk (program_of s) (bodies_of (program_of s))
  unfolding run bodies_from walk program_of
  classes_all r w f b h e = let k : count_of s classes - c ≡ 0 = omega arith in rw (i.left, k) (e [] (rw i.same (no_variable w f b)))
