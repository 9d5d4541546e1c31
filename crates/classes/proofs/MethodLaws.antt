-- Methods by their records, and what the code of their look-up answers: a law for each return, with the callees' results as variables.
use mathlib.Core.Path.{◌≡◌, refl, sym, ap, ◌∙◌}
use mathlib.Core.List.{List}
use mathlib.Core.Option.{Option, none, some, map}
use Prim.Native.Nat.{ℕ, ◌<◌}
use native.Mathlib.Omega.{arith}
use Rattle.std.specs.declared.option.Option.{Option as CodeOption}
use Rattle.std.specs.declared.option.Option.TheVariants.{Some, None}
use Rattle.script.specs.declared.Section.TheVariants.{Methods as methods, Nodes as nodes}
use Rattle.script.specs.Lists.{sum_below}
use Rattle.script.specs.Section.{count_of, record_word}
use Rattle.script.specs.Syntax.{Point, point_of, Method}
use Rattle.script.specs.Reading.{view_at, expr_at, own_methods, method_at, class_at, program_of}
use Rattle.script.specs.Statements.{WithinLayout}
use Rattle.sections.specs.Laid.{found_of}
use Rattle.script.proofs.Reading.{build_point, expr_at_lem, in_order}
use Rattle.subtypes.specs.declared.Declared.{Declared}
use Rattle.subtypes.specs.declared.Declared.TheVariants.{Class as is_class}
use Rattle.subtypes.specs.Subtypes.{DeclaredAs}
use Rattle.members.specs.Lookup.{own_named}
use Rattle.subtypes.proofs.SubtypeLaws.{class_there, type_class, but_class}
use Rattle.members.proofs.LookupLaws.{named_run, own_there}
use Rattle.typing.specs.Members.{defined_from, defined_in}
use Rattle.classes.specs.Defined.{MethodIs, no_method, method_found_at}

-- The record of a method: in a class the first of its run with the name, and no other type defines any.
module _ {s : List ℕ} {t : ℕ} {d : Declared} (h : DeclaredAs s t d) (m : ℕ) where
  defined_own : {c : ℕ} → d ≡ is_class c → defined_in (program_of s) t m ≡ map (method_at s) (own_named s methods c m)
  unfolding class_at method_at
  defined_own {c} e = rw (type_class h e) (named_run (method_at s) (λ (x : Method). x.signature.name) m (sum_below (own_methods s) c) (own_methods s c))

  pub record_own : WithinLayout s → {c : ℕ} → d ≡ is_class c → (found : CodeOption ℕ) → found ≡ found_of (own_named s methods c m) → MethodIs s t m found
  record_own w {c} e found o = rw o (go (own_named s methods c m) refl)
    where
      go : (x : Option ℕ) → own_named s methods c m ≡ x → MethodIs s t m (found_of x)
      go none q = no_method (defined_own e ∙ ap (map (method_at s)) q)
      go (some j) q = method_found_at (own_there w methods c m j found (class_there h e).0 o (o ∙ ap found_of q)) (defined_own e ∙ ap (map (method_at s)) q)

  -- Any other type defines none.
  pub record_none : ((c : ℕ) → d ≡ is_class c → ⊥) → MethodIs s t m None
  record_none n = no_method (but_class (λ x. defined_from m x) none refl (λ i. refl) refl refl h n)

-- What the code's answer says.
pub defined_none : {s : List ℕ} {t m : ℕ} {r : CodeOption ℕ} → MethodIs s t m r → r ≡ None → defined_in (program_of s) t m ≡ none
defined_none (no_method e) q = e
defined_none (method_found_at l e) q = absurd (let z : ◌≡◌ {A = ℕ} 0 1 = cc in omega arith)

pub defined_at : {s : List ℕ} {t m : ℕ} {r : CodeOption ℕ} {j : ℕ} → MethodIs s t m r → r ≡ Some j → (j < count_of s methods) × (defined_in (program_of s) t m ≡ some (method_at s j))
defined_at (no_method e) q = absurd (let z : ◌≡◌ {A = ℕ} 0 1 = cc in omega arith)
defined_at {j = j} (method_found_at {j = i} l e) q = let z : i ≡ j = cc in rw (← z) (l, e)

pub expr_point : {s : List ℕ} → WithinLayout s → (n : Point) → n < count_of s nodes → point_of (expr_at s n) ≡ n
expr_point {s} w n l = ap point_of (expr_at_lem s n l (in_order s w n l)) ∙ build_point n (expr_at s) (view_at s n)

-- The words of a method's record that a call needs: the type of the parameter, and the node of the body, which is there.
module _ (s : List ℕ) (j : ℕ) where
  pub param_word : record_word s methods j 1 ≡ (method_at s j).signature.param
  unfolding method_at
  param_word = refl

  module _ (w : WithinLayout s) (l : j < count_of s methods) where
    pub body_there : record_word s methods j 3 < count_of s nodes
    body_there = w.nodes_are.0 j l

    pub body_word : record_word s methods j 3 ≡ point_of (method_at s j).body
    unfolding method_at
    body_word = sym (expr_point w (record_word s methods j 3) body_there)
