-- The bodies that the walk goes through are the methods of the program's classes, each with its class's type.
use Prim.Native.Nat.{ℕ, zero, suc, ◌+◌, ◌<◌}
use mathlib.Core.Path.{◌≡◌, ap, ◌∙◌}
use mathlib.Core.List.Memᴰ
use mathlib.Core.List.{List, [], ◌∷◌, map}
use mathlib.Core.Logic.{⊎_elim}
use native.Mathlib.Omega.{arith}
use lib.ListN.{length, get_or}
use Rattle.script.specs.Lists.{◌∈◌}
use Rattle.script.specs.Syntax.{Method, Class, Program, a_class, declaration_at}
use Rattle.script.proofs.Declarations.{class_of, declares_class, class_declared}
use Rattle.typing.specs.Typing.{Body, bodies_from, bodies_of}

-- The body of a method that a class of the program declares.
pub record BodyIn (p : Program) (b : Body) : Type 0 where
  pub class : Class
  pub declared : declaration_at p b.class ≡ a_class class
  pub there : b.method ∈ class.methods

-- a body among the classes from type t on, by the place of its class
record BodyAt (t : ℕ) (l : List Class) (b : Body) : Type 0 where
  place : ℕ
  within : place < length l
  type : b.class ≡ t + place
  method : b.method ∈ (get_or l place (record { implements = 0; fields = []; methods = [] })).methods

body_from : (t : ℕ) (l : List Class) (b : Body) → b ∈ bodies_from t l → BodyAt t l b
unfolding bodies_from
body_from t [] b m = absurd (Memᴰ.not-nil m)
body_from t (c ∷ l) b m =
    ⊎_elim
    (λ h. let r = Memᴰ.of_map (λ d. record { class = t; method = d }) {b = b} c.methods h in
    record { place = 0; within = omega arith; type = omega (arith, ap (λ (x : Body). x.class) r.2); method = rw (ap (λ (x : Body). x.method) r.2) at r.1 })
    (λ h. let r = body_from (t + 1) l b h in
    record { place = suc r.place; within = omega (arith, r.within); type = omega (arith, r.type); method = r.method })
    (Memᴰ.append_cases (map (λ d. record { class = t; method = d }) c.methods) m)

body_to :
    (t : ℕ) (l : List Class) (i : ℕ) (d : Method)
    → i < length l
    → d ∈ (get_or l i (record { implements = 0; fields = []; methods = [] })).methods
    → record { class = t + i; method = d } ∈ bodies_from t l
unfolding bodies_from
body_to t [] i d h m = absurd (omega arith)
body_to t (c ∷ l) zero d h m =
    let e : t + 0 ≡ t = omega arith in
    rw e (Memᴰ.append_left (bodies_from (t + 1) l) (Memᴰ.map (λ x. record { class = t; method = x }) m))
body_to t (c ∷ l) (suc i) d h m =
    let e : t + suc i ≡ t + 1 + i = omega arith in
    rw e (Memᴰ.append_right (map (λ x. record { class = t; method = x }) c.methods) (body_to (t + 1) l i d (omega arith) m))

module _ (p : Program) where
  pub body_in : (b : Body) → b ∈ bodies_of p → BodyIn p b
  unfolding bodies_of
  body_in b m =
      let r = body_from (length p.interfaces + 1) p.classes b m in
      let e : b.class ≡ suc (length p.interfaces + r.place) = omega (arith, r.type) in
      record { class = class_of p r.place; declared = ap (declaration_at p) e ∙ declares_class p r.place r.within; there = r.method }

  pub in_bodies : (t : ℕ) (c : Class) (d : Method) → declaration_at p t ≡ a_class c → d ∈ c.methods → record { class = t; method = d } ∈ bodies_of p
  unfolding bodies_of
  in_bodies t c d h m =
      let r = class_declared p t c h in
      let e : t ≡ length p.interfaces + 1 + r.0 = omega (arith, r.2) in
      rw e (body_to (length p.interfaces + 1) p.classes r.0 d r.1 (rw r.3 at m))
