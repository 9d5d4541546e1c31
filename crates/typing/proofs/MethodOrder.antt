-- The bodies that the walk goes through are those of the method records, in order; so its first no is the first no in method order, then the start.
use Prim.Native.Nat.{ℕ, zero, suc, ◌+◌, ◌-◌, ◌<◌, ◌≤◌}
use native.Mathlib.Omega.{arith}
use mathlib.Core.Path.{◌≡◌, refl, ap, ◌∙◌}
use mathlib.Core.Logic.{◌↔◌, ◌⊎◌, inl, inr}
use mathlib.Core.List.{List, [], ◌∷◌, ◌++◌, map}
use lib.ListN.{length, get_or, length-append, length-map, get_or-append}
use lib.Seq.{get_or-append-add}
use Rattle.script.specs.declared.Question.{Question}
use Rattle.script.specs.declared.Section.TheVariants.{Interfaces as interfaces, Classes as classes, Methods as methods}
use Rattle.script.specs.Lists.{run, sum_below}
use Rattle.script.specs.Section.{count_of}
use Rattle.script.specs.Syntax.{Point, Signature, Program}
use Rattle.script.specs.Reading.{method_at, own_methods, class_at, program_of}
use Rattle.script.specs.Statements.{WithinLayout}
use Rattle.script.proofs.Lists.{length_run, get_d_run, sum_more, owner_of_lem}
use Rattle.script.proofs.Declarations.{length_interfaces}
use Rattle.typing.specs.declared.Aim.TheVariants.{Infers as infers}
use Rattle.typing.specs.Environments.{TypeOf, nearest, further, body_env}
use Rattle.typing.specs.Typing.{Body, bodies_from, bodies_of}
use Rattle.typing.specs.Refusals.{ExprNo, MethodOf, class_type, WalkNo, in_method, in_start}
use Rattle.typing.specs.MethodOrder.{MethodOrder}
use Rattle.typing.proofs.Walk.{BodyChecks, BodyNo, ListNo, after_all, in_body, after_body}

get_d_each : {A B : Type 0} (g : A → B) (l : List A) (j : ℕ) (a : A) (b : B) → j < length l → get_or (map g l) j b ≡ g (get_or l j a)
get_d_each g [] j a b h = absurd (omega arith)
get_d_each g (x ∷ l) zero a b h = refl
get_d_each g (x ∷ l) (suc j) a b h = get_d_each g l j a b (omega arith)

module _ (s : List ℕ) where
  -- where the methods of class record i begin
  abbrev start : ℕ → ℕ
  start i = sum_below (own_methods s) i

  start_none : start 0 ≡ 0
  unfolding sum_below
  start_none = refl

  start_next : (i : ℕ) → start (i + 1) ≡ start i + own_methods s i
  unfolding sum_below
  start_next i = let e : i + 1 ≡ suc i = omega arith in rw e

  -- the bodies of class record i, whose type is t
  abbrev of_class : ℕ → ℕ → List Body
  of_class t i = map (λ m. record { class = t; method = m }) (class_at s i).methods

  class_length : (t i : ℕ) → length (of_class t i) ≡ own_methods s i
  unfolding class_at
  class_length t i = length-map (run (method_at s) (start i) (own_methods s i)) (λ m. record { class = t; method = m }) ∙ length_run (method_at s) (start i) (own_methods s i)

  class_body : (t i j : ℕ) (d : Body) → j < own_methods s i → get_or (of_class t i) j d ≡ record { class = t; method = method_at s (start i + j) }
  unfolding class_at
  class_body t i j d h =
      get_d_each (λ m. record { class = t; method = m }) (run (method_at s) (start i) (own_methods s i)) j (method_at s 0) d (rw (length_run (method_at s) (start i) (own_methods s i)) h)
      ∙ ap (λ m. record { class = t; method = m }) (get_d_run (method_at s) (start i) (own_methods s i) j (method_at s 0) h)

  past_class : (t i m k : ℕ) (l : List Body) (d : Body) → m ≡ own_methods s i + k → get_or (of_class t i ++ l) m d ≡ get_or l k d
  past_class t i m k l d e = let h : m ≡ length (of_class t i) + k = omega (arith, class_length t i) in rw h (get_or-append-add (of_class t i) l k d)

  -- those of the n class records from i on, the first of which has type t
  abbrev bodies : ℕ → ℕ → ℕ → List Body
  bodies t i n = bodies_from t (run (class_at s) i n)

  bodies_length : (t i n : ℕ) → start i + length (bodies t i n) ≡ start (i + n)
  unfolding bodies_from run
  bodies_length t i zero = let e : i + 0 ≡ i = omega arith in rw e (omega arith)
  bodies_length t i (suc n) =
      let e : i + suc n ≡ i + 1 + n = omega arith in
      rw e (omega (arith, start_next i, class_length t i, length-append (of_class t i) (bodies (t + 1) (i + 1) n), bodies_length (t + 1) (i + 1) n))

  bodies_at :
      (t i n j m : ℕ) (d : Body)
      → j < n
      → start (i + j) ≤ start i + m
      → start i + m < start (i + j) + own_methods s (i + j)
      → get_or (bodies t i n) m d ≡ record { class = t + j; method = method_at s (start i + m) }
  unfolding bodies_from run
  bodies_at t i zero j m d h l u = absurd (omega arith)
  bodies_at t i (suc n) zero m d h l u =
      let e : i + 0 ≡ i = omega arith in
      let z : t + 0 ≡ t = omega arith in
      let k : start i + m < start i + own_methods s i = rw e at u in
      let y : m < own_methods s i = omega arith in
      rw z (get_or-append (of_class t i) (bodies (t + 1) (i + 1) n) d m (rw (class_length t i) y) ∙ class_body t i m d y)
  bodies_at t i (suc n) (suc j) m d h l u =
      let e : i + suc j ≡ i + 1 + j = omega arith in
      let k = m - own_methods s i in
      let a : m ≡ own_methods s i + k = omega (arith, sum_more (own_methods s) i (i + suc j) (omega arith)) in
      let b : start (i + 1) + k ≡ start i + m = omega (arith, start_next i) in
      let c : t + 1 + j ≡ t + suc j = omega arith in
      past_class t i m k (bodies (t + 1) (i + 1) n) d a ∙ rw (b, c) at (bodies_at (t + 1) (i + 1) n j k d (omega arith) (rw (b, ← e) l) (rw (b, ← e) u))

  -- The list is in method order.
  pub in_method_order : WithinLayout s → MethodOrder s
  unfolding bodies_of program_of method_at
  in_method_order w =
      record {
        all =
            let e : 0 + count_of s classes ≡ count_of s classes = omega arith in
            let h = rw e at (bodies_length first 0 (count_of s classes)) in
            omega (arith, start_none, w.owners_are.of_methods);
        owned = λ k h.
            let o = owner_of_lem (own_methods s) (count_of s classes) k (omega (arith, w.owners_are.of_methods)) in
            (o.owner, record { class = o.among; from = o.from; upto = o.upto });
        each = λ c k d o.
            let e : 0 + c ≡ c = omega arith in
            let z : start 0 + k ≡ k = omega (arith, start_none) in
            let t : first + c ≡ class_type s c = omega (arith, length_interfaces s) in
            rw (z, t) at (bodies_at first 0 (count_of s classes) c k d o.class (rw (e, z) o.from) (rw (e, z) o.upto));
        environment = λ c k x t. (variables (method_at s k).signature, back (method_at s k).signature);
      }
    where
      first : ℕ
      first = length (program_of s).interfaces + 1

      variables : {c t x : ℕ} (g : Signature) → TypeOf (body_env c g) x t → ((x ≡ 0) × (t ≡ c)) ⊎ ((x ≡ 1) × (t ≡ g.param))
      variables g nearest = inr (refl, refl)
      variables g (further n nearest) = inl (refl, refl)
      variables {c = c} {t = t} g (further n (further _ x22)) = elim x22 [ ]

      back : {c t x : ℕ} (g : Signature) → ((x ≡ 0) × (t ≡ c)) ⊎ ((x ≡ 1) × (t ≡ g.param)) → TypeOf (body_env c g) x t
      back g (inl e) = rw (e.0, e.1) (further (λ (z : ◌≡◌ {A = ℕ} 1 0). omega arith) nearest)
      back g (inr e) = rw (e.0, e.1) nearest

-- the first no of a walk over a list, by the place of the body
module _ (p : Program) (d : Body) where
  data FirstIn (l : List Body) (q : Question) (n : Point) : Type 0 where
    at_body : (k : ℕ) → k < length l → ((j : ℕ) → j < k → BodyChecks p (get_or l j d)) → BodyNo p (get_or l k d) q n → FirstIn l q n
    past_all : ((j : ℕ) → j < length l → BodyChecks p (get_or l j d)) → ExprNo p [] p.start infers q n → FirstIn l q n

  checks_more : (b : Body) (l : List Body) (k : ℕ) → BodyChecks p b → ((j : ℕ) → j < k → BodyChecks p (get_or l j d)) → (j : ℕ) → j < suc k → BodyChecks p (get_or (b ∷ l) j d)
  checks_more b l k c f zero h = c
  checks_more b l k c f (suc j) h = f j (omega arith)

  next : {b : Body} {l : List Body} {q : Question} {n : Point} → BodyChecks p b → FirstIn l q n → FirstIn (b ∷ l) q n
  next {b} {l} c (at_body k h f g) = at_body (suc k) (omega arith) (checks_more b l k c f) g
  next {b} {l} c (past_all f g) = past_all (checks_more b l (length l) c f) g

  first_in : {l : List Body} {q : Question} {n : Point} → ListNo p l q n → FirstIn l q n
  first_in (after_all g) = past_all (λ j h. absurd (omega arith)) g
  first_in (in_body g) = at_body 0 (omega arith) (λ j h. absurd (omega arith)) g
  first_in (after_body c h) = next c (first_in h)

  in_list : (l : List Body) {q : Question} {n : Point} → FirstIn l q n → ListNo p l q n
  in_list [] (at_body k h f g) = absurd (omega arith)
  in_list [] (past_all f g) = after_all g
  in_list (b ∷ l) (at_body zero h f g) = in_body g
  in_list (b ∷ l) (at_body (suc k) h f g) = after_body (f 0 (omega arith)) (in_list l (at_body k (omega arith) (λ j i. f (suc j) (omega arith)) g))
  in_list (b ∷ l) (past_all f g) = after_body (f 0 (omega arith)) (in_list l (past_all (λ j i. f (suc j) (omega arith)) g))

-- The first no of the walk over the list is the first no in method order, then the start.
pub walk_no_exactly : (s : List ℕ) → WithinLayout s → (q : Question) (n : Point) → ListNo (program_of s) (bodies_of (program_of s)) q n ↔ WalkNo s q n
walk_no_exactly s w q n = (λ h. to (first_in (program_of s) blank h), λ h. in_list (program_of s) blank (bodies_of (program_of s)) (from h))
  where
    blank : Body
    blank = record { class = 0; method = method_at s 0 }

    o : MethodOrder s
    o = in_method_order s w

    there : {c k : ℕ} → MethodOf s c k → k < length (bodies_of (program_of s))
    there {c} {k} m = omega (arith, m.class, m.upto, o.all, sum_more (own_methods s) c (count_of s classes) m.class, w.owners_are.of_methods)

    owner : (k : ℕ) → k < length (bodies_of (program_of s)) → (c : ℕ) × MethodOf s c k
    owner k h = o.owned k (rw o.all at h)

    from : WalkNo s q n → FirstIn (program_of s) blank (bodies_of (program_of s)) q n
    from (in_method {c} {k} m f g) =
        at_body k (there m)
        (λ j l. let i = owner j (omega (arith, there m)) in rw (o.each i.0 j blank i.1) (f i.0 j i.1 l))
        (rw (o.each c k blank m) g)
    from (in_start f g) = past_all (λ j l. let i = owner j l in rw (o.each i.0 j blank i.1) (f i.0 j i.1)) g

    to : FirstIn (program_of s) blank (bodies_of (program_of s)) q n → WalkNo s q n
    to (at_body k h f g) =
        let m = owner k h in
        in_method m.1 (λ d j i l. rw (o.each d j blank i) at (f j l)) (rw (o.each m.0 k blank m.1) at g)
    to (past_all f g) = in_start (λ d j i. rw (o.each d j blank i) at (f j (there i))) g
