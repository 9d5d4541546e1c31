-- Nodes counted, and the sizes of expressions.
use mathlib.Core.Path.{◌≡◌, refl, sym, ap, ◌∙◌}
use mathlib.Core.Bool.{Bool, true, false}
use mathlib.Core.List.{List, [], ◌∷◌, map}
use Prim.Native.Nat.{ℕ, zero, suc, ◌+◌, ◌%◌, ◌-◌, ◌≤◌, ◌<◌}
use native.Mathlib.Omega.{arith}
use native.Mathlib.Numerals.{add-one}
use lib.Dec.{leb}
use lib.ListN.{length, get_or, take, drop, set, length-set, length-drop}
use lib.Seq.{drop-cons, drop-set-lt, get_or-set_same}
use Rattle.script.specs.declared.Section.TheVariants.{Nodes as nodes}
use Rattle.grammar.specs.Faults.{begins_test}
use Rattle.rows.specs.Rows.{Item, one_added_if, arity_of, hop, sizes_of}
use Rattle.token_words.specs.Items.{Roled, Nested}
use Rattle.token_words.proofs.TokenLaws.{item_cons, role_here}
use Rattle.token_words.proofs.TokenLaws.{hop_within, nested_drop}
use Rattle.section_rows.specs.Records.{begun_among}
use Rattle.section_rows.proofs.PlaceLaws.{Place, place_next}

-- nested sizes
nested_more : (v : ℕ) (sizes : List ℕ) → Nested sizes → v ≤ suc (length sizes) → Nested (v ∷ sizes)
nested_more v sizes h l = record { within = go }
  where
    go : (j : ℕ) → get_or (v ∷ sizes) j 0 ≤ suc (length sizes) - j
    go zero = omega arith
    go (suc j) = omega (arith, h.within j)

pub nested_sizes : (es : List Item) → Nested (sizes_of es)
unfolding sizes_of
nested_sizes [] = record { within = λ j. omega arith }
nested_sizes (e ∷ es) = go (leb 16 (e.role % 32)) refl (nested_sizes es)
  where
    go : (t : Bool) → leb 16 (e.role % 32) ≡ t → Nested (sizes_of es) → Nested (sizes_of (e ∷ es))
    go true t h = rw t (nested_more _ (sizes_of es) h (omega (arith, hop_within (arity_of (e.role % 32)) (sizes_of es) h)))
    go false t h = rw t h

-- a size for each node
sizes_counted : (es : List Item) → length (sizes_of es) ≡ begun_among nodes (map (λ (e : Item). e.role) es)
unfolding sizes_of begun_among
sizes_counted [] = refl
sizes_counted (e ∷ es) = go (begins_test nodes e.role) refl (sizes_counted es)
  where
    go :
        (t : Bool)
        → begins_test nodes e.role ≡ t
        → length (sizes_of es) ≡ begun_among nodes (map (λ (x : Item). x.role) es)
        → length (sizes_of (e ∷ es)) ≡ begun_among nodes (map (λ (x : Item). x.role) (e ∷ es))
    go true t p = rw t (omega arith)
    go false t p = rw t p

-- the sizes of the nodes from a token on stand behind those of the nodes before it
sizes_behind : (es : List Item) (i : ℕ) → sizes_of (drop i es) ≡ drop (begun_among nodes (take i (map (λ (e : Item). e.role) es))) (sizes_of es)
unfolding sizes_of begun_among
sizes_behind es zero = refl
sizes_behind [] (suc i) = refl
sizes_behind (e ∷ es) (suc i) = go (begins_test nodes e.role) refl (sizes_behind es i)
  where
    passed : ℕ
    passed = begun_among nodes (take i (map (λ (x : Item). x.role) es))

    go :
        (t : Bool)
        → begins_test nodes e.role ≡ t
        → sizes_of (drop i es) ≡ drop passed (sizes_of es)
        → sizes_of (drop i es) ≡ drop (one_added_if (begins_test nodes e.role) passed) (sizes_of (e ∷ es))
    go true t p = rw (t, add-one) p
    go false t p = rw t p

module _ {roles : List ℕ} {es : List Item} (e : Roled roles es) where
  pub sizes_long : length (sizes_of es) ≡ begun_among nodes roles
  sizes_long = sizes_counted es ∙ rw e.roles_are

  sizes_from : {k : ℕ} (i : ℕ) → begun_among nodes (take i roles) ≡ k → drop k (sizes_of es) ≡ sizes_of (drop i es)
  sizes_from i h = rw (← h) (sym (sizes_behind es i ∙ rw e.roles_are))

  -- node k, which begins at token p
  module _ {k p : ℕ} (z : Place nodes roles k p) where
    pub sizes_next : drop (k + 1) (sizes_of es) ≡ sizes_of (drop (p + 1) es)
    sizes_next = sizes_from (p + 1) (place_next z)

    sizes_here : drop k (sizes_of es) ≡ suc (hop (arity_of (get_or roles p 0 % 32)) (drop (k + 1) (sizes_of es))) ∷ drop (k + 1) (sizes_of es)
    unfolding sizes_of
    sizes_here = sizes_from p z.passed ∙ rw (item_cons e p z.inside, role_here e p, z.begins, sizes_next)

    pub size_put :
        (l : List ℕ) {a h : ℕ}
        → k < length l
        → drop (k + 1) l ≡ drop (k + 1) (sizes_of es)
        → a ≡ arity_of (get_or roles p 0 % 32)
        → h ≡ hop a (drop (k + 1) l)
        → drop k (set l k (h + 1)) ≡ drop k (sizes_of es)
    size_put l {a} {h} w d q r =
        let v : ℕ = h + 1 in
        let i : k < length (set l k v) = omega (arith, length-set l k v) in
        let m : drop (suc k) (set l k v) ≡ drop (k + 1) (sizes_of es) = drop-set-lt (suc k) l k v (omega arith) ∙ ap (λ (j : ℕ). drop j l) (sym (add-one k)) ∙ d in
        let n : v ≡ suc (hop (arity_of (get_or roles p 0 % 32)) (drop (k + 1) (sizes_of es))) = add-one h ∙ ap suc (r ∙ rw (q, d)) in
        drop-cons (set l k v) k 0 i ∙ rw (get_or-set_same l k v 0 w, m, n) (sym sizes_here)

-- items with these roles, whatever else they say
roled_some : (roles : List ℕ) → Roled roles (map (λ (r : ℕ). record { role = r; value = 0; amount = 0 }) roles)
roled_some [] = record { roles_are = refl }
roled_some (r ∷ roles) = record { roles_are = ap (λ (l : List ℕ). r ∷ l) (roled_some roles).roles_are }

-- a node has no more nodes than there are from it on
pub hop_fits :
    (roles l : List ℕ) (k parts : ℕ)
    → ((es : List Item) → Roled roles es → drop k l ≡ drop k (sizes_of es))
    → hop parts (drop k l) ≤ length l - k
hop_fits roles l k parts f =
    let r = roled_some roles in
    let n : Nested (drop k l) = rw (f _ r) (nested_drop k (nested_sizes _)) in
    omega (arith, hop_within parts (drop k l) n, length-drop k l)
