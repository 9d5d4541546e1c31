-- The rows of the records that begin among some tokens.
use mathlib.Core.Path.{◌≡◌, refl, sym, ap, ◌∙◌}
use mathlib.Core.Bool.{Bool, true, false, cond}
use mathlib.Core.List.{List, [], ◌∷◌, ◌++◌, map}
use Prim.Native.Nat.{ℕ, zero, suc, ◌+◌, ◌-◌, ◌*◌, ◌%◌, ◌≤◌, ◌<◌}
use native.Mathlib.Omega.{arith}
use native.Mathlib.Nat.{mul-zero, mul-suc}
use native.Mathlib.Numerals.{add-one}
use lib.Dec.{eqb}
use lib.ListN.{length, get_or, take, drop, length-append, length-map}
use lib.Seq.{drop-drop}
use Rattle.script.specs.declared.Section.{Section}
use Rattle.script.specs.declared.Section.TheVariants.{Interfaces as interfaces, Signatures as signatures, Classes as classes}
use Rattle.script.specs.declared.Section.TheVariants.{Fields as fields, Methods as methods, Nodes as nodes}
use Rattle.script.specs.Section.{size_of}
use Rattle.grammar.specs.Faults.{begins_test}
use Rattle.rows.specs.Rows.{Item, row_item, one_added_if, interface_row, signature_row, class_row, field_row, method_row, node_row}
use Rattle.token_words.specs.Items.{Roled}
use Rattle.row_words.specs.Row.{row_of}
use Rattle.token_words.proofs.TokenLaws.{item_cons, role_here}
use Rattle.section_rows.specs.Records.{begun_among, row_if, rows_of}
use Rattle.section_rows.proofs.PlaceLaws.{Place, one_more, begun_add, place_after, place_before}

-- how long the rows of a section are
even : {k : ℕ} (b : Bool) (x y : List ℕ) → length x ≡ k → length y ≡ k → length (cond b x y) ≡ k
even true x y p q = p
even false x y p q = q

pub row_length : (s : Section) (types n : ℕ) (es : List Item) → 2 * length (row_of s types n es) ≡ size_of s
unfolding interface_row signature_row class_row field_row method_row node_row
row_length interfaces types n es = ap (λ (k : ℕ). 2 * k) (even {k = 3} (eqb (row_item es 3).role 7) _ _ refl refl)
row_length signatures types n es = refl
row_length classes types n es = refl
row_length fields types n es = refl
row_length methods types n es = refl
row_length nodes types n es =
    let r : ℕ = (row_item es 0).role % 32 in
    ap (λ (k : ℕ). 2 * k) (even {k = 4} (eqb r 16) _ _ refl (even (eqb r 17) _ _ refl (even (eqb r 18) _ _ refl (even (eqb r 19) _ _ refl (even (eqb r 20) _ _ refl (even (eqb r 21) _ _ refl (even (eqb r 22) _ _ refl (even (eqb r 23) _ _ refl (even (eqb r 24) _ _ refl (even (eqb r 25) _ _ refl (even (eqb r 26) _ _ refl (even (eqb r 29) _ _ refl (even (eqb r 27) _ _ refl refl)))))))))))))

pub rows_length : (s : Section) (types k n : ℕ) (es : List Item) → 2 * length (rows_of s types k n es) ≡ size_of s * begun_among s (take k (map (λ (e : Item). e.role) es))
unfolding rows_of begun_among
rows_length s types zero n es = sym (mul-zero (size_of s))
rows_length s types (suc k) n [] = sym (mul-zero (size_of s))
rows_length s types (suc k) n (e ∷ es) = go (begins_test s e.role) refl (rows_length s types k (one_added_if (begins_test nodes e.role) n) es)
  where
    rest : List ℕ
    rest = rows_of s types k (one_added_if (begins_test nodes e.role) n) es

    some : ℕ
    some = begun_among s (take k (map (λ (x : Item). x.role) es))

    go :
        (t : Bool)
        → begins_test s e.role ≡ t
        → 2 * length rest ≡ size_of s * some
        → 2 * length (row_if s types n (e ∷ es) ++ rest) ≡ size_of s * one_added_if (begins_test s e.role) some
    go true h p =
        rw (h, add-one, mul-suc) (omega (arith, length-append (row_of s types n (e ∷ es)) rest, row_length s types n (e ∷ es)))
    go false h p = rw h p

-- the roles of items
drop_map : {A B : Type 0} (f : A → B) (i : ℕ) (l : List A) → map f (drop i l) ≡ drop i (map f l)
drop_map f zero l = refl
drop_map f (suc i) [] = refl
drop_map f (suc i) (a ∷ l) = drop_map f i l

pub roles_from : {roles : List ℕ} {es : List Item} → Roled roles es → (i : ℕ) → map (λ (e : Item). e.role) (drop i es) ≡ drop i roles
roles_from {es = es} e i = drop_map (λ (x : Item). x.role) i es ∙ rw e.roles_are

pub roled_long : {roles : List ℕ} {es : List Item} → Roled roles es → length es ≡ length roles
roled_long {es = es} e = sym (length-map es (λ (x : Item). x.role)) ∙ ap length e.roles_are

-- where no record begins among the first j items there is no row of them
rows_skip :
    (s : Section) (types j k n : ℕ) (es : List Item)
    → begun_among s (take j (map (λ (e : Item). e.role) es)) ≡ 0
    → rows_of s types (j + k) n es ≡ rows_of s types k (n + begun_among nodes (take j (map (λ (e : Item). e.role) es))) (drop j es)
unfolding rows_of begun_among
rows_skip s types zero k n es h =
    let a : zero + k ≡ k = omega arith in
    let b : n + 0 ≡ n = omega arith in
    rw (a, b)
rows_skip s types (suc j) zero n [] h = let a : suc j + zero ≡ suc j = omega arith in rw a
rows_skip s types (suc j) (suc k) n [] h = let a : suc j + suc k ≡ suc (j + suc k) = omega arith in rw a
rows_skip s types (suc j) k n (e ∷ es) h = go (begins_test s e.role) refl h (rows_skip s types j k (one_added_if (begins_test nodes e.role) n) es)
  where
    some : Section → ℕ
    some q = begun_among q (take j (map (λ (x : Item). x.role) es))

    go :
        (t : Bool)
        → begins_test s e.role ≡ t
        → one_added_if (begins_test s e.role) (some s) ≡ 0
        → (some s ≡ 0 → rows_of s types (j + k) (one_added_if (begins_test nodes e.role) n) es ≡ rows_of s types k (one_added_if (begins_test nodes e.role) n + some nodes) (drop j es))
        → rows_of s types (suc j + k) n (e ∷ es) ≡ rows_of s types k (n + one_added_if (begins_test nodes e.role) (some nodes)) (drop j es)
    go true t z f = let q : some s + 1 ≡ 0 = rw t at z in absurd (omega arith)
    go false t z f =
        let a : suc j + k ≡ suc (j + k) = omega arith in
        let b : one_added_if (begins_test nodes e.role) n + some nodes ≡ n + one_added_if (begins_test nodes e.role) (some nodes) =
        omega (arith, one_more (begins_test nodes e.role) n, one_more (begins_test nodes e.role) (some nodes))
        in
        rw (a, t) (f (rw t at z) ∙ ap (λ (m : ℕ). rows_of s types k m (drop j es)) b)

-- the records of a section from item `from` to item `to`, and how long they are
abbrev pub rows_between : Section → ℕ → ℕ → ℕ → ℕ → List Item → List ℕ
rows_between s types from to n es = rows_of s types (to - from) n (drop from es)

pub between_length :
    {roles : List ℕ} {es : List Item}
    → Roled roles es
    → (types from to n : ℕ)
    → from ≤ to
    → 2 * length (rows_between nodes types from to n es) + 8 * begun_among nodes (take from roles) ≡ 8 * begun_among nodes (take to roles)
between_length {roles} {es} e types from to n h =
    let q : from + (to - from) ≡ to = omega arith in
    let l : 2 * length (rows_between nodes types from to n es) ≡ 8 * begun_among nodes (take (to - from) (drop from roles)) =
    rows_length nodes types (to - from) n (drop from es) ∙ rw (roles_from e from)
    in
    omega (arith, begun_add nodes roles from (to - from), ap (λ (j : ℕ). begun_among nodes (take j roles)) q)

module _ {roles : List ℕ} {es : List Item} (e : Roled roles es) (s : Section) (types : ℕ) where
  -- none is left
  pub rows_none : (i to n : ℕ) → i ≤ to → begun_among s (take to roles) ≤ begun_among s (take i roles) → rows_between s types i to n es ≡ []
  unfolding rows_of
  rows_none i to n l h =
      let q : i + (to - i) ≡ to = omega arith in
      let none : begun_among s (take (to - i) (drop i roles)) ≡ 0 = omega (arith, begun_add s roles i (to - i), ap (λ (x : ℕ). begun_among s (take x roles)) q) in
      let m : to - i ≡ to - i + zero = omega arith in
      rw m (rows_skip s types (to - i) zero n (drop i es) (rw (roles_from e i) none))

  -- record k, which begins at token p: its row, and then those behind
  module _ {k p : ℕ} (z : Place s roles k p) (i to : ℕ) (passed : begun_among s (take i roles) ≡ k) (more : k < begun_among s (take to roles)) (n : ℕ) where
    abbrev skipped : ℕ
    skipped = begun_among nodes (take (p - i) (drop i roles))

    pub nodes_skipped : begun_among nodes (take i roles) + skipped ≡ begun_among nodes (take p roles)
    nodes_skipped =
        let q : i + (p - i) ≡ p = let l : i ≤ p = place_after z (omega arith) in omega arith in
        sym (begun_add nodes roles i (p - i)) ∙ ap (λ (j : ℕ). begun_among nodes (take j roles)) q

    pub rows_next :
        rows_between s types i to n es
        ≡ row_of s types (n + skipped) (drop p es) ++ rows_between s types (p + 1) to (n + skipped + one_added_if (begins_test nodes (get_or roles p 0)) 0) es
    unfolding rows_of
    rows_next =
        let after : i ≤ p = place_after z (omega arith) in
        let before : p < to = place_before z more in
        let j : ℕ = p - i in
        let q : i + j ≡ p = omega arith in
        let m : to - i ≡ j + suc (to - (p + 1)) = omega arith in
        let none : begun_among s (take j (drop i roles)) ≡ 0 = omega (arith, begun_add s roles i j, ap (λ (x : ℕ). begun_among s (take x roles)) q, z.passed) in
        let r : map (λ (x : Item). x.role) (drop i es) ≡ drop i roles = roles_from e i in
        let skip = rows_skip s types j (suc (to - (p + 1))) n (drop i es) (rw r none) in
        let t : one_added_if (begins_test nodes (get_or roles p 0)) (n + skipped) ≡ n + skipped + one_added_if (begins_test nodes (get_or roles p 0)) 0 = omega (arith, one_more (begins_test nodes (get_or roles p 0)) (n + skipped)) in
        rw (m, skip, r, drop-drop, q, item_cons e p z.inside, role_here e p, z.begins, t)
