-- Items by their roles and numbers.
use mathlib.Core.Path.{◌≡◌, refl, sym, ap, ◌∙◌}
use mathlib.Core.Bool.{true, ◌||◌}
use mathlib.Core.Logic.{◌⊎◌, inl, inr, ⊎_elim}
use mathlib.Core.List.{List, [], ◌∷◌}
use Prim.Native.Nat.{ℕ, zero, suc, ◌+◌, ◌-◌, ◌<◌, ◌≤◌}
use native.Mathlib.Omega.{arith}
use native.Mathlib.Nat.{add-zero, eq-or-lt_of_le}
use native.Mathlib.Numerals.{add-one}
use lib.ListN.{length, get_or, drop, length-drop, length-map, get_or-map, drop_of_length-le}
use lib.Seq.{get_or-drop, drop-cons, drop-drop}
use lib.Dec.{eqb}
use borrow.Author.Tests.{eq-eqb, ne_eqb}
use Rattle.grammar.specs.Roles.{R_INTERFACE, R_CLASS, R_SIGNATURE, R_FIELD, R_METHOD}
use Rattle.rows.specs.Rows.{Item, no_item, row_item, one_added_if, owned, hop}
use Rattle.token_words.specs.declared.Members.{Members}
use Rattle.token_words.specs.Row.{Owns}
use Rattle.token_words.specs.Items.{Roled, Labelled, Nested, Described, amount_at, items_of, ForRoles}

-- one token's role and number
pub role_in : {roles : List ℕ} {es : List Item} → Roled roles es → {i : ℕ} (j k : ℕ) → j + k ≡ i → (row_item (drop j es) k).role ≡ get_or roles i 0
role_in {roles} {es} e {i} j k h =
    ap (λ (x : Item). x.role) (get_or-drop j es k no_item) ∙ sym (get_or-map (λ (x : Item). x.role) es (j + k) no_item) ∙ rw (e.roles_are, h)

pub value_in_lem : {roles values : List ℕ} {es : List Item} → Labelled roles values es → {i : ℕ} (j k : ℕ) → j + k ≡ i → (row_item (drop j es) k).value ≡ get_or values i 0
value_in_lem {es = es} m {i} j k h =
    ap (λ (x : Item). x.value) (get_or-drop j es k no_item) ∙ sym (get_or-map (λ (x : Item). x.value) es (j + k) no_item) ∙ rw (m.values_are, h)

-- the items from a token on
pub item_cons : {roles : List ℕ} {es : List Item} → Roled roles es → (i : ℕ) → i < length roles → drop i es ≡ row_item es i ∷ drop (i + 1) es
item_cons {roles} {es} e i h =
    let s : i < length es = omega (arith, ap length e.roles_are, length-map es (λ (x : Item). x.role)) in
    rw (add-one) (drop-cons es i no_item s)

pub role_here : {roles : List ℕ} {es : List Item} → Roled roles es → (i : ℕ) → (row_item es i).role ≡ get_or roles i 0
role_here {es = es} e i = sym (get_or-map (λ (x : Item). x.role) es i no_item) ∙ rw e.roles_are

-- the tokens of a role are counted from token `from` on, and so many come before token i
pub record Counting (roles : List ℕ) (from i role count : ℕ) : Type 0 where
  pub bound : count + from ≤ i
  pub rest : (es : List Item) → Roled roles es → count + owned role (drop i es) ≡ owned role (drop from es)

-- nothing is counted from token i on; or token i itself, if it has the role, and what is behind it
abbrev pub Stops : List ℕ → ℕ → Type 0
Stops roles i = (role : ℕ) (es : List Item) → Roled roles es → owned role (drop i es) ≡ 0

abbrev pub GoesOn : List ℕ → ℕ → Type 0
GoesOn roles i = (role : ℕ) (es : List Item) → Roled roles es → owned role (drop i es) ≡ one_added_if (eqb (get_or roles i 0) role) (owned role (drop (i + 1) es))

module _ {roles : List ℕ} {i : ℕ} where
  pub stops_at_end : length roles ≤ i → Stops roles i
  unfolding owned
  stops_at_end h role es e =
      let s : length es ≤ i = omega (arith, ap length e.roles_are, length-map es (λ (x : Item). x.role)) in
      rw (drop_of_length-le es {i = i} s)

  pub stops_at : i < length roles → {r : ℕ} → get_or roles i 0 ≡ r → eqb r R_INTERFACE || eqb r R_CLASS ≡ true → Stops roles i
  unfolding owned
  stops_at h p q role es e = rw (item_cons e i h, role_here e i, p, q)

  pub stops_between : i < length roles → 0 < get_or roles i 0 → get_or roles i 0 < 3 → Stops roles i
  stops_between h l u =
      ⊎_elim
      (λ (e : get_or roles i 0 ≡ 2). stops_at h {r = R_CLASS} e refl)
      (λ (e : get_or roles i 0 < 2). stops_at h {r = R_INTERFACE} (omega arith) refl)
      (eq-or-lt_of_le (omega arith))

  pub goes_on : i < length roles → (get_or roles i 0 ≡ R_INTERFACE → ⊥) → (get_or roles i 0 ≡ R_CLASS → ⊥) → GoesOn roles i
  unfolding owned
  goes_on h x y role es e = rw (item_cons e i h, role_here e i, ne_eqb _ _ x, ne_eqb _ _ y)

  -- A is known where token i has the role, B where it has not
  pub counting_step :
      {from role count next : ℕ} {A B : Type 0}
      → GoesOn roles i
      → Counting roles from i role count
      → (A × (next ≡ count + 1)) ⊎ (B × (next ≡ count))
      → (A → get_or roles i 0 ≡ role)
      → (B → get_or roles i 0 ≡ role → ⊥)
      → Counting roles from (i + 1) role next
  counting_step {role = role} g n (inl w) has lacks =
      record { bound = omega (arith, n.bound, w.1); rest = λ es e. omega (arith, n.rest es e, w.1, rw (eq-eqb _ _ (has w.0)) at (g role es e)) }
  counting_step {role = role} g n (inr w) has lacks =
      record { bound = omega (arith, n.bound, w.1); rest = λ es e. omega (arith, n.rest es e, w.1, rw (ne_eqb _ _ (lacks w.0)) at (g role es e)) }

-- the members from token `from` on are counted, up to token i
pub record CountingMembers (roles : List ℕ) (from i : ℕ) (m : Members) : Type 0 where
  pub inside : i ≤ length roles
  pub signatures : Counting roles from i R_SIGNATURE m.signatures
  pub fields : Counting roles from i R_FIELD m.fields
  pub methods : Counting roles from i R_METHOD m.methods

abbrev pub Step : ℕ → ℕ → ℕ → ℕ → Type 0
Step r role count next = ((r ≡ role) × (next ≡ count + 1)) ⊎ ((r ≡ role → ⊥) × (next ≡ count))

pub members_step :
    {roles : List ℕ} {from i : ℕ} {m next : Members}
    → CountingMembers roles from i m
    → i < length roles
    → (get_or roles i 0 ≡ R_INTERFACE → ⊥)
    → (get_or roles i 0 ≡ R_CLASS → ⊥)
    → Step (get_or roles i 0) R_SIGNATURE m.signatures next.signatures
    → Step (get_or roles i 0) R_FIELD m.fields next.fields
    → Step (get_or roles i 0) R_METHOD m.methods next.methods
    → CountingMembers roles from (i + 1) next
members_step {roles} {i = i} n h x y s f m =
    let g : GoesOn roles i = goes_on h x y in
    record {
      inside = omega arith;
      signatures = counting_step g n.signatures s (λ e. e) (λ e. e);
      fields = counting_step g n.fields f (λ e. e) (λ e. e);
      methods = counting_step g n.methods m (λ e. e) (λ e. e);
    }

pub all_members : {roles : List ℕ} {from i : ℕ} {m : Members} → CountingMembers roles from i m → Stops roles i → ForRoles roles from (Owns m)
all_members n s es e j k h =
    rw (drop-drop, h) (record {
      signatures_are = omega (arith, n.signatures.rest es e, s R_SIGNATURE es e);
      fields_are = omega (arith, n.fields.rest es e, s R_FIELD es e);
      methods_are = omega (arith, n.methods.rest es e, s R_METHOD es e);
    })

-- one part is hopped over
pub hop_part : (sizes : List ℕ) (at s parts j : ℕ) → s ≡ get_or sizes at 0 → j < parts → hop (parts - j) (drop at sizes) ≡ s + hop (parts - (j + 1)) (drop (at + s) sizes)
unfolding hop
hop_part sizes at s parts j e h =
    let k : parts - j ≡ suc (parts - (j + 1)) = omega arith in
    let g : get_or (drop at sizes) 0 0 ≡ s = get_or-drop at sizes 0 0 ∙ rw (add-zero) (sym e) in
    rw (k, g, drop-drop)

pub hop_done : (sizes : List ℕ) (parts j : ℕ) → parts ≤ j → hop (parts - j) sizes ≡ 0
unfolding hop
hop_done sizes parts j h = let k : parts - j ≡ zero = omega arith in rw k

-- no hop leads behind the last node
pub nested_drop : {sizes : List ℕ} (k : ℕ) → Nested sizes → Nested (drop k sizes)
nested_drop {sizes} k h = record { within = λ j. rw (get_or-drop k sizes j 0, length-drop k sizes) (omega (arith, h.within (k + j))) }

pub hop_within : (parts : ℕ) (sizes : List ℕ) → Nested sizes → hop parts sizes ≤ length sizes
unfolding hop
hop_within zero sizes h = omega arith
hop_within (suc parts) sizes h =
    let s : ℕ = get_or sizes 0 0 in
    let f : s ≤ length sizes = omega (arith, h.within 0) in
    omega (arith, hop_within parts (drop s sizes) (nested_drop s h), length-drop s sizes)

-- rows are their words
pub two_are : {a b x y : ℕ} → a ≡ x → b ≡ y → a ∷ b ∷ [] ≡ x ∷ y ∷ []
two_are p q = rw (p, q)

pub three_are : {a b c x y z : ℕ} → a ≡ x → b ≡ y → c ≡ z → a ∷ b ∷ c ∷ [] ≡ x ∷ y ∷ z ∷ []
three_are p q r = rw (p, q, r)

pub four_are : {a b c d x y z w : ℕ} → a ≡ x → b ≡ y → c ≡ z → d ≡ w → a ∷ b ∷ c ∷ d ∷ [] ≡ x ∷ y ∷ z ∷ w ∷ []
four_are p q r s = rw (p, q, r, s)

-- the items of tokens are items of them
pub items_shown : (text roles offsets values : List ℕ) → length offsets ≡ length roles → length values ≡ length roles → Described text roles offsets values (items_of text roles offsets values)
unfolding items_of
items_shown text [] [] [] p q = record { marks = record { roled = record { roles_are = refl }; values_are = refl }; amounts = record { amounts_are = refl } }
items_shown text [] (o ∷ offsets) values p q = absurd (omega arith)
items_shown text [] [] (v ∷ values) p q = absurd (omega arith)
items_shown text (r ∷ roles) [] values p q = absurd (omega arith)
items_shown text (r ∷ roles) (o ∷ offsets) [] p q = absurd (omega arith)
items_shown text (r ∷ roles) (o ∷ offsets) (v ∷ values) p q =
    let s = items_shown text roles offsets values (omega arith) (omega arith) in
    record {
      marks = record {
        roled = record { roles_are = ap (λ (l : List ℕ). r ∷ l) s.marks.roled.roles_are };
        values_are = ap (λ (l : List ℕ). v ∷ l) s.marks.values_are;
      };
      amounts = record { amounts_are = ap (λ (l : List ℕ). amount_at text o ∷ l) s.amounts.amounts_are };
    }
