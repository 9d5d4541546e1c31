-- The names and faults of a derivation are those that stand in its text.
use Prim.Native.Nat.{ℕ, suc}
use mathlib.Core.Path.{◌≡◌, refl, sym, ap, ap₂, ◌∙◌}
use mathlib.Core.Bool.{Bool, true, false, not, ◌&&◌, ◌||◌}
use mathlib.Core.List.{List, [], ◌∷◌, ◌++◌, map}
use lib.ListN.{length, take}
use Rattle.script.specs.Lists.{Every}
use Rattle.script.proofs.Tests.{true_false}
use Rattle.grammar.specs.Tokens.{Spelling, Lexeme, fixed, name_token, digits_token, Token, tokens_of, same_spelling}
use Rattle.grammar.specs.Grammar.{Derivation, spelled_text}
use Rattle.grammar.specs.Roles.{roles_text}
use Rattle.grammar.specs.Files.{spelling_of, names_with, distinct, names_of, method_role, field_role, other_role, declared_role}
use Rattle.grammar.specs.Faults.{Marked, marked_by, marked_text, first_fault, declared_among, again_test, nowhere_test, declaration_fault}
use Rattle.spellings.specs.Table.{name_from}
use Rattle.spelt.specs.Spelt.{Spelt}
use Rattle.spelt.specs.RoleFits.{named_role, fit_test, RoleFits}
use Rattle.spelt.proofs.RoleFits.{text_fits}
use Rattle.spelt.proofs.Spelt.{spelt}
use Rattle.declarations.proofs.Exact.{or_right}
use Rattle.numbering.specs.Numbers.{role_test, names_at, numbered, names_to}
use Rattle.numbering.specs.declared.Sort.{Sort}
use Rattle.numbering.specs.declared.Sort.TheVariants.{Methods, Fields, Variables, Declared, Types}
use Rattle.declarations.specs.Declaring.{type_named, marks_to}

-- Two tokens of a role that is numbered have the same name.
abbrev SameName : ℕ → Lexeme → Lexeme → Type 0
SameName r t u = named_role r ≡ true → spelling_of t ≡ spelling_of u

data SameNames : List ℕ → List Lexeme → List Lexeme → Type 0 where
  same_none : {ts us : List Lexeme} → SameNames [] ts us
  same_more : {r : ℕ} {rs : List ℕ} {t u : Lexeme} {ts us : List Lexeme} → SameName r t u → SameNames rs ts us → SameNames (r ∷ rs) (t ∷ ts) (u ∷ us)

-- A token that is numbered is a name, and the name stands where the token does.
same_name : (text : List ℕ) (r : ℕ) (t : Token) (l : Lexeme) → t.lexeme ≡ l → fit_test r l ≡ true → Spelt text t → SameName r l (name_token (name_from text t.offset))
unfolding fit_test
same_name text r t (fixed k) e f s h = absurd (true_false (sym f ∙ rw h))
same_name text r t (name_token y) e f s h = sym (s.name_there y e)
same_name text r t (digits_token y) e f s h = absurd (true_false (sym f ∙ rw h))

same_names : (text : List ℕ) (rs : List ℕ) (ts : List Token) → RoleFits rs (map (λ t. t.lexeme) ts) → Every (Spelt text) ts → SameNames rs (map (λ t. t.lexeme) ts) (names_at text (map (λ t. t.offset) ts))
unfolding RoleFits
same_names text [] ts f s = same_none
same_names text (r ∷ rs) [] f s = absurd f
same_names text (r ∷ rs) (t ∷ ts) f s = same_more (same_name text r t t.lexeme refl f.0 s.0) (same_names text rs ts f.1.1 s.1)

-- So the names of a sort are the same, and the values that they get.
module _ (test : ℕ → Bool) (among : (r : ℕ) → test r ≡ true → named_role r ≡ true) where
  names_alike : {rs : List ℕ} {ts us : List Lexeme} → SameNames rs ts us → names_with test rs ts ≡ names_with test rs us
  unfolding names_with
  names_alike same_none = refl
  names_alike (same_more {r = r} {rs = rs} {t = t} {u = u} {ts = ts} {us = us} s w) = go (test r) refl (names_alike w)
    where
      go : (q : Bool) → test r ≡ q → names_with test rs ts ≡ names_with test rs us → names_with test (r ∷ rs) (t ∷ ts) ≡ names_with test (r ∷ rs) (u ∷ us)
      go true e f = rw (e, f, s (among r e))
      go false e f = rw (e, f)

  numbered_alike : {rs : List ℕ} {ts us : List Lexeme} (l : List Spelling) (vs : List ℕ) → SameNames rs ts us → numbered test l rs ts vs ≡ numbered test l rs us vs
  unfolding numbered
  numbered_alike l vs same_none = refl
  numbered_alike l [] (same_more s w) = refl
  numbered_alike l (v ∷ vs) (same_more {r = r} {rs = rs} {t = t} {u = u} {ts = ts} {us = us} s w) = go (test r) refl (numbered_alike l vs w)
    where
      go : (q : Bool) → test r ≡ q → numbered test l rs ts vs ≡ numbered test l rs us vs → numbered test l (r ∷ rs) (t ∷ ts) (v ∷ vs) ≡ numbered test l (r ∷ rs) (u ∷ us) (v ∷ vs)
      go true e f = rw (e, f, s (among r e))
      go false e f = rw (e, f)

-- The roles of each sort are numbered.
or_left : (a b : Bool) → a ≡ true → a || b ≡ true
or_left a b e = rw e

sort_named : (s : Sort) (r : ℕ) → role_test s r ≡ true → named_role r ≡ true
unfolding named_role
sort_named Methods r e = or_left (method_role r) _ e
sort_named Fields r e = or_right (method_role r) _ (or_left (field_role r) _ e)
sort_named Variables r e = or_right (method_role r) _ (or_right (field_role r) _ (or_left (other_role r) _ e))
sort_named Declared r e = or_right (method_role r) _ (or_right (field_role r) _ (or_right (other_role r) _ (or_left (declared_role r) _ e)))
sort_named Types r e = or_right (method_role r) _ (or_right (field_role r) _ (or_right (other_role r) _ (or_right (declared_role r) _ e)))

-- Tokens with their roles that have the same names have the same fault.
record AlikeMarks (m o : Marked) : Type 0 where
  pub role_same : m.role ≡ o.role
  pub name_same : SameName o.role m.marks o.marks

data Alike : List Marked → List Marked → Type 0 where
  alike_none : Alike [] []
  alike_more : {m o : Marked} {l k : List Marked} → AlikeMarks m o → Alike l k → Alike (m ∷ l) (o ∷ k)

marked_alike : {rs : List ℕ} {ts us : List Lexeme} → SameNames rs ts us → Alike (marked_by rs ts) (marked_by rs us)
unfolding marked_by
marked_alike same_none = alike_none
marked_alike (same_more s w) = alike_more (record { role_same = refl; name_same = s }) (marked_alike w)

alike_end : {l k : List Marked} {m o : Marked} → Alike l k → AlikeMarks m o → Alike (l ++ (m ∷ [])) (k ++ (o ∷ []))
alike_end alike_none a = alike_more a alike_none
alike_end (alike_more b w) a = alike_more b (alike_end w a)

alike_length : {l k : List Marked} → Alike l k → length l ≡ length k
alike_length alike_none = refl
alike_length (alike_more b w) = ap suc (alike_length w)

-- A test of the role, and of the name.
named_alike : {m o : Marked} (test : ℕ → Bool) → ((r : ℕ) → test r ≡ true → named_role r ≡ true) → (f g : Spelling → Bool) → ((y : Spelling) → f y ≡ g y) → AlikeMarks m o → test m.role && f (spelling_of m.marks) ≡ test o.role && g (spelling_of o.marks)
named_alike {m} {o} test among f g same a = rw a.role_same (go (test o.role) refl)
  where
    go : (q : Bool) → test o.role ≡ q → test o.role && f (spelling_of m.marks) ≡ test o.role && g (spelling_of o.marks)
    go true e = rw (e, a.name_same (among o.role e)) (same (spelling_of o.marks))
    go false e = rw e

among_alike : {l k : List Marked} (y : Spelling) → Alike l k → declared_among y l ≡ declared_among y k
unfolding declared_among
among_alike y alike_none = refl
among_alike y (alike_more a w) = ap₂ ◌||◌ (named_alike declared_role (sort_named Declared) (λ z. same_spelling z y) (λ z. same_spelling z y) (λ z. refl) a) (among_alike y w)

module _ {text text' : List Marked} (whole : Alike text text') where
  test_alike : {l k : List Marked} {m o : Marked} → Alike l k → AlikeMarks m o → again_test l m || nowhere_test text m ≡ again_test k o || nowhere_test text' o
  test_alike {l} {k} w a =
      ap₂ ◌||◌
      (named_alike declared_role (sort_named Declared) (λ z. declared_among z l) (λ z. declared_among z k) (λ z. among_alike z w) a)
      (named_alike type_named (sort_named Types) (λ z. not (declared_among z text)) (λ z. not (declared_among z text')) (λ z. ap not (among_alike z whole)) a)

  faults_alike : {b c l k : List Marked} → Alike b c → Alike l k → first_fault (λ x m y. again_test x m || nowhere_test text m) b l ≡ first_fault (λ x m y. again_test x m || nowhere_test text' m) c k
  unfolding first_fault
  faults_alike v alike_none = refl
  faults_alike v (alike_more a w) = rw (test_alike v a, alike_length v, faults_alike (alike_end v a) w)

-- What the code numbers are the names of the derivation, and what it tells is the fault of the derivation.
module _ (text roles offsets : List ℕ) (n : ℕ) (d : Derivation)
    (derived : map (λ t. t.lexeme) (tokens_of text) ≡ spelled_text d)
    (roles_are : take n roles ≡ roles_text d)
    (offsets_are : take n offsets ≡ map (λ t. t.offset) (tokens_of text)) where
  same_there : SameNames (take n roles) (spelled_text d) (names_at text (take n offsets))
  same_there =
      let s : SameNames (roles_text d) (map (λ t. t.lexeme) (tokens_of text)) (names_at text (map (λ t. t.offset) (tokens_of text))) =
      same_names text (roles_text d) (tokens_of text) (rw derived (text_fits d)) (spelt text) in
      rw (roles_are, offsets_are) (rw derived at s)

  pub names_derived : (s : Sort) → names_to (role_test s) text roles offsets n ≡ names_of (role_test s) d
  names_derived s = rw (← roles_are) (ap distinct (sym (names_alike (role_test s) (sort_named s) same_there)))

  pub numbered_derived : (s : Sort) (l : List Spelling) (vs : List ℕ) → numbered (role_test s) l (take n roles) (names_at text (take n offsets)) vs ≡ numbered (role_test s) l (roles_text d) (spelled_text d) vs
  numbered_derived s l vs = rw (← roles_are) (sym (numbered_alike (role_test s) (sort_named s) l vs same_there))

  pub types_derived : (l : List Spelling) (vs : List ℕ) → numbered type_named l (take n roles) (names_at text (take n offsets)) vs ≡ numbered type_named l (roles_text d) (spelled_text d) vs
  types_derived = numbered_derived Types

  pub fault_derived : declaration_fault (marks_to text roles offsets n) ≡ declaration_fault (marked_text d)
  unfolding declaration_fault
  fault_derived = rw (← roles_are) (let w = marked_alike same_there in sym (faults_alike w alike_none w))
