-- From the declarations to the limits.
use Prim.Native.Nat.{ℕ, ◌+◌, ◌-◌, ◌<◌, ◌≤◌}
use mathlib.Core.Path.{◌≡◌, sym, ap, ◌∙◌}
use mathlib.Core.List.{List, ◌++◌}
use native.Mathlib.Omega.{arith}
use lib.ListN.{length, get_or, take, replicate, replicate-append-replicate}
use Rattle.std.specs.Prelude.{Err, Option as CodeOption, Some, None}
use Rattle.grammar.specs.Grammar.{spelled_text}
use Rattle.grammar.specs.Roles.{roles_text}
use Rattle.grammar.specs.Files.{numbering_of, declared_role}
use Rattle.grammar.specs.Faults.{marked_text, declaration_fault}
use Rattle.grammar.specs.Read.{NO_DECLARATION, read_of}
use Rattle.tokens.specs.declared.roles.Tokens.{Tokens}
use Rattle.numbering.specs.declared.Sort.TheVariants.{Declared}
use Rattle.numbering.specs.Numbers.{names_at, numbered, names_to}
use Rattle.declarations.specs.Declaring.{type_named, told, Declarations}
use Rattle.declarations.proofs.Derived.{names_derived, numbered_derived, types_derived, fault_derived}
use Rattle.ask_limits.specs.declared.refusal.ReadError.TheVariants.{NoDeclaration}
use Rattle.ask_limits.specs.declared.refusal.ReadRefusal.{ReadRefusal}
use Rattle.ask_limits.specs.Reading.{ReadAs}
use Rattle.ask_limits.specs.Derived.{DerivedText, DeclaredText}
use Rattle.ask_limits.proofs.Laws.{read_undeclared}
use Rattle.ask_limits.proofs.PassLaws.{derives, roles_taken, offsets_taken, offset_place, refusal_as}

-- 35, where no token has a value yet.
module _ {k : Tokens} {start : ℕ} {file : List ℕ} (j : DerivedText k start file) (m : ℕ) (room : length k.roles.now ≤ m) where
  abbrev n : ℕ
  n = length k.roles.now

  module _ {r : CodeOption ℕ} {values : List ℕ} (a : Declarations k.text.bytes.now k.roles.now k.offsets.now (replicate m 0) n values r) where
    fault_of : declaration_fault (marked_text j.derived_text.derivation) ≡ told r
    fault_of =
        let t = j.derived_text in
        sym (fault_derived k.text.bytes.now k.roles.now k.offsets.now n t.derivation (sym (derives t)) (roles_taken t) (offsets_taken t)) ∙ a.fault

    pub declaration_refused :
        (i : ℕ) (refusal : ReadRefusal)
        → r ≡ Some i
        → i < n
        → refusal ≡ record { error = NoDeclaration; place = get_or k.offsets.now i 0 }
        → ReadAs (Err refusal) file (read_of k.text.bytes.now file)
    declaration_refused i refusal e h q =
        let t = j.derived_text in
        let text = k.text.bytes.now in
        refusal_as NoDeclaration (get_or k.offsets.now i 0) file refusal (read_of text file) q
        (read_undeclared text file j.short j.whole t.derivation t.is_derived i (rw e at fault_of)
        ∙ ap (λ p. record { number = NO_DECLARATION; place = p; length = 0; buffer = file }) (offset_place t i h))

    first_zeros : ◌≡◌ {A = List ℕ} (replicate m 0) (replicate (length (roles_text j.derived_text.derivation)) 0 ++ replicate (m - n) 0)
    first_zeros =
        let l = length (roles_text j.derived_text.derivation) in
        let e : m ≡ l + (m - n) = omega (arith, room, ap length j.derived_text.roles_are) in
        ap (λ b. replicate {A = ℕ} b 0) e
        ∙ sym (replicate-append-replicate (length (roles_text j.derived_text.derivation)) (m - n) 0)

    pub declaration_passed : r ≡ None → DeclaredText k start values file
    declaration_passed e =
        let t = j.derived_text in
        let d = t.derivation in
        let text = k.text.bytes.now in
        let roles = k.roles.now in
        let offsets = k.offsets.now in
        let x = sym (derives t) in
        let y = roles_taken t in
        let z = offsets_taken t in
        let names = names_derived text roles offsets n d x y z Declared in
        record {
          judged = j;
          typed =
              record {
                rest = replicate (m - n) 0;
                no_fault = rw e at fault_of;
                values_are =
                    a.valued e
                    ∙ types_derived text roles offsets n d x y z (names_to declared_role text roles offsets n) (numbered declared_role (names_to declared_role text roles offsets n) (take n roles) (names_at text (take n offsets)) (replicate m 0))
                    ∙ ap (numbered type_named (names_to declared_role text roles offsets n) (roles_text d) (spelled_text d)) (numbered_derived text roles offsets n d x y z Declared (names_to declared_role text roles offsets n) (replicate m 0))
                    ∙ ap (λ l. numbered type_named l (roles_text d) (spelled_text d) (numbered declared_role l (roles_text d) (spelled_text d) (replicate m 0))) names
                    ∙ ap (λ v. numbered type_named (numbering_of d).type_names (roles_text d) (spelled_text d) (numbered declared_role (numbering_of d).type_names (roles_text d) (spelled_text d) v)) first_zeros;
              };
        }
