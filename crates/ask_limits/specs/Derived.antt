-- What the passes before have left of a text that the grammar derives.
use Rattle.std.specs.Prelude.{ℕ, ◌≤◌, ◌≡◌, List, ◌++◌, map, length, replicate}
use Rattle.std.proofs.Math.Option.{none}
use Rattle.limits.specs.Limits.{TEXT, FILE}
use Rattle.grammar.specs.Tokens.{tokens_of}
use Rattle.grammar.specs.Grammar.{Derivation, spelled_text}
use Rattle.grammar.specs.Parse.{derived, parsed}
use Rattle.grammar.specs.Roles.{roles_text, roles_before}
use Rattle.grammar.specs.Files.{numbering_of, declared_role}
use Rattle.grammar.specs.Faults.{marked_text, declaration_fault, limit_fault}
use Rattle.script.specs.declared.Section.{Section}
use Rattle.capacity.specs.Extent.{records_of}
use Rattle.rows.specs.Items.{items_text}
use Rattle.bounds.specs.declared.counts.Counts.{Counts}
use Rattle.bounds.specs.Counting.{counted_of}
use Rattle.bounds.specs.Places.{IndexIs}
use Rattle.tokens.specs.declared.roles.Tokens.{Tokens}
use Rattle.numbering.specs.Numbers.{numbered}
use Rattle.declarations.specs.Declaring.{type_named}

-- The derivation, and its tokens' roles and offsets.
pub record Derived (text roles offsets : List ℕ) (start : ℕ) : Type 0 where
  pub derivation : Derivation
  pub is_derived : parsed (map (λ t. t.lexeme) (tokens_of text)) ≡ derived derivation
  pub starts : start ≡ length (roles_before derivation)
  pub roles_are : roles ≡ roles_text derivation
  pub offsets_are : offsets ≡ map (λ t. t.offset) (tokens_of text)

-- It is of a text and for a buffer in length.
pub record DerivedText (k : Tokens) (start : ℕ) (file : List ℕ) : Type 0 where
  pub derived_text : Derived k.text.bytes.now k.roles.now k.offsets.now start
  pub short : length k.text.bytes.now ≤ TEXT
  pub whole : length file ≡ FILE

-- The names of types have their numbers, and no other token has one.
pub record TypesNamed (d : Derivation) (values : List ℕ) : Type 0 where
  pub rest : List ℕ
  pub no_fault : declaration_fault (marked_text d) ≡ none
  pub values_are :
      values
      ≡ numbered type_named (numbering_of d).type_names (roles_text d) (spelled_text d)
      (numbered declared_role (numbering_of d).type_names (roles_text d) (spelled_text d) (replicate (length (roles_text d)) 0 ++ rest))

-- Before the limits are asked: no name of a type is at fault.
pub record DeclaredText (k : Tokens) (start : ℕ) (values file : List ℕ) : Type 0 where
  pub judged : DerivedText k start file
  pub typed : TypesNamed judged.derived_text.derivation values

-- Before the file is written: nothing is at fault, records are counted and indexed, and names numbered.
pub record NumberedText (k : Tokens) (values index : List ℕ) (start : ℕ) (c : Counts) (file : List ℕ) : Type 0 where
  pub judged : DerivedText k start file
  pub no_fault : declaration_fault (marked_text judged.derived_text.derivation) ≡ none
  pub no_limit : limit_fault (marked_text judged.derived_text.derivation) ≡ none
  pub counts_are : (s : Section) → counted_of c s ≡ records_of s judged.derived_text.derivation
  pub indexed : IndexIs k.roles.now index
  pub rest : List ℕ
  pub values_are :
      values ≡ map (λ e. e.value) (items_text (numbering_of judged.derived_text.derivation) judged.derived_text.derivation) ++ rest
