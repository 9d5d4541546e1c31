-- The words of one record.
use Rattle.std.specs.Prelude.{ℕ, ◌≡◌, List, [], ◌∷◌}
use Rattle.grammar.specs.Roles.{R_SIGNATURE, R_FIELD, R_METHOD}
use Rattle.rows.specs.Rows.{Item, owned}
use Rattle.token_words.specs.declared.Members.{Members}
use Rattle.token_words.specs.declared.Row.{Row}
use Rattle.token_words.specs.declared.Row.TheVariants.{Two, Three, Four}

abbrev pub row_words : Row → List ℕ
row_words (Two a b) = a ∷ b ∷ []
row_words (Three a b c) = a ∷ b ∷ c ∷ []
row_words (Four a b c d) = a ∷ b ∷ c ∷ d ∷ []

-- The members of the declaration that these items follow: as many as come before the next one.
pub record Owns (m : Members) (es : List Item) : Type 0 where
  pub signatures_are : m.signatures ≡ owned R_SIGNATURE es
  pub fields_are : m.fields ≡ owned R_FIELD es
  pub methods_are : m.methods ≡ owned R_METHOD es
