-- What Read answers, as the code has it.
use Rattle.std.specs.Prelude.{◌≡◌, List, ℕ, Result, Ok, Err}
use Rattle.grammar.specs.Read.{TextRead, NO_GRAMMAR, NO_DECLARATION, NO_ROOM}
use Rattle.ask_limits.specs.declared.refusal.ReadError.{ReadError}
use Rattle.ask_limits.specs.declared.refusal.ReadError.TheVariants.{NoGrammar, NoDeclaration, NoRoom}
use Rattle.ask_limits.specs.declared.refusal.ReadRefusal.{ReadRefusal}

abbrev pub number_of_error : ReadError → ℕ
number_of_error NoGrammar = NO_GRAMMAR
number_of_error NoDeclaration = NO_DECLARATION
number_of_error NoRoom = NO_ROOM

-- The reply's numbers: how many bytes the file has, or the number of the error and its place; every other number is 0.
abbrev pub reply_number : Result ℕ ReadRefusal → ℕ
reply_number (Ok n) = 0
reply_number (Err e) = number_of_error e.error

abbrev pub reply_length : Result ℕ ReadRefusal → ℕ
reply_length (Ok n) = n
reply_length (Err e) = 0

abbrev pub reply_place : Result ℕ ReadRefusal → ℕ
reply_place (Ok n) = 0
reply_place (Err e) = e.place

-- These numbers, and the file afterwards.
pub record ReadAs (r : Result ℕ ReadRefusal) (file : List ℕ) (t : TextRead) : Type 0 where
  pub number_is : reply_number r ≡ t.number
  pub length_is : reply_length r ≡ t.length
  pub place_is : reply_place r ≡ t.place
  pub file_is : file ≡ t.buffer
