-- The table of texts holds, by computation: a row that does not is refused at its own `refl`, with the two values.
use Prim.Native.Nat.{ℕ, ◌+◌}
use mathlib.Core.Path.{◌≡◌, refl, sym}
use mathlib.Core.Bool.{Bool, true, false, ◌||◌}
use mathlib.Core.List.{List, [], ◌∷◌, ◌++◌, append_assoc, map}
use lib.Dec.{leb}
use lib.ListN.{length}
use borrow.Author.Tests.{eq-eqb}
use Rattle.words.specs.Word.{bytes}
use Rattle.words.specs.Integer.{low_word, high_word}
use Rattle.limits.specs.Limits.{FILE, TEXT}
use Rattle.script.specs.Lists.{◌∈◌, Every}
use Rattle.script.specs.Section.{sections}
use Rattle.script.specs.AllFiles.{file_of}
use Rattle.script.proofs.Lists.{every_in}
use Rattle.grammar.specs.Tokens.{fixed_words, fixed_signs, same_spelling, fixed_or, blank_test, digit_test, letter_test, word_byte_test, Token, Begun, b_nothing}
use Rattle.grammar.specs.Tokens.{ended_token, continues, longer, begun_by, sign_by, chosen_tokens, tokens_from, decimal_from}
use Rattle.grammar.specs.Grammar.{spelled, spelled_msig, spelled_all, spelled_id, spelled_fd, spelled_md, spelled_cd, spelled_text}
use Rattle.grammar.specs.Parse.{closes, choose, parse, parsed}
use Rattle.grammar.specs.Roles.{roles, roles_all, roles_id, roles_md, roles_cd, roles_before, roles_text}
use Rattle.grammar.specs.Files.{names_with, without_name, distinct, rank_in, nodes_in, node_words, words_all, sum_all, mds_words, bodies_words, joined, section_bodies, contents_from, file_text}
use Rattle.grammar.specs.Faults.{marked_by, first_fault, declared_among, declaration_fault, begun_in, too_many_test, limit_fault}
use Rattle.grammar.specs.Read.{TextRead, token_place, asked_grammar, read_of}
use Rattle.grammar.specs.AllTexts.{quoted_from, TextExample, TextHolds, interfaces_from, text_examples}

-- The tokens of a text with one recursive call, which computes in as many steps as there are bytes.
abbrev closed_at : Bool → Begun → ℕ → ℕ → List Token
closed_at true g b n = []
closed_at false g b n = ended_token g ++ sign_by (word_byte_test b || blank_test b) b n

abbrev next_begun : Bool → Begun → ℕ → ℕ → Begun
next_begun true g b n = longer g b
next_begun false g b n = begun_by (letter_test b) (digit_test b) b n

unfoldable once : Begun → ℕ → List ℕ → List Token
once g n [] = ended_token g
once g n (b ∷ s) = closed_at (continues g b) g b n ++ once (next_begun (continues g b) g b n) (n + 1) s

chosen_once :
    (c : Bool) (g : Begun) (b n : ℕ) (s : List ℕ)
    → chosen_tokens c (once (longer g b) (n + 1) s)
    (ended_token g ++ (sign_by (word_byte_test b || blank_test b) b n ++ once (begun_by (letter_test b) (digit_test b) b n) (n + 1) s))
    ≡ closed_at c g b n ++ once (next_begun c g b n) (n + 1) s
chosen_once true g b n s = refl
chosen_once false g b n s = sym (append_assoc (ended_token g) _ _)

tokens_once : (g : Begun) (n : ℕ) (s : List ℕ) → tokens_from g n s ≡ once g n s
unfolding tokens_from once
tokens_once g n [] = refl
tokens_once g n (b ∷ s) =
    rw (tokens_once (longer g b) (n + 1) s, tokens_once (begun_by (letter_test b) (digit_test b) b n) (n + 1) s)
    (chosen_once (continues g b) g b n s)

-- What computes of a row: its length is asked, and the rest of it answered for any buffer.
abbrev asked : List ℕ → List ℕ → List Token → TextRead
asked text b ts = asked_grammar text ts b (parsed (map (λ t. t.lexeme) ts))

abbrev Computes : TextExample → Type 0
Computes x =
    (leb (length x.text) TEXT ≡ true)
    × ((b : List ℕ) → asked x.text b (once b_nothing 0 x.text) ≡ x.outcome b)

texts : Every (λ x. Computes x) text_examples
unfolding bytes low_word high_word sections file_of fixed_words fixed_signs same_spelling fixed_or decimal_from once spelled spelled_msig spelled_all spelled_id spelled_fd spelled_md spelled_cd spelled_text closes choose parse roles roles_all roles_id roles_md roles_cd roles_before roles_text names_with without_name distinct rank_in nodes_in node_words words_all sum_all mds_words bodies_words joined section_bodies contents_from file_text marked_by first_fault declared_among declaration_fault begun_in too_many_test limit_fault token_place quoted_from interfaces_from text_examples
texts =
    ((refl, λ b. refl), ((refl, λ b. refl), ((refl, λ b. refl), ((refl, λ b. refl), ((refl, λ b. refl), ((refl, λ b. refl), ((refl, λ b. refl), ((refl, λ b. refl), ((refl, λ b. refl), ((refl, λ b. refl), ((refl, λ b. refl), ((refl, λ b. refl), ((refl, λ b. refl), ((refl, λ b. refl), ((refl, λ b. refl), ((refl, λ b. refl), ((refl, λ b. refl), ((refl, λ b. refl), ((refl, λ b. refl), ((refl, λ b. refl), ((refl, λ b. refl), ((refl, λ b. refl), ((refl, λ b. refl), ((refl, λ b. refl), ((refl, λ b. refl), ((refl, λ b. refl), ((refl, λ b. refl), ((refl, λ b. refl), ((refl, λ b. refl), ((refl, λ b. refl), tt))))))))))))))))))))))))))))))

holds : (x : TextExample) → Computes x → TextHolds x
unfolding read_of
holds x h b whole = rw (h.0, eq-eqb (length b) FILE whole, tokens_once b_nothing 0 x.text) (h.1 b)

pub all_text_examples : (x : TextExample) → x ∈ text_examples → TextHolds x
all_text_examples x m = holds x (every_in (λ x. Computes x) text_examples texts x m)
