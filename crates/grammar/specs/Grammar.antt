-- The grammar of docs/GRAMMAR.md as derivations, and the tokens of each: "the syntax of Figure 2 without its run-time forms, plus the type Int, decimal
-- integers with an optional minus and a sum of two variables". One constructor to a production; records are named as Figure 2 names what they derive.
use Rattle.std.specs.Prelude.{ℕ, ◌+◌, ◌≤◌, ◌≡◌, List, [], ◌∷◌, ◌++◌, map, length, take}
use Rattle.grammar.specs.Tokens.{Spelling, Lexeme, fixed, name_token, digits_token, Token, Splits, TEXT_END}
use Rattle.grammar.specs.Tokens.{W_INTERFACE, W_EXTENDS, W_CLASS, W_IMPLEMENTS, W_DEF, W_LET, W_IN, W_NEW, W_FINISH, W_ASYNC, W_LOCK, W_NULL}
use Rattle.grammar.specs.Tokens.{W_UNIT, W_INT, W_THIS, S_BRACE, S_UNBRACE, S_OPEN, S_CLOSE, S_COLON, S_COMMA, S_DOT, S_EQUALS, S_SEMICOLON}
use Rattle.grammar.specs.Tokens.{S_PLUS, S_MINUS}

-- x ::= y | this
pub data X : Type 0 where
  x_this : X
  x_name : Spelling → X

abbrev pub variable_token : X → Lexeme
variable_token x_this = fixed W_THIS
variable_token (x_name y) = name_token y

-- t ::= T | Unit | Int
pub data T : Type 0 where
  t_unit t_int : T
  t_name : Spelling → T

abbrev pub type_token : T → Lexeme
type_token t_unit = fixed W_UNIT
type_token t_int = fixed W_INT
type_token (t_name c) = name_token c

-- e
pub data E : Type 0 where
  e_null : E
  e_variable : X → E
  e_select : X → Spelling → E
  e_update : X → Spelling → E → E
  e_call : X → Spelling → E → E
  e_let : Spelling → E → E → E
  e_new : Spelling → E
  e_cast : T → E → E
  e_fork : E → E → E → E
  e_lock : X → E → E
  -- n, and - n
  e_digits e_minus : Spelling → E
  -- x + x, and the same in parentheses, as Figure 10 prints it
  e_sum e_sum_in : X → X → E

unfoldable pub spelled : E → List Lexeme
spelled e_null = fixed W_NULL ∷ []
spelled (e_variable x) = variable_token x ∷ []
spelled (e_select x f) = variable_token x ∷ fixed S_DOT ∷ name_token f ∷ []
spelled (e_update x f e) = variable_token x ∷ fixed S_DOT ∷ name_token f ∷ fixed S_EQUALS ∷ spelled e
spelled (e_call x m e) = variable_token x ∷ fixed S_DOT ∷ name_token m ∷ fixed S_OPEN ∷ (spelled e ++ (fixed S_CLOSE ∷ []))
spelled (e_let y e₁ e₂) = fixed W_LET ∷ name_token y ∷ fixed S_EQUALS ∷ (spelled e₁ ++ (fixed W_IN ∷ spelled e₂))
spelled (e_new c) = fixed W_NEW ∷ name_token c ∷ []
spelled (e_cast t e) = fixed S_OPEN ∷ type_token t ∷ fixed S_CLOSE ∷ spelled e
spelled (e_fork e₁ e₂ e₃) =
    fixed W_FINISH ∷
    fixed S_BRACE ∷
    fixed W_ASYNC ∷
    fixed S_BRACE ∷
    (spelled e₁ ++
    (fixed S_UNBRACE ∷ fixed W_ASYNC ∷ fixed S_BRACE ∷ (spelled e₂ ++ (fixed S_UNBRACE ∷ fixed S_UNBRACE ∷ fixed S_SEMICOLON ∷ spelled e₃))))
spelled (e_lock x e) = fixed W_LOCK ∷ fixed S_OPEN ∷ variable_token x ∷ fixed S_CLOSE ∷ fixed W_IN ∷ spelled e
spelled (e_digits d) = digits_token d ∷ []
spelled (e_minus d) = fixed S_MINUS ∷ digits_token d ∷ []
spelled (e_sum x y) = variable_token x ∷ fixed S_PLUS ∷ variable_token y ∷ []
spelled (e_sum_in x y) = fixed S_OPEN ∷ variable_token x ∷ fixed S_PLUS ∷ variable_token y ∷ fixed S_CLOSE ∷ []

-- Msig ::= m ( p : t ) : t
pub record Msig : Type 0 where
  pub method : Spelling
  pub parameter : Spelling
  pub takes : T
  pub gives : T

unfoldable pub spelled_msig : Msig → List Lexeme
spelled_msig s =
    name_token s.method ∷
    fixed S_OPEN ∷
    name_token s.parameter ∷
    fixed S_COLON ∷
    type_token s.takes ∷
    fixed S_CLOSE ∷
    fixed S_COLON ∷
    type_token s.gives ∷
    []

-- The tokens of zero or more of a kind, one after another.
unfoldable pub spelled_all : {A : Type 0} → (A → List Lexeme) → List A → List Lexeme
spelled_all f [] = []
spelled_all f (a ∷ l) = f a ++ spelled_all f l

-- Id ::= interface T { Msigs } | interface T extends T , T
pub data Id : Type 0 where
  id_list : Spelling → List Msig → Id
  id_join : Spelling → Spelling → Spelling → Id

unfoldable pub spelled_id : Id → List Lexeme
spelled_id (id_list i ms) = fixed W_INTERFACE ∷ name_token i ∷ fixed S_BRACE ∷ (spelled_all spelled_msig ms ++ (fixed S_UNBRACE ∷ []))
spelled_id (id_join i a b) = fixed W_INTERFACE ∷ name_token i ∷ fixed W_EXTENDS ∷ name_token a ∷ fixed S_COMMA ∷ name_token b ∷ []

-- Fd ::= f : t
pub record Fd : Type 0 where
  pub field : Spelling
  pub holds : T

unfoldable pub spelled_fd : Fd → List Lexeme
spelled_fd f = name_token f.field ∷ fixed S_COLON ∷ type_token f.holds ∷ []

-- Md ::= def Msig { e }
pub record Md : Type 0 where
  pub msig : Msig
  pub body : E

unfoldable pub spelled_md : Md → List Lexeme
spelled_md m = fixed W_DEF ∷ (spelled_msig m.msig ++ (fixed S_BRACE ∷ (spelled m.body ++ (fixed S_UNBRACE ∷ []))))

-- Cd ::= class T implements T { Fds Mds }
pub record Cd : Type 0 where
  pub class : Spelling
  pub implements : Spelling
  pub fds : List Fd
  pub mds : List Md

unfoldable pub spelled_cd : Cd → List Lexeme
spelled_cd c =
    fixed W_CLASS ∷
    name_token c.class ∷
    fixed W_IMPLEMENTS ∷
    name_token c.implements ∷
    fixed S_BRACE ∷
    (spelled_all spelled_fd c.fds ++ (spelled_all spelled_md c.mds ++ (fixed S_UNBRACE ∷ [])))

-- P ::= Ids Cds e: a derivation of a whole text.
pub record Derivation : Type 0 where
  pub ids : List Id
  pub cds : List Cd
  pub start : E

unfoldable pub spelled_text : Derivation → List Lexeme
spelled_text d = spelled_all spelled_id d.ids ++ (spelled_all spelled_cd d.cds ++ spelled d.start)

-- "exactly if the grammar derives it": the tokens of the text are those of the derivation.
abbrev pub Derives : Derivation → List Token → Type 0
Derives d ts = spelled_text d ≡ map (λ t. t.lexeme) ts

-- 34: "the token at the place, or the text's end, fits no legal continuation". The tokens of some legal text, the end behind them, begin with w.
pub record Viable (w : List Lexeme) : Type 0 where
  pub text : List ℕ
  pub tokens : List Token
  pub splits : Splits 0 text tokens
  pub derivation : Derivation
  pub derives : Derives derivation tokens
  pub rest : List Lexeme
  pub goes_on : map (λ t. t.lexeme) tokens ++ (fixed TEXT_END ∷ []) ≡ w ++ rest

-- The token with index k is the first that fits none: what stands before it goes on to some text, and with it nothing does.
pub record FirstMisfit (ts : List Lexeme) (k : ℕ) : Type 0 where
  pub within : k ≤ length ts
  pub before : Viable (take k (ts ++ (fixed TEXT_END ∷ [])))
  pub misfit : Viable (take (k + 1) (ts ++ (fixed TEXT_END ∷ []))) → ⊥
