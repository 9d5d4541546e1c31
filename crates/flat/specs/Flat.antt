-- The parser without its trees: a point, a stack of closers, and the roles of the tokens read. What the code that judges a text does, a token at a time.
use Rattle.std.specs.Prelude.{ℕ, zero, suc, ◌+◌, ◌*◌, ◌/◌, ◌%◌, Bool, true, false, not, ◌&&◌, ◌||◌, cond, List, [], ◌∷◌, ◌++◌, eqb, leb, length, get_or, set}
use Rattle.grammar.specs.Tokens.{Spelling, Lexeme, fixed, name_token, digits_token, same_spelling, TEXT_END}
use Rattle.grammar.specs.Tokens.{W_INTERFACE, W_EXTENDS, W_CLASS, W_IMPLEMENTS, W_DEF, W_LET, W_IN, W_NEW, W_FINISH, W_ASYNC, W_LOCK, W_NULL}
use Rattle.grammar.specs.Tokens.{W_UNIT, W_INT, W_THIS, S_BRACE, S_UNBRACE, S_OPEN, S_CLOSE, S_COLON, S_COMMA, S_DOT, S_EQUALS, S_SEMICOLON}
use Rattle.grammar.specs.Tokens.{S_PLUS, S_MINUS}
use Rattle.grammar.specs.Roles.{PLAIN, R_INTERFACE, R_CLASS, R_METHOD, R_SIGNATURE, R_FIELD, R_DECLARED, R_TYPE, R_UNIT, R_INT, R_METHOD_NAME, R_BINDER}
use Rattle.grammar.specs.Roles.{R_FIELD_USED, R_METHOD_USED, R_OPERAND, R_NULL, R_VARIABLE, R_SELECT, R_UPDATE, R_CALL, R_LET, R_NEW, R_CAST, R_FORK}
use Rattle.grammar.specs.Roles.{R_LOCK, R_INTEGER, R_SUM, R_SUM_IN, R_NEGATIVE, BINDING, B_PARAMETER, B_OTHER}
use Rattle.grammar.specs.Files.{spelling_of}
use Rattle.flat.specs.declared.Turn.{Turn}

-- Deeds. The token fits nowhere here; it does nothing besides; it is a variable's name, and has a binding; it is a parameter's name.
abbrev pub STUCK : ℕ
STUCK = 0

abbrev pub GO : ℕ
GO = 1

abbrev pub OCCURS : ℕ
OCCURS = 2

abbrev pub BINDS : ℕ
BINDS = 3

-- The innermost closer is done; so is a method's body, and its parameter with it. The innermost closer says what the token does.
abbrev pub POP : ℕ
POP = 4

abbrev pub LEAVE : ℕ
LEAVE = 5

abbrev pub CLOSE : ℕ
CLOSE = 6

-- From here on a closer is pushed: that of a let's first part, of an argument, of the two asyncs of a fork, of a body.
abbrev pub PUSH_LET : ℕ
PUSH_LET = 11

abbrev pub PUSH_CALL : ℕ
PUSH_CALL = 12

abbrev pub PUSH_FIRST : ℕ
PUSH_FIRST = 13

abbrev pub PUSH_SECOND : ℕ
PUSH_SECOND = 14

abbrev pub PUSH_BODY : ℕ
PUSH_BODY = 15

-- A closer that a deed pushes is this point more than the deed: there its token stands in the table. The parameter's visibility is counted in POINTS.
abbrev pub CLOSERS : ℕ
CLOSERS = 48

abbrev pub POINTS : ℕ
POINTS = 64

-- A token of the table, and what it does.
pub record Rule : Type 0 where
  pub seen : Lexeme
  pub turn : Turn

abbrev pub turn_of : ℕ → ℕ → ℕ → Turn
turn_of deed n r = record { next = n; role = r; deed = deed; back = 0; becomes = 0; before = 0 }

-- A token that is spelled out, with the next point and its role; a name; digits.
abbrev pub sign : ℕ → ℕ → ℕ → Rule
sign k n r = record { seen = fixed k; turn = turn_of GO n r }

abbrev pub name_rule : ℕ → ℕ → ℕ → Rule
name_rule deed n r = record { seen = name_token []; turn = turn_of deed n r }

abbrev pub digits : ℕ → ℕ → Rule
digits n r = record { seen = digits_token []; turn = turn_of GO n r }

-- The same with a deed, and with roles that are settled.
abbrev pub deed : ℕ → ℕ → ℕ → Rule
deed k d n = record { seen = fixed k; turn = turn_of d n PLAIN }

abbrev pub settles : ℕ → ℕ → ℕ → ℕ → ℕ → ℕ → Rule
settles k d n back r before =
    record { seen = fixed k; turn = record { next = n; role = PLAIN; deed = d; back = back; becomes = r; before = before } }

-- t, and x with its role.
abbrev pub type_rules : ℕ → List Rule
type_rules n = sign W_UNIT n R_UNIT ∷ sign W_INT n R_INT ∷ name_rule GO n R_TYPE ∷ []

abbrev pub variable_rules : ℕ → ℕ → List Rule
variable_rules n r = sign W_THIS n r ∷ name_rule OCCURS n r ∷ []

-- Points that are name_rule more than once.
abbrev pub TOP : ℕ
TOP = 0

abbrev pub TOP_C : ℕ
TOP_C = 14

abbrev pub EXPR : ℕ
EXPR = 32

abbrev pub VARIABLE : ℕ
VARIABLE = 33

abbrev pub MEMBER : ℕ
MEMBER = 35

abbrev pub ENDED : ℕ
ENDED = 58

-- The first token of an expression.
abbrev pub begin_rules : List Rule
begin_rules =
    variable_rules VARIABLE R_VARIABLE ++
    (sign W_NULL ENDED R_NULL ∷
    sign W_LET 43 R_LET ∷
    sign W_NEW 45 R_NEW ∷
    sign S_OPEN 37 R_CAST ∷
    sign W_FINISH 46 R_FORK ∷
    sign W_LOCK 53 R_LOCK ∷
    sign S_MINUS 57 R_NEGATIVE ∷
    digits ENDED R_INTEGER ∷
    [])

-- What each point takes, from point 0 on; the last five are the closers.
abbrev pub rules : List (List Rule)
rules =
    -- 0 an interface, a class or the start
    (sign W_INTERFACE 1 R_INTERFACE ∷ sign W_CLASS 15 R_CLASS ∷ begin_rules) ∷
    -- 1 interface T { Msigs } | interface T extends T , T
    (name_rule GO 2 R_DECLARED ∷ []) ∷
    (sign S_BRACE 3 PLAIN ∷ sign W_EXTENDS 11 PLAIN ∷ []) ∷
    (name_rule GO 4 R_SIGNATURE ∷ sign S_UNBRACE TOP PLAIN ∷ []) ∷
    -- 4 m ( p : t ) : t
    (sign S_OPEN 5 PLAIN ∷ []) ∷
    (name_rule GO 6 PLAIN ∷ []) ∷
    (sign S_COLON 7 PLAIN ∷ []) ∷
    type_rules 8 ∷
    (sign S_CLOSE 9 PLAIN ∷ []) ∷
    (sign S_COLON 10 PLAIN ∷ []) ∷
    type_rules 3 ∷
    -- 11 the two interfaces of a join
    (name_rule GO 12 R_TYPE ∷ []) ∷
    (sign S_COMMA 13 PLAIN ∷ []) ∷
    (name_rule GO TOP R_TYPE ∷ []) ∷
    -- 14 a class or the start
    (sign W_CLASS 15 R_CLASS ∷ begin_rules) ∷
    -- 15 class T implements T { Fds Mds }
    (name_rule GO 16 R_DECLARED ∷ []) ∷
    (sign W_IMPLEMENTS 17 PLAIN ∷ []) ∷
    (name_rule GO 18 R_TYPE ∷ []) ∷
    (sign S_BRACE 19 PLAIN ∷ []) ∷
    (name_rule GO 20 R_FIELD ∷ sign W_DEF 23 R_METHOD ∷ sign S_UNBRACE TOP_C PLAIN ∷ []) ∷
    -- 20 f : t
    (sign S_COLON 21 PLAIN ∷ []) ∷
    type_rules 19 ∷
    -- 22 def m ( p : t ) : t { e }
    (sign W_DEF 23 R_METHOD ∷ sign S_UNBRACE TOP_C PLAIN ∷ []) ∷
    (name_rule GO 24 R_METHOD_NAME ∷ []) ∷
    (sign S_OPEN 25 PLAIN ∷ []) ∷
    (name_rule BINDS 26 PLAIN ∷ []) ∷
    (sign S_COLON 27 PLAIN ∷ []) ∷
    type_rules 28 ∷
    (sign S_CLOSE 29 PLAIN ∷ []) ∷
    (sign S_COLON 30 PLAIN ∷ []) ∷
    type_rules 31 ∷
    (deed S_BRACE PUSH_BODY EXPR ∷ []) ∷
    -- 32 e, and 33 what begins with x
    begin_rules ∷
    (sign S_DOT 34 PLAIN ∷ settles S_PLUS GO 36 1 R_SUM 0 ∷ []) ∷
    (record { seen = name_token []; turn = record { next = MEMBER; role = R_FIELD_USED; deed = GO; back = 2; becomes = R_SELECT; before = 0 } } ∷ []) ∷
    (settles S_EQUALS GO EXPR 3 R_UPDATE 0 ∷ settles S_OPEN PUSH_CALL EXPR 3 R_CALL R_METHOD_USED ∷ []) ∷
    variable_rules ENDED R_OPERAND ∷
    -- 37 ( t ) e, and ( x + x )
    (sign W_UNIT 39 R_UNIT ∷ sign W_INT 39 R_INT ∷ sign W_THIS 40 R_OPERAND ∷ name_rule OCCURS 38 R_OPERAND ∷ []) ∷
    (settles S_CLOSE GO EXPR 0 0 R_TYPE ∷ settles S_PLUS GO 41 2 R_SUM_IN 0 ∷ []) ∷
    (sign S_CLOSE EXPR PLAIN ∷ []) ∷
    (settles S_PLUS GO 41 2 R_SUM_IN 0 ∷ []) ∷
    variable_rules 42 R_OPERAND ∷
    (sign S_CLOSE ENDED PLAIN ∷ []) ∷
    -- 43 let y = e in e
    (name_rule PUSH_LET 44 R_BINDER ∷ []) ∷
    (sign S_EQUALS EXPR PLAIN ∷ []) ∷
    -- 45 new T
    (name_rule GO ENDED R_TYPE ∷ []) ∷
    -- 46 finish { async { e } async { e } } ; e
    (sign S_BRACE 47 PLAIN ∷ []) ∷
    (sign W_ASYNC 48 PLAIN ∷ []) ∷
    (deed S_BRACE PUSH_FIRST EXPR ∷ []) ∷
    (sign W_ASYNC 50 PLAIN ∷ []) ∷
    (deed S_BRACE PUSH_SECOND EXPR ∷ []) ∷
    (sign S_UNBRACE 52 PLAIN ∷ []) ∷
    (sign S_SEMICOLON EXPR PLAIN ∷ []) ∷
    -- 53 lock ( x ) in e
    (sign S_OPEN 54 PLAIN ∷ []) ∷
    variable_rules 55 R_OPERAND ∷
    (sign S_CLOSE 56 PLAIN ∷ []) ∷
    (sign W_IN EXPR PLAIN ∷ []) ∷
    -- 57 - n
    (digits ENDED PLAIN ∷ []) ∷
    -- 58 an expression has ended
    [] ∷
    -- the closers: of a let's first part, of an argument, of the first async, of the second, of a body
    (deed W_IN POP EXPR ∷ []) ∷
    (deed S_CLOSE POP ENDED ∷ []) ∷
    (deed S_UNBRACE POP 49 ∷ []) ∷
    (deed S_UNBRACE POP 51 ∷ []) ∷
    (deed S_UNBRACE LEAVE 22 ∷ []) ∷
    []

-- Is it the same token, spellings aside?
abbrev pub same_sort : Lexeme → Lexeme → Bool
same_sort (fixed j) (fixed k) = eqb j k
same_sort (fixed j) (name_token y) = false
same_sort (fixed j) (digits_token d) = false
same_sort (name_token x) (fixed k) = false
same_sort (name_token x) (name_token y) = true
same_sort (name_token x) (digits_token d) = false
same_sort (digits_token x) (fixed k) = false
same_sort (digits_token x) (name_token y) = false
same_sort (digits_token x) (digits_token d) = true

unfoldable pub pick_turn : Turn → Lexeme → List Rule → Turn
pick_turn other t [] = other
pick_turn other t (r ∷ rs) = cond (same_sort t r.seen) r.turn (pick_turn other t rs)

-- Where an expression may have ended a token that is none of the point's own is the innermost closer's.
abbrev pub ending_test : ℕ → Bool
ending_test p = eqb p VARIABLE || (eqb p MEMBER || eqb p ENDED)

abbrev pub stuck_turn : Turn
stuck_turn = turn_of STUCK 0 0

abbrev pub other_turn : ℕ → Turn
other_turn p = cond (ending_test p) (turn_of CLOSE 0 0) stuck_turn

-- The table.
unfoldable pub turn_at : ℕ → Lexeme → Turn
turn_at p t = pick_turn (other_turn p) t (get_or rules p [])

-- The machine's state, closers and roles newest first. No parameter is [], which no name is; the start is the number of tokens before the start's first one.
pub record Flat : Type 0 where
  pub point : ℕ
  pub closers : List ℕ
  pub parameter : Spelling
  pub visible : Bool
  pub roles : List ℕ
  pub start : ℕ

abbrev pub closer_turn : List ℕ → Lexeme → Turn
closer_turn [] t = stuck_turn
closer_turn (c ∷ cs) t = turn_at (c % POINTS) t

-- What a token does in a state, under its closers.
abbrev pub turn_under : ℕ → List ℕ → Lexeme → Turn
turn_under p cs t = let m = turn_at p t in cond (eqb m.deed CLOSE) (closer_turn cs t) m

-- Is the token an occurrence of the parameter's name, where the parameter is visible?
abbrev pub own_test : Spelling → Bool → Lexeme → Bool
own_test p v (fixed k) = false
own_test p v (name_token y) = v && same_spelling y p
own_test p v (digits_token d) = false

-- The token's role: a variable's has its binding.
abbrev pub role_by : Turn → Bool → ℕ
role_by m own = m.role + BINDING * cond (eqb m.deed OCCURS) (cond own B_PARAMETER B_OTHER) 0

-- The role of the token d tokens back becomes r, and its binding stays; the last token's becomes r.
abbrev pub settled : ℕ → ℕ → List ℕ → List ℕ
settled zero r l = l
settled (suc i) r l = set l i (r + BINDING * (get_or l i 0 / BINDING))

abbrev pub replaced_last : ℕ → List ℕ → List ℕ
replaced_last zero l = l
replaced_last (suc r) l = set l 0 (suc r)

abbrev pub roles_by : Turn → Bool → List ℕ → List ℕ
roles_by m own l = role_by m own ∷ replaced_last m.before (settled m.back m.becomes l)

-- What a closer keeps: is the parameter visible behind it? In a let's second part it is not if the let has its name; behind a body there is none.
abbrev pub kept_by : ℕ → Bool → Bool → Bool
kept_by d v own = cond (eqb d PUSH_BODY) false (cond (eqb d PUSH_LET) (v && not own) v)

abbrev pub popped_from : List ℕ → List ℕ
popped_from [] = []
popped_from (c ∷ cs) = cs

abbrev pub top_of : List ℕ → ℕ
top_of [] = 0
top_of (c ∷ cs) = c

abbrev pub pops_test : ℕ → Bool
pops_test d = eqb d POP || eqb d LEAVE

abbrev pub closers_by : ℕ → Bool → Bool → List ℕ → List ℕ
closers_by d v own cs =
    cond (pops_test d) (popped_from cs)
    (cond (leb PUSH_LET d) ((CLOSERS + d + POINTS * cond (kept_by d v own) 1 0) ∷ cs) cs)

abbrev pub visible_by : ℕ → Bool → List ℕ → Bool
visible_by d v cs = cond (pops_test d) (eqb (top_of cs / POINTS) 1) (eqb d BINDS || v)

abbrev pub parameter_by : ℕ → Lexeme → Spelling → Spelling
parameter_by d t p = cond (eqb d BINDS) (spelling_of t) (cond (eqb d LEAVE) [] p)

-- The start begins where the last declaration has ended.
abbrev pub start_by : ℕ → ℕ → ℕ → ℕ
start_by n count s = cond (eqb n TOP || eqb n TOP_C) count s

-- The state behind a token that takes a turn, the token being the parameter's own name or not.
abbrev pub turned : Turn → Lexeme → Flat → Flat
turned m t f =
    let own = own_test f.parameter f.visible t in
    record {
      point = m.next;
      closers = closers_by m.deed f.visible own f.closers;
      parameter = parameter_by m.deed t f.parameter;
      visible = visible_by m.deed f.visible f.closers;
      roles = roles_by m own f.roles;
      start = start_by m.next (suc (length f.roles)) f.start;
    }

pub data FlatNext : Type 0 where
  flat_stuck : FlatNext
  flat_goes : Flat → FlatNext

abbrev pub flat_by : Flat → Lexeme → Turn → FlatNext
flat_by f t m = cond (eqb m.deed STUCK) flat_stuck (flat_goes (turned m t f))

-- What a token other than the text's end does.
abbrev pub flat_step : Flat → Lexeme → FlatNext
flat_step f t = flat_by f t (turn_under f.point f.closers t)

abbrev pub empty_test : List ℕ → Bool
empty_test [] = true
empty_test (c ∷ cs) = false

-- At the text's end: is the text derived?
abbrev pub flat_ends : Flat → Bool
flat_ends f = eqb (turn_at f.point (fixed TEXT_END)).deed CLOSE && empty_test f.closers
