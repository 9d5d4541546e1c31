-- Each sentence of request 4 as an example: a table by computation over small texts. `proofs/AllTexts.antt` has the theorem over it.
use Rattle.std.specs.Prelude.{ℕ, zero, suc, ◌+◌, ◌-◌, ◌/◌, ◌%◌, ◌≡◌, List, [], ◌∷◌, ◌++◌, length, replicate}
use Prim.Native.Char.{code}
use Prim.Native.String.{String, len, char_at}
use Rattle.words.specs.Word.{bytes}
use Rattle.limits.specs.Limits.{FILE}
use Rattle.script.specs.AllFiles.{file_of}
use Rattle.grammar.specs.Read.{TextRead, NO_GRAMMAR, NO_DECLARATION, NO_ROOM, read_of}

-- The bytes of what is typed here: n of them from offset i on.
unfoldable pub quoted_from : String → ℕ → ℕ → List ℕ
quoted_from s i zero = []
quoted_from s i (suc n) = code (char_at s i) ∷ quoted_from s (i + 1) n

abbrev pub quoted : String → List ℕ
quoted s = quoted_from s 0 (len s)

-- A text, and what Read answers when it is lent a buffer: number, place and length, and every byte of the buffer.
pub record TextExample : Type 0 where
  pub text : List ℕ
  pub outcome : List ℕ → TextRead

abbrev file_outcome : List ℕ → TextRead
file_outcome f = record { number = 0; place = 0; length = length f; buffer = f ++ replicate (FILE - length f) 0 }

-- It is read, and the file has these words.
abbrev pub is_read : List ℕ → List ℕ → TextExample
is_read text ws = record { text = text; outcome = λ b. file_outcome (bytes ws) }

abbrev pub is_refused : ℕ → ℕ → List ℕ → TextExample
is_refused n place text = record { text = text; outcome = λ b. record { number = n; place = place; length = 0; buffer = b } }

abbrev pub TextHolds : TextExample → Type 0
TextHolds x = (b : List ℕ) → length b ≡ FILE → read_of x.text b ≡ x.outcome b

-- The file of a start alone.
abbrev pub start_file : List ℕ → List ℕ
start_file ns = file_of [] [] [] [] [] ns

-- n interfaces without a signature, _00 and so on, 15 bytes each.
unfoldable pub interfaces_from : ℕ → ℕ → List ℕ
interfaces_from i zero = []
interfaces_from i (suc n) = quoted "interface _" ++ ((48 + i / 10) ∷ (48 + i % 10) ∷ (quoted "{}" ++ interfaces_from (i + 1) n))

unfoldable pub text_examples : List TextExample
text_examples =
    -- "producing the script file and its length": the first sample of document 01, typed
    is_read (quoted "(Unit)null") (start_file (7 ∷ 0 ∷ 1 ∷ 0 ∷ 0 ∷ 0 ∷ 0 ∷ 0 ∷ [])) ∷
    -- "bytes 9, 10, 13 and 32 only separate tokens, each the longest there": 1 and `in`
    is_read (quoted "\tlet\nx\r=1in x ") (start_file (5 ∷ 2 ∷ 1 ∷ 2 ∷ 10 ∷ 1 ∷ 0 ∷ 0 ∷ 1 ∷ 2 ∷ 0 ∷ 0 ∷ [])) ∷
    -- "no digit first and no word the grammar spells out": let_ and int are names, 1x is not; "this" is no name
    is_read (quoted "let_+int") (start_file (11 ∷ 2 ∷ 3 ∷ 0 ∷ [])) ∷
    is_refused NO_GRAMMAR 1 (quoted "1x") ∷
    is_refused NO_GRAMMAR 4 (quoted "let this=1 in x") ∷
    -- "34 the token at the place, or the text's end, fits no legal continuation": a byte that begins no token, `}` for `)`, and ends
    is_refused NO_GRAMMAR 1 (quoted "x#") ∷
    is_refused NO_GRAMMAR 5 (quoted "x.m(x}") ∷
    is_refused NO_GRAMMAR 0 [] ∷
    -- P ::= Ids Cds e: no interface stands behind a class
    is_refused NO_GRAMMAR 22 (quoted "class C implements C{}interface I{}1") ∷
    is_refused NO_GRAMMAR 4 (quoted "(x) ") ∷
    -- "decimal integers with an optional minus": the least, the greatest, and 0
    is_read (quoted "-2147483648") (start_file (10 ∷ 0 ∷ 32768 ∷ 0 ∷ [])) ∷
    is_read (quoted "2147483647") (start_file (10 ∷ 65535 ∷ 32767 ∷ 0 ∷ [])) ∷
    is_read (quoted "- 00") (start_file (10 ∷ 0 ∷ 0 ∷ 0 ∷ [])) ∷
    -- "Nodes go in preorder, parts as they run": a let in a let's first part, a fork, a lock
    is_read
    (quoted "let x=let y=-1 in y in x")
    (start_file (5 ∷ 2 ∷ 1 ∷ 4 ∷ 5 ∷ 3 ∷ 2 ∷ 3 ∷ 10 ∷ 65535 ∷ 65535 ∷ 0 ∷ 1 ∷ 3 ∷ 0 ∷ 0 ∷ 1 ∷ 2 ∷ 0 ∷ 0 ∷ [])) ∷
    is_read
    (quoted "finish{async{x.f=1}async{this}};lock(y)in(y+x)")
    (start_file
    (8 ∷ 1 ∷ 3 ∷ 4 ∷ 3 ∷ 2 ∷ 0 ∷ 2 ∷ 10 ∷ 1 ∷ 0 ∷ 0 ∷ 1 ∷ 0 ∷ 0 ∷ 0 ∷ 9 ∷ 3 ∷ 5 ∷ 0 ∷ 11 ∷ 3 ∷ 2 ∷ 0 ∷ [])) ∷
    -- "the start before the bodies"; "an occurrence bound by the parameter 1, others in expressions count from 2": the let's first part is not in its scope
    is_read
    (quoted "class C implements C{def m(n:C):C{let n=n in n}}n")
    (file_of [] [] (1 ∷ 0 ∷ 1 ∷ []) [] (0 ∷ 1 ∷ 1 ∷ 1 ∷ []) (1 ∷ 2 ∷ 0 ∷ 0 ∷ 5 ∷ 2 ∷ 2 ∷ 3 ∷ 1 ∷ 1 ∷ 0 ∷ 0 ∷ 1 ∷ 2 ∷ 0 ∷ 0 ∷ [])) ∷
    -- the let's scope ends with the async
    is_read
    (quoted "class C implements C{def m(p:C):C{finish{async{let p=1in p}async{p}};p}}null")
    (file_of [] [] (1 ∷ 0 ∷ 1 ∷ []) [] (0 ∷ 1 ∷ 1 ∷ 1 ∷ [])
    (0 ∷ 0 ∷ 0 ∷ 0 ∷ 8 ∷ 2 ∷ 5 ∷ 6 ∷ 5 ∷ 2 ∷ 3 ∷ 4 ∷ 10 ∷ 1 ∷ 0 ∷ 0 ∷ 1 ∷ 2 ∷ 0 ∷ 0 ∷ 1 ∷ 1 ∷ 0 ∷ 0 ∷ 1 ∷ 1 ∷ 0 ∷ 0 ∷ [])) ∷
    -- "by first appearance": a, c, b, p in the text, though the start's nodes come first; the parameter's own place is in no expression
    is_read
    (quoted "class C implements C{def m(p:C):C{let a=c in a}}let b=a in p")
    (file_of [] [] (1 ∷ 0 ∷ 1 ∷ []) [] (0 ∷ 1 ∷ 1 ∷ 3 ∷ [])
    (5 ∷ 4 ∷ 1 ∷ 2 ∷ 1 ∷ 2 ∷ 0 ∷ 0 ∷ 1 ∷ 5 ∷ 0 ∷ 0 ∷ 5 ∷ 2 ∷ 4 ∷ 5 ∷ 1 ∷ 3 ∷ 0 ∷ 0 ∷ 1 ∷ 2 ∷ 0 ∷ 0 ∷ [])) ∷
    -- "methods and fields are numbered by first appearance from 0, each sort alone": fields g, f, h; methods m, n, g
    is_read
    (quoted "class C implements C{g:C def m(p:C):C{p.f=p.n(p.h)}def g(p:C):C{p.n(p.g)}}x.g(null)")
    (file_of [] [] (1 ∷ 1 ∷ 2 ∷ []) (0 ∷ 1 ∷ []) (0 ∷ 1 ∷ 1 ∷ 2 ∷ 2 ∷ 1 ∷ 1 ∷ 5 ∷ [])
    (4 ∷ 2 ∷ 2 ∷ 1 ∷ 0 ∷ 0 ∷ 0 ∷ 0 ∷ 3 ∷ 1 ∷ 1 ∷ 3 ∷ 4 ∷ 1 ∷ 1 ∷ 4 ∷ 2 ∷ 1 ∷ 2 ∷ 0 ∷ 4 ∷ 1 ∷ 1 ∷ 6 ∷ 2 ∷ 1 ∷ 0 ∷ 0 ∷ [])) ∷
    -- "interfaces are 1 to I, classes I+1 to I+C", "Type I+C+1 is Int"; "The reader asks no others": a join of a later interface
    is_read
    (quoted "interface I{m(p:Int):Unit}interface J extends I,K interface K{m(q:K):J n(q:C):I}class C implements K{f:Int}(J)new C")
    (file_of (0 ∷ 1 ∷ 0 ∷ 1 ∷ 1 ∷ 3 ∷ 0 ∷ 2 ∷ 0 ∷ []) (0 ∷ 5 ∷ 0 ∷ 0 ∷ 3 ∷ 2 ∷ 1 ∷ 4 ∷ 1 ∷ []) (3 ∷ 1 ∷ 0 ∷ []) (0 ∷ 5 ∷ []) []
    (7 ∷ 2 ∷ 1 ∷ 0 ∷ 6 ∷ 4 ∷ 0 ∷ 0 ∷ [])) ∷
    -- Figure 10, "OOlong as it is printed": methods add, get, init; variables cnt, cell, cell2, tmp
    is_read
    (quoted "interface Counter{add(x:Int):Unit get(tmp:Int):Int}class Cell implements Counter{cnt:Int def init(n:Int):Unit{this.cnt=n}"
    ++ (quoted "def add(n:Int):Unit{let cnt=this.cnt in this.cnt=(cnt+n)}def get(tmp:Int):Int{this.cnt}}"
    ++ (quoted "let cell=new Cell in let cell2=(Counter)cell in let tmp=cell.init(0)in "
    ++ quoted "finish{async{lock(cell)in cell.add(1)}async{lock(cell2)in cell2.add(2)}};cell.get(0)")))
    (file_of (0 ∷ 2 ∷ 0 ∷ []) (0 ∷ 3 ∷ 0 ∷ 1 ∷ 3 ∷ 3 ∷ []) (1 ∷ 1 ∷ 3 ∷ []) (0 ∷ 3 ∷ []) (2 ∷ 3 ∷ 0 ∷ 17 ∷ 0 ∷ 3 ∷ 0 ∷ 19 ∷ 1 ∷ 3 ∷ 3 ∷ 23 ∷ [])
    (5 ∷ 3 ∷ 1 ∷ 2 ∷ 6 ∷ 2 ∷ 0 ∷ 0 ∷ 5 ∷ 4 ∷ 3 ∷ 5 ∷ 7 ∷ 1 ∷ 4 ∷ 0 ∷ 1 ∷ 3 ∷ 0 ∷ 0 ∷ 5 ∷ 5 ∷ 6 ∷ 8 ∷ 4 ∷ 3 ∷ 2 ∷ 7 ∷ 10 ∷ 0 ∷ 0 ∷ 0
    ∷ 8 ∷ 9 ∷ 12 ∷ 15 ∷ 9 ∷ 3 ∷ 10 ∷ 0 ∷ 4 ∷ 3 ∷ 0 ∷ 11 ∷ 10 ∷ 1 ∷ 0 ∷ 0 ∷ 9 ∷ 4 ∷ 13 ∷ 0 ∷ 4 ∷ 4 ∷ 0 ∷ 14 ∷ 10 ∷ 2 ∷ 0 ∷ 0 ∷ 4 ∷ 3 ∷ 1 ∷ 16
    ∷ 10 ∷ 0 ∷ 0 ∷ 0 ∷ 3 ∷ 0 ∷ 0 ∷ 18 ∷ 1 ∷ 1 ∷ 0 ∷ 0 ∷ 5 ∷ 2 ∷ 20 ∷ 21 ∷ 2 ∷ 0 ∷ 0 ∷ 0 ∷ 3 ∷ 0 ∷ 0 ∷ 22 ∷ 11 ∷ 2 ∷ 1 ∷ 0 ∷ 2 ∷ 0 ∷ 0 ∷ 0 ∷ [])) ∷
    -- "35, after 34, a type name is declared nowhere or again": again at the later name; the first of both sorts; as class or interface
    is_refused NO_DECLARATION 23 (quoted "interface I{}interface I{}new A") ∷
    is_refused NO_DECLARATION 19 (quoted "class C implements A{}class C implements C{}1") ∷
    is_refused NO_DECLARATION 19 (quoted "interface C{}class C implements C{}1") ∷
    is_refused NO_GRAMMAR 5 (quoted "new A)") ∷
    -- "after 35, a table limit or the range of Int is passed": the first of two, "an integer its first token"
    is_refused NO_DECLARATION 23 (quoted "let x=2147483648in new A") ∷
    is_refused NO_ROOM 6 (quoted "let x=2147483648in-2147483649") ∷
    is_refused NO_ROOM 5 (quoted "(Int)-2147483649") ∷
    -- 64 interfaces, and 65: "for a record too many in text order .. its first token"
    is_read (interfaces_from 0 64 ++ quoted "null") (file_of (replicate 192 0) [] [] [] [] (0 ∷ 0 ∷ 0 ∷ 0 ∷ [])) ∷
    is_refused NO_ROOM 960 (interfaces_from 0 65 ++ quoted "null") ∷
    []
