-- The table of the machine that judges a text, as the code has it.
use Rattle.std.specs.Prelude.{ℕ, zero, suc, ◌+◌, ◌*◌, ◌/◌, ◌%◌, ◌<◌, ◌≡◌, List, [], ◌∷◌, set}
use Rattle.grammar.specs.Roles.{BINDING}
use Rattle.tokens.specs.Next.{K_NAME, lexeme_of}
use Rattle.flat.specs.declared.Turn.{Turn}
use Rattle.flat.specs.Flat.{turn_at, turn_of, POINTS, GO, BINDS, CLOSE, VARIABLE, MEMBER, ENDED}

-- A turn as one number, and back.
abbrev pub packed : Turn → ℕ
packed m = m.next + 64 * (m.deed + 16 * (m.role + 32 * (m.back + 4 * (m.becomes + 32 * m.before))))

abbrev pub unpacked : ℕ → Turn
unpacked e =
    record {
      next = e % 64;
      role = e / 1024 % 32;
      deed = e / 64 % 16;
      back = e / 32768 % 4;
      becomes = e / 131072 % 32;
      before = e / 4194304 % 32;
    }

-- The entry of a token that does nothing besides: it has the next point and the role, and nothing above them.
abbrev pub Plain : ℕ → Type 0
Plain e = unpacked e ≡ turn_of GO (e % 64) (e / 1024)

-- Entries of the table, from entry i on: 32 for each point. A name's and that of digits are the same whatever they spell.
unfoldable pub entries_from : ℕ → ℕ → List ℕ
entries_from zero i = []
entries_from (suc n) i = packed (turn_at (i / 32) (lexeme_of (i % 32) [])) ∷ entries_from n (i + 1)

unfoldable pub table_entries : List ℕ
table_entries = entries_from 2048 0

-- A table in which at the three points where an expression may have ended the first k kinds of tokens are left to the innermost closer.
unfoldable pub closed_to : ℕ → List ℕ → List ℕ
closed_to zero l = l
closed_to (suc k) l =
    let left = packed (turn_of CLOSE 0 0) in
    set (set (set (closed_to k l) (32 * VARIABLE + k) left) (32 * MEMBER + k) left) (32 * ENDED + k) left

-- Fields that fit a byte and their places; only a name, of its kind, is a parameter.
pub record Tight (k : ℕ) (r : Turn) : Type 0 where
  pub next_low : r.next < POINTS
  pub role_low : r.role < BINDING
  pub deed_low : r.deed < 16
  pub becomes_low : r.becomes < BINDING
  pub before_low : r.before < BINDING
  pub binds_name : r.deed ≡ BINDS → k ≡ K_NAME

-- What a token of kind k does at point p, whatever it spells.
pub record TurnIs (p k : ℕ) (r : Turn) : Type 0 where
  pub is : (s : List ℕ) → r ≡ turn_at p (lexeme_of k s)
  pub tight : Tight k r
