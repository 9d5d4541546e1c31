-- The layout of a state block: every width, offset and kind, once. "The team writes the byte layout in docs/": docs/BLOCK.md.
use Rattle.std.specs.Prelude.{ℕ, ◌+◌, ◌*◌, ◌/◌, List}
pub use Rattle.block.specs.declared.Area.{Area}
pub use Rattle.block.specs.declared.Area.TheVariants.{Objects, Bindings, Positions, Frames}
use Rattle.words.specs.Word.{word_at}
use Rattle.limits.specs.Limits.{BLOCK, OBJECTS, BINDINGS, POSITIONS, FRAMES, CLASS_FIELDS}
use Rattle.script.specs.Lists.{run}

-- The words of the block.
abbrev pub WORDS : ℕ
WORDS = BLOCK / 2

-- The header has a word for each area's count. Frames are those of all positions together.
abbrev pub HEADER : ℕ
HEADER = 4

abbrev pub count_word : Area → ℕ
count_word Objects = 0
count_word Bindings = 1
count_word Frames = 2
count_word Positions = 3

-- The words of a value: what it is, a low word and a high word.
abbrev pub VALUE : ℕ
VALUE = 3

-- Which word of its record is what. Of an object: its class, whether it is shut, and from FIRST-FIELD on a value for each field.
abbrev pub CLASS : ℕ
CLASS = 0

abbrev pub SHUT : ℕ
SHUT = 1

abbrev pub FIRST_FIELD : ℕ
FIRST_FIELD = 2

abbrev pub field_word : ℕ → ℕ
field_word k = FIRST_FIELD + VALUE * k

-- Of a binding: its name, its type, its value, and the binding beneath.
abbrev pub NAME : ℕ
NAME = 0

abbrev pub TYPE : ℕ
TYPE = 1

abbrev pub BOUND : ℕ
BOUND = 2

abbrev pub LINK : ℕ
LINK = BOUND + VALUE

-- Of a position and of a frame: what it is, its node, and its environment. A lock frame has its object for a node.
abbrev pub KIND : ℕ
KIND = 0

abbrev pub NODE : ℕ
NODE = 1

abbrev pub OBJECT : ℕ
OBJECT = NODE

abbrev pub ENV : ℕ
ENV = 2

-- Of a position, besides: its value, and how many frames wait there.
abbrev pub RESULT : ℕ
RESULT = 3

abbrev pub WAITING : ℕ
WAITING = RESULT + VALUE

-- The words of a record.
abbrev pub width : Area → ℕ
width Objects = field_word CLASS_FIELDS
width Bindings = LINK + 1
width Positions = WAITING + 1
width Frames = ENV + 1

-- The most records: "at most 256 objects .., 2,048 variable bindings .., 2,048 waiting frames in all, and a tree of joins with at most 32 threads".
abbrev pub most : Area → ℕ
most Objects = OBJECTS
most Bindings = BINDINGS
most Positions = POSITIONS
most Frames = FRAMES

-- Where an area begins, in words: right after the one before it; and the first word after the last.
abbrev pub begins : Area → ℕ
begins Objects = HEADER
begins Bindings = HEADER + width Objects * OBJECTS
begins Positions = HEADER + width Objects * OBJECTS + width Bindings * BINDINGS
begins Frames = HEADER + width Objects * OBJECTS + width Bindings * BINDINGS + width Positions * POSITIONS

abbrev pub END : ℕ
END = begins Frames + width Frames * FRAMES

-- The byte at which an area's count stands, and that at which word j of its record i stands.
abbrev pub count_byte : Area → ℕ
count_byte a = 2 * count_word a

abbrev pub word_byte : Area → ℕ → ℕ → ℕ
word_byte a i j = 2 * (begins a + width a * i + j)

-- What stands there in the bytes b: the count, word j of record i, and the counted records as rows of words.
abbrev pub counted : List ℕ → Area → ℕ
counted b a = word_at b (count_byte a)

abbrev pub word_in : List ℕ → Area → ℕ → ℕ → ℕ
word_in b a i j = word_at b (word_byte a i j)

unfoldable pub rows_in : List ℕ → Area → List (List ℕ)
rows_in b a = run (λ i. run (word_in b a i) 0 (width a)) 0 (counted b a)

-- What a position is: a thread at a node, a thread with a value, a failed thread, or a join.
abbrev pub RUNNING : ℕ
RUNNING = 1

abbrev pub RETURNING : ℕ
RETURNING = 2

abbrev pub FAILED : ℕ
FAILED = 3

abbrev pub JOIN : ℕ
JOIN = 4

-- What a frame is: a write, call or let that awaits a value, a cast, or a lock.
abbrev pub AWAITS : ℕ
AWAITS = 1

abbrev pub CASTS : ℕ
CASTS = 2

abbrev pub LOCKS : ℕ
LOCKS = 3
