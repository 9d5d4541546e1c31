-- Every limit of document 01, and the length of the block, which is document 02's (request 2), once. `Limits` of the source has the same names, and `agreed`
-- there proves that the numbers are the same.
use Rattle.std.specs.Prelude.{ℕ, ◌*◌, ◌-◌}

-- The script file: "Most records" of each section.
abbrev pub INTERFACES : ℕ
INTERFACES = 64

abbrev pub SIGNATURES : ℕ
SIGNATURES = 256

abbrev pub CLASSES : ℕ
CLASSES = 64

abbrev pub FIELDS : ℕ
FIELDS = 256

abbrev pub METHODS : ℕ
METHODS = 256

abbrev pub NODES : ℕ
NODES = 1024

-- "The bodies follow in that order, the first at offset 24": the bytes of the contents, and so of the shortest file.
abbrev pub CONTENTS : ℕ
CONTENTS = 24

-- The longest file: the contents, and each section with its most records.
abbrev pub FILE : ℕ
FILE = 13592

-- Question 8: "has each class at most 8 fields".
abbrev pub CLASS_FIELDS : ℕ
CLASS_FIELDS = 8

-- The state block: its bytes ("The block grows to 65,536 bytes"), and the most objects, bindings, waiting frames and threads.
abbrev pub BLOCK : ℕ
BLOCK = 65536

abbrev pub OBJECTS : ℕ
OBJECTS = 256

abbrev pub BINDINGS : ℕ
BINDINGS = 2048

abbrev pub FRAMES : ℕ
FRAMES = 2048

abbrev pub THREADS : ℕ
THREADS = 32

-- The positions of a tree of joins with the most threads.
abbrev pub POSITIONS : ℕ
POSITIONS = 2 * THREADS - 1

-- Question 22: the longest choice list, and the flag buffer, a byte for each position of a tree with the most threads.
abbrev pub CHOICES : ℕ
CHOICES = 4096

abbrev pub FLAGS : ℕ
FLAGS = POSITIONS

-- "A thread makes at most 1,024 silent moves in a row."
abbrev pub SILENT : ℕ
SILENT = 1024

-- Request 4: the longest text, "the text is above 65,536 bytes".
abbrev pub TEXT : ℕ
TEXT = 65536
