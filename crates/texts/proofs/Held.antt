-- What the words of a file are where a list of words stands in it.
use mathlib.Core.Path.{◌≡◌, sym, ◌∙◌}
use mathlib.Core.List.{List, [], ◌∷◌, ◌++◌}
use Prim.Native.Nat.{ℕ, ◌+◌, ◌*◌, ◌<◌, ◌≤◌}
use native.Mathlib.Omega.{arith}
use lib.ListN.{length, get_or, length-append, get_or-append}
use lib.Seq.{get_or-append-add}
use Rattle.words.specs.Word.{word_at, bytes}
use Rattle.words.proofs.Laws.{word_bytes}
use Rattle.limits.specs.Limits.{CONTENTS}
use Rattle.script.specs.declared.Section.{Section}
use Rattle.script.specs.declared.Section.TheVariants.{Interfaces as interfaces, Signatures as signatures, Classes as classes}
use Rattle.script.specs.declared.Section.TheVariants.{Fields as fields, Methods as methods, Nodes as nodes}
use Rattle.script.specs.Section.{sections, entry_of, most_of, size_of, body_at, count_of, end_of}
use Rattle.script.specs.Statements.{LengthIs, PlacesAre}
use Rattle.grammar.specs.Files.{SectionBody, words_all, contents_from}

-- The words ws stand in s from byte `at` on.
pub record Held (s : List ℕ) (at : ℕ) (ws : List ℕ) : Type 0 where
  pub word : (i : ℕ) → i < length ws → word_at s (at + 2 * i) ≡ get_or ws i 0

pub held_bytes : (ws : List ℕ) → Held (bytes ws) 0 ws
held_bytes ws = record { word = λ i h. let e : 0 + 2 * i ≡ 2 * i = omega arith in rw e (word_bytes ws i) }

module _ (s : List ℕ) (at : ℕ) (u v : List ℕ) (h : Held s at (u ++ v)) where
  -- Of two lists one after the other each stands in its place.
  pub held_front : Held s at u
  held_front = record { word = λ i l. h.word i (simp length-append (omega arith)) ∙ get_or-append u v 0 i l }

  pub held_back : Held s (at + 2 * length u) v
  held_back =
      record {
        word =
            λ i l.
            let e : at + 2 * length u + 2 * i ≡ at + 2 * (length u + i) = omega arith in
            rw e (h.word (length u + i) (simp length-append (omega arith)) ∙ get_or-append-add u v i 0);
      }

-- Bodies one after the other.
abbrev HeldAll : List ℕ → ℕ → List SectionBody → Type 0
HeldAll s at [] = Unit {0}
HeldAll s at (b ∷ bs) = Held s at b.words × HeldAll s (at + 2 * length b.words) bs

held_all : (s : List ℕ) (at : ℕ) (bs : List SectionBody) → Held s at (words_all (λ b. b.words) bs) → HeldAll s at bs
unfolding words_all
held_all s at [] h = tt
held_all s at (b ∷ bs) h = (held_front s at b.words _ h, held_all s (at + 2 * length b.words) bs (held_back s at b.words _ h))

module _ (f : Section → SectionBody) where
  -- The words of a file with these bodies.
  abbrev pub listed : List SectionBody
  listed = f interfaces ∷ f signatures ∷ f classes ∷ f fields ∷ f methods ∷ f nodes ∷ []

  abbrev pub file_words : List ℕ
  file_words = contents_from CONTENTS listed ++ words_all (λ b. b.words) listed

  -- Where the contents place a section's body.
  abbrev start_of : Section → ℕ
  start_of k = get_or (contents_from CONTENTS listed) (2 * entry_of k) 0

  file_length_lem : 2 * length file_words ≡ start_of nodes + 2 * length (f nodes).words
  unfolding contents_from words_all
  file_length_lem = simp length-append (omega arith)

module _ (s : List ℕ) (f : Section → SectionBody) (h : Held s 0 (file_words f)) where
  contents : Held s 0 (contents_from CONTENTS (listed f))
  contents = held_front s 0 (contents_from CONTENTS (listed f)) (words_all (λ b. b.words) (listed f)) h

  bodies : HeldAll s CONTENTS (listed f)
  unfolding contents_from
  bodies = held_all s CONTENTS (listed f) (held_back s 0 (contents_from CONTENTS (listed f)) (words_all (λ b. b.words) (listed f)) h)

  -- What the contents say of each section, and its body.
  pub count_of_lem : (k : Section) → count_of s k ≡ (f k).records
  unfolding contents_from count_of
  count_of_lem interfaces = contents.word 1 (omega arith)
  count_of_lem signatures = contents.word 3 (omega arith)
  count_of_lem classes = contents.word 5 (omega arith)
  count_of_lem fields = contents.word 7 (omega arith)
  count_of_lem methods = contents.word 9 (omega arith)
  count_of_lem nodes = contents.word 11 (omega arith)

  body_at_lem : (k : Section) → body_at s k ≡ start_of f k
  unfolding contents_from body_at
  body_at_lem interfaces = contents.word 0 (omega arith)
  body_at_lem signatures = contents.word 2 (omega arith)
  body_at_lem classes = contents.word 4 (omega arith)
  body_at_lem fields = contents.word 6 (omega arith)
  body_at_lem methods = contents.word 8 (omega arith)
  body_at_lem nodes = contents.word 10 (omega arith)

  held_at_start : (k : Section) → Held s (start_of f k) (f k).words
  unfolding contents_from
  held_at_start interfaces = bodies.0
  held_at_start signatures = bodies.1.0
  held_at_start classes = bodies.1.1.0
  held_at_start fields = bodies.1.1.1.0
  held_at_start methods = bodies.1.1.1.1.0
  held_at_start nodes = bodies.1.1.1.1.1.0

  pub body_held : (k : Section) → Held s (body_at s k) (f k).words
  body_held k = rw (body_at_lem k) (held_at_start k)

  module _ (sized : (k : Section) → 2 * length (f k).words ≡ size_of k * (f k).records) (whole : length s ≡ 2 * length (file_words f)) where
    end_of_lem : (k : Section) → end_of s k ≡ start_of f k + 2 * length (f k).words
    unfolding end_of
    end_of_lem k = rw (body_at_lem k, count_of_lem k, ← sized k)

    -- The bodies follow each other, the last up to the end of the file.
    pub places_are : PlacesAre s
    unfolding contents_from sections
    places_are = (
      body_at_lem interfaces,
      (
        body_at_lem signatures ∙ sym (end_of_lem interfaces),
        (
          body_at_lem classes ∙ sym (end_of_lem signatures),
          (
            body_at_lem fields ∙ sym (end_of_lem classes),
            (body_at_lem methods ∙ sym (end_of_lem fields), (body_at_lem nodes ∙ sym (end_of_lem methods), end_of_lem nodes ∙ sym (whole ∙ file_length_lem f))),
          ),
        ),
      ),
    )

    pub length_is : ((k : Section) → (f k).records ≤ most_of k) → LengthIs s
    unfolding contents_from
    length_is most =
        let e : length s ≡ start_of f nodes + 2 * length (f nodes).words = whole ∙ file_length_lem f in
        let i = sized interfaces in
        let g = sized signatures in
        let c = sized classes in
        let a = sized fields in
        let m = sized methods in
        let n = sized nodes in
        record {
          least = omega arith;
          most = omega (arith, most interfaces, most signatures, most classes, most fields, most methods, most nodes);
        }
