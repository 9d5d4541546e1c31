-- Which bytes are a block, word by word: what there is to ask of them, apart from the script's meaning. "bytes with no meaning are 0"
use Rattle.std.specs.Prelude.{ℕ, suc, ◌*◌, ◌<◌, ◌≤◌, ◌≡◌, ◌≢◌, List, [], ◌∷◌, length, get_or}
use Rattle.words.specs.Word.{word_at}
use Rattle.limits.specs.Limits.{BLOCK, CLASS_FIELDS}
use Rattle.script.specs.Lists.{run, sum_below}
use Rattle.block.specs.declared.Area.{Area}
use Rattle.block.specs.declared.Area.TheVariants.{Objects, Bindings, Positions, Frames}
use Rattle.block.specs.Layout.{WORDS, width, most, END, counted, word_in, CLASS, SHUT, field_word, BOUND, KIND, NODE, ENV, RESULT, WAITING}
use Rattle.block.specs.Layout.{RUNNING, RETURNING, FAILED, JOIN, AWAITS, CASTS, LOCKS}
use Rattle.block.specs.Values.{ValueOk}

-- "bytes with no meaning are 0": the words w, from `from` up to `to`.
pub record Unused (w : ℕ → ℕ) (from to : ℕ) : Type 0 where
  pub zero : (j : ℕ) → from ≤ j → j < to → w j ≡ 0

-- The first n fields of an object whose words are w: each has a value.
pub record FieldsInOrder (w : ℕ → ℕ) (n : ℕ) : Type 0 where
  pub each : (k : ℕ) → k < n → ValueOk w (field_word k)

-- An object whose words are w: it is open or shut, its class has at most 8 fields, each of them has a value, and no other field has one.
pub record ObjectOk (field_count : ℕ → ℕ) (w : ℕ → ℕ) : Type 0 where
  pub shut : w SHUT ≤ 1
  pub few : field_count (w CLASS) ≤ CLASS_FIELDS
  pub values : FieldsInOrder w (field_count (w CLASS))
  pub unused : Unused w (field_word (field_count (w CLASS))) (width Objects)

-- A position whose words are w: its kind is known, and words without a meaning for that kind are 0.
pub data PositionOk (w : ℕ → ℕ) : Type 0 where
  is_running : w KIND ≡ RUNNING → Unused w RESULT WAITING → PositionOk w
  is_returning : w KIND ≡ RETURNING → Unused w NODE RESULT → ValueOk w RESULT → PositionOk w
  is_failed : w KIND ≡ FAILED → Unused w NODE (width Positions) → PositionOk w
  is_join : w KIND ≡ JOIN → Unused w RESULT WAITING → PositionOk w

-- A frame whose words are w, likewise.
pub data FrameOk (w : ℕ → ℕ) : Type 0 where
  is_awaits : w KIND ≡ AWAITS → FrameOk w
  is_casts : w KIND ≡ CASTS → Unused w ENV (width Frames) → FrameOk w
  is_locks : w KIND ≡ LOCKS → Unused w ENV (width Frames) → FrameOk w

-- A record of an area whose words are w. A binding has a value, and its other words may be any.
abbrev pub RecordOk : (ℕ → ℕ) → Area → (ℕ → ℕ) → Type 0
RecordOk field_count Objects w = ObjectOk field_count w
RecordOk field_count Bindings w = ValueOk w BOUND
RecordOk field_count Positions w = PositionOk w
RecordOk field_count Frames w = FrameOk w

-- The first n records of an area, and the records that are not counted.
pub record RecordsOk (field_count : ℕ → ℕ) (b : List ℕ) (a : Area) (n : ℕ) : Type 0 where
  pub each : (i : ℕ) → i < n → RecordOk field_count a (word_in b a i)

pub record Blank (b : List ℕ) (a : Area) : Type 0 where
  pub zero : (i j : ℕ) → counted b a ≤ i → i < most a → j < width a → word_in b a i j ≡ 0

-- An area: at most as many records as it has places, each in order, and the other places 0.
pub record AreaOk (field_count : ℕ → ℕ) (b : List ℕ) (a : Area) : Type 0 where
  pub few : counted b a ≤ most a
  pub records : RecordsOk field_count b a (counted b a)
  pub blank : Blank b a

-- The kinds of the positions of n trees, one tree after the other: a join stands before two trees and makes them one.
pub data Trees : List ℕ → ℕ → Type 0 where
  no_tree : Trees [] 0
  one_thread : {k n : ℕ} {ks : List ℕ} → k ≢ JOIN → Trees ks n → Trees (k ∷ ks) (suc n)
  one_join : {k n : ℕ} {ks : List ℕ} → k ≡ JOIN → Trees ks (suc (suc n)) → Trees (k ∷ ks) (suc n)

-- The positions form one tree, and their numbers of frames add up to the count of frames.
abbrev pub OneTree : List ℕ → Type 0
OneTree b = Trees (run (λ i. word_in b Positions i KIND) 0 (counted b Positions)) 1

abbrev pub FramesAdd : List ℕ → Type 0
FramesAdd b = sum_below (λ i. word_in b Positions i WAITING) (counted b Positions) ≡ counted b Frames

-- The words of the block by their number.
abbrev pub words_of : List ℕ → ℕ → ℕ
words_of b n = word_at b (2 * n)

-- The bytes b: every area is in order, the positions form one tree, their numbers of frames add up to the count, and all else is 0.
pub record InOrder (field_count : ℕ → ℕ) (b : List ℕ) : Type 0 where
  pub long : length b ≡ BLOCK
  pub small : (i : ℕ) → get_or b i 0 < 256
  pub areas : (a : Area) → AreaOk field_count b a
  pub one_tree : OneTree b
  pub all_frames : FramesAdd b
  pub rest : Unused (words_of b) END WORDS
