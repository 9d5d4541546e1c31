-- The state of a Run: the block, in which objects, bindings, positions and frames change in place.
use Rattle.std.specs.Prelude.{ℕ, ◌≡◌, List, ◌++◌, map, reverse, length}
use Rattle.words.specs.Word.{bytes}
use Rattle.machine.specs.declared.Frame.{Frame}
use Rattle.machine.specs.Config as machine
use Rattle.machine.specs.Config.{Stores, Config}
use Rattle.block.specs.Block.{frames_of, Parts, parts_of, laid, encode}
use Rattle.block.specs.Fits.{Few, AllStorable}
use Rattle.tree.specs.declared.Entry.{Entry}
use Rattle.tree.specs.Entries.{root_entry, frame_sum}
use Rattle.tree.specs.Parts.{PartAt}

-- What lies in a block with these stores, positions and frames.
abbrev pub parts_in : Stores → List machine.Tree → List Frame → Parts
parts_in st ps fs = record { objects = st.objects; bindings = reverse st.bindings; positions = ps; frames = fs }

-- The block b is the configuration c.
pub record Represents (b : List ℕ) (c : Config) : Type 0 where
  pub block : b ≡ encode c
  pub few : Few (parts_of c)
  pub storable : AllStorable (parts_of c)

-- All but the part at a position: the entries before and after those of the part, and the frames before and after its frames.
pub record Rest : Type 0 where
  pub before : List Entry
  pub after : List Entry
  pub outer : List Frame
  pub later : List Frame

-- The block b, seen from position i: the stores st, the part u there, and all else. Of the trees that the positions are, their entries say all that the block
-- has.
pub record StateAt (b : List ℕ) (i : ℕ) (x : Rest) (st : Stores) (u : machine.Tree) : Type 0 where
  pub positions : List machine.Tree
  pub there : PartAt (map root_entry positions) i x.before u x.after
  pub start : length x.outer ≡ frame_sum x.before
  pub block : b ≡ bytes (laid (parts_in st positions (x.outer ++ (frames_of u ++ x.later))))
  pub few : Few (parts_in st positions (x.outer ++ (frames_of u ++ x.later)))
  pub storable : AllStorable (parts_in st positions (x.outer ++ (frames_of u ++ x.later)))

-- Something is seen from position i.
pub record SomeState (b : List ℕ) (i : ℕ) : Type 0 where
  pub rest : Rest
  pub stores : Stores
  pub part : machine.Tree
  pub seen : StateAt b i rest stores part
