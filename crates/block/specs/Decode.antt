-- The configuration that a block stands for, if it stands for one. "Is the block a well-formed configuration of this script?" begins here.
use Rattle.std.specs.Prelude.{ℕ, Bool, true, false, cond, ◌&&◌, List, [], ◌∷◌, map, reverse, eqb, get_or, take, drop}
use Rattle.std.proofs.Math.Option.{Option, none, some}
use Rattle.machine.specs.declared.Frame.{Frame}
use Rattle.machine.specs.declared.Frame.TheVariants.{Awaits as awaits, Casts as casts, Locks as locks}
use Rattle.script.specs.Lists.{run}
use Rattle.machine.specs.Config.{Object, Binding, Tree, running, returning, failed, join, Config}
use Rattle.block.specs.Layout.{Objects, Bindings, Positions, Frames, rows_in, CLASS, SHUT, field_word, NAME, TYPE, BOUND, LINK}
use Rattle.block.specs.Layout.{KIND, NODE, OBJECT, ENV, RESULT, WAITING, RUNNING, RETURNING, JOIN, AWAITS, CASTS}
use Rattle.block.specs.Rows.{word_of}
use Rattle.block.specs.Values.{value_in}
use Rattle.block.specs.Block.{encode}
use Rattle.block.specs.Fits.{fits_test}

-- Each record read from its words w, as if it were in order.
abbrev pub object_in : (ℕ → ℕ) → (ℕ → ℕ) → Object
object_in field_count w =
    record { class = w CLASS; shut = eqb (w SHUT) 1; fields = run (λ k. value_in w (field_word k)) 0 (field_count (w CLASS)) }

abbrev pub binding_in : (ℕ → ℕ) → Binding
binding_in w = record { name = w NAME; type = w TYPE; value = value_in w BOUND; link = w LINK }

abbrev pub frame_in : (ℕ → ℕ) → Frame
frame_in w = cond (eqb (w KIND) AWAITS) (awaits (w NODE) (w ENV)) (cond (eqb (w KIND) CASTS) (casts (w NODE)) (locks (w OBJECT)))

-- The same of a row of words.
abbrev pub object_of : (ℕ → ℕ) → List ℕ → Object
object_of field_count r = object_in field_count (word_of r)

abbrev pub binding_of : List ℕ → Binding
binding_of r = binding_in (word_of r)

abbrev pub frame_of : List ℕ → Frame
frame_of r = frame_in (word_of r)

-- A position with its frames, put before the trees that begin after it: a join takes the first two of them for its sides.
abbrev pub with_position : List ℕ → List Frame → List Tree → List Tree
with_position r fs ts =
    cond (eqb (word_of r KIND) RUNNING) (running (word_of r NODE) (word_of r ENV) fs ∷ ts)
    (cond (eqb (word_of r KIND) RETURNING) (returning (value_in (word_of r) RESULT) fs ∷ ts)
    (cond (eqb (word_of r KIND) JOIN) (join fs (word_of r NODE) (word_of r ENV) (get_or ts 0 failed) (get_or ts 1 failed) ∷ drop 2 ts)
    (failed ∷ ts)))

-- The trees that positions form, from the last position to the first, and the frames that are left. Frames come last one first, so each position takes its own
-- from the front.
pub record Forest : Type 0 where
  pub trees : List Tree
  pub frames : List Frame

unfoldable pub forest : List (List ℕ) → List Frame → Forest
forest [] fs = record { trees = []; frames = fs }
forest (r ∷ rs) fs =
    let g = forest rs fs in
    record { trees = with_position r (take (word_of r WAITING) g.frames) g.trees; frames = drop (word_of r WAITING) g.frames }

-- The configuration read from a block, as if it were in order.
unfoldable pub config_in : (ℕ → ℕ) → List ℕ → Config
config_in field_count b =
    record {
      stores = record { objects = map (object_of field_count) (rows_in b Objects); bindings = reverse (map binding_of (rows_in b Bindings)) };
      tree = get_or (forest (rows_in b Positions) (reverse (map frame_of (rows_in b Frames)))).trees 0 failed;
    }

unfoldable pub same : List ℕ → List ℕ → Bool
same [] [] = true
same [] (y ∷ ys) = false
same (x ∷ xs) [] = false
same (x ∷ xs) (y ∷ ys) = eqb x y && same xs ys

-- A block is in order if the configuration read from it fits and has this very block. That this is to say that counts are within the limits, kinds are known,
-- the positions form one tree with the counted positions and frames, and "bytes with no meaning are 0", is proved: `in_order_decodes`, `decoded_in_order`
-- (InOrder.antt has it word by word).
unfoldable pub decode : (ℕ → ℕ) → List ℕ → Option Config
decode field_count b = let c = config_in field_count b in cond (fits_test field_count c && same (encode c) b) (some c) none
