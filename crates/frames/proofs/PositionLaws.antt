-- A position of the block: its record, its frames, and what is asked of it, as the code goes.
use mathlib.Core.Path.{◌≡◌, refl, sym, ap, ◌∙◌}
use mathlib.Core.Bool.{Bool, true, false}
use mathlib.Core.List.{List, [], ◌∷◌, reverse, reverse-reverse}
use mathlib.Core.Option.{none, some}
use Prim.Native.Nat.{ℕ, ◌+◌, ◌<◌, ◌≤◌}
use native.Mathlib.Omega.{arith}
use lib.ListN.{length, get_or, take, drop, length-map, length-drop, length-reverse}
use lib.Seq.{ext_get_or, length-take-le, get_or-take, get_or-drop}
use Rattle.limits.specs.Limits.{POSITIONS}
use Rattle.script.proofs.Lists.{sum_more}
use Rattle.machine.specs.declared.Frame.{Frame}
use Rattle.machine.specs.declared.Frame.TheVariants.{Awaits as awaits}
use Rattle.machine.specs.declared.Value.{Value}
use Rattle.machine.specs.declared.Want.{Want}
use Rattle.machine.specs.Config.{Code, code_of, Binding, Stores, Tree, running, returning, failed, join}
use Rattle.machine.specs.Machine.{field_count}
use Rattle.machine.specs.Decide.{value_fits_test, expects}
use Rattle.block.specs.declared.Area.TheVariants.{Positions, Frames}
use Rattle.block.specs.Rows.{word_of}
use Rattle.block.specs.Values.{value_in, Storable}
use Rattle.block.specs.Layout.{width, counted, word_in, RESULT, WAITING, RETURNING}
use Rattle.block.specs.Block.{preorder, waiting, returned, position_words, parts_of}
use Rattle.representation.specs.Changed.{frame_start}
use Rattle.block.proofs.Rows.{row_at_lem}
use Rattle.block.proofs.Words.{count_is_lem, word_is}
use Rattle.block.proofs.Values.{value_back, value_same}
use Rattle.representation.proofs.Places.{frame_at}
use Rattle.representation.proofs.InOrder.{sum_same}
use Rattle.representation.proofs.Ordered.{frame_number, at_in}
use Rattle.environments.specs.Chains.{bindings_in}
use Rattle.std.specs.declared.option.Option.{Option as CodeOption}
use Rattle.std.specs.declared.option.Option.TheVariants.{Some, None}
use Rattle.awaited.specs.Awaited.{expects_of, ScopedBlock}
use Rattle.parts.specs.Parts.{config_read}
use Rattle.frames.specs.Expecting.{frames_in, frames_from, frames_before, place_at, node_meets_test, position_test}
use Rattle.frames.proofs.BlockLaws.{in_block, storable, frames_many}
use Rattle.frames.proofs.FrameLaws.{is_none, is_some}
use Rattle.values.proofs.ReadLaws.{bindings_read}

module _ {s b : List ℕ} (y : ScopedBlock s b) where
  pub places_many : counted b Positions ≡ length (preorder (config_read s b).tree)
  places_many =
      ap (λ (x : List ℕ). counted x Positions) (in_block y)
      ∙ count_is_lem (parts_of (config_read s b)) Positions
      ∙ length-map (preorder (config_read s b).tree) position_words

  pub place_there : (i : ℕ) → i < counted b Positions → i < POSITIONS
  place_there i h = omega (arith, (y.in_order.areas Positions).few)

  place_word : (i j : ℕ) → i < counted b Positions → j < width Positions → word_in b Positions i j ≡ get_or (position_words (place_at s b i)) j 0
  place_word i j h hj =
      ap (λ (x : List ℕ). word_in x Positions i j) (in_block y)
      ∙ word_is (parts_of (config_read s b)) Positions i j (place_there i h) hj
      ∙ ap (λ (r : List ℕ). get_or r j 0) (row_at_lem position_words (preorder (config_read s b).tree) i failed (omega (arith, places_many)))

  place_storable : (i : ℕ) → i < counted b Positions → Storable (returned (place_at s b i))
  place_storable i h = storable y Positions (place_at s b i) (at_in (preorder (config_read s b).tree) i failed (omega (arith, places_many)))

  place_frames : (i : ℕ) → i < counted b Positions → word_in b Positions i WAITING ≡ length (waiting (place_at s b i))
  place_frames i h = place_word i WAITING h (omega arith) ∙ frame_number (place_at s b i)

  module _ (i : ℕ) (h : i < counted b Positions) (from n : ℕ) (begins : from ≡ frames_before b i) (many : n ≡ word_in b Positions i WAITING) where
    -- its frames lie within the frames, after those of the positions before it
    pub frames_within : from + n ≤ counted b Frames
    frames_within = omega (arith, begins, many, sum_more (λ k. word_in b Positions k WAITING) i (counted b Positions) h, y.in_order.all_frames)

    frames_start : from ≡ frame_start (config_read s b).tree i
    frames_start = begins ∙ sum_same (λ k. word_in b Positions k WAITING) (λ k. length (waiting (place_at s b k))) i (λ k l. place_frames k (omega arith))

    pub frames_own : frames_from s b from n ≡ waiting (place_at s b i)
    frames_own =
        let own : List Frame = waiting (place_at s b i) in
        let fs : List Frame = frames_in s b in
        let size : n ≡ length own = many ∙ place_frames i h in
        let long : length (take n (drop from fs)) ≡ n = length-take-le n (drop from fs) (omega (arith, length-drop from fs, frames_many y, frames_within)) in
        let turned_round : take n (drop from fs) ≡ reverse own =
        ext_get_or (awaits 0 0) (take n (drop from fs)) (reverse own) (long ∙ size ∙ sym (length-reverse own))
        (λ k l.
        get_or-take n (drop from fs) k (awaits 0 0) (omega arith)
        ∙ get_or-drop from fs k (awaits 0 0)
        ∙ ap (λ (x : ℕ). get_or fs (x + k) (awaits 0 0)) frames_start
        ∙ frame_at (config_read s b).tree i k (awaits 0 0) (omega (arith, places_many)) (omega arith))
        in
        ap reverse turned_round ∙ reverse-reverse own

-- what is asked of a position, by its kind
module _ (s : Code) (st : Stores) (v : Want) where
  failed_fits : (q : Tree) → get_or (position_words q) 0 0 ≡ 3 → true ≡ position_test s st v q
  failed_fits (running a e fs) k = absurd (omega arith)
  failed_fits (returning x fs) k = absurd (omega arith)
  failed_fits failed k = refl
  failed_fits (join fs a e l r) k = absurd (omega arith)

  frames_misfit : (q : Tree) → (get_or (position_words q) 0 0 ≡ 3 → ⊥) → expects s st.bindings v (waiting q) ≡ none → false ≡ position_test s st v q
  frames_misfit (running a e fs) k f = rw f
  frames_misfit (returning x fs) k f = rw f
  frames_misfit failed k f = absurd (k refl)
  frames_misfit (join fs a e l r) k f = rw f

  value_fits : (q : Tree) (u : Want) → Storable (returned q) → get_or (position_words q) 0 0 ≡ 2 → expects s st.bindings v (waiting q) ≡ some u
      → value_fits_test s st.objects (value_in (word_of (position_words q)) RESULT) u ≡ position_test s st v q
  value_fits (running a e fs) u g k f = absurd (omega arith)
  value_fits (returning x fs) u g k f = rw (f, value_back (RETURNING ∷ 0 ∷ 0 ∷ []) x (length fs ∷ []) g)
  value_fits failed u g k f = absurd (omega arith)
  value_fits (join fs a e l r) u g k f = absurd (omega arith)

  node_fits : (q : Tree) (u : Want) → (get_or (position_words q) 0 0 ≡ 3 → ⊥) → (get_or (position_words q) 0 0 ≡ 2 → ⊥) → expects s st.bindings v (waiting q) ≡ some u
      → node_meets_test s st.bindings (get_or (position_words q) 1 0) (get_or (position_words q) 2 0) u ≡ position_test s st v q
  node_fits (running a e fs) u k l f = rw f
  node_fits (returning x fs) u k l f = absurd (l refl)
  node_fits failed u k l f = absurd (k refl)
  node_fits (join fs a e l r) u k j f = rw f

-- one law for each answer
module _ {s b : List ℕ} (y : ScopedBlock s b) (i : ℕ) (h : i < counted b Positions) (v : Want) (kind : ℕ) (ek : kind ≡ word_in b Positions i 0) where
  abbrev Tests : Bool → Type 0
  Tests m = m ≡ position_test (code_of s) (config_read s b).stores v (place_at s b i)

  kind_is : kind ≡ get_or (position_words (place_at s b i)) 0 0
  kind_is = ek ∙ place_word y i 0 h (omega arith)

  pub place_failed : kind ≡ 3 → Tests true
  place_failed k = failed_fits (code_of s) (config_read s b).stores v (place_at s b i) (sym kind_is ∙ k)

  module _ (k : kind ≡ 3 → ⊥) (from n : ℕ) (begins : from ≡ frames_before b i) (many : n ≡ word_in b Positions i WAITING) (r : CodeOption Want)
      (er : r ≡ expects_of (expects (code_of s) (bindings_in b) v (frames_from s b from n))) where
    answer : r ≡ expects_of (expects (code_of s) (config_read s b).stores.bindings v (waiting (place_at s b i)))
    answer = rw (bindings_read (field_count s) b, ← frames_own y i h from n begins many) er

    pub place_misfit : r ≡ None → Tests false
    place_misfit f =
        frames_misfit (code_of s) (config_read s b).stores v (place_at s b i) (λ z. k (kind_is ∙ z))
        (is_none (expects (code_of s) (config_read s b).stores.bindings v (waiting (place_at s b i))) r answer f)

    module _ (u : Want) (f : r ≡ Some u) where
      wanted : expects (code_of s) (config_read s b).stores.bindings v (waiting (place_at s b i)) ≡ some u
      wanted = is_some (expects (code_of s) (config_read s b).stores.bindings v (waiting (place_at s b i))) r u answer f

      pub place_value : kind ≡ 2 → (x : Value) (m : Bool) → x ≡ value_in (word_in b Positions i) RESULT → m ≡ value_fits_test (code_of s) (config_read s b).stores.objects x u → Tests m
      place_value j x m ex em =
          em
          ∙ ap (λ (v : Value). value_fits_test (code_of s) (config_read s b).stores.objects v u)
          (ex ∙ value_same (word_in b Positions i) (word_of (position_words (place_at s b i))) RESULT (λ n k. place_word y i (RESULT + n) h (omega arith)))
          ∙ value_fits (code_of s) (config_read s b).stores v (place_at s b i) u (place_storable y i h) (sym kind_is ∙ j) wanted

      pub place_node : (kind ≡ 2 → ⊥) → (a e : ℕ) (m : Bool) → a ≡ word_in b Positions i 1 → e ≡ word_in b Positions i 2 → m ≡ node_meets_test (code_of s) (bindings_in b) a e u → Tests m
      place_node j a e m ea ee em =
          em
          ∙ ap (λ (x : List Binding). node_meets_test (code_of s) x a e u) (sym (bindings_read (field_count s) b))
          ∙ ap (λ (x : ℕ). node_meets_test (code_of s) (config_read s b).stores.bindings x e u) (ea ∙ place_word y i 1 h (omega arith))
          ∙ ap (λ (x : ℕ). node_meets_test (code_of s) (config_read s b).stores.bindings (get_or (position_words (place_at s b i)) 1 0) x u) (ee ∙ place_word y i 2 h (omega arith))
          ∙ node_fits (code_of s) (config_read s b).stores v (place_at s b i) u (λ z. k (kind_is ∙ z)) (λ z. j (kind_is ∙ z)) wanted
