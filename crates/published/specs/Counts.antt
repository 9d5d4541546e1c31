-- Request 6: "the exact number of silent moves before its next published step, wait or finish, assuming no store fills".
use Rattle.std.specs.Prelude.{ℕ, ◌+◌, ◌<◌, ◌≤◌, ◌≡◌, false, List, [], ◌⊎◌, replicate}
use Rattle.std.proofs.Math.Option.{some}
use Rattle.machine.specs.declared.Store.{Store}
use Rattle.machine.specs.declared.Store.TheVariants.{Frames}
use Rattle.machine.specs.declared.Stop.TheVariants.{Full}
use Rattle.machine.specs.declared.Frame.{Frame}
use Rattle.machine.specs.Config.{Code, Stores, Tree, Config}
use Rattle.machine.specs.Machine.{Places, spare, frame_count, moved, Path, move, part, At}
use Rattle.machine.specs.Ends.{Waits, FinishedThread}
use Rattle.machine.specs.FullStore.{ShortAt}
use Rattle.machine.specs.Silent.{quiet_in}
use Rattle.machine.specs.Runs.{report}
use Rattle.published.specs.ReadAs.{reading, Steps}
use Rattle.published.specs.Reach.{site, Quietly}

-- "its next published step, wait or finish": how the thread at p stands once its move due is not silent.
pub data NextDue (s : Code) (lim : Places) (c : Config) (p : Path) : Type 0 where
  -- its next move is one published step, made there
  next_step : {st : Stores} {t : Tree} → move s lim c p ≡ moved st t
      → (k : Steps s.program (reading s c) (reading s (record { stores = st; tree = t }))) → site k ≡ p → NextDue s lim c p
  -- or would be, but for a store that has too few places left for it
  next_full : {j : Store} → ShortAt s (spare lim c.stores c.tree) c.stores c.tree p j → NextDue s lim c p
  -- it waits at a lock
  next_wait : {o : ℕ} {above : List Frame} {u : Tree} → At [] c.tree p above u → Waits s c.stores above o u → NextDue s lim c p
  -- it has finished
  next_finish : {u : Tree} → part c.tree p ≡ some u → FinishedThread u → NextDue s lim c p

-- What n choices of position k, which is the place p, do in one run from c, where n is the count of the thread there.
pub record CountedRow (s : Code) (lim : Places) (c : Config) (k : ℕ) (p : Path) (n : ℕ) : Type 0 where
  pub made : ℕ
  pub after : Config
  -- so many silent moves of that thread, and no other move
  pub quietly : Quietly s lim c (replicate made k) (replicate made p) after
  pub moves : (report s lim c (replicate n k)).moves ≡ made
  pub leaves : (report s lim c (replicate n k)).config ≡ after
  -- all n, and then its move due is not silent; or fewer, since a frame has no place left
  pub ends : ((made ≡ n) × (quiet_in s (part after.tree p) ≡ false) × NextDue s lim after p)
      ⊎ ((made < n) × ((report s lim c (replicate n k)).stop ≡ Full Frames))
  -- "assuming no store fills": with room for as many frames it is all n
  pub room : frame_count c.tree + n ≤ lim.frames → made ≡ n
