-- A run, choice by choice.
use mathlib.Core.Path.{◌≡◌, refl, sym, ap, subst, ◌∙◌}
use mathlib.Core.List.{List, [], ◌∷◌}
use mathlib.Core.Option.{Option, none, some}
use Prim.Native.Nat.{ℕ, suc, ◌+◌, ◌<◌, ◌≤◌}
use native.Mathlib.Omega.{arith}
use lib.ListN.{length, get_or, drop, drop_of_length-le}
use lib.Seq.{drop-cons}
use Rattle.machine.specs.declared.Ending.{Ending}
use Rattle.machine.specs.declared.Want.{Want}
use Rattle.machine.specs.declared.Want.TheVariants.{Upto}
use Rattle.machine.specs.declared.Store.{Store}
use Rattle.machine.specs.declared.Stop.{Stop}
use Rattle.machine.specs.declared.Stop.TheVariants.{Spent, Ended, Full as StopFull}
use Rattle.machine.specs.Config as machine
use Rattle.machine.specs.Config.{code_of, Code, Stores, Config}
use Rattle.machine.specs.Machine.{limits, Outcome, still, full, moved, choice}
use Rattle.machine.specs.WellFormed.{WfConfig, WellFormed}
use Rattle.machine.specs.Runs.{look, Report, stopped, report}
use Rattle.soundness.proofs.Run.{moved_choice}
use Rattle.state.specs.Represents.{Represents}
use Rattle.moves.specs.declared.Effect.{Effect}
use Rattle.moves.specs.declared.Effect.TheVariants.{Still, Moved, Full}
use Rattle.std.specs.declared.option.Option.{Option as CodeOption}
use Rattle.std.specs.declared.option.Option.TheVariants.{Some, None}
use Rattle.std.specs.Option.{MatchOption, IsSomeAnd}
use Rattle.runs.specs.declared.Taken.{Taken}
use Rattle.choices.specs.PerformsChoice.{PerformsChoice, choice_still, choice_full, choice_moved}
use Rattle.enabled.specs.Looks.{Standing, look_of}
use Rattle.runs.specs.Reports.{added, TakenAs, taken_on, taken_stops, RanAs}

-- effects told apart
effect_number : Effect → ℕ
effect_number Still = 0
effect_number Moved = 1
effect_number (Full k) = 2

store_in : Store → Effect → Store
store_in d Still = d
store_in d Moved = d
store_in d (Full k) = k

-- what a look told
pub look_on : (q : Option Ending) (l : CodeOption Ending) → l ≡ look_of q → l ≡ None → q ≡ none
look_on none l e h = refl
look_on (some k) l e h = absurd (let z : ◌≡◌ {A = ℕ} 0 1 = ap told (sym h ∙ e) in omega arith)
  where
    told : CodeOption Ending → ℕ
    told None = 0
    told (Some k) = 1

pub look_ends : (q : Option Ending) (l : CodeOption Ending) (k : Ending) → l ≡ look_of q → l ≡ Some k → q ≡ some k
look_ends none l k e h = absurd (let z : ◌≡◌ {A = ℕ} 0 1 = ap told (sym e ∙ h) in omega arith)
  where
    told : CodeOption Ending → ℕ
    told None = 0
    told (Some k) = 1
look_ends (some j) l k e h = let z : j ≡ k = ap (ending_in j) (sym e ∙ h) in ap some z
  where
    ending_in : Ending → CodeOption Ending → Ending
    ending_in d None = d
    ending_in d (Some k) = k

same_counts : (j : Stop) (c : Config) (a b x y : ℕ) → a ≡ x → b ≡ y → ◌≡◌ {A = Report} (record { stop = j; read = a; moves = b; config = c }) (record { stop = j; read = x; moves = y; config = c })
same_counts j c a b x y h k = rw (h, k)

-- one choice of a run in which something can move
module _ (s : Code) (c : Config) (n : ℕ) (on : look s limits c ≡ none) where
  one_still : choice s limits c n ≡ still → (ns : List ℕ) → report s limits c (n ∷ ns) ≡ added 1 0 (report s limits c ns)
  unfolding report
  one_still e ns = rw (on, e) (same_counts _ _ (suc (report s limits c ns).read) (report s limits c ns).moves (1 + (report s limits c ns).read) (0 + (report s limits c ns).moves) (omega arith) (omega arith))

  one_full : {k : Store} → choice s limits c n ≡ full k → (ns : List ℕ) → report s limits c (n ∷ ns) ≡ record { stop = StopFull k; read = 1; moves = 0; config = c }
  unfolding report
  one_full e ns = rw (on, e)

  one_moved : {st : Stores} {t : machine.Tree} → choice s limits c n ≡ moved st t → (ns : List ℕ) → report s limits c (n ∷ ns) ≡ added 1 1 (report s limits (record { stores = st; tree = t }) ns)
  unfolding report
  one_moved {st} {t} e ns =
      let r = report s limits (record { stores = st; tree = t }) ns in
      rw (on, e) (same_counts _ _ (suc r.read) (suc r.moves) (1 + r.read) (1 + r.moves) (omega arith) (omega arith))

-- a run that has ended
pub ended_report : (s : Code) (c : Config) (k : Ending) (ns : List ℕ) → look s limits c ≡ some k → report s limits c ns ≡ stopped (Ended k) c
unfolding report
ended_report s c k [] e = rw e
ended_report s c k (n ∷ ns) e = rw e

-- the outcome by a name of its own
pub did_as : {s b after : List ℕ} {effect : Effect} (x : Standing s b) (n : ℕ)
    → ((c : Config) (w : Want) → Represents b c → WfConfig (code_of s) w c → PerformsChoice b (choice (code_of s) limits c n) after effect)
    → (o : Outcome) → choice (code_of s) limits x.config n ≡ o → PerformsChoice b o after effect
did_as x n did o e = rw (← e) (did x.config (Upto x.type) x.represents x.formed.formed)

-- the stop by the ending that a look told
abbrev pub EndedBy : CodeOption Ending → CodeOption Stop → Type 0
EndedBy how next = MatchOption how (next ≡ None) (λ k. IsSomeAnd next (λ j. j ≡ Ended k))

-- what a choice did, by the effect that the code sees
module _ {s b after : List ℕ} {effect : Effect} (x : Standing s b) (n : ℕ) (did : (o : Outcome) → choice (code_of s) limits x.config n ≡ o → PerformsChoice b o after effect) where
  pub took_still : look (code_of s) limits x.config ≡ none → effect ≡ Still → TakenAs s after x.type x.config n (record { made = 0; next = None })
  unfolding effect_number
  took_still on e = go (choice (code_of s) limits x.config n) refl (did _ refl) e
    where
      go : {now : List ℕ} {r : Effect} (o : Outcome) → choice (code_of s) limits x.config n ≡ o → PerformsChoice b o now r → r ≡ Still → TakenAs s now x.type x.config n (record { made = 0; next = None })
      go still q choice_still h = taken_on x.represents x.formed on (one_still (code_of s) x.config n on q)
      go (full k) q choice_full h = let z : ◌≡◌ {A = ℕ} 2 0 = ap effect_number h in absurd (omega arith)
      go (moved st t) q (choice_moved i) h = let z : ◌≡◌ {A = ℕ} 1 0 = ap effect_number h in absurd (omega arith)

  pub took_full : (k : Store) → look (code_of s) limits x.config ≡ none → effect ≡ Full k → TakenAs s after x.type x.config n (record { made = 0; next = Some (StopFull k) })
  unfolding effect_number store_in
  took_full k on e = go (choice (code_of s) limits x.config n) refl (did _ refl) e
    where
      go : {now : List ℕ} {r : Effect} (o : Outcome) → choice (code_of s) limits x.config n ≡ o → PerformsChoice b o now r → r ≡ Full k → TakenAs s now x.type x.config n (record { made = 0; next = Some (StopFull k) })
      go still q choice_still h = let z : ◌≡◌ {A = ℕ} 0 2 = ap effect_number h in absurd (omega arith)
      go (full j) q choice_full h = let z : j ≡ k = ap (store_in j) h in taken_stops x.represents (rw z at (one_full (code_of s) x.config n on q))
      go (moved st t) q (choice_moved i) h = let z : ◌≡◌ {A = ℕ} 1 2 = ap effect_number h in absurd (omega arith)

  -- the configuration after a move
  pub record AfterMove : Type 0 where
    pub stores : Stores
    pub threads : machine.Tree
    pub moves : choice (code_of s) limits x.config n ≡ moved stores threads
    pub represents : Represents after (record { stores = stores; tree = threads })

  after_move : effect ≡ Moved → AfterMove
  unfolding effect_number
  after_move e = go (choice (code_of s) limits x.config n) refl after effect (did _ refl) refl e
    where
      go : (o : Outcome) → choice (code_of s) limits x.config n ≡ o → (now : List ℕ) (r : Effect) → PerformsChoice b o now r → now ≡ after → r ≡ Moved → AfterMove
      go still q now r choice_still a h = let z : ◌≡◌ {A = ℕ} 0 1 = ap effect_number h in absurd (omega arith)
      go (full k) q now r choice_full a h = let z : ◌≡◌ {A = ℕ} 2 1 = ap effect_number h in absurd (omega arith)
      go (moved st t) q now r (choice_moved i) a h = record { stores = st; threads = t; moves = q; represents = rw a at i }

  pub moved_standing : effect ≡ Moved → Standing s after
  moved_standing e =
      let m = after_move e in
      record {
        config = record { stores = m.stores; tree = m.threads };
        type = x.type;
        represents = m.represents;
        accepted = x.accepted;
        formed = moved_choice x.accepted limits n x.formed m.moves;
      }

  took_move : look (code_of s) limits x.config ≡ none → (e : effect ≡ Moved) (how : CodeOption Ending) → how ≡ look_of (look (code_of s) limits (moved_standing e).config) → how ≡ None
      → TakenAs s after x.type x.config n (record { made = 1; next = None })
  unfolding moved_standing
  took_move on e how l k =
      let m = after_move e in
      let y = moved_standing e in
      taken_on m.represents y.formed (look_on (look (code_of s) limits y.config) how l k) (one_moved (code_of s) x.config n on m.moves)

  took_last : look (code_of s) limits x.config ≡ none → (e : effect ≡ Moved) (how : CodeOption Ending) (j : Ending) → how ≡ look_of (look (code_of s) limits (moved_standing e).config) → how ≡ Some j
      → TakenAs s after x.type x.config n (record { made = 1; next = Some (Ended j) })
  unfolding moved_standing
  took_last on e how j l k =
      let m = after_move e in
      let y = moved_standing e in
      let q = look_ends (look (code_of s) limits y.config) how j l k in
      taken_stops m.represents
      (λ ns. one_moved (code_of s) x.config n on m.moves ns ∙ ap (added 1 1) (ended_report (code_of s) y.config j ns q) ∙ same_counts _ _ (1 + 0) (1 + 0) 1 1 refl refl)

  -- the stop that the look after a move calls for
  pub took_moved : look (code_of s) limits x.config ≡ none → (e : effect ≡ Moved) (how : CodeOption Ending) (next : CodeOption Stop) → how ≡ look_of (look (code_of s) limits (moved_standing e).config)
      → EndedBy how next → TakenAs s after x.type x.config n (record { made = 1; next = next })
  took_moved on e None next l h = rw h (took_move on e None l refl)
  took_moved on e (Some k) None l h = absurd h
  took_moved on e (Some k) (Some j) l h = rw h (took_last on e (Some k) k l refl)

spent_report : (s : Code) (c : Config) → look s limits c ≡ none → report s limits c [] ≡ stopped Spent c
unfolding report
spent_report s c e = rw e

next_number : CodeOption Stop → ℕ
next_number None = 0
next_number (Some k) = 1

stop_in : Stop → CodeOption Stop → Stop
stop_in d None = d
stop_in d (Some k) = k

-- A run that has read so many choices and made so many moves, and goes on.
pub record Going (s b : List ℕ) (t : ℕ) (c : Config) (ns : List ℕ) (read moves : ℕ) : Type 0 where
  pub config : Config
  pub represents : Represents b config
  pub formed : WellFormed (code_of s) limits t config
  pub on : look (code_of s) limits config ≡ none
  pub rest : report (code_of s) limits c ns ≡ added read moves (report (code_of s) limits config (drop read ns))

-- what holds in the loop
pub record Loop (s b₀ ns b : List ℕ) (read moves : ℕ) : Type 0 where
  pub going : (x : Standing s b₀) → Going s b x.type x.config ns read moves
  pub few : read ≤ length ns
  pub fewer : moves ≤ read

-- one choice more: the run stops with it, or goes on
module _ {s after : List ℕ} {t : ℕ} (c d : Config) (ns : List ℕ) (read moves : ℕ)
    (so_far : report (code_of s) limits c ns ≡ added read moves (report (code_of s) limits d (get_or ns read 0 ∷ drop (suc read) ns))) where
  stops : {taken : Taken} {stop : Stop} → TakenAs s after t d (get_or ns read 0) taken → taken.next ≡ Some stop
      → RanAs (report (code_of s) limits c ns) after (record { stop = stop; read = read + 1; moves = moves + taken.made })
  unfolding next_number stop_in
  stops (taken_on represents formed on rep) e = let z : ◌≡◌ {A = ℕ} 0 1 = ap next_number e in absurd (omega arith)
  stops (taken_stops {stop = j} represents rep) e =
      rw (so_far ∙ ap (added read moves) (rep (drop (suc read) ns)))
      (record { stop = sym (ap (stop_in j) e); read = refl; moves = refl; represents = represents })

  goes : {taken : Taken} → TakenAs s after t d (get_or ns read 0) taken → taken.next ≡ None → Going s after t c ns (read + 1) (moves + taken.made)
  unfolding next_number
  goes (taken_on {made = made} {d = f} represents formed on rep) e =
      let n : read + 1 ≡ suc read = omega arith in
      let r = report (code_of s) limits f (drop (suc read) ns) in
      record {
        config = f;
        represents = represents;
        formed = formed;
        on = on;
        rest = so_far ∙ ap (added read moves) (rep (drop (suc read) ns))
            ∙ same_counts r.stop r.config (read + (1 + r.read)) (moves + (made + r.moves)) (read + 1 + r.read) (moves + made + r.moves) (omega arith) (omega arith)
            ∙ ap (λ (k : ℕ). added (read + 1) (moves + made) (report (code_of s) limits f (drop k ns))) (sym n);
      }
  goes (taken_stops {stop = j} represents rep) e = let z : ◌≡◌ {A = ℕ} 1 0 = ap next_number e in absurd (omega arith)

module _ {s b₀ ns : List ℕ} where
  pub loop_begun : ((x : Standing s b₀) → look (code_of s) limits x.config ≡ none) → Loop s b₀ ns b₀ 0 0
  loop_begun on =
      record {
        going = λ x. record { config = x.config; represents = x.represents; formed = x.formed; on = on x; rest = same_counts _ _ _ _ _ _ (omega arith) (omega arith) };
        few = omega arith;
        fewer = omega arith;
      }

  module _ {b : List ℕ} {read moves : ℕ} (h : Loop s b₀ ns b read moves) where
    pub loop_standing : Standing s b₀ → Standing s b
    loop_standing x = let g = h.going x in record { config = g.config; type = x.type; represents = g.represents; accepted = x.accepted; formed = g.formed }

    module _ {after : List ℕ} {taken : Taken} (more : read < length ns) (one : taken.made ≤ 1) (n : ℕ) (is : n ≡ get_or ns read 0)
        (did : (y : Standing s b) → look (code_of s) limits y.config ≡ none → TakenAs s after y.type y.config n taken) where
      did_read : (y : Standing s b) → look (code_of s) limits y.config ≡ none → TakenAs s after y.type y.config (get_or ns read 0) taken
      did_read y on = subst (λ (k : ℕ). TakenAs s after y.type y.config k taken) is (did y on)

      split : (x : Standing s b₀) → report (code_of s) limits x.config ns ≡ added read moves (report (code_of s) limits (h.going x).config (get_or ns read 0 ∷ drop (suc read) ns))
      split x = (h.going x).rest ∙ ap (λ (l : List ℕ). added read moves (report (code_of s) limits (h.going x).config l)) (drop-cons ns read 0 more)

      pub loop_stops : (stop : Stop) → taken.next ≡ Some stop → (x : Standing s b₀)
          → RanAs (report (code_of s) limits x.config ns) after (record { stop = stop; read = read + 1; moves = moves + taken.made })
      unfolding loop_standing
      loop_stops stop e x = stops x.config (h.going x).config ns read moves (split x) (did_read (loop_standing x) (h.going x).on) e

      pub loop_more : taken.next ≡ None → Loop s b₀ ns after (read + 1) (moves + taken.made)
      unfolding loop_standing
      loop_more e = record { going = λ x. goes x.config (h.going x).config ns read moves (split x) (did_read (loop_standing x) (h.going x).on) e; few = omega arith; fewer = omega (arith, h.fewer) }

    pub loop_spent : length ns ≤ read → (x : Standing s b₀) → RanAs (report (code_of s) limits x.config ns) b (record { stop = Spent; read = read; moves = moves })
    loop_spent l x =
        let g = h.going x in
        let none_left : drop read ns ≡ [] = drop_of_length-le ns {i = read} l in
        let r = g.rest ∙ ap (λ (m : List ℕ). added read moves (report (code_of s) limits g.config m)) none_left ∙ ap (added read moves) (spent_report (code_of s) g.config g.on) in
        rw r (record { stop = refl; read = omega arith; moves = omega arith; represents = g.represents })

-- a run that has ended before it reads a choice
pub ended_first : {s b : List ℕ} (x : Standing s b) (ns : List ℕ) (how : CodeOption Ending) (k : Ending) → how ≡ look_of (look (code_of s) limits x.config) → how ≡ Some k
    → RanAs (report (code_of s) limits x.config ns) b (record { stop = Ended k; read = 0; moves = 0 })
ended_first {s} x ns how k e h =
    rw (ended_report (code_of s) x.config k ns (look_ends (look (code_of s) limits x.config) how k e h)) (record { stop = refl; read = refl; moves = refl; represents = x.represents })
