-- A run makes the moves that its choices name, keeps the configuration well formed, and has ended exactly where nothing can move.
use Prim.Native.Nat.{ℕ, zero, suc, ◌+◌, ◌≤◌, ◌<◌}
use native.Mathlib.Omega.{arith}
use native.Mathlib.Decide.{ℕ_discrete, dec_lt}
use mathlib.Core.Path.{◌≡◌, refl, ◌∙◌, ap}
use mathlib.Core.Bool.{Bool, true, false, cond}
use mathlib.Core.List.{List, [], ◌∷◌, ◌++◌}
use mathlib.Core.Option.{Option, none, some}
use mathlib.Core.Logic.{◌⊎◌, inl, inr, ⊎_elim}
use lib.ListN.{length}
use Rattle.machine.specs.declared.Store.{Store}
use Rattle.machine.specs.declared.Ending.{Ending}
use Rattle.machine.specs.declared.Stop.{Stop}
use Rattle.machine.specs.declared.Stop.TheVariants.{Spent, Ended, Full}
use Rattle.machine.specs.Config.{Code, Stores, Tree, running, returning, failed, join, Config}
use Rattle.machine.specs.Machine.{Places, Outcome, still, full, moved, Phase, finished, broken, busy, phase, Path, here, move, size, locate, chosen, choice, able}
use Rattle.machine.specs.WellFormed.{WellFormed}
use Rattle.machine.specs.Accepted.{AcceptedCode}
use Rattle.machine.specs.Ends.{ending, End}
use Rattle.machine.specs.Runs.{any_able, look, Report, stopped, passed, made, unless, follow, spent_unless, report, Runs, ends, spends, passes, makes, fills, CanMove, StopMeans, spent, at_end, no_places, Leaves, LastFull, onto}
use Rattle.machine.specs.Promise.{Kept}
use Rattle.machine.proofs.Positions.{size_some, outside}
use Rattle.soundness.proofs.Trees.{preservation, growth}
use Rattle.soundness.proofs.Ends.{seen_end}
use Rattle.soundness.proofs.Positions.{ended}
use Rattle.soundness.proofs.Within.{within}

-- a tree with one position
one_position : (t : Tree) (n : ℕ) → size t ≡ 1 → (locate t n ≡ some here) ⊎ (locate t n ≡ none)
one_position (running a e fs) zero h = inl refl
one_position (running a e fs) (suc n) h = inr refl
one_position (returning v fs) zero h = inl refl
one_position (returning v fs) (suc n) h = inr refl
one_position failed zero h = inl refl
one_position failed (suc n) h = inr refl
one_position (join fs a e l r) n h = absurd (omega (arith, size_some l))

-- a report with other counts
same_report : (j : Stop) (c : Config) (k l m n : ℕ) → k ≡ l → m ≡ n → ◌≡◌ {A = Report} (record { stop = j; read = k; moves = m; config = c }) (record { stop = j; read = l; moves = n; config = c })
same_report j c k l m n p q = λ i. record { stop = j; read = p i; moves = q i; config = c }

module _ (s : Code) (lim : Places) where
  -- what the test of all positions says
  none_able : (c : Config) (k : ℕ) → any_able s lim c k ≡ false → (n : ℕ) → n < k → choice s lim c n ≡ still
  none_able c zero h n l = absurd (omega arith)
  none_able c (suc k) h n l = go (choice s lim c k) refl h (ℕ_discrete n k) (none_able c k)
    where
      go : (o : Outcome) → choice s lim c k ≡ o → cond (able o) true (any_able s lim c k) ≡ false → Dec (n ≡ k)
          → (any_able s lim c k ≡ false → (i : ℕ) → i < k → choice s lim c i ≡ still) → choice s lim c n ≡ still
      go still e q (yes i) rec = ap (choice s lim c) i ∙ e
      go still e q (no i) rec = rec q n (omega arith)
      go (full j) e q i rec = absurd (let z : ◌≡◌ {A = ℕ} 0 1 = cc in omega arith)
      go (moved st t) e q i rec = absurd (let z : ◌≡◌ {A = ℕ} 0 1 = cc in omega arith)

  pub able_moves : (o : Outcome) → able o ≡ true → o ≡ still → ⊥
  able_moves o h e = let z : ◌≡◌ {A = ℕ} 0 1 = cc (ap able e) in omega arith

  some_able : (c : Config) (k : ℕ) → any_able s lim c k ≡ true → CanMove s lim c
  some_able c zero h = absurd (let z : ◌≡◌ {A = ℕ} 0 1 = cc in omega arith)
  some_able c (suc k) h = go (choice s lim c k) refl h (some_able c k)
    where
      go : (o : Outcome) → choice s lim c k ≡ o → cond (able o) true (any_able s lim c k) ≡ true → (any_able s lim c k ≡ true → CanMove s lim c) → CanMove s lim c
      go still e q rec = rec q
      go (full j) e q rec = record { position = k; can = able_moves (choice s lim c k) (ap able e) }
      go (moved st t) e q rec = record { position = k; can = able_moves (choice s lim c k) (ap able e) }

  -- where the root is a finished or a failed thread, nothing can move
  still_root : (c : Config) → size c.tree ≡ 1 → move s lim c here ≡ still → (n : ℕ) → choice s lim c n ≡ still
  unfolding choice
  still_root c z h n = ⊎_elim (λ e. ap (chosen s lim c) e ∙ h) (λ e. ap (chosen s lim c) e) (one_position c.tree n z)

  finished_still : (st : Stores) (t : Tree) → phase t ≡ finished → (n : ℕ) → choice s lim (record { stores = st; tree = t }) n ≡ still
  unfolding move
  finished_still st (running a e fs) h n = absurd (let z : ◌≡◌ {A = ℕ} 0 1 = cc in omega arith)
  finished_still st (returning v []) h n = still_root (record { stores = st; tree = returning v [] }) refl refl n
  finished_still st (returning v (f ∷ fs)) h n = absurd (let z : ◌≡◌ {A = ℕ} 0 1 = cc in omega arith)
  finished_still st failed h n = absurd (let z : ◌≡◌ {A = ℕ} 0 1 = cc in omega arith)
  finished_still st (join fs a e l r) h n = absurd (let z : ◌≡◌ {A = ℕ} 0 1 = cc in omega arith)

  failed_still : (st : Stores) (t : Tree) → phase t ≡ broken → (n : ℕ) → choice s lim (record { stores = st; tree = t }) n ≡ still
  unfolding move
  failed_still st (running a e fs) h n = absurd (let z : ◌≡◌ {A = ℕ} 0 1 = cc in omega arith)
  failed_still st (returning v []) h n = absurd (let z : ◌≡◌ {A = ℕ} 0 1 = cc in omega arith)
  failed_still st (returning v (f ∷ fs)) h n = absurd (let z : ◌≡◌ {A = ℕ} 0 1 = cc in omega arith)
  failed_still st failed h n = still_root (record { stores = st; tree = failed }) refl refl n
  failed_still st (join fs a e l r) h n = absurd (let z : ◌≡◌ {A = ℕ} 0 1 = cc in omega arith)

  -- a choice beyond the positions is no move
  absent : (c : Config) (n : ℕ) → size c.tree ≤ n → choice s lim c n ≡ still
  unfolding choice
  absent c n h = ap (chosen s lim c) (outside c.tree n h)

  pub beyond : (c : Config) → ((n : ℕ) → n < size c.tree → choice s lim c n ≡ still) → (n : ℕ) → choice s lim c n ≡ still
  beyond c h n = go (dec_lt n (size c.tree))
    where
      go : Dec (n < size c.tree) → choice s lim c n ≡ still
      go (yes k) = h n k
      go (no k) = absent c n (omega arith)

  -- Where a position can move, the run has not ended.
  pub able_look : (c : Config) (n : ℕ) → (choice s lim c n ≡ still → ⊥) → look s lim c ≡ none
  unfolding look
  able_look c n h = go (phase c.tree) refl (any_able s lim c (size c.tree)) refl
    where
      go : (p : Phase) → phase c.tree ≡ p → (q : Bool) → any_able s lim c (size c.tree) ≡ q → ending p q ≡ none
      go finished e q k = absurd (h (finished_still c.stores c.tree e n))
      go broken e q k = absurd (h (failed_still c.stores c.tree e n))
      go busy e true k = refl
      go busy e false k = absurd (h (beyond c (none_able c (size c.tree) k) n))

  -- A run does what its choices name, and nothing else can be said of it.
  runs_none : (c : Config) (o : Option Ending) → look s lim c ≡ o → Runs s lim c [] (stopped (spent_unless o) c)
  runs_none c none e = spends e
  runs_none c (some k) e = ends e

  runs_some : (c : Config) (n : ℕ) (ns : List ℕ) → ((d : Config) → Runs s lim d ns (report s lim d ns)) → look s lim c ≡ none → (o : Outcome) → choice s lim c n ≡ o
      → Runs s lim c (n ∷ ns) (follow c (λ e. report s lim e ns) o)
  runs_some c n ns rec l still e = passes l e (rec c)
  runs_some c n ns rec l (full k) e = fills l e
  runs_some c n ns rec l (moved st t) e = makes l e (rec _)

  runs_unless : (c : Config) (n : ℕ) (ns : List ℕ) → ((d : Config) → Runs s lim d ns (report s lim d ns)) → (o : Option Ending) → look s lim c ≡ o
      → Runs s lim c (n ∷ ns) (unless o c (λ d. follow d (λ e. report s lim e ns) (choice s lim d n)))
  runs_unless c n ns rec none e = runs_some c n ns rec e (choice s lim c n) refl
  runs_unless c n ns rec (some k) e = ends e

  pub run_runs : (ns : List ℕ) (c : Config) → Runs s lim c ns (report s lim c ns)
  unfolding report
  run_runs [] c = runs_none c (look s lim c) refl
  run_runs (n ∷ ns) c = runs_unless c n ns (run_runs ns) (look s lim c) refl

  ends_report : (ns : List ℕ) (c : Config) (k : Ending) → look s lim c ≡ some k → report s lim c ns ≡ stopped (Ended k) c
  unfolding report
  ends_report [] c k e = rw e
  ends_report (n ∷ ns) c k e = rw e

  pub runs_report : {ns : List ℕ} {c : Config} {r : Report} → Runs s lim c ns r → report s lim c ns ≡ r
  unfolding report
  runs_report (ends {c = c} {ns = ns} {k = k} e) = ends_report ns c k e
  runs_report (spends e) = rw e
  runs_report (passes l e h) = rw (l, e) (ap passed (runs_report h))
  runs_report (makes l e h) = rw (l, e) (ap made (runs_report h))
  runs_report (fills l e) = rw (l, e)

  -- Where a run stops before its choices are spent, more choices change nothing.
  runs_same : {ns : List ℕ} {c : Config} {r : Report} (ms : List ℕ) → Runs s lim c ns r → (r.stop ≡ Spent → ⊥) → Runs s lim c (ns ++ ms) r
  runs_same ms (ends e) k = ends e
  runs_same ms (spends e) k = absurd (k refl)
  runs_same ms (passes l e h) k = passes l e (runs_same ms h k)
  runs_same ms (makes l e h) k = makes l e (runs_same ms h k)
  runs_same ms (fills l e) k = fills l e

  pub run_same : (ns ms : List ℕ) (c : Config) → ((report s lim c ns).stop ≡ Spent → ⊥) → report s lim c (ns ++ ms) ≡ report s lim c ns
  run_same ns ms c h = runs_report (runs_same ms (run_runs ns c) h)

  -- The full store that a run stops with is the one which the last choice read met.
  runs_full : {ns : List ℕ} {c : Config} {r : Report} {k : Store} → Runs s lim c ns r → r.stop ≡ Full k → LastFull s lim c ns r k
  unfolding report
  runs_full (ends e) z = absurd (let z : ◌≡◌ {A = ℕ} 0 1 = cc in omega arith)
  runs_full (spends e) z = absurd (let z : ◌≡◌ {A = ℕ} 0 1 = cc in omega arith)
  runs_full (passes {n = n} l e h) z =
      let q = runs_full h z in
      record { before = n ∷ q.before; last = q.last; after = q.after; split = ap (λ (x : List ℕ). n ∷ x) q.split; count = ap suc q.count; met = rw (l, e) q.met }
  runs_full (makes {n = n} l e h) z =
      let q = runs_full h z in
      record { before = n ∷ q.before; last = q.last; after = q.after; split = ap (λ (x : List ℕ). n ∷ x) q.split; count = ap suc q.count; met = rw (l, e) q.met }
  runs_full (fills {n = n} {ns = ns} l e) z = record { before = []; last = n; after = ns; split = refl; count = refl; met = cc }

  pub last_full : (ns : List ℕ) (c : Config) {k : Store} → (report s lim c ns).stop ≡ Full k → LastFull s lim c ns (report s lim c ns) k
  last_full ns c z = runs_full (run_runs ns c) z

  -- Where the first choices are spent, all of them are read, and the run with more choices is the one with the rest on what they left, the counts added.
  runs_all : {ns : List ℕ} {c : Config} {r : Report} → Runs s lim c ns r → r.stop ≡ Spent → r.read ≡ length ns
  runs_all (ends e) z = absurd (let z : ◌≡◌ {A = ℕ} 0 1 = cc in omega arith)
  runs_all (spends e) z = refl
  runs_all (passes l e k) z = ap suc (runs_all k z)
  runs_all (makes l e k) z = ap suc (runs_all k z)
  runs_all (fills l e) z = absurd (let z : ◌≡◌ {A = ℕ} 0 1 = cc in omega arith)

  pub run_all : (ns : List ℕ) (c : Config) → (report s lim c ns).stop ≡ Spent → (report s lim c ns).read ≡ length ns
  run_all ns c z = runs_all (run_runs ns c) z

  runs_more : {ns : List ℕ} {c : Config} {r : Report} (ms : List ℕ) → Runs s lim c ns r → r.stop ≡ Spent → report s lim c (ns ++ ms) ≡ onto r (report s lim r.config ms)
  unfolding report
  runs_more ms (ends e) z = absurd (let z : ◌≡◌ {A = ℕ} 0 1 = cc in omega arith)
  runs_more ms (spends {c = c} e) z = let q = report s lim c ms in same_report q.stop q.config q.read (0 + q.read) q.moves (0 + q.moves) (omega arith) (omega arith)
  runs_more ms (passes {r = r} l e k) z =
      let q = report s lim r.config ms in
      rw (l, e) (ap passed (runs_more ms k z) ∙ same_report q.stop q.config _ _ _ _ (omega arith) refl)
  runs_more ms (makes {r = r} l e k) z =
      let q = report s lim r.config ms in
      rw (l, e) (ap made (runs_more ms k z) ∙ same_report q.stop q.config _ _ _ _ (omega arith) (omega arith))
  runs_more ms (fills l e) z = absurd (let z : ◌≡◌ {A = ℕ} 0 1 = cc in omega arith)

  pub run_more : (ns ms : List ℕ) (c : Config) → (report s lim c ns).stop ≡ Spent → report s lim c (ns ++ ms) ≡ onto (report s lim c ns) (report s lim (report s lim c ns).config ms)
  run_more ns ms c z = runs_more ms (run_runs ns c) z

  -- And where the last choice read met a full store, the run stops with it, that move not made.
  runs_read : {ns : List ℕ} {c : Config} {r : Report} → Runs s lim c ns r → r.read ≤ length ns
  runs_read (ends e) = omega arith
  runs_read (spends e) = omega arith
  runs_read (passes l e h) = omega (arith, runs_read h)
  runs_read (makes l e h) = omega (arith, runs_read h)
  runs_read (fills l e) = omega arith

  pub run_read : (ns : List ℕ) (c : Config) → (report s lim c ns).read ≤ length ns
  run_read ns c = runs_read (run_runs ns c)

  pub full_report : (n : ℕ) (ns : List ℕ) (c : Config) (k : Store) → choice s lim c n ≡ full k → report s lim c (n ∷ ns) ≡ passed (stopped (Full k) c)
  unfolding report
  full_report n ns c k e = rw (able_look c n (λ i. let z : ◌≡◌ {A = ℕ} 0 1 = cc in omega arith), e) refl

  too_few : (before rest : List ℕ) (c : Config) → ((report s lim c before).stop ≡ Spent → ⊥) → (report s lim c (before ++ rest)).read ≡ suc (length before) → ⊥
  too_few before rest c n m = omega (arith, m, runs_read (run_runs before c), ap (λ (r : Report). r.read) (run_same before rest c n))

  met_full : (before after : List ℕ) (last : ℕ) (c : Config) (k : Store) (j : Stop) → (report s lim c before).stop ≡ j → (report s lim c (before ++ (last ∷ after))).read ≡ suc (length before)
      → choice s lim (report s lim c before).config last ≡ full k → report s lim c (before ++ (last ∷ after)) ≡ onto (report s lim c before) (passed (stopped (Full k) (report s lim c before).config))
  met_full before after last c k Spent z m e =
      run_more before (last ∷ after) c z ∙ ap (λ (q : Report). onto (report s lim c before) q) (full_report last after (report s lim c before).config k e)
  met_full before after last c k (Ended i) z m e = absurd (too_few before (last ∷ after) c (λ y. let z : ◌≡◌ {A = ℕ} 0 1 = cc in omega arith) m)
  met_full before after last c k (Full i) z m e = absurd (too_few before (last ∷ after) c (λ y. let z : ◌≡◌ {A = ℕ} 0 1 = cc in omega arith) m)

  pub full_last : {ns : List ℕ} {c : Config} {k : Store} (x : LastFull s lim c ns (report s lim c ns) k)
      → report s lim c ns ≡ onto (report s lim c x.before) (passed (stopped (Full k) (report s lim c x.before).config))
  full_last {ns} {c} {k} x = go ns x.split x.count
    where
      go : (ms : List ℕ) → ms ≡ x.before ++ (x.last ∷ x.after) → (report s lim c ms).read ≡ suc (length x.before)
          → report s lim c ms ≡ onto (report s lim c x.before) (passed (stopped (Full k) (report s lim c x.before).config))
      go ms e m = rw e (met_full x.before x.after x.last c k (report s lim c x.before).stop refl (rw e at m) x.met)

module _ {s : Code} {start : ℕ} (acc : AcceptedCode s start) (lim : Places) where
  -- Every choice that moves keeps a configuration well formed.
  pub moved_choice : {c : Config} (n : ℕ) {st : Stores} {t : Tree} → WellFormed s lim start c → choice s lim c n ≡ moved st t → WellFormed s lim start (record { stores = st; tree = t })
  unfolding choice
  moved_choice {c} n {st} {t} h e = go (locate c.tree n) e
    where
      go : (q : Option Path) → chosen s lim c q ≡ moved st t → WellFormed s lim start (record { stores = st; tree = t })
      go none i = absurd (let z : ◌≡◌ {A = ℕ} 0 1 = cc in omega arith)
      go (some p) i = record { formed = preservation acc lim h.formed p i; within = within lim s c p h.within i }

  -- and keeps every object and binding.
  pub moved_keeps : {c : Config} (n : ℕ) {st : Stores} {t : Tree} → WellFormed s lim start c → choice s lim c n ≡ moved st t → Kept c (record { stores = st; tree = t })
  unfolding choice
  moved_keeps {c} n {st} {t} h e = go (locate c.tree n) e
    where
      go : (q : Option Path) → chosen s lim c q ≡ moved st t → Kept c (record { stores = st; tree = t })
      go none i = absurd (let z : ◌≡◌ {A = ℕ} 0 1 = cc in omega arith)
      go (some p) i = let g = growth acc lim h.formed p i in record { added = g.added; there = g.grown; objects = g.objects }

  ending_holds : {c : Config} → WellFormed s lim start c → (p : Phase) → phase c.tree ≡ p → (q : Bool) → any_able s lim c (size c.tree) ≡ q → StopMeans s lim c (spent_unless (ending p q))
  ending_holds {c} h finished e q k =
      let n = finished_still s lim c.stores c.tree e in
      at_end (seen_end (rw e at (ended acc lim h.formed (λ i l. n i)))) n
  ending_holds {c} h broken e q k =
      let n = failed_still s lim c.stores c.tree e in
      at_end (seen_end (rw e at (ended acc lim h.formed (λ i l. n i)))) n
  ending_holds {c} h busy e true k = spent (some_able s lim c (size c.tree) k)
  ending_holds {c} h busy e false k =
      let n = none_able s lim c (size c.tree) k in
      at_end (seen_end (rw e at (ended acc lim h.formed n))) (λ i. beyond s lim c n i)

  pub look_holds : (c : Config) → WellFormed s lim start c → StopMeans s lim c (spent_unless (look s lim c))
  unfolding look
  look_holds c h = ending_holds h (phase c.tree) refl (any_able s lim c (size c.tree)) refl

  runs_leaves : {ns : List ℕ} {c : Config} {r : Report} → Runs s lim c ns r → WellFormed s lim start c → Leaves s lim start r
  runs_leaves (ends {c = c} e) h = record { formed = h; means = rw e at (look_holds c h) }
  runs_leaves (spends {c = c} e) h = record { formed = h; means = rw e at (look_holds c h) }
  runs_leaves (passes l e k) h = let q = runs_leaves k h in record { formed = q.formed; means = q.means }
  runs_leaves (makes {n = n} l e k) h = let q = runs_leaves k (moved_choice n h e) in record { formed = q.formed; means = q.means }
  runs_leaves (fills {n = n} l e) h = record { formed = h; means = no_places n e }

  -- A run from a well-formed configuration leaves one, and has spent its choices where a position can move, or has come to one of the three ends, where none can, or stops
  -- where a move that is due finds a full store. With the first choices of a list: "A point between moves of a Run is the block that it would leave with only its first n choices".
  pub run_leaves : (ns : List ℕ) (c : Config) → WellFormed s lim start c → Leaves s lim start (report s lim c ns)
  run_leaves ns c h = runs_leaves (run_runs s lim ns c) h

-- A run has ended exactly where nothing can move.
pub stopped_still : {s : Code} {lim : Places} {c : Config} {k : Ending} → StopMeans s lim c (Ended k) → End s c k × ((n : ℕ) → choice s lim c n ≡ still)
stopped_still (at_end e n) = (e, n)

pub still_stopped : {s : Code} {lim : Places} {c : Config} {j : Stop} → StopMeans s lim c j → ((n : ℕ) → choice s lim c n ≡ still) → (k : Ending) × (j ≡ Ended k)
still_stopped (spent k) n = absurd (k.can (n k.position))
still_stopped (at_end {k = k} e n) m = (k, refl)
still_stopped {s} {lim} {c} (no_places n e) m = absurd (let p : choice s lim c n ≡ still = m n in let z : ◌≡◌ {A = ℕ} 0 1 = cc in omega arith)
