-- Published steps are reached: for each there is one Run that makes silent moves and then that step, all at its place, unless a store is full for one of them.
use Prim.Native.Nat.{ℕ, zero, suc, ◌+◌, ◌*◌, ◌≤◌, ◌<◌}
use native.Mathlib.Omega.{arith}
use mathlib.Core.Path.{◌≡◌, refl, ◌∙◌, ap}
use mathlib.Core.Bool.{Bool, true, false, cond}
use mathlib.Core.List.Memᴰ
use mathlib.Core.List.{List, [], ◌∷◌, ◌++◌}
use mathlib.Core.Logic.{◌⊎◌, inl, inr, ⊎_elim}
use mathlib.Core.Option.{none, some}
use lib.ListN.{length}
use Rattle.script.specs.Lists.{◌∈◌}
use Rattle.machine.specs.declared.Store.{Store}
use Rattle.machine.specs.declared.Stop.TheVariants.{Full}
use Rattle.machine.specs.Config.{Code, Stores, Tree, Config}
use Rattle.machine.specs.Machine.{Places, Outcome, still, full, moved, Path, spare, move, locate, chosen, choice, part}
use Rattle.machine.specs.WellFormed.{WellFormed}
use Rattle.machine.specs.Accepted.{AcceptedCode}
use Rattle.published.specs.ReadAs.{Reading, reading, Steps}
use Rattle.published.specs.Means.{Means, silently}
use Rattle.machine.specs.Silent.{due, quiet_in, same_place}
use Rattle.machine.specs.Runs.{look, Report, passed, made, report, stopped, Runs, makes, fills}
use Rattle.published.specs.Reach.{visits, Quietly, no_choice, a_choice, site, Near, OneRun}
use Rattle.soundness.proofs.Trees.{preservation}
use Rattle.soundness.proofs.Positions.{positions, move_located}
use Rattle.published.proofs.Steps.{moves_published}
use Rattle.soundness.proofs.Within.{within}
use Rattle.soundness.proofs.Run.{able_look, run_runs, runs_report}
use Rattle.soundness.proofs.Silent.{due_told, on_node, move_counts, others_due, same_place_lem}
use Rattle.published.proofs.Reach.{Silently, at_once, after, Landed, Reached, reach}

moved_still : {st : Stores} {t : Tree} → moved st t ≡ still → ⊥
moved_still e = let z : ◌≡◌ {A = ℕ} 0 1 = cc in omega arith

full_still : {k : Store} → full k ≡ still → ⊥
full_still e = let z : ◌≡◌ {A = ℕ} 0 1 = cc in omega arith

-- what is made by the choices before
made_by : ℕ → Report → Report
made_by zero r = r
made_by (suc n) r = made (made_by n r)

by_stop : (n : ℕ) (r : Report) → (made_by n r).stop ≡ r.stop
unfolding made_by
by_stop zero r = refl
by_stop (suc n) r = by_stop n r

by_config : (n : ℕ) (r : Report) → (made_by n r).config ≡ r.config
unfolding made_by
by_config zero r = refl
by_config (suc n) r = by_config n r

by_moves : (n : ℕ) (r : Report) → (made_by n r).moves ≡ n + r.moves
unfolding made_by
by_moves zero r = omega arith
by_moves (suc n) r = omega (arith, by_moves n r)

means_nothing : {s : Code} {c d : Config} → Means s c d true → reading s d ≡ reading s c
means_nothing (silently e h) = h

-- the position of a place that can move, and the choice of it
record Chosen (s : Code) (lim : Places) (c : Config) (p : Path) : Type 0 where
  position : ℕ
  there : locate c.tree position ≡ some p
  small : position + 1 < 2 * lim.threads
  look : look s lim c ≡ none
  choice : choice s lim c position ≡ move s lim c p

module _ {s : Code} {start : ℕ} (acc : AcceptedCode s start) (lim : Places) where
  choose : {c : Config} (p : Path) → WellFormed s lim start c → (o : Outcome) → move s lim c p ≡ o → (o ≡ still → ⊥) → Chosen s lim c p
  unfolding choice
  choose {c} p h o e n =
      let k = move_located s lim c p (λ z. n (cc)) in
      let m : choice s lim c k.position ≡ move s lim c p = ap (chosen s lim c) k.there in
      record {
        position = k.position;
        there = k.there;
        small = omega (arith, k.inside, positions c.tree, h.within.threads);
        look = able_look s lim c k.position (λ z. n (cc));
        choice = m;
      }

  -- silent moves as choices
  record Choices (on : Path → Type 0) (c : Config) (d : Config) (n : ℕ) : Type 0 where
    list : List ℕ
    places : List Path
    count : length list ≡ n
    quietly : Quietly s lim c list places d
    near : (p : Path) → p ∈ places → on p
    small : (i : ℕ) → i ∈ list → i + 1 < 2 * lim.threads
    formed : WellFormed s lim start d
    unread : reading s d ≡ reading s c
    runs : (ms : List ℕ) (r : Report) → Runs s lim d ms r → Runs s lim c (list ++ ms) (made_by n r)

  choices : {on : Path → Type 0} {st : Stores} {t u : Tree} {n : ℕ} → Silently s lim st [] on t u n → WellFormed s lim start (record { stores = st; tree = t })
      → Choices on (record { stores = st; tree = t }) (record { stores = st; tree = u }) n
  unfolding move made_by
  choices at_once h =
      record { list = []; places = []; count = refl; quietly = no_choice; near = λ o m. absurd (Memᴰ.not-nil m); small = λ i m. absurd (Memᴰ.not-nil m); formed = h; unread = refl; runs = λ ms r k. k }
  choices {on} {st} (after {t = t} {u = u} p z m q rest) h =
      let c : Config = record { stores = st; tree = t } in
      let i = choose p h (moved st u) m moved_still in
      let f : WellFormed s lim start (record { stores = st; tree = u }) = record { formed = preservation acc lim h.formed p m; within = within lim s c p h.within m } in
      let r = choices rest f in
      record {
        list = i.position ∷ r.list;
        places = p ∷ r.places;
        count = ap suc r.count;
        quietly = a_choice i.there q m r.quietly;
        near = λ o k. ⊎_elim (λ (e : o ≡ p). rw e z) (λ l. r.near o l) (Memᴰ.cases_cons k);
        small = λ j k. ⊎_elim (λ (e : j ≡ i.position). rw e i.small) (λ l. r.small j l) (Memᴰ.cases_cons k);
        formed = r.formed;
        unread = r.unread ∙ means_nothing (rw q at (moves_published acc lim p h.formed m));
        runs = λ ms x k. makes i.look (i.choice ∙ m) (r.runs ms x k);
      }

  -- a thread is among the places as often as its count falls
  visits_due : {c d : Config} {ns : List ℕ} {ps : List Path} → Quietly s lim c ns ps d → WellFormed s lim start c → (q : Path) → visits q ps + due s (part d.tree q) ≡ due s (part c.tree q)
  unfolding move
  visits_due no_choice h q = omega arith
  visits_due (a_choice {c = c} {d = d} {st = st} {t = t} {p = p} {ps = ps} l k m r) h q =
      go (same_place q p) refl
      (visits_due r (record { formed = preservation acc lim h.formed p m; within = within lim s c p h.within m }) q)
    where
      falls : suc (due s (part t p)) ≡ due s (part c.tree p)
      falls = (move_counts acc (spare lim c.stores c.tree) c.stores [] c.tree p st t (on_node h.formed.tree p) k m).1

      go : (b : Bool) → same_place q p ≡ b → visits q ps + due s (part d.tree q) ≡ due s (part t q) → cond b (suc (visits q ps)) (visits q ps) + due s (part d.tree q) ≡ due s (part c.tree q)
      go true e x = let i : q ≡ p = same_place_lem q p e in omega (arith, falls, ap (λ (z : Path). due s (part t z)) i, ap (λ (z : Path). due s (part c.tree z)) i)
      go false e x = omega (arith, others_due s (spare lim c.stores c.tree) c.stores [] c.tree p st t k m q e)

  -- the report of the whole list
  reported : {on : Path → Type 0} {c d : Config} {n : ℕ} (i : Choices on c d n) (last : ℕ) (r : Report) → Runs s lim d (last ∷ []) r → report s lim c (i.list ++ (last ∷ [])) ≡ made_by n r
  reported i last r k = runs_report s lim (i.runs (last ∷ []) r k)

  module _ {c d : Config} {n : ℕ} (h : WellFormed s lim start c) (p : Path) (i : Choices (Near p) c d n) (few : n ≤ suc s.size) where
    one_run : (q : Reading) (k : Chosen s lim d p)
        → ((j : Store) × ((report s lim c (i.list ++ (k.position ∷ []))).stop ≡ Full j) × (move s lim d p ≡ full j))
        ⊎ (((report s lim c (i.list ++ (k.position ∷ []))).moves ≡ suc (length i.list)) × (reading s (report s lim c (i.list ++ (k.position ∷ []))).config ≡ q) × (quiet_in s (part d.tree p) ≡ false))
        → OneRun s lim c q p
    one_run q k e =
        record {
          silent = i.list;
          places = i.places;
          last = k.position;
          middle = d;
          quietly = i.quietly;
          near = i.near;
          there = k.there;
          counts = visits_due i.quietly h;
          rows = λ z. omega (arith, visits_due i.quietly h z, (due_told acc (part c.tree z) (on_node h.formed.tree z)).0, acc.most);
          unread = i.unread;
          short = omega (arith, i.count, few, acc.most);
          bytes =
              λ m j.
              ⊎_elim (λ l. i.small m l)
              (λ l. ⊎_elim (λ (z : m ≡ k.position). rw z k.small) (λ z. absurd (Memᴰ.not-nil z)) (Memᴰ.cases_cons l))
              (Memᴰ.append_cases i.list j);
          ends = e;
        }

    full_run : (q : Reading) (j : Store) → move s lim d p ≡ full j → OneRun s lim c q p
    full_run q j e =
        let k = choose p i.formed (full j) e full_still in
        let r = reported i k.position _ (fills k.look (k.choice ∙ e)) in
        one_run q k (inl (j, ap (λ (x : Report). x.stop) r ∙ by_stop n (passed (stopped (Full j) d)), e))

    step_run : (st : Stores) (t : Tree) → move s lim d p ≡ moved st t → quiet_in s (part d.tree p) ≡ false → OneRun s lim c (reading s (record { stores = st; tree = t })) p
    unfolding report
    step_run st t e loud =
        let k = choose p i.formed (moved st t) e moved_still in
        let x = report s lim (record { stores = st; tree = t }) [] in
        let r = reported i k.position (made x) (makes k.look (k.choice ∙ e) (run_runs s lim [] (record { stores = st; tree = t }))) in
        one_run (reading s (record { stores = st; tree = t })) k
        (inr (
          omega (arith, ap (λ (z : Report). z.moves) r, by_moves n (made x), i.count),
          ap (λ (z : Report). reading s z.config) r ∙ ap (reading s) (by_config n (made x)),
          loud,
        ))

  reached_run : {c : Config} {q : Reading} (p : Path) → WellFormed s lim start c → Reached s lim c.stores [] c.tree q.world q.threads (suc s.size) p → OneRun s lim c q p
  unfolding move
  reached_run {c} {q} p h r =
      ⊎_elim (λ f. full_run h p (choices r.silently h) r.few q f.0 f.1)
      (λ l. landed l (step_run h p (choices r.silently h) r.few l.stores l.tree l.moves l.loud))
      r.ends
    where
      landed : (l : Landed s lim c.stores [] r.middle p q.world q.threads) → OneRun s lim c (reading s (record { stores = l.stores; tree = l.tree })) p → OneRun s lim c q p
      landed l x = let e : reading s (record { stores = l.stores; tree = l.tree }) ≡ q = λ i. record { world = l.worlds i; threads = l.reads i } in rw e at x

  -- "each open published step can be reached by choices, unless a store is full"
  pub steps_reached : {c : Config} {q : Reading} → WellFormed s lim start c → (k : Steps s.program (reading s c) q) → OneRun s lim c q (site k)
  steps_reached {c} {q} h k =
      reached_run (site k) h
      (reach acc lim [] c.tree h.formed.stores h.formed.tree (λ o. omega (arith, h.formed.distinct o)) (reading s c).threads refl q.world q.threads k)
