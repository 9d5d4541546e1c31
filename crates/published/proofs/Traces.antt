-- A Run's moves are published steps or silent ones; the initial configuration is the paper's.
use Prim.Native.Nat.{ℕ, suc, ◌+◌, ◌≤◌}
use native.Mathlib.Omega.{arith}
use mathlib.Core.Path.{◌≡◌, refl, ap}
use mathlib.Core.Bool.{Bool, true, false}
use mathlib.Core.List.{List, [], ◌∷◌}
use mathlib.Core.Option.{Option, none, some}
use lib.ListN.{take}
use Rattle.limits.specs.Limits.{SILENT}
use Rattle.machine.specs.declared.Store.{Store}
use Rattle.machine.specs.declared.Want.{Want}
use Rattle.machine.specs.Config.{Code, Stores, Tree, Config}
use Rattle.machine.specs.Machine.{one_if, Places, full, moved, Path, locate, chosen, choice, initial, part}
use Rattle.machine.specs.WellFormed.{WellFormed, WfConfig}
use Rattle.machine.specs.Accepted.{AcceptedCode}
use Rattle.machine.specs.Runs.{Report, report, Runs, ends, spends, passes, makes, fills}
use Rattle.soundness.proofs.Run.{run_runs, moved_choice}
use Rattle.machine.specs.Silent.{quiet_in, SilentAt, due, same_place}
use Rattle.soundness.proofs.Silent.{OnNode, on_node, place_counts, others_stay, same_place_lem, due_told}
use Rattle.soundness.proofs.CannotMove.{still_exactly}
use Rattle.soundness.proofs.FullStore.{full_exactly}
use Rattle.published.specs.ReadAs.{reading, initial_reading}
use Rattle.published.specs.Traces.{published_step, silent_move, Trace, trace_none, trace_passes, trace_moves, trace_full, OnlySilent, silent_moves}
use Rattle.published.proofs.Steps.{moves_transitions}

module _ {s : Code} {start : ℕ} (acc : AcceptedCode s start) (lim : Places) where
  module _ {c : Config} (k : ℕ) (h : WellFormed s lim start c) where
    choice_makes : {st : Stores} {t : Tree} {n : ℕ} {ns : List ℕ} {e : Config} → choice s lim c k ≡ moved st t → Trace s lim (record { stores = st; tree = t }) ns n e
        → Trace s lim c (k ∷ ns) (suc n) e
    unfolding choice
    choice_makes {st} {t} {n} {ns} {e} m r = go (locate c.tree k) refl m
      where
        go : (o : Option Path) → locate c.tree k ≡ o → chosen s lim c o ≡ moved st t → Trace s lim c (k ∷ ns) (suc n) e
        go none i m = absurd (let z : ◌≡◌ {A = ℕ} 0 1 = cc in omega arith)
        go (some p) i m = trace_moves i (moves_transitions acc lim p h.formed m) r

    choice_full : {j : Store} → choice s lim c k ≡ full j → Trace s lim c (k ∷ []) 0 c
    unfolding choice
    choice_full {j} m = go (locate c.tree k) refl m
      where
        go : (o : Option Path) → locate c.tree k ≡ o → chosen s lim c o ≡ full j → Trace s lim c (k ∷ []) 0 c
        go none i m = absurd (let z : ◌≡◌ {A = ℕ} 0 1 = cc in omega arith)
        go (some p) i m = trace_full i ((full_exactly acc lim h.formed p j).0 m)

  runs_trace : {c : Config} {ns : List ℕ} {r : Report} → Runs s lim c ns r → WellFormed s lim start c → Trace s lim c (take r.read ns) r.moves r.config
  runs_trace (ends l) h = trace_none
  runs_trace (spends l) h = trace_none
  runs_trace (passes {n = n} l e r) h = trace_passes ((still_exactly acc lim h n).0 e) (runs_trace r h)
  runs_trace (makes {n = n} l e r) h = choice_makes n h e (runs_trace r (moved_choice acc lim n h e))
  runs_trace (fills {n = n} l e) h = choice_full n h e

  -- From every well-formed configuration, with any list of choices: the choices read lead, by as many transitions as the run says it made moves, to the configuration that it leaves.
  pub run_trace : (ns : List ℕ) (c : Config) → WellFormed s lim start c → Trace s lim c (take (report s lim c ns).read ns) (report s lim c ns).moves (report s lim c ns).config
  run_trace ns c h = runs_trace (run_runs s lim ns c) h

-- Each silent move of a thread takes one off its count, and no other's move does.
module _ {s : Code} {start : ℕ} (acc : AcceptedCode s start) (lim : Places) (p : Path) where
  one_silent : {q : Path} {t u : Tree} → SilentAt s q t u → OnNode s (part t p)
      → OnNode s (part u p) × (one_if (same_place p q) + due s (part u p) ≡ due s (part t p))
  one_silent {q} {t} {u} x h = go (same_place p q) refl
    where
      go : (b : Bool) → same_place p q ≡ b → OnNode s (part u p) × (one_if b + due s (part u p) ≡ due s (part t p))
      go true e =
          let y : SilentAt s p t u = rw (same_place_lem p q e) x in
          let k = place_counts acc y h in
          (k.0, omega (arith, k.1))
      go false e = let k = others_stay x p e in (k.0 h, omega (arith, k.1))

  silent_due : {c d : Config} {ns : List ℕ} {n : ℕ} (r : Trace s lim c ns n d) → OnlySilent p r → OnNode s (part c.tree p)
      → OnNode s (part d.tree p) × (silent_moves p r + due s (part d.tree p) ≡ due s (part c.tree p))
  silent_due trace_none o h = (h, omega arith)
  silent_due (trace_passes k r) o h = silent_due r o h
  silent_due (trace_moves l (published_step k e) r) o h = let j = silent_due r o.1 (rw o.0 h) in (j.0, omega (arith, j.1, ap (due s) o.0))
  silent_due (trace_moves l (silent_move x e f) r) o h =
      let k = one_silent x h in
      let j = silent_due r o k.0 in
      (j.0, omega (arith, k.1, j.1))
  silent_due (trace_full l k) o h = (h, omega arith)

  module _ {w : Want} {c d : Config} {ns : List ℕ} {n : ℕ} (h : WfConfig s w c) (r : Trace s lim c ns n d) (o : OnlySilent p r) where
    -- Those that it makes and those that it still has before it are those that it had. So a row is never longer than the count, and one that ends where its move due is not silent is exactly as long.
    pub trace_counts : (silent_moves p r ≤ due s (part c.tree p)) × (quiet_in s (part d.tree p) ≡ false → silent_moves p r ≡ due s (part c.tree p))
    trace_counts =
        let k = silent_due r o (on_node h.tree p) in
        (omega (arith, k.1), λ q. let z : due s (part d.tree p) ≡ 0 = rw q at (due_told acc (part d.tree p) k.0).1 in omega (arith, k.1))

    -- "A thread makes at most 1,024 silent moves in a row"
    pub silent_bound : silent_moves p r ≤ SILENT
    silent_bound = omega (arith, trace_counts.0, (due_told acc (part c.tree p) (on_node h.tree p)).0, acc.most)

-- The configuration that Start writes is the paper's initial one.
pub initial_reads : {s : Code} {start : ℕ} → AcceptedCode s start → reading s initial ≡ initial_reading s.program
initial_reads {s} acc = rw acc.start refl
