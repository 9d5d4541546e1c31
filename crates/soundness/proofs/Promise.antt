-- Every well-formed configuration keeps the promises of demand 3, and a run keeps every object and binding; Offer's flags.
use Prim.Native.Nat.{ℕ}
use native.Mathlib.Omega.{arith}
use mathlib.Core.Path.{◌≡◌, refl, sym, ◌∙◌, ap}
use mathlib.Core.Bool.{true, false}
use mathlib.Core.List.Memᴰ
use mathlib.Core.List.{List, [], ◌∷◌, ◌++◌, append_assoc}
use mathlib.Core.Logic.{◌⊎◌, inl, inr, ⊎_elim}
use mathlib.Core.Option.{Option, none, some}
use Rattle.script.specs.Lists.{◌∈◌}
use Rattle.machine.specs.declared.Store.{Store}
use Rattle.machine.specs.declared.Ending.{Ending}
use Rattle.machine.specs.declared.Stop.TheVariants.{Spent, Ended, Full}
use Rattle.machine.specs.Config.{Code, Object, Binding, Config}
use Rattle.machine.specs.Machine.{Places, Outcome, still, full, moved, choice, able, can_move}
use Rattle.machine.specs.declared.Want.TheVariants.{Upto as upto}
use Rattle.machine.specs.WellFormed.{ValueFits, BindingsOk, no_bindings, a_binding, WellFormed}
use Rattle.machine.specs.Accepted.{AcceptedCode}
use Rattle.machine.specs.Runs.{look, Report, report, Runs, ends, spends, passes, makes, fills}
use Rattle.machine.specs.Promise.{Promised, Kept}
use Rattle.machine.proofs.Types.{field_declared}
use Rattle.soundness.proofs.Places.{part_ok}
use Rattle.soundness.proofs.Stores.{fit_field, keeps_same}
use Rattle.soundness.proofs.Ends.{some_end}
use Rattle.soundness.proofs.Positions.{ended, exclusive}
use Rattle.soundness.proofs.Asks.{field_there, method_there}
use Rattle.soundness.proofs.Run.{run_runs, moved_choice, moved_keeps, able_look, able_moves}

binding_fits : {s : Code} {xs : List Object} {bs : List Binding} → BindingsOk s xs bs → (b : Binding) → b ∈ bs → ValueFits s xs b.value (upto b.type)
binding_fits no_bindings b m = absurd (Memᴰ.not-nil m)
binding_fits (a_binding {b = c} h ok) b m = ⊎_elim (λ (e : b ≡ c). rw e h.value) (λ k. binding_fits ok b k) (Memᴰ.cases_cons m)

pub kept_same : (c : Config) → Kept c c
kept_same c = record { added = []; there = refl; objects = keeps_same c.stores.objects }

pub kept_then : {c d e : Config} → Kept c d → Kept d e → Kept c e
kept_then {c} x y =
    record {
      added = y.added ++ x.added;
      there = y.there ∙ ap (λ (l : List Binding). y.added ++ l) x.there ∙ sym (append_assoc y.added x.added c.stores.bindings);
      objects =
          λ o z h.
          let k = x.objects o z h in
          let j = y.objects o k.later k.there in
          record { later = j.later; there = j.there; class = j.class ∙ k.class };
    }

module _ {s : Code} {start : ℕ} (acc : AcceptedCode s start) (lim : Places) where
  -- What demand 3 promises holds of every well-formed configuration.
  pub promised : {c : Config} → WellFormed s lim start c → Promised s lim c
  promised {c} h =
      record {
        field_asked = λ f y p t k g. field_there acc h.formed.stores f y (part_ok c.tree p h.formed.tree k).1 g;
        method_asked = λ m y p t k g. method_there acc h.formed.stores m y (part_ok c.tree p h.formed.tree k).1 g;
        binding_typed = binding_fits h.formed.stores.bindings;
        field_typed =
            λ o y f u v e d k.
            let q = fit_field (h.formed.stores.heap o y e).fields f u (field_declared acc d).1 in
            let i : q.value ≡ v = cc q.there in
            rw i at q.fits;
        exclusive = exclusive h.formed;
        ended = λ n. some_end (ended acc lim h.formed (λ i l. n i));
      }

  -- A run keeps every object and binding.
  runs_keep : {ns : List ℕ} {c : Config} {r : Report} → Runs s lim c ns r → WellFormed s lim start c → Kept c r.config
  runs_keep (ends {c = c} e) h = kept_same c
  runs_keep (spends {c = c} e) h = kept_same c
  runs_keep (passes l e k) h = runs_keep k h
  runs_keep (makes {n = n} l e k) h = kept_then (moved_keeps acc lim n h e) (runs_keep k (moved_choice acc lim n h e))
  runs_keep (fills {c = c} l e) h = kept_same c

  pub run_keeps : (ns : List ℕ) (c : Config) → WellFormed s lim start c → Kept c (report s lim c ns).config
  run_keeps ns c h = runs_keep (run_runs s lim ns c) h

-- Offer: the flag of a position is 1 exactly if a Run with that one choice makes a move or meets a full store, and a position passed over changes nothing.
module _ (s : Code) (lim : Places) (c : Config) (n : ℕ) where
  pub flag_set : can_move s lim c n ≡ true → ((report s lim c (n ∷ [])).moves ≡ 1) ⊎ ((k : Store) × ((report s lim c (n ∷ [])).stop ≡ Full k))
  unfolding report
  flag_set a = go (choice s lim c n) refl a
    where
      l : look s lim c ≡ none
      l = able_look s lim c n (able_moves s lim (choice s lim c n) a)

      go : (o : Outcome) → choice s lim c n ≡ o → able o ≡ true → ((report s lim c (n ∷ [])).moves ≡ 1) ⊎ ((k : Store) × ((report s lim c (n ∷ [])).stop ≡ Full k))
      go still e b = absurd (let z : ◌≡◌ {A = ℕ} 0 1 = cc in omega arith)
      go (full k) e b = rw (l, e) (inr (k, refl))
      go (moved st t) e b = rw (l, e) (inl refl)

  -- A position that cannot move is passed over.
  pub flag_clear : can_move s lim c n ≡ false
      → ((report s lim c (n ∷ [])).moves ≡ 0) × (((report s lim c (n ∷ [])).stop ≡ Spent) ⊎ ((k : Ending) × ((report s lim c (n ∷ [])).stop ≡ Ended k))) × ((report s lim c (n ∷ [])).config ≡ c)
  unfolding report
  flag_clear a = go (choice s lim c n) refl a (look s lim c) refl
    where
      go : (o : Outcome) → choice s lim c n ≡ o → able o ≡ false → (q : Option Ending) → look s lim c ≡ q
          → ((report s lim c (n ∷ [])).moves ≡ 0) × (((report s lim c (n ∷ [])).stop ≡ Spent) ⊎ ((k : Ending) × ((report s lim c (n ∷ [])).stop ≡ Ended k))) × ((report s lim c (n ∷ [])).config ≡ c)
      go still e b none i = rw (i, e) (rw i (refl, inl refl, refl))
      go still e b (some k) i = rw i (refl, inr (k, refl), refl)
      go (full k) e b q i = absurd (let z : ◌≡◌ {A = ℕ} 0 1 = cc in omega arith)
      go (moved st t) e b q i = absurd (let z : ◌≡◌ {A = ℕ} 0 1 = cc in omega arith)
