-- No move takes more places than are left, so a configuration within the limits stays within them.
use native.Mathlib.Omega.{arith}
use mathlib.Core.Path.{◌≡◌}
use mathlib.Core.List.{List, []}
use Rattle.machine.specs.declared.Frame.{Frame}
use Rattle.machine.specs.Config.{Code, Stores, Tree, Config}
use Rattle.machine.specs.Machine.{Places, spare, moved, Path, here, move_at, move}
use Rattle.machine.specs.WellFormed.{Within}
use Rattle.machine.specs.Silent.{ChangedAt, changed_here, changed_left, changed_right}
use Rattle.soundness.proofs.Outcomes.{Takes, why, Made, made_move, made}

module _ (s : Code) (room : Places) (st : Stores) where
  changed_takes : {su : Stores} {p : Path} {t u : Tree} → ChangedAt (λ x y. (above : List Frame) × (move_at s room st above x here ≡ moved su y)) p t u → Takes room st t su u
  changed_takes (changed_here {t = t} x) = (rw x.1 at (why s room st x.0 t)).0
  changed_takes (changed_left x) =
      let k = changed_takes x in
      record { objects = k.objects; bindings = k.bindings; frames = omega (arith, k.frames); threads = omega (arith, k.threads) }
  changed_takes (changed_right x) =
      let k = changed_takes x in
      record { objects = k.objects; bindings = k.bindings; frames = omega (arith, k.frames); threads = omega (arith, k.threads) }

  takes : {su : Stores} {p : Path} {t u : Tree} → Made s room st t p (moved su u) → Takes room st t su u
  takes (made_move x) = changed_takes x

moved_within : {lim : Places} {c : Config} {su : Stores} {u : Tree} → Within lim c → Takes (spare lim c.stores c.tree) c.stores c.tree su u
    → Within lim (record { stores = su; tree = u })
moved_within w k =
    record {
      objects = omega (arith, k.objects, w.objects);
      bindings = omega (arith, k.bindings, w.bindings);
      frames = omega (arith, k.frames, w.frames);
      threads = omega (arith, k.threads, w.threads);
    }

-- A move keeps a configuration within the limits.
pub within : (lim : Places) (s : Code) (c : Config) (p : Path) {su : Stores} {u : Tree} → Within lim c → move s lim c p ≡ moved su u → Within lim (record { stores = su; tree = u })
unfolding move
within lim s c p w e = moved_within {lim = lim} {c = c} w (takes s (spare lim c.stores c.tree) c.stores (rw e at (made s (spare lim c.stores c.tree) c.stores [] c.tree p)))
