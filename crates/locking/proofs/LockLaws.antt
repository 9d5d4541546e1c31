-- What each return of a lock comes to.
use mathlib.Core.Path.{◌≡◌, refl, sym, ap, ◌∙◌}
use mathlib.Core.Bool.{Bool, true, false}
use mathlib.Core.List.{List}
use mathlib.Core.Option.{some}
use Prim.Native.Nat.{ℕ, suc, ◌+◌, ◌-◌}
use native.Mathlib.Omega.{arith}
use lib.Dec.{ltb}
use borrow.Author.Tests.{ltb-true, ltb-false}
use Rattle.machine.specs.declared.Frame.{Frame}
use Rattle.machine.specs.Config as machine
use Rattle.machine.specs.Config.{Object, Stores, running}
use Rattle.machine.specs.Machine.{object, lock_frames, still, moved, enter, shut_and_enter, lock_object}
use Rattle.block.specs.declared.Area.TheVariants.{Objects, Frames}
use Rattle.block.specs.Layout.{counted, word_in}
use Rattle.block.specs.Block.{shut_word}
use Rattle.state.specs.Represents.{Rest, StateAt}
use Rattle.state.proofs.Seeing.{frames_counted}
use Rattle.state.proofs.Moves.{lies}
use Rattle.locking.specs.declared.Access.{Access}
use Rattle.locking.specs.declared.Access.TheVariants.{Stays, Null, Open, Held}
use Rattle.moves.proofs.TargetLaws.{object_word}

none_held : (m : ℕ) → ltb 0 m ≡ false → m ≡ 0
none_held m e = omega (arith, ltb-false 0 m e)

some_held : (m : ℕ) → ltb 0 m ≡ true → m ≡ suc (m - 1)
some_held m e = omega (arith, ltb-true 0 m e)

-- the frames are as many as before
pub frames_kept : {b after : List ℕ} {i : ℕ} {x : Rest} {st su : Stores} {u : machine.Tree} → StateAt b i x st u → StateAt after i x su u → counted after Frames ≡ counted b Frames
frames_kept s t = frames_counted t ∙ sym (frames_counted s)

-- a lock on the object o, which is y: open, or shut and held by this thread or not
module _ {b : List ℕ} {i : ℕ} {x : Rest} {st : Stores} {u : machine.Tree} (above fs : List Frame) (a env k o : ℕ) (y : Object) (seen : StateAt b i x st u)
    (there : object st.objects o ≡ some y) (word : ℕ) (w : word ≡ word_in b Objects o 1) where
  told : word ≡ shut_word y.shut
  told = object_word (lies seen) y o 1 word seen.block seen.few there (omega arith) w

  is_open : (q : Bool) → word ≡ shut_word q → word ≡ 0 → q ≡ false
  is_open true e z = absurd (omega arith)
  is_open false e z = refl

  is_shut : (q : Bool) → word ≡ shut_word q → (word ≡ 0 → ⊥) → q ≡ true
  is_shut true e z = refl
  is_shut false e z = absurd (z e)

  pub lock_open : word ≡ 0 → lock_object st above fs a env k o (object st.objects o) ≡ shut_and_enter st fs a env o k
  lock_open z = rw (there, is_open y.shut told z)

  lock_shut : (word ≡ 0 → ⊥) → lock_object st above fs a env k o (object st.objects o) ≡ enter st fs a env (lock_frames o fs + lock_frames o above)
  lock_shut s = rw (there, is_shut y.shut told s)

  module _ (s : word ≡ 0 → ⊥) (held : Bool) (g : held ≡ ltb 0 (lock_frames o fs + lock_frames o above)) where
    pub lock_waits : held ≡ false → lock_object st above fs a env k o (object st.objects o) ≡ still
    lock_waits f = rw (lock_shut s, none_held (lock_frames o fs + lock_frames o above) (sym g ∙ f))

    pub lock_enters : held ≡ true → lock_object st above fs a env k o (object st.objects o) ≡ moved st (running a env fs)
    lock_enters f = rw (lock_shut s, some_held (lock_frames o fs + lock_frames o above) (sym g ∙ f))

-- only an open lock has an object to shut
abbrev pub opened : Access → ℕ
opened Stays = 0
opened Null = 0
opened (Open o) = suc o
opened Held = 0

pub not_open : {q : Access} {o : ℕ} → q ≡ Open o → opened q ≡ 0 → ⊥
not_open e h = let z : suc _ ≡ 0 = ap opened (sym e) ∙ h in omega arith

pub open_same : {o n : ℕ} → Open o ≡ Open n → o ≡ n
open_same {o} {n} e = let z : suc o ≡ suc n = ap opened e in omega arith
