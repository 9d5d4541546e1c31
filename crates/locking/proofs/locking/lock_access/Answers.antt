use native.Mathlib.Omega.{arith}
use mathlib.Core.Path.{refl, ◌∙◌}
use Rattle.representation.specs.Preorder.{frames_above}
use Rattle.state.proofs.Seeing.{seen_length}
use Rattle.moves.proofs.TargetLaws as targets
use Rattle.locking.proofs.LockLaws as laws
use mathlib.Core.List.{[]}
use Rattle.locking.proofs.locking.lock_access.Goals as goal

pub returns-in_default : goal.returns-in_default
returns-in_default c =
    record { x_value = λ c₀ p rest a₀ a k fs h. targets.no_target (targets.locks c₀.stores (frames_above [] c₀.tree p) fs a _ k) (c.target_of.ensures _ rest c₀.stores _ h.seen) c.in_default.is; by_index = λ o e. absurd (laws.not_open e refl) }

pub returns-in_default-value : goal.returns-in_default-value
returns-in_default-value c =
    record { x_value = λ c₀ p rest a₀ a k fs h. targets.null_target (targets.locks c₀.stores (frames_above [] c₀.tree p) fs a _ k) (c.target_of.ensures _ rest c₀.stores _ h.seen) c.in-Some.is c.in_default-value.not-Ref; by_index = λ o e. absurd (laws.not_open e refl) }

pub word-requires : goal.word-requires
word-requires c =
    ((targets.found_below c.requires.0.seen (targets.object_found (c.target_of.ensures _ _ _ _ c.requires.0.seen) c.in-Some.is c.in-Ref.is)).1, omega arith)

pub returns-then-word-eq0 : goal.returns-then-word-eq0
returns-then-word-eq0 c =
    record {
      x_value = λ c₀ p rest a₀ a k fs h.
          let y = targets.object_found (c.target_of.ensures _ rest c₀.stores _ h.seen) c.in-Some.is c.in-Ref.is in
          targets.object_target (targets.locks c₀.stores (frames_above [] c₀.tree p) fs a _ k) (c.target_of.ensures _ rest c₀.stores _ h.seen) c.in-Some.is c.in-Ref.is ∙ laws.lock_open (frames_above [] c₀.tree p) fs a _ k _ y.object h.seen y.there _ c.word.ensures.0 c.if-word-eq0.true;
      by_index = λ o e. rw (← laws.open_same e) (targets.found_below c.requires.0.seen (targets.object_found (c.target_of.ensures _ _ _ _ c.requires.0.seen) c.in-Some.is c.in-Ref.is)).0;
    }

pub returns-then-holds : goal.returns-then-holds
returns-then-holds c =
    record {
      x_value = λ c₀ p rest a₀ a k fs h.
          let y = targets.object_found (c.target_of.ensures _ rest c₀.stores _ h.seen) c.in-Some.is c.in-Ref.is in
          targets.object_target (targets.locks c₀.stores (frames_above [] c₀.tree p) fs a _ k) (c.target_of.ensures _ rest c₀.stores _ h.seen) c.in-Some.is c.in-Ref.is ∙ laws.lock_enters (frames_above [] c₀.tree p) fs a _ k _ y.object h.seen y.there _ c.word.ensures.0 c.if-word-eq0.false _ (c.holds.ensures c₀ p _ h.represents h.named h.there) c.if-holds.true;
      by_index = λ o e. absurd (laws.not_open e refl);
    }

pub returns : goal.returns
returns c =
    record {
      x_value = λ c₀ p rest a₀ a k fs h.
          let y = targets.object_found (c.target_of.ensures _ rest c₀.stores _ h.seen) c.in-Some.is c.in-Ref.is in
          targets.object_target (targets.locks c₀.stores (frames_above [] c₀.tree p) fs a _ k) (c.target_of.ensures _ rest c₀.stores _ h.seen) c.in-Some.is c.in-Ref.is ∙ laws.lock_waits (frames_above [] c₀.tree p) fs a _ k _ y.object h.seen y.there _ c.word.ensures.0 c.if-word-eq0.false _ (c.holds.ensures c₀ p _ h.represents h.named h.there) c.if-holds.false;
      by_index = λ o e. absurd (laws.not_open e refl);
    }
