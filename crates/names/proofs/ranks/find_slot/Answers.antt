use mathlib.Core.Path.{sym, ◌∙◌}
use Rattle.names.proofs.SearchLaws.{look_start, look_end, look_hit, look_on}
use Rattle.names.proofs.ranks.find_slot.Goals as goal

pub loop-next-init : goal.loop-next-init
loop-next-init c =
    look_start _ _ _ _ _ c.requires.1 c.bucket_of.ensures.0 c.link_at-next.ensures

pub returns-then-slot_word-x : goal.returns-then-slot_word-x
returns-then-slot_word-x c =
    look_hit _ _ _ _ (rw c.in-Some.is at c.loop-next.invariant) (sym c.slot_word.ensures.0 ∙ c.if-slot_word-x.true)

pub loop-next-preserved : goal.loop-next-preserved
loop-next-preserved c =
    look_on _ _ _ _ _ c.requires.1 (rw c.in-Some.is at c.loop-next.invariant) (λ e. c.if-slot_word-x.false (c.slot_word.ensures.0 ∙ e)) c.link_at-next-in-Some.ensures

pub returns : goal.returns
returns c =
    look_end _ _ _ (rw c.in_default.is at c.loop-next.invariant)
