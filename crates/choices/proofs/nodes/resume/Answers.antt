use native.Mathlib.Omega.{arith}
use mathlib.Core.Path.{refl, sym, ◌∙◌}
use Rattle.state.proofs.Seeing.{seen_length, seen_room, some_state}
use Rattle.moves.proofs.Laws.{performs_as}
use Rattle.moves.proofs.Ready.{seen_chain, seen_typed, seen_env}
use Rattle.choices.proofs.WakeLaws as laws
use Rattle.moves.specs.Performs.{performs_still}
use Rattle.choices.proofs.nodes.resume.Goals as goal

pub word-frames-requires : goal.word-frames-requires
word-frames-requires c =
    (seen_room c.requires.1.here.seen, omega arith)

pub returns-then-frames-eq0 : goal.returns-then-frames-eq0
returns-then-frames-eq0 c =
    record { performs = λ c₀ p rest fs own h. performs_as (laws.finished_stays _ c₀ p _ fs h (sym c.word-frames.ensures.0 ∙ c.if-frames-eq0.true)) performs_still; table_unchanged = refl }

pub top_frame-requires : goal.top_frame-requires
top_frame-requires c =
    (some_state c.requires.1.here.seen, omega (arith, c.word-frames.ensures.0))

pub wake-requires : goal.wake-requires
wake-requires c =
    let blank = c.requires.0 in let h = c.requires.1 in let seen = h.here.seen in let bindings = h.stores.bindings in let there = laws.resumes_there h _ _ _ (λ z. c.if-frames-eq0.false (c.word-frames.ensures.0 ∙ z)) c.top_frame.ensures c.in-Awaits.is in
    let first = laws.resumes_first h _ _ _ (λ z. c.if-frames-eq0.false (c.word-frames.ensures.0 ∙ z)) c.top_frame.ensures c.in-Awaits.is in
    record {
      at_typed_frame = record {
        blank = blank;
        chain = seen_chain seen c.args.code.now.script.within_layout bindings _ there.env;
        typed = seen_typed seen c.args.code.now.script.within_layout bindings;
        types = seen_env seen c.args.code.now.script.within_layout bindings _;
        frame = record { here = some_state seen; waiting = omega (arith, c.word-frames.ensures.0); word = laws.resumes_word h };
      };
      node_bound = (there.node, first);
    }

pub drop_cast-requires : goal.drop_cast-requires
drop_cast-requires c =
    record { here = some_state c.requires.1.here.seen; waiting = omega (arith, c.word-frames.ensures.0); word = laws.resumes_word c.requires.1 }

pub open_lock-requires : goal.open_lock-requires
open_lock-requires c =
    record { here = some_state c.requires.1.here.seen; waiting = omega (arith, c.word-frames.ensures.0); word = laws.resumes_word c.requires.1 }

pub returns-in-Awaits : goal.returns-in-Awaits
returns-in-Awaits c =
    record { performs = λ c₀ p rest fs own h. laws.resumes_node _ c₀ p _ _ (λ z. c.if-frames-eq0.false (c.word-frames.ensures.0 ∙ z)) c.top_frame.ensures _ _ c.in-Awaits.is fs h (λ g gs k. c.wake.ensures.wakes c₀ p rest g gs own k); table_unchanged = c.wake.ensures.table_unchanged }

pub returns-in-Casts : goal.returns-in-Casts
returns-in-Casts c =
    record { performs = λ c₀ p rest fs own h. laws.resumes_cast _ c₀ p _ _ (λ z. c.if-frames-eq0.false (c.word-frames.ensures.0 ∙ z)) c.top_frame.ensures _ c.in-Casts.is fs h (λ gs k. c.drop_cast.ensures rest c₀.stores _ gs k.seen); table_unchanged = refl }

pub returns-in-Locks : goal.returns-in-Locks
returns-in-Locks c =
    record { performs = λ c₀ p rest fs own h. laws.resumes_lock _ c₀ p _ _ (λ z. c.if-frames-eq0.false (c.word-frames.ensures.0 ∙ z)) c.top_frame.ensures _ c.in-Locks.is fs h (λ gs k. c.open_lock.ensures rest c₀.stores gs k.seen); table_unchanged = refl }
