-- Laws of a token's turn, and of the verdict at the text's end.
use Prim.Native.Nat.{ℕ, ◌+◌, ◌*◌, ◌/◌, ◌%◌, ◌<◌, ◌≤◌}
use mathlib.Core.Path.{◌≡◌, refl, sym, ap, ◌∙◌}
use mathlib.Core.Bool.{Bool, true, false, ◌||◌, cond}
use mathlib.Core.List.{List, [], ◌∷◌}
use native.Mathlib.Omega.{arith}
use native.Mathlib.Numerals.{add-one}
use lib.Dec.{eqb}
use lib.ListN.{length, drop, set}
use borrow.Author.Tests.{eq-eqb, ne_eqb}
use Rattle.grammar.specs.Tokens.{fixed, TEXT_END}
use Rattle.grammar.specs.Roles.{BINDING}
use Rattle.tokens.specs.Next.{lexeme_of}
use Rattle.tokens.specs.Runs.{word_from}
use Rattle.flat.specs.declared.Turn.{Turn}
use Rattle.flat.specs.Flat.{turn_at, top_of, own_test, parameter_by, GO, CLOSE, BINDS, POINTS}
use Rattle.flat.specs.Flat.{Flat, roles_by, closers_by, start_by, pops_test, turn_of, turned, empty_test}
use Rattle.table.specs.Table.{TurnIs, Tight, Plain, unpacked}
use Rattle.tokens.specs.declared.Next.{Next}
use Rattle.turns.specs.Stacks.{Pushed, Closers, ParameterIs}
use Rattle.turns.proofs.StackLaws.{pushed}
use Rattle.judge.specs.declared.Standing.{Standing}
use Rattle.judge.specs.Standing.{Shown, Advanced, Gone, EndsAs, token_here}

-- A token has taken its turn.
pub advances :
    (text : List ℕ) (s : Standing) (t : Next) (m : Turn) (top : ℕ) (roles closers : List ℕ) (own : Bool) (depth parameter : ℕ) (visible : Bool) (start : ℕ)
    (roles' closers' : List ℕ)
    → Tight t.kind m
    → own ≡ own_test (word_from (drop s.parameter text)) s.visible (token_here text t)
    → Pushed roles s.tokens (roles_by m own) roles'
    → depth ≤ s.depth + 1
    → ((cs : List ℕ) → Closers closers s.depth cs → Closers closers' depth (closers_by m.deed s.visible own cs))
    → ParameterIs text t.kind t.start m.deed s.parameter parameter
    → visible ≡ cond (pops_test m.deed) (eqb (top / POINTS) 1) (eqb m.deed BINDS || s.visible)
    → start ≡ start_by m.next (s.tokens + 1) s.start
    → Advanced text s t m top roles closers
    (record { point = m.next; depth = depth; parameter = parameter; visible = visible; tokens = s.tokens + 1; start = start }) roles' closers'
advances text s t m top roles closers own depth parameter visible start roles' closers' tight o r low c p v n =
    record {
      shows = go;
      one_more = refl;
      point_low = tight.next_low;
      depth_low = low;
      parameter_within = p.within;
    }
  where
    go :
        (f : Flat) (rest : List ℕ)
        → top ≡ top_of f.closers
        → Shown text f s roles closers rest
        → Shown text (turned m (token_here text t) f)
        (record { point = m.next; depth = depth; parameter = parameter; visible = visible; tokens = s.tokens + 1; start = start }) roles' closers' (drop 1 rest)
    go f rest at h =
        let own_is : own_test f.parameter f.visible (token_here text t) ≡ own = rw (← h.parameter_is, ← h.visible_is) (sym o) in
        record {
          point_is = refl;
          closers_are = rw (own_is, ← h.visible_is) (c f.closers h.closers_are);
          parameter_is = p.spells ∙ ap (parameter_by m.deed (token_here text t)) h.parameter_is;
          visible_is = v ∙ rw (at, h.visible_is);
          roles_are = rw own_is (r f.roles rest h.roles_are);
          start_is = n ∙ rw (add-one s.tokens, h.roles_are.high, h.start_is);
        }

-- A token that does nothing besides has taken its turn.
pub advances_plainly :
    (s : Standing) (t : Next) (e point role start : ℕ) (roles : List ℕ)
    → Plain e
    → Tight t.kind (unpacked e)
    → s.tokens < length roles
    → point ≡ (unpacked e).next
    → role ≡ (unpacked e).role
    → start ≡ start_by point (s.tokens + 1) s.start
    → Gone s t (unpacked e) roles
    (record { point = point; depth = s.depth; parameter = s.parameter; visible = s.visible; tokens = s.tokens + 1; start = start })
    (set roles s.tokens role)
advances_plainly s t e point role start roles p tight low k q n text closers top within =
    let own = own_test (word_from (drop s.parameter text)) s.visible (token_here text t) in
    let role_is : e / 1024 + BINDING * 0 ≡ e / 1024 = omega arith in
    let n' : start ≡ start_by (e % 64) (s.tokens + 1) s.start = rw k at n in
    rw (k, q ∙ ap (λ m. m.role) p, p)
    (advances text s t (turn_of GO (e % 64) (e / 1024)) top roles closers own s.depth s.parameter s.visible start (set roles s.tokens (e / 1024)) closers
    (rw p at tight) refl (λ l rest h. rw role_is (pushed roles s.tokens (e / 1024) l rest low h)) (omega arith) (λ cs h. h)
    (record { within = within; spells = refl }) refl n')

-- The verdict at the text's end.
end_turn : (p : ℕ) (m : Turn) → TurnIs p 0 m → m ≡ turn_at p (fixed TEXT_END)
unfolding lexeme_of
end_turn p m t = t.is []

pub ended_no : (s : Standing) (m : Turn) → TurnIs s.point 0 m → (m.deed ≡ CLOSE → ⊥) → EndsAs s false
ended_no s m t n f p d = rw (← p, ← (end_turn s.point m t), ne_eqb m.deed CLOSE n)

pub ended_deep : (s : Standing) (m : Turn) → TurnIs s.point 0 m → m.deed ≡ CLOSE → (s.depth ≡ 0 → ⊥) → EndsAs s false
ended_deep s m t e n f p d = rw (← p, ← (end_turn s.point m t), eq-eqb m.deed CLOSE e) (filled f.closers d)
  where
    filled : (cs : List ℕ) → s.depth ≡ length cs → false ≡ empty_test cs
    filled [] d = absurd (n d)
    filled (a ∷ cs) d = refl

pub ended_yes : (s : Standing) (m : Turn) → TurnIs s.point 0 m → m.deed ≡ CLOSE → s.depth ≡ 0 → EndsAs s true
ended_yes s m t e z f p d = rw (← p, ← (end_turn s.point m t), eq-eqb m.deed CLOSE e) (bare f.closers d)
  where
    bare : (cs : List ℕ) → s.depth ≡ length cs → true ≡ empty_test cs
    bare [] d = refl
    bare (a ∷ cs) d = absurd (omega arith)
