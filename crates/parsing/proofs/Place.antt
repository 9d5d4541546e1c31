-- What the verdict on a text means: the text's one derivation, or the first token that fits no continuation.
use Prim.Native.Nat.{ℕ, suc, ◌+◌, ◌<◌}
use mathlib.Core.Path.{◌≡◌, refl, sym, ap, ◌∙◌}
use mathlib.Core.Bool.{false, false≢true}
use mathlib.Core.List.{List, [], ◌∷◌, ◌++◌, append_assoc, append-nil, append_cancel_right}
use native.Mathlib.Omega.{arith}
use native.Mathlib.Decide.{dec_lt}
use lib.ListN.{length, take, drop, length-append, take-append-drop}
use lib.Seq.{take-append_seam, take-append-add, take-take}
use Rattle.grammar.specs.Tokens.{Lexeme, fixed, TEXT_END}
use Rattle.grammar.specs.Grammar.{Derivation, spelled_text, spelled_all, Viable, FirstMisfit}
use Rattle.grammar.specs.Parse.{State, at_top, Shifted, stuck, goes, accepts, is_fixed, shift, Verdict, refused_at, derived, after_shift, parse, parsed}
use Rattle.parsing.proofs.Said.{saying, saying_around, Says, shift_says}
use Rattle.parsing.proofs.Walks.{after, run, reads}
use Rattle.parsing.proofs.Completed.{completed}
use Rattle.parsing.proofs.Written.{Spellable, Written, not_end, text_of, every_append}

-- A run that is stuck or has accepted stays so.
run_stuck : (ts : List Lexeme) → run stuck ts ≡ stuck
unfolding run
run_stuck [] = refl
run_stuck (t ∷ ts) = run_stuck ts

run_accepts : (d : Derivation) (ts : List Lexeme) → run (accepts d) ts ≡ accepts d
unfolding run
run_accepts d [] = refl
run_accepts d (t ∷ ts) = run_accepts d ts

run_on : (o : Shifted) (w ts : List Lexeme) → run o (w ++ ts) ≡ run (run o w) ts
unfolding run
run_on o [] ts = refl
run_on o (t ∷ w) ts = run_on (after o t) w ts

-- Parsing is running, with the index of the token at hand.
resumes :
    (n : ℕ) (ts : List Lexeme) (d : Derivation) (f : State → Verdict) (o : Shifted)
    → ((s : State) → run (goes s) ts ≡ accepts d → f s ≡ derived d)
    → run o ts ≡ accepts d
    → after_shift n f o ≡ derived d
resumes n ts d f stuck g h = cc (run_stuck ts)
resumes n ts d f (goes s) g h = g s h
resumes n ts d f (accepts p) g h = cc (run_accepts p ts)

parses : (s : State) (n : ℕ) (ts : List Lexeme) (d : Derivation) → run (goes s) ts ≡ accepts d → parse s n ts ≡ derived d
unfolding run parse
parses s n [] d h = cc
parses s n (t ∷ ts) d h = resumes n ts d (λ u. parse u (n + 1) ts) (shift s t) (λ u. parses u (n + 1) ts d) h

-- A text that is derived is read as that derivation,
pub derived_parsed : (d : Derivation) → parsed (spelled_text d) ≡ derived d
derived_parsed d = parses (at_top []) 0 (spelled_text d ++ (fixed TEXT_END ∷ [])) d (reads d)

-- which is the only one.
pub one_derivation : (d p : Derivation) → spelled_text d ≡ spelled_text p → d ≡ p
one_derivation d p h = let e : derived d ≡ derived p = sym (derived_parsed d) ∙ ap parsed h ∙ derived_parsed p in cc

-- What is accepted is spelled by the derivation that was built.
ends_as :
    (s : State) (t : Lexeme) (n : ℕ) (ts : List Lexeme) (d : Derivation) (f : State → Verdict) (o : Shifted)
    → Says (saying s) t o
    → (t ≡ fixed TEXT_END → ts ≡ [])
    → ((u : State) → f u ≡ derived d → spelled_text d ++ (fixed TEXT_END ∷ []) ≡ saying u ts)
    → after_shift n f o ≡ derived d
    → spelled_text d ++ (fixed TEXT_END ∷ []) ≡ saying s (t ∷ ts)
ends_as s t n ts d f stuck a l g h = cc
ends_as s t n ts d f (goes u) a l g h = g u h ∙ a.1 ts
ends_as s t n ts d f (accepts p) a l g h =
    let e : p ≡ d = cc in
    let w : t ∷ ts ≡ fixed TEXT_END ∷ [] = cc (a.0, l a.0) in
    rw (w, ← e) (a.1 (fixed TEXT_END ∷ []))

accepted :
    (ts : List Lexeme) (s : State) (n : ℕ) (d : Derivation)
    → Written ts
    → parse s n (ts ++ (fixed TEXT_END ∷ [])) ≡ derived d
    → spelled_text d ++ (fixed TEXT_END ∷ []) ≡ saying s (ts ++ (fixed TEXT_END ∷ []))
unfolding parse
accepted [] s n d a h =
    ends_as s (fixed TEXT_END) n [] d (λ u. parse u (n + 1) []) (shift s (fixed TEXT_END)) (shift_says s (fixed TEXT_END)) (λ e. refl) (λ u e. cc) h
accepted (t ∷ ts) s n d a h =
    let us = ts ++ (fixed TEXT_END ∷ []) in
    ends_as s t n us d (λ u. parse u (n + 1) us) (shift s t) (shift_says s t) (λ e. cc (ap (is_fixed TEXT_END) e, not_end a.0.1)) (λ u. accepted ts u (n + 1) d a.1) h

pub parsed_derived : (ts : List Lexeme) (d : Derivation) → Written ts → parsed ts ≡ derived d → spelled_text d ≡ ts
unfolding saying_around spelled_all
parsed_derived ts d a h = append_cancel_right (spelled_text d) ts (fixed TEXT_END ∷ []) (accepted ts (at_top []) 0 d a h)

-- Where a run is stuck.
record Stopped (s : State) (n : ℕ) (ts : List Lexeme) (k : ℕ) : Type 0 where
  read : List Lexeme
  token : Lexeme
  rest : List Lexeme
  left : State
  splits : ts ≡ read ++ (token ∷ rest)
  place : k ≡ n + length read
  said : (r : List Lexeme) → saying left r ≡ saying s (read ++ r)
  ran : run (goes s) read ≡ goes left
  written : Written read
  stops : shift left token ≡ stuck

stops_at :
    (s : State) (t : Lexeme) (n : ℕ) (ts : List Lexeme) (k : ℕ) (f : State → Verdict) (o : Shifted)
    → shift s t ≡ o
    → Says (saying s) t o
    → (is_fixed TEXT_END t ≡ false → Spellable t)
    → ((u : State) → is_fixed TEXT_END t ≡ false → f u ≡ refused_at k → Stopped u (n + 1) ts k)
    → after_shift n f o ≡ refused_at k
    → Stopped s n (t ∷ ts) k
unfolding run
stops_at s t n ts k f stuck e a l g h =
    let p : n ≡ k = cc in
    record { read = []; token = t; rest = ts; left = s; splits = refl; place = omega arith; said = λ r. refl; ran = refl; written = tt; stops = e }
stops_at s t n ts k f (goes u) e a l g h =
    let c = g u a.0 h in
    record {
      read = t ∷ c.read;
      token = c.token;
      rest = c.rest;
      left = c.left;
      splits = ap (λ us. t ∷ us) c.splits;
      place = omega (arith, c.place);
      said = λ r. c.said r ∙ a.1 (c.read ++ r);
      ran = ap (λ o. run o c.read) e ∙ c.ran;
      written = (l a.0, c.written);
      stops = c.stops;
    }
stops_at s t n ts k f (accepts p) e a l g h = absurd (let z : ◌≡◌ {A = ℕ} 0 1 = cc in omega arith)

stopped :
    (ts : List Lexeme) (s : State) (n k : ℕ)
    → Written ts
    → parse s n (ts ++ (fixed TEXT_END ∷ [])) ≡ refused_at k
    → Stopped s n (ts ++ (fixed TEXT_END ∷ [])) k
unfolding parse
stopped [] s n k a h =
    stops_at s (fixed TEXT_END) n [] k (λ u. parse u (n + 1) []) (shift s (fixed TEXT_END)) refl (shift_says s (fixed TEXT_END)) (λ e. absurd (false≢true (sym e)))
    (λ u e g. absurd (false≢true (sym e))) h
stopped (t ∷ ts) s n k a h =
    let us = ts ++ (fixed TEXT_END ∷ []) in
    stops_at s t n us k (λ u. parse u (n + 1) us) (shift s t) refl (shift_says s t) (λ e. a.0) (λ u e. stopped ts u (n + 1) k a.1) h

-- Tokens of a derivation that are written are those of a legal text,
viable : (d : Derivation) (w r : List Lexeme) → Written (spelled_text d) → spelled_text d ++ (fixed TEXT_END ∷ []) ≡ w ++ r → Viable w
viable d w r a e =
    let t = text_of 0 (spelled_text d) a in
    record {
      text = t.text;
      tokens = t.tokens;
      splits = t.splits;
      derivation = d;
      derives = t.same;
      rest = r;
      goes_on = ap (λ u. u ++ (fixed TEXT_END ∷ [])) (sym t.same) ∙ e;
    }

-- so what a run has read is viable,
read_viable : (w : List Lexeme) (s : State) → Written w → ((r : List Lexeme) → saying s r ≡ saying (at_top []) (w ++ r)) → Viable w
unfolding saying_around spelled_all
read_viable w s a f =
    let c = completed s in
    let e : spelled_text c.derivation ≡ w ++ c.rest = c.spells ∙ f c.rest in
    viable c.derivation w (c.rest ++ (fixed TEXT_END ∷ [])) (rw e (every_append Spellable w c.rest a c.written))
    (ap (λ u. u ++ (fixed TEXT_END ∷ [])) e ∙ append_assoc w c.rest (fixed TEXT_END ∷ []))

-- and with the token at which it is stuck it is not.
stuck_misfit : (w : List Lexeme) (s : State) (t : Lexeme) → run (goes (at_top [])) w ≡ goes s → shift s t ≡ stuck → Viable (w ++ (t ∷ [])) → ⊥
unfolding run
stuck_misfit w s t h n v =
    let top = goes (at_top []) in
    let whole : run top ((w ++ (t ∷ [])) ++ v.rest) ≡ accepts v.derivation = ap (run top) (sym v.goes_on ∙ ap (λ u. u ++ (fixed TEXT_END ∷ [])) (sym v.derives)) ∙ reads v.derivation in
    let parts : run top ((w ++ (t ∷ [])) ++ v.rest) ≡ stuck =
    run_on top (w ++ (t ∷ [])) v.rest
    ∙ ap (λ o. run o v.rest) (run_on top w (t ∷ []) ∙ ap (λ o. run o (t ∷ [])) h ∙ n)
    ∙ run_stuck v.rest
    in
    let z : ◌≡◌ {A = ℕ} 0 1 = cc in
    omega arith

-- The token at which the parser is stuck is the first that fits no continuation.
place_of :
    (ts w r : List Lexeme) (t : Lexeme) (k : ℕ)
    → ts ++ (fixed TEXT_END ∷ []) ≡ w ++ (t ∷ r)
    → k ≡ 0 + length w
    → Viable w
    → (Viable (w ++ (t ∷ [])) → ⊥)
    → FirstMisfit ts k
place_of ts w r t k e p v m =
    let long : length ts + 1 ≡ length w + suc (length r) = sym (length-append ts (fixed TEXT_END ∷ [])) ∙ ap length e ∙ length-append w (t ∷ r) in
    let q : k ≡ length w = omega arith in
    record {
      within = omega arith;
      before = rw (e, q, take-append_seam w (t ∷ r)) v;
      misfit = rw (e, q, take-append-add w (t ∷ r) 1) m;
    }

pub refused_place : (ts : List Lexeme) (k : ℕ) → Written ts → parsed ts ≡ refused_at k → FirstMisfit ts k
refused_place ts k a h =
    let c = stopped ts (at_top []) 0 k a h in
    place_of ts c.read c.rest c.token k c.splits c.place (read_viable c.read c.left c.written c.said)
    (stuck_misfit c.read c.left c.token c.ran c.stops)

-- There is one such place,
viable_part : (w : List Lexeme) (k : ℕ) → Viable w → Viable (take k w)
viable_part w k v =
    record {
      text = v.text;
      tokens = v.tokens;
      splits = v.splits;
      derivation = v.derivation;
      derives = v.derives;
      rest = drop k w ++ v.rest;
      goes_on = v.goes_on ∙ ap (λ u. u ++ v.rest) (sym (take-append-drop k w)) ∙ append_assoc (take k w) (drop k w) v.rest;
    }

not_before : (ts : List Lexeme) (k m : ℕ) → FirstMisfit ts k → FirstMisfit ts m → k < m → ⊥
not_before ts k m a b h =
    let us = ts ++ (fixed TEXT_END ∷ []) in
    a.misfit (rw (take-take (k + 1) m us (omega arith)) at (viable_part (take m us) (k + 1) b.before))

pub one_place : (ts : List Lexeme) (k m : ℕ) → FirstMisfit ts k → FirstMisfit ts m → k ≡ m
one_place ts k m a b =
    elim (dec_lt k m) [
      | yes h ↦ absurd (not_before ts k m a b h)
      | no h ↦ elim (dec_lt m k) [ yes g ↦ absurd (not_before ts m k b a g) | no g ↦ omega arith ]
    ]

-- so the parser refuses at a place exactly if it is that.
refuses : (ts : List Lexeme) (k : ℕ) → Written ts → FirstMisfit ts k → (v : Verdict) → parsed ts ≡ v → v ≡ refused_at k
refuses ts k a m (refused_at j) h = ap refused_at (one_place ts j k (refused_place ts j a h) m)
refuses ts k a m (derived d) h =
    let us = ts ++ (fixed TEXT_END ∷ []) in
    let e = parsed_derived ts d a h in
    let v = viable d us [] (rw e a) (ap (λ l. l ++ (fixed TEXT_END ∷ [])) e ∙ sym (append-nil us)) in
    absurd (m.misfit (viable_part us (k + 1) v))

pub misfit_refused : (ts : List Lexeme) (k : ℕ) → Written ts → FirstMisfit ts k → parsed ts ≡ refused_at k
misfit_refused ts k a m = refuses ts k a m (parsed ts) refl

-- A text is refused exactly if no derivation spells it.
pub refused_underived : (ts : List Lexeme) (k : ℕ) → parsed ts ≡ refused_at k → (d : Derivation) → spelled_text d ≡ ts → ⊥
refused_underived ts k h d e =
    let p : refused_at k ≡ derived d = sym h ∙ ap parsed (sym e) ∙ derived_parsed d in
    let z : ◌≡◌ {A = ℕ} 0 1 = cc in
    omega arith

underived :
    (ts : List Lexeme) → Written ts → ((d : Derivation) → spelled_text d ≡ ts → ⊥) → (v : Verdict) → parsed ts ≡ v → (k : ℕ) × (parsed ts ≡ refused_at k)
underived ts a f (refused_at k) h = (k, h)
underived ts a f (derived d) h = absurd (f d (parsed_derived ts d a h))

pub underived_refused : (ts : List Lexeme) → Written ts → ((d : Derivation) → spelled_text d ≡ ts → ⊥) → (k : ℕ) × (parsed ts ≡ refused_at k)
underived_refused ts a f = underived ts a f (parsed ts) refl
