-- The loop over tokens beside the parser, and one law for each way out of it.
use Prim.Native.Nat.{ℕ, suc, ◌+◌, ◌<◌, ◌≤◌}
use mathlib.Core.Path.{◌≡◌, refl, sym, ap, ◌∙◌, subst⁻¹}
use mathlib.Core.Bool.{Bool, true, false}
use mathlib.Core.List.{List, [], ◌∷◌, ◌++◌, map, reverse_aux, append_assoc, append-nil, map-append}
use mathlib.Core.Option.{none}
use Rattle.std.specs.Prelude.{Option, Result, Ok, Err}
use native.Mathlib.Omega.{arith}
use native.Mathlib.Numerals.{add-one}
use lib.Dec.{eqb}
use lib.ListN.{length, drop, get_or, set, length-append, length-reverse, length-map, get_or-eq_default}
use lib.Seq.{drop-length, drop-drop, drop-cons, set_at, get_or_at}
use borrow.Author.Tests.{eq-eqb, ne_eqb}
use Rattle.grammar.specs.Tokens.{Lexeme, fixed, name_token, digits_token, Token, token_at, tokens_of, TEXT_END, chosen_lexeme}
use Rattle.grammar.specs.Grammar.{Derivation}
use Rattle.grammar.specs.Roles.{roles, roles_text, roles_before, roles_all}
use Rattle.grammar.specs.Parse.{State, at_top, Shifted, stuck, goes, accepts, shift, refused_at, derived, after_shift, parse, parsed, ways}
use Rattle.tokens.specs.declared.Next.{Next}
use Rattle.tokens.specs.Next.{K_NAME, K_DIGITS, lexeme_of, tokens_at, TokenIs}
use Rattle.tokens.specs.Runs.{word_from, digits_from, byte_run}
use Rattle.flat.specs.declared.Turn.{Turn}
use Rattle.flat.specs.Flat.{flat_stuck, flat_goes, flat_by, flat_ends, turn_under, turned, STUCK, GO, POINTS}
use Rattle.flat.proofs.Flatten.{flatten}
use Rattle.flat.proofs.Walks.{flattened, accepts_end}
use Rattle.flat.proofs.Simulation.{simulates, Ended, ends}
use Rattle.table.specs.Table.{TurnIs, Plain, unpacked}
use Rattle.turns.specs.Stacks.{Stacked, TurnUnder, TopIs, top_number}
use Rattle.turns.proofs.StackLaws.{number_there, head_of, head_is}
use Rattle.turns.proofs.TurnLaws.{under_own}
use Rattle.judge.specs.declared.Standing.{Standing}
use Rattle.judge.specs.declared.Accepted.{Accepted}
use Rattle.judge.specs.declared.Misfit.{Misfit}
use Rattle.judge.specs.Standing.{Shown, Advanced, Gone, EndsAs, EndedAs, token_here}
use Rattle.judge.specs.Judging.{lexemes_of, offsets_of, JudgedAs, JudgedText, Room}

-- Laws of lists.
turned_back : (l a rest : List ℕ) → reverse_aux (reverse_aux l a) rest ≡ reverse_aux a (l ++ rest)
turned_back [] a rest = refl
turned_back (x ∷ l) a rest = turned_back l (x ∷ a) rest

abbrev offset_of : Token → ℕ
offset_of t = t.offset

abbrev lexeme_in : Token → Lexeme
lexeme_in t = t.lexeme

-- In the loop: the tokens `read`, up to byte `at`, have brought the parser to a state, which the code shows without its trees.
pub record Going (text roles₀ offsets₀ closers₀ : List ℕ) (s : Standing) (at : ℕ) (roles offsets closers : List ℕ) : Type 0 where
  pub state : State
  pub read : List Token
  pub within : at ≤ length text
  pub shown : Shown text (flatten state) s roles closers (drop s.tokens roles₀)
  pub split : tokens_of text ≡ read ++ tokens_at text at
  pub counted : length read ≡ s.tokens
  pub offsets_are : offsets ≡ map offset_of read ++ drop s.tokens offsets₀
  pub verdict : parsed (lexemes_of text) ≡ parse state s.tokens (map lexeme_in (tokens_at text at) ++ (fixed TEXT_END ∷ []))
  pub few : s.tokens ≤ at
  pub shallow : s.depth ≤ s.tokens
  pub point_low : s.point < POINTS
  pub parameter_within : s.parameter ≤ length text
  pub roles_long : length roles ≡ length roles₀
  pub offsets_long : length offsets ≡ length offsets₀
  pub closers_long : length closers ≡ length closers₀

-- Nothing is read yet.
abbrev pub unread : List ℕ → Standing
unread text = record { point = 0; depth = 0; parameter = length text; visible = false; tokens = 0; start = 0 }

pub begun : (text roles offsets closers : List ℕ) → Going text roles offsets closers (unread text) 0 roles offsets closers
unfolding flatten roles_all byte_run
begun text roles offsets closers =
    record {
      state = at_top [];
      read = [];
      within = omega arith;
      shown =
          record {
            point_is = refl;
            closers_are = record { rest = closers; stacked = record { holds = refl; high = refl } };
            parameter_is = rw (drop-length text);
            visible_is = refl;
            roles_are = record { holds = refl; high = refl };
            start_is = refl;
          };
      split = refl;
      counted = refl;
      offsets_are = refl;
      verdict = refl;
      few = omega arith;
      shallow = omega arith;
      point_low = omega arith;
      parameter_within = omega arith;
      roles_long = refl;
      offsets_long = refl;
      closers_long = refl;
    }

-- A token is none of the end.
not_end : (k : ℕ) (s : List ℕ) → (k ≡ TEXT_END → ⊥) → lexeme_of k s ≡ fixed TEXT_END → ⊥
unfolding lexeme_of
not_end k s n h = go (eqb k K_NAME) (eqb k K_DIGITS) h
  where
    go : (a b : Bool) → chosen_lexeme a (name_token (word_from s)) (chosen_lexeme b (digits_token (digits_from s)) (fixed k)) ≡ fixed TEXT_END → ⊥
    go true b e = let z : ◌≡◌ {A = ℕ} 0 1 = cc in omega arith
    go false true e = let z : ◌≡◌ {A = ℕ} 0 1 = cc in omega arith
    go false false e = n (cc)

module _
    {text roles₀ offsets₀ closers₀ : List ℕ} {s : Standing} {at : ℕ} {roles offsets closers : List ℕ} {t : Next}
    (g : Going text roles₀ offsets₀ closers₀ s at roles offsets closers) (next : TokenIs text at t)
  where
    first_is : tokens_at text at ≡ token_at t.start (token_here text t) ∷ tokens_at text t.end
    first_is = next.first

    pub starts_below : t.start < length text
    starts_below = omega (arith, next.some, next.within)

    -- A token has at least a byte, and a closer a token.
    pub record RoomHere : Type 0 where
      pub roles_room : s.tokens < length roles
      pub offsets_room : s.tokens < length offsets
      pub closers_room : s.depth < length closers

    pub room_here : Room text roles₀ offsets₀ closers₀ → RoomHere
    room_here room =
        let below : s.tokens < length text = omega (arith, g.few, next.from, starts_below) in
        record {
          roles_room = omega (arith, room.for_roles, g.roles_long);
          offsets_room = omega (arith, room.for_offsets, g.offsets_long);
          closers_room = omega (arith, room.for_closers, g.closers_long, g.shallow);
        }

    -- The tokens are those read, this one and the rest.
    split_here : tokens_of text ≡ g.read ++ (token_at t.start (token_here text t) ∷ tokens_at text t.end)
    split_here = g.split ∙ ap (λ l. g.read ++ l) first_is

    read_on :
        parsed (lexemes_of text)
        ≡ after_shift s.tokens (λ u. parse u (s.tokens + 1) (map lexeme_in (tokens_at text t.end) ++ (fixed TEXT_END ∷ []))) (shift g.state (token_here text t))
    unfolding parse
    read_on = g.verdict ∙ ap (λ l. parse g.state s.tokens (map lexeme_in l ++ (fixed TEXT_END ∷ []))) first_is

    -- The machine's step is the parser's.
    stepped :
        (m : Turn) (top : Option ℕ)
        → TurnUnder s.point top t.kind m
        → TopIs top (flatten g.state).closers
        → flat_by (flatten g.state) (token_here text t) m ≡ flattened (shift g.state (token_here text t))
    stepped m top u o =
        let e : m ≡ turn_under s.point (flatten g.state).closers (token_here text t) =
        u.is (flatten g.state).closers (drop t.start text) o in
        ap (flat_by (flatten g.state) (token_here text t))
        (e ∙ ap (λ (p : ℕ). turn_under p (flatten g.state).closers (token_here text t)) g.shown.point_is) ∙
        simulates g.state (token_here text t)

    -- The innermost closer is the machine's.
    pub top_here : (top : Option ℕ) → ((cs rest : List ℕ) → Stacked closers s.depth cs rest → TopIs top cs) → TopIs top (flatten g.state).closers
    top_here top is = is (flatten g.state).closers g.shown.closers_are.rest g.shown.closers_are.stacked

    -- The token fits nowhere.
    place_here : get_or (offsets_of text) s.tokens (length text) ≡ t.start
    place_here =
        rw (split_here, map-append offset_of g.read (token_at t.start (token_here text t) ∷ tokens_at text t.end))
        (get_or_at (map offset_of g.read) t.start (map offset_of (tokens_at text t.end)) (length text) s.tokens
        (length-map g.read offset_of ∙ g.counted))

    pub refused_here :
        (m : Turn) (top : Option ℕ)
        → TurnUnder s.point top t.kind m
        → TopIs top (flatten g.state).closers
        → m.deed ≡ STUCK
        → JudgedText text roles₀ offsets₀ (Err (record { place = t.start })) roles offsets
    refused_here m top u o d = go (shift g.state (token_here text t)) refl
      where
        still : flat_stuck ≡ flattened (shift g.state (token_here text t))
        still = rw (eq-eqb m.deed STUCK d) at (stepped m top u o)

        go : (x : Shifted) → shift g.state (token_here text t) ≡ x → JudgedText text roles₀ offsets₀ (Err (record { place = t.start })) roles offsets
        go stuck e =
            let v : parsed (lexemes_of text) ≡ refused_at s.tokens = rw e at read_on in
            subst⁻¹ (JudgedAs text roles₀ offsets₀ (Err (record { place = t.start })) roles offsets) v (record { place_is = sym place_here })
        go (goes v) e = absurd (let q : flat_stuck ≡ flat_goes (flatten v) = rw e at still in let z : ◌≡◌ {A = ℕ} 0 1 = cc in omega arith)
        go (accepts v) e = absurd (not_end t.kind (drop t.start text) next.real (accepts_end (token_here text t) (ways g.state) v e))

    -- The token takes its turn.
    one_offset :
        (offsets' : List ℕ)
        → s.tokens < length offsets
        → offsets' ≡ set offsets s.tokens t.start
        → offsets' ≡ map offset_of (g.read ++ (token_at t.start (token_here text t) ∷ [])) ++ drop (s.tokens + 1) offsets₀
    one_offset offsets' low e =
        let l : s.tokens < length offsets₀ = omega (arith, g.offsets_long) in
        e ∙
        rw (
          g.offsets_are,
          drop-cons offsets₀ s.tokens 0 l,
          set_at (map offset_of g.read) (get_or offsets₀ s.tokens 0) (drop (suc s.tokens) offsets₀) t.start s.tokens
              (length-map g.read offset_of ∙ g.counted),
          map-append offset_of g.read (token_at t.start (token_here text t) ∷ []),
          add-one s.tokens,
          append_assoc,
        )

    pub goes_on :
        (m : Turn) (top : Option ℕ) (s' : Standing) (roles' offsets' closers' : List ℕ)
        → TurnUnder s.point top t.kind m
        → TopIs top (flatten g.state).closers
        → (m.deed ≡ STUCK → ⊥)
        → s.tokens < length offsets
        → Advanced text s t m (top_number top) roles closers s' roles' closers'
        → offsets' ≡ set offsets s.tokens t.start
        → length roles' ≡ length roles
        → length offsets' ≡ length offsets
        → length closers' ≡ length closers
        → Going text roles₀ offsets₀ closers₀ s' t.end roles' offsets' closers'
    goes_on m top s' roles' offsets' closers' u o d low a w lr lo lc = go (shift g.state (token_here text t)) refl
      where
        moved : flat_goes (turned m (token_here text t) (flatten g.state)) ≡ flattened (shift g.state (token_here text t))
        moved = rw (ne_eqb m.deed STUCK d) at (stepped m top u o)

        go : (x : Shifted) → shift g.state (token_here text t) ≡ x → Going text roles₀ offsets₀ closers₀ s' t.end roles' offsets' closers'
        go stuck e = absurd (let q : flat_goes (turned m (token_here text t) (flatten g.state)) ≡ flat_stuck = rw e at moved in let z : ◌≡◌ {A = ℕ} 0 1 = cc in omega arith)
        go (accepts v) e = absurd (not_end t.kind (drop t.start text) next.real (accepts_end (token_here text t) (ways g.state) v e))
        go (goes v) e =
            let q : flat_goes (turned m (token_here text t) (flatten g.state)) ≡ flat_goes (flatten v) = rw e at moved in
            let f : turned m (token_here text t) (flatten g.state) ≡ flatten v = cc in
            let k : drop 1 (drop s.tokens roles₀) ≡ drop s'.tokens roles₀ = rw a.one_more (drop-drop 1 s.tokens roles₀) in
            record {
              state = v;
              read = g.read ++ (token_at t.start (token_here text t) ∷ []);
              within = next.within;
              shown = rw (← f, ← k) (a.shows (flatten g.state) (drop s.tokens roles₀) (number_there top (flatten g.state).closers o) g.shown);
              split = split_here ∙ sym (append_assoc g.read (token_at t.start (token_here text t) ∷ []) (tokens_at text t.end));
              counted = length-append g.read (token_at t.start (token_here text t) ∷ []) ∙ ap (λ (i : ℕ). i + 1) g.counted ∙ sym a.one_more;
              offsets_are = rw a.one_more (one_offset offsets' low w);
              verdict = rw a.one_more (rw e at read_on);
              few = omega (arith, a.one_more, g.few, next.from, next.some);
              shallow = omega (arith, a.one_more, a.depth_low, g.shallow);
              point_low = a.point_low;
              parameter_within = a.parameter_within;
              roles_long = lr ∙ g.roles_long;
              offsets_long = lo ∙ g.offsets_long;
              closers_long = lc ∙ g.closers_long;
            }

    -- The turn of an entry that is plain, under whatever closers.
    pub goes_plainly :
        (e : ℕ) (s' : Standing) (roles' offsets' : List ℕ)
        → TurnIs s.point t.kind (unpacked e)
        → Plain e
        → s.tokens < length offsets
        → Gone s t (unpacked e) roles s' roles'
        → offsets' ≡ set offsets s.tokens t.start
        → length roles' ≡ length roles
        → length offsets' ≡ length offsets
        → Going text roles₀ offsets₀ closers₀ s' t.end roles' offsets' closers
    goes_plainly e s' roles' offsets' i p low a w lr lo =
        let cs = (flatten g.state).closers in
        let deed_is : (unpacked e).deed ≡ GO = ap (λ m. m.deed) p in
        goes_on (unpacked e) (head_of cs) s' roles' offsets' closers (under_own s.point (head_of cs) t.kind (unpacked e) i (λ h. omega arith)) (head_is cs)
        (λ h. omega arith) low (a text closers (top_number (head_of cs)) g.parameter_within) w lr lo refl

begins_with : (d : Derivation) → length (roles_before d) ≤ length (roles_text d)
unfolding roles_text
begins_with d = omega (arith, length-append (roles_before d) (roles none d.start))

-- The text has ended.
pub ended_here :
    {text roles₀ offsets₀ closers₀ : List ℕ} {s : Standing} {at : ℕ} {roles offsets closers : List ℕ} (r : Result Accepted Misfit)
    → Going text roles₀ offsets₀ closers₀ s at roles offsets closers
    → tokens_at text at ≡ []
    → EndedAs text s r
    → JudgedText text roles₀ offsets₀ r roles offsets
unfolding parse
ended_here {text} {roles₀} {offsets₀} {closers₀} {s} {at} {roles} {offsets} {closers} r g none_left h = by_result r h
  where
    all_read : tokens_of text ≡ g.read
    all_read = g.split ∙ ap (λ l. g.read ++ l) none_left ∙ append-nil g.read

    says : parsed (lexemes_of text) ≡ after_shift s.tokens (λ u. refused_at (s.tokens + 1)) (shift g.state (fixed TEXT_END))
    says = g.verdict ∙ ap (λ l. parse g.state s.tokens (map lexeme_in l ++ (fixed TEXT_END ∷ []))) none_left

    all_counted : length (tokens_of text) ≡ s.tokens
    all_counted = ap length all_read ∙ g.counted

    ok_is : (ok : Bool) → EndsAs s ok → ok ≡ flat_ends (flatten g.state)
    ok_is ok e = e (flatten g.state) g.shown.point_is g.shown.closers_are.stacked.high

    refused : (m : Misfit) → EndsAs s false → m.place ≡ length text → (x : Shifted) → shift g.state (fixed TEXT_END) ≡ x
        → Ended (flat_ends (flatten g.state)) (flatten g.state).roles (flatten g.state).start (shift g.state (fixed TEXT_END))
        → JudgedText text roles₀ offsets₀ (Err m) roles offsets
    refused m n p stuck e b =
        let v : parsed (lexemes_of text) ≡ refused_at s.tokens = rw e at says in
        let past : length (offsets_of text) ≤ s.tokens = omega (arith, length-map (tokens_of text) offset_of, all_counted) in
        subst⁻¹ (JudgedAs text roles₀ offsets₀ (Err m) roles offsets) v
        (record { place_is = p ∙ sym (get_or-eq_default (offsets_of text) (length text) past) })
    refused m n p (goes u) e b = absurd (rw e at b)
    refused m n p (accepts d) e b =
        let y : (flat_ends (flatten g.state) ≡ true) × ((flatten g.state).roles ≡ reverse_aux (roles_text d) []) × ((flatten g.state).start ≡ length (roles_before d)) = rw e at b in
        absurd (let z : ◌≡◌ {A = ℕ} 0 1 = cc (ok_is false n, y.0) in omega arith)

    accepted : (a : Accepted) → EndsAs s true → a.tokens ≡ s.tokens → a.start ≡ s.start → (x : Shifted) → shift g.state (fixed TEXT_END) ≡ x
        → Ended (flat_ends (flatten g.state)) (flatten g.state).roles (flatten g.state).start (shift g.state (fixed TEXT_END))
        → JudgedText text roles₀ offsets₀ (Ok a) roles offsets
    accepted a y t k stuck e b = absurd (let no : flat_ends (flatten g.state) ≡ false = rw e at b in let z : ◌≡◌ {A = ℕ} 0 1 = cc (ok_is true y, no) in omega arith)
    accepted a y t k (goes u) e b = absurd (rw e at b)
    accepted a y t k (accepts d) e b =
        let v : parsed (lexemes_of text) ≡ derived d = rw e at says in
        let y : (flat_ends (flatten g.state) ≡ true) × ((flatten g.state).roles ≡ reverse_aux (roles_text d) []) × ((flatten g.state).start ≡ length (roles_before d)) = rw e at b in
        subst⁻¹ (JudgedAs text roles₀ offsets₀ (Ok a) roles offsets) v
        (record {
          tokens_are = t ∙ sym all_counted;
          start_is = k ∙ g.shown.start_is ∙ y.2;
          few = omega (arith, t, g.few, g.within);
          start_low =
              omega (
                arith,
                t,
                k,
                g.shown.start_is,
                y.2,
                g.shown.roles_are.high,
                ap length y.1,
                length-reverse (roles_text d),
                begins_with d,
              );
          roles_are = rw all_counted (g.shown.roles_are.holds ∙ ap (λ (l : List ℕ). reverse_aux l (drop s.tokens roles₀)) y.1 ∙ turned_back (roles_text d) [] (drop s.tokens roles₀));
          offsets_are = rw (all_counted, all_read) g.offsets_are;
        })

    by_result : (r : Result Accepted Misfit) → EndedAs text s r → JudgedText text roles₀ offsets₀ r roles offsets
    by_result (Ok a) h = accepted a h.0 h.1 h.2 (shift g.state (fixed TEXT_END)) refl (ends g.state)
    by_result (Err m) h = refused m h.0 h.1 (shift g.state (fixed TEXT_END)) refl (ends g.state)
