-- The ways of the parser beside the rules of the table.
use Prim.Native.Nat.{ℕ, zero, suc}
use mathlib.Core.Path.{◌≡◌, refl, ap, ◌∙◌}
use mathlib.Core.Bool.{Bool, true, false, not, ◌&&◌, cond}
use mathlib.Core.List.{List, [], ◌∷◌, ◌++◌}
use native.Mathlib.Omega.{arith}
use lib.Dec.{eqb}
use lib.ListN.{get_or}
use borrow.Author.Tests.{eqb-true, not-true}
use Rattle.grammar.specs.Tokens.{Spelling, Lexeme, fixed, name_token, digits_token, TEXT_END}
use Rattle.grammar.specs.Grammar.{Derivation}
use Rattle.grammar.specs.Parse.{Way, on, on_name, on_digits, on_end, Shifted, stuck, goes, accepts, only_if, leads, first_way, choose}
use Rattle.flat.specs.declared.Turn.{Turn}
use Rattle.flat.specs.Flat.{Rule, FlatNext, flat_stuck, flat_goes, same_sort, pick_turn, rules}
use Rattle.flat.proofs.Flatten.{flatten}

-- What the machine does where the parser does this; it has no move for the end.
abbrev pub flattened : Shifted → FlatNext
flattened stuck = flat_stuck
flattened (goes s) = flat_goes (flatten s)
flattened (accepts d) = flat_stuck

-- No rule of a list is for the text's end.
abbrev pub endless : List Rule → Bool
endless [] = true
endless (r ∷ rs) = not (same_sort (fixed TEXT_END) r.seen) && endless rs

pub and_left : (a b : Bool) → (a && b) ≡ true → a ≡ true
and_left true b h = refl
and_left false b h = h

pub and_right : (a b : Bool) → (a && b) ≡ true → b ≡ true
and_right true b h = h
and_right false b h = absurd (let z : ◌≡◌ {A = ℕ} 0 1 = cc in omega arith)

-- There the token does what it does where no rule is for it.
pub end_other : (other : Turn) (rs : List Rule) → endless rs ≡ true → pick_turn other (fixed TEXT_END) rs ≡ other
unfolding pick_turn
end_other other [] h = refl
end_other other (r ∷ rs) h =
    let n : same_sort (fixed TEXT_END) r.seen ≡ false =
    not-true (same_sort (fixed TEXT_END) r.seen) (and_left (not (same_sort (fixed TEXT_END) r.seen)) (endless rs) h) in
    rw n (end_other other rs (and_right (not (same_sort (fixed TEXT_END) r.seen)) (endless rs) h))

abbrev all_endless : List (List Rule) → Bool
all_endless [] = true
all_endless (rs ∷ ls) = endless rs && all_endless ls

endless_in : (ls : List (List Rule)) (p : ℕ) → all_endless ls ≡ true → endless (get_or ls p []) ≡ true
endless_in [] p h = refl
endless_in (rs ∷ ls) zero h = and_left (endless rs) (all_endless ls) h
endless_in (rs ∷ ls) (suc p) h = endless_in ls p (and_right (endless rs) (all_endless ls) h)

pub endless_at : (p : ℕ) → endless (get_or rules p []) ≡ true
endless_at p = endless_in rules p refl

module _ (g : Lexeme → Turn → FlatNext) where
  -- A rule does what a way does, and so do all rules of a list.
  abbrev pub Follows : Way → Rule → Type 0
  Follows (on k s) r = (r.seen ≡ fixed k) × (g (fixed k) r.turn ≡ flat_goes (flatten s))
  Follows (on_name f) r = (r.seen ≡ name_token []) × ((y : Spelling) → g (name_token y) r.turn ≡ flat_goes (flatten (f y)))
  Follows (on_digits f) r = (r.seen ≡ digits_token []) × ((d : Spelling) → g (digits_token d) r.turn ≡ flat_goes (flatten (f d)))
  Follows (on_end d) r = ⊥

  abbrev pub Alike : List Way → List Rule → Type 0
  Alike [] [] = Unit {0}
  Alike [] (r ∷ rs) = ⊥
  Alike (w ∷ ws) [] = ⊥
  Alike (w ∷ ws) (r ∷ rs) = Follows w r × Alike ws rs

  one_way :
      (w : Way) (r : Rule) (t : Lexeme) (m : Turn) (o : Shifted)
      → Follows w r
      → g t m ≡ flattened o
      → g t (cond (same_sort t r.seen) r.turn m) ≡ flattened (first_way (leads w t) o)
  one_way (on k s) r (fixed j) m o a h = rw a.0 (go (eqb j k) refl)
    where
      go : (q : Bool) → eqb j k ≡ q → g (fixed j) (cond q r.turn m) ≡ flattened (first_way (only_if q (goes s)) o)
      go true e = rw (eqb-true j k e) a.1
      go false e = h
  one_way (on k s) r (name_token y) m o a h = rw a.0 h
  one_way (on k s) r (digits_token d) m o a h = rw a.0 h
  one_way (on_name f) r (fixed j) m o a h = rw a.0 h
  one_way (on_name f) r (name_token y) m o a h = rw a.0 (a.1 y)
  one_way (on_name f) r (digits_token d) m o a h = rw a.0 h
  one_way (on_digits f) r (fixed j) m o a h = rw a.0 h
  one_way (on_digits f) r (name_token y) m o a h = rw a.0 h
  one_way (on_digits f) r (digits_token d) m o a h = rw a.0 (a.1 d)
  one_way (on_end d) r t m o a h = absurd a

  -- What stands behind them decides where none of them does.
  pub walk :
      (t : Lexeme) (other : Turn) (vs : List Way)
      → g t other ≡ flattened (choose t vs)
      → (ws : List Way) (rs : List Rule)
      → Alike ws rs
      → g t (pick_turn other t rs) ≡ flattened (choose t (ws ++ vs))
  unfolding pick_turn choose
  walk t other vs h [] [] a = h
  walk t other vs h [] (r ∷ rs) a = absurd a
  walk t other vs h (w ∷ ws) [] a = absurd a
  walk t other vs h (w ∷ ws) (r ∷ rs) a =
      one_way w r t (pick_turn other t rs) (choose t (ws ++ vs)) a.0 (walk t other vs h ws rs a.1)

  -- Where no rule is for the text's end, no way is.
  pub end_behind :
      (vs ws : List Way) (rs : List Rule)
      → Alike ws rs
      → endless rs ≡ true
      → choose (fixed TEXT_END) (ws ++ vs) ≡ choose (fixed TEXT_END) vs
  unfolding choose
  end_behind vs [] rs a h = refl
  end_behind vs (w ∷ ws) [] a h = absurd a
  end_behind vs (w ∷ ws) (r ∷ rs) a h = passed w r a.0 (and_left (not (same_sort (fixed TEXT_END) r.seen)) (endless rs) h) ∙
      end_behind vs ws rs a.1 (and_right (not (same_sort (fixed TEXT_END) r.seen)) (endless rs) h)
    where
      passed : (v : Way) (q : Rule) → Follows v q → not (same_sort (fixed TEXT_END) q.seen) ≡ true → first_way (leads v (fixed TEXT_END)) (choose (fixed TEXT_END) (ws ++ vs)) ≡ choose (fixed TEXT_END) (ws ++ vs)
      passed (on k s) q b n = let z : eqb TEXT_END k ≡ false = not-true (eqb TEXT_END k) (rw b.0 at n) in rw z
      passed (on_name f) q b n = refl
      passed (on_digits f) q b n = refl
      passed (on_end d) q b n = absurd b

-- Only at the text's end is a text accepted.
leads_end : (w : Way) (t : Lexeme) (d : Derivation) → leads w t ≡ accepts d → t ≡ fixed TEXT_END
leads_end (on k s) (fixed j) d h = go (eqb j k) h
  where
    go : (q : Bool) → only_if q (goes s) ≡ accepts d → fixed j ≡ fixed TEXT_END
    go true e = cc
    go false e = cc
leads_end (on k s) (name_token y) d h = cc
leads_end (on k s) (digits_token y) d h = cc
leads_end (on_name f) (fixed j) d h = cc
leads_end (on_name f) (name_token y) d h = cc
leads_end (on_name f) (digits_token y) d h = cc
leads_end (on_digits f) (fixed j) d h = cc
leads_end (on_digits f) (name_token y) d h = cc
leads_end (on_digits f) (digits_token y) d h = cc
leads_end (on_end p) (fixed j) d h = go (eqb j TEXT_END) refl h
  where
    go : (q : Bool) → eqb j TEXT_END ≡ q → only_if q (accepts p) ≡ accepts d → fixed j ≡ fixed TEXT_END
    go true e a = ap fixed (eqb-true j TEXT_END e)
    go false e a = cc
leads_end (on_end p) (name_token y) d h = cc
leads_end (on_end p) (digits_token y) d h = cc

pub accepts_end : (t : Lexeme) (ws : List Way) (d : Derivation) → choose t ws ≡ accepts d → t ≡ fixed TEXT_END
unfolding choose
accepts_end t [] d h = cc
accepts_end t (w ∷ ws) d h = go (leads w t) refl h (accepts_end t ws d)
  where
    go : (o : Shifted) → leads w t ≡ o → first_way o (choose t ws) ≡ accepts d → (choose t ws ≡ accepts d → t ≡ fixed TEXT_END) → t ≡ fixed TEXT_END
    go stuck e a r = r a
    go (goes s) e a r = cc
    go (accepts p) e a r = leads_end w t p e
