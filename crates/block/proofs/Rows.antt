-- Laws of rows of words: a list filled with zeros, rows laid one after the other, and words set in them.
use mathlib.Core.Path.{◌≡◌, refl, sym, ap, ◌∙◌}
use mathlib.Core.List.{List, [], ◌∷◌, ◌++◌, append_assoc, append-nil, map, flat_map, flatten}
use Prim.Native.Nat.{ℕ, zero, suc, ◌+◌, ◌*◌, ◌<◌, ◌≤◌}
use native.Mathlib.Nat.{mul-suc, mul-zero}
use native.Mathlib.Omega.{arith}
use lib.ListN.{length, get_or, set, replicate, length-append, length-set, get_or-append}
use lib.Seq.{get_or-append-add, set-append_left, get_or-set_same, set-set, set-get_or, sets}
use Rattle.block.specs.Rows.{filled, cell}

pub length_filled : (n : ℕ) (ws : List ℕ) → length (filled n ws) ≡ n
unfolding filled
length_filled zero ws = refl
length_filled (suc n) [] = ap suc (length_filled n [])
length_filled (suc n) (w ∷ ws) = ap suc (length_filled n ws)

pub get_d_filled : (n : ℕ) (ws : List ℕ) (i : ℕ) → i < n → get_or (filled n ws) i 0 ≡ get_or ws i 0
unfolding filled
get_d_filled zero ws i h = absurd (omega arith)
get_d_filled (suc n) [] zero h = refl
get_d_filled (suc n) [] (suc i) h = get_d_filled n [] i (omega arith)
get_d_filled (suc n) (w ∷ ws) zero h = refl
get_d_filled (suc n) (w ∷ ws) (suc i) h = get_d_filled n ws i (omega arith)

pub set_filled : (n : ℕ) (ws : List ℕ) (i v : ℕ) → i < length ws → set (filled n ws) i v ≡ filled n (set ws i v)
unfolding filled
set_filled zero ws i v h = refl
set_filled (suc n) [] i v h = absurd (omega arith)
set_filled (suc n) (w ∷ ws) zero v h = refl
set_filled (suc n) (w ∷ ws) (suc i) v h = ap (λ (l : List ℕ). w ∷ l) (set_filled n ws i v (omega arith))

pub sets_filled : (n : ℕ) (ws : List ℕ) (i : ℕ) (vs : List ℕ) → i + length vs ≤ length ws → sets (filled n ws) i vs ≡ filled n (sets ws i vs)
sets_filled n ws i [] h = refl
sets_filled n ws i (v ∷ vs) h = rw (set_filled n ws i v (omega arith)) (sets_filled n (set ws i v) (suc i) vs (simp length-set (omega arith)))

-- zeros at the end say nothing
pub filled_zeros : (n : ℕ) (ws : List ℕ) (m : ℕ) → filled n (ws ++ replicate m 0) ≡ filled n ws
unfolding filled
filled_zeros zero ws m = refl
filled_zeros (suc n) [] zero = refl
filled_zeros (suc n) [] (suc m) = ap (λ (l : List ℕ). 0 ∷ l) (filled_zeros n [] m)
filled_zeros (suc n) (w ∷ ws) m = ap (λ (l : List ℕ). w ∷ l) (filled_zeros n ws m)

pub filled_nil : (n : ℕ) → filled n [] ≡ replicate n 0
unfolding filled
filled_nil zero = refl
filled_nil (suc n) = ap (λ (l : List ℕ). 0 ∷ l) (filled_nil n)

pub flat_map_append : {A B : Type 0} (f : A → List B) (xs ys : List A) → flat_map f (xs ++ ys) ≡ flat_map f xs ++ flat_map f ys
unfolding flat_map
flat_map_append f [] ys = refl
flat_map_append f (x ∷ xs) ys = ap (λ (l : List _). f x ++ l) (flat_map_append f xs ys) ∙ sym (append_assoc (f x) (flat_map f xs) (flat_map f ys))

-- a word read, or set, past the front part of a list
skip : (p r : List ℕ) (n m : ℕ) → length p ≡ n → get_or (p ++ r) (n + m) 0 ≡ get_or r m 0
skip p r n m e = rw (← e) (get_or-append-add p r m 0)

set_skip : (p r : List ℕ) (m v : ℕ) → set (p ++ r) (length p + m) v ≡ p ++ set r m v
set_skip [] r m v = let e : 0 + m ≡ m = omega arith in rw e
set_skip (x ∷ p) r m v = let e : suc (length p) + m ≡ suc (length p + m) = omega arith in rw e (ap (λ (l : List ℕ). x ∷ l) (set_skip p r m v))

-- a part of a filled list, the part standing between what is before it and what is after it: a word read, and words set
pub get_inside :
    (n : ℕ) (pre l post : List ℕ) (m : ℕ) → m < length l → length pre + m < n → get_or (filled n (pre ++ (l ++ post))) (length pre + m) 0 ≡ get_or l m 0
get_inside n pre l post m h room =
    get_d_filled n (pre ++ (l ++ post)) (length pre + m) room ∙ skip pre (l ++ post) (length pre) m refl ∙ get_or-append l post 0 m h

set_inside :
    (n : ℕ) (pre l post : List ℕ) (m v : ℕ) → m < length l → set (filled n (pre ++ (l ++ post))) (length pre + m) v ≡ filled n (pre ++ (set l m v ++ post))
set_inside n pre l post m v h =
    set_filled n (pre ++ (l ++ post)) (length pre + m) v (omega (arith, length-append pre (l ++ post), length-append l post))
    ∙ ap (filled n) (set_skip pre (l ++ post) m v ∙ ap (λ (r : List ℕ). pre ++ r) (set-append_left l post m v h))

pub sets_inside :
    (n : ℕ) (pre l post : List ℕ) (m : ℕ) (vs : List ℕ)
    → m + length vs ≤ length l
    → sets (filled n (pre ++ (l ++ post))) (length pre + m) vs ≡ filled n (pre ++ (sets l m vs ++ post))
sets_inside n pre l post m [] h = refl
sets_inside n pre l post m (v ∷ vs) h =
    let e : suc (length pre + m) ≡ length pre + suc m = omega arith in
    rw (set_inside n pre l post m v (omega arith), e) (sets_inside n pre (set l m v) post (suc m) vs (simp length-set (omega arith)))

-- rows that are all k words wide
abbrev pub Wide : ℕ → List (List ℕ) → Type 0
Wide k rs = (i : ℕ) → i < length rs → length (get_or rs i []) ≡ k

pub wide_map : {A : Type 0} (f : A → List ℕ) (k : ℕ) → ((x : A) → length (f x) ≡ k) → (xs : List A) → Wide k (map f xs)
wide_map f k fixed [] i h = absurd (omega arith)
wide_map f k fixed (x ∷ xs) zero h = fixed x
wide_map f k fixed (x ∷ xs) (suc i) h = wide_map f k fixed xs i (omega arith)

pub wide_set : (k : ℕ) (rs : List (List ℕ)) → Wide k rs → (i : ℕ) (r : List ℕ) → length r ≡ k → Wide k (set rs i r)
wide_set k [] w i r e n h = absurd (omega arith)
wide_set k (x ∷ rs) w zero r e zero h = e
wide_set k (x ∷ rs) w zero r e (suc n) h = w (suc n) (omega arith)
wide_set k (x ∷ rs) w (suc i) r e zero h = w 0 (omega arith)
wide_set k (x ∷ rs) w (suc i) r e (suc n) h = wide_set k rs (λ m l. w (suc m) (omega arith)) i r e n (omega arith)

pub wide_end : (k : ℕ) (rs : List (List ℕ)) → Wide k rs → (r : List ℕ) → length r ≡ k → Wide k (rs ++ r ∷ [])
wide_end k [] w r e zero h = e
wide_end k [] w r e (suc i) h = absurd (omega arith)
wide_end k (x ∷ rs) w r e zero h = w 0 (omega arith)
wide_end k (x ∷ rs) w r e (suc i) h = wide_end k rs (λ n l. w (suc n) (omega arith)) r e i (omega arith)

-- element i of a list of which each is put into a row
pub row_at_lem : {A : Type 0} (f : A → List ℕ) (xs : List A) (i : ℕ) (d : A) → i < length xs → get_or (map f xs) i [] ≡ f (get_or xs i d)
row_at_lem f [] i d h = absurd (omega arith)
row_at_lem f (x ∷ xs) zero d h = refl
row_at_lem f (x ∷ xs) (suc i) d h = row_at_lem f xs i d (omega arith)

pub length_flatten : (k : ℕ) (rs : List (List ℕ)) → Wide k rs → length (flatten rs) ≡ k * length rs
unfolding flatten
length_flatten k [] w = sym (mul-zero k)
length_flatten k (r ∷ rs) w =
    length-append r (flatten rs) ∙ omega (arith, w 0 (omega arith), length_flatten k rs (λ i h. w (suc i) (omega arith)), mul-suc k (length rs))

pub flatten_end : (rs : List (List ℕ)) (r : List ℕ) → flatten (rs ++ r ∷ []) ≡ flatten rs ++ r
unfolding flatten
flatten_end [] r = append-nil r
flatten_end (x ∷ rs) r = ap (λ (l : List ℕ). x ++ l) (flatten_end rs r) ∙ sym (append_assoc x (flatten rs) r)

-- word j of row i, and 0 past the last row
pub flatten_at : (k : ℕ) (rs : List (List ℕ)) → Wide k rs → (i j : ℕ) → j < k → get_or (flatten rs) (k * i + j) 0 ≡ cell rs i j
unfolding flatten
flatten_at k [] w i j h = refl
flatten_at k (r ∷ rs) w zero j h = let e : k * 0 + j ≡ j = omega arith in rw e (get_or-append r (flatten rs) 0 j (omega (arith, w 0 (omega arith))))
flatten_at k (r ∷ rs) w (suc i) j h =
    let e : k * suc i + j ≡ k + (k * i + j) = omega (arith, mul-suc k i) in
    rw e (skip r (flatten rs) k (k * i + j) (w 0 (omega arith)) ∙ flatten_at k rs (λ n l. w (suc n) (omega arith)) i j h)

flatten_set :
    (k : ℕ) (rs : List (List ℕ)) → Wide k rs → (i j v : ℕ) → i < length rs → j < k → set (flatten rs) (k * i + j) v ≡ flatten (set rs i (set (get_or rs i []) j v))
unfolding flatten
flatten_set k [] w i j v h hj = absurd (omega arith)
flatten_set k (r ∷ rs) w zero j v h hj =
    let n : k * 0 + j ≡ j = omega arith in rw n (set-append_left r (flatten rs) j v (omega (arith, w 0 (omega arith))))
flatten_set k (r ∷ rs) w (suc i) j v h hj =
    let n : k * suc i + j ≡ length r + (k * i + j) = omega (arith, w 0 (omega arith), mul-suc k i) in
    rw n
    (set_skip r (flatten rs) (k * i + j) v
    ∙ ap (λ (l : List ℕ). r ++ l) (flatten_set k rs (λ n l. w (suc n) (omega arith)) i j v (omega arith) hj))

-- words of row i set from word j on
pub flatten_sets :
    (k : ℕ) (rs : List (List ℕ)) → Wide k rs → (i j : ℕ) (vs : List ℕ) → i < length rs → j + length vs ≤ k
    → sets (flatten rs) (k * i + j) vs ≡ flatten (set rs i (sets (get_or rs i []) j vs))
flatten_sets k rs w i j [] h hj = rw (set-get_or rs i [])
flatten_sets k rs w i j (v ∷ vs) h hj =
    let r : List ℕ = set (get_or rs i []) j v in
    let e : suc (k * i + j) ≡ k * i + suc j = omega arith in
    let rest =
    flatten_sets k (set rs i r) (wide_set k rs w i r (length-set (get_or rs i []) j v ∙ w i h)) i (suc j) vs (rw (length-set rs i r) h) (omega arith)
    in
    rw (flatten_set k rs w i j v h (omega arith), e)
    (rest ∙ rw (get_or-set_same rs i r [] h, set-set rs i r (sets r (suc j) vs)))
