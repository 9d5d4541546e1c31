-- Names: a reading does not change as bindings are added, and to rename is to bind.
use Prim.Native.Nat.{ℕ, suc, ◌≤◌, ◌<◌}
use native.Mathlib.Omega.{arith}
use mathlib.Core.Path.{◌≡◌, refl, sym, ◌∙◌, ap, ap₂, fun_ext}
use mathlib.Core.Bool.{Bool, true, false, cond}
use mathlib.Core.List.{List, [], ◌∷◌, ◌++◌}
use mathlib.Core.Option.{none, some, none-ne-some}
use lib.Dec.{eqb}
use lib.ListN.{length, length-append}
use borrow.Author.Tests.{eq-eqb, ne_eqb, eqb-true}
use Rattle.script.specs.Lists.{named}
use Rattle.script.specs.Syntax.{Point, Expr, null, var, select, update, call, bind, new, cast, fork, lock, constant, add}
use Rattle.machine.specs.declared.Value.{Value}
use Rattle.machine.specs.declared.Frame.{Frame}
use Rattle.machine.specs.Config.{Code, Binding, Stores, Tree}
use Rattle.machine.specs.Machine.{scope, find, held}
use Rattle.machine.specs.declared.Want.{Want}
use Rattle.machine.specs.WellFormed.{FramesOk, no_frames, a_node, a_cast, a_lock, TreeOk, running_ok, returning_ok, failed_ok, join_ok}
use Rattle.published.specs.Steps.{PVar, static, fresh, PExpr, p_let, p_cast, p_fork, p_lock, p_update, p_call, shadow, close, rename_var, rename, entry_value, fill, p_join, p_thread}
use Rattle.published.specs.ReadAs.{entries, names, gap, plug, said, read}
use Rattle.soundness.proofs.Grow.{Grows}

names_older : (b : Binding) (bs : List Binding) (e : ℕ) → e ≤ length bs → names (b ∷ bs) e ≡ names bs e
names_older b bs e h = fun_ext (λ x. rw (ne_eqb e (suc (length bs)) (λ p. omega arith)))

names_added : (l bs : List Binding) (e : ℕ) → e ≤ length bs → names (l ++ bs) e ≡ names bs e
names_added [] bs e h = refl
names_added (b ∷ l) bs e h = names_older b (l ++ bs) e (omega (arith, length-append l bs)) ∙ names_added l bs e h

names_grow : {st su : Stores} → Grows st su → (e : ℕ) → e ≤ length st.bindings → names su.bindings e ≡ names st.bindings e
names_grow {st} g e h = rw g.grown (names_added g.added st.bindings e h)

-- a variable's value in the reading
pub entry_older : (bs : List Binding) (n : ℕ) → length bs ≤ n → entry_value (entries bs) n ≡ none
entry_older [] n h = refl
entry_older (b ∷ bs) n h = rw (ne_eqb (length bs) n (λ p. omega arith)) (entry_older bs n (omega arith))

pub entry_count : (bs : List Binding) → length (entries bs) ≡ length bs
entry_count [] = refl
entry_count (b ∷ bs) = ap suc (entry_count bs)

pub entry_new : (bs : List Binding) → entry_value (entries bs) (length bs) ≡ none
entry_new bs = entry_older bs (length bs) (omega arith)

pub record Named (bs : List Binding) (e x : ℕ) (v : Value) : Type 0 where
  pub number : ℕ
  pub inside : number < length bs
  pub name : names bs e x ≡ fresh number
  pub value : entry_value (entries bs) number ≡ some v

module _ (c : Binding) (bs : List Binding) where
  later_entry : (n : ℕ) → n < length bs → entry_value (entries (c ∷ bs)) n ≡ entry_value (entries bs) n
  later_entry n h = rw (ne_eqb (length bs) n (λ p. omega arith))

  named_here : (x : ℕ) (b : Binding) → (q : Bool) → eqb c.name x ≡ q → cond q (some c) (find (scope bs c.link) x) ≡ some b
      → (find (scope bs c.link) x ≡ some b → Named bs c.link x b.value) → Named (c ∷ bs) (suc (length bs)) x b.value
  named_here x b true h k rec =
      let e : c ≡ b = cc in
      record {
        number = length bs;
        inside = omega arith;
        name = rw (eq-eqb (suc (length bs)) (suc (length bs)) refl, h);
        value = rw (eq-eqb (length bs) (length bs) refl) (ap (λ (z : Binding). some z.value) e);
      }
  named_here x b false h k rec =
      let r = rec k in
      record {
        number = r.number;
        inside = omega (arith, r.inside);
        name = rw (eq-eqb (suc (length bs)) (suc (length bs)) refl, h) r.name;
        value = later_entry r.number r.inside ∙ r.value;
      }

  named_there : (e x : ℕ) (b : Binding) → eqb e (suc (length bs)) ≡ false → Named bs e x b.value → Named (c ∷ bs) e x b.value
  named_there e x b h r =
      record {
        number = r.number;
        inside = omega (arith, r.inside);
        name = rw h r.name;
        value = later_entry r.number r.inside ∙ r.value;
      }

  named_step : (e x : ℕ) (b : Binding) → (q : Bool) → eqb e (suc (length bs)) ≡ q → find (cond q (c ∷ scope bs c.link) (scope bs e)) x ≡ some b
      → (find (scope bs c.link) x ≡ some b → Named bs c.link x b.value) → (find (scope bs e) x ≡ some b → Named bs e x b.value)
      → Named (c ∷ bs) e x b.value
  unfolding named
  named_step e x b true h k r₁ r₂ = rw (eqb-true e (suc (length bs)) h) (named_here x b (eqb c.name x) refl k r₁)
  named_step e x b false h k r₁ r₂ = named_there e x b h (r₂ k)

pub variable : (bs : List Binding) (e x : ℕ) (b : Binding) → find (scope bs e) x ≡ some b → Named bs e x b.value
unfolding named
variable [] e x b h = absurd (none-ne-some _ h)
variable (c ∷ bs) e x b h = named_step c bs e x b (eqb e (suc (length bs))) refl h (variable bs c.link x b) (variable bs e x b)

-- to rename a name that is bound in the text
abbrev Apart : ℕ → (ℕ → PVar) → Type 0
Apart x m = (v : PVar) (z : ℕ) → eqb x z ≡ false → rename_var x v (m z) ≡ m z

static_apart : (x : ℕ) (v : PVar) (z : ℕ) → eqb x z ≡ false → rename_var x v (static z) ≡ static z
static_apart x v z h = rw h

cond_apart : (x : ℕ) (v : PVar) (q : Bool) (p r : PVar) → rename_var x v p ≡ p → rename_var x v r ≡ r → rename_var x v (cond q p r) ≡ cond q p r
cond_apart x v true p r h k = h
cond_apart x v false p r h k = k

shadow_apart : (x y : ℕ) (m : ℕ → PVar) → Apart x m → Apart x (shadow y m)
shadow_apart x y m h v z k = cond_apart x v (eqb y z) (static z) (m z) (static_apart x v z k) (h v z k)

names_apart : (bs : List Binding) (e x : ℕ) → Apart x (names bs e)
names_apart [] e x v z k = static_apart x v z k
names_apart (b ∷ bs) e x v z k =
    cond_apart x v (eqb e (suc (length bs))) _ _ (cond_apart x v (eqb b.name z) _ _ refl (names_apart bs b.link x v z k)) (names_apart bs e x v z k)

-- a choice with the same first part, where the second parts agree
cond_agree : (q : Bool) (p r r' : PVar) → (q ≡ false → r ≡ r') → cond q p r ≡ cond q p r'
cond_agree true p r r' h = refl
cond_agree false p r r' h = h refl

rename_cond : (x : ℕ) (v : PVar) (q : Bool) (p r : PVar) → (q ≡ true → rename_var x v p ≡ p) → rename_var x v (cond q p r) ≡ cond q p (rename_var x v r)
rename_cond x v true p r h = h refl
rename_cond x v false p r h = refl

module _ (x : ℕ) (v : PVar) where
  rename_body : (y : ℕ) (b : Expr) (m : ℕ → PVar) → Apart x m
      → (rename x v (close (shadow y m) b) ≡ close (λ z. rename_var x v (shadow y m z)) b) → (q : Bool) → eqb x y ≡ q
      → cond q (close (shadow y m) b) (rename x v (close (shadow y m) b)) ≡ close (shadow y (λ z. rename_var x v (m z))) b
  rename_body y b m h ih true k =
      ap (λ (f : ℕ → PVar). close f b)
      (fun_ext (λ z. cond_agree (eqb y z) (static z) (m z) (rename_var x v (m z)) (λ j. sym (h v z (rw (← eqb-true x y k) at j)))))
  rename_body y b m h ih false k =
      ih
      ∙ ap (λ (f : ℕ → PVar). close f b)
      (fun_ext (λ z. rename_cond x v (eqb y z) (static z) (m z) (λ j. static_apart x v z (rw (eqb-true y z j) at k))))

  rename_close : (b : Expr) (m : ℕ → PVar) → Apart x m → rename x v (close m b) ≡ close (λ z. rename_var x v (m z)) b
  rename_close (null n) m h = refl
  rename_close (var n y) m h = refl
  rename_close (select n y f) m h = refl
  rename_close (update n y f a) m h = ap (p_update (rename_var x v (m y)) f) (rename_close a m h)
  rename_close (call n y g a) m h = ap (p_call (rename_var x v (m y)) g) (rename_close a m h)
  rename_close (bind n y a b) m h =
      ap₂ (p_let y) (rename_close a m h) (rename_body y b m h (rename_close b (shadow y m) (shadow_apart x y m h)) (eqb x y) refl)
  rename_close (new n c) m h = refl
  rename_close (cast n t a) m h = ap (p_cast t) (rename_close a m h)
  rename_close (fork n a b c) m h = λ i. p_fork (rename_close a m h i) (rename_close b m h i) (rename_close c m h i)
  rename_close (lock n y a) m h = ap (p_lock (rename_var x v (m y))) (rename_close a m h)
  rename_close (constant n z) m h = refl
  rename_close (add n y z) m h = refl

-- the body of a let, in the environment with the new binding
bound_name : (x z i : ℕ) (p : PVar) (q : Bool) → eqb x z ≡ q → (q ≡ false → rename_var x (fresh i) p ≡ p) → rename_var x (fresh i) (cond q (static z) p) ≡ cond q (fresh i) p
bound_name x z i p true h k = rw h
bound_name x z i p false h k = k refl

pub let_reading : (bs : List Binding) (e : ℕ) (b : Binding) (a : Expr) → b.link ≡ e
    → rename b.name (fresh (length bs)) (close (shadow b.name (names bs e)) a) ≡ close (names (b ∷ bs) (suc (length bs))) a
let_reading bs e b a h =
    rename_close b.name (fresh (length bs)) a (shadow b.name (names bs e)) (shadow_apart b.name b.name (names bs e) (names_apart bs e b.name))
    ∙ ap (λ (f : ℕ → PVar). close f a)
    (fun_ext
    (λ z.
    rw (eq-eqb (suc (length bs)) (suc (length bs)) refl, h)
    (bound_name b.name z (length bs) (names bs e z) (eqb b.name z) refl (λ k. names_apart bs e b.name (fresh (length bs)) z k))))

-- the body of a method, in the environment with this and the parameter
names_empty : (bs : List Binding) (z : ℕ) → names bs 0 z ≡ static z
names_empty [] z = refl
names_empty (b ∷ bs) z = rw (ne_eqb 0 (suc (length bs)) (λ p. omega arith)) (names_empty bs z)

two_names : (z n i : ℕ) (q : Bool) → eqb 0 z ≡ q → rename_var 1 (fresh i) (cond q (fresh n) (static z)) ≡ cond (eqb 1 z) (fresh i) (cond q (fresh n) (static z))
two_names z n i true h = rw (ne_eqb 1 z (λ p. omega (arith, eqb-true 0 z h)))
two_names z n i false h = refl

pub call_reading : (bs : List Binding) (self arg : Binding) (a : Expr) → self.name ≡ 0 → arg.name ≡ 1 → self.link ≡ 0 → arg.link ≡ suc (length bs)
    → rename 1 (fresh (suc (length bs))) (rename 0 (fresh (length bs)) (close static a)) ≡ close (names (arg ∷ self ∷ bs) (suc (suc (length bs)))) a
call_reading bs self arg a h k l m =
    ap (rename 1 (fresh (suc (length bs)))) (rename_close 0 (fresh (length bs)) a static (λ v z j. static_apart 0 v z j))
    ∙ rename_close 1 (fresh (suc (length bs))) a (λ z. cond (eqb 0 z) (fresh (length bs)) (static z))
    (λ v z j. cond_apart 1 v (eqb 0 z) (fresh (length bs)) (static z) refl (static_apart 1 v z j))
    ∙ ap (λ (f : ℕ → PVar). close f a)
    (fun_ext
    (λ z.
    rw (eq-eqb (suc (suc (length bs))) (suc (suc (length bs))) refl, k, m, eq-eqb (suc (length bs)) (suc (length bs)) refl, h, l, names_empty bs z)
    (two_names z (length bs) (suc (length bs)) (eqb 0 z) refl)))

-- the reading of what stays
pub said_grow : (s : Code) {st su : Stores} → Grows st su → (e : ℕ) (a : Point) → e ≤ length st.bindings → said s su.bindings e a ≡ said s st.bindings e a
said_grow s g e a h = ap (λ (f : ℕ → PVar). close f (s.expr a)) (names_grow g e h)

module _ {s : Code} {st su : Stores} (g : Grows st su) where
  pub plug_grow : {w v : Want} {fs : List Frame} → FramesOk s st.bindings w fs v → (a : PExpr) → plug s su.bindings fs a ≡ plug s st.bindings fs a
  plug_grow no_frames a = refl
  plug_grow (a_node {n = n} {e = e} {fs = fs} i h p r) a =
      plug_grow r _ ∙ ap (λ (f : ℕ → PVar). plug s st.bindings fs (fill (gap s f (s.view n)) a)) (names_grow g e h)
  plug_grow (a_cast i h m r) a = plug_grow r _
  plug_grow (a_lock r) a = plug_grow r _

  pub read_grow : {w : Want} {t : Tree} (above : List Frame) → TreeOk s st w t → read s su.bindings above t ≡ read s st.bindings above t
  read_grow above (running_ok {a = a} {e = e} {fs = fs} h p r) =
      ap (p_thread (held (fs ++ above))) (plug_grow r _ ∙ ap (plug s st.bindings fs) (said_grow s g e a h))
  read_grow above (returning_ok {fs = fs} f r) = ap (p_thread (held (fs ++ above))) (plug_grow r _)
  read_grow above failed_ok = refl
  read_grow above (join_ok {a = a} {e = e} {fs = fs} h p r x y) =
      λ i. p_join (read_grow (fs ++ above) x i) (read_grow [] y i) ((plug_grow r _ ∙ ap (plug s st.bindings fs) (said_grow s g e a h)) i)
