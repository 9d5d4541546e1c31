-- What the words of a laid block say of its objects and bindings.
use mathlib.Core.Path.{◌≡◌, refl, ap, ◌∙◌}
use mathlib.Core.Bool.{Bool}
use mathlib.Core.List.{List, [], ◌∷◌, ◌++◌, reverse, reverse-cons}
use mathlib.Core.Option.{none, some}
use Prim.Native.Nat.{ℕ, zero, suc, ◌+◌, ◌<◌, ◌≤◌}
use native.Mathlib.Omega.{arith}
use lib.ListN.{length, get_or, set, length-map, length-reverse, get_or-append}
use lib.Seq.{get_or-append-add}
use Rattle.words.specs.Word.{bytes}
use Rattle.limits.specs.Limits.{BLOCK}
use Rattle.machine.specs.declared.Value.{Value}
use Rattle.machine.specs.declared.Value.TheVariants.{Null as nil}
use Rattle.machine.specs.Config.{Object, Binding}
use Rattle.machine.specs.Machine.{object, set_shut, set_fields}
use Rattle.block.specs.declared.Area.TheVariants.{Objects, Bindings}
use Rattle.block.specs.Rows.{word_of}
use Rattle.block.specs.Layout.{width, counted, word_in, NAME, TYPE, BOUND, LINK}
use Rattle.block.specs.Block.{object_words, binding_words, Parts, laid}
use Rattle.representation.specs.Changed.{marked_shut, with_field}
use Rattle.block.specs.Fits.{Few, StorableIn}
use Rattle.block.proofs.Rows.{row_at_lem}
use Rattle.block.proofs.Values.{value_same, value_back, value_after}
use Rattle.block.proofs.Words.{laid_bytes, count_is_lem, word_is}
use Rattle.representation.proofs.Ordered.{at_in}
use Rattle.environments.specs.Chains.{binding_at, newest, bindings_in}

-- numbered things that are those of a list, counted from its end
newest_is : {A : Type 0} (f : ℕ → A) (ys : List A) (d : A) → ((i : ℕ) → i < length ys → f i ≡ get_or (reverse ys) i d) → newest f (length ys) ≡ ys
newest_is f [] d h = refl
newest_is f (y ∷ ys) d h =
    let l = length-reverse ys in
    let last : f (length ys) ≡ y =
    h (length ys) (omega arith)
    ∙ rw (reverse-cons y ys)
    (let e : length ys ≡ length (reverse ys) + 0 = omega arith in ap (λ (n : ℕ). get_or (reverse ys ++ y ∷ []) n d) e ∙ get_or-append-add (reverse ys) (y ∷ []) 0 d)
    in
    let rest : newest f (length ys) ≡ ys =
    newest_is f ys d (λ i k. h i (omega arith) ∙ rw (reverse-cons y ys) (get_or-append (reverse ys) (y ∷ []) d i (omega arith))) in
    cc

same_binding : (n t l : ℕ) (v : Value) (y : Binding) → n ≡ y.name → t ≡ y.type → v ≡ y.value → l ≡ y.link → record { name = n; type = t; value = v; link = l } ≡ y
same_binding n t l v y hn ht hv hl = rw (hn, ht, hv, hl)

module _ {b : List ℕ} (p : Parts) (is : b ≡ bytes (laid p)) where
  pub long : length b ≡ BLOCK
  long = rw is (laid_bytes p)

  pub objects_counted : counted b Objects ≡ length p.objects
  objects_counted = rw is (count_is_lem p Objects) ∙ length-map p.objects object_words

  pub bindings_counted : counted b Bindings ≡ length p.bindings
  bindings_counted = rw is (count_is_lem p Bindings) ∙ length-map p.bindings binding_words

  module _ (few : Few p) where
    -- the words of a binding, and of an object
    binding_cell : (i j : ℕ) (d : Binding) → i < length p.bindings → j < width Bindings → word_in b Bindings i j ≡ get_or (binding_words (get_or p.bindings i d)) j 0
    binding_cell i j d h k =
        rw is (word_is p Bindings i j (omega (arith, few Bindings, length-map p.bindings binding_words)) k)
        ∙ ap (λ (r : List ℕ). get_or r j 0) (row_at_lem binding_words p.bindings i d h)

    pub object_cell : (i j : ℕ) (d : Object) → i < length p.objects → j < width Objects → word_in b Objects i j ≡ get_or (object_words (get_or p.objects i d)) j 0
    object_cell i j d h k =
        rw is (word_is p Objects i j (omega (arith, few Objects, length-map p.objects object_words)) k)
        ∙ ap (λ (r : List ℕ). get_or r j 0) (row_at_lem object_words p.objects i d h)

    binding_read : StorableIn p Bindings → (i : ℕ) (d : Binding) → i < length p.bindings → binding_at b i ≡ get_or p.bindings i d
    binding_read stored i d h =
        let y = get_or p.bindings i d in
        let n = binding_cell i NAME d h (omega arith) in
        let t = binding_cell i TYPE d h (omega arith) in
        let v =
        value_same (word_in b Bindings i) (word_of (binding_words y)) BOUND (λ m k. binding_cell i (BOUND + m) d h (omega arith))
        ∙ value_back (y.name ∷ y.type ∷ []) y.value (y.link ∷ []) (stored y (at_in p.bindings i d h))
        in
        let l = binding_cell i LINK d h (omega arith) ∙ value_after (y.name ∷ y.type ∷ []) y.value (y.link ∷ []) 0 in
        same_binding _ _ _ _ y n t v l

    -- the bindings that lie in the block, newest first
    pub bindings_read : StorableIn p Bindings → (bs : List Binding) → p.bindings ≡ reverse bs → bindings_in b ≡ bs
    unfolding bindings_in
    bindings_read stored bs e =
        let n : counted b Bindings ≡ length bs = bindings_counted ∙ ap length e ∙ length-reverse bs in
        rw n
        (newest_is (binding_at b) bs none_bound
        (λ i h. binding_read stored i none_bound (omega (arith, n, bindings_counted)) ∙ ap (λ (l : List Binding). get_or l i none_bound) e))
      where
        none_bound : Binding
        none_bound = record { name = 0; type = 0; value = nil; link = 0 }

-- the object of a number, and the changes of one
pub object_there : (xs : List Object) (o : ℕ) (d : Object) → o < length xs → object xs o ≡ some (get_or xs o d)
object_there [] o d h = absurd (omega arith)
object_there (x ∷ xs) zero d h = refl
object_there (x ∷ xs) (suc o) d h = object_there xs o d (omega arith)

pub object_absent : (xs : List Object) (o : ℕ) → length xs ≤ o → object xs o ≡ none
object_absent [] o h = refl
object_absent (x ∷ xs) zero h = absurd (omega arith)
object_absent (x ∷ xs) (suc o) h = object_absent xs o (omega arith)

pub shut_set : (b : Bool) (xs : List Object) (o : ℕ) (d : Object) → set_shut b xs o ≡ set xs o (marked_shut (get_or xs o d) b)
shut_set b [] o d = refl
shut_set b (x ∷ xs) zero d = refl
shut_set b (x ∷ xs) (suc o) d = ap (λ (l : List Object). x ∷ l) (shut_set b xs o d)

pub field_set : (xs : List Object) (o k : ℕ) (v : Value) (d : Object) → set_fields (set (get_or xs o d).fields k v) xs o ≡ set xs o (with_field (get_or xs o d) k v)
field_set [] o k v d = refl
field_set (x ∷ xs) zero k v d = refl
field_set (x ∷ xs) (suc o) k v d = ap (λ (l : List Object). x ∷ l) (field_set xs o k v d)
