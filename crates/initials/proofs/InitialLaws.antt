-- Initial values put into the null fields of a new object, one after the other.
use mathlib.Core.Path.{◌≡◌, refl, sym, ap, ◌∙◌}
use mathlib.Core.Bool.{false}
use mathlib.Core.List.{List, [], ◌∷◌, ◌++◌, append-nil}
use Prim.Native.Nat.{ℕ, zero, suc, ◌+◌, ◌-◌, ◌<◌, ◌≤◌}
use native.Mathlib.Omega.{arith}
use lib.ListN.{length, get_or, set, take, replicate, length-append}
use lib.Seq.{take-suc, take_all, append_snoc, length-take-le, set_at, get_or_at}
use lib.IntN.{pos}
use borrow.Author.Tests.{eq-eqb, ne_eqb}
use Rattle.words.specs.Word.{bytes}
use Rattle.limits.specs.Limits.{BLOCK, CLASS_FIELDS}
use Rattle.script.specs.declared.Section.TheVariants.{Fields as fields}
use Rattle.script.specs.Lists.{run, sum_below}
use Rattle.script.specs.Section.{count_of, record_word}
use Rattle.script.specs.Syntax.{Slot, Program, int_of}
use Rattle.script.specs.Reading.{own_fields, field_at, class_at, program_of}
use Rattle.script.specs.Statements.{WithinLayout}
use Rattle.script.proofs.Lists.{length_run, get_d_run}
use Rattle.typing.specs.Members.{fields_from, fields_of}
use Rattle.subtypes.specs.declared.Declared.{Declared}
use Rattle.subtypes.specs.declared.Declared.TheVariants.{Class as is_class}
use Rattle.subtypes.specs.Subtypes.{DeclaredAs}
use Rattle.subtypes.proofs.SubtypeLaws.{class_there, type_class, but_class}
use Rattle.members.proofs.LookupLaws.{own_ends}
use Rattle.classes.proofs.FieldLaws.{fields_few}
use Rattle.machine.specs.declared.Value.{Value}
use Rattle.machine.specs.declared.Value.TheVariants.{Null as nil, Int as int}
use Rattle.machine.specs.Config.{Object}
use Rattle.machine.specs.Machine.{initial_of, initials}
use Rattle.block.specs.Block.{Parts, laid}
use Rattle.block.proofs.Words.{laid_bytes}
use Rattle.representation.specs.Changed.{with_objects, with_field}
use Rattle.initials.specs.Initials.{with_newest, NewObject, FieldsBecome}

-- The first k of these values, and null for each of the others.
abbrev started_to : List Value → ℕ → List Value
started_to vs k = take k vs ++ replicate (length vs - k) nil

started_none : (vs : List Value) (count : ℕ) → length vs ≡ count → replicate count nil ≡ started_to vs 0
started_none vs count h = let z : length vs - 0 ≡ count = omega arith in rw z

started_all : (vs : List Value) (k : ℕ) → length vs ≤ k → started_to vs k ≡ vs
started_all vs k h = let z : length vs - k ≡ 0 = omega arith in rw (z, append-nil (take k vs)) (take_all k vs h)

module _ (vs : List Value) (k : ℕ) (h : k < length vs) where
  next_null : started_to vs k ≡ take k vs ++ nil ∷ replicate (length vs - (k + 1)) nil
  next_null = let z : length vs - k ≡ suc (length vs - (k + 1)) = omega arith in rw z

  next_started : started_to vs (k + 1) ≡ take k vs ++ get_or vs k nil ∷ replicate (length vs - (k + 1)) nil
  next_started =
      let z : k + 1 ≡ suc k = omega arith in
      ap (λ (l : List Value). l ++ replicate (length vs - (k + 1)) nil) (ap (λ (n : ℕ). take n vs) z ∙ take-suc vs k nil h)
      ∙ append_snoc (take k vs) (get_or vs k nil) (replicate (length vs - (k + 1)) nil)

  started_put : (v : Value) → get_or vs k nil ≡ v → set (started_to vs k) k v ≡ started_to vs (k + 1)
  started_put v e =
      rw (next_null, next_started, e) (set_at (take k vs) nil (replicate (length vs - (k + 1)) nil) v k (length-take-le k vs (omega arith)))

  started_kept : get_or vs k nil ≡ nil → started_to vs k ≡ started_to vs (k + 1)
  started_kept e = rw (next_null, next_started, e)

  started_there : k < length (started_to vs k)
  started_there = rw next_null (omega (arith, length-append (take k vs) (nil ∷ replicate (length vs - (k + 1)) nil), length-take-le k vs (omega arith)))

-- the initial values of some fields, by number
length_initials : (p : Program) (ds : List Slot) → length (initials p ds) ≡ length ds
length_initials p [] = refl
length_initials p (d ∷ ds) = ap suc (length_initials p ds)

initial_at : (p : Program) (ds : List Slot) (k : ℕ) (d : Slot) → k < length ds → get_or (initials p ds) k nil ≡ initial_of p (get_or ds k d).type
initial_at p [] k d h = absurd (omega arith)
initial_at p (x ∷ ds) zero d h = refl
initial_at p (x ∷ ds) (suc k) d h = initial_at p ds k d (omega arith)

-- the fields from record `from` on
module _ (s : List ℕ) (from count : ℕ) where
  abbrev pub initials_from : List Value
  initials_from = initials (program_of s) (run (field_at s) from count)

  many_initials : length initials_from ≡ count
  many_initials = length_initials (program_of s) (run (field_at s) from count) ∙ length_run (field_at s) from count

  module _ (k : ℕ) (h : k < count) where
    some_initials : k < length initials_from
    some_initials = omega (arith, many_initials)

    record_initial : get_or initials_from k nil ≡ initial_of (program_of s) (record_word s fields (from + k) 1)
    unfolding field_at
    record_initial =
        initial_at (program_of s) (run (field_at s) from count) k (field_at s 0) (omega (arith, length_run (field_at s) from count))
        ∙ ap (λ (d : Slot). initial_of (program_of s) d.type) (get_d_run (field_at s) from count k (field_at s 0) h)

    module _ (type number : ℕ) (t : type ≡ record_word s fields (from + k) 1) (n : number ≡ int_of (program_of s)) where
      zero_initial : type ≡ number → get_or initials_from k nil ≡ int (pos 0)
      zero_initial e = rw (record_initial, eq-eqb (record_word s fields (from + k) 1) (int_of (program_of s)) (sym t ∙ e ∙ n))

      null_initial : (type ≡ number → ⊥) → get_or initials_from k nil ≡ nil
      null_initial e = rw (record_initial, ne_eqb (record_word s fields (from + k) 1) (int_of (program_of s)) (λ q. e (t ∙ q ∙ sym n)))

-- what put_field ensures, of the bytes d before and e after
abbrev pub PutsField : List ℕ → List ℕ → ℕ → ℕ → Value → Type 0
PutsField d e n k v =
    (p : Parts) (x : Object)
    → d ≡ bytes (laid p)
    → n < length p.objects
    → k < length (get_or p.objects n x).fields
    → e ≡ bytes (laid (with_objects p (set p.objects n (with_field (get_or p.objects n x) k v))))

-- one more value put into a field of the newest object
field_becomes :
    {b d e : List ℕ} (n k : ℕ) (old vs : List Value) (v : Value) → FieldsBecome b d n old vs → k < length vs → PutsField d e n k v
    → FieldsBecome b e n old (set vs k v)
field_becomes n k old vs v h l put p c at is =
    let y : Object = record { class = c; shut = false; fields = vs } in
    let there : get_or (p.objects ++ y ∷ []) n y ≡ y = get_or_at p.objects y [] y n (sym at) in
    let long : n < length (p.objects ++ y ∷ []) = omega (arith, length-append p.objects (y ∷ [])) in
    put (with_newest p c vs) y (h p c at is) long (rw there l)
    ∙ rw (there, set_at p.objects y [] (with_field y k v) n (sym at))

-- a block with a new object is as long as every block
pub new_long : {b : List ℕ} {n count : ℕ} → NewObject b n count → length b ≡ BLOCK
new_long {count = count} x = rw x.block (laid_bytes (with_newest x.parts x.class (replicate count nil)))

-- From the block b to the block d the first k fields of object n, the newest, got their initial values; its fields are the `count` from record `from` of s on.
pub record Started (s : List ℕ) (from count : ℕ) (b d : List ℕ) (n k : ℕ) : Type 0 where
  pub becomes : FieldsBecome b d n (replicate count nil) (started_to (initials_from s from count) k)

module _ {s : List ℕ} {from count : ℕ} {b : List ℕ} {n : ℕ} where
  pub started : Started s from count b b n 0
  started =
      let e = started_none (initials_from s from count) count (many_initials s from count) in
      record { becomes = λ p c at is. is ∙ ap (λ (vs : List Value). bytes (laid (with_newest p c vs))) e }

  module _ {d : List ℕ} {k : ℕ} (h : Started s from count b d n k) where
    -- the block is as long as it was
    pub started_long : NewObject b n count → length d ≡ BLOCK
    started_long x =
        rw (h.becomes x.parts x.class x.place x.block) (laid_bytes (with_newest x.parts x.class (started_to (initials_from s from count) k)))

    pub all_started : count ≤ k → FieldsBecome b d n (replicate count nil) (initials_from s from count)
    all_started l p c at is =
        let e = started_all (initials_from s from count) k (omega (arith, many_initials s from count)) in
        h.becomes p c at is ∙ ap (λ (vs : List Value). bytes (laid (with_newest p c vs))) e

    -- the next field, by the type that its record says
    module _ (type number : ℕ) (l : k < count) (t : type ≡ record_word s fields (from + k) 1) (m : number ≡ int_of (program_of s)) where
      pub starts_zero : {e : List ℕ} → type ≡ number → PutsField d e n k (int (pos 0)) → Started s from count b e n (k + 1)
      starts_zero q put =
          let vs = initials_from s from count in
          let r = some_initials s from count k l in
          record {
            becomes = rw (← started_put vs k r (int (pos 0)) (zero_initial s from count k l type number t m q))
                (field_becomes n k (replicate count nil) (started_to vs k) (int (pos 0)) h.becomes (started_there vs k r) put);
          }

      pub stays_null : (type ≡ number → ⊥) → Started s from count b d n (k + 1)
      stays_null q =
          let vs = initials_from s from count in
          record { becomes = rw (← started_kept vs k (some_initials s from count k l) (null_initial s from count k l type number t m q)) h.becomes }

-- the fields of a class are those of its run of records
module _ {s : List ℕ} {t c : ℕ} {d : Declared} (w : WithinLayout s) (h : DeclaredAs s t d) (e : d ≡ is_class c) where
  module _ (from count : ℕ) (f : from ≡ sum_below (own_fields s) c) (k : count ≡ own_fields s c) where
    own_fields_lem : fields_of (program_of s) t ≡ run (field_at s) from count
    unfolding class_at
    own_fields_lem = rw (type_class h e, f, k)

    many_fields : length (fields_of (program_of s) t) ≡ count
    many_fields = ap length own_fields_lem ∙ length_run (field_at s) from count

    pub class_asks : {b : List ℕ} {n : ℕ} → NewObject b n (length (fields_of (program_of s) t))
        → (from + count ≤ count_of s fields) × (count ≤ CLASS_FIELDS) × NewObject b n count
    class_asks x = (own_ends w fields c (class_there h e).0 from count f k, omega (arith, fields_few w t, many_fields), rw many_fields at x)

    pub class_started : {b e : List ℕ} {n : ℕ} → FieldsBecome b e n (replicate count nil) (initials_from s from count)
        → FieldsBecome b e n (replicate (length (fields_of (program_of s) t)) nil) (initials (program_of s) (fields_of (program_of s) t))
    class_started g = rw (many_fields, own_fields_lem) g

-- no other type has any
no_values : {b : List ℕ} {n : ℕ} (p : Program) (ds : List Slot) → ds ≡ [] → FieldsBecome b b n (replicate (length ds) nil) (initials p ds)
no_values p [] e q c at is = is
no_values p (d ∷ ds) e q c at is = absurd (let z : ◌≡◌ {A = ℕ} 0 1 = cc in omega arith)

pub none_started : {s : List ℕ} {t : ℕ} {d : Declared} {b : List ℕ} {n : ℕ} → DeclaredAs s t d → ((c : ℕ) → d ≡ is_class c → ⊥)
    → FieldsBecome b b n (replicate (length (fields_of (program_of s) t)) nil) (initials (program_of s) (fields_of (program_of s) t))
none_started {s} {t} {d} h o =
    no_values (program_of s) (fields_of (program_of s) t) (but_class fields_from [] refl (λ i. refl) refl refl h o)
