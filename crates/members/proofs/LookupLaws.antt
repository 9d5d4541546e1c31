-- What the code of look-ups answers: runs of records and searches in them.
use mathlib.Core.Path.{◌≡◌, refl, sym, ◌∙◌}
use mathlib.Core.Bool.{Bool, true, false, cond, not}
use mathlib.Core.List.{List}
use mathlib.Core.Logic.{⊎_elim}
use mathlib.Core.Option.{Option, none, some, map}
use Prim.Native.Nat.{ℕ, zero, suc, ◌+◌, ◌-◌, ◌<◌, ◌≤◌}
use native.Mathlib.Omega.{arith}
use native.Mathlib.Nat.{eq-or-lt_of_le, le_of_suc-le-suc}
use lib.Dec.{eqb}
use lib.ListN.{length, set}
use lib.Seq.{get_or-set_same, get_or-set_other}
use Rattle.limits.specs.Limits.{INTERFACES, CLASSES, NODES}
use Rattle.std.specs.declared.option.Option.{Option as CodeOption}
use Rattle.std.specs.declared.option.Option.TheVariants.{Some, None}
use Rattle.script.specs.declared.Section.{Section}
use Rattle.script.specs.declared.Section.TheVariants.{Interfaces as interfaces, Signatures as signatures, Classes as classes, Fields as fields, Methods as methods, Nodes as nodes}
use Rattle.script.specs.Lists.{run, sum_below, named}
use Rattle.script.specs.Section.{count_of, record_word}
use Rattle.script.specs.Syntax.{Slot}
use Rattle.script.specs.Reading.{own_signatures, own_fields, own_methods, field_at, class_at, program_of}
use Rattle.script.specs.Asking.{first_out_of}
use Rattle.script.specs.Statements.{WithinLayout}
use Rattle.sections.specs.Laid.{owner_of, own_of, found_of, other_name}
use Rattle.script.proofs.Lists.{sum_more}
use Rattle.subtypes.specs.declared.Declared.{Declared}
use Rattle.subtypes.specs.declared.Declared.TheVariants.{Class as is_class}
use Rattle.typing.specs.Members.{type_in, field_in, field_from}
use Rattle.subtypes.specs.Tables.{STARTS, row_word, RowsTo, Starts}
use Rattle.subtypes.specs.Subtypes.{DeclaredAs}
use Rattle.members.specs.Lookup.{RunsTo, own_named}
use Rattle.subtypes.proofs.SubtypeLaws.{sum_none, type_class, but_class}

module _ {s : List ℕ} (w : WithinLayout s) where
  count_small : (k : Section) → count_of s k ≤ NODES
  count_small interfaces = omega (arith, w.counts_are.within interfaces)
  count_small signatures = omega (arith, w.counts_are.within signatures)
  count_small classes = omega (arith, w.counts_are.within classes)
  count_small fields = omega (arith, w.counts_are.within fields)
  count_small methods = omega (arith, w.counts_are.within methods)
  count_small nodes = omega (arith, w.counts_are.within nodes)

  -- An owner's run ends within the section.
  pub run_ends : (k : Section) (o : ℕ) → o < count_of s (owner_of k) → sum_below (own_of s k) o + own_of s k o ≤ count_of s k
  run_ends interfaces o h = omega (arith, sum_none o)
  run_ends signatures o h = omega (arith, sum_more (own_signatures s) o (count_of s interfaces) h, w.owners_are.of_signatures)
  run_ends classes o h = omega (arith, sum_none o)
  run_ends fields o h = omega (arith, sum_more (own_fields s) o (count_of s classes) h, w.owners_are.of_fields)
  run_ends methods o h = omega (arith, sum_more (own_methods s) o (count_of s classes) h, w.owners_are.of_methods)
  run_ends nodes o h = omega (arith, sum_none o)

  -- So where it begins and ends is a small number.
  pub sum_small :
      (k : Section) (n o sum own : ℕ) → n ≡ count_of s (owner_of k) → o < n → sum ≡ sum_below (own_of s k) o → own ≡ own_of s k o
      → sum + own ≤ NODES
  sum_small k n o sum own e h p q = omega (arith, run_ends k o (rw e at h), count_small k)

pub owners_are : (s : List ℕ) (k owner : Section) (n : ℕ) → owner ≡ owner_of k → n ≡ count_of s owner → n ≡ count_of s (owner_of k)
owners_are s k owner n e h = rw e at h

module _ (s : List ℕ) (k : Section) (base : ℕ) (old : List ℕ) where
  pub no_runs : RunsTo s k base 0 old old
  no_runs = record { starts = λ o h. absurd (omega arith); before = λ i h. refl; after = λ i h. refl }

  -- One more start is stored.
  pub run_more :
      (o start : ℕ) (table : List ℕ) → base + o < length table → start ≡ sum_below (own_of s k) o
      → RunsTo s k base o old table → RunsTo s k base (o + 1) old (set table (base + o) start)
  run_more o start table h e r =
      record {
        starts = λ j l. ⊎_elim
            (λ (q : j ≡ o). rw q (get_or-set_same table (base + o) start 0 h ∙ e))
            (λ (q : j < o). get_or-set_other table (base + o) (base + j) start 0 (omega arith) ∙ r.starts j q)
            (eq-or-lt_of_le (le_of_suc-le-suc (let g : suc j ≤ suc o = omega arith in g)));
        before = λ i l. get_or-set_other table (base + o) i start 0 (omega arith) ∙ r.before i l;
        after = λ i l. get_or-set_other table (base + o) i start 0 (omega arith) ∙ r.after i (omega arith);
      }

  pub runs_done : (n o : ℕ) (table : List ℕ) → n ≡ count_of s (owner_of k) → o ≤ n → n ≤ o → RunsTo s k base o old table → RunsTo s k base (count_of s (owner_of k)) old table
  runs_done n o table e l g r = let q : o ≡ count_of s (owner_of k) = omega arith in rw q at r

-- The rows, and the three tables of runs one after another, which change no row.
pub starts_filled :
    {s : List ℕ} → WithinLayout s → (t₀ t₁ t₂ t₃ : List ℕ) → length t₃ ≡ STARTS → RowsTo s t₀ (count_of s interfaces)
    → RunsTo s signatures 0 (count_of s interfaces) t₀ t₁
    → RunsTo s fields INTERFACES (count_of s classes) t₁ t₂
    → RunsTo s methods (INTERFACES + CLASSES) (count_of s classes) t₂ t₃
    → Starts s t₃
starts_filled {s} w t₀ t₁ t₂ t₃ size rows a b c =
    let m = w.counts_are.within interfaces in
    let n = w.counts_are.within classes in
    record {
      size = size;
      rows = λ i h k l.
          let e = c.after (row_word i k) (omega arith) ∙ b.after (row_word i k) (omega arith) ∙ a.after (row_word i k) (omega arith) in
          rw e (rows i h k l);
      signatures = λ o h.
          let z : 0 + o ≡ o = omega arith in
          c.before o (omega arith) ∙ b.before o (omega arith) ∙ (rw z at (a.starts o h));
      fields = λ o h. c.before (INTERFACES + o) (omega arith) ∙ b.starts o h;
      methods = c.starts;
    }

-- The run of an owner, by where it begins and how long it is.
module _ {s : List ℕ} (w : WithinLayout s) (k : Section) (o : ℕ) (h : o < count_of s (owner_of k)) (from count : ℕ) (p : from ≡ sum_below (own_of s k) o)
    (q : count ≡ own_of s k o) where
  pub own_ends : from + count ≤ count_of s k
  own_ends = omega (arith, run_ends w k o h)

  pub own_small : from + count ≤ NODES
  own_small = omega (arith, own_ends, count_small w k)

  pub own_found : (x : ℕ) (f : CodeOption ℕ) → f ≡ found_of (first_out_of (other_name s k x) from (from + count - from)) → f ≡ found_of (own_named s k o x)
  own_found x f e =
      let z : from + count - from ≡ own_of s k o = omega arith in
      rw (z, p) at e

-- What the code's answer says of a search.
module _ (o : Option ℕ) (f : CodeOption ℕ) (e : f ≡ found_of o) where
  pub found_at : (i : ℕ) → f ≡ Some i → o ≡ some i
  found_at i q = go o (sym e ∙ q)
    where
      go : (x : Option ℕ) → found_of x ≡ Some i → x ≡ some i
      go none y = absurd (let z : ◌≡◌ {A = ℕ} 0 1 = cc in omega arith)
      go (some j) y = let z : j ≡ i = cc in rw z

  pub found_nothing : f ≡ None → o ≡ none
  found_nothing q = go o (sym e ∙ q)
    where
      go : (x : Option ℕ) → found_of x ≡ None → x ≡ none
      go none y = refl
      go (some j) y = absurd (let z : ◌≡◌ {A = ℕ} 0 1 = cc in omega arith)

-- what is found is one of the records that were gone through
out_within : (test : ℕ → Bool) (i n j : ℕ) → first_out_of test i n ≡ some j → j < i + n
unfolding first_out_of
out_within test i zero j e = absurd (let z : ◌≡◌ {A = ℕ} 0 1 = cc in omega arith)
out_within test i (suc n) j e = go (test i) (λ h. out_within test (i + 1) n j h) e
  where
    go : (b : Bool) → (first_out_of test (i + 1) n ≡ some j → j < i + 1 + n) → cond b (first_out_of test (i + 1) n) (some i) ≡ some j → j < i + suc n
    go true more h = omega (arith, more h)
    go false more h = let z : i ≡ j = cc in omega arith

-- an element of a run that has a name is what the first record with that name is read as
pub named_run :
    {A : Type 0} (read : ℕ → A) (name : A → ℕ) (x i n : ℕ)
    → named name x (run read i n) ≡ map read (first_out_of (λ j. not (eqb (name (read j)) x)) i n)
unfolding named run first_out_of
named_run read name x i zero = refl
named_run {A} read name x i (suc n) = go (eqb (name (read i)) x) (named_run read name x (i + 1) n)
  where
    go :
        (b : Bool) → named name x (run read (i + 1) n) ≡ map read (first_out_of (λ j. not (eqb (name (read j)) x)) (i + 1) n)
        → cond b (some (read i)) (named name x (run read (i + 1) n)) ≡ map read (cond (not b) (first_out_of (λ j. not (eqb (name (read j)) x)) (i + 1) n) (some i))
    go true e = refl
    go false e = e

-- A record that is found in a run is there.
pub own_there : {s : List ℕ} (w : WithinLayout s) (k : Section) (o x i : ℕ) (f : CodeOption ℕ) → o < count_of s (owner_of k) → f ≡ found_of (own_named s k o x) → f ≡ Some i → i < count_of s k
own_there {s} w k o x i f h e q =
    omega (arith, run_ends w k o h, out_within (other_name s k x) (sum_below (own_of s k) o) (own_of s k o) i (found_at (own_named s k o x) f e i q))

-- Fields: of a class the first of its run with the name, and no other type has any.
module _ {s : List ℕ} {t : ℕ} {d : Declared} (h : DeclaredAs s t d) (f : ℕ) where
  field_found : {c : ℕ} → d ≡ is_class c → field_in (program_of s) t f ≡ map (λ i. record_word s fields i 1) (own_named s fields c f)
  unfolding field_in type_in class_at field_at
  field_found {c} e = rw (type_class h e, named_run (field_at s) (λ (b : Slot). b.name) f (sum_below (own_fields s) c) (own_fields s c)) (go (own_named s fields c f))
    where
      go : (o : Option ℕ) → map (λ (b : Slot). b.type) (map (field_at s) o) ≡ map (λ i. record_word s fields i 1) o
      go none = refl
      go (some i) = refl

  module _ {c : ℕ} (e : d ≡ is_class c) (found : CodeOption ℕ) (o : found ≡ found_of (own_named s fields c f)) where
    pub field_hit : (i u : ℕ) → found ≡ Some i → u ≡ record_word s fields i 1 → Some u ≡ found_of (field_in (program_of s) t f)
    field_hit i u q p = rw (field_found e, found_at (own_named s fields c f) found o i q, p)

    pub field_miss : found ≡ None → None ≡ found_of (field_in (program_of s) t f)
    field_miss q = rw (field_found e, found_nothing (own_named s fields c f) found o q)

  -- Any other type has no fields.
  pub field_none : ((c : ℕ) → d ≡ is_class c → ⊥) → None ≡ found_of (field_in (program_of s) t f)
  unfolding field_in
  field_none n = sym (but_class (λ x. found_of (field_from f x)) None refl (λ i. refl) refl refl h n)
