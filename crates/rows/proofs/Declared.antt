-- The rows of interfaces, signatures, classes and fields are the words of the derivation's.
use Prim.Native.Nat.{ℕ, ◌+◌, ◌<◌}
use mathlib.Core.Path.{◌≡◌, refl, ap, ◌∙◌}
use mathlib.Core.Bool.{false}
use mathlib.Core.List.{List, [], ◌∷◌, ◌++◌, append_assoc}
use mathlib.Core.Option.{none, some}
use native.Mathlib.Omega.{arith}
use lib.Dec.{eqb}
use borrow.Author.Tests.{ne_eqb}
use lib.ListN.{length}
use Rattle.grammar.specs.Grammar.{t_name, Msig, Id, id_list, id_join, Fd, Md, Cd}
use Rattle.grammar.specs.Roles.{R_INTERFACE, R_CLASS, R_METHOD, R_SIGNATURE, R_FIELD, R_DECLARED, R_TYPE, R_METHOD_NAME}
use Rattle.grammar.specs.Files.{Numbering, words_all, sum_all, id_words, msig_words, msigs_of, cd_words, fd_words}
use Rattle.rows.specs.Rows.{Item, row_item, rows_with, owned, interface_row, signature_row, class_row, field_row}
use Rattle.rows.specs.Items.{plain_item, items, type_item, items_all, items_msig, items_id, items_fd, items_md, items_cd}
use Rattle.rows.proofs.NodeRows.{type_word_lem}
use Rattle.rows.proofs.Lacking.{Lacks, lacks_append, lacks_all, Record, lacks_type, lacks_plain, lacks_high, lacks_items, rows_skip, owned_skip, rows_each, owned_each}

abbrev pub record_role : (r : ℕ) → 0 < r → r < R_DECLARED → Record r
record_role r h g = record { least = h; most = g }

-- ( p : t ) : t
abbrev pub msig_rest : Numbering → Msig → List Item
msig_rest k s = plain_item ∷ plain_item ∷ plain_item ∷ type_item k s.takes ∷ plain_item ∷ plain_item ∷ type_item k s.gives ∷ []

pub lacks_rest : (k : Numbering) (s : Msig) {r : ℕ} → Record r → Lacks r (msig_rest k s)
unfolding Lacks
lacks_rest k s h = (
  lacks_plain h,
  (lacks_plain h, (lacks_plain h, (lacks_type k s.takes h, (lacks_plain h, (lacks_plain h, (lacks_type k s.gives h, tt)))))),
)

-- Nothing more is counted for the declaration before.
pub record Ends (l : List Item) : Type 0 where
  pub no_signature : owned R_SIGNATURE l ≡ 0
  pub no_field : owned R_FIELD l ≡ 0
  pub no_method : owned R_METHOD l ≡ 0

ones : {A : Type 0} (l : List A) → sum_all (λ a. 1) l ≡ length l
unfolding sum_all
ones [] = refl
ones (a ∷ l) = omega (arith, ones l)

zeros : {A : Type 0} (l : List A) → sum_all (λ a. 0) l ≡ 0
unfolding sum_all
zeros [] = refl
zeros (a ∷ l) = omega (arith, zeros l)

pub is_interface : Record R_INTERFACE
is_interface = record_role R_INTERFACE (omega arith) (omega arith)

pub is_class : Record R_CLASS
is_class = record_role R_CLASS (omega arith) (omega arith)

pub is_signature : Record R_SIGNATURE
is_signature = record_role R_SIGNATURE (omega arith) (omega arith)

pub is_field : Record R_FIELD
is_field = record_role R_FIELD (omega arith) (omega arith)

pub is_method : Record R_METHOD
is_method = record_role R_METHOD (omega arith) (omega arith)

-- Signatures of an interface.
owned_signature : (k : Numbering) (s : Msig) (l : List Item) → owned R_SIGNATURE (items_msig k R_SIGNATURE s ++ l) ≡ 1 + owned R_SIGNATURE l
unfolding owned
owned_signature k s l =
    omega (
      arith,
      owned_skip R_SIGNATURE (msig_rest k s) l (lacks_rest k s is_interface) (lacks_rest k s is_class) (lacks_rest k s is_signature),
    )

no_join : (k : Numbering) (ms : List Msig) (l : List Item)
    → eqb (row_item ((items_all (items_msig k R_SIGNATURE) ms ++ (plain_item ∷ [])) ++ l) 0).role R_TYPE ≡ false
unfolding items_all
no_join k [] l = refl
no_join k (s ∷ ms) l = refl

signatures_owned : (k : Numbering) (ms : List Msig) (l : List Item) → owned R_SIGNATURE l ≡ 0
    → owned R_SIGNATURE ((items_all (items_msig k R_SIGNATURE) ms ++ (plain_item ∷ [])) ++ l) ≡ length ms
unfolding owned
signatures_owned k ms l h =
    rw (append_assoc (items_all (items_msig k R_SIGNATURE) ms) (plain_item ∷ []) l)
    (omega (arith, owned_each R_SIGNATURE (items_msig k R_SIGNATURE) (λ a. 1) (owned_signature k) ms (plain_item ∷ l), ones ms, h))

lacks_signatures : (k : Numbering) (ms : List Msig) {r : ℕ} → Record r → (R_SIGNATURE ≡ r → ⊥) → Lacks r (items_all (items_msig k R_SIGNATURE) ms ++ (plain_item ∷ []))
unfolding Lacks
lacks_signatures k ms {r} h g =
    lacks_append r (items_all (items_msig k R_SIGNATURE) ms) (plain_item ∷ [])
    (lacks_all r (items_msig k R_SIGNATURE) (λ s. (g, lacks_rest k s h)) ms)
    (lacks_plain h, tt)

pub interface_row_lem :
    (k : Numbering) (i : Id) (l : List Item)
    → Ends l
    → rows_with R_INTERFACE (interface_row (length k.type_names)) (items_id k i ++ l)
    ≡ id_words k i ++ rows_with R_INTERFACE (interface_row (length k.type_names)) l
unfolding rows_with interface_row items_id owned
interface_row_lem k (id_list i ms) l h =
    rw (
      no_join k ms l,
      signatures_owned k ms l h.no_signature,
      rows_skip R_INTERFACE (interface_row (length k.type_names)) (items_all (items_msig k R_SIGNATURE) ms ++ (plain_item ∷ [])) l (lacks_signatures k ms is_interface (λ e. omega (arith, e))),
    )
    refl
interface_row_lem k (id_join i a b) l h = rw (type_word_lem k (t_name a), type_word_lem k (t_name b)) refl

-- Signatures.
signature_row_lem :
    (k : Numbering) (s : Msig) (l : List Item)
    → rows_with R_SIGNATURE (signature_row (length k.type_names)) (items_msig k R_SIGNATURE s ++ l)
    ≡ msig_words k s ++ rows_with R_SIGNATURE (signature_row (length k.type_names)) l
unfolding rows_with signature_row
signature_row_lem k s l =
    rw (
      type_word_lem k s.takes,
      type_word_lem k s.gives,
      rows_skip R_SIGNATURE (signature_row (length k.type_names)) (msig_rest k s) l (lacks_rest k s is_signature),
    )
    refl

pub signature_rows :
    (k : Numbering) (i : Id) (l : List Item)
    → rows_with R_SIGNATURE (signature_row (length k.type_names)) (items_id k i ++ l)
    ≡ words_all (msig_words k) (msigs_of i) ++ rows_with R_SIGNATURE (signature_row (length k.type_names)) l
unfolding rows_with items_id words_all
signature_rows k (id_list i ms) l =
    rw (append_assoc (items_all (items_msig k R_SIGNATURE) ms) (plain_item ∷ []) l)
    (rows_each (λ l. Unit {0}) R_SIGNATURE (signature_row (length k.type_names)) (items_msig k R_SIGNATURE) (msig_words k) (λ a l p. tt) (λ a l p. signature_row_lem k a l) ms (plain_item ∷ l) tt).1
signature_rows k (id_join i a b) l = refl

-- What interfaces and classes lack.
pub lacks_id : (k : Numbering) (i : Id) {r : ℕ} → Record r → (R_INTERFACE ≡ r → ⊥) → (R_SIGNATURE ≡ r → ⊥) → Lacks r (items_id k i)
unfolding Lacks items_id
lacks_id k (id_list i ms) h f g = (f, (lacks_high R_DECLARED h (omega arith), (lacks_plain h, lacks_signatures k ms h g)))
lacks_id k (id_join i a b) h f g = (
  f,
  (
    lacks_high R_DECLARED h (omega arith),
    (lacks_plain h, (lacks_high R_TYPE h (omega arith), (lacks_plain h, (lacks_high R_TYPE h (omega arith), tt)))),
  ),
)

pub lacks_fd : (k : Numbering) (f : Fd) {r : ℕ} → Record r → (R_FIELD ≡ r → ⊥) → Lacks r (items_fd k f)
unfolding Lacks
lacks_fd k f h g = (g, (lacks_plain h, (lacks_type k f.holds h, tt)))

lacks_brace : {r : ℕ} → Record r → Lacks r (plain_item ∷ [])
unfolding Lacks
lacks_brace h = (lacks_plain h, tt)

-- A method behind its `def`.
abbrev pub md_rest : Numbering → Md → List Item
md_rest k m = items_msig k R_METHOD_NAME m.msig ++ (plain_item ∷ (items k (some m.msig.parameter) m.body ++ (plain_item ∷ [])))

pub lacks_md_rest : (k : Numbering) (m : Md) {r : ℕ} → Record r → Lacks r (md_rest k m)
unfolding Lacks
lacks_md_rest k m {r} h =
    let body = items k (some m.msig.parameter) m.body in
    lacks_append r (items_msig k R_METHOD_NAME m.msig) (plain_item ∷ (body ++ (plain_item ∷ [])))
    (lacks_high R_METHOD_NAME h (omega arith), lacks_rest k m.msig h)
    (lacks_plain h, lacks_append r body (plain_item ∷ []) (lacks_items k (some m.msig.parameter) m.body h) (lacks_plain h, tt))

lacks_md : (k : Numbering) (m : Md) {r : ℕ} → Record r → (R_METHOD ≡ r → ⊥) → Lacks r (items_md k m)
unfolding Lacks items_md
lacks_md k m h g = (g, lacks_md_rest k m h)

-- A class behind its first brace.
abbrev pub cd_rest : Numbering → Cd → List Item
cd_rest k c = items_all (items_fd k) c.fds ++ (items_all (items_md k) c.mds ++ (plain_item ∷ []))

pub lacks_cd :
    (k : Numbering) (c : Cd) {r : ℕ}
    → Record r
    → (R_CLASS ≡ r → ⊥)
    → (R_FIELD ≡ r → ⊥)
    → (R_METHOD ≡ r → ⊥)
    → Lacks r (items_cd k c)
unfolding Lacks items_cd
lacks_cd k c {r} h f g e = (
  f,
  (
    lacks_high R_DECLARED h (omega arith),
    (
      lacks_plain h,
      (
        lacks_high R_TYPE h (omega arith),
        (
          lacks_plain h,
          lacks_append r (items_all (items_fd k) c.fds) (items_all (items_md k) c.mds ++ (plain_item ∷ []))
              (lacks_all r (items_fd k) (λ a. lacks_fd k a h g) c.fds)
              (lacks_append r (items_all (items_md k) c.mds) (plain_item ∷ []) (lacks_all r (items_md k) (λ a. lacks_md k a h e) c.mds) (lacks_plain h, tt)),
        ),
      ),
    ),
  ),
)

-- Fields and methods of a class, counted.
owned_rest :
    (k : Numbering) (r : ℕ) (p q : ℕ) (c : Cd) (l : List Item)
    → ((f : Fd) (l : List Item) → owned r (items_fd k f ++ l) ≡ p + owned r l)
    → ((m : Md) (l : List Item) → owned r (items_md k m ++ l) ≡ q + owned r l)
    → owned r (plain_item ∷ l) ≡ 0
    → owned r (cd_rest k c ++ l) ≡ sum_all (λ f. p) c.fds + sum_all (λ m. q) c.mds
owned_rest k r p q c l f g h =
    rw (
      append_assoc (items_all (items_fd k) c.fds) (items_all (items_md k) c.mds ++ (plain_item ∷ [])) l,
      append_assoc (items_all (items_md k) c.mds) (plain_item ∷ []) l,
    )
    (omega (
      arith,
      owned_each r (items_fd k) (λ a. p) f c.fds (items_all (items_md k) c.mds ++ (plain_item ∷ l)),
      owned_each r (items_md k) (λ a. q) g c.mds (plain_item ∷ l),
      h,
    ))

field_rest : (k : Numbering) (f : Fd) {r : ℕ} → Record r → Lacks r (plain_item ∷ type_item k f.holds ∷ [])
unfolding Lacks
field_rest k f h = (lacks_plain h, (lacks_type k f.holds h, tt))

field_owned : (k : Numbering) (f : Fd) (l : List Item) → owned R_FIELD (items_fd k f ++ l) ≡ 1 + owned R_FIELD l
unfolding owned
field_owned k f l =
    omega (
      arith,
      owned_skip R_FIELD (plain_item ∷ type_item k f.holds ∷ []) l (field_rest k f is_interface) (field_rest k f is_class) (field_rest k f is_field),
    )

method_owned : (k : Numbering) (m : Md) (l : List Item) → owned R_METHOD (items_md k m ++ l) ≡ 1 + owned R_METHOD l
unfolding owned items_md
method_owned k m l =
    omega (arith, owned_skip R_METHOD (md_rest k m) l (lacks_md_rest k m is_interface) (lacks_md_rest k m is_class) (lacks_md_rest k m is_method))

field_none : (k : Numbering) (f : Fd) (l : List Item) → owned R_METHOD (items_fd k f ++ l) ≡ 0 + owned R_METHOD l
field_none k f l =
    omega (
      arith,
      owned_skip R_METHOD (items_fd k f) l
          (lacks_fd k f is_interface (λ e. omega (arith, e)))
          (lacks_fd k f is_class (λ e. omega (arith, e)))
          (lacks_fd k f is_method (λ e. omega (arith, e))),
    )

method_none : (k : Numbering) (m : Md) (l : List Item) → owned R_FIELD (items_md k m ++ l) ≡ 0 + owned R_FIELD l
method_none k m l =
    omega (
      arith,
      owned_skip R_FIELD (items_md k m) l
          (lacks_md k m is_interface (λ e. omega (arith, e)))
          (lacks_md k m is_class (λ e. omega (arith, e)))
          (lacks_md k m is_field (λ e. omega (arith, e))),
    )

past_brace : (r : ℕ) (l : List Item) → Record r → owned r l ≡ 0 → owned r (plain_item ∷ l) ≡ 0
unfolding owned
past_brace r l h e = rw (ne_eqb 0 r (lacks_plain h)) e

pub class_row_lem :
    (k : Numbering) (c : Cd) (l : List Item)
    → Ends l
    → rows_with R_CLASS (class_row (length k.type_names)) (items_cd k c ++ l) ≡ cd_words k c ++ rows_with R_CLASS (class_row (length k.type_names)) l
unfolding rows_with class_row items_cd owned
class_row_lem k c l h =
    let fields : owned R_FIELD (cd_rest k c ++ l) ≡ length c.fds =
    omega (
      arith,
      owned_rest k R_FIELD 1 0 c l (field_owned k) (method_none k) (past_brace R_FIELD l is_field h.no_field),
      ones c.fds,
      zeros c.mds,
    )
    in
    let methods : owned R_METHOD (cd_rest k c ++ l) ≡ length c.mds =
    omega (
      arith,
      owned_rest k R_METHOD 0 1 c l (field_none k) (method_owned k) (past_brace R_METHOD l is_method h.no_method),
      zeros c.fds,
      ones c.mds,
    )
    in
    let none = lacks_append R_CLASS (items_all (items_fd k) c.fds) (items_all (items_md k) c.mds ++ (plain_item ∷ []))
    (lacks_all R_CLASS (items_fd k) (λ a. lacks_fd k a is_class (λ e. omega (arith, e))) c.fds)
    (lacks_append R_CLASS (items_all (items_md k) c.mds) (plain_item ∷ [])
    (lacks_all R_CLASS (items_md k) (λ a. lacks_md k a is_class (λ e. omega (arith, e))) c.mds)
    (lacks_brace is_class))
    in
    rw (
      type_word_lem k (t_name c.implements),
      fields,
      methods,
      rows_skip R_CLASS (class_row (length k.type_names)) (cd_rest k c) l none,
    )
    refl

-- Fields.
field_row_lem :
    (k : Numbering) (f : Fd) (l : List Item)
    → rows_with R_FIELD (field_row (length k.type_names)) (items_fd k f ++ l) ≡ fd_words k f ++ rows_with R_FIELD (field_row (length k.type_names)) l
unfolding rows_with field_row
field_row_lem k f l =
    rw (
      type_word_lem k f.holds,
      rows_skip R_FIELD (field_row (length k.type_names)) (plain_item ∷ type_item k f.holds ∷ []) l (field_rest k f is_field),
    )
    refl

pub field_rows :
    (k : Numbering) (c : Cd) (l : List Item)
    → rows_with R_FIELD (field_row (length k.type_names)) (items_cd k c ++ l)
    ≡ words_all (fd_words k) c.fds ++ rows_with R_FIELD (field_row (length k.type_names)) l
unfolding rows_with items_cd
field_rows k c l =
    let row = field_row (length k.type_names) in
    let rest = items_all (items_md k) c.mds ++ (plain_item ∷ []) in
    rw (append_assoc (items_all (items_fd k) c.fds) rest l)
    ((rows_each (λ l. Unit {0}) R_FIELD row (items_fd k) (fd_words k) (λ a l p. tt) (λ a l p. field_row_lem k a l) c.fds (rest ++ l) tt).1
    ∙ ap (λ w. words_all (fd_words k) c.fds ++ w)
    (rows_skip R_FIELD row rest l
    (lacks_append R_FIELD (items_all (items_md k) c.mds) (plain_item ∷ []) (lacks_all R_FIELD (items_md k) (λ a. lacks_md k a is_field (λ e. omega (arith, e))) c.mds) (lacks_brace is_field))))
