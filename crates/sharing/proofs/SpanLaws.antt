-- The loops of `forks`: a law for each turn and each end.
use Prim.Native.Nat.{ℕ, ◌+◌, ◌*◌, ◌<◌, ◌≤◌}
use mathlib.Core.Path.{◌≡◌, sym, ◌∙◌}
use mathlib.Core.List.{List}
use mathlib.Core.Logic.{⊎_elim}
use native.Mathlib.Nat.{eq-or-lt_of_le}
use native.Mathlib.Omega.{arith}
use lib.ListN.{length, get_or, set, length-set}
use lib.Seq.{get_or-set_same, get_or-set_other}
use Rattle.limits.specs.Limits.{NODES}
use Rattle.script.specs.declared.Section.TheVariants.{Nodes as nodes}
use Rattle.script.specs.Section.{count_of, node_word}
use Rattle.script.specs.Syntax.{n_fork}
use Rattle.script.specs.Reading.{view_at, expr_at}
use Rattle.script.specs.Statements.{WithinLayout}
use Rattle.script.proofs.Reading.{first, in_order}
use Rattle.typing.specs.Typing.{fv, shares}
use Rattle.names.specs.Ranks.{Ranked, Indexed}
use Rattle.slices.specs.Bits.{flag_of}
use Rattle.names.specs.Facts.{Facts}
use Rattle.names.specs.Filling.{Nameless}
use Rattle.masks.specs.Free.{SPAN, FreeMask, mask_at, mark_at, Along, Ahead, ForkMark, ForkMarks, IsFork, Like}
use Rattle.masks.proofs.MarkLaws.{mark_none, mark_done}
use Rattle.masks.proofs.FreeLaws.{free_ranked, fork_kind, fork_nameless, Marks}
use Rattle.sharing.proofs.LikeLaws.{like_self, like_then, like_back, like_set, ranked_like, indexed_like, mask_like, mark_like}

-- A store for node n, right before the nodes that are known, and one past them.
module _ (P : ℕ → ℕ → Type 0) (value value' : ℕ → ℕ) (n : ℕ) (other : (i : ℕ) → (i ≡ n → ⊥) → value' i ≡ value i) where
  along_more : (j : ℕ) → P n (value' n) → Along P value (n + 1) j → Along P value' n j
  along_more j p along i b t =
      ⊎_elim
      (λ (e : n ≡ i). rw (sym e) p)
      (λ (l : n < i). rw (other i (λ e. omega arith)) (along i (omega arith) t))
      (eq-or-lt_of_le b)

  along_before : (j : ℕ) → j ≤ n → Along P value 0 j → Along P value' 0 j
  along_before j h along i b t = rw (other i (λ e. omega arith)) (along i b t)

module _ (s : List ℕ) (layout : WithinLayout s) where
  -- Before the first span no fork is marked.
  pub marks_none : (facts : List ℕ) → Nameless s facts → ForkMarks s 0 facts
  marks_none facts z n b h p q r v =
      rw (z.zero n h (fork_nameless s n 0 (fork_kind s n p q r v))) (mark_none s facts (fv (expr_at s p)) (fv (expr_at s q)))

  -- Past every rank the marks are the answers.
  pub marks_all : (facts facts' : List ℕ) (count bound : ℕ) → Like s facts facts' → Ranked s facts count → Indexed s facts → count ≤ bound → ForkMarks s bound facts' → Facts s facts'
  marks_all facts facts' count bound l ranked indexed past marks =
      record { count = count; ranked = ranked'; indexed = indexed_like s facts facts' layout l count ranked indexed; forks = record { flags = flags } }
    where
      ranked' : Ranked s facts' count
      ranked' = ranked_like l ranked

      flags : (n a b c : ℕ) → n < count_of s nodes → view_at s n ≡ n_fork a b c → get_or facts' (2 * n) 0 ≡ flag_of (shares (fv (expr_at s a)) (fv (expr_at s b)))
      flags n a b c h v =
          mark_done
          s
          facts'
          (fv (expr_at s a))
          (fv (expr_at s b))
          bound
          (get_or facts' (2 * n) 0)
          (λ x i.
          let u = free_ranked s layout facts' a (in_order s layout n h a (rw v first)).there x i in
          (u.0, (omega (arith, ranked'.below u.1), u.1)))
          (marks n (omega arith) h a b c v)

-- With no fork nothing is asked of the words of forks.
pub no_forks : (s facts : List ℕ) (count : ℕ) → Ranked s facts count → Indexed s facts → ((n : ℕ) → n < count_of s nodes → node_word s n 0 ≡ 8 → ⊥) → Facts s facts
no_forks s facts count ranked indexed none =
    record { count = count; ranked = ranked; indexed = indexed; forks = record { flags = λ n a b c h v. absurd (none n h (fork_kind s n a b c v)) } }

-- What the loop over a span keeps: the masks of the nodes from n on, and their marks with those of the nodes before. Ranks are those of the table at the start.
pub record SpanTo (s : List ℕ) (start : ℕ) (masks facts facts' : List ℕ) (n : ℕ) : Type 0 where
  pub within : n ≤ count_of s nodes
  pub masks_size : length masks ≡ NODES
  pub like : Like s facts facts'
  pub masked : Along (FreeMask s facts start) (mask_at masks) n (count_of s nodes)
  pub after : Along (ForkMark s facts (start + SPAN)) (mark_at facts') n (count_of s nodes)
  pub before : Along (ForkMark s facts start) (mark_at facts') 0 n

pub span_none : (s : List ℕ) (start : ℕ) (masks facts : List ℕ) (n : ℕ) → n ≡ count_of s nodes → length masks ≡ NODES → ForkMarks s start facts → SpanTo s start masks facts facts n
span_none s start masks facts n e p marks =
    record {
      within = omega arith;
      masks_size = p;
      like = like_self;
      masked = λ i b h. absurd (omega arith);
      after = λ i b h. absurd (omega arith);
      before = λ i b h. marks i b (omega arith);
    }

pub span_end : (s : List ℕ) (start : ℕ) (masks facts facts' : List ℕ) (n : ℕ) → SpanTo s start masks facts facts' n → n ≤ 0 → Like s facts facts' × ForkMarks s (start + SPAN) facts'
span_end s start masks facts facts' n h z = (h.like, λ i b l p q r v. mark_like h.like (h.after i (omega arith) l p q r v))

module _ (s : List ℕ) (layout : WithinLayout s) (start : ℕ) (masks facts facts' : List ℕ) (ranks : (count : ℕ) × Ranked s facts count)
    (n k : ℕ) (h : SpanTo s start masks facts facts' n) (turn : n ≡ k + 1) where
  pub span_ahead : Ahead s facts' masks start k
  span_ahead =
      record {
        layout = layout;
        there = omega (arith, h.within);
        count = ranks.0;
        ranked = ranked_like h.like ranks.1;
        size = h.masks_size;
        later = λ i b l. mask_like h.like (h.masked i (omega arith) l);
      }

  span_within : (k < length masks) × (2 * k < length facts')
  span_within =
      let most : count_of s nodes ≤ NODES = layout.counts_are.within nodes in
      (omega (arith, h.within, h.masks_size), omega (arith, h.within, h.like.size, ranks.1.size))

  pub span_step : (m r : ℕ) → FreeMask s facts' start k m → Marks s (set masks k m) k (get_or facts' (2 * k) 0) r → ((IsFork s k → ⊥) → r ≡ get_or facts' (2 * k) 0) → SpanTo s start (set masks k m) facts (set facts' (2 * k) r) k
  span_step m r p q f =
      record {
        within = omega (arith, h.within);
        masks_size = length-set masks k m ∙ h.masks_size;
        like = like_then h.like (like_set s facts' k r span_within.1 f);
        masked = masked;
        after =
            along_more
            (ForkMark s facts (start + SPAN))
            (mark_at facts')
            (mark_at (set facts' (2 * k) r))
            k
            other
            (count_of s nodes)
            (rw (get_or-set_same facts' (2 * k) r 0 span_within.1) (q facts start masked (h.before k (omega arith) (omega arith))))
            (rw turn at h.after);
        before =
            along_before (ForkMark s facts start) (mark_at facts') (mark_at (set facts' (2 * k) r)) k other k (omega arith) (λ i b t. h.before i b (omega arith));
      }
    where
      other : (i : ℕ) → (i ≡ k → ⊥) → mark_at (set facts' (2 * k) r) i ≡ mark_at facts' i
      other i d = get_or-set_other facts' (2 * k) (2 * i) r 0 (λ e. d (omega arith))

      masked : Along (FreeMask s facts start) (mask_at (set masks k m)) k (count_of s nodes)
      masked =
          along_more
          (FreeMask s facts start)
          (mask_at masks)
          (mask_at (set masks k m))
          k
          (λ i d. get_or-set_other masks k i m 0 d)
          (count_of s nodes)
          (rw (get_or-set_same masks k m 0 span_within.0) (mask_like (like_back h.like) p))
          (rw turn at h.masked)
