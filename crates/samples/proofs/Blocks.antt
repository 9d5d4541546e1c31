-- Every block of the table gets its answer: by computation from the test of a configuration, and from there on bytes.
use mathlib.Core.Path.{◌≡◌, refl, sym, ap, ◌∙◌}
use mathlib.Core.Bool.{Bool, true, false, cond, ◌&&◌}
use mathlib.Core.List.{List, [], ◌∷◌, ◌++◌, map, flat_map, flatten}
use mathlib.Core.Option.{none, some}
use Prim.Native.Nat.{ℕ, zero, suc, ◌<◌, ◌≤◌}
use native.Mathlib.Omega.{arith}
use lib.Dec.{eqb, leb, ltb}
use lib.ListN.{length, get_or, length-append}
use borrow.Author.Tests.{eq-eqb, le-leb}
use Rattle.words.specs.Word.{WORD, word_at, bytes}
use Rattle.words.specs.Integer.{low_word, high_word}
use Rattle.limits.specs.Limits.{BLOCK, CHOICES, FLAGS, CLASS_FIELDS}
use Rattle.script.specs.Lists.{◌∈◌, run, sum_below, named, count_in}
use Rattle.script.specs.Section.{sections, body_at, count_of, end_of, record_at, record_word}
use Rattle.script.specs.Syntax.{declaration_at}
use Rattle.script.specs.Reading.{kind_of, view_at, last_exprs, expr_at, own_signatures, own_fields, own_methods, signature_at, interface_at, field_at, method_at, class_at, program_of}
use Rattle.script.specs.Asking.{Decides, first_no, first_out_of, lowest_in}
use Rattle.script.specs.Questions.{length_test, within_test, counts_test, placed_from, places_test, interface_test, interfaces_test, owners_test, type_test, interface_type_test, class_type_test, types_test, all_of, parts_from, uses_in, node_test, nodes_test, run_start, has_name, fresh_test, names_test, layout_questions}
use Rattle.script.proofs.Tests.{says_yes, decides_and, decides_eq, decides_le, decides_lt, decides_all}
use Rattle.std.specs.declared.result.Result.TheVariants.{Ok}
use Rattle.typing.specs.Members.{values_to, value_at, reach, below, meaning, own_method, method_in, type_in, field_in}
use Rattle.typing.specs.Typing.{without, fv, is_in, shares, answer, bodies_from, bodies_of, walk}
use Rattle.typing.specs.Check.{names_in, joins_test, classes_test, member_questions, check_of}
use Rattle.machine.specs.declared.Frame.TheVariants.{Awaits as awaits}
use Rattle.machine.specs.Config.{code_of, Object, Binding, running, returning, Config}
use Rattle.machine.specs.declared.Value.TheVariants.{Null as nil, Ref as ref}
use Rattle.machine.specs.Machine.{field_count, limits, still, moved, move, choice, initial}
use Rattle.machine.specs.Runs.{look, report}
use Rattle.machine.specs.WellFormed.{WellFormed}
use Rattle.machine.specs.Decide.{only, bindings_test, well_formed_test}
use Rattle.machine.proofs.Decide.{decides_well_formed}
use Rattle.soundness.proofs.Promise.{run_keeps}
use Rattle.block.specs.Rows.{filled}
use Rattle.block.specs.Layout.{most}
use Rattle.block.specs.Values.{value_words}
use Rattle.block.specs.Block.{object_words, binding_words, preorder, position_words, frames_of, frame_words, rows, parts_of, encode}
use Rattle.block.specs.Fits.{AllWords, Few, StorableIn, Fits, storable_in_test, all_areas}
use Rattle.block.proofs.Words.{encode_length}
use Rattle.block.proofs.Fits.{areas, decides_stored, all_small, laid_words}
use Rattle.block.proofs.Decode.{decode_encode}
use Rattle.parts.specs.Parts.{objects_test}
use Rattle.parts.proofs.Parts.{objects_encoded, bindings_encoded}
use Rattle.calls.specs.declared.LentQuestion.TheVariants.{BlockObjects, BlockBindings}
use Rattle.calls.specs.Calls.{ask, ask_threads, config_of, parts_asked, block_asked, offered_from, offer_of, ran_from, run_of}
use Rattle.samples.specs.Samples.{configured, variable}
use Rattle.samples.specs.Blocks.{block_script, BlockCase, Judged, object_c, block_cases, BlocksJudged}
use Rattle.calls.proofs.Answers.{accepts}
use Rattle.samples.proofs.Tables.{in_map}

-- the script is bytes and accepted, with type I
block_script_lem : check_of block_script ≡ Ok 2
unfolding word_at bytes run sum_below named count_in sections body_at count_of end_of record_at record_word declaration_at kind_of view_at last_exprs expr_at own_signatures own_fields own_methods signature_at interface_at field_at method_at class_at program_of first_no first_out_of lowest_in length_test within_test counts_test placed_from places_test interface_test interfaces_test owners_test type_test interface_type_test class_type_test types_test all_of parts_from uses_in node_test nodes_test run_start has_name fresh_test names_test layout_questions values_to value_at reach below meaning own_method method_in type_in field_in without fv is_in shares answer bodies_from bodies_of walk names_in joins_test classes_test member_questions check_of block_script
block_script_lem = refl

script_small : (i : ℕ) → get_or block_script i 0 < 256
unfolding bytes all_of block_script
script_small = all_small block_script (says_yes (decides_all (λ n. n < 256) (λ n. ltb n 256) block_script (λ n. decides_lt n 256)) refl)

-- whether a configuration fits in a block, record by record (`fits_test` goes through all words of the block, which takes too long here)
abbrev small_test : {A : Type 0} → (A → List ℕ) → List A → Bool
small_test f l = all_of (λ x. all_of (λ w. ltb w WORD) (f x)) l

decides_small : {A : Type 0} (f : A → List ℕ) (l : List A) → Decides ((x : A) → x ∈ l → AllWords (f x)) (small_test f l)
decides_small f l = decides_all (λ x. AllWords (f x)) _ l (λ x. decides_all (λ (w : ℕ). w < WORD) (λ w. ltb w WORD) (f x) (λ w. decides_lt w WORD))

module _ (count : ℕ → ℕ) (c : Config) where
  abbrev records_test : Bool
  records_test =
      all_of (λ a. leb (length (rows (parts_of c) a)) (most a)) all_areas
      && (all_of (λ (o : Object). eqb (length o.fields) (count o.class)) c.stores.objects
      && (all_of (λ (o : Object). leb (length o.fields) CLASS_FIELDS) c.stores.objects
      && (all_of (storable_in_test (parts_of c)) all_areas
      && (small_test object_words (parts_of c).objects
      && (small_test binding_words (parts_of c).bindings
      && (small_test position_words (parts_of c).positions
      && small_test frame_words (parts_of c).frames))))))

  records_fit : records_test ≡ true → Fits count c
  records_fit e =
      let h =
      says_yes
      (decides_and (decides_all (λ a. length (rows (parts_of c) a) ≤ most a) _ all_areas (λ a. decides_le (length (rows (parts_of c) a)) (most a)))
      (decides_and (decides_all (λ (o : Object). length o.fields ≡ count o.class) _ c.stores.objects (λ o. decides_eq (length o.fields) (count o.class)))
      (decides_and (decides_all (λ (o : Object). length o.fields ≤ CLASS_FIELDS) _ c.stores.objects (λ o. decides_le (length o.fields) CLASS_FIELDS))
      (decides_and (decides_all (StorableIn (parts_of c)) (storable_in_test (parts_of c)) all_areas (decides_stored (parts_of c)))
      (decides_and (decides_small object_words (parts_of c).objects)
      (decides_and (decides_small binding_words (parts_of c).bindings)
      (decides_and (decides_small position_words (parts_of c).positions)
      (decides_small frame_words (parts_of c).frames))))))))
      e
      in
      let few : Few (parts_of c) = areas (λ a. length (rows (parts_of c) a) ≤ most a) h.0 in
      record {
        few = few;
        own_fields_lem = h.1.0;
        few_fields = h.1.1.0;
        values = areas (StorableIn (parts_of c)) h.1.1.1.0;
        words = laid_words (parts_of c) few h.1.1.1.1.0 h.1.1.1.1.1.0 h.1.1.1.1.1.1.0 h.1.1.1.1.1.1.1;
      }

-- the whole table, as the test of a configuration answers, and that all fit
all_tested : map (λ x. well_formed_test (code_of block_script) limits 2 x.config) block_cases ≡ map (λ x. eqb x.number 0) block_cases
unfolding word_at bytes run sum_below named body_at count_of record_at record_word declaration_at kind_of view_at last_exprs expr_at own_signatures own_fields own_methods interface_at field_at method_at class_at program_of all_of values_to value_at reach below meaning own_method method_in type_in field_in answer well_formed_test block_script block_cases
all_tested = refl

-- which part is bad, by the configuration's objects and bindings, if one is
abbrev heap_test : Config → Bool
heap_test c = objects_test (code_of block_script) c.stores.objects

abbrev vars_test : Config → Bool
vars_test c = bindings_test (code_of block_script) c.stores.objects c.stores.bindings

abbrev part_number : Bool → Config → ℕ
part_number well c = cond (heap_test c) (cond (vars_test c) (cond well 0 27) 26) 21

all_numbered : map (λ x. part_number (eqb x.number 0) x.config) block_cases ≡ map (λ x. x.number) block_cases
unfolding word_at bytes run sum_below named body_at count_of record_at record_word declaration_at kind_of view_at last_exprs expr_at own_signatures own_fields own_methods interface_at field_at method_at class_at program_of all_of values_to value_at reach below meaning own_method method_in type_in field_in block_script block_cases
all_numbered = refl

all_fit : map (λ x. records_test (field_count block_script) x.config) block_cases ≡ map (λ x. true) block_cases
unfolding word_at bytes low_word high_word run body_at count_of record_at record_word declaration_at own_fields class_at program_of all_of preorder frames_of filled flat_map flatten block_script block_cases
all_fit = refl

-- from the test of a configuration to the calls
module _ (c : Config) (w : Bool) (e : well_formed_test (code_of block_script) limits 2 c ≡ w) (fit : Fits (field_count block_script) c) where
  formed_as : Decides (WellFormed (code_of block_script) limits 2 c) w
  formed_as = rw e at (decides_well_formed (accepts block_script script_small 2 block_script_lem) limits c)

  asked_as : config_of block_script 2 (encode c) ≡ only w (some c)
  unfolding config_of
  asked_as = rw (decode_encode (field_count block_script) c fit, e) refl

  parts_as : parts_asked block_script 2 (encode c) ≡ ask BlockObjects (heap_test c) (ask BlockBindings (vars_test c) (ask_threads (only w (some c))))
  unfolding parts_asked
  parts_as = rw (objects_encoded block_script c fit, bindings_encoded block_script c fit, asked_as) refl

  offer_number : (fl : List ℕ) (u v a : Bool) → (offered_from block_script (encode c) fl (ask BlockObjects u (ask BlockBindings v (ask_threads (only a (some c)))))).number ≡ cond u (cond v (cond a 0 27) 26) 21
  offer_number fl false v a = refl
  offer_number fl true false a = refl
  offer_number fl true true false = refl
  offer_number fl true true true = refl

  run_number : (ns : List ℕ) (u v a : Bool) → (ran_from block_script (encode c) ns (ask BlockObjects u (ask BlockBindings v (ask_threads (only a (some c)))))).number ≡ cond u (cond v (cond a 0 27) 26) 21
  run_number ns false v a = refl
  run_number ns true false a = refl
  run_number ns true true false = refl
  run_number ns true true true = refl

  offered_as : (fl : List ℕ) → length fl ≡ FLAGS → (offer_of block_script (encode c) fl).number ≡ part_number w c
  unfolding offer_of block_asked
  offered_as fl l = rw (block_script_lem, eq-eqb (length (encode c)) BLOCK (encode_length c), eq-eqb (length fl) FLAGS l, parts_as) (offer_number fl (heap_test c) (vars_test c) w)

  ran_as : (ns : List ℕ) → length ns ≤ CHOICES → (run_of block_script (encode c) ns).number ≡ part_number w c
  unfolding run_of block_asked
  ran_as ns l = rw (block_script_lem, eq-eqb (length (encode c)) BLOCK (encode_length c), le-leb (length ns) CHOICES l, parts_as) (run_number ns (heap_test c) (vars_test c) w)

-- the whole table
judged : (x : BlockCase) → x ∈ block_cases → Judged x
judged x m =
    let e = in_map (λ z. well_formed_test (code_of block_script) limits 2 z.config) (λ z. eqb z.number 0) block_cases x all_tested m in
    let n = in_map (λ z. part_number (eqb z.number 0) z.config) (λ z. z.number) block_cases x all_numbered m in
    let fit = records_fit (field_count block_script) x.config (in_map (λ z. records_test (field_count block_script) z.config) (λ z. true) block_cases x all_fit m) in
    record {
      formed = formed_as x.config (eqb x.number 0) e fit;
      long = encode_length x.config;
      asked = asked_as x.config (eqb x.number 0) e fit;
      offered = λ fl l. offered_as x.config (eqb x.number 0) e fit fl l ∙ n;
      ran = λ ns l. ran_as x.config (eqb x.number 0) e fit ns l ∙ n;
    }

-- the first three moves are those of the one thread, and the third binds x to object 0
abbrev Unlike : List ℕ → Config → Type 0
Unlike ns c = (report (code_of block_script) limits c ns).config.stores.bindings ≡ variable 2 3 nil 0 ∷ [] → ⊥

only_thread : (c d : Config) → look (code_of block_script) limits c ≡ none → choice (code_of block_script) limits c 0 ≡ moved d.stores d.tree
    → ((k : ℕ) → choice (code_of block_script) limits c (suc k) ≡ still) → (c.stores.bindings ≡ variable 2 3 nil 0 ∷ [] → ⊥)
    → ((ns : List ℕ) → Unlike ns d) → (ns : List ℕ) → Unlike ns c
unfolding report
only_thread c d l z k h next [] = h
only_thread c d l z k h next (zero ∷ ns) = rw (l, z) (next ns)
only_thread c d l z k h next (suc n ∷ ns) = rw (l, k n) (only_thread c d l z k h next ns)

-- and that binding stays
kept_apart : (l : List Binding) → l ++ (variable 2 3 (ref 0) 0 ∷ []) ≡ variable 2 3 nil 0 ∷ [] → ⊥
kept_apart [] e = omega (arith, ap (λ (k : List Binding). get_or (value_words (get_or k 0 (variable 0 0 nil 0)).value) 0 0) e)
kept_apart (b ∷ l) e = omega (arith, ap (λ (k : List Binding). length k) e, length-append l (variable 2 3 (ref 0) 0 ∷ []))

unlike : (ns : List ℕ) → Unlike ns initial
unfolding word_at bytes run sum_below named body_at count_of record_at record_word declaration_at kind_of view_at last_exprs expr_at own_signatures own_fields own_methods interface_at field_at method_at class_at program_of all_of values_to value_at reach below own_method method_in type_in field_in without fv is_in shares answer well_formed_test move choice look block_script
unlike =
    let c₁ = configured [] [] (running 1 0 (awaits 0 0 ∷ [])) in
    let c₂ = configured (object_c false ∷ []) [] (returning (ref 0) (awaits 0 0 ∷ [])) in
    let c₃ = configured (object_c false ∷ []) (variable 2 3 (ref 0) 0 ∷ []) (running 2 1 []) in
    let acc = accepts block_script script_small 2 block_script_lem in
    let w : WellFormed (code_of block_script) limits 2 c₃ = says_yes (decides_well_formed acc limits c₃) refl in
    let no_binding : (◌≡◌ {A = List Binding} [] (variable 2 3 nil 0 ∷ []) → ⊥) = λ e. let z : ◌≡◌ {A = ℕ} 0 1 = cc in omega arith in
    only_thread initial c₁ refl refl (λ k. refl) no_binding
    (only_thread c₁ c₂ refl refl (λ k. refl) no_binding
    (only_thread c₂ c₃ refl refl (λ k. refl) no_binding
    (λ ns e. let k = run_keeps acc limits ns c₃ w in kept_apart k.added (sym k.there ∙ e))))

pub all_blocks : BlocksJudged
all_blocks =
    record {
      accepted = block_script_lem;
      judged = judged;
      unreached = λ ns e. unlike ns (ap (λ (c : Config). c.stores.bindings) e);
    }
