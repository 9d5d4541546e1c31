-- Every sample of the table gets its answers: by computation from Check and from the machine's run, and from there on bytes.
use mathlib.Core.Path.{◌≡◌, refl, sym, ap, ◌∙◌}
use mathlib.Core.Bool.{Bool, true, ◌&&◌}
use mathlib.Core.List.{List, map}
use Prim.Native.Nat.{ℕ, ◌<◌, ◌≤◌}
use lib.Dec.{eqb, leb, ltb}
use lib.ListN.{length}
use borrow.Author.Tests.{eq-eqb}
use Rattle.words.specs.Word.{word_at, bytes}
use Rattle.words.specs.Integer.{integer}
use Rattle.limits.specs.Limits.{BLOCK, CHOICES, FLAGS}
use Rattle.script.specs.Lists.{◌∈◌, run, sum_below, named, count_in}
use Rattle.script.specs.Section.{sections, body_at, count_of, end_of, record_at, record_word}
use Rattle.script.specs.Syntax.{declaration_at}
use Rattle.script.specs.Reading.{kind_of, view_at, last_exprs, expr_at, own_signatures, own_fields, own_methods, signature_at, interface_at, field_at, method_at, class_at, program_of}
use Rattle.script.specs.Asking.{first_no, first_out_of, lowest_in}
use Rattle.script.specs.Questions.{length_test, within_test, counts_test, placed_from, places_test, interface_test, interfaces_test, owners_test, type_test, interface_type_test, class_type_test, types_test, all_of, parts_from, uses_in, node_test, nodes_test, run_start, has_name, fresh_test, names_test, layout_questions}
use Rattle.script.proofs.Tests.{says_yes, decides_and, decides_eq, decides_le, decides_lt, decides_all}
use Rattle.std.specs.declared.result.Result.TheVariants.{Ok, Err}
use Rattle.typing.specs.Answers.{Verdict}
use Rattle.typing.specs.Members.{values_to, value_at, reach, below, meaning, own_method, method_in, type_in, field_in}
use Rattle.typing.specs.Typing.{without, fv, is_in, shares, answer, bodies_from, bodies_of, walk}
use Rattle.typing.specs.Check.{names_in, joins_test, classes_test, member_questions, check_of, verdict_number}
use Rattle.machine.specs.Config.{Config, code_of}
use Rattle.machine.specs.Stops.{stop_number}
use Rattle.machine.specs.Machine.{limits, move, choice, initial}
use Rattle.machine.specs.Silent.{silent_from, most_silent}
use Rattle.machine.specs.WellFormed.{WellFormed}
use Rattle.machine.specs.Runs.{Report, look, report}
use Rattle.block.specs.Rows.{filled}
use Rattle.block.specs.Block.{encode}
use Rattle.block.proofs.Fits.{all_small}
use Rattle.calls.specs.Calls.{Checked, Ran, checked_of, silent_of, start_asked, start_of, flags_of}
use Rattle.samples.specs.Samples.{Trial, Sample, Tried, Sampled, nodes_alone, nodes_with_class, nodes_with_field, nodes_with_method, samples, silent_samples}
use Rattle.calls.proofs.Replies.{start_writes, offer_reply, run_reply, run_holds}
use Rattle.calls.proofs.Runs.{number_some}
use Rattle.samples.proofs.Tables.{in_map}

-- what a run of the machine shows of a trial, and what the trial says, each with all 63 flags
abbrev shown : List ℕ → List ℕ → Report → Trial
shown s ns r =
    record { choices = ns; stop = stop_number r.stop; read = r.read; moves = r.moves; config = r.config; flags = flags_of s r.config }

abbrev trial_of : List ℕ → Trial → Trial
trial_of s x = shown s x.choices (report (code_of s) limits initial x.choices)

abbrev stated : Trial → Trial
stated x = record { choices = x.choices; stop = x.stop; read = x.read; moves = x.moves; config = x.config; flags = filled FLAGS x.flags }

-- the whole table, as Check and the machine answer
all_checked : map (λ x. checked_of x.script) samples ≡ map (λ x. x.checked) samples
unfolding word_at bytes run sum_below named count_in sections body_at count_of end_of record_at record_word declaration_at kind_of view_at last_exprs expr_at own_signatures own_fields own_methods signature_at interface_at field_at method_at class_at program_of first_no first_out_of lowest_in length_test within_test counts_test placed_from places_test interface_test interfaces_test owners_test type_test interface_type_test class_type_test types_test all_of parts_from uses_in node_test nodes_test run_start has_name fresh_test names_test layout_questions values_to value_at reach below meaning own_method method_in type_in field_in without fv is_in shares answer bodies_from bodies_of walk names_in joins_test classes_test member_questions silent_from most_silent check_of checked_of nodes_alone nodes_with_class nodes_with_field nodes_with_method samples
all_checked = refl

all_tried : map (λ x. map (trial_of x.script) x.trials) samples ≡ map (λ x. map stated x.trials) samples
unfolding word_at bytes integer run sum_below named body_at count_of record_at record_word declaration_at kind_of view_at last_exprs expr_at own_fields own_methods method_at interface_at field_at class_at program_of values_to value_at reach below type_in answer move choice look report filled flags_of nodes_alone nodes_with_class nodes_with_field nodes_with_method samples
all_tried = refl

-- what the calls ask of a trial: the script is bytes, Check accepts it, and the choices are not too many
abbrev ready : Sample → Trial → Bool
ready x y = eqb x.checked.number 0 && (all_of (λ n. ltb n 256) x.script && leb (length y.choices) CHOICES)

all_ready : map (λ x. map (ready x) x.trials) samples ≡ map (λ x. map (λ (y : Trial). true) x.trials) samples
unfolding bytes all_of nodes_alone nodes_with_class nodes_with_field nodes_with_method samples
all_ready = refl

in_trials : {B : Type 0} (f g : Sample → Trial → B) → map (λ x. map (f x) x.trials) samples ≡ map (λ x. map (g x) x.trials) samples
    → (x : Sample) → x ∈ samples → (y : Trial) → y ∈ x.trials → f x y ≡ g x y
in_trials f g e x m y k = in_map (f x) (g x) x.trials y (in_map (λ z. map (f z) z.trials) (λ z. map (g z) z.trials) samples x e m) k

-- a reply with number 0 is that of an accepted script
number_none : (s : List ℕ) → (checked_of s).number ≡ 0 → (t : ℕ) × (check_of s ≡ Ok t)
unfolding checked_of
number_none s e = go (check_of s) refl e
  where
    go : (v : Verdict) → check_of s ≡ v → verdict_number v ≡ 0 → (t : ℕ) × (check_of s ≡ Ok t)
    go (Ok t) i e = (t, i)
    go (Err r) i e = absurd (number_some r.question e)

ready_says : (x : Sample) (y : Trial) → ready x y ≡ true → (x.checked.number ≡ 0) × (((n : ℕ) → n ∈ x.script → n < 256) × (length y.choices ≤ CHOICES))
ready_says x y =
    says_yes
    (decides_and (decides_eq x.checked.number 0)
    (decides_and (decides_all (λ n. n < 256) (λ n. ltb n 256) x.script (λ n. decides_lt n 256)) (decides_le (length y.choices) CHOICES)))

-- Run's reply in a trial
abbrev reply_of : Trial → Ran
reply_of x = record { number = 0; place = 0; stop = x.stop; read = x.read; moves = x.moves; block = encode x.config }

-- from the machine's run to the calls
tried : (s : List ℕ) (t : ℕ) (y : Trial) → check_of s ≡ Ok t → ((n : ℕ) → n ∈ s → n < 256) → length y.choices ≤ CHOICES → trial_of s y ≡ stated y
    → (b : List ℕ) → length b ≡ BLOCK → Tried s b y
unfolding start_of start_asked
tried s t y acc small few e b l =
    let i = all_small s small in
    let h = start_writes s i t acc b l in
    let reply = run_reply s i t acc h y.choices few in
    let c : (report (code_of s) limits initial y.choices).config ≡ y.config = ap (λ (z : Trial). z.config) e in
    let w : WellFormed (code_of s) limits t y.config = rw c at (run_holds s i t acc h y.choices few).well in
    let f : flags_of s y.config ≡ filled FLAGS y.flags = ap (λ (d : Config). flags_of s d) (sym c) ∙ ap (λ (z : Trial). z.flags) e in
    record {
      started = rw (acc, eq-eqb (length b) BLOCK l) refl;
      type = t;
      accepted = acc;
      well = w;
      ran = reply ∙ ap (λ (z : Trial). reply_of z) e;
      offered = λ fl m. let o = offer_reply s i t acc (record { is = refl; well = w }) fl m in cc (o, f);
    }

-- the whole table
pub all_samples : (x : Sample) → x ∈ samples → Sampled x
all_samples x m =
    let c = in_map (λ (z : Sample). checked_of z.script) (λ z. z.checked) samples x all_checked m in
    record {
      checked = c;
      tried = λ b l y k.
          let r = ready_says x y (in_trials ready (λ z w. true) all_ready x m y k) in
          let v = number_none x.script (ap (λ (z : Checked). z.number) c ∙ r.0) in
          tried x.script v.0 y v.1 r.1.0 r.1.1 (in_trials (λ z. trial_of z.script) (λ z. stated) all_tried x m y k) b l;
    }

-- and that of Silent
pub all_silent_samples : map (λ x. silent_of x.script x.node) silent_samples ≡ map (λ x. x.told) silent_samples
unfolding word_at bytes run sum_below named count_in sections body_at count_of end_of record_at record_word declaration_at kind_of view_at last_exprs expr_at own_signatures own_fields own_methods signature_at interface_at field_at method_at class_at program_of first_no first_out_of lowest_in length_test within_test counts_test placed_from places_test interface_test interfaces_test owners_test type_test interface_type_test class_type_test types_test all_of parts_from uses_in node_test nodes_test run_start has_name fresh_test names_test layout_questions values_to value_at reach below meaning own_method method_in type_in field_in without fv is_in shares answer bodies_from bodies_of walk names_in joins_test classes_test member_questions silent_from check_of silent_of nodes_alone nodes_with_class silent_samples
all_silent_samples = refl
