-- The tables of examples hold, by computation: a row that does not is refused at its own `refl`, with the two values.
use mathlib.Core.Path.{◌≡◌, refl}
use mathlib.Core.Bool.{true}
use Rattle.script.specs.Lists.{◌∈◌, Every, run, named}
use Rattle.script.specs.Syntax.{declaration_at}
use Rattle.script.specs.Questions.{all_of}
use Rattle.script.proofs.Lists.{every_in}
use Rattle.typing.specs.Members.{values_to, value_at, reach, below, meaning, own_method, method_in, type_in, field_in}
use Rattle.std.specs.declared.result.Result.TheVariants.{Ok}
use Rattle.typing.specs.Typing.{without, fv, is_in, shares, answer, bodies_from, bodies_of, walk}
use Rattle.machine.specs.Machine.{locate, move, choice}
use Rattle.machine.specs.Silent.{silent_from, most_silent}
use Rattle.machine.specs.Decide.{well_formed_test}
use Rattle.machine.specs.Runs.{look, report}
use Rattle.machine.specs.AllMoves.{example_nodes, example_program, example_code, Example, examples, ExampleOffer, example_offers, ExampleRun, example_runs}
use Rattle.machine.specs.AllMoves.{ExampleHolders, example_holders, quiet_at, ExampleForm, example_forms, ExampleCount, example_counts, ExampleHolds, OfferHolds, RunHolds, HoldersHold, FormHolds, CountHolds}

outcomes : Every (λ x. choice example_code x.room x.config x.position ≡ x.outcome) examples
unfolding named declaration_at values_to value_at reach below type_in answer move choice example_nodes example_code examples
outcomes =
    (refl, (refl, (refl, (refl, (refl, (refl, (refl, (refl, (refl, (refl, (refl, (refl, (refl, (refl, (refl, (refl, (refl, (refl, (refl, (refl, (refl, (refl, (refl, (refl, (refl, (refl, (refl, (refl, (refl, (refl, (refl, (refl, (refl, (refl, (refl, (refl, (refl, (refl, (refl, (refl, (refl, (refl, (refl, (refl, (refl, (refl, (refl, (refl, (refl, (refl, (refl, (refl, (refl, (refl, (refl, (refl, (refl, (refl, (refl, (refl, (refl, (refl, (refl, (refl, (refl, (refl, tt))))))))))))))))))))))))))))))))))))))))))))))))))))))))))))))))))

kinds : Every (λ x. quiet_at x.config.tree (locate x.config.tree x.position) ≡ x.is_silent) examples
unfolding example_nodes example_code examples
kinds =
    (refl, (refl, (refl, (refl, (refl, (refl, (refl, (refl, (refl, (refl, (refl, (refl, (refl, (refl, (refl, (refl, (refl, (refl, (refl, (refl, (refl, (refl, (refl, (refl, (refl, (refl, (refl, (refl, (refl, (refl, (refl, (refl, (refl, (refl, (refl, (refl, (refl, (refl, (refl, (refl, (refl, (refl, (refl, (refl, (refl, (refl, (refl, (refl, (refl, (refl, (refl, (refl, (refl, (refl, (refl, (refl, (refl, (refl, (refl, (refl, (refl, (refl, (refl, (refl, (refl, (refl, tt))))))))))))))))))))))))))))))))))))))))))))))))))))))))))))))))))

offers : Every (λ x. OfferHolds x) example_offers
unfolding run named move choice example_nodes example_code example_offers
offers =
    (refl, (refl, (refl, (refl, (refl, (refl, (refl, (refl, (refl, tt)))))))))

reports : Every (λ x. RunHolds x) example_runs
unfolding named move choice look report example_nodes example_code example_runs
reports =
    (refl, (refl, (refl, (refl, (refl, (refl, (refl, (refl, (refl, (refl, (refl, (refl, (refl, (refl, (refl, tt)))))))))))))))

holders : Every (λ x. HoldersHold x) example_holders
unfolding run example_holders
holders =
    (refl, (refl, (refl, (refl, (refl, tt)))))

formed : Every (λ x. well_formed_test example_code x.room 2 x.config ≡ true) examples
unfolding named declaration_at all_of values_to value_at reach below meaning own_method method_in type_in field_in without fv is_in shares answer well_formed_test example_nodes example_code examples
formed =
    (refl, (refl, (refl, (refl, (refl, (refl, (refl, (refl, (refl, (refl, (refl, (refl, (refl, (refl, (refl, (refl, (refl, (refl, (refl, (refl, (refl, (refl, (refl, (refl, (refl, (refl, (refl, (refl, (refl, (refl, (refl, (refl, (refl, (refl, (refl, (refl, (refl, (refl, (refl, (refl, (refl, (refl, (refl, (refl, (refl, (refl, (refl, (refl, (refl, (refl, (refl, (refl, (refl, (refl, (refl, (refl, (refl, (refl, (refl, (refl, (refl, (refl, (refl, (refl, (refl, (refl, tt))))))))))))))))))))))))))))))))))))))))))))))))))))))))))))))))))

forms : Every (λ x. FormHolds x) example_forms
unfolding named declaration_at all_of values_to value_at reach below meaning own_method method_in type_in field_in without fv is_in shares answer well_formed_test example_nodes example_code example_forms
forms =
    (refl, (refl, (refl, (refl, (refl, (refl, (refl, (refl, (refl, tt)))))))))

counts : Every (λ x. CountHolds x) example_counts
unfolding silent_from example_nodes example_code example_counts
counts =
    (refl, (refl, (refl, (refl, (refl, (refl, (refl, (refl, (refl, (refl, (refl, (refl, (refl, (refl, (refl, (refl, (refl, (refl, (refl, tt)))))))))))))))))))

-- "the largest such count over all nodes of the script"
pub example_most : most_silent example_code ≡ 3
unfolding run silent_from most_silent example_nodes example_code
example_most = refl

-- The script gets a yes to questions 11 to 15, and its start has type 2.
pub example_typed : walk example_program (bodies_of example_program) ≡ Ok 2
unfolding named declaration_at values_to value_at reach below meaning own_method method_in type_in field_in without fv is_in shares answer bodies_from bodies_of walk example_nodes
example_typed = refl

-- the six tables
pub all_examples : (x : Example) → x ∈ examples → ExampleHolds x
all_examples x m =
    record {
      formed = every_in (λ x. well_formed_test example_code x.room 2 x.config ≡ true) examples formed x m;
      is_silent = every_in (λ x. quiet_at x.config.tree (locate x.config.tree x.position) ≡ x.is_silent) examples kinds x m;
      outcome = every_in (λ x. choice example_code x.room x.config x.position ≡ x.outcome) examples outcomes x m;
    }

pub all_example_offers : (x : ExampleOffer) → x ∈ example_offers → OfferHolds x
all_example_offers x m = every_in (λ x. OfferHolds x) example_offers offers x m

pub all_example_runs : (x : ExampleRun) → x ∈ example_runs → RunHolds x
all_example_runs x m = every_in (λ x. RunHolds x) example_runs reports x m

pub all_example_holders : (x : ExampleHolders) → x ∈ example_holders → HoldersHold x
all_example_holders x m = every_in (λ x. HoldersHold x) example_holders holders x m

pub all_example_forms : (x : ExampleForm) → x ∈ example_forms → FormHolds x
all_example_forms x m = every_in (λ x. FormHolds x) example_forms forms x m

pub all_example_counts : (x : ExampleCount) → x ∈ example_counts → CountHolds x
all_example_counts x m = every_in (λ x. CountHolds x) example_counts counts x m
