-- Every record and area of the tables gets its answer, by computation.
use mathlib.Core.Path.{◌≡◌, refl}
use mathlib.Core.List.{map}
use Rattle.words.specs.Word.{word_at, bytes}
use Rattle.words.specs.Integer.{integer, low_word, high_word}
use Rattle.script.specs.Lists.{run}
use Rattle.script.specs.Questions.{all_of}
use Rattle.block.specs.declared.Area.TheVariants.{Objects, Bindings}
use Rattle.block.specs.Rows.{word_of}
use Rattle.block.specs.Decode.{same}
use Rattle.parts.specs.Parts.{object_ok_test, binding_ok_test, area_test}
use Rattle.parts.specs.AllAreas.{one_field, object_cases, binding_cases, area_cases}

pub all_object_records : map (λ x. object_ok_test one_field (word_of x.words)) object_cases ≡ map (λ x. x.sound) object_cases
unfolding integer low_word high_word run all_of same object_cases
all_object_records = refl

pub all_binding_records : map (λ x. binding_ok_test (word_of x.words)) binding_cases ≡ map (λ x. x.sound) binding_cases
unfolding integer low_word high_word run same binding_cases
all_binding_records = refl

pub all_object_areas : map (λ x. area_test (object_ok_test one_field) (bytes x.words) Objects) area_cases ≡ map (λ x. x.objects) area_cases
unfolding word_at bytes integer low_word high_word run all_of same area_test area_cases
all_object_areas = refl

pub all_binding_areas : map (λ x. area_test binding_ok_test (bytes x.words) Bindings) area_cases ≡ map (λ x. x.bindings) area_cases
unfolding word_at bytes integer low_word high_word run all_of same area_test area_cases
all_binding_areas = refl
