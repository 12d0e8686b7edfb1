-- The looks are as they are said to be. Assumes nothing.
use mathlib.Core.Path.{refl}
use Rattle.worked.specs.Words.{counting}
use Rattle.worked.specs.Looks.{Looks}

pub looks : Looks
unfolding counting
looks =
    record {
      at_the_beginning = refl;
      up_to_the_end = refl;
      of_any_count = refl;
      reduced = refl;
      reduced_to_0 = refl;
      of_nothing = refl;
      of_the_large = refl;
      of_the_large_reduced = refl;
      of_a_register = refl;
      of_its_end = refl;
      array_too_short = refl;
      array_too_long = refl;
      register_too_short = refl;
      register_too_long = refl;
      length_up_to_the_end = refl;
      length_of_the_count = refl;
      length_in_the_register = refl;
      no_length = refl;
      lies_in_the_array = refl;
      lies_in_the_register = refl;
    }
