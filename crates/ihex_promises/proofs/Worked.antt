-- The texts worked by hand come out as they were worked. Assumes nothing.
use Prim.Native.Nat.{ℕ}
use mathlib.Core.List.{List}
use mathlib.Core.Path.{refl, ap, ◌∙◌}
use native.Mathlib.Omega.{arith}
use lib.ListN.{set}
use lib.Seq.{set-set, set_comm}
use Rattle.cells.specs.Each.{each_from, each, over}
use Rattle.ihex_layout.specs.Layout.{digits, sum, record_line, digit_of, byte_at, sum_of}
use Rattle.ihex_write.specs.Writer.{written_of}
use Rattle.ihex_read.specs.Reader.{behind, lines_in, place_of, pairs, is_whole, fault_of, ended, judged, obeyed, carried, reading_of}
use Rattle.ihex_promises.specs.Named.{uppers_after, names, any_names}
use Rattle.ihex_promises.specs.Worked.{characters, Worked}
use Rattle.ihex_promises.proofs.Stores.{stored_in, text_stored}

pub worked : Worked
unfolding each_from each over digits sum record_line digit_of byte_at sum_of behind lines_in place_of pairs is_whole fault_of
    ended judged obeyed carried reading_of written_of uppers_after names any_names characters stored_in
worked =
    record {
      the_end = refl;
      an_upper_part = refl;
      sixteen_bytes = refl;
      later_wins = refl;
      both_endings = refl;
      goes_back = (refl, λ array h. text_stored _ array 131072 h refl);
      wins_after_others = (
        refl,
        λ array h.
            let first : List ℕ = set array 0x10010 0x11 in
            text_stored _ array 131072 h refl ∙
            (set_comm (set first 0x10011 0x12) 0x11 0x10011 0x33 0x22 (λ e. omega arith) ∙
            ap (λ (l : List ℕ). set l 0x11 0x33) (set-set first 0x10011 0x12 0x22)),
      );
      small_last = (refl, λ array h. text_stored _ array 65536 h refl);
      large_last = (refl, λ array h. text_stored _ array 131072 h refl);
      small_no_data = (refl, λ array h. text_stored _ array 65536 h refl);
      large_no_data = (refl, λ array h. text_stored _ array 131072 h refl);
      first_named = refl;
      second_named = refl;
      before_unnamed = refl;
      after_unnamed = refl;
      type_04_unnamed = refl;
      last_upper_part = refl;
      named_after = refl;
      empty_line = refl;
      a_blank = refl;
      lone_cr = refl;
      too_short = refl;
      end_with_data = refl;
      short_upper = refl;
      wrong_checksum = refl;
      wrong_sum_first = refl;
      other_type = refl;
      other_type_bare = refl;
      addresses_unjudged = refl;
      past_64_kib = refl;
      outside_array = refl;
      no_data = refl;
      past_the_last = refl;
      upper_part_1 = refl;
      upper_part_2 = refl;
      empty_text = refl;
      no_end = refl;
      no_end_place = refl;
      text_behind = refl;
      text_behind_place = refl;
      nonsense_after = refl;
      nonsense_after_place = refl;
      size_first = refl;
      size_before_room = refl;
    }
