-- Texts worked by hand. The first three are examples that go round with the published layout. Assumes nothing.
use Rattle.std.specs.Prelude.{ℕ, true, false, List, ◌++◌, [] as nothing, ◌∷◌ as ◌then◌, ◌≡◌, length, set, replicate}
use Prim.Native.Char.{code}
use Prim.Native.String.{String, [], ◌∷◌}
use Rattle.ihex_layout.specs.Layout.{record_line}
use Rattle.ihex_write.specs.Writer.{written, written_of}
use Rattle.ihex_read.specs.Reader.{Verdict, verdict, lines_in, place_of, judged_in, carried, reading, reading_of}
use Rattle.ihex_read.specs.Reader.{array_of}
use Rattle.ihex_promises.specs.Named.{uppers_after, names, any_names}

-- the characters of a text
unfoldable pub characters : String → List ℕ
characters [] = nothing
characters (c ∷ text) = code c then characters text

-- the judgement of a text, for the small array
abbrev pub judgement : String → Verdict
judgement text = judged_in (characters text) 65536

-- a text is accepted for an array of a size, and makes this of it, whatever it holds
abbrev pub Makes : String → ℕ → (List ℕ → List ℕ) → Type 0
Makes text size after =
    (reading_of (characters text) size ≡ reading 0 0)
    × ((array : List ℕ) → length array ≡ size → array_of (characters text) array ≡ after array)

-- the place at which a line of a text begins
abbrev pub place : ℕ → String → ℕ
place k text = place_of k (characters text)

pub record Worked : Type 0 where
  -- the end; the upper part FFFFh; 16 bytes that spell FLUID PROFILE, and NUL, F and L behind it, at 2462h
  pub the_end : record_line 0 1 nothing ≡ characters ":00000001FF"
  pub an_upper_part : record_line 0 4 (0xFF then 0xFF then nothing) ≡ characters ":02000004FFFFFC"
  pub sixteen_bytes : record_line 0x2462 0 (characters "FLUID PROFILE" ++ 0 then characters "FL")
      ≡ characters ":10246200464C5549442050524F46494C4500464C33"
  -- two records of which the later one wins, in lower case, with CR LF, and with no ending behind the last: five bytes
  -- of FFh become these
  pub later_wins : carried 0 (lines_in (characters ":0400000001020304f2\r\n:02000100cafe35\n:00000001ff"))
      (replicate 5 0xFF)
      ≡ 0x01 then 0xCA then 0xFE then 0x04 then 0xFF then nothing
  pub both_endings : judgement ":0400000001020304f2\r\n:02000100cafe35\n:00000001ff" ≡ verdict 0 0
  -- the upper part goes back: A5h at 0020h of upper part 0001, then 5Ah at 0020h of upper part 0000
  pub goes_back : Makes ":020000040001F9\n:01002000A53A\n:020000040000FA\n:010020005A85\n:00000001FF\n" 131072
      (λ array. set (set array 0x10020 0xA5) 0x20 0x5A)
  -- 11h and 12h at 0010h of upper part 0001, then 33h at 0011h of upper part 0000, then 22h at 0011h of upper part 0001
  -- again: it replaces the 12h and nothing else
  pub wins_after_others : Makes
      ":020000040001F9\n:020010001112CB\n:020000040000FA\n:0100110033BB\n:020000040001F9\n:0100110022CC\n:00000001FF\n"
      131072 (λ array. set (set (set array 0x10010 0x11) 0x10011 0x22) 0x11 0x33)
  -- the last byte of the small array, and of the large one; a HEX record without data there leaves it as it was
  pub small_last : Makes ":01FFFF007E83\n:00000001FF\n" 65536 (λ array. set array 0xFFFF 0x7E)
  pub large_last : Makes ":020000040001F9\n:01FFFF008180\n:00000001FF\n" 131072 (λ array. set array 0x1FFFF 0x81)
  pub small_no_data : Makes ":00FFFF0002\n:00000001FF\n" 65536 (λ array. array)
  pub large_no_data : Makes ":020000040001F9\n:00FFFF0002\n:00000001FF\n" 131072 (λ array. array)
  -- two bytes at 0010h of upper part 0001 name two places, not the one before and not the one after; type 04 names none
  pub first_named : names 1 (characters ":020010001112CB") 0x10010 ≡ true
  pub second_named : names 1 (characters ":020010001112CB") 0x10011 ≡ true
  pub before_unnamed : names 1 (characters ":020010001112CB") 0x1000F ≡ false
  pub after_unnamed : names 1 (characters ":020010001112CB") 0x10012 ≡ false
  pub type_04_unnamed : names 0 (characters ":020000040001F9") 0 ≡ false
  -- the upper part is that of the last type 04, and counts for the HEX records after it
  pub last_upper_part : uppers_after 0 (lines_in (characters ":020000040001F9\n:020000040000FA\n")) ≡ 0
  pub named_after : any_names 0 (lines_in (characters ":020000040001F9\n:020010001112CB\n")) 0x10011 ≡ true
  -- 12: an empty line, a blank, CR without LF, a digit too few, an end record with data (its checksum is wrong too), an
  -- upper part of one byte
  pub empty_line : judgement "\n:00000001FF\n" ≡ verdict 12 0
  pub a_blank : judgement ":00000001FF \n" ≡ verdict 12 0
  pub lone_cr : judgement ":00000001FF\r" ≡ verdict 12 0
  pub too_short : judgement ":0000000000\n:00000001F\n" ≡ verdict 12 1
  pub end_with_data : judgement ":0100000100FF\n" ≡ verdict 12 0
  pub short_upper : judgement ":0100000400FB\n" ≡ verdict 12 0
  -- 13: the checksum is one less than it should be, and the next line, which is none, is not looked at; of another type
  -- too
  pub wrong_checksum : judgement ":00000001FE\n:" ≡ verdict 13 0
  pub wrong_sum_first : judgement ":020000021000EB\n" ≡ verdict 13 0
  -- 14: an extended segment address
  pub other_type : judgement ":020000021000EC\n" ≡ verdict 14 0
  -- the length of another type is not judged, nor the addresses of an end record and an upper part
  pub other_type_bare : judgement ":00000002FE\n" ≡ verdict 14 0
  pub addresses_unjudged : judgement ":021234040000B4\n:00123401B9\n" ≡ verdict 0 0
  -- 15: two bytes at FFFFh, though the large array has both; one byte at 10000h of the small one; a record without data
  -- is good anywhere
  pub past_64_kib : judged_in (characters ":02FFFF00000000\n") 131072 ≡ verdict 15 0
  pub outside_array : judgement ":020000040001F9\n:0100000000FF\n:00000001FF\n" ≡ verdict 15 1
  pub no_data : judgement ":020000040005F5\n:0000000000\n:00000001FF\n" ≡ verdict 0 0
  -- 15: two bytes at 1FFFFh of the large array; it has upper part 0001, and no upper part 0002
  pub past_the_last : judged_in (characters ":020000040001F9\n:02FFFF001234BA\n:00000001FF\n") 131072 ≡ verdict 15 1
  pub upper_part_1 : judged_in (characters ":020000040001F9\n:01000000AA55\n:00000001FF\n") 131072 ≡ verdict 0 0
  pub upper_part_2 : judged_in (characters ":020000040002F8\n:01000000AA55\n:00000001FF\n") 131072 ≡ verdict 15 1
  -- 16: nothing at all; no end record, said of the text's end; an LF behind the end record, said of that LF
  pub empty_text : judgement "" ≡ verdict 16 0
  pub no_end : judgement ":0000000000\n" ≡ verdict 16 1
  pub no_end_place : place 1 ":0000000000\n" ≡ 12
  pub text_behind : judgement ":00000001FF\r\n\n" ≡ verdict 16 1
  pub text_behind_place : place 1 ":00000001FF\r\n\n" ≡ 13
  -- 16, not 12: text after the end record, even where it is no HEX record
  pub nonsense_after : judgement ":00000001FF\nnonsense" ≡ verdict 16 1
  pub nonsense_after_place : place 1 ":00000001FF\nnonsense" ≡ 12
  -- 18, before all others: no text at all for an array one byte short; no room for the text of an empty array
  pub size_first : reading_of (characters "") 65535 ≡ reading 18 0
  pub size_before_room : written_of nothing 0 ≡ written 18 0
