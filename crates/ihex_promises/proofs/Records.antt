-- What a written line says when it is read: the bytes whose digits it has, and then the record's fields. Assumes nothing.
use Prim.Native.Nat.{ℕ, zero, suc, ◌+◌, ◌*◌, ◌/◌, ◌%◌, ◌<◌, ◌≤◌}
use mathlib.Core.Bool.{Bool, true, false, cond, ◌||◌}
use mathlib.Core.List.{List, [], ◌∷◌, ◌++◌}
use mathlib.Core.Path.{◌≡◌, refl, sym, ◌∙◌}
use native.Mathlib.Omega.{arith}
use borrow.Author.Tests.{lt-ltb, eq-eqb, ne_eqb}
use lib.Dec.{ltb, eqb}
use lib.ListN.{length, get_or, take, length-append, get_or-append}
use lib.Seq.{take-suc, take-length}
use Rattle.ihex_layout.specs.Layout.{colon, line_feed, carriage_return, digit, digits, sum, checksum, fields, record_line, byte_at, length_of, address_of, kind_of, data_at, asked, sum_of}
use Rattle.ihex_layout.proofs.Digits.{length_digits, sum_more, checked, byte_read}
use Rattle.ihex_read.specs.Reader.{pairs, is_whole}
use Rattle.ihex_promises.specs.Promises.{Bytes, plain}

-- a digit ends no line
digit_plain : (n : ℕ) → (eqb (digit n) line_feed || eqb (digit n) carriage_return) ≡ false
digit_plain n = by (ltb n 10)
  where
    by : (b : Bool) → (eqb (cond b (0x30 + n) (0x37 + n)) line_feed || eqb (cond b (0x30 + n) (0x37 + n)) carriage_return) ≡ false
    by true = rw (ne_eqb (0x30 + n) line_feed (omega arith), ne_eqb (0x30 + n) carriage_return (omega arith))
    by false = rw (ne_eqb (0x37 + n) line_feed (omega arith), ne_eqb (0x37 + n) carriage_return (omega arith))

-- nor do the digits of bytes
digits_plain : (bytes : List ℕ) → plain (digits bytes) ≡ true
unfolding digits plain
digits_plain [] = refl
digits_plain (b ∷ bytes) = rw (digit_plain (b / 16), digit_plain (b % 16)) (digits_plain bytes)

-- A line of the digits of bytes.
module _ (bytes : List ℕ) (small : Bytes bytes) where
  abbrev line : List ℕ
  line = colon ∷ digits bytes

  -- its first n bytes are pairs of digits
  pairs_read : (n : ℕ) → n ≤ length bytes → pairs line n ≡ true
  unfolding pairs
  pairs_read zero l = refl
  pairs_read (suc n) l = rw (pairs_read n (omega arith), byte_read colon bytes n l (small n)) (lt-ltb (get_or bytes n 0) 256 (small n))

  -- and add up as they did
  sum-read : (n : ℕ) → n ≤ length bytes → sum_of line n ≡ sum (take n bytes)
  unfolding sum_of sum
  sum-read zero l = refl
  sum-read (suc n) l =
      rw (sum-read n (omega arith), byte_read colon bytes n l (small n), take-suc bytes n 0 l) (sym (sum_more (take n bytes) (get_or bytes n 0)))

  -- The first byte tells how many there are.
  module _ (told : get_or bytes 0 0 + 5 ≡ length bytes) where
    -- so all are asked
    all_asked : asked line ≡ length bytes
    all_asked = omega (arith, byte_read colon bytes 0 (omega arith) (small 0))

    -- the line is whole
    all_there : is_whole line ≡ true
    unfolding is_whole
    all_there =
        let e : length line ≡ 2 * length bytes + 1 = omega (arith, length_digits bytes) in
        rw (all_asked, eq-eqb (length line) (2 * length bytes + 1) e) (pairs_read (length bytes) (omega arith))

    -- and all are added up
    all_summed : sum_of line (asked line) ≡ sum bytes
    all_summed = rw (all_asked, sum-read (length bytes) (omega arith), take-length bytes)

-- bytes with one more at the front are bytes
pub front : (b : ℕ) (bytes : List ℕ) → b < 256 → Bytes bytes → Bytes (b ∷ bytes)
front b bytes l s zero = l
front b bytes l s (suc k) = s k

-- so are they with one more at the back
back : (bytes : List ℕ) (b : ℕ) → Bytes bytes → b < 256 → Bytes (bytes ++ b ∷ [])
back [] b s l = front b [] l s
back (c ∷ bytes) b s l = front c (bytes ++ b ∷ []) (s 0) (back bytes b (λ k. s (suc k)) l)

-- and so are the first of them
pub take-small : (n : ℕ) (bytes : List ℕ) → Bytes bytes → Bytes (take n bytes)
take-small zero bytes s k = omega arith
take-small (suc n) [] s k = omega arith
take-small (suc n) (b ∷ bytes) s k = front b (take n bytes) (s 0) (take-small n bytes (λ i. s (suc i))) k

-- the bytes of a record, the checksum last
abbrev pub bytes_of : ℕ → ℕ → List ℕ → List ℕ
bytes_of address kind content = fields address kind content ++ checksum (fields address kind content) ∷ []

-- how many these are
length-bytes : (address kind : ℕ) (content : List ℕ) → length (bytes_of address kind content) ≡ length content + 5
length-bytes address kind content = omega (arith, length-append content (checksum (fields address kind content) ∷ []))

-- a record's line is plain
pub record_plain : (address kind : ℕ) (content : List ℕ) → plain (record_line address kind content) ≡ true
unfolding record_line plain
record_plain address kind content = digits_plain (bytes_of address kind content)

-- A line says a record: it is whole, adds up to 0, and has the record's fields.
pub record Says (line : List ℕ) (address kind : ℕ) (content : List ℕ) : Type 0 where
  pub whole : is_whole line ≡ true
  pub adds_up : sum_of line (asked line) % 256 ≡ 0
  pub long : length_of line ≡ length content
  pub there : address_of line ≡ address
  pub such : kind_of line ≡ kind
  pub bytes : (k : ℕ) → k < length content → data_at line k ≡ get_or content k 0

module _ (address kind : ℕ) (content : List ℕ) (a : address < 65536) (t : kind < 256) (l : length content < 256) (s : Bytes content) where
  -- the fields of a record are bytes
  fields_small : Bytes (fields address kind content)
  fields_small zero = l
  fields_small (suc zero) = omega arith
  fields_small (suc (suc zero)) = omega arith
  fields_small (suc (suc (suc zero))) = t
  fields_small (suc (suc (suc (suc k)))) = s k

  -- and so are all its bytes
  all_small : Bytes (bytes_of address kind content)
  all_small = back (fields address kind content) (checksum (fields address kind content)) fields_small (omega arith)

  -- they are read as they were
  pub record_read : (k : ℕ) → k < length content + 5 → byte_at (record_line address kind content) k ≡ get_or (bytes_of address kind content) k 0
  unfolding record_line
  record_read k i = byte_read colon (bytes_of address kind content) k (omega (arith, length-bytes address kind content)) (all_small k)

  -- a record's line says that record
  pub record_says : Says (record_line address kind content) address kind content
  unfolding record_line
  record_says =
      let told : length content + 5 ≡ length (bytes_of address kind content) = sym (length-bytes address kind content) in
      record {
        whole = all_there (bytes_of address kind content) all_small told;
        adds_up = rw (all_summed (bytes_of address kind content) all_small told) (checked (fields address kind content));
        long = record_read 0 (omega arith);
        there = omega (arith, record_read 1 (omega arith), record_read 2 (omega arith));
        such = record_read 3 (omega arith);
        bytes =
            λ k i.
            let e : k + 4 ≡ suc (suc (suc (suc k))) = omega arith in
            record_read (k + 4) (omega arith) ∙ rw e (get_or-append content (checksum (fields address kind content) ∷ []) 0 k i);
      }
