-- Intel HEX as it is published. A text is the list of its characters, each by its number. A record is a line of its
-- own: a colon, then a pair of digits for each byte: the length, the address, the type, the data and the checksum.
-- Assumes nothing.
use Rattle.std.specs.Prelude.{ℕ, zero, suc, ◌+◌, ◌-◌, ◌*◌, ◌/◌, ◌%◌, cond, List, [], ◌∷◌, ◌++◌, ltb, eqb, length}
use Rattle.std.specs.Prelude.{◌≡◌, get_or, Option, Some, None, Result}
use Rattle.std.specs.Result.{result_ok}
use Rattle.cells.specs.Range.{range}
use Rattle.ihex_layout.specs.declared.Kind.{Kind}
use Rattle.ihex_layout.specs.declared.UnknownKind.{UnknownKind}

-- the characters that are no digits: the colon, and the line ends
abbrev pub colon : ℕ
colon = 0x3A

abbrev pub line_feed : ℕ
line_feed = 0x0A

abbrev pub carriage_return : ℕ
carriage_return = 0x0D

-- Writing: a digit, in upper case
abbrev pub digit : ℕ → ℕ
digit n = cond (ltb n 10) (0x30 + n) (0x37 + n)

-- a pair of digits for each byte
unfoldable pub digits : List ℕ → List ℕ
digits [] = []
digits (b ∷ bs) = digit (b / 16) ∷ digit (b % 16) ∷ digits bs

unfoldable pub sum : List ℕ → ℕ
sum [] = 0
sum (b ∷ bs) = b + sum bs

-- the byte that makes the sum of all bytes of a record 0, modulo 256
abbrev pub checksum : List ℕ → ℕ
checksum bytes = (256 - sum bytes % 256) % 256

-- the number of a type of records, and the type with a number, if one has it
abbrev pub kind_number : Kind → ℕ
kind_number Kind.Data = 0
kind_number Kind.End = 1
kind_number Kind.Upper = 4

abbrev pub kind_named : ℕ → Option Kind
kind_named n =
    cond (eqb n 0) (Some Kind.Data)
    (cond (eqb n 1) (Some Kind.End)
    (cond (eqb n 4) (Some Kind.Upper)
    None))

-- an answer for a number: its type, or an error if no type has it
abbrev pub Decodes : ℕ → Result Kind UnknownKind → Type 0
Decodes n answer = result_ok answer ≡ kind_named n

-- the length, the address, the type and the data
abbrev pub fields : ℕ → ℕ → List ℕ → List ℕ
fields address kind content = length content ∷ address / 256 ∷ address % 256 ∷ kind ∷ content

-- the line of a record
unfoldable pub record_line : ℕ → ℕ → List ℕ → List ℕ
record_line address kind content =
    colon ∷ digits (fields address kind content ++ checksum (fields address kind content) ∷ [])

-- Reading: the number that a digit stands for, in either case; 256 if the character is no digit
unfoldable pub digit_of : ℕ → ℕ
digit_of c =
    cond (range 0x30 0x3A c) (c - 0x30)
    (cond (range 0x41 0x47 c) (c - 0x37)
    (cond (range 0x61 0x67 c) (c - 0x57)
    256))

-- the byte k of a line: the pair of digits behind the colon and k other pairs; over 255 if it is no such pair
unfoldable pub byte_at : List ℕ → ℕ → ℕ
byte_at line k = digit_of (get_or line (2 * k + 1) 0) * 16 + digit_of (get_or line (2 * k + 2) 0)

-- the length, the address and the type of the record on a line
abbrev pub length_of : List ℕ → ℕ
length_of line = byte_at line 0

abbrev pub address_of : List ℕ → ℕ
address_of line = byte_at line 1 * 256 + byte_at line 2

abbrev pub kind_of : List ℕ → ℕ
kind_of line = byte_at line 3

-- its data, byte k
abbrev pub data_at : List ℕ → ℕ → ℕ
data_at line k = byte_at line (k + 4)

-- how many bytes it has by its length: these four fields, the data and the checksum
abbrev pub asked : List ℕ → ℕ
asked line = length_of line + 5

-- the sum of a line's first n bytes
unfoldable pub sum_of : List ℕ → ℕ → ℕ
sum_of line zero = 0
sum_of line (suc n) = sum_of line n + byte_at line n
