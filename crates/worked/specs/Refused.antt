-- Rows of the refusals, worked by hand: each number at its limits, and before the next. The frame would erase the chip,
-- and every byte stays. Assumes nothing.
use Rattle.std.specs.Prelude.{ℕ, true, false, List, [], ◌∷◌, replicate, set}
use Rattle.device.specs.declared.Device.{Device}
use Rattle.device.specs.declared.Mode.{Mode}
use Rattle.device.specs.declared.Mode.TheVariants.{Awake, Deep, UltraDeep}
use Rattle.worked.specs.Worked.{Sent, Row}
use Rattle.worked.specs.Words.{held, enabled, busy, clocked, whole, low, paced, given, came, filled, begun}
use Rattle.worked.specs.Words.{spared, refused, ◌⇒◌, piece, row, sized, lasting, registered}

-- a chip erase, with WEL 1; so many bytes of it
abbrev erase : Sent
erase = whole (0x60 ∷ []) 5

abbrev many : ℕ → List ℕ
many n = 0x60 ∷ replicate n 0x00

-- 1: a size that there is not
abbrev array_of : ℕ → Row
array_of size = sized size (row enabled 0x00 ((erase ⇒ refused 1 enabled 1) ∷ []) [])

-- 1 before 2; 2: a register one byte shorter or longer
abbrev array_first : Row
array_first = registered 127 [] [] (array_of 65535)

abbrev register_of : ℕ → Row
register_of size = registered size [] [] (row enabled 0x00 ((erase ⇒ refused 2 enabled 1) ∷ []) [])

-- 2 before 3, 3 before 4
abbrev register_first : Row
register_first = registered 129 [] [] (row enabled 0x00 ((whole (many 8192) 5 ⇒ refused 2 enabled 8193) ∷ []) [])

abbrev input_first : Row
input_first = row enabled 0x00 ((clocked 8 (many 8192) 5 ⇒ refused 3 enabled 8193) ∷ []) []

-- 4: bits that need a byte more, or a byte less; 17 bits need three bytes
abbrev bits : Row
bits =
    row enabled 0x00
    ((clocked 16 (0x60 ∷ []) 5 ⇒ refused 4 enabled 1) ∷
    (clocked 8 [] 5 ⇒ refused 4 enabled 0) ∷
    (clocked 17 (0x60 ∷ 0x00 ∷ []) 5 ⇒ refused 4 enabled 2) ∷
    (clocked 16 (0x60 ∷ 0x00 ∷ 0x00 ∷ []) 5 ⇒ refused 4 enabled 3) ∷
    (clocked 18446744073709551615 (0x60 ∷ []) 5 ⇒ refused 4 enabled 1) ∷
    (clocked 17 (0x05 ∷ 0x00 ∷ 0x00 ∷ []) 5 ⇒ came "read" 1 2 enabled (0xFF ∷ 0x12 ∷ 0x7F ∷ [])) ∷
    [])
    []

-- 4 before 5; 5: a byte of output too few, and exactly enough; 5 before 6
abbrev bits_first : Row
bits_first = row enabled 0x00 ((given 0 (clocked 9 (0x60 ∷ []) 5) ⇒ spared 4 enabled 0) ∷ []) []

abbrev room : Row
room =
    row enabled 0x00
    ((given 0 erase ⇒ spared 5 enabled 0) ∷
    (given 1 (low (0x60 ∷ 0x00 ∷ []) 5) ⇒ spared 5 enabled 1) ∷
    (given 2 (low (0x05 ∷ 0x00 ∷ []) 5) ⇒ filled "read" "none" 1 1 enabled (0xFF ∷ 0x02 ∷ [])) ∷
    (given 0 (whole [] 5) ⇒ filled "nothing" "too few bits" 0 0 enabled []) ∷
    [])
    []

abbrev room_first : Row
room_first = row (busy 60000001) 0x00 ((given 0 erase ⇒ spared 5 (busy 60000001) 0) ∷ []) []

-- 6: busy ticks up to 60,000,000 are accepted, in a part that is awake; 6 before 7
abbrev most_busy : Row
most_busy =
    row (busy 60000000) 0x00 ((whole (0x05 ∷ 0x00 ∷ []) 1 ⇒ came "read" 1 1 (busy 59999999) (0xFF ∷ 0x11 ∷ [])) ∷ []) []

abbrev asleep_and : Mode → Row
asleep_and mode =
    row (held true false true false false mode 1) 0x00
    ((whole (0xAB ∷ []) 1 ⇒ refused 6 (held true false true false false mode 1) 1) ∷ []) []

abbrev record_first : Row
record_first =
    lasting (12 ∷ 2000 ∷ 7000 ∷ 50000 ∷ 400000 ∷ 1600000 ∷ 400 ∷ 60000001 ∷ [])
    (row (busy 60000001) 0x00 ((erase ⇒ refused 6 (busy 60000001) 1) ∷ []) [])

-- 7: a duration of 0, or of one tick too many, at each of the eight places
abbrev usual : List ℕ
usual = 12 ∷ 2000 ∷ 7000 ∷ 50000 ∷ 400000 ∷ 1600000 ∷ 400 ∷ 20000 ∷ []

abbrev unfair : ℕ → ℕ → Row
unfair place ticks = lasting (set usual place ticks) (row enabled 0x00 ((erase ⇒ refused 7 enabled 1) ∷ []) [])

-- Each number with every fault of a higher number beside it, on a record whose flags are all 1: none of them moves, and
-- no tick is counted.
abbrev full : Mode → ℕ → Device
full mode busy = held true true true true true mode busy

abbrev faulty : ℕ → ℕ → ℕ → List ℕ → Device → Sent → ℕ → Row
faulty number array register ticks d sent room =
    lasting ticks
    (sized array
    (registered register [] [] (row d 0x00 ((given room (paced 1001 sent) ⇒ spared number d room) ∷ []) [])))

-- one tick is enough at each
abbrev shortest : Row
shortest =
    lasting (1 ∷ 1 ∷ 1 ∷ 1 ∷ 1 ∷ 1 ∷ 1 ∷ 1 ∷ [])
    (row enabled 0x00 ((erase ⇒ begun 0 131072 (busy 1) 1) ∷ []) (piece 0 131072 0xFF ∷ []))

unfoldable pub refused_rows : List Row
refused_rows =
    array_of 131073 ∷
    array_of 65535 ∷
    array_of 65537 ∷
    array_of 262144 ∷
    array_of 1 ∷
    array_first ∷
    register_of 127 ∷
    register_of 129 ∷
    register_of 64 ∷
    register_of 256 ∷
    register_first ∷
    input_first ∷
    bits ∷
    bits_first ∷
    room ∷
    room_first ∷
    most_busy ∷
    asleep_and Deep ∷
    asleep_and UltraDeep ∷
    record_first ∷
    unfair 0 0 ∷
    unfair 1 0 ∷
    unfair 2 0 ∷
    unfair 3 0 ∷
    unfair 4 0 ∷
    unfair 5 0 ∷
    unfair 6 0 ∷
    unfair 7 0 ∷
    unfair 0 60000001 ∷
    unfair 1 60000001 ∷
    unfair 2 60000001 ∷
    unfair 3 60000001 ∷
    unfair 4 60000001 ∷
    unfair 5 60000001 ∷
    unfair 6 60000001 ∷
    shortest ∷
    faulty 1 65537 127 (set usual 7 0) (full Awake 60000001) (clocked 8 (many 8192) 5) 0 ∷
    faulty 2 65536 127 (set usual 7 0) (full UltraDeep 8) (clocked 8 (many 8192) 5) 0 ∷
    faulty 3 131072 128 (set usual 7 0) (full Deep 8) (clocked 8 (many 8192) 5) 0 ∷
    faulty 4 65536 128 (set usual 7 0) (full UltraDeep 8) (clocked 9 (0x60 ∷ []) 5) 0 ∷
    faulty 5 131072 128 (set usual 7 0) (full UltraDeep 8) erase 0 ∷
    faulty 6 65536 128 (set usual 7 0) (full UltraDeep 8) erase 1 ∷
    faulty 7 131072 128 (set usual 7 0) (full Awake 8) erase 1 ∷
    faulty 8 65536 128 usual (full Awake 8) erase 1 ∷
    []
