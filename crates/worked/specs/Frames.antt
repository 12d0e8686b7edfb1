-- Frames by kind, for rows that send all of a kind. Assumes nothing.
use Rattle.std.specs.Prelude.{ℕ, List, [], ◌∷◌, ◌++◌, map, take}
use Rattle.worked.specs.Words.{counting}

-- each command that needs WEL, complete; the same with a byte more
abbrev pub latched : List (List ℕ)
latched =
    (0x02 ∷ 0x00 ∷ 0x00 ∷ 0x10 ∷ 0x5A ∷ []) ∷
    (0x81 ∷ 0x00 ∷ 0x00 ∷ 0x10 ∷ []) ∷
    (0x20 ∷ 0x00 ∷ 0x00 ∷ 0x10 ∷ []) ∷
    (0x52 ∷ 0x00 ∷ 0x00 ∷ 0x10 ∷ []) ∷
    (0xD8 ∷ 0x00 ∷ 0x00 ∷ 0x10 ∷ []) ∷
    (0x60 ∷ []) ∷
    (0xC7 ∷ []) ∷
    (0x62 ∷ []) ∷
    (0x9B ∷ 0x00 ∷ 0x00 ∷ 0x02 ∷ 0x5A ∷ []) ∷
    (0x01 ∷ 0x84 ∷ []) ∷
    (0x31 ∷ 0x10 ∷ []) ∷
    []

abbrev pub longer : List (List ℕ)
longer = map (λ (frame : List ℕ). frame ++ (0x00 ∷ [])) latched

-- of those the programs and erases of the array
abbrev pub array_frames : List (List ℕ)
array_frames = take 8 latched

-- those that have an address, at 012345h
abbrev pub above : List (List ℕ)
above =
    (0x02 ∷ 0x01 ∷ 0x23 ∷ 0x45 ∷ 0x5A ∷ []) ∷
    (0x81 ∷ 0x01 ∷ 0x23 ∷ 0x45 ∷ []) ∷
    (0x20 ∷ 0x01 ∷ 0x23 ∷ 0x45 ∷ []) ∷
    (0x52 ∷ 0x01 ∷ 0x23 ∷ 0x45 ∷ []) ∷
    (0xD8 ∷ 0x01 ∷ 0x23 ∷ 0x45 ∷ []) ∷
    []

-- each read but that of the status, with a byte of data
abbrev pub reads : List (List ℕ)
reads =
    (0x03 ∷ 0x00 ∷ 0x00 ∷ 0x00 ∷ 0x00 ∷ []) ∷
    (0x0B ∷ 0x00 ∷ 0x00 ∷ 0x00 ∷ 0x00 ∷ 0x00 ∷ []) ∷
    (0x77 ∷ 0x00 ∷ 0x00 ∷ 0x00 ∷ 0x00 ∷ 0x00 ∷ 0x00 ∷ []) ∷
    (0x9F ∷ 0x00 ∷ []) ∷
    (0x15 ∷ 0x00 ∷ []) ∷
    []

-- each control command but ABh and the reset
abbrev pub orders : List (List ℕ)
orders = (0x06 ∷ []) ∷ (0x04 ∷ []) ∷ (0xB9 ∷ []) ∷ (0x79 ∷ []) ∷ []

-- each opcode that is not listed, by itself: of 256 all but 23
abbrev pub unlisted : List (List ℕ)
unlisted =
    map (λ (code : ℕ). code ∷ [])
    ((0x00 ∷ 0x61 ∷ 0x78 ∷ []) ++ counting 0x07 4 ++ counting 0x0C 9 ++ counting 0x16 10 ++ counting 0x21 16 ++
    counting 0x32 32 ++ counting 0x53 13 ++ counting 0x63 20 ++ counting 0x7A 7 ++ counting 0x82 25 ++
    counting 0x9C 3 ++ counting 0xA0 11 ++ counting 0xAC 13 ++ counting 0xBA 13 ++ counting 0xC8 16 ++
    counting 0xD9 23 ++ counting 0xF1 15)
