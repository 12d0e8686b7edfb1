-- The laws of a record's line and its LF: how long they are, and their pieces stored one behind the other. Assumes nothing.
use Prim.Native.Nat.{ℕ, zero, suc, ◌+◌, ◌-◌, ◌*◌, ◌/◌, ◌%◌, ◌<◌}
use mathlib.Core.List.{List, [], ◌∷◌, ◌++◌}
use mathlib.Core.Path.{◌≡◌, refl, ap, ◌∙◌}
use native.Mathlib.Omega.{arith}
use lib.ListN.{length, get_or, set, length-append}
use lib.Seq.{sets}
use Rattle.std.specs.Int.{to_be_bytes, w16}
use Rattle.std.proofs.lemmas.Nat.{be_bytes_2}
use Rattle.ihex_layout.specs.Layout.{colon, line_feed, digits, sum, checksum, fields, record_line}
use Rattle.ihex_write.proofs.Stores.{Received, one_more}
use Rattle.ihex_layout.proofs.Digits.{digits_append, length_digits}

-- two digits for each byte, five bytes around the data, and two characters around all of them
pub length-line : (address kind : ℕ) (content : List ℕ) → length (record_line address kind content ++ line_feed ∷ []) ≡ 12 + 2 * length content
unfolding record_line
length-line address kind content =
    let check : ℕ = checksum (fields address kind content) in
    let all : List ℕ = fields address kind content ++ check ∷ [] in
    omega (arith, length-append (digits all) (line_feed ∷ []), length_digits all, length-append content (check ∷ []))

-- the two bytes of a 16-bit number, the high one first
pub two_bytes : (n : ℕ) → n < 65536 → to_be_bytes w16 n ≡ n / 256 ∷ n % 256 ∷ []
two_bytes n l =
    be_bytes_2 (n / 256 ∷ n % 256 ∷ []) n refl (λ i. small i) (omega arith)
  where
    small : (i : ℕ) → get_or (n / 256 ∷ n % 256 ∷ []) i 0 < 256
    small zero = omega arith
    small (suc zero) = omega arith
    small (suc (suc i)) = omega arith

-- the pieces: the colon, the length, the address, the type, the data, the checksum and LF
pieces : (address kind : ℕ) (content : List ℕ)
    → colon ∷ digits (length content ∷ []) ++ digits (address / 256 ∷ []) ++ digits (address % 256 ∷ []) ++ digits (kind ∷ []) ++ digits content
    ++ digits (checksum (fields address kind content) ∷ []) ++ line_feed ∷ []
    ≡ record_line address kind content ++ line_feed ∷ []
unfolding digits record_line
pieces address kind content = rw (digits_append content (checksum (fields address kind content) ∷ []))

-- stored one behind the other, they are the line and its LF
pub record_put : (at address kind count total : ℕ) (content xs y₁ y₂ y₃ y₄ y₅ y₆ : List ℕ) → length content ≡ count → total ≡ sum content
    → y₁ ≡ sets (set xs at colon) (at + 1) (digits (count ∷ []))
    → y₂ ≡ sets y₁ (at + 3) (digits (address / 256 ∷ []))
    → y₃ ≡ sets y₂ (at + 5) (digits (address % 256 ∷ []))
    → y₄ ≡ sets y₃ (at + 7) (digits (kind ∷ []))
    → y₅ ≡ sets y₄ (at + 9) (digits content)
    → y₆ ≡ sets y₅ (at + 9 + 2 * count) (digits ((256 - (count + (address / 256 + (address % 256 + (kind + total)))) % 256) % 256 ∷ []))
    → set y₆ (at + 11 + 2 * count) line_feed ≡ sets xs at (record_line address kind content ++ line_feed ∷ [])
unfolding digits sum
record_put at address kind count total content xs y₁ y₂ y₃ y₄ y₅ y₆ n t e₁ e₂ e₃ e₄ e₅ e₆ =
    let check : ℕ = checksum (fields address kind content) in
    let long : length (digits content) ≡ 2 * count = length_digits content ∙ rw n in
    let r₀ : Received xs at (colon ∷ []) (set xs at colon) = record { whole = refl } in
    let r₁ = one_more r₀ (at + 1) (digits (length content ∷ [])) (rw (← n) at e₁) refl in
    let r₂ = one_more r₁ (at + 3) (digits (address / 256 ∷ [])) e₂ refl in
    let r₃ = one_more r₂ (at + 5) (digits (address % 256 ∷ [])) e₃ refl in
    let r₄ = one_more r₃ (at + 7) (digits (kind ∷ [])) e₄ refl in
    let r₅ = one_more r₄ (at + 9) (digits content) e₅ refl in
    let r₆ = one_more r₅ (at + 9 + 2 * length content) (digits (check ∷ [])) (rw (t, ← n) at e₆) (omega arith) in
    let r₇ = one_more r₆ (at + 11 + 2 * count) (line_feed ∷ []) refl (omega (arith, length-append (digits content) (digits (check ∷ [])))) in
    r₇.whole ∙ ap (sets xs at) (pieces address kind content)
