-- The output in steps is what each position reads: what is driven, with FFh before and behind it, then the bits that were not clocked.
-- Assumes nothing.
use Prim.Native.Nat.{ℕ, ◌+◌, ◌-◌, ◌*◌, ◌/◌, ◌%◌, ◌^◌, ◌<◌, ◌≤◌}
use mathlib.Core.Bool.{Bool, true, false}
use mathlib.Core.List.{List}
use mathlib.Core.Logic.{◌≢◌}
use mathlib.Core.Path.{◌≡◌, refl, sym, ap, ◌∙◌}
use native.Mathlib.Decide.{ℕ_discrete}
use native.Mathlib.Nat.{div-eq_of_lt, mod-add-mod}
use native.Mathlib.Omega.{arith}
use lib.Bits.{bit_or, or_zero_r}
use lib.ListN.{length, get_or, set, length-set}
use lib.Pow.{pow_mono}
use lib.Seq.{get_or-set_same, get_or-set_other}
use Rattle.cells.specs.Each.{Cell, each, over, stored}
use Rattle.cells.specs.Range.{range, filled, copied}
use Rattle.cells.proofs.Places.{is_each, each_alike, each_then, over_in, over_out, over_alike}
use Rattle.cells.proofs.Runs.{range_in, range_before, range_behind, range_of_lem, begins, runs_on, ends}
use Rattle.opcodes.specs.declared.Source.{Source}
use Rattle.device.specs.declared.Device.{Device}
use Rattle.output.specs.Output.{Store, store, store_of, start_of, byte_from, drive_at, unclocked}
use Rattle.output.specs.Steps.{sent, clipped}

-- a copy from the reduced address on is what a read from the address on drives
pub from_address : (memory : List ℕ) (address first end : ℕ) (xs : List ℕ)
    → each (copied first end memory (address % length memory)) xs ≡ each (stored (range first end) (λ k. byte_from (store memory) address (k - first))) xs
from_address memory address first end xs =
    each_alike (copied first end memory (address % length memory)) (stored (range first end) (λ k. byte_from (store memory) address (k - first))) xs
    (λ k l.
    over_alike (range first end) (range first end) (λ k x. get_or memory ((address % length memory + (k - first)) % length memory) 0)
    (λ k x. byte_from (store memory) address (k - first)) k (get_or xs k 0) refl
    (λ c. ap (λ (i : ℕ). get_or memory i 0) (mod-add-mod address (length memory) (k - first))))

-- of a position that was clocked whole no bit is left
whole : (bits k : ℕ) → 8 ≤ bits - 8 * k → unclocked bits k ≡ 0
whole bits k h = let p : 2 ^ 8 ≤ 2 ^ (bits - 8 * k) = pow_mono h in div-eq_of_lt (omega arith)

-- so its byte stays
kept : (bytes bits k x : ℕ) → (k < bytes → 8 ≤ bits - 8 * k) → x ≡ clipped bytes bits k x
kept bytes bits k x h = by (range 0 bytes k) refl
  where
    by : (b : Bool) → range 0 bytes k ≡ b → x ≡ clipped bytes bits k x
    by true e =
        sym
        (over_in (range 0 bytes) (λ k x. bit_or x (unclocked bits k)) k x e ∙
        (ap (bit_or x) (whole bits k (h (range_of_lem 0 bytes k e).1)) ∙ or_zero_r x))
    by false e = sym (over_out (range 0 bytes) (λ k x. bit_or x (unclocked bits k)) k x e)

-- a frame of whole bytes is not clipped
pub clip_none : (bytes bits : ℕ) (xs : List ℕ) → (bits + 7) / 8 ≡ bytes → bits % 8 ≡ 0 → xs ≡ each (clipped bytes bits) xs
clip_none bytes bits xs n z = is_each (clipped bytes bits) xs xs refl (λ k l. kept bytes bits k (get_or xs k 0) (λ m. omega arith))

-- else its last byte is, and no other
pub clip_last : (bytes bits : ℕ) (xs : List ℕ) → (bits + 7) / 8 ≡ bytes → bytes ≤ length xs → bits % 8 ≢ 0
    → set xs (bytes - 1) (bit_or (get_or xs (bytes - 1) 0) (0xFF / 2 ^ (bits % 8))) ≡ each (clipped bytes bits) xs
clip_last bytes bits xs n l z = is_each (clipped bytes bits) xs clip (length-set xs last _) (λ k m. by k m (ℕ_discrete k last))
  where
    last : ℕ
    last = bytes - 1

    clip : List ℕ
    clip = set xs last (bit_or (get_or xs last 0) (0xFF / 2 ^ (bits % 8)))

    by : (k : ℕ) → k < length xs → Dec (k ≡ last) → get_or clip k 0 ≡ clipped bytes bits k (get_or xs k 0)
    by k m (yes q) =
        let e : bits % 8 ≡ bits - 8 * last = omega arith in
        rw q
        (get_or-set_same xs last _ 0 (omega arith) ∙
        (ap (λ (t : ℕ). bit_or (get_or xs last 0) (0xFF / 2 ^ t)) e ∙
        sym (over_in (range 0 bytes) (λ k x. bit_or x (unclocked bits k)) last (get_or xs last 0) (range_in 0 bytes last (omega arith) (omega arith)))))
    by k m (no q) = get_or-set_other xs last k _ 0 q ∙ kept bytes bits k (get_or xs k 0) (λ p. omega arith)

-- What is driven and what is not, side by side, is the line of a read.
pub pieces : (source : Source) (stand : ℕ → Device) (wp : Bool) (array register : Store) (input : List ℕ) (first end bytes : ℕ) (xs : List ℕ) → first ≤ end
    → end ≤ bytes
    → each (filled end bytes 0xFF) (each (sent source stand wp array register input first end) (each (filled 0 first 0xFF) xs))
    ≡ each (stored (range 0 bytes) (drive_at source first end stand wp array register input)) xs
pieces source stand wp array register input first end bytes xs p q =
    let before = runs_on (begins f 0 bytes xs (omega arith)) (λ k x. 0xFF) first _ (omega arith) (omega arith) refl (λ k x l h. out k (range_before first end k h)) in
    let between = runs_on before (λ k x. byte_from (m k) start (k - first)) end _ p q refl (λ k x l h. into k (range_in first end k l h)) in
    let behind = runs_on between (λ k x. 0xFF) bytes _ q (omega arith) refl (λ k x l h. out k (range_behind first end k l)) in
    ends behind (omega arith)
  where
    m : ℕ → Store
    m k = store_of source (stand k) wp array register

    start : ℕ
    start = start_of source input

    f : Cell
    f k x = drive_at source first end stand wp array register input k

    out : (k : ℕ) → range first end k ≡ false → 0xFF ≡ drive_at source first end stand wp array register input k
    out k e = rw e

    into : (k : ℕ) → range first end k ≡ true → byte_from (m k) start (k - first) ≡ drive_at source first end stand wp array register input k
    into k e = rw e

-- What is on the line, with 1 for each bit that was not clocked, is what each position reads.
pub line_clipped : (line : ℕ → ℕ) (bits bytes : ℕ) (xs : List ℕ)
    → each (clipped bytes bits) (each (stored (range 0 bytes) line) xs) ≡ each (stored (range 0 bytes) (λ k. bit_or (line k) (unclocked bits k))) xs
unfolding over
line_clipped line bits bytes xs =
    each_then (clipped bytes bits) (stored (range 0 bytes) line) (stored (range 0 bytes) (λ k. bit_or (line k) (unclocked bits k))) xs
    (λ k l. by k (get_or xs k 0) (range 0 bytes k) refl)
  where
    by : (k x : ℕ) (b : Bool) → range 0 bytes k ≡ b
        → clipped bytes bits k (stored (range 0 bytes) line k x) ≡ stored (range 0 bytes) (λ k. bit_or (line k) (unclocked bits k)) k x
    by k x true e = rw e
    by k x false e = rw e
