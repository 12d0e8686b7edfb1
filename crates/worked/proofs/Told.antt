-- A memory told by what it held at first and the operations since then. What it holds is known without the
-- list of its bytes. Assumes nothing.
use Prim.Native.Nat.{ℕ, zero, suc, ◌+◌, ◌-◌, ◌*◌, ◌%◌, ◌<◌, ◌≤◌}
use mathlib.Core.Bool.{Bool, true, false, cond, ◌&&◌, ◌||◌, and-eq-true_iff}
use mathlib.Core.List.{List, [], ◌∷◌}
use mathlib.Core.Path.{◌≡◌, refl, sym, ap, ◌∙◌}
use native.Mathlib.Nat.{mod-lt, zero-mul}
use native.Mathlib.Omega.{arith}
use borrow.Author.Tests.{leb-true, eqb-true}
use lib.Bits.{bit_or}
use lib.Dec.{leb, eqb}
use lib.ListN.{length, get_or, length-replicate, get_or-replicate}
use Rattle.cells.specs.Each.{Cell, each, over}
use Rattle.cells.specs.Range.{range}
use Rattle.cells.proofs.Places.{get_or-each, length-each, each_alike, over_alike}
use Rattle.cells.proofs.Runs.{range_in, range_before, range_behind}
use Rattle.opcodes.specs.declared.Source.{Source}
use Rattle.opcodes.specs.declared.Source.TheVariants.{Array, Register, Status, Identity, Legacy}
use Rattle.device.specs.declared.Device.{Device}
use Rattle.judge.specs.declared.Action.{Action}
use Rattle.judge.specs.declared.Judged.{Judged}
use Rattle.operations.specs.Operations.{Operation, none, program, erase, cell_of}
use Rattle.output.specs.Output.{store, store_of, start_of, byte_from, line_at, unclocked, read_at}
use Rattle.operations.specs.Bytes.{applied, through}
use Rattle.operations.proofs.Applied.{applied_joined, applied_each, length-applied}
use Rattle.worked.specs.Worked.{Piece, Content, blank, painted, content_of}
use Rattle.worked.proofs.Computed.{Told, told, more, first_at, told_store, apart, inside, one_side, steady_for}
use Rattle.worked.proofs.Computed.{steady_operations, steady_piece, steady_pieces, agrees}
use Rattle.worked.proofs.Halves.{at_each}

-- the memory
unfoldable pub memory_of : Told → List ℕ
memory_of t = applied t.done (content_of t.content)

pub length-blank : (size byte : ℕ) → length (blank size byte) ≡ size
unfolding blank
length-blank size byte = length-replicate {A = ℕ} size byte

pub get_or-blank : (size byte k : ℕ) → k < size → get_or (blank size byte) k 0 ≡ byte
unfolding blank
get_or-blank size byte k l = get_or-replicate {A = ℕ} size k byte 0 l

length-content : (c : Content) → length (content_of c) ≡ c.size
length-content c = length-each (painted c.pieces) (blank c.size c.holds) ∙ length-blank c.size c.holds

get_or-content : (c : Content) (k : ℕ) → k < c.size → get_or (content_of c) k 0 ≡ first_at c k
get_or-content c k l =
    get_or-each (painted c.pieces) (blank c.size c.holds) k 0 (omega (arith, length-blank c.size c.holds))
    ∙
    ap (painted c.pieces k) (get_or-blank c.size c.holds k l)

pub begins_content : (c : Content) → content_of c ≡ memory_of (told c)
unfolding memory_of applied
begins_content c = refl

pub length-told : (t : Told) → length (memory_of t) ≡ t.content.size
unfolding memory_of
length-told t = length-applied t.done (content_of t.content) ∙ length-content t.content

get_or-told : (t : Told) (k : ℕ) → k < t.content.size → get_or (memory_of t) k 0
    ≡ through t.done k (first_at t.content k)
unfolding memory_of
get_or-told t k l =
    ap (λ (xs : List ℕ). get_or xs k 0) (applied_each t.done (content_of t.content)) ∙
    (get_or-each (through t.done) (content_of t.content) k 0 (omega (arith, length-content t.content)) ∙
    ap (through t.done k) (get_or-content t.content k l))

pub goes_on : (os : List Operation) (t : Told) → applied os (memory_of t) ≡ memory_of (more os t)
unfolding memory_of
goes_on os t = sym (applied_joined t.done os (content_of t.content))

-- A read of the memory is a read of the store that is computed.
module _ (array register : Told) (has : 0 < array.content.size) (holds : 0 < register.content.size) where
  fetched : (t : Told) → 0 < t.content.size → (start i : ℕ) → byte_from (store (memory_of t)) start i
      ≡ byte_from (told_store t) start i
  fetched t p start i = rw (length-told t) (get_or-told t ((start + i) % t.content.size) (mod-lt (start + i) p))

  from_source : (source : Source) (d : Device) (wp : Bool) (start i : ℕ)
      → byte_from (store_of source d wp (store (memory_of array)) (store (memory_of register))) start i
      ≡ byte_from (store_of source d wp (told_store array) (told_store register)) start i
  from_source Array d wp start i = fetched array has start i
  from_source Register d wp start i = fetched register holds start i
  from_source Status d wp start i = refl
  from_source Identity d wp start i = refl
  from_source Legacy d wp start i = refl

  on_line : (a : Action) (j : Judged) (stand : ℕ → Device) (wp : Bool) (input : List ℕ) (k : ℕ)
      → line_at a j stand wp (store (memory_of array)) (store (memory_of register)) input k ≡ line_at a j stand wp (told_store array) (told_store register) input k
  on_line Action.Still j stand wp input k = refl
  on_line (Action.Drive source) j stand wp input k =
      ap (λ (b : ℕ). cond (range j.first (j.first + j.driven) k) b 0xFF) (from_source source (stand k) wp (start_of source input) (k - j.first))
  on_line Action.Program j stand wp input k = refl
  on_line (Action.Erase region) j stand wp input k = refl
  on_line Action.Otp j stand wp input k = refl

  pub read_told : (j : Judged) (stand : ℕ → Device) (wp : Bool) (bits : ℕ) (input xs : List ℕ)
      → each (over (range 0 (length input)) (λ k x. read_at j stand wp bits (store (memory_of array)) (store (memory_of register)) input k)) xs
      ≡ each (over (range 0 (length input)) (λ k x. read_at j stand wp bits (told_store array) (told_store register) input k)) xs
  unfolding read_at
  read_told j stand wp bits input xs =
      each_alike (over (range 0 (length input)) real) (over (range 0 (length input)) computed) xs
      (λ k l.
      over_alike (range 0 (length input)) (range 0 (length input)) real computed k (get_or xs k 0) refl
      (λ c. ap (λ (b : ℕ). bit_or b (unclocked bits k)) (on_line j.action j stand wp input k)))
    where
      real : Cell
      real k x = read_at j stand wp bits (store (memory_of array)) (store (memory_of register)) input k

      computed : Cell
      computed k x = read_at j stand wp bits (told_store array) (told_store register) input k

module _ (low n k : ℕ) (p : low ≤ k) (q : k < low + n) where
  left_out : (from to : ℕ) → apart from to low n ≡ true → (range from to k ≡ false) × (range from to low ≡ false)
  unfolding apart
  left_out from to e = by (leb to low) (leb-true to low) e
    where
      by : (b : Bool) → (b ≡ true → to ≤ low) → (b || leb (low + n) from) ≡ true → (range from to k ≡ false) × (range from to low ≡ false)
      by true h e = let l : to ≤ low = h refl in (range_behind from to k (omega arith), range_behind from to low l)
      by false h e = let l : low + n ≤ from = leb-true (low + n) from e in (range_before from to k (omega arith), range_before from to low (omega arith))

  same_side : (from to : ℕ) → one_side from to low n ≡ true → range from to k ≡ range from to low
  unfolding one_side inside
  same_side from to e = by (apart from to low n) refl e
    where
      by : (b : Bool) → apart from to low n ≡ b → (b || (leb from low && leb (low + n) to)) ≡ true → range from to k ≡ range from to low
      by true a e = (left_out from to a).0 ∙ sym (left_out from to a).1
      by false a e =
          let w : (leb from low ≡ true) × (leb (low + n) to ≡ true) = (and-eq-true_iff (leb from low) (leb (low + n) to)).0 e in
          let l : from ≤ low = leb-true from low w.0 in
          let h : low + n ≤ to = leb-true (low + n) to w.1 in
          range_in from to k (omega arith) (omega arith) ∙ sym (range_in from to low l (omega arith))

  steady_cell : (o : Operation) (x : ℕ) → steady_for o low n ≡ true → cell_of o k x ≡ cell_of o low x
  unfolding over steady_for
  steady_cell none x e = refl
  steady_cell (program size page start sent) x e = rw ((left_out page (page + size) e).0, (left_out page (page + size) e).1)
  steady_cell (erase from to) x e = rw (same_side from to e)

  steady_through : (os : List Operation) (x : ℕ) → steady_operations os low n ≡ true → through os k x ≡ through os low x
  unfolding through steady_operations
  steady_through [] x e = refl
  steady_through (o ∷ os) x e =
      let w : (steady_for o low n ≡ true) × (steady_operations os low n ≡ true) = (and-eq-true_iff (steady_for o low n) (steady_operations os low n)).0 e in
      ap (through os k) (steady_cell o x w.0) ∙ steady_through os (cell_of o low x) w.1

  -- what a piece makes of a byte at a place
  steady_piece_lem : (step from to value x y : ℕ) → steady_piece step from to low n ≡ true → x ≡ y
      → cond (range from to k) ((value + step * (k - from)) % 256) x
      ≡ cond (range from to low) ((value + step * (low - from)) % 256) y
  unfolding steady_piece
  steady_piece_lem zero from to value x y e same =
      rw (zero-mul (k - from), zero-mul (low - from), same_side from to e, same)
  steady_piece_lem (suc step) from to value x y e same = rw ((left_out from to e).0, (left_out from to e).1) same

  steady_painted : (ps : List Piece) (x y : ℕ) → steady_pieces ps low n ≡ true → x ≡ y → painted ps k x
      ≡ painted ps low y
  unfolding painted steady_pieces
  steady_painted [] x y e same = same
  steady_painted (piece ∷ ps) x y e same =
      let w =
      (and-eq-true_iff (steady_piece piece.step piece.from piece.to low n) (steady_pieces ps low n)).0 e in
      steady_piece_lem piece.step piece.from piece.to piece.value (painted ps k x) (painted ps low y) w.0
      (steady_painted ps x y w.1 same)

pub painted_told : (t : Told) (ps : List Piece) → t.content.size ≤ 262144 → agrees t.done ps t.content ≡ true
    → memory_of t ≡ each (painted ps) (content_of t.content)
unfolding memory_of agrees
painted_told t ps fits e =
    applied_each t.done (content_of t.content) ∙
    each_alike (through t.done) (painted ps) (content_of t.content)
    (λ k l.
    let m : k < t.content.size = omega (arith, length-content t.content) in
    rw (get_or-content t.content k m)
    (eqb-true (through t.done k (first k)) (painted ps k (first k))
    (at_each test steady sound 18 0 k e (omega arith) (omega arith))))
  where
    first : ℕ → ℕ
    first k = first_at t.content k

    test : ℕ → Bool
    test k = eqb (through t.done k (first k)) (painted ps k (first k))

    steady : ℕ → ℕ → Bool
    steady low n =
        steady_operations t.done low n && (steady_pieces ps low n && steady_pieces t.content.pieces low n)

    sound : (low n k : ℕ) → steady low n ≡ true → low ≤ k → k < low + n → test k ≡ test low
    sound low n k s p q =
        let w =
        (and-eq-true_iff (steady_operations t.done low n)
        (steady_pieces ps low n && steady_pieces t.content.pieces low n)).0 s in
        let both = (and-eq-true_iff (steady_pieces ps low n) (steady_pieces t.content.pieces low n)).0 w.1 in
        let same : first k ≡ first low =
        steady_painted low n k p q t.content.pieces t.content.holds t.content.holds both.1 refl in
        rw (
          steady_through low n k p q t.done (first k) w.0,
          steady_painted low n k p q ps (first k) (first low) both.0 same,
          same,
        )
