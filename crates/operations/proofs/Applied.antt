-- The laws of a list of operations: joined lists, what becomes of the byte at one place, and which operations may be exchanged or left
-- out. Assumes nothing.
use Prim.Native.Nat.{ℕ, ◌-◌}
use mathlib.Core.Bool.{Bool, true, false, true≢false, false≢true, cond, ◌||◌}
use mathlib.Core.List.{List, [], ◌∷◌, ◌++◌, map}
use mathlib.Core.Path.{◌≡◌, refl, sym, ap, ◌∙◌}
use lib.Bits.{bit_and}
use lib.ListN.{length}
use Rattle.runs.proofs.Laws.{end_joined, kept}
use Rattle.cells.specs.Each.{each, over}
use Rattle.pages.specs.Page.{aimed_at, last}
use Rattle.cells.proofs.Places.{length-each, each_same, each_then}
use Rattle.cells.proofs.Laws.{erase_twice}
use Rattle.pages.proofs.Laws.{programs_commute, program_twice}
use Rattle.operations.specs.Operations.{Operation, none, program, erase, cell_of}
use Rattle.operations.specs.Bytes.{Program, carried, applied, through, erases, erased_in, since, byte_of, bytes_at}
use Rattle.operations.specs.Bytes.{and_all, start_at, program_of}

-- two lists joined: the second on what the first one left
pub applied_joined : (os ps : List Operation) (xs : List ℕ) → applied (os ++ ps) xs ≡ applied ps (applied os xs)
unfolding applied
applied_joined = end_joined carried

pub length-applied : (os : List Operation) (xs : List ℕ) → length (applied os xs) ≡ length xs
unfolding applied
length-applied os xs = kept carried (λ (ys : List ℕ). length ys ≡ length xs) (λ o ys e. length-each (cell_of o) ys ∙ e) os xs refl

pub applied_each : (os : List Operation) (xs : List ℕ) → applied os xs ≡ each (through os) xs
unfolding applied through
applied_each [] xs = each_same xs
applied_each (o ∷ os) xs = applied_each os (each (cell_of o) xs) ∙ each_then (through os) (cell_of o) (through (o ∷ os)) xs (λ k l. refl)

-- an operation that does not erase the place ANDs the byte that it programs there
one_anded : (o : Operation) (k x : ℕ) → erases o k ≡ false → cell_of o k x ≡ and_all x (byte_of o k)
unfolding and_all over
one_anded none k x e = refl
one_anded (program size page start sent) k x e = by (aimed_at size page start sent k) (last size start sent (length sent) (k - page) 0xFF)
  where
    by : (b : Bool) (byte : ℕ) → cond b (bit_and x byte) x ≡ and_all x (cond b (byte ∷ []) [])
    by true byte = refl
    by false byte = refl
one_anded (erase from to) k x e = rw e

-- an erase that covers the place leaves FFh there, whatever was there
one_erased : (o : Operation) (k x : ℕ) → erases o k ≡ true → cell_of o k x ≡ 0xFF
unfolding over
one_erased none k x e = absurd (false≢true e)
one_erased (program size page start sent) k x e = absurd (false≢true e)
one_erased (erase from to) k x e = rw e

-- with no erase of the place among them, the operations AND all that they program there
all_anded : (os : List Operation) (k x : ℕ) → erased_in os k ≡ false → through os k x ≡ and_all x (bytes_at os k)
unfolding erased_in through bytes_at and_all
all_anded [] k x e = refl
all_anded (o ∷ os) k x e = by (erases o k) refl (all_anded os k (cell_of o k x)) e
  where
    by : (b : Bool) → erases o k ≡ b → (erased_in os k ≡ false → through os k (cell_of o k x) ≡ and_all (cell_of o k x) (bytes_at os k)) → (b || erased_in os k) ≡ false
        → through os k (cell_of o k x) ≡ and_all x (byte_of o k ++ bytes_at os k)
    by true h ih e = absurd (true≢false e)
    by false h ih e = ih e ∙ (ap (λ (y : ℕ). and_all y (bytes_at os k)) (one_anded o k x h) ∙ sym (end_joined (λ b x. bit_and x b) (byte_of o k) (bytes_at os k) x))

-- the AND of all bytes programmed at the place since the last erase that covered it, from FFh or from what was there at first
pub since_the_last_erase : (os : List Operation) (k x : ℕ) → through os k x ≡ and_all (start_at os k x) (bytes_at (since os k) k)
unfolding through since erased_in bytes_at and_all
since_the_last_erase [] k x = refl
since_the_last_erase (o ∷ os) k x = by (erases o k) (erased_in os k) refl refl (since_the_last_erase os k (cell_of o k x))
  where
    by : (b c : Bool) → erases o k ≡ b → erased_in os k ≡ c
        → through os k (cell_of o k x) ≡ and_all (cond (erased_in os k) 0xFF (cell_of o k x)) (bytes_at (since os k) k)
        → through os k (cell_of o k x) ≡ and_all (cond (b || c) 0xFF x) (bytes_at (cond (b || c) (since os k) (o ∷ os)) k)
    by true true h g ih = ih ∙ rw g
    by true false h g ih = ih ∙ rw (g, one_erased o k x h)
    by false true h g ih = ih ∙ rw g
    by false false h g ih = all_anded (o ∷ os) k x (rw (h, g))

exchanged : (p q : Program) (xs : List ℕ)
    → each (cell_of (program_of p)) (each (cell_of (program_of q)) xs) ≡ each (cell_of (program_of q)) (each (cell_of (program_of p)) xs)
exchanged p q xs = programs_commute p.size p.page p.start p.sent q.size q.page q.start q.sent xs

-- a program changes places with a list of programs
passes : (ps : List Program) (p : Program) (xs : List ℕ)
    → applied (map program_of ps) (each (cell_of (program_of p)) xs) ≡ each (cell_of (program_of p)) (applied (map program_of ps) xs)
unfolding applied
passes [] p xs = refl
passes (q ∷ ps) p xs = ap (applied (map program_of ps)) (exchanged q p xs) ∙ passes ps p (each (cell_of (program_of q)) xs)

-- a program, a list of operations and another program, one after the other
three : (before between after : List Operation) (p q : Operation) (xs : List ℕ)
    → applied (before ++ p ∷ between ++ q ∷ after) xs ≡ applied after (each (cell_of q) (applied between (each (cell_of p) (applied before xs))))
unfolding applied
three before between after p q xs =
    applied_joined (before ++ p ∷ between) (q ∷ after) xs ∙
    ap (λ (ys : List ℕ). applied after (each (cell_of q) ys)) (applied_joined before (p ∷ between) xs)

-- two programs with nothing but programs between them may change places
pub programs_exchanged : (before after : List Operation) (between : List Program) (p q : Program) (xs : List ℕ)
    → applied (before ++ program_of p ∷ map program_of between ++ program_of q ∷ after) xs
    ≡ applied (before ++ program_of q ∷ map program_of between ++ program_of p ∷ after) xs
programs_exchanged before after between p q xs =
    let ys = applied before xs in
    let ps = map program_of between in
    three before ps after (program_of p) (program_of q) xs ∙
    (ap (applied after)
    (ap (each (cell_of (program_of q))) (passes between p ys) ∙
    (exchanged q p (applied ps ys) ∙ ap (each (cell_of (program_of p))) (sym (passes between q ys)))) ∙
    sym (three before ps after (program_of q) (program_of p) xs))

again : (o : Operation) (xs : List ℕ) → each (cell_of o) (each (cell_of o) xs) ≡ each (cell_of o) xs
again none xs = sym (each_same (each (cell_of none) xs))
again (program size page start sent) xs = program_twice size page start sent xs
again (erase from to) xs = erase_twice from to xs

-- an operation twice in a row is as good as once
pub operation_twice : (before after : List Operation) (o : Operation) (xs : List ℕ) → applied (before ++ o ∷ o ∷ after) xs ≡ applied (before ++ o ∷ after) xs
unfolding applied
operation_twice before after o xs =
    applied_joined before (o ∷ o ∷ after) xs ∙ (ap (applied after) (again o (applied before xs)) ∙ sym (applied_joined before (o ∷ after) xs))
