-- The laws of programs and erases, over any memory and any covered places: programs commute, once is as good as twice, an erase
-- undoes what came before it. That lengths stay and bytes outside are untouched is `length-each` and `untouched` of `Places`.
-- Assumes nothing.
use Prim.Native.Nat.{ℕ, ◌/◌, ◌%◌, min}
use mathlib.Core.Bool.{Bool, true, false}
use mathlib.Core.List.{List}
use mathlib.Core.Path.{◌≡◌, refl, sym, ap, ◌∙◌}
use native.Mathlib.Omega.{arith}
use lib.Arith.{bin_ind}
use lib.Bits.{bit_and, and_step, and_comm, and_self}
use lib.ListN.{get_or}
use Rattle.cells.specs.Each.{Cell, each, over, stored, anded}
use Rattle.cells.specs.Range.{range, erased}
use Rattle.cells.proofs.Places.{each_then, over_in, over_out}

half : (a b : ℕ) → bit_and a b / 2 ≡ bit_and (a / 2) (b / 2)
half a b = omega (arith, and_step a b)

odd : (a b : ℕ) → bit_and a b % 2 ≡ min (a % 2) (b % 2)
odd a b = omega (arith, and_step a b)

pub and_assoc : (a b c : ℕ) → bit_and (bit_and a b) c ≡ bit_and a (bit_and b c)
and_assoc a =
    bin_ind (λ (n : ℕ). (b c : ℕ) → bit_and (bit_and n b) c ≡ bit_and n (bit_and b c)) (λ b c. refl)
    (λ n ih b c.
    omega
    (arith, and_step (bit_and n b) c, and_step n (bit_and b c), ih (b / 2) (c / 2), odd n b, odd b c, ap (λ (h : ℕ). bit_and h (c / 2)) (half n b), ap (bit_and (n / 2)) (half b c)))
    a

exchanged : (x a b : ℕ) → bit_and (bit_and x a) b ≡ bit_and (bit_and x b) a
exchanged x a b = and_assoc x a b ∙ (ap (bit_and x) (and_comm a b) ∙ sym (and_assoc x b a))

-- two programs may change places
pub anded_commute : (c d : ℕ → Bool) (u v : ℕ → ℕ) (xs : List ℕ) → each (anded c u) (each (anded d v) xs) ≡ each (anded d v) (each (anded c u) xs)
unfolding over
anded_commute c d u v xs =
    each_then (anded c u) (anded d v) (λ k x. anded d v k (anded c u k x)) xs (λ k l. by k (get_or xs k 0) (c k) (d k) refl refl) ∙
    sym (each_then (anded d v) (anded c u) (λ k x. anded d v k (anded c u k x)) xs (λ k l. refl))
  where
    by : (k x : ℕ) (s t : Bool) → c k ≡ s → d k ≡ t → anded c u k (anded d v k x) ≡ anded d v k (anded c u k x)
    by k x true true p q = rw (p, q) (exchanged x (v k) (u k))
    by k x true false p q = rw (p, q)
    by k x false true p q = rw (p, q)
    by k x false false p q = rw (p, q)

-- what comes before an operation and stays within its places: of it only what the operation still sees counts
after : (covers : ℕ → Bool) (f g : Cell) (xs : List ℕ) → ((k x : ℕ) → covers k ≡ true → f k (g k x) ≡ f k x) → ((k x : ℕ) → covers k ≡ false → g k x ≡ x)
    → each (over covers f) (each g xs) ≡ each (over covers f) xs
unfolding over
after covers f g xs inside outside = each_then (over covers f) g (over covers f) xs (λ k l. by k (get_or xs k 0) (covers k) refl)
  where
    by : (k x : ℕ) (s : Bool) → covers k ≡ s → over covers f k (g k x) ≡ over covers f k x
    by k x true p = rw p (inside k x p)
    by k x false p = rw p (outside k x p)

-- what does at each place what it does once is the same twice
twice : (covers : ℕ → Bool) (f : Cell) (xs : List ℕ) → ((k x : ℕ) → f k (f k x) ≡ f k x) → each (over covers f) (each (over covers f) xs) ≡ each (over covers f) xs
twice covers f xs h = after covers f (over covers f) xs (λ k x p. ap (f k) (over_in covers f k x p) ∙ h k x) (over_out covers f)

-- a program twice is once
pub anded_twice : (covers : ℕ → Bool) (value : ℕ → ℕ) (xs : List ℕ) → each (anded covers value) (each (anded covers value) xs) ≡ each (anded covers value) xs
anded_twice covers value xs = twice covers (λ k x. bit_and x (value k)) xs (λ k x. and_assoc x (value k) (value k) ∙ ap (bit_and x) (and_self (value k)))

-- an erase twice is once
pub stored_twice : (covers : ℕ → Bool) (value : ℕ → ℕ) (xs : List ℕ) → each (stored covers value) (each (stored covers value) xs) ≡ each (stored covers value) xs
stored_twice covers value xs = twice covers (λ k x. value k) xs (λ k x. refl)

-- an erase undoes what came before it in its range
pub undone : (covers : ℕ → Bool) (value : ℕ → ℕ) (f : Cell) (xs : List ℕ) → ((k x : ℕ) → covers k ≡ false → f k x ≡ x)
    → each (stored covers value) (each f xs) ≡ each (stored covers value) xs
undone covers value f xs h = after covers (λ k x. value k) f xs (λ k x p. refl) h

-- the same of an erase by name
pub erase_twice : (from to : ℕ) (xs : List ℕ) → each (erased from to) (each (erased from to) xs) ≡ each (erased from to) xs
erase_twice from to xs = stored_twice _ _ xs

pub erase_undoes : (from to : ℕ) (f : Cell) (xs : List ℕ) → ((k x : ℕ) → range from to k ≡ false → f k x ≡ x)
    → each (erased from to) (each f xs) ≡ each (erased from to) xs
erase_undoes from to f xs h = undone (range from to) (λ k. 255) f xs h
