-- The laws of programs by name, for pages of any size at any place. Assumes nothing.
use Prim.Native.Nat.{ℕ, ◌+◌, ◌-◌, ◌<◌, ◌≤◌}
use mathlib.Core.List.{List}
use mathlib.Core.Path.{◌≡◌, ap, ◌∙◌}
use native.Mathlib.Nat.{sub-zero}
use native.Mathlib.Omega.{arith}
use borrow.Rule.Slice.PartMut.{put_mid, mid_len}
use lib.ListN.{length, take, drop}
use Rattle.cells.specs.Each.{each, over}
use Rattle.pages.specs.Page.{programmed}
use Rattle.cells.proofs.Laws.{anded_commute, anded_twice}
use Rattle.cells.proofs.Places.{over_out}
use Rattle.cells.proofs.Runs.{range_in, range_before, range_behind, put_each}

-- two of them may change places
pub programs_commute : (size page start : ℕ) (sent : List ℕ) (size' page' start' : ℕ) (sent' xs : List ℕ)
    → each (programmed size page start sent) (each (programmed size' page' start' sent') xs)
    ≡ each (programmed size' page' start' sent') (each (programmed size page start sent) xs)
programs_commute size page start sent size' page' start' sent' xs = anded_commute _ _ _ _ xs

-- and one twice is one once
pub program_twice : (size page start : ℕ) (sent xs : List ℕ)
    → each (programmed size page start sent) (each (programmed size page start sent) xs) ≡ each (programmed size page start sent) xs
program_twice size page start sent xs = anded_twice _ _ xs

-- what it does at an offset of a page it does at that place of the memory
shifted : (size page start : ℕ) (sent : List ℕ) (p k x : ℕ) → p < size → page + p ≡ k
    → programmed size 0 start sent p x ≡ programmed size page start sent k x
unfolding over
shifted size page start sent p k x l e =
    let there : k - page ≡ p = omega arith in
    rw (there, sub-zero p, range_in 0 (0 + size) p (omega arith) (omega arith), range_in page (page + size) k (omega arith) (omega arith))

-- of a page by itself, put back into the memory, is one of that page in the memory
pub put_programmed : (from to size start : ℕ) (sent xs part : List ℕ) → from + size ≡ to → to ≤ length xs
    → part ≡ each (programmed (length {A = ℕ} (take (to - from) (drop from xs))) 0 start sent) (take (to - from) (drop from xs))
    → put_mid from (to - from) xs part ≡ each (programmed size from start sent) xs
put_programmed from to size start sent xs part e q done =
    let n : to - from ≡ size = omega arith in
    let long : length (take (to - from) (drop from xs)) ≡ size = mid_len from to xs q ∙ n in
    ap (put_mid from (to - from) xs) (rw long at done) ∙
    put_each from to (programmed size 0 start sent) (programmed size from start sent) xs (omega arith) q
    (λ k x l m. shifted size from start sent (k - from) k x (omega arith) (omega arith))
    (λ k x l. over_out _ _ k x (rw (range_before from (from + size) k l)))
    (λ k x l. over_out _ _ k x (rw (range_behind from (from + size) k (omega arith))))
