-- Programming: data aims at the offsets of a page, wrapping at its end, and is ANDed into the memory. Said once, over the page's
-- size. Assumes nothing.
use Rattle.std.specs.Prelude.{ℕ, zero, suc, ◌+◌, ◌-◌, ◌%◌, Bool, false, cond, ◌&&◌, ◌||◌, List, eqb, length, get_or}
use Rattle.cells.specs.Each.{Cell, anded}
use Rattle.cells.specs.Range.{range}

-- the i-th data byte, i from 0, aims at the offset p of a page
abbrev pub aims : ℕ → ℕ → ℕ → ℕ → Bool
aims size start i p = eqb ((start + i) % size) p

-- one of the first n data bytes aims at p
unfoldable pub covered : ℕ → ℕ → ℕ → ℕ → Bool
covered size start zero p = false
covered size start (suc n) p = aims size start n p || covered size start n p

-- the last of the first n data bytes that aims at p, or x if none does
unfoldable pub last : ℕ → ℕ → List ℕ → ℕ → ℕ → ℕ → ℕ
last size start sent zero p x = x
last size start sent (suc n) p x = cond (aims size start n p) (get_or sent n 0) (last size start sent n p x)

-- a page buffer receives the data: a later byte replaces an earlier one
abbrev pub loaded : ℕ → ℕ → List ℕ → Cell
loaded size start sent = last size start sent (length sent)

-- a buffer is ANDed into the memory from `at` on
abbrev pub anded_in : ℕ → List ℕ → Cell
anded_in at buffer = anded (range at (at + length buffer)) (λ k. get_or buffer (k - at) 0)

-- the places that a program covers: those of its page that a data byte aims at
abbrev pub aimed_at : ℕ → ℕ → ℕ → List ℕ → ℕ → Bool
aimed_at size page start sent k = range page (page + size) k && covered size start (length sent) (k - page)

-- a program: each place that it covers is ANDed with the last data byte that aims at it
abbrev pub programmed : ℕ → ℕ → ℕ → List ℕ → Cell
programmed size page start sent = anded (aimed_at size page start sent) (λ k. last size start sent (length sent) (k - page) 0xFF)
